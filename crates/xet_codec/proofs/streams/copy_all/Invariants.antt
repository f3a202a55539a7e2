use Rattle.std.proofs.Common.{◌≡◌, ◌≤◌, ◌-◌, ◌^◌, ◌++◌, ℕ, List, length, true}
use Rattle.xet_codec.proofs.streams.copy_all.Given as goal

abbrev pub invariant-reads : goal.invariant-reads
invariant-reads g l = record {
  room : l.total ≤ 2 ^ 63;
  copied : g.R.Source.tells l.fn.r ≡ true → (taken : List ℕ) × (l.total ≡ length taken) × (g.R.Source.left l.fn.r ≡ taken ++ g.R.Source.left l.r)
      × (g.W.Sink.tells l.fn.w ≡ true → g.W.Sink.written l.w ≡ g.W.Sink.written l.fn.w ++ taken);
  source_tells : g.R.Source.tells l.r ≡ g.R.Source.tells l.fn.r;
  sink_tells : g.W.Sink.tells l.w ≡ g.W.Sink.tells l.fn.w;
  source_later : g.R.Source.faults l.fn.r ≤ g.R.Source.faults l.r;
  sink_later : g.W.Sink.faults l.fn.w ≤ g.W.Sink.faults l.w;
}

abbrev pub decreases-reads : goal.decreases-reads
decreases-reads g l = 2 ^ 63 - l.total
