use Rattle.std.proofs.Common.{◌≡◌, ◌≤◌, ◌-◌, ◌++◌, ℕ, List, true, drop, length}
use Rattle.std.specs.List.{concat}
use Rattle.xet_xorb_chunk.specs.Decoder.{Forwards}
use Rattle.xet_xorb_chunk.proofs.decoder.Tally.pass_whole.Given as goal

abbrev pub invariant-chunks : goal.invariant-chunks
invariant-chunks g l = record {
  within : l.at ≤ length l.piece;
  passed : (chunks : List (List ℕ)) × Forwards l.max_chunk l.fn.self l.self l.piece (drop l.at l.piece) chunks
      × (g.W.Sink.tells l.fn.w ≡ true → g.W.Sink.written l.w ≡ g.W.Sink.written l.fn.w ++ concat chunks);
  tells : g.W.Sink.tells l.w ≡ g.W.Sink.tells l.fn.w;
  later : g.W.Sink.faults l.fn.w ≤ g.W.Sink.faults l.w;
}

abbrev pub decreases-chunks : goal.decreases-chunks
decreases-chunks g l = length l.piece - l.at
