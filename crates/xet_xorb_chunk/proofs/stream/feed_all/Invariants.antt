use Rattle.std.proofs.Common.{◌≡◌, ◌≤◌, ◌-◌, ◌^◌, ◌++◌, ℕ, List, true}
use Rattle.std.specs.List.{concat}
use Rattle.xet_xorb_chunk.specs.Decoder.{WasFed, fed_len, max_chunk_of, is_intact}
use Rattle.xet_xorb_chunk.proofs.stream.feed_all.Given as goal

abbrev pub invariant-reads : goal.invariant-reads
invariant-reads g l = record {
  whole : is_intact l.decoder ≡ true;
  max_chunk : max_chunk_of l.decoder ≡ max_chunk_of l.fn.decoder;
  room : fed_len l.decoder ≤ 2 ^ 63;
  held : (fed : List ℕ) × (chunks : List (List ℕ)) × WasFed l.decoder fed chunks
      × (g.R.Source.tells l.fn.r ≡ true → g.R.Source.left l.fn.r ≡ fed ++ g.R.Source.left l.r)
      × (g.W.Sink.tells l.fn.w ≡ true → g.W.Sink.written l.w ≡ g.W.Sink.written l.fn.w ++ concat chunks);
  source_tells : g.R.Source.tells l.r ≡ g.R.Source.tells l.fn.r;
  sink_tells : g.W.Sink.tells l.w ≡ g.W.Sink.tells l.fn.w;
  source_later : g.R.Source.faults l.fn.r ≤ g.R.Source.faults l.r;
  sink_later : g.W.Sink.faults l.fn.w ≤ g.W.Sink.faults l.w;
}

abbrev pub decreases-reads : goal.decreases-reads
decreases-reads g l = 2 ^ 63 - fed_len l.decoder
