use Rattle.std.proofs.Common.{◌≡◌, ◌≤◌, ◌-◌, ◌+◌, ◌++◌, ℕ, List, true, length, slice_range}
use Rattle.std.specs.List.{concat}
use Rattle.xet_xorb_chunk.specs.Decoder.{WasFed, fed_len, max_chunk_of, is_intact}
use Rattle.xet_xorb.proofs.ranges.feed_between.Given as goal
use Rattle.xet_io.specs.Lent.{IsSameLent}

abbrev pub invariant-reads : goal.invariant-reads
invariant-reads g l = record {
  whole : is_intact l.decoder ≡ true;
  max_chunk : max_chunk_of l.decoder ≡ max_chunk_of l.fn.decoder;
  after : l.fn.from ≤ l.at;
  within : l.at ≤ l.fn.to;
  count : fed_len l.decoder + l.fn.from ≡ l.at;
  held : (fed : List ℕ) × (chunks : List (List ℕ)) × WasFed l.decoder fed chunks
      × (g.R.ReadAt.tells l.fn.reader ≡ true → l.fn.to ≤ length (g.R.ReadAt.bytes l.fn.reader) → fed ≡ slice_range (g.R.ReadAt.bytes l.fn.reader) l.fn.from l.at)
      × (g.W.Sink.tells l.fn.w ≡ true → g.W.Sink.written l.w ≡ g.W.Sink.written l.fn.w ++ concat chunks);
  same : g.R.ReadAt.bytes l.reader ≡ g.R.ReadAt.bytes l.fn.reader;
  reader_tells : g.R.ReadAt.tells l.reader ≡ g.R.ReadAt.tells l.fn.reader;
  sink_tells : g.W.Sink.tells l.w ≡ g.W.Sink.tells l.fn.w;
  reader_later : g.R.ReadAt.faults l.fn.reader ≤ g.R.ReadAt.faults l.reader;
  lent : IsSameLent (g.R.ReadAt.lent l.fn.reader) (g.R.ReadAt.lent l.reader);
  sink_later : g.W.Sink.faults l.fn.w ≤ g.W.Sink.faults l.w;
}

abbrev pub decreases-reads : goal.decreases-reads
decreases-reads g l = l.fn.to - l.at
