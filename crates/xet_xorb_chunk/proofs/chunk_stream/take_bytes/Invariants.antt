use Rattle.std.proofs.Common.{◌≡◌, ◌≤◌, ◌-◌, ◌++◌, true, vec_len}
use Rattle.xet_xorb_chunk.proofs.chunk_stream.take_bytes.Given as goal

abbrev pub invariant-reads : goal.invariant-reads
invariant-reads g l = record {
  within : vec_len l.bytes ≤ l.wanted;
  read : g.R.Source.tells l.fn.r ≡ true → g.R.Source.left l.fn.r ≡ l.bytes.items ++ g.R.Source.left l.r;
  tells : g.R.Source.tells l.r ≡ g.R.Source.tells l.fn.r;
  later : g.R.Source.faults l.fn.r ≤ g.R.Source.faults l.r;
}

abbrev pub decreases-reads : goal.decreases-reads
decreases-reads g l = l.wanted - vec_len l.bytes
