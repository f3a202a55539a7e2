use Rattle.std.proofs.Common.{◌≡◌, ◌+◌, ◌++◌, drop}
use Rattle.xet_hash.specs.Merkle.{total_len}
use Rattle.xet_xorb.specs.Raw.{entries_from}
use Rattle.xet_xorb.proofs.raw.xorb_record.Given as goal

abbrev pub invariant-loop-chunk : goal.invariant-loop-chunk
invariant-loop-chunk l = record {
  entries : l.entries.items ++ entries_from l.start (drop l.chunk-index l.leaves) ≡ entries_from 0 l.leaves;
  start : l.start + total_len (drop l.chunk-index l.leaves) ≡ total_len l.leaves;
}
