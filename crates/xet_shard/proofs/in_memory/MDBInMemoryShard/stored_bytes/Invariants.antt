use Rattle.std.proofs.Common.{◌≡◌, ◌+◌, ◌*◌, ◌≤◌, ◌^◌, length}
use Rattle.xet_shard_format.specs.Records.{xorb_section}
use Rattle.xet_shard_format.specs.Encoding.{stored}
use Rattle.xet_shard.proofs.in_memory.MDBInMemoryShard.stored_bytes.Given as goal

abbrev pub invariant-loop-block : goal.invariant-loop-block
invariant-loop-block l = record {
  total : l.total + stored l.block-iterator ≡ stored l.self.blocks;
  small : l.total + 2 ^ 32 * length (xorb_section l.block-iterator) ≤ 2 ^ 32 * length (xorb_section l.self.blocks);
}
