use Rattle.std.proofs.Common.{◌≡◌, ◌+◌, ◌++◌, drop, length}
use Rattle.xet_shard_format.specs.Records.{xorb_section}
use Rattle.xet_shard.specs.Sections.{heads_of}
use Rattle.xet_shard.proofs.reader.lookup_items.heads_of.Given as goal

abbrev pub invariant-loop-block : goal.invariant-loop-block
invariant-loop-block l = record {
  row : l.row + length (xorb_section (drop l.block-index l.blocks)) ≡ length (xorb_section l.blocks);
  so_far : l.found.items ++ heads_of l.row (drop l.block-index l.blocks) ≡ heads_of 0 l.blocks;
}
