use Rattle.std.proofs.Common.{◌≡◌}
use Rattle.xet_shard.specs.Export.{keyed_block}
use Rattle.xet_shard.proofs.Keying.{changed}
use Rattle.xet_shard.proofs.export.key_blocks.Given as goal

abbrev pub invariant-loop-block : goal.invariant-loop-block
invariant-loop-block l = l.blocks ≡ changed (keyed_block l.key) l.block-index l.fn.blocks
