use Rattle.std.proofs.Common.{drop}
use Rattle.std.specs.List.{AllByRecursion}
use Rattle.xet_shard_format.specs.Records.{xorb_record_hash}
use Rattle.xet_shard_merge.specs.internal.Grouping.{IsSameIf}
use Rattle.xet_shard_merge.proofs.adding.blocks_agree.Given as goal

abbrev pub invariant-loop-block : goal.invariant-loop-block
invariant-loop-block l =
    record {
      so_far : AllByRecursion (IsSameIf xorb_record_hash l.shard.blocks) (drop l.block-index l.blocks) → AllByRecursion (IsSameIf xorb_record_hash l.shard.blocks) l.blocks;
      others : AllByRecursion (IsSameIf xorb_record_hash l.shard.blocks) l.blocks → AllByRecursion (IsSameIf xorb_record_hash l.shard.blocks) (drop l.block-index l.blocks);
    }
