use Rattle.std.proofs.Common.{◌≡◌, length}
use Rattle.std.specs.Vec.Iter.{into_iter_items, into_iter_len}
use Rattle.xet_shard_format.specs.Records.{IsXorb, xorb_record_hash}
use Rattle.xet_shard_merge.specs.Groups.{both}
use Rattle.xet_shard_merge.specs.internal.Grouping.{AreOwn}
use Rattle.xet_shard_merge.proofs.adding.add_blocks.Given as goal

abbrev pub invariant-loop-block : goal.invariant-loop-block
invariant-loop-block l =
    record {
      so_far : both xorb_record_hash l.shard.blocks (into_iter_items l.block-iterator) ≡ both xorb_record_hash l.fn.shard.blocks l.fn.blocks.items;
      others : l.shard.files ≡ l.fn.shard.files;
      own : AreOwn xorb_record_hash IsXorb (into_iter_items l.block-iterator);
      counted : into_iter_len l.block-iterator ≡ length (into_iter_items l.block-iterator);
    }
