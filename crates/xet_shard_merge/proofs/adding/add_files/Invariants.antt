use Rattle.std.proofs.Common.{◌≡◌, length}
use Rattle.std.specs.Vec.Iter.{into_iter_items, into_iter_len}
use Rattle.xet_shard_format.specs.Records.{IsFile, file_record_hash}
use Rattle.xet_shard_merge.specs.Groups.{both}
use Rattle.xet_shard_merge.specs.internal.Grouping.{AreOwn}
use Rattle.xet_shard_merge.proofs.adding.add_files.Given as goal

abbrev pub invariant-loop-file : goal.invariant-loop-file
invariant-loop-file l =
    record {
      so_far : both file_record_hash l.shard.files (into_iter_items l.file-iterator) ≡ both file_record_hash l.fn.shard.files l.fn.files.items;
      others : l.shard.blocks ≡ l.fn.shard.blocks;
      own : AreOwn file_record_hash IsFile (into_iter_items l.file-iterator);
      counted : into_iter_len l.file-iterator ≡ length (into_iter_items l.file-iterator);
    }
