use Rattle.std.proofs.Common.{drop}
use Rattle.std.specs.List.{AllByRecursion}
use Rattle.xet_shard_format.specs.Records.{file_record_hash}
use Rattle.xet_shard_merge.specs.internal.Grouping.{IsSameIf}
use Rattle.xet_shard_merge.proofs.adding.files_agree.Given as goal

abbrev pub invariant-loop-file : goal.invariant-loop-file
invariant-loop-file l =
    record {
      so_far : AllByRecursion (IsSameIf file_record_hash l.shard.files) (drop l.file-index l.files) → AllByRecursion (IsSameIf file_record_hash l.shard.files) l.files;
      others : AllByRecursion (IsSameIf file_record_hash l.shard.files) l.files → AllByRecursion (IsSameIf file_record_hash l.shard.files) (drop l.file-index l.files);
    }
