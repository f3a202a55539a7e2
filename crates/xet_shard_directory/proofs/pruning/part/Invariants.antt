use Rattle.std.proofs.Common.{◌≡◌, ◌++◌, filter, length}
use Rattle.std.specs.Vec.Iter.{into_iter_items, into_iter_len}
use Rattle.xet_shard_directory.specs.Directories.{is_deleted, is_loaded}
use Rattle.xet_shard_directory.proofs.pruning.part.Given as goal

abbrev pub invariant-loop-shard : goal.invariant-loop-shard
invariant-loop-shard l =
    let loaded = is_loaded l.load_expired l.now in
    let deleted = is_deleted l.prune_expired l.load_expired l.buffer l.now in
    record {
      kept : l.kept.items ++ filter loaded (into_iter_items l.shard-iterator) ≡ filter loaded (into_iter_items l.initial.shard-iterator);
      removed : l.removed.items ++ filter deleted (into_iter_items l.shard-iterator) ≡ filter deleted (into_iter_items l.initial.shard-iterator);
      left : into_iter_len l.shard-iterator ≡ length (into_iter_items l.shard-iterator);
    }
