use Rattle.std.proofs.Common.{◌≡◌, ◌≤◌, List, length, map, true, Err}
use Rattle.std.specs.List.{All, Any}
use Rattle.std.specs.Vec.Iter.{into_iter_items, into_iter_len}
use Rattle.xet_hash.specs.declared.error.StoreError.{StoreError}
use Rattle.xet_io.specs.Disk.{Files}
use Rattle.xet_shard_merge.specs.Groups.{Offered}
use Rattle.xet_shard_merge.specs.internal.Keeping.{IsIntact, Preserves}
use Rattle.xet_shard_merge.specs.internal.Progressing.{Went, offered_of}
use Rattle.xet_shard_merge.proofs.taking.take_all.Given as goal

abbrev pub invariant-loop-shard : goal.invariant-loop-shard
invariant-loop-shard g l =
    record {
      tells : g.D.Disk.tells l.disk ≡ g.D.Disk.tells l.fn.disk;
      later : g.D.Disk.faults l.fn.disk ≤ g.D.Disk.faults l.disk;
      keeps : g.D.Disk.tells l.fn.disk ≡ true → Preserves (g.D.Disk.files l.fn.disk) (g.D.Disk.files l.disk);
      counted : into_iter_len l.shard-iterator ≡ length (into_iter_items l.shard-iterator);
      among : (start : Files) (e : StoreError) → Any (λ o. o.records ≡ Err e) (map (offered_of start) (into_iter_items l.shard-iterator)) → Any (λ o. o.records ≡ Err e) (map (offered_of start) l.fn.shards.items);
      went : g.D.Disk.tells l.fn.disk ≡ true → (start : Files) (all : List Offered) → All (IsIntact start) l.fn.shards.items
          → Went start (g.D.Disk.files l.fn.disk) l.target l.limit l.skip_on_error all (map (offered_of start) l.fn.shards.items) l.fn.progress
          → Went start (g.D.Disk.files l.disk) l.target l.limit l.skip_on_error all (map (offered_of start) (into_iter_items l.shard-iterator)) l.progress
          × All (IsIntact start) (into_iter_items l.shard-iterator);
    }
