-- The order in which shards are merged, and the result of merging those that were read.
use Rattle.std.specs.Prelude.{◌≡◌, ℕ, Bool, false, List, None, IsOk}
use Rattle.std.specs.Cmp.Lexicographic.{slice_cmp}
use Rattle.std.specs.List.{AllByRecursion}
use Rattle.std.specs.Ordering.{nat_cmp, ordering_then}
use Rattle.std.specs.declared.cmp.Ordering.{Ordering}
use Rattle.xet_io.specs.Disk.{Files}
use Rattle.xet_shard_directory.specs.declared.shard_file.MDBShardFile.{MDBShardFile}
use Rattle.xet_shard_merge.specs.Groups.{Group, Groups, Offered}
use Rattle.xet_shard_merge.specs.Merging.{AddsResults, AreResults, obsolete_of}
use Rattle.xet_shard_merge.specs.declared.merge.ShardMergeResult.{ShardMergeResult}

-- an older modification time comes first; equal ones are ordered by path
abbrev pub merge_order : MDBShardFile → MDBShardFile → Ordering
merge_order a b = ordering_then (nat_cmp a.last_modified_time b.last_modified_time) (slice_cmp nat_cmp a.path b.path)

-- The shards that were offered were merged.
pub record MergedAll (old new : Files) (folder : List ℕ) (limit : ℕ) (skip : Bool) (offered : List Offered) (r : ShardMergeResult) : Type 0 where
  pub groups : List Group
  pub grouped : Groups limit None offered groups r.skipped_shards.items
  pub results : AreResults old new folder groups r.merged_shards.items
  pub obsolete : r.obsolete_shards.items ≡ obsolete_of groups r.merged_shards.items
  pub adds : AddsResults old new r.merged_shards.items
  pub reads : skip ≡ false → AllByRecursion (λ o. IsOk o.records) offered
