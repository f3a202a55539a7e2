-- What merging the shards of a directory leaves.
use Rattle.std.specs.Prelude.{◌≡◌, ◌≢◌, ◌⊎◌, ◌^◌, ◌<◌, ℕ, nat_eq, Bool, true, false, not, List, [], ◌∷◌, ◌++◌, filter, flat_map, length, map, min, take, Some, None, Ok, Err, IsOk, IsSome, All, AllPairs, Any}
use Rattle.std.specs.Cmp.Lexicographic.{pointwise}
use Rattle.xet_io.specs.Disk.{entry_at as get}
use Rattle.std.specs.List.{list_any}
use Rattle.std.specs.List.Sorted.{IsPermutation}
use Rattle.xet_hash.specs.Merkle.{chunk_hash}
use Rattle.xet_hash.specs.declared.error.StoreError.{StoreError}
use Rattle.xet_hash.specs.declared.error.StoreError.TheVariants.{FileNotFound, MalformedData, UnexpectedEof}
use Rattle.xet_io.specs.Disk.{File, Files, bytes_at, file_at}
use Rattle.xet_shard.specs.Held.{held_shard}
use Rattle.xet_shard.specs.Union.{records_in}
use Rattle.xet_shard_directory.specs.Directories.{IsBeforeByPath, ReadsPath, all_removed, is_valid, paths}
use Rattle.xet_shard_directory.specs.Values.{last_part, loaded}
use Rattle.xet_shard_directory.specs.Writing.{durable_at, path_of}
use Rattle.xet_shard_directory.specs.declared.shard_file.MDBShardFile.{MDBShardFile}
use Rattle.xet_shard_file.specs.Names.{IsHash, shard_path, temp_name}
use Rattle.xet_shard_format.specs.Encoding.{Fits, IsShard, Shard, full_shard_bytes}
use Rattle.xet_shard_format.specs.Names.{shard_name}
use Rattle.xet_shard_merge.specs.Groups.{AreTakenFrom, Group, Groups, Offered}
use Rattle.xet_shard_merge.specs.declared.merge.ShardMergeResult.{ShardMergeResult}

-- ---- the order in which shards are offered

-- an older modification time comes first; equal ones are ordered by path
abbrev pub IsEarlier : MDBShardFile → MDBShardFile → Type 0
IsEarlier a b = (a.last_modified_time < b.last_modified_time) ⊎ ((a.last_modified_time ≡ b.last_modified_time) × IsBeforeByPath a b)

-- the length and the records are those of the file
pub record IsOfFile (files : Files) (o : Offered) : Type 0 where
  pub bytes : List ℕ
  pub there : bytes_at files o.file.path ≡ Some bytes
  pub length_is : o.length ≡ length bytes
  pub records_are : o.records ≡ records_in o.file.shard.metadata bytes

-- The valid shards of a path, the oldest first.
pub record Offers (files : Files) (path : List ℕ) (now : ℕ) (offered : List Offered) : Type 0 where
  pub read : List MDBShardFile
  pub reads : ReadsPath files path read
  pub valid : IsPermutation (filter (is_valid now) read) (map (λ o. o.file) offered)
  pub order : AllPairs IsEarlier (map (λ o. o.file) offered)
  pub whole : All (IsOfFile files) offered

-- ---- results

-- a shard file with these bytes, durable under the name of their digest; the value is that of the file
pub record Stands (files : Files) (folder bytes : List ℕ) (s : MDBShardFile) : Type 0 where
  pub hash : s.shard_hash ≡ chunk_hash bytes
  pub path : s.path ≡ path_of folder bytes
  pub there : bytes_at files s.path ≡ Some bytes
  pub durable : durable_at files s.path ≡ Some true
  pub value : loaded files s.shard_hash s.path ≡ Ok s

-- A shard is in a folder already, or the path of its own file was passed as the folder.
abbrev pub IsHome : List ℕ → MDBShardFile → Type 0
IsHome folder s = (s.path ≡ shard_path folder s.shard_hash) ⊎ (s.path ≡ folder)

-- One shard alone is its own result. It is copied, unless it is home.
abbrev pub IsCopy : Files → Files → List ℕ → MDBShardFile → MDBShardFile → Type 0
IsCopy old new folder s result =
    (IsHome folder s × (result ≡ s))
    ⊎ ((IsHome folder s → ⊥) × (bytes : List ℕ) × (bytes_at old s.path ≡ Some bytes) × Stands new folder bytes result)

-- the shard of a group of several: it has the records of all, was created at the latest of their times, and does not expire
abbrev pub merged_shard : Group → Shard
merged_shard g = held_shard g.records g.creation None

-- the bytes are the full encoding of that shard, which is well formed
pub record IsMergedEncoding (g : Group) (bytes : List ℕ) : Type 0 where
  pub shard : IsShard (merged_shard g)
  pub fits : Fits (merged_shard g)
  pub encoding : bytes ≡ full_shard_bytes (merged_shard g)

-- Several shards become that one.
pub record IsMerged (new : Files) (folder : List ℕ) (g : Group) (result : MDBShardFile) : Type 0 where
  pub bytes : List ℕ
  pub form : IsMergedEncoding g bytes
  pub stands : Stands new folder bytes result

abbrev pub IsResult : Files → Files → List ℕ → Group → MDBShardFile → Type 0
IsResult old new folder g result = elim g.taken [
  | [] ↦ ⊥
  | s ∷ [] ↦ IsCopy old new folder s result
  | s ∷ t ∷ more ↦ IsMerged new folder g result
]

unfoldable pub AreResults : Files → Files → List ℕ → List Group → List MDBShardFile → Type 0
AreResults old new folder [] [] = Unit {0}
AreResults old new folder (g ∷ gs) (r ∷ rs) = IsResult old new folder g r × AreResults old new folder gs rs
AreResults old new folder groups results = ⊥

-- the shards that were taken and whose file is no result's
abbrev pub obsolete_of : List Group → List MDBShardFile → List MDBShardFile
obsolete_of groups results = filter (λ s. not (list_any (λ r. pointwise nat_eq r.path s.path) results)) (flat_map (λ g. g.taken) groups)

-- the `max_size` that counts: 2^36 at most
abbrev pub target_of : ℕ → ℕ
target_of max_size = min max_size (2 ^ 36)

-- The valid shards of `source` were merged into the folder `target`. Unless errors are skipped, each of them was read.
pub record Merges (old new : Files) (source target : List ℕ) (max_size : ℕ) (skip : Bool) (now : ℕ) (r : ShardMergeResult) : Type 0 where
  pub offered : List Offered
  pub groups : List Group
  pub offers : Offers old source now offered
  pub grouped : Groups (target_of max_size) None offered groups r.skipped_shards.items
  pub results : AreResults old new target groups r.merged_shards.items
  pub obsolete : r.obsolete_shards.items ≡ obsolete_of groups r.merged_shards.items
  pub strict : skip ≡ false → All (λ o. IsOk o.records) offered

-- ---- other files

-- no temporary name
abbrev pub IsNoTemp : List ℕ → Type 0
IsNoTemp name = (p : List ℕ) → name ≢ temp_name p

-- Every file that was there has its bytes and its modification time; temporary files may be gone or have changed.
abbrev pub KeepsFiles : Files → Files → Type 0
KeepsFiles old new = (name : List ℕ) (f : File) → IsNoTemp name → file_at old name ≡ Some f → file_at new name ≡ Some f

-- A file that is new is a result's, or a temporary one.
abbrev pub AddsResults : Files → Files → List MDBShardFile → Type 0
AddsResults old new results = (name : List ℕ) → IsNoTemp name → file_at old name ≡ None → IsSome (file_at new name) → Any (λ r. r.path ≡ name) results

-- ---- what was written

-- The bytes of the result of a group, if it is due to be written: those of one shard that is not home, or the full
-- encoding of the records of several.
abbrev pub IsDue : Files → List ℕ → Group → List ℕ → Type 0
IsDue files folder g bytes = elim g.taken [
  | [] ↦ ⊥
  | s ∷ [] ↦ (IsHome folder s → ⊥) × (bytes_at files s.path ≡ Some bytes)
  | s ∷ t ∷ more ↦ IsMergedEncoding g bytes
]

-- The name is that of the shard file with these bytes, which is whole and durable; or it is the temporary one beside it.
abbrev pub IsPlaced : Files → List ℕ → List ℕ → List ℕ → Type 0
IsPlaced new folder bytes name =
    ((name ≡ path_of folder bytes) × (bytes_at new name ≡ Some bytes) × (durable_at new name ≡ Some true))
    ⊎ (name ≡ temp_name (path_of folder bytes))

-- Every name has the entry that it had, unless bytes that are due were written there.
abbrev pub WritesOnly : Files → Files → List ℕ → (List ℕ → Type 0) → Type 0
WritesOnly old new folder Due = (name : List ℕ) → (get new name ≡ get old name) ⊎ ((bytes : List ℕ) × Due bytes × IsPlaced new folder bytes name)

-- Of the results of these groups some first ones were written, each whole and durable; else nothing has changed but the
-- temporary files beside them. Their groups took only shards that come before any that can't be read, unless errors are
-- skipped.
pub record WritesFirst (old new : Files) (folder : List ℕ) (skip : Bool) (offered : List Offered) (groups : List Group) : Type 0 where
  pub before : List Offered
  pub after : List Offered
  pub parts : offered ≡ before ++ after
  pub strict : skip ≡ false → All (λ o. IsOk o.records) before
  pub written : List Group
  pub more : List Group
  pub first : groups ≡ written ++ more
  pub inside : AreTakenFrom before written
  pub writes : WritesOnly old new folder (λ bytes. Any (λ g. IsDue old folder g bytes) written)

-- Of the results of merging the valid shards of `source` some first ones were written.
pub record MayMerge (old new : Files) (source target : List ℕ) (max_size : ℕ) (skip : Bool) (now : ℕ) : Type 0 where
  pub offered : List Offered
  pub offers : Offers old source now offered
  pub groups : List Group
  pub skipped : List MDBShardFile
  pub grouped : Groups (target_of max_size) None offered groups skipped
  pub writes : WritesFirst old new target skip offered groups

-- What a merge has done, also after an error: nothing, or some first results were written.
abbrev pub KeptOrMerged : Files → Files → List ℕ → List ℕ → ℕ → Bool → ℕ → Type 0
KeptOrMerged old new source target max_size skip now = (new ≡ old) ⊎ MayMerge old new source target max_size skip now

-- The valid shards of a folder were merged within it. Nothing else was written, and nothing was removed.
pub record MergesWithin (old new : Files) (folder : List ℕ) (max_size : ℕ) (skip : Bool) (now : ℕ) (merge : ShardMergeResult) : Type 0 where
  pub merges : Merges old new folder folder max_size skip now merge
  pub keeps : KeepsFiles old new
  pub adds : AddsResults old new merge.merged_shards.items
  pub writes : KeptOrMerged old new folder folder max_size skip now

-- Shards were merged within a folder, and then the obsolete ones were removed.
pub record Consolidates (old new : Files) (folder : List ℕ) (max_size : ℕ) (skip : Bool) (now : ℕ) (results : List MDBShardFile) : Type 0 where
  pub between : Files
  pub merge : ShardMergeResult
  pub merges : MergesWithin old between folder max_size skip now merge
  pub removes : new ≡ all_removed between (paths merge.obsolete_shards.items)
  pub merged : results ≡ merge.merged_shards.items

-- After an error no file was removed, and some first results were written; or the shards were merged, so that all results
-- are there, and some of the obsolete ones were removed, the first ones.
abbrev pub KeptOrConsolidated : Files → Files → List ℕ → ℕ → Bool → ℕ → Type 0
KeptOrConsolidated old new folder max_size skip now =
    (KeepsFiles old new × KeptOrMerged old new folder folder max_size skip now)
    ⊎ ((between : Files) × (merge : ShardMergeResult) × (n : ℕ) × MergesWithin old between folder max_size skip now merge
    × (new ≡ all_removed between (take n (paths merge.obsolete_shards.items))))

-- ---- errors

-- a valid shard can't be read, and this is why
pub record OneIsUnread (files : Files) (path : List ℕ) (now : ℕ) (e : StoreError) : Type 0 where
  pub offered : List Offered
  pub offers : Offers files path now offered
  pub fails : Any (λ o. o.records ≡ Err e) offered

-- Why nothing was merged: a path that names a shard is absent, or, unless errors are skipped, a valid shard can't be read;
-- else the disk failed, or memory was out.
abbrev pub IsUnmerged : Files → List ℕ → Bool → ℕ → StoreError → Type 0
IsUnmerged files path skip now FileNotFound = (h : List ℕ) × IsHash h × (last_part path ≡ shard_name h) × (file_at files path ≡ None)
IsUnmerged files path skip now UnexpectedEof = (skip ≡ false) × OneIsUnread files path now UnexpectedEof
IsUnmerged files path skip now (MalformedData reason) = (skip ≡ false) × OneIsUnread files path now (MalformedData reason)
IsUnmerged files path skip now e = Unit {0}
