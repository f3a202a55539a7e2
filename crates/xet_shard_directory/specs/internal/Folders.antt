-- What is read of each shard file of a folder, the orders by which shard files are sorted, and what is to be removed.
use Rattle.std.specs.Prelude.{◌≡◌, ◌++◌, ℕ, Bool, true, false, List, [], ◌∷◌, filter, IsOk, IsSome, Option, Some, None, Result, Ok, Err}
use Rattle.std.specs.Cmp.Lexicographic.{slice_cmp}
use Rattle.std.specs.Ordering.{nat_cmp, ordering_then}
use Rattle.std.specs.declared.cmp.Ordering.{Ordering}
use Rattle.xet_hash.specs.declared.error.StoreError.{StoreError}
use Rattle.xet_hash.specs.declared.error.StoreError.TheVariants.{FileNotFound, MalformedData, UnexpectedEof}
use Rattle.xet_io.specs.Disk.{Files, file_at}
use Rattle.xet_shard_directory.specs.Directories.{Prunes, is_deleted, is_loaded}
use Rattle.xet_shard_directory.specs.Values.{loaded}
use Rattle.xet_shard_directory.specs.declared.shard_file.MDBShardFile.{MDBShardFile}
use Rattle.xet_shard_file.specs.declared.listing.ShardEntry.{ShardEntry}
use Rattle.xet_shard_file.specs.Names.{IsHash, shard_path}

-- ---- reading

-- where errors are skipped, a malformed shard file is passed over
abbrev pub unless_skipped : Bool → Result MDBShardFile StoreError → Result (Option MDBShardFile) StoreError
unless_skipped skip (Ok s) = Ok (Some s)
unless_skipped true (Err UnexpectedEof) = Ok None
unless_skipped true (Err (MalformedData reason)) = Ok None
unless_skipped skip (Err e) = Err e

-- a file that has vanished since it was listed is passed over
abbrev pub unless_vanished : Result (Option MDBShardFile) StoreError → Result (Option MDBShardFile) StoreError
unless_vanished (Err FileNotFound) = Ok None
unless_vanished answer = answer

-- the shard that was read of a file, or none
abbrev pub shard_in : Result MDBShardFile StoreError → List MDBShardFile
shard_in (Ok s) = s ∷ []
shard_in (Err e) = []

-- what is read of a listed file
abbrev pub listed : Files → List ℕ → ShardEntry → Result MDBShardFile StoreError
listed files folder e = loaded files e.hash (shard_path folder e.hash)

abbrev pub listed_shard : Files → List ℕ → ShardEntry → List MDBShardFile
listed_shard files folder e = shard_in (listed files folder e)

-- a listed file that is there is read
abbrev pub IsListedRead : Files → List ℕ → ShardEntry → Type 0
IsListedRead files folder e = IsSome (file_at files (shard_path folder e.hash)) → IsOk (listed files folder e)

-- why a file was not read, unless the disk failed or memory was out
abbrev pub IsUnread : Bool → Result MDBShardFile StoreError → StoreError → Type 0
IsUnread skip read FileNotFound = read ≡ Err FileNotFound
IsUnread skip read UnexpectedEof = (skip ≡ false) × (read ≡ Err UnexpectedEof)
IsUnread skip read (MalformedData reason) = (skip ≡ false) × (read ≡ Err (MalformedData reason))
IsUnread skip read e = Unit {0}

-- a malformed shard file of a folder is the reason why it was not read
abbrev pub IsMalformedIn : Files → List ℕ → Bool → StoreError → Type 0
IsMalformedIn files folder skip e = (skip ≡ false) × ((h : List ℕ) × IsHash h × (loaded files h (shard_path folder h) ≡ Err e))

abbrev pub IsUnreadIn : Files → List ℕ → Bool → StoreError → Type 0
IsUnreadIn files folder skip FileNotFound = ⊥
IsUnreadIn files folder skip UnexpectedEof = IsMalformedIn files folder skip UnexpectedEof
IsUnreadIn files folder skip (MalformedData reason) = IsMalformedIn files folder skip (MalformedData reason)
IsUnreadIn files folder skip e = Unit {0}

-- ---- order

abbrev pub path_order : MDBShardFile → MDBShardFile → Ordering
path_order a b = slice_cmp nat_cmp a.path b.path

-- an older creation comes first; equal ones are ordered by path
abbrev pub age_order : MDBShardFile → MDBShardFile → Ordering
age_order a b = ordering_then (nat_cmp a.shard.metadata.shard_creation_timestamp b.shard.metadata.shard_creation_timestamp) (slice_cmp nat_cmp a.path b.path)

-- ---- removal

-- The loaded shards are divided into those that are kept and those that are pruned; removed are the expired ones, then
-- the pruned ones.
abbrev pub Plans : Bool → Bool → ℕ → ℕ → ℕ → List MDBShardFile → List MDBShardFile → List MDBShardFile → Type 0
Plans load_expired prune_expired prune_to buffer now read kept removed =
    (pruned : List MDBShardFile) × Prunes prune_to (filter (is_loaded load_expired now) read) kept pruned
    × (removed ≡ filter (is_deleted prune_expired load_expired buffer now) read ++ pruned)
