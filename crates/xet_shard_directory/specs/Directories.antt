-- The shard files of a folder: which are read, which are valid, and which are removed.
use Rattle.std.specs.Prelude.{◌≡◌, ◌≢◌, ◌⊎◌, ◌+◌, ◌<◌, ◌≤◌, ℕ, nat_le, Bool, not, ◌&&◌, ◌||◌, false, min, List, [], ◌∷◌, ◌++◌, filter, map, take, None, Result, Ok, Err, IsOk, IsSome, IsTrue, All, AllPairs}
use Rattle.std.specs.Cmp.Lexicographic.{slice_cmp}
use Rattle.std.specs.List.{IsAmong, sum_by}
use Rattle.std.specs.List.Sorted.{IsPermutation}
use Rattle.std.specs.Ordering.{is_lt, nat_cmp}
use Rattle.xet_hash.specs.declared.error.StoreError.{StoreError}
use Rattle.xet_hash.specs.declared.error.StoreError.TheVariants.{FileNotFound, MalformedData, UnexpectedEof}
use Rattle.xet_io.specs.Disk.{Files, file_at, removed}
use Rattle.xet_shard.specs.Held.{never}
use Rattle.xet_shard_directory.specs.Values.{last_part, loaded, stated_length}
use Rattle.xet_shard_directory.specs.declared.shard_file.MDBShardFile.{MDBShardFile}
use Rattle.xet_shard_file.specs.Names.{IsHash, shard_path}
use Rattle.xet_shard_format.specs.Names.{shard_name}

-- ---- what is read

abbrev pub IsBeforeByPath : MDBShardFile → MDBShardFile → Type 0
IsBeforeByPath a b = IsTrue (is_lt (slice_cmp nat_cmp a.path b.path))

-- All shard files of a folder whose header and footer are well formed, in ascending order of path. A folder that does
-- not exist has none.
pub record ReadsFolder (files : Files) (folder : List ℕ) (shards : List MDBShardFile) : Type 0 where
  pub each : All (λ s. IsHash s.shard_hash × (s.path ≡ shard_path folder s.shard_hash) × (loaded files s.shard_hash s.path ≡ Ok s)) shards
  pub all : (h : List ℕ) (s : MDBShardFile) → IsHash h → loaded files h (shard_path folder h) ≡ Ok s → IsAmong shards s
  pub order : AllPairs IsBeforeByPath shards

-- the shard file at a path, if its header and footer are well formed; there is a file
abbrev pub ReadsFile : Result MDBShardFile StoreError → List MDBShardFile → Type 0
ReadsFile (Ok s) shards = shards ≡ s ∷ []
ReadsFile (Err FileNotFound) shards = ⊥
ReadsFile (Err e) shards = shards ≡ []

-- A path whose last part is the name of a shard is that one file; any other path is a folder.
pub record ReadsPath (files : Files) (path : List ℕ) (shards : List MDBShardFile) : Type 0 where
  pub named : (h : List ℕ) → IsHash h → last_part path ≡ shard_name h → ReadsFile (loaded files h path) shards
  pub unnamed : ((h : List ℕ) → IsHash h → last_part path ≢ shard_name h) → ReadsFolder files path shards

-- h is the hash in the name of a shard file at a path, or in the folder there, and p is the path of that file
abbrev pub IsShardAt : List ℕ → List ℕ → List ℕ → Type 0
IsShardAt path h p =
    IsHash h
    × (((last_part path ≡ shard_name h) × (p ≡ path))
    ⊎ (((g : List ℕ) → IsHash g → last_part path ≢ shard_name g) × (p ≡ shard_path path h)))

-- the shard file is one at a path, or of the folder there, and its header and footer are well formed
abbrev pub IsReadAt : Files → List ℕ → MDBShardFile → Type 0
IsReadAt files path s = IsShardAt path s.shard_hash s.path × (loaded files s.shard_hash s.path ≡ Ok s)

-- the header and the footer of every shard file there are well formed
abbrev pub AllRead : Files → List ℕ → Type 0
AllRead files path = (h p : List ℕ) → IsShardAt path h p → IsSome (file_at files p) → IsOk (loaded files h p)

-- a shard file there is malformed, and this is its error
abbrev pub OneFails : Files → List ℕ → StoreError → Type 0
OneFails files path e = (h : List ℕ) × (p : List ℕ) × IsShardAt path h p × (loaded files h p ≡ Err e)

-- ---- expiry

-- the time until which a shard is valid, in seconds since the Unix epoch
abbrev pub expiry : MDBShardFile → ℕ
expiry s = s.shard.metadata.shard_key_expiry

-- a shard is still valid at its expiry
abbrev pub is_valid : ℕ → MDBShardFile → Bool
is_valid now s = nat_le now (expiry s)

-- a shard may be deleted from `buffer` seconds after its expiry on, at the latest at the maximum time
abbrev pub may_be_deleted : ℕ → ℕ → MDBShardFile → Bool
may_be_deleted buffer now s = nat_le (min (expiry s + buffer) never) now

-- the shards that are loaded: the valid ones, and if wanted the others too
abbrev pub is_loaded : Bool → ℕ → MDBShardFile → Bool
is_loaded load_expired now s = load_expired || is_valid now s

-- the shards that are deleted since they have expired, if that is wanted: of those that are not loaded
abbrev pub is_deleted : Bool → Bool → ℕ → ℕ → MDBShardFile → Bool
is_deleted prune_expired load_expired buffer now s = prune_expired && (not (is_loaded load_expired now s) && may_be_deleted buffer now s)

-- ---- pruning

-- an older creation comes first; equal ones are ordered by path
abbrev pub IsOlder : MDBShardFile → MDBShardFile → Type 0
IsOlder a b =
    (a.shard.metadata.shard_creation_timestamp < b.shard.metadata.shard_creation_timestamp)
    ⊎ ((a.shard.metadata.shard_creation_timestamp ≡ b.shard.metadata.shard_creation_timestamp) × IsBeforeByPath a b)

-- the sum of the lengths that their footers state
abbrev pub total_length : List MDBShardFile → ℕ
total_length shards = sum_by (λ s. stated_length s.shard) shards

-- So that the shards are no longer than a limit together, the oldest are pruned, and no more than needed. A limit of 0
-- means none.
pub record Prunes (limit : ℕ) (shards kept pruned : List MDBShardFile) : Type 0 where
  pub parts : IsPermutation shards (pruned ++ kept)
  pub order : AllPairs IsBeforeByPath kept
  pub oldest : AllPairs IsOlder pruned × All (λ p. All (IsOlder p) kept) pruned
  pub none : limit ≡ 0 → pruned ≡ []
  pub within : limit ≢ 0 → total_length kept ≤ limit
  pub needed : (ps : List MDBShardFile) (p : MDBShardFile) → pruned ≡ ps ++ p ∷ [] → limit < total_length (p ∷ kept)

-- ---- removal

-- the files after these names were removed one after the other
unfoldable pub all_removed : Files → List (List ℕ) → Files
all_removed files [] = files
all_removed files (n ∷ ns) = all_removed (removed files n) ns

abbrev pub paths : List MDBShardFile → List (List ℕ)
paths shards = map (λ s. s.path) shards

-- Loading a directory returned these shards: what is not pruned of those that are loaded. The expired ones and the
-- pruned ones were removed, and nothing else has changed.
pub record Loads (old new : Files) (path : List ℕ) (load_expired prune_expired : Bool) (prune_to buffer now : ℕ) (shards : List MDBShardFile) : Type 0 where
  pub read : List MDBShardFile
  pub pruned : List MDBShardFile
  pub reads : ReadsPath old path read
  pub prunes : Prunes prune_to (filter (is_loaded load_expired now) read) shards pruned
  pub files : new ≡ all_removed old (paths (filter (is_deleted prune_expired load_expired buffer now) read ++ pruned))

-- After an error nothing has changed, or some of the files were removed that loading removes, the first ones.
abbrev pub KeptOrRemoved : Files → Files → List ℕ → Bool → Bool → ℕ → ℕ → ℕ → Type 0
KeptOrRemoved old new path load_expired prune_expired prune_to buffer now =
    (new ≡ old)
    ⊎ ((read : List MDBShardFile) × (kept : List MDBShardFile) × (pruned : List MDBShardFile) × (n : ℕ) × ReadsPath old path read
    × Prunes prune_to (filter (is_loaded load_expired now) read) kept pruned
    × (new ≡ all_removed old (take n (paths (filter (is_deleted prune_expired load_expired buffer now) read ++ pruned)))))

-- Exactly the shards that may be deleted were removed.
pub record Cleans (old new : Files) (path : List ℕ) (buffer now : ℕ) : Type 0 where
  pub read : List MDBShardFile
  pub reads : ReadsPath old path read
  pub files : new ≡ all_removed old (paths (filter (may_be_deleted buffer now) read))

-- After an error some of them were, the first ones.
abbrev pub KeptOrCleaned : Files → Files → List ℕ → ℕ → ℕ → Type 0
KeptOrCleaned old new path buffer now =
    (new ≡ old)
    ⊎ ((read : List MDBShardFile) × (n : ℕ) × ReadsPath old path read × (new ≡ all_removed old (take n (paths (filter (may_be_deleted buffer now) read)))))

-- ---- errors

-- Why a directory was not loaded: a path that names a shard is absent, or, unless errors are skipped, a shard file is
-- malformed; else the disk failed, or memory was out.
abbrev pub IsUnloaded : Files → List ℕ → Bool → StoreError → Type 0
IsUnloaded files path skip FileNotFound = (h : List ℕ) × IsHash h × (last_part path ≡ shard_name h) × (file_at files path ≡ None)
IsUnloaded files path skip UnexpectedEof = (skip ≡ false) × OneFails files path UnexpectedEof
IsUnloaded files path skip (MalformedData reason) = (skip ≡ false) × OneFails files path (MalformedData reason)
IsUnloaded files path skip e = Unit {0}
