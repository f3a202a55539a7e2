-- Registration of shard files, one after the other, each hash once.
use Rattle.std.specs.Prelude.{◌≡◌, ◌≤◌, ◌-◌, ◌^◌, ◌++◌, ◌∷◌, [], ℕ, nat_eq, nat_le, List, length, map, Result, Ok, Err, if◌then◌else◌}
use Rattle.std.specs.Cmp.Lexicographic.{pointwise}
use Rattle.std.specs.List.{list_any}
use Rattle.std.specs.Ordering.{nat_cmp}
use Rattle.xet_codec.specs.Parsing.{◌>>=◌}
use Rattle.xet_hash.specs.declared.error.StoreError.{StoreError}
use Rattle.xet_hash.specs.declared.error.StoreError.TheVariants.{TooLarge}
use Rattle.xet_hash.specs.declared.error.What.TheVariants.{Shards}
use Rattle.xet_io.specs.Disk.{Files, file_at}
use Rattle.xet_shard.specs.Sections.{chunk_lookup_in}
use Rattle.xet_shard.specs.Union.{ShardRecords}
use Rattle.xet_shard_directory.specs.Answers.{GivesUnlessDisk, IsReadError, in_file}
use Rattle.xet_shard_directory.specs.declared.shard_file.MDBShardFile.{MDBShardFile}
use Rattle.xet_shard_format.specs.Sorted.{sorted}
use Rattle.xet_shard_registry.specs.Collections.{IsRegistryOf, Tables}
use Rattle.xet_shard_registry.specs.Registered.{Registered, is_registered, with_shard}

-- the items of the chunk lookup table of a shard file; that the file is absent is an error
abbrev pub items_in : Files → MDBShardFile → Result (List (ℕ × ℕ × ℕ)) StoreError
items_in files s = in_file (file_at files s.path) (λ f. chunk_lookup_in s.shard.metadata f.bytes)

-- A shard file is registered after the others, unless its hash is. At most 2^32 - 1 are. `records` are the xorbs and
-- files of each.
unfoldable pub registered_one : ℕ → Files → (MDBShardFile → ShardRecords) → List Registered → MDBShardFile → Result (List Registered) StoreError
registered_one cap files records shards s =
    if is_registered s.shard_hash shards then Ok shards
    else (if nat_le (2 ^ 32 - 1) (length shards) then Err (TooLarge Shards)
    else (items_in files s >>= λ items. Ok (with_shard cap shards s items (records s))))

-- these shard files, one after the other
unfoldable pub registered_all : ℕ → Files → (MDBShardFile → ShardRecords) → List Registered → List MDBShardFile → Result (List Registered) StoreError
registered_all cap files records shards [] = Ok shards
registered_all cap files records shards (s ∷ ss) = registered_one cap files records shards s >>= λ more. registered_all cap files records more ss

-- the newest modification time first; equal ones keep their order
abbrev pub newest_first : List MDBShardFile → List MDBShardFile
newest_first ss = sorted (λ a b. nat_cmp b.last_modified_time a.last_modified_time) ss

-- the first of these shard files is registered, if there is one
unfoldable pub first_registered : ℕ → Files → (MDBShardFile → ShardRecords) → List Registered → List MDBShardFile → Result (List Registered) StoreError
first_registered cap files records shards [] = Ok shards
first_registered cap files records shards (s ∷ ss) = registered_one cap files records shards s

-- All are registered.
pub record RegistersAll (cap : ℕ) (files : Files) (records : MDBShardFile → ShardRecords) (shards : List Registered) (ss : List MDBShardFile) (t : Tables) : Type 0 where
  pub registered : List Registered
  pub all : registered_all cap files records shards ss ≡ Ok registered
  pub tables : IsRegistryOf registered t

-- Registration stopped with an error: the first ones are registered, and the next was refused, unless the disk failed
-- or memory was out.
pub record Stops (cap : ℕ) (files : Files) (records : MDBShardFile → ShardRecords) (shards : List Registered) (ss : List MDBShardFile) (tables : Tables) (e : StoreError) : Type 0 where
  pub before : List MDBShardFile
  pub after : List MDBShardFile
  pub parts : ss ≡ before ++ after
  pub first : RegistersAll cap files records shards before tables
  pub refused : GivesUnlessDisk (λ (x : List Registered). x) (Err e) (first_registered cap files records first.registered after)

-- ---- which files are registered, whatever the disk tells

-- the shard files of a list whose hash is none of these, each hash once
unfoldable pub due : List (List ℕ) → List MDBShardFile → List MDBShardFile
due known [] = []
due known (s ∷ ss) = if list_any (pointwise nat_eq s.shard_hash) known then due known ss else s ∷ due (known ++ s.shard_hash ∷ []) ss

-- those of a list were registered after the others
pub record AddsDue (ss : List MDBShardFile) (old new : Tables) : Type 0 where
  pub files : new.files ≡ old.files ++ due old.hashes ss
  pub hashes : new.hashes ≡ old.hashes ++ map (λ s. s.shard_hash) (due old.hashes ss)

-- the first ones of a list were
pub record AddsFirst (ss : List MDBShardFile) (old new : Tables) : Type 0 where
  pub before : List MDBShardFile
  pub after : List MDBShardFile
  pub parts : ss ≡ before ++ after
  pub due : AddsDue before old new

-- shard files are registered one after the other, each with a chunk lookup table; their records are not said
unfoldable pub with_all : ℕ → List Registered → List (MDBShardFile × List (ℕ × ℕ × ℕ)) → List Registered
with_all cap shards [] = shards
with_all cap shards (a ∷ rest) = with_all cap (with_shard cap shards a.0 a.1 ([], [])) rest

-- The registered shards stay, in their order, and shard files come after them. Each is registered with some chunk lookup
-- table, whose words enter the index if fewer than the cap were counted before.
pub record Grows (cap : ℕ) (old new : Tables) : Type 0 where
  pub added : List (MDBShardFile × List (ℕ × ℕ × ℕ))
  pub files : new.files ≡ old.files ++ map (λ a. a.0) added
  pub registers : (shards : List Registered) → IsRegistryOf shards old → IsRegistryOf (with_all cap shards added) new

-- The tables are those of shard files that were registered so, with none before them.
pub record IsGrown (cap : ℕ) (new : Tables) : Type 0 where
  pub added : List (MDBShardFile × List (ℕ × ℕ × ℕ))
  pub registers : IsRegistryOf (with_all cap [] added) new

-- ---- errors

-- `TooLarge(Shards)` comes only if 2^32 - 1 shards are registered
abbrev pub IsFullIfTooLarge : Tables → StoreError → Type 0
IsFullIfTooLarge t e = e ≡ TooLarge Shards → 2 ^ 32 - 1 ≤ length t.files

-- the errors of registration, with the disk's count of failures before and after
abbrev pub IsRegistrationError : ℕ → ℕ → StoreError → Type 0
IsRegistrationError before now (TooLarge Shards) = Unit {0}
IsRegistrationError before now e = IsReadError before now e
