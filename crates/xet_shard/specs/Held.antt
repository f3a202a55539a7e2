-- The records of a shard in memory, and the shard that is written of them.
use Rattle.std.specs.Prelude.{◌≡◌, ◌≢◌, ◌<◌, ℕ, ◌+◌, ◌-◌, ◌^◌, List, [], ◌∷◌, ◌++◌, filter, length, not, nat_eq, Option, Some, None, if◌then◌else◌, unwrap_or}
use Rattle.std.specs.Cmp.Lexicographic.{pointwise}
use Rattle.std.specs.List.{AllByRecursion, sum_by}
use Rattle.xet_hash.specs.Hash.{sentinel, zero_hash}
use Rattle.xet_hash.specs.Order.{hash_cmp}
use Rattle.xet_shard_format.specs.declared.record.MDBFileInfo.{MDBFileInfo}
use Rattle.xet_shard_format.specs.declared.record.MDBXorbInfo.{MDBXorbInfo}
use Rattle.xet_shard_format.specs.Records.{IsFile, IsXorb, file_record_hash, file_section, xorb_record_hash, xorb_section}
use Rattle.xet_shard_format.specs.Sorted.{sorted}
use Rattle.xet_shard_format.specs.Encoding.{Shard, shard}
use Rattle.xet_shard_format.specs.RecordSizes.{file_record_size, xorb_record_size}

-- xorbs and files in the order in which they were added, each hash once
pub record Held : Type 0 where
  pub blocks : List MDBXorbInfo
  pub files : List MDBFileInfo

abbrev pub held : List MDBXorbInfo → List MDBFileInfo → Held
held blocks files = record { blocks = blocks; files = files }

abbrev pub nothing : Held
nothing = held [] []

-- the list with x added at its end, without an earlier record of equal hash
abbrev pub with_last : {X : Type 0} → (X → List ℕ) → List X → X → List X
with_last hash xs x = filter (λ y. not (pointwise nat_eq (hash y) (hash x))) xs ++ x ∷ []

-- no two records have the same hash
abbrev pub DifferBy : {X : Type 0} → (X → List ℕ) → List X → Type 0
DifferBy hash [] = Unit {0}
DifferBy hash (x ∷ xs) = AllByRecursion (λ y. hash x ≢ hash y) xs × DifferBy hash xs

-- The invariant of a shard in memory: each record is well formed and has a hash of its own, which is not the
-- sentinel, and each section has fewer than 2 ^ 32 rows.
pub record IsHeld (h : Held) : Type 0 where
  pub blocks : AllByRecursion (λ x. (xorb_record_hash x ≢ sentinel) × IsXorb x) h.blocks
  pub files : AllByRecursion (λ f. (file_record_hash f ≢ sentinel) × IsFile f) h.files
  pub blocks_differ : DifferBy xorb_record_hash h.blocks
  pub files_differ : DifferBy file_record_hash h.files
  pub few_blocks : length (xorb_section h.blocks) < 2 ^ 32
  pub few_files : length (file_section h.files) < 2 ^ 32

-- the record with a hash, if there is one
abbrev pub record_of : {X : Type 0} → (X → List ℕ) → List ℕ → List X → Option X
record_of hash h [] = None
record_of hash h (x ∷ xs) = if pointwise nat_eq h (hash x) then Some x else record_of hash h xs

-- each record is under its hash
abbrev pub Keyed : {X : Type 0} → (X → List ℕ) → List (List ℕ × X) → Type 0
Keyed hash entries = AllByRecursion (λ e. e.0 ≡ hash e.1) entries

-- in ascending order of hash
abbrev pub by_hash : {X : Type 0} → (X → List ℕ) → List X → List X
by_hash hash xs = sorted (λ x y. hash_cmp (hash x) (hash y)) xs

-- the expiry that means none: the maximum time
abbrev pub never : ℕ
never = 2 ^ 64 - 1

-- the shard that is written: without a key, with this creation time and expiry
abbrev pub held_shard : Held → ℕ → Option ℕ → Shard
held_shard h creation expiry = shard (by_hash xorb_record_hash h.blocks) (by_hash file_record_hash h.files) zero_hash creation (unwrap_or expiry never)

-- the length of the shard: that of an empty one, and the bytes that each record adds
abbrev pub held_size : Held → ℕ
held_size h = 344 + sum_by xorb_record_size h.blocks + sum_by file_record_size h.files
