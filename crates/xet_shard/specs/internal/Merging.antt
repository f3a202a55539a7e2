-- Merging of two lists of records in ascending order of hash.
use Rattle.std.specs.Prelude.{◌≡◌, ◌<◌, ◌^◌, ℕ, true, None, length, List, [], ◌∷◌, nat_eq, if◌then◌else◌}
use Rattle.std.specs.Cmp.Lexicographic.{pointwise}
use Rattle.std.specs.List.{AllByRecursion}
use Rattle.std.specs.Ordering.{is_lt}
use Rattle.xet_hash.specs.Order.{hash_cmp}
use Rattle.xet_hash.specs.declared.error.StoreError.{StoreError}
use Rattle.xet_hash.specs.declared.error.StoreError.TheVariants.{InvalidArguments, MalformedData, OutOfMemory}
use Rattle.xet_hash.specs.declared.error.Reason.TheVariants.{SectionPlace}
use Rattle.xet_shard_format.specs.Records.{AreRecords, IsFile, IsXorb, file_record_hash, file_section, xorb_record_hash, xorb_section}
use Rattle.xet_shard.specs.Union.{AgreeBoth, HasTooManyRows, ShardRecords, union_shard}

-- each hash is above those before it
abbrev pub Rises : {X : Type 0} → (X → List ℕ) → List X → Type 0
Rises hash [] = Unit {0}
Rises hash (x ∷ xs) = AllByRecursion (λ y. is_lt (hash_cmp (hash x) (hash y)) ≡ true) xs × Rises hash xs

-- the first records, those with a hash below h, and the records after them
unfoldable pub below : {X : Type 0} → (X → List ℕ) → List ℕ → List X → List X
below hash h [] = []
below hash h (y ∷ ys) = if is_lt (hash_cmp (hash y) h) then y ∷ below hash h ys else []

unfoldable pub not_below : {X : Type 0} → (X → List ℕ) → List ℕ → List X → List X
not_below hash h [] = []
not_below hash h (y ∷ ys) = if is_lt (hash_cmp (hash y) h) then not_below hash h ys else y ∷ ys

-- the list without its first record, if that has this hash
unfoldable pub after_hash : {X : Type 0} → (X → List ℕ) → List ℕ → List X → List X
after_hash hash h [] = []
after_hash hash h (y ∷ ys) = if pointwise nat_eq (hash y) h then ys else y ∷ ys

-- the first record of a list is x, if it has the same hash
abbrev pub FirstAgrees : {X : Type 0} → (X → List ℕ) → X → List X → Type 0
FirstAgrees hash x [] = Unit {0}
FirstAgrees hash x (y ∷ ys) = hash x ≡ hash y → x ≡ y

-- the errors of a merge: out of memory, or two different records have the same hash
abbrev pub IsNoMerge : Type 0 → StoreError → Type 0
IsNoMerge Agree OutOfMemory = Unit {0}
IsNoMerge Agree InvalidArguments = Agree → ⊥
IsNoMerge Agree e = ⊥

-- ---- shards

-- the records of a well-formed shard
pub record AreOfShard (p : ShardRecords) : Type 0 where
  pub blocks : AreRecords xorb_record_hash IsXorb None p.0
  pub files : AreRecords file_record_hash IsFile None p.1
  pub few_blocks : length (xorb_section p.0) < 2 ^ 32
  pub few_files : length (file_section p.1) < 2 ^ 32

-- the errors of encoding a union: out of memory, two different records with the same hash, or else too many
-- rows
abbrev pub IsNoText : ShardRecords × ShardRecords → ℕ → ℕ → StoreError → Type 0
IsNoText p creation other OutOfMemory = Unit {0}
IsNoText p creation other InvalidArguments = AgreeBoth p → ⊥
IsNoText p creation other (MalformedData reason) = (reason ≡ SectionPlace) × AgreeBoth p × HasTooManyRows (union_shard p creation other)
IsNoText p creation other e = ⊥
