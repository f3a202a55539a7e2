-- Reading sources to their ends, and what was made of each.
use Rattle.std.specs.Prelude.{◌≡◌, ℕ, ◌+◌, ◌<◌, ◌≤◌, Bool, true, List, [], ◌∷◌, ◌++◌, drop, length}
use Rattle.xet_cut.specs.declared.limits.LimitSettings.{LimitSettings}
use Rattle.xet_hash.specs.declared.error.Place.TheVariants as place
use Rattle.xet_hash.specs.declared.error.StoreError.{StoreError}
use Rattle.xet_hash.specs.declared.error.StoreError.TheVariants.{Io, OutOfMemory, TooLarge}
use Rattle.xet_hash.specs.declared.error.What.TheVariants as what
use Rattle.xet_hash_files.specs.Hashing.{hashed_info}
use Rattle.xet_io.specs.Faults.{Rose}
use Rattle.xet_store_disk.specs.Cleaning.{IsLongAt, RoseAt}
use Rattle.xet_store_disk.specs.declared.info.XetFileInfo.{XetFileInfo}

-- These bytes were taken from a source; all that were left if `all`.
pub record Takes (all : Bool) (tells : Bool) (left rest bytes : List ℕ) : Type 0 where
  pub taken : tells ≡ true → left ≡ bytes ++ rest
  pub ended : all ≡ true → tells ≡ true → rest ≡ []

-- What a call leaves of a source: it is as observable as before, its count of failures has not fallen, and a prefix of what it
-- had left was taken.
pub record IsLeft {S : Type 0} (tells : S → Bool) (left : S → List ℕ) (faults : S → ℕ) (s t : S) : Type 0 where
  pub tell : tells t ≡ tells s
  pub later : faults s ≤ faults t
  pub taken : tells s ≡ true → (n : ℕ) × (left t ≡ drop n (left s))

-- A source was read to its end. It had no more bytes than the limits allow, and this is the pointer record of its file.
pub record IsHashed {S : Type 0} (tells : S → Bool) (left : S → List ℕ) (faults : S → ℕ) (limits : LimitSettings) (s t : S) (info : XetFileInfo) : Type 0 where
  pub leaves : IsLeft tells left faults s t
  pub ended : tells s ≡ true → left t ≡ []
  pub short : tells s ≡ true → length (left s) ≤ limits.max_source_bytes
  pub info_is : tells s ≡ true → info ≡ hashed_info limits (left s)

-- Why the file of source `number` was not hashed.
abbrev pub IsSourceError : {S : Type 0} → (S → Bool) → (S → List ℕ) → (S → ℕ) → ℕ → ℕ → S → S → StoreError → Type 0
IsSourceError tells left faults most number s t (Io (place.Source i)) = (i ≡ number) × Rose (faults s) (faults t)
IsSourceError tells left faults most number s t (TooLarge (what.Source i)) = (i ≡ number) × (tells s ≡ true → most < length (left s))
IsSourceError tells left faults most number s t OutOfMemory = Unit {0}
IsSourceError tells left faults most number s t _ = ⊥

-- what a call leaves of each source
abbrev pub AreLeft : {S : Type 0} → (S → Bool) → (S → List ℕ) → (S → ℕ) → List S → List S → Type 0
AreLeft tells left faults [] [] = Unit {0}
AreLeft tells left faults [] (t ∷ ts) = ⊥
AreLeft tells left faults (s ∷ ss) [] = ⊥
AreLeft tells left faults (s ∷ ss) (t ∷ ts) = IsLeft tells left faults s t × AreLeft tells left faults ss ts

-- each source was read to its end, and these are the pointer records of their files
abbrev pub AreHashed : {S : Type 0} → (S → Bool) → (S → List ℕ) → (S → ℕ) → LimitSettings → List S → List S → List XetFileInfo → Type 0
AreHashed tells left faults limits [] [] [] = Unit {0}
AreHashed tells left faults limits [] [] (info ∷ infos) = ⊥
AreHashed tells left faults limits [] (t ∷ ts) infos = ⊥
AreHashed tells left faults limits (s ∷ ss) [] infos = ⊥
AreHashed tells left faults limits (s ∷ ss) (t ∷ ts) [] = ⊥
AreHashed tells left faults limits (s ∷ ss) (t ∷ ts) (info ∷ infos) = IsHashed tells left faults limits s t info × AreHashed tells left faults limits ss ts infos

-- Why a part of the sources was not hashed. Errors name the sources of the part from `first` on.
abbrev pub IsPartError : {S : Type 0} → (S → Bool) → (S → List ℕ) → (S → ℕ) → LimitSettings → ℕ → List S → List S → StoreError → Type 0
IsPartError tells left faults limits first old new (Io (place.Source i)) = (k : ℕ) × (i ≡ first + k) × RoseAt faults old new k
IsPartError tells left faults limits first old new (TooLarge (what.Source i)) = (k : ℕ) × (i ≡ first + k) × IsLongAt tells left old limits.max_source_bytes k
IsPartError tells left faults limits first old new OutOfMemory = Unit {0}
IsPartError tells left faults limits first old new _ = ⊥
