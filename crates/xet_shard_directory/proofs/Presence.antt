-- From whether a file exists to what reading it returns.
use Rattle.std.proofs.Common.{◌≡◌, ◌≢◌, ◌⊎◌, inl, inr, ◌∙◌, ◌&&◌, ℕ, nat_eq, length, Bool, true, false, Option, Some, None, Result, Ok, Err, refl, ap, sym}
use Rattle.std.proofs.lemmas.Bool.Decides.{eqb_tells}
use Rattle.std.specs.Option.{option_map}
use Rattle.std.specs.Prelude.{is_some}
use Rattle.xet_codec.specs.FileReader.{bytes_if}
use Rattle.xet_codec.specs.Stops.{HasDiskReason}
use Rattle.xet_hash.specs.declared.error.Place.TheVariants as place
use Rattle.xet_hash.specs.declared.error.StoreError.{StoreError}
use Rattle.xet_hash.specs.declared.error.StoreError.TheVariants as error
use Rattle.xet_io.specs.Disk.{File}
use Rattle.xet_shard_directory.specs.Answers.{GivesUnlessDisk, IsFindError, in_file}
use Rattle.xet_shard_directory.specs.Sized.{is_observable}

pub reads_present : (found : Option File) → true ≡ is_some found → in_file found (λ f. Ok f.bytes) ≡ Ok (bytes_if found)
reads_present (Some f) is = refl
reads_present None is = absurd (cc is)

pub reads_absent : (found : Option File) → false ≡ is_some found → in_file found (λ f. Ok f.bytes) ≡ Err error.FileNotFound
reads_absent (Some f) is = absurd (cc is)
reads_absent None is = refl

pub bytes_present : (found : Option File) → true ≡ is_some found → Some (bytes_if found) ≡ option_map (λ (f : File). f.bytes) found
bytes_present (Some f) is = refl
bytes_present None is = absurd (cc is)

pub bytes_absent : (found : Option File) → false ≡ is_some found → None ≡ option_map (λ (f : File). f.bytes) found
bytes_absent (Some f) is = absurd (cc is)
bytes_absent None is = refl

-- the length of a file that is there, and of none

equal_numbers : (a b : ℕ) → a ≡ b → nat_eq a b ≡ true
equal_numbers a b same = by (eqb_tells a b)
  where
    by : ((nat_eq a b ≡ true) × (a ≡ b)) ⊎ ((nat_eq a b ≡ false) × (a ≢ b)) → nat_eq a b ≡ true
    by (inl h) = h.0
    by (inr h) = absurd (h.1 same)

pub sized : (found : Option File) (f : File) (n : ℕ) → found ≡ Some f → Some n ≡ option_map (λ (g : File). length g.bytes) found → length f.bytes ≡ n
sized found f n is size = let e : ◌≡◌ {A = Option ℕ} (Some n) (Some (length f.bytes)) = size ∙ ap (option_map (λ (g : File). length g.bytes)) is in sym (cc e)

pub sized_present : (found : Option File) (n : ℕ) → Some n ≡ option_map (λ (f : File). length f.bytes) found → in_file found (λ f. Ok f.bytes) ≡ Ok (bytes_if found)
sized_present (Some f) n is = refl
sized_present None n is = absurd (cc is)

pub sized_absent : (found : Option File) → None ≡ option_map (λ (f : File). length f.bytes) found → in_file found (λ f. Ok f.bytes) ≡ Err error.FileNotFound
sized_absent (Some f) is = absurd (cc is)
sized_absent None is = refl

pub sized_bytes : (tells : Bool) (found : Option File) (n : ℕ) → tells ≡ true → Some n ≡ option_map (λ (f : File). length f.bytes) found → is_observable tells n (bytes_if found) ≡ true
sized_bytes tells (Some f) n told is = let e = equal_numbers n (length f.bytes) (cc is) in λ i. told i && e i
sized_bytes tells None n told is = absurd (cc is)

-- a file that is not there
pub none_there : (found : Option File) → false ≡ is_some found → found ≡ None
none_there (Some f) is = absurd (cc is)
none_there None is = refl

module _ (before now : ℕ) where
  pub disk_gives : {X Y : Type 0} (view : X → Y) (e : StoreError) (read : Result Y StoreError) → HasDiskReason before now e → GivesUnlessDisk view (Err e) read
  disk_gives view (error.Io place.Disk) read h = tt
  disk_gives view error.OutOfMemory read h = tt
  disk_gives view e read h = absurd h

  pub disk_finds : (e : StoreError) → HasDiskReason before now e → IsFindError before now e
  disk_finds error.FileNotFound h = absurd h
  disk_finds e h = h
