-- Reading a source to its end.
use Rattle.std.specs.Prelude.{◌≡◌, ◌<◌, ◌≤◌, ℕ, Bool, true, false, List, [], ◌∷◌, ◌++◌, length, ◌+◌, ◌*◌, suc, drop, take}
use Rattle.std.specs.List.{AllByRecursion, flat_map, sum_by}
use Rattle.xet_dedup_queries.specs.Counting.{registered_leaves}
use Rattle.xet_hash.specs.Merkle.{leaves_of}
use Rattle.xet_hash.specs.declared.error.Place.TheVariants as place
use Rattle.xet_hash.specs.declared.error.Reason.TheVariants.{OtherFileHash}
use Rattle.xet_hash.specs.declared.error.StoreError.{StoreError}
use Rattle.xet_hash.specs.declared.error.StoreError.TheVariants.{Io, MalformedData, TooLarge}
use Rattle.xet_hash.specs.declared.error.What.TheVariants as what
use Rattle.xet_io.specs.Faults.{Rose}
use Rattle.xet_cut.specs.Chunking.{chunking}
use Rattle.xet_aggregate.specs.Aggregate.{Aggregate, IsAggregate}
use Rattle.xet_store_disk.specs.Cleaning.{EachTold, FailedAt, IsLongAt, RoseAt, chunkings}
use Rattle.xet_store_disk.specs.Separate.{Among}
use Rattle.xet_store.specs.Interface.{IsErrorSince}
use Rattle.xet_store.specs.Holders.{Follows, Holder, calls_in}
use Rattle.xet_clean.specs.Cleaning.{AreRecords, ClosesLast, EachTaken}
use Rattle.xet_clean.specs.declared.policy.Sha256Policy.{Sha256Policy}
use Rattle.xet_clean.specs.Planning.{IsWithin}
use Rattle.xet_clean.specs.Closing.{AnyCalls, IsUnclosed, recorded_in}
use Rattle.xet_clean.specs.Working.{IsWorking, Planned, Waits, WasPlanned}
use Rattle.xet_aggregate.specs.declared.metrics.DeduplicationMetrics.{DeduplicationMetrics}
use Rattle.xet_choices.specs.declared.choice.Choice.{Choice}
use Rattle.xet_store_disk.specs.declared.info.XetFileInfo.{XetFileInfo}

-- These bytes were taken from a source; all that were left if `all`.
pub record Takes (all : Bool) (tells : Bool) (left rest bytes : List ℕ) : Type 0 where
  pub taken : tells ≡ true → left ≡ bytes ++ rest
  pub ended : all ≡ true → tells ≡ true → rest ≡ []

-- Of a source these bytes were taken. It is observable if it was, and its count of failures has not fallen.
pub record IsTakenFrom {S : Type 0} (tells : S → Bool) (left : S → List ℕ) (faults : S → ℕ) (s t : S) (bytes : List ℕ) : Type 0 where
  pub tell : tells t ≡ tells s
  pub later : faults s ≤ faults t
  pub taken : tells s ≡ true → left s ≡ bytes ++ left t

-- They are all that it had left, and no more than so many.
pub record IsDone {S : Type 0} (tells : S → Bool) (left : S → List ℕ) (faults : S → ℕ) (most : ℕ) (s t : S) (bytes : List ℕ) : Type 0 where
  pub from : IsTakenFrom tells left faults s t bytes
  pub ended : tells s ≡ true → left t ≡ []
  pub short : tells s ≡ true → length (left s) ≤ most

-- each of these was read to its end, and its bytes are those of the file
abbrev pub AreDone : {S : Type 0} → (S → Bool) → (S → List ℕ) → (S → ℕ) → ℕ → List S → List S → List Planned → Type 0
AreDone tells left faults most [] [] [] = Unit {0}
AreDone tells left faults most [] [] (f ∷ fs) = ⊥
AreDone tells left faults most [] (t ∷ ts) fs = ⊥
AreDone tells left faults most (s ∷ ss) [] fs = ⊥
AreDone tells left faults most (s ∷ ss) (t ∷ ts) [] = ⊥
AreDone tells left faults most (s ∷ ss) (t ∷ ts) (f ∷ fs) = IsDone tells left faults most s t f.bytes × AreDone tells left faults most ss ts fs

-- Each source was read to its end, and its file was cleaned since the start, with this policy. What was made of the files is
-- returned; what is left of them is in the aggregate.
pub record HasCleaned {S : Type 0} (policy : Sha256Policy) (tells : S → Bool) (left : S → List ℕ) (faults : S → ℕ) (sources now : List S) (start h : Holder) (infos : List XetFileInfo) (choices : List (List Choice)) (metrics : DeduplicationMetrics) (a : Aggregate) : Type 0 where
  pub files : List Planned
  pub are : AreDone tells left faults start.limits.max_source_bytes sources now files
  pub policies : AllByRecursion (λ f. f.policy ≡ policy) files
  pub working : IsWorking start h files infos choices metrics a

-- Why the file of source `number` was not cleaned: it failed or has more bytes than the limits allow, and then no step failed;
-- or a step failed, or memory is out.
abbrev pub IsSourceError : ℕ → Bool → List ℕ → ℕ → ℕ → Holder → Holder → StoreError → Type 0
IsSourceError number tells left before after old new (Io (place.Source i)) = (i ≡ number) × Rose before after × (new.stopped ≡ old.stopped)
IsSourceError number tells left before after old new (TooLarge (what.Source i)) = (i ≡ number) × (tells ≡ true → old.limits.max_source_bytes < length left) × (new.stopped ≡ old.stopped)
IsSourceError number tells left before after old new e = IsErrorSince old new e

-- Each observable source was read to its end, and had no more bytes than the limits allow.
pub record AreRead {S : Type 0} (tells : S → Bool) (left : S → List ℕ) (most : ℕ) (sources now : List S) : Type 0 where
  pub read : AllByRecursion (λ s. tells s ≡ true → left s ≡ []) now
  pub short : AllByRecursion (λ s. tells s ≡ true → length (left s) ≤ most) sources

-- It added at most three own entries for each chunk of these files, and two for each file.
abbrev pub IsFewFor : List (List ℕ) → Holder → Holder → Type 0
IsFewFor files old new =
    (follows : Follows old new) × (length follows.own ≤ 3 * sum_by (λ f. length (chunking old.limits f)) files + 2 * length files)

-- After an error: the sources before source `done` were read to their ends, and those after it were not read. There are at most
-- three entries for each chunk of what was taken and two for each source. The files recorded are the first ones, in order. Each xorb
-- was registered with further chunks, but for one of these last chunks, if there are any. If the sources are observable, the xorbs
-- have only chunks of what they had left.
pub record IsCutShort {S : Type 0} (last : List (List ℕ × ℕ)) (policy : Sha256Policy) (tells : S → Bool) (left : S → List ℕ) (sources now : List S) (old new : Holder) (e : StoreError) : Type 0 where
  pub files : List (List ℕ)
  pub taken : EachTaken tells left sources now files
  pub done : ℕ
  pub within : done ≤ length sources
  pub failed : FailedAt e done
  pub read : AreRead tells left old.limits.max_source_bytes (take done sources) (take done now)
  pub untouched : drop (suc done) now ≡ drop (suc done) sources
  pub few : IsFewFor files old new
  pub count : ℕ
  pub recorded : count ≤ done
  pub records : AreRecords policy old.limits (take count files) (recorded_in few.0.own)
  pub registers : ClosesLast last (calls_in few.0.own)
  pub own : AllByRecursion (λ s. tells s ≡ true) sources → AllByRecursion (Among (flat_map leaves_of (chunkings left old.limits sources))) (registered_leaves (calls_in few.0.own))

-- the same, whatever the last chunks
abbrev pub IsShort : {S : Type 0} → Sha256Policy → (S → Bool) → (S → List ℕ) → List S → List S → Holder → Holder → StoreError → Type 0
IsShort policy tells left sources now old new e = (last : List (List ℕ × ℕ)) × IsCutShort last policy tells left sources now old new e

-- A record was rejected, or a step failed, when an aggregate was closed. Each record that waited for its xorb is that of a file
-- of one of the first sources, whose segments have the hashes of its chunks.
pub record IsUnclosedFor {S : Type 0} (tells : S → Bool) (left : S → List ℕ) (sources : List S) (start now : Holder) (e : StoreError) : Type 0 where
  pub done : List S
  pub rest : List S
  pub order : sources ≡ done ++ rest
  pub files : List Planned
  pub told : EachTold tells left (λ bytes f. f.bytes ≡ bytes) done files
  pub before : Holder
  pub follows : Follows start before
  pub planned : AllByRecursion (WasPlanned start before) files
  pub aggregate : Aggregate
  pub parts : IsAggregate aggregate
  pub within : IsWithin before.limits aggregate.chunks
  pub waits : AllByRecursion (λ p. Waits before aggregate.chunks files p.0) aggregate.files
  pub next : List (List ℕ × ℕ)
  pub refused : IsUnclosed AnyCalls aggregate next before now e

-- Why the loop over the sources ended. No step failed if the error is one of a source.
abbrev pub IsLoopError : {S : Type 0} → (S → Bool) → (S → List ℕ) → (S → ℕ) → List S → List S → Holder → Holder → StoreError → Type 0
IsLoopError tells left faults sources now old new (Io (place.Source i)) = RoseAt faults sources now i × (new.stopped ≡ false)
IsLoopError tells left faults sources now old new (TooLarge (what.Source i)) = IsLongAt tells left sources old.limits.max_source_bytes i × (new.stopped ≡ false)
IsLoopError tells left faults sources now old new (MalformedData OtherFileHash) = IsUnclosedFor tells left sources old new (MalformedData OtherFileHash)
IsLoopError tells left faults sources now old new e = IsErrorSince old new e
