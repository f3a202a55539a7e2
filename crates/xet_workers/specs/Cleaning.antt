-- Cleaning by several workers: what it returns, and what it adds to the history.
use Rattle.std.specs.Prelude.{◌≡◌, ◌≢◌, ◌⊎◌, ◌≤◌, ◌+◌, ◌*◌, ◌∷◌, ◌==◌, ℕ, suc, Bool, true, List, [], length, map, filter, drop, take, Any, AllPairs, Option, None, Some, IsSome}
use Rattle.std.specs.List.{AllByRecursion, IsAmong, flat_map, sum_by}
use Rattle.std.specs.List.Sorted.{IsPermutation}
use Rattle.xet_aggregate.specs.declared.metrics.DeduplicationMetrics.{DeduplicationMetrics}
use Rattle.xet_choices.specs.Calls.{Call, registered_chunks}
use Rattle.xet_choices.specs.Choices.{new_chunks, no_place_entries}
use Rattle.xet_choices.specs.declared.choice.Choice.{Choice}
use Rattle.xet_clean.specs.Cleaning.{AreRecords, ClosesLast, EachTaken, RecordsFile, RegistersFew, RegistersOf, calls_since, entries_since, files_in, metrics_sum}
use Rattle.xet_clean.specs.Files.{HasChoices}
use Rattle.xet_clean.specs.Policies.{info_by}
use Rattle.xet_clean.specs.Sources.{AreRead}
use Rattle.xet_clean.specs.declared.policy.Sha256Policy.TheVariants.{Compute}
use Rattle.xet_cut.specs.Chunking.{chunking}
use Rattle.xet_cut.specs.declared.limits.LimitSettings.{LimitSettings}
use Rattle.xet_hash.specs.declared.error.Place.TheVariants.{Disk}
use Rattle.xet_hash.specs.declared.error.StoreError.{StoreError}
use Rattle.xet_hash.specs.declared.error.StoreError.TheVariants.{Io}
use Rattle.xet_history.specs.History.{pass_of}
use Rattle.xet_history.specs.declared.entry.Entry.{Entry}
use Rattle.xet_io.specs.Faults.{Rose}
use Rattle.xet_locked_session.specs.Shared.{MakesStepsBy, MakesStepsByUntil}
use Rattle.xet_shard_format.specs.declared.record.MDBFileInfo.{MDBFileInfo}
use Rattle.xet_store.specs.Alone.{IsFault}
use Rattle.xet_store.specs.Holders.{calls_in, numbered}
use Rattle.xet_store.specs.Recorded.{RecordedState}
use Rattle.xet_store.specs.Steps.{Steps}
use Rattle.xet_store_disk.specs.Cleaning.{Adds, EachTold, HasFile, chunkings, info_of}
use Rattle.xet_store_disk.specs.Separate.{Separate}
use Rattle.xet_store_disk.specs.Store.{plan_of}
use Rattle.xet_store_disk.specs.declared.info.XetFileInfo.{XetFileInfo}

-- ---- the entries of one pass

-- the numbered entries that a pass made
abbrev pub made_by : ℕ → List (ℕ × Entry) → List (ℕ × Entry)
made_by pass entries = filter (λ p. pass_of p.1 == pass) entries

-- the queries and registrations of a pass since a state
abbrev pub calls_by : ℕ → RecordedState → RecordedState → List Call
calls_by pass old new = calls_in (made_by pass (numbered (length old.history) (entries_since old new)))

-- ---- what is returned

-- The record is that of a file of these bytes, by whose plan its choices are true over the calls of one pass of the workers. Their
-- passes have the numbers from 1 on.
pub record HasChoicesBy (workers : ℕ) (s : LimitSettings) (calls : ℕ → List Call) (bytes : List ℕ) (chosen : List Choice) (file : MDBFileInfo) : Type 0 where
  pub pass : ℕ
  pub from : 1 ≤ pass
  pub to : pass ≤ workers
  pub choices : HasChoices Compute s (calls pass) bytes chosen file

-- For each file there are choices; and each file that is not empty has one of these records, in order, by whose plan its choices
-- are true over the calls of one pass. There are no other records.
abbrev pub AreChosenBy : ℕ → LimitSettings → (ℕ → List Call) → List (List ℕ) → List (List Choice) → List MDBFileInfo → Type 0
AreChosenBy workers s calls [] [] records = records ≡ []
AreChosenBy workers s calls [] (c ∷ cs) records = ⊥
AreChosenBy workers s calls (f ∷ fs) [] records = ⊥
AreChosenBy workers s calls ([] ∷ fs) (c ∷ cs) records = (c ≡ []) × AreChosenBy workers s calls fs cs records
AreChosenBy workers s calls ((b ∷ bs) ∷ fs) (c ∷ cs) [] = ⊥
AreChosenBy workers s calls ((b ∷ bs) ∷ fs) (c ∷ cs) (r ∷ records) = HasChoicesBy workers s calls (b ∷ bs) c r × AreChosenBy workers s calls fs cs records

-- Workers returned this of the sources, between two states. As `IsCleaned` of `xet_clean`, but the records of the files are made in
-- any order, and the choices of a file are true over the calls of one pass. Each file that is not empty has a record of its own.
-- The entries were made by the passes of the workers and by pass 0.
pub record IsCleanedBy {S : Type 0} (workers : ℕ) (tells : S → Bool) (left : S → List ℕ) (sources : List S) (old new : RecordedState) (infos : List XetFileInfo) (choices : List (List Choice)) (metrics : DeduplicationMetrics) : Type 0 where
  pub files : List (List ℕ)
  pub told : EachTold tells left (λ bytes file. file ≡ bytes) sources files
  pub pointers : infos ≡ map (info_by Compute old.store.limits) files
  pub records : List MDBFileInfo
  pub made : IsPermutation records (files_in (entries_since old new))
  pub chosen : AreChosenBy workers old.store.limits (λ pass. calls_by pass old new) files choices records
  pub once : AllPairs (λ a b. a ≢ b) (no_place_entries (flat_map (λ (cs : List Choice). cs) choices))
  pub only : AllByRecursion (RecordsFile Compute old.store.limits files) (entries_since old new)
  pub registered : registered_chunks (calls_since old new) ≡ sum_by new_chunks choices
  pub sums : metrics ≡ metrics_sum old.store.limits files choices
  pub registers : RegistersFew (calls_since old new)
  pub bound : length (entries_since old new) ≤ 3 * sum_by (λ (c : List Choice). length c) choices + 2 * length files
  pub passes : AllByRecursion (λ e. pass_of e ≤ workers) (entries_since old new)

-- ---- what was taken before an error

-- Sources that one worker read in turn, as they were and as they are; what it took of each; and how many it read to their ends.
pub record Turn (S : Type 0) : Type 0 where
  pub sources : List S
  pub now : List S
  pub files : List (List ℕ)
  pub done : ℕ

-- what was taken of the sources
abbrev pub taken_files : {S : Type 0} → List (Turn S) → List (List ℕ)
taken_files ts = flat_map (λ t. t.files) ts

-- the files of the sources that were read to their ends
abbrev pub whole_files : {S : Type 0} → List (Turn S) → List (List ℕ)
whole_files ts = flat_map (λ t. take t.done t.files) ts

-- The sources before one were read to their ends, and had no more bytes than this, and those after it were not read.
pub record IsReadInTurn {S : Type 0} (tells : S → Bool) (left : S → List ℕ) (most : ℕ) (t : Turn S) : Type 0 where
  pub same : length t.now ≡ length t.sources
  pub taken : EachTaken tells left t.sources t.now t.files
  pub within : t.done ≤ length t.sources
  pub read : AreRead tells left most (take t.done t.sources) (take t.done t.now)
  pub untouched : drop (suc t.done) t.now ≡ drop (suc t.done) t.sources

-- After an error: the sources are in parts, at most one for each worker, and each part was read in turn up to some source. There
-- are at most three entries for each chunk of what was taken and two for each source, made by the passes of the workers and by
-- pass 0. The files recorded are files of sources that were read to their ends. Each has a plan; and if disk and sources are
-- observable, and there are no collisions among the data seen, it resolves to the file's chunks. At most one xorb, the last, was
-- registered without further chunks. If the sources are observable, each xorb has only chunks of what they had left.
pub record IsBoundedBy {S : Type 0} (workers : ℕ) (tells : S → Bool) (left : S → List ℕ) (sources now : List S) (old new : RecordedState) : Type 0 where
  pub parts : List (Turn S)
  pub few : length parts ≤ workers
  pub before : sources ≡ flat_map (λ t. t.sources) parts
  pub after : now ≡ flat_map (λ t. t.now) parts
  pub turns : AllByRecursion (IsReadInTurn tells left old.store.limits.max_source_bytes) parts
  pub taken : EachTaken tells left sources now (taken_files parts)
  pub bound : length (entries_since old new) ≤ 3 * sum_by (λ f. length (chunking old.store.limits f)) (taken_files parts) + 2 * length (taken_files parts)
  pub passes : AllByRecursion (λ e. pass_of e ≤ workers) (entries_since old new)
  pub recorded : List (List ℕ)
  pub among : AllByRecursion (IsAmong (whole_files parts)) recorded
  pub records : AreRecords Compute old.store.limits recorded (files_in (entries_since old new))
  pub adds : Adds old.store.records new.store.records (map (λ f. (info_of old.store.limits f).hash) recorded)
  pub plans : AllByRecursion (λ f. IsSome (plan_of new.store.records (info_of old.store.limits f).hash)) recorded
  pub resolve : old.store.tells ≡ true → AllByRecursion (λ s. tells s ≡ true) sources → Separate new.store (chunkings left old.store.limits sources)
      → AllByRecursion (HasFile new.store) (map (chunking old.store.limits) recorded)
  pub last : List (List ℕ × ℕ)
  pub registers : ClosesLast last (calls_since old new)
  pub own : AllByRecursion (λ s. tells s ≡ true) sources → AllByRecursion (RegistersOf (chunkings left old.store.limits sources)) (entries_since old new)

-- ---- the history

-- Between two states the entries were made by completed steps of passes, or also by one that failed and was the last. No step failed
-- if there was no error. One failed by the disk if that is the error. On the disk nothing has changed but the files that the entries
-- name, and those of the step that failed.
abbrev pub MadeBy : Option StoreError → RecordedState → RecordedState → List Entry → Type 0
MadeBy None old new entries = MakesStepsBy old new entries
MadeBy (Some (Io Disk)) old new entries = MakesStepsByUntil (Io Disk) old new entries
MadeBy (Some e) old new entries = MakesStepsBy old new entries ⊎ ((error : StoreError) × MakesStepsByUntil error old new entries)

-- A call, with an error or none, added these entries to the history, and they lead to its core. If one of them is a failure of
-- the disk, the disk's count of failures rose.
pub record GrowsBy (error : Option StoreError) (old new : RecordedState) : Type 0 where
  pub entries : List Entry
  pub steps : Steps old new entries
  pub made : MadeBy error old new entries
  pub rose : Any IsFault entries → Rose old.store.faults new.store.faults
