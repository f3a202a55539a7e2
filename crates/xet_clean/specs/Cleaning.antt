-- Cleaning: what it returns, and what it adds to the history.
use Rattle.std.specs.Prelude.{◌≡◌, ◌≢◌, ◌⊎◌, ◌<◌, ◌≤◌, ◌+◌, ◌*◌, ℕ, Bool, true, List, [], ◌∷◌, ◌++◌, drop, length, map, Any, Option, None, Some, IsSome, suc, take}
use Rattle.std.specs.List.{AllByRecursion, IsAmong, flat_map, sum_by}
use Rattle.xet_aggregate.specs.Metrics.{zeros}
use Rattle.xet_aggregate.specs.declared.metrics.DeduplicationMetrics.{DeduplicationMetrics}
use Rattle.xet_choices.specs.Calls.{Call, registered_chunks}
use Rattle.xet_choices.specs.Calls.Call.{Asked, Registered}
use Rattle.xet_choices.specs.Choices.{EntriesRise, new_chunks}
use Rattle.xet_choices.specs.declared.choice.Choice.{Choice}
use Rattle.xet_cut.specs.Chunking.{chunking}
use Rattle.xet_cut.specs.declared.limits.LimitSettings.{LimitSettings}
use Rattle.xet_dedup.specs.Deduping.{metrics_of, metrics_of_both}
use Rattle.xet_dedup_queries.specs.Counting.{HasNext}
use Rattle.xet_folder.specs.Contents.{max_shards}
use Rattle.xet_hash.specs.Hash.{sentinel}
use Rattle.xet_hash.specs.Merkle.{chunk_hash, file_hash, leaves_of}
use Rattle.xet_hash.specs.declared.error.Place.TheVariants.{Disk, Source}
use Rattle.xet_hash.specs.declared.error.StoreError.{StoreError}
use Rattle.xet_hash.specs.declared.error.StoreError.TheVariants.{Io, MalformedData, OutOfMemory, TooLarge}
use Rattle.xet_hash.specs.declared.error.What.TheVariants as what
use Rattle.xet_history.specs.Core.{has_pending}
use Rattle.xet_dedup.specs.Records.{file_record}
use Rattle.xet_history.specs.declared.entry.Entry.{Entry}
use Rattle.xet_history.specs.declared.entry.Entry.TheVariants.{Query, Register, Complete, Flush, Fault}
use Rattle.xet_shard_format.specs.declared.record.FileDataSequenceEntry.{FileDataSequenceEntry as Segment}
use Rattle.xet_shard_format.specs.declared.record.MDBFileInfo.{MDBFileInfo}
use Rattle.xet_io.specs.Faults.{Rose}
use Rattle.xet_shard.specs.Queries.{kept_hash}
use Rattle.xet_store.specs.Recorded.{RecordedState, core_of}
use Rattle.xet_store.specs.Steps.{Steps}
use Rattle.xet_store_disk.specs.Cleaning.{Adds, EachTold, FailedAt, HasFile, IsLongAt, RoseAt, chunkings, info_of}
use Rattle.xet_store_disk.specs.Separate.{Among, MetChunk, Separate}
use Rattle.xet_store_disk.specs.Store.{plan_of}
use Rattle.xet_store_disk.specs.declared.info.XetFileInfo.{XetFileInfo}
use Rattle.xet_store.specs.Alone.{IsFault, MakesSteps, MakesStepsUntil}
use Rattle.xet_clean.specs.Files.{HasChoices, leaves_in}
use Rattle.xet_clean.specs.Policies.{info_by, sha256_by}
use Rattle.xet_clean.specs.declared.policy.Sha256Policy.{Sha256Policy}
use Rattle.xet_history.specs.Sound.{IsKey}
use Rattle.xet_store.specs.Holders.{calls_in, numbered}

-- ---- the history

-- Between two states the entries were made by completed steps of pass 0, or also by one that failed and was the last. No step failed
-- if there was no error, or one of a source. One failed by the disk if that is the error. On the disk nothing has changed but the
-- files that the entries name, and those of the step that failed.
abbrev pub Makes : Option StoreError → RecordedState → RecordedState → List Entry → Type 0
Makes None old new entries = MakesSteps old new entries
Makes (Some (Io (Source i))) old new entries = MakesSteps old new entries
Makes (Some (TooLarge (what.Source i))) old new entries = MakesSteps old new entries
Makes (Some (Io Disk)) old new entries = MakesStepsUntil (Io Disk) old new entries
Makes (Some e) old new entries = MakesSteps old new entries ⊎ ((error : StoreError) × MakesStepsUntil error old new entries)

-- A call, with an error or none, added these entries to the history, and they lead to its core. If one of them is a failure of
-- the disk, the disk's count of failures rose.
pub record Grows (error : Option StoreError) (old new : RecordedState) : Type 0 where
  pub entries : List Entry
  pub steps : Steps old new entries
  pub makes : Makes error old new entries
  pub rose : Any IsFault entries → Rose old.store.faults new.store.faults

-- the entries since a state
abbrev pub entries_since : RecordedState → RecordedState → List Entry
entries_since old new = drop (length old.history) new.history

-- the queries and registrations since a state
abbrev pub calls_since : RecordedState → RecordedState → List Call
calls_since old new = calls_in (numbered (length old.history) (entries_since old new))

-- ---- registrations

-- the second list has the first as a part
abbrev pub IsPart : {X : Type 0} → List X → List X → Type 0
IsPart {X} xs ys = (before after : List X) × (ys ≡ before ++ (xs ++ after))

-- it registers a xorb which has these chunks as a part
abbrev pub RegistersPart : List (List ℕ × ℕ) → Call → Type 0
RegistersPart part (Asked entry hashes reply) = ⊥
RegistersPart part (Registered chunks next) = IsPart part chunks

-- Each xorb was registered with further chunks, which are a part of a later one, or of these last chunks.
abbrev pub Lands : List (List ℕ × ℕ) → List Call → Type 0
Lands last [] = Unit {0}
Lands last (Asked entry hashes reply ∷ calls) = Lands last calls
Lands last (Registered chunks next ∷ calls) = ((next ≢ []) × (Any (RegistersPart next) calls ⊎ IsPart next last)) × Lands last calls

-- the registration of the last chunks, if there are any, after which none follow
abbrev pub close_of : List (List ℕ × ℕ) → List Call
close_of [] = []
close_of (chunk ∷ chunks) = Registered (chunk ∷ chunks) [] ∷ []

-- Each xorb was registered with further chunks; only the last of all, of these chunks if there are any, was registered without,
-- and no query follows it.
pub record ClosesLast (last : List (List ℕ × ℕ)) (calls : List Call) : Type 0 where
  pub before : List Call
  pub is : calls ≡ before ++ close_of last
  pub nexts : AllByRecursion HasNext before

-- Each xorb was registered with further chunks, which are a part of a later one; only the last of all was registered without, and
-- no query follows it.
pub record RegistersFew (calls : List Call) : Type 0 where
  pub before : List Call
  pub last : List (List ℕ × ℕ)
  pub is : calls ≡ before ++ close_of last
  pub lands : Lands last before

-- If the entry registers a xorb, each of its chunks is one of these files, which are given as their chunks.
abbrev pub RegistersOf : List (List (List ℕ)) → Entry → Type 0
RegistersOf files (Query pass hashes reply) = Unit {0}
RegistersOf files (Register pass chunks next added) = AllByRecursion (Among (flat_map leaves_of files)) chunks
RegistersOf files (Complete pass file added) = Unit {0}
RegistersOf files (Flush pass shard) = Unit {0}
RegistersOf files (Fault pass kind) = Unit {0}

-- ---- metrics

-- the sums over the files
abbrev pub metrics_sum : LimitSettings → List (List ℕ) → List (List Choice) → DeduplicationMetrics
metrics_sum s [] choices = zeros
metrics_sum s (f ∷ fs) [] = zeros
metrics_sum s (f ∷ fs) (c ∷ cs) = metrics_of_both (metrics_of (leaves_in s f) c 0 0) (metrics_sum s fs cs)

-- ---- what is recorded

-- the records of files that these entries made, in order
abbrev pub files_in : List Entry → List MDBFileInfo
files_in [] = []
files_in (Query pass hashes reply ∷ entries) = files_in entries
files_in (Register pass chunks next added ∷ entries) = files_in entries
files_in (Complete pass file added ∷ entries) = file ∷ files_in entries
files_in (Flush pass shard ∷ entries) = files_in entries
files_in (Fault pass kind ∷ entries) = files_in entries

-- The record of a file of these bytes, which is not empty: over some plan, with the hashes of its ranges and the SHA-256 that it
-- gets by the policy.
pub record IsRecordFor (policy : Sha256Policy) (s : LimitSettings) (bytes : List ℕ) (file : MDBFileInfo) : Type 0 where
  pub some : 0 < length bytes
  pub segments : List Segment
  pub is : file ≡ file_record (leaves_in s bytes) segments (sha256_by policy bytes)

-- Each file that is not empty has one of these records, in order. There are no other records.
abbrev pub AreRecords : Sha256Policy → LimitSettings → List (List ℕ) → List MDBFileInfo → Type 0
AreRecords policy s [] records = records ≡ []
AreRecords policy s ([] ∷ fs) records = AreRecords policy s fs records
AreRecords policy s ((b ∷ bs) ∷ fs) [] = ⊥
AreRecords policy s ((b ∷ bs) ∷ fs) (r ∷ records) = IsRecordFor policy s (b ∷ bs) r × AreRecords policy s fs records

-- If the entry records a file, it is one of these.
abbrev pub RecordsFile : Sha256Policy → LimitSettings → List (List ℕ) → Entry → Type 0
RecordsFile policy s files (Query pass hashes reply) = Unit {0}
RecordsFile policy s files (Register pass chunks next added) = Unit {0}
RecordsFile policy s files (Complete pass file added) = (bytes : List ℕ) × IsAmong files bytes × IsRecordFor policy s bytes file
RecordsFile policy s files (Flush pass shard) = Unit {0}
RecordsFile policy s files (Fault pass kind) = Unit {0}

-- ---- what is returned

-- For each file there are choices; and each file that is not empty has one of these records, in order, by whose plan its choices
-- are true over these calls. There are no other records.
abbrev pub AreChosen : Sha256Policy → LimitSettings → List Call → List (List ℕ) → List (List Choice) → List MDBFileInfo → Type 0
AreChosen policy s calls [] [] records = records ≡ []
AreChosen policy s calls [] (c ∷ cs) records = ⊥
AreChosen policy s calls (f ∷ fs) [] records = ⊥
AreChosen policy s calls ([] ∷ fs) (c ∷ cs) records = (c ≡ []) × AreChosen policy s calls fs cs records
AreChosen policy s calls ((b ∷ bs) ∷ fs) (c ∷ cs) [] = ⊥
AreChosen policy s calls ((b ∷ bs) ∷ fs) (c ∷ cs) (r ∷ records) = HasChoices policy s calls (b ∷ bs) c r × AreChosen policy s calls fs cs records

-- Cleaning returned this, between two states. Each source has a file: of an observable source, the bytes that it had left.
-- The pointer records are those of these files, and the choices for their chunks are true by the entries that were added; no
-- entry is named by two chunks. Each file that is not empty is recorded once, in the order of the sources, with its range hashes
-- and the SHA-256 that it gets by the policy, and no other file is recorded. As many chunks were registered as were not
-- deduplicated. The entries are at most three for each chunk and two for each source.
pub record IsCleaned {S : Type 0} (policy : Sha256Policy) (tells : S → Bool) (left : S → List ℕ) (sources : List S) (old new : RecordedState) (infos : List XetFileInfo) (choices : List (List Choice)) (metrics : DeduplicationMetrics) : Type 0 where
  pub files : List (List ℕ)
  pub told : EachTold tells left (λ bytes file. file ≡ bytes) sources files
  pub pointers : infos ≡ map (info_by policy old.store.limits) files
  pub chosen : AreChosen policy old.store.limits (calls_since old new) files choices (files_in (entries_since old new))
  pub once : EntriesRise (flat_map (λ (cs : List Choice). cs) choices)
  pub only : AllByRecursion (RecordsFile policy old.store.limits files) (entries_since old new)
  pub registered : registered_chunks (calls_since old new) ≡ sum_by new_chunks choices
  pub sums : metrics ≡ metrics_sum old.store.limits files choices
  pub registers : RegistersFew (calls_since old new)
  pub bound : length (entries_since old new) ≤ 3 * sum_by (λ (c : List Choice). length c) choices + 2 * length files

-- Of each source a prefix was taken, which is observable if the source is.
abbrev pub EachTaken : {S : Type 0} → (S → Bool) → (S → List ℕ) → List S → List S → List (List ℕ) → Type 0
EachTaken tells left [] now files = files ≡ []
EachTaken tells left (s ∷ ss) [] files = ⊥
EachTaken tells left (s ∷ ss) (t ∷ ts) [] = ⊥
EachTaken tells left (s ∷ ss) (t ∷ ts) (f ∷ fs) = (tells s ≡ true → left s ≡ f ++ left t) × EachTaken tells left ss ts fs

-- After an error: the sources before some source, `done`, were read to their ends, and had no more bytes than the limits allow;
-- the sources after it were not read. An error that names a source names that one. There are at most three entries for each chunk
-- of what was taken and two for each source. The files recorded are the first ones, in order, each that is not empty once; none is
-- that of source `done`. Each of them has a plan; and if disk and sources are observable, and there are no collisions among the
-- data seen, it resolves to the file's chunks. At most one xorb, the last, was registered without further chunks. If the sources are
-- observable, each xorb has only chunks of what they had left.
pub record IsBounded {S : Type 0} (policy : Sha256Policy) (tells : S → Bool) (left : S → List ℕ) (sources now : List S) (old new : RecordedState) (e : StoreError) : Type 0 where
  pub files : List (List ℕ)
  pub taken : EachTaken tells left sources now files
  pub done : ℕ
  pub within : done ≤ length sources
  pub failed : FailedAt e done
  pub read : AllByRecursion (λ s. tells s ≡ true → left s ≡ []) (take done now)
  pub short : AllByRecursion (λ s. tells s ≡ true → length (left s) ≤ old.store.limits.max_source_bytes) (take done sources)
  pub untouched : drop (suc done) now ≡ drop (suc done) sources
  pub count : ℕ
  pub recorded : count ≤ done
  pub records : AreRecords policy old.store.limits (take count files) (files_in (entries_since old new))
  pub bound : length (entries_since old new) ≤ 3 * sum_by (λ f. length (chunking old.store.limits f)) files + 2 * length files
  pub adds : Adds old.store.records new.store.records (map (λ f. (info_of old.store.limits f).hash) (take count files))
  pub plans : AllByRecursion (λ f. IsSome (plan_of new.store.records (info_of old.store.limits f).hash)) (take count files)
  pub resolve : old.store.tells ≡ true → AllByRecursion (λ s. tells s ≡ true) sources → Separate new.store (chunkings left old.store.limits sources)
      → AllByRecursion (HasFile new.store) (map (chunking old.store.limits) (take count files))
  pub last : List (List ℕ × ℕ)
  pub registers : ClosesLast last (calls_since old new)
  pub own : AllByRecursion (λ s. tells s ≡ true) sources → AllByRecursion (RegistersOf (chunkings left old.store.limits sources)) (entries_since old new)

-- ---- errors

-- No collisions among the chunks that are seen, under the keys of registered shards.
abbrev pub AreApartUnder : RecordedState → List (List (List ℕ)) → Type 0
AreApartUnder s files =
    (key a b : List ℕ) → IsKey (core_of s) key → MetChunk s.store files a → MetChunk s.store files b → kept_hash key (chunk_hash a) ≡ kept_hash key (chunk_hash b) → a ≡ b

-- No file that is not empty, given as its chunks, has the hash that ends a section of a shard.
abbrev pub NoneEnds : List (List (List ℕ)) → Type 0
NoneEnds files = (f : List (List ℕ)) → Among files f → 0 < length f → file_hash (leaves_of f) ≢ sentinel

-- The errors of cleaning, and when each is returned. `MalformedData` is returned only if the disk or a source is not observable,
-- or if there are collisions among chunks, also under the keys of registered shards, or a file has the hash that ends a section.
abbrev pub HasReason : {S : Type 0} → (S → Bool) → (S → List ℕ) → (S → ℕ) → List S → List S → RecordedState → RecordedState → StoreError → Type 0
HasReason tells left faults sources now old new (Io (Source i)) = RoseAt faults sources now i
HasReason tells left faults sources now old new (Io Disk) = Rose old.store.faults new.store.faults
HasReason tells left faults sources now old new (TooLarge (what.Source i)) = IsLongAt tells left sources old.store.limits.max_source_bytes i
HasReason tells left faults sources now old new (TooLarge what.Shards) = (max_shards ≤ length new.store.shards) × (has_pending (core_of new) ≡ true)
HasReason tells left faults sources now old new (MalformedData reason) =
    old.store.tells ≡ true → AllByRecursion (λ s. tells s ≡ true) sources → NoneEnds (chunkings left old.store.limits sources) → AreApartUnder new (chunkings left old.store.limits sources) → ⊥
HasReason tells left faults sources now old new OutOfMemory = Unit {0}
HasReason tells left faults sources now old new e = ⊥
