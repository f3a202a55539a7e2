-- Files that were opened by name, and files that were cleaned in a session, for private functions.
use Rattle.std.specs.Prelude.{◌≡◌, ◌≢◌, ℕ, Bool, true, List, [], ◌∷◌, length, map, Some, Vec, Result, IfOk, OnOk}
use Rattle.std.specs.declared.alloc.Global.{Global}
use Rattle.std.specs.FinMap.{get}
use Rattle.std.specs.List.{AllByRecursion, IsAmong, flat_map}
use Rattle.xet_io.specs.Disk.{Files}
use Rattle.xet_io.specs.Named.{Named}
use Rattle.xet_cut.specs.Chunking.{chunking}
use Rattle.xet_store_disk.specs.declared.info.XetFileInfo.{XetFileInfo}
use Rattle.xet_store_disk.specs.Cleaning.{EachTold, HasFile, info_of}
use Rattle.xet_store_disk.specs.Separate.{Separate}
use Rattle.xet_store_disk.specs.Store.{State}
use Rattle.xet_clean.specs.Cleaning.{RecordsFile}
use Rattle.xet_clean.specs.declared.policy.Sha256Policy.TheVariants.{Compute}
use Rattle.xet_history.specs.declared.entry.Entry.{Entry}
use Rattle.xet_history.specs.declared.entry.Entry.TheVariants.{Complete}
use Rattle.xet_shard_format.specs.Records.{file_record_hash}
use Rattle.xet_shard_format.specs.declared.record.MDBFileInfo.{MDBFileInfo}
use Rattle.xet_locked_session.specs.Shared.{MakesStepsBy}
use Rattle.xet_store.specs.Recorded.{RecordedState}
use Rattle.xet_store.specs.Steps.{Steps}
use Rattle.xet_program.specs.declared.ending.Stop.{Stop}
use Rattle.xet_program.specs.Allowed.{are_short}
use Rattle.xet_program.specs.Answers.{AreNamed, AreSeparate}
use Rattle.xet_program.specs.Lines.{files_of}
use Rattle.xet_program.specs.internal.Made.{FitsPending, IsNoFlush, Pends}
use Rattle.xet_program.specs.internal.Parsing.{ForLines, Said}
use Rattle.xet_program.specs.Report.{IsReport, file_line, hash_of_file}
use Rattle.xet_program.specs.internal.Steps.{ListsNoOther, MakesIn}
use Rattle.xet_program.specs.Tasks.{default_limits}
use Rattle.xet_program.specs.Stored.{AreStored, Records}

-- Each name has a source that has not failed. If the names are observable, so is the source, and the bytes under the
-- name are left in it.
abbrev pub AreOpened : {S : Type 0} → Bool → Named (List ℕ) → (S → Bool) → (S → List ℕ) → (S → ℕ) → List (List ℕ) → List S → Type 0
AreOpened inputs_tell inputs tells left faults [] [] = Unit {0}
AreOpened inputs_tell inputs tells left faults [] (s ∷ ss) = ⊥
AreOpened inputs_tell inputs tells left faults (name ∷ names) [] = ⊥
AreOpened inputs_tell inputs tells left faults (name ∷ names) (s ∷ ss) =
    (faults s ≡ 0) × (inputs_tell ≡ true → (tells s ≡ true) × (get inputs name ≡ Some (left s))) × AreOpened inputs_tell inputs tells left faults names ss

-- An entry records a file of this hash.
abbrev pub RecordsHash : List Entry → List ℕ → Type 0
RecordsHash entries h = (pass : ℕ) × (file : MDBFileInfo) × (added : Bool) × IsAmong entries (Complete pass file added) × (file_record_hash file ≡ h)

-- The files of sources were cleaned in a session, in order, with these results. If all sources are observable, none is longer than
-- a source may be. Each that is not empty is recorded by one of the entries that were added, and nothing else is. Completed steps
-- made these entries, and on the disk nothing has changed but the files that they name. If the records of the files fit into what is
-- pending, nothing was flushed.
pub record AreCleaned {S : Type 0} (tells : S → Bool) (left : S → List ℕ) (sources : List S) (old new : RecordedState) (infos : List XetFileInfo) : Type 0 where
  pub files : List (List ℕ)
  pub each : EachTold tells left (λ bytes file. file ≡ bytes) sources files
  pub told : infos ≡ map (info_of old.store.limits) files
  pub short : AllByRecursion (λ s. tells s ≡ true) sources → are_short old.store.limits files ≡ true
  pub entries : List Entry
  pub steps : Steps old new entries
  pub by : MakesStepsBy old new entries
  pub uncut : FitsPending old.store files → AllByRecursion IsNoFlush entries × Pends files old.store new.store
  pub recorded : AllByRecursion (λ bytes. bytes ≢ [] → RecordsHash entries (hash_of_file old.store.limits bytes)) files
  pub only : AllByRecursion (RecordsFile Compute old.store.limits files) entries
  pub has : old.store.tells ≡ true → AllByRecursion (λ s. tells s ≡ true) sources → Separate new.store (map (chunking old.store.limits) files) → AllByRecursion (HasFile new.store) (map (chunking old.store.limits) files)

-- The files under these names were stored in a session, nothing of them is pending, and this is the line of each. No other file is
-- listed newly, and no temporary file is left.
pub record IsCleaned (inputs_tell : Bool) (inputs : Named (List ℕ)) (names : List (List ℕ)) (old new : State) (text : List ℕ) : Type 0 where
  pub files : List (List ℕ)
  pub named : inputs_tell ≡ true → AreNamed inputs names files
  pub count : length files ≡ length names
  pub short : inputs_tell ≡ true → are_short old.limits files ≡ true
  pub lines : text ≡ flat_map (file_line old.limits) files
  pub recorded : inputs_tell ≡ true → old.tells ≡ true → Records old.limits files old.opened new.files
  pub made : old.tells ≡ true → MakesIn old files new
  pub other : old.tells ≡ true → ListsNoOther old files new

-- The same over a disk with the files `old`, which become `new`, in the folder of the store.
pub record IsCleanText (inputs_tell : Bool) (inputs : Named (List ℕ)) (names : List (List ℕ)) (tells : Bool) (old new : Files) (now : ℕ) (text : List ℕ) : Type 0 where
  pub files : List (List ℕ)
  pub named : inputs_tell ≡ true → AreNamed inputs names files
  pub count : length files ≡ length names
  pub short : inputs_tell ≡ true → are_short default_limits files ≡ true
  pub lines : text ≡ flat_map (file_line default_limits) files
  pub stored : inputs_tell ≡ true → tells ≡ true → AreStored default_limits files now old new

-- What is answered for lines whose files are cleaned in a session, if it is no stop: the report of what they say. If the
-- disk is observable, their files are recorded and made, no other is listed newly, and no temporary file is left.
pub record IsLinesAnswer (said : Said) (old new : State) (answer : Result (Vec ℕ Global) Stop) : Type 0 where
  pub report : IfOk answer (λ text. ForLines said (λ lines. IsReport (AreSeparate old.tells new.files old.opened old.limits (files_of lines)) old.limits lines text.items))
  pub recorded : old.tells ≡ true → OnOk answer (Records old.limits said.files old.opened new.files)
  pub made : old.tells ≡ true → OnOk answer (MakesIn old said.files new)
  pub other : old.tells ≡ true → OnOk answer (ListsNoOther old said.files new)
