-- The steps of `pack` and `clean` in a session, for private functions.
use Rattle.std.specs.Prelude.{◌≡◌, ◌≢◌, ℕ, zero, suc, ◌<◌, ◌^◌, true, List, [], ◌∷◌, ◌++◌, Some, None}
use Rattle.std.specs.List.{AllByRecursion, IsAmong}
use Rattle.sha2.specs.Sha256.{sha256}
use Rattle.xet_hash.specs.Merkle.{leaves_of}
use Rattle.xet_cut.specs.Chunking.{chunking}
use Rattle.xet_cut.specs.declared.limits.LimitSettings.{LimitSettings}
use Rattle.xet_clean.specs.Cleaning.{RecordsFile}
use Rattle.xet_clean.specs.declared.policy.Sha256Policy.TheVariants.{Compute}
use Rattle.xet_dedup.specs.Records.{file_record}
use Rattle.xet_history.specs.declared.entry.Entry.{Entry}
use Rattle.xet_shard_format.specs.declared.record.FileDataSequenceEntry.{FileDataSequenceEntry as Segment}
use Rattle.xet_shard.specs.Held.{nothing}
use Rattle.xet_folder.specs.Listed.{Lists}
use Rattle.xet_folder.specs.Xorbs.{found}
use Rattle.xet_store_disk.specs.declared.info.XetFileInfo.{XetFileInfo}
use Rattle.xet_store_disk.specs.Ranges.{IsRange}
use Rattle.xet_store_disk.specs.Store.{State}
use Rattle.xet_store.specs.Changes.{ChangesFiles}
use Rattle.xet_store.specs.Recorded.{RecordedState}
use Rattle.xet_store.specs.Steps.{Steps}
use Rattle.xet_program.specs.declared.lines.FileRange.{FileRange}
use Rattle.xet_program.specs.Report.{bytes_line, hash_of_file}
use Rattle.xet_program.specs.Stored.{LeavesNone, ListsOnly}

-- At every time below 2 ^ 64 the folder of a session lists a record that is made of the file of these bytes.
abbrev pub ListsMadeIn : LimitSettings → State → List ℕ → Type 0
ListsMadeIn l s bytes =
    (segments : List Segment) × ((time : ℕ) → time < 2 ^ 64 → Lists s.files s.folder time (file_record (leaves_of (chunking l bytes)) segments (Some (sha256 bytes))))

-- Each of these files that is not empty, and whose hash had no record in a session, has one that is listed at
-- every time below 2 ^ 64, and that was made of it or of one of these files with the same hash.
abbrev pub MakesIn : State → List (List ℕ) → State → Type 0
MakesIn old files new =
    AllByRecursion (λ bytes. bytes ≢ [] → found old.records (hash_of_file old.limits bytes) ≡ None
    → (made : List ℕ) × IsAmong files made × (hash_of_file old.limits made ≡ hash_of_file old.limits bytes) × ListsMadeIn old.limits new made) files

-- Between two states of a session, its folder came to list, at its time of opening, no file but some of these, and no temporary file
-- was left.
pub record ListsNoOther (old : State) (files : List (List ℕ)) (new : State) : Type 0 where
  pub only : ListsOnly old.limits files old.opened old.files new.files
  pub tidy : LeavesNone old.files new.files

-- What was pending was flushed, and the store has read since: nothing is pending, and xorbs and records have not changed. No file was
-- recorded. On the disk nothing has changed but the files that the entries name.
pub record IsSettled (old new : RecordedState) : Type 0 where
  pub entries : List Entry
  pub steps : Steps old new entries
  pub unrecorded : AllByRecursion (RecordsFile Compute old.store.limits []) entries
  pub changes : ChangesFiles [] old new entries
  pub nothing_pending : new.store.pending ≡ nothing
  pub xorbs : new.store.xorbs ≡ old.store.xorbs
  pub records : new.store.records ≡ old.store.records

-- the hash of the file with this number, counted from 1
abbrev pub hash_at : List XetFileInfo → ℕ → List ℕ
hash_at [] n = []
hash_at (info ∷ infos) zero = []
hash_at (info ∷ infos) (suc zero) = info.hash
hash_at (info ∷ infos) (suc (suc n)) = hash_at infos (suc n)

-- The line of a range: that of its bytes, which were read from a session, if its disk is observable.
pub record IsLineRead (s : State) (infos : List XetFileInfo) (r : FileRange) (line : List ℕ) : Type 0 where
  pub bytes : List ℕ
  pub read : s.tells ≡ true → IsRange s (hash_at infos r.file) r.from r.to bytes
  pub is : line ≡ bytes_line bytes

-- the lines of ranges, in order
abbrev pub AreRead : State → List XetFileInfo → List FileRange → List ℕ → Type 0
AreRead s infos [] text = text ≡ []
AreRead s infos (r ∷ rs) text = (line : List ℕ) × (rest : List ℕ) × IsLineRead s infos r line × (text ≡ line ++ rest) × AreRead s infos rs rest
