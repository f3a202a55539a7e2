-- Why a command stops without a report, and its outcome then, for private functions.
use Rattle.std.specs.Prelude.{◌≡◌, ◌⊎◌, ℕ, ◌<◌, ◌≤◌, Bool, true, false, List, [], length, map, Vec, Option, Some, None, Result, Ok, Err, Any}
use Rattle.std.specs.declared.alloc.Global.{Global}
use Rattle.std.specs.FinMap.{get}
use Rattle.std.specs.List.{AllByRecursion}
use Rattle.xet_io.specs.Disk.{Files}
use Rattle.xet_io.specs.Named.{Named}
use Rattle.xet_io.specs.declared.whole.Unread.{Unread}
use Rattle.xet_io.specs.declared.whole.Unread.TheVariants as unread
use Rattle.xet_hash.specs.declared.error.StoreError.{StoreError}
use Rattle.xet_hash.specs.declared.error.Place.TheVariants.{Source}
use Rattle.xet_hash.specs.declared.error.StoreError.TheVariants.{FileNotFound, InvalidRange, Io, MalformedData}
use Rattle.xet_hash.specs.declared.error.StoreError.TheVariants as error
use Rattle.xet_folder.specs.Admission.{Refuses}
use Rattle.xet_folder.specs.Contents.{HasTooMany, max_shards}
use Rattle.xet_folder.specs.declared.contents.Contents.{Contents}
use Rattle.xet_cut.specs.Chunking.{chunking}
use Rattle.xet_cut.specs.declared.limits.LimitSettings.{LimitSettings}
use Rattle.xet_clean.specs.Cleaning.{AreApartUnder, NoneEnds}
use Rattle.xet_store.specs.Recorded.{RecordedState}
use Rattle.xet_store_disk.specs.Cleaning.{IsLongAt, RoseAt, chunkings}
use Rattle.xet_store_disk.specs.Store.{State}
use Rattle.xet_program.specs.declared.ending.Stop.{Stop}
use Rattle.xet_program.specs.declared.ending.Stop.TheVariants.{OutOfMemory, Input, TooLarge, BadLine, NotFound, Disk, BadShard, Malformed}
use Rattle.xet_program.specs.Lines.{first_bad}
use Rattle.xet_program.specs.Early.{Outcome, bad_line_text, max_input, outcome, pack_early}
use Rattle.xet_program.specs.Tasks.{default_limits, store_folder}
use Rattle.xet_program.specs.Allowed.{are_short}
use Rattle.xet_program.specs.Making.{both_files}
use Rattle.xet_program.specs.Reasons.{AreApart, IsFull}
use Rattle.xet_program.specs.Answers.{AreNamed, IsNoRange}
use Rattle.xet_program.specs.Ending.{CanOpen, IsShardName, bad_shard_text}
use Rattle.xet_program.specs.internal.Parsing.{Said}

-- the stop for an input that was not read
abbrev pub stop_of_unread : Unread → Stop
stop_of_unread unread.OutOfMemory = OutOfMemory
stop_of_unread unread.Failed = Input
stop_of_unread unread.TooLong = TooLarge

-- The stop for an error of the store. Opening, cleaning and flushing return no others without a shard's name than the first
-- three, `MalformedData` and out of memory (`IsFolderError`, `HasReason`, `IsFlushError`). Reading a good range of a file that
-- was just cleaned returns `FileNotFound` or `InvalidRange` only if digests collide; such a collision counts as out of memory.
abbrev pub stop_of_error : StoreError → Stop
stop_of_error (Io (Source i)) = Input
stop_of_error (Io place) = Disk
stop_of_error (error.TooLarge what) = TooLarge
stop_of_error (MalformedData reason) = Malformed
stop_of_error error.UnexpectedEof = Malformed
stop_of_error error.ChunkHeaderParse = Malformed
stop_of_error error.HashMismatch = Malformed
stop_of_error (error.CompressionError scheme) = Malformed
stop_of_error (error.InvalidShard hash reason) = Malformed
stop_of_error error.OutOfMemory = OutOfMemory
stop_of_error FileNotFound = OutOfMemory
stop_of_error InvalidRange = OutOfMemory
stop_of_error error.InvalidArguments = OutOfMemory
stop_of_error error.TruncatedHashCollision = OutOfMemory
stop_of_error error.BadFilename = OutOfMemory
stop_of_error (error.BadLimits field) = OutOfMemory

-- the stop for a folder that was not opened, with the name of the shard if there is one
abbrev pub stop_of_refusal : StoreError → Option (List ℕ) → Stop
stop_of_refusal e (Some name) = BadShard name
stop_of_refusal e None = stop_of_error e

-- the stop for an error of reading a range
abbrev pub stop_of_read : StoreError → Stop
stop_of_read FileNotFound = NotFound
stop_of_read InvalidRange = NotFound
stop_of_read e = stop_of_error e

-- the outcome for the result of a command
abbrev pub answer_outcome : Result (Vec ℕ Global) Stop → Outcome
answer_outcome (Ok text) = outcome 0 text.items
answer_outcome (Err OutOfMemory) = outcome 1 []
answer_outcome (Err Input) = outcome 4 []
answer_outcome (Err Disk) = outcome 6 []
answer_outcome (Err TooLarge) = outcome 9 []
answer_outcome (Err NotFound) = outcome 8 []
answer_outcome (Err Malformed) = outcome 10 []
answer_outcome (Err (BadLine n)) = outcome 3 (bad_line_text n)
answer_outcome (Err (BadShard name)) = outcome 7 (bad_shard_text name)

-- For each stop but out of memory: the condition under which it may be returned.
pub record Causes : Type 1 where
  pub input : Type 0
  pub too_large : Type 0
  pub bad_line : ℕ → Type 0
  pub not_found : Type 0
  pub disk : Type 0
  pub bad_shard : List ℕ → Type 0
  pub malformed : Type 0

-- A stop is returned only if its condition holds. Out of memory may always be returned.
abbrev pub IsStop : Causes → Stop → Type 0
IsStop causes OutOfMemory = Unit {0}
IsStop causes Input = causes.input
IsStop causes TooLarge = causes.too_large
IsStop causes (BadLine n) = causes.bad_line n
IsStop causes NotFound = causes.not_found
IsStop causes Disk = causes.disk
IsStop causes (BadShard name) = causes.bad_shard name
IsStop causes Malformed = causes.malformed

-- no stop but out of memory
abbrev pub no_causes : Causes
no_causes = record { input = ⊥; too_large = ⊥; bad_line = λ n. ⊥; not_found = ⊥; disk = ⊥; bad_shard = λ name. ⊥; malformed = ⊥ }

-- while lines are parsed: the first bad line
abbrev pub parsing_causes : List (List ℕ) → Causes
parsing_causes lines = record no_causes { bad_line = λ n. first_bad lines ≡ Some n }

-- while an input is read: a failure of the input; else, if the input is observable, what is due before the
-- store is opened
abbrev pub reading_causes : Bool → List ℕ → Causes
reading_causes tells input = record no_causes {
  input = Unit {0};
  too_large = tells ≡ true → pack_early input ≡ Some (outcome 9 []);
  bad_line = λ n. tells ≡ true → pack_early input ≡ Some (outcome 3 (bad_line_text n));
  not_found = tells ≡ true → pack_early input ≡ Some (outcome 8 []);
}

-- while an input is read whole: a failure of the input; too large only if it is, where it is observable
abbrev pub grouping_causes : Bool → List ℕ → Causes
grouping_causes tells input = record no_causes { input = Unit {0}; too_large = tells ≡ true → max_input < length input }

-- while ranges are read in a session: a failure of the disk; malformed only if the disk is not observable
abbrev pub range_causes : Bool → Causes
range_causes tells = record no_causes { disk = Unit {0}; malformed = tells ≡ false }

-- while a range is read in a session: besides, not found only if there is no such range
abbrev pub finding_causes : State → List ℕ → ℕ → ℕ → Causes
finding_causes s h from to = record (range_causes s.tells) { not_found = IsNoRange s.records h from to }

-- as many shards are registered in a session as can be
abbrev pub IsFullAt : RecordedState → Type 0
IsFullAt s = max_shards ≤ length s.store.shards

-- no collisions among the chunks that a session and these files show, under the keys of its shards
abbrev pub IsApartFor : LimitSettings → RecordedState → List (List ℕ) → Type 0
IsApartFor l s files = AreApartUnder s (map (chunking l) files) × NoneEnds (map (chunking l) files)

-- while files that are no longer than a source may be are stored in a session, from `old` to `new`: a failure of the disk; too
-- large only if the session is full; malformed only if the disk is not observable or there are collisions
abbrev pub filing_causes : RecordedState → RecordedState → List (List ℕ) → Causes
filing_causes old new files = record no_causes {
  disk = Unit {0};
  too_large = IsFullAt new;
  malformed = old.store.tells ≡ true → IsApartFor old.store.limits new files → ⊥;
}

-- while a session, which is then `new`, is flushed and ranges are read: besides, too large only if it is full
abbrev pub settling_causes : Bool → RecordedState → Causes
settling_causes tells new = record (range_causes tells) { too_large = IsFullAt new }

-- in a session, from `old` to `new`: a failure of the disk; too large only if a file is or the session is full; malformed only
-- if the disk is not observable or there are collisions
abbrev pub session_causes : RecordedState → RecordedState → Said → Causes
session_causes old new said = record no_causes {
  disk = Unit {0};
  too_large = (are_short old.store.limits said.files ≡ false) ⊎ IsFullAt new;
  malformed = old.store.tells ≡ true → IsApartFor old.store.limits new said.files → ⊥;
}

-- The folder of the store can be opened at a time, if the disk is observable, and P holds of its contents.
abbrev pub ForValid : Bool → Files → ℕ → (Contents → Type 0) → Type 0
ForValid tells files now P = (contents : Contents) × (tells ≡ true → CanOpen files now contents) × P contents

-- If the disk is observable: the folder has too many shards; or it can be opened, and is full on the disk with the files `new`.
abbrev pub IsOverfull : Bool → ℕ → Files → Files → Type 0
IsOverfull tells now files new = (tells ≡ true → HasTooMany files store_folder now) ⊎ ForValid tells files now (λ contents. tells ≡ true → IsFull new now)

-- While files are stored in a folder at a time, whose disk has the files `new` then: as in a session, once the folder was opened;
-- and, if the disk is observable, a shard only if it is the first with which a check fails.
abbrev pub storing_causes : Bool → LimitSettings → Said → ℕ → Files → Files → Causes
storing_causes tells s said now files new = record no_causes {
  disk = Unit {0};
  too_large = (are_short s said.files ≡ false) ⊎ IsOverfull tells now files new;
  malformed = ForValid tells files now (λ contents. tells ≡ true → AreApart new now s said.files → ⊥);
  bad_shard = λ name. IsShardName name × (tells ≡ true → (e : StoreError) × Refuses files store_folder now e name);
}

-- while files are opened by name: a failure of an input; not found only if a name is absent, where the names are
-- observable
abbrev pub opening_causes : Bool → Named (List ℕ) → List (List ℕ) → Causes
opening_causes tells inputs names = record no_causes { input = Unit {0}; not_found = tells ≡ true → Any (λ name. get inputs name ≡ None) names }

-- while files are cleaned by name in a session, from `old` to `new`: besides, as in a session, once all names were found
abbrev pub naming_causes : Bool → Named (List ℕ) → List (List ℕ) → RecordedState → RecordedState → Causes
naming_causes tells inputs names old new = record (opening_causes tells inputs names) {
  too_large = (tells ≡ true → (files : List (List ℕ)) × AreNamed inputs names files × (are_short old.store.limits files ≡ false))
      ⊎ ((tells ≡ true → (files : List (List ℕ)) × AreNamed inputs names files) × IsFullAt new);
  disk = Unit {0};
  malformed = tells ≡ true → (files : List (List ℕ)) × AreNamed inputs names files × (old.store.tells ≡ true → IsApartFor old.store.limits new files → ⊥);
}

-- While sources are cleaned in a session, from `old` to `new`: a failure of a source or of the disk; too large only if a source
-- is or the session is full; malformed only if the disk is not observable or there are collisions.
abbrev pub cleaning_causes : {S : Type 0} → (S → Bool) → (S → List ℕ) → (S → ℕ) → List S → List S → RecordedState → RecordedState → Causes
cleaning_causes tells left faults sources now old new = record no_causes {
  input = (i : ℕ) × RoseAt faults sources now i;
  too_large = ((i : ℕ) × IsLongAt tells left sources old.store.limits.max_source_bytes i) ⊎ IsFullAt new;
  disk = Unit {0};
  malformed = old.store.tells ≡ true → AllByRecursion (λ s. tells s ≡ true) sources → AreApartUnder new (chunkings left old.store.limits sources) → NoneEnds (chunkings left old.store.limits sources) → ⊥;
}

-- while a folder is opened at a time: a failure of the disk; and, if the disk is observable, too large only if the folder has
-- too many shards, and a shard only if it is the first with which a check fails
abbrev pub folder_causes : Bool → ℕ → Files → Causes
folder_causes tells now files = record no_causes {
  disk = Unit {0};
  too_large = tells ≡ true → HasTooMany files store_folder now;
  bad_shard = λ name. IsShardName name × (tells ≡ true → (e : StoreError) × Refuses files store_folder now e name);
}

-- while a range is read in a folder: besides, not found only if there is no such range; malformed only if the disk
-- is not observable
abbrev pub reading_range_causes : Bool → ℕ → Files → List ℕ → ℕ → ℕ → Causes
reading_range_causes tells now files h from to = record (folder_causes tells now files) {
  not_found = ForValid tells files now (λ contents. IsNoRange contents.records h from to);
  malformed = tells ≡ false;
}

-- While files are cleaned by name in a folder, whose disk has the files `new` then: besides, an input fails only once the folder
-- was opened; too large because the folder is full, and malformed, only once all names were found too.
abbrev pub cleaning_store_causes : Bool → Named (List ℕ) → List (List ℕ) → Bool → ℕ → Files → Files → Causes
cleaning_store_causes inputs_tell inputs names tells now files new = record (folder_causes tells now files) {
  input = ForValid tells files now (λ contents. Unit {0});
  not_found = ForValid tells files now (λ contents. inputs_tell ≡ true → Any (λ name. get inputs name ≡ None) names);
  too_large = ForValid tells files now (λ contents. inputs_tell ≡ true → (found : List (List ℕ)) × AreNamed inputs names found × (are_short default_limits found ≡ false))
      ⊎ (tells ≡ true → HasTooMany files store_folder now)
      ⊎ ForValid tells files now (λ contents. (inputs_tell ≡ true → (found : List (List ℕ)) × AreNamed inputs names found) × (tells ≡ true → IsFull new now));
  malformed = ForValid tells files now (λ contents. inputs_tell ≡ true → (found : List (List ℕ)) × AreNamed inputs names found × (tells ≡ true → AreApart new now default_limits found → ⊥));
}

-- While a file of these bytes and the same with one byte inserted are stored in a folder, whose disk has the files `new` then:
-- besides, too large also if the folder could be opened and is full then; malformed only once it was opened, if the disk is not
-- observable or there are collisions.
abbrev pub making_causes : Bool → ℕ → Files → Files → List ℕ → Causes
making_causes tells now files new bytes = record (folder_causes tells now files) {
  too_large = IsOverfull tells now files new;
  malformed = ForValid tells files now (λ contents. tells ≡ true → AreApart new now default_limits (both_files bytes) → ⊥);
}
