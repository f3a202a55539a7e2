-- What each command answers over a valid folder.
use Rattle.std.specs.Prelude.{◌≡◌, ◌⊎◌, ℕ, ◌-◌, ◌<◌, ◌≤◌, Bool, true, false, List, [], ◌∷◌, ◌++◌, length, map, Some, None}
use Rattle.std.specs.FinMap.{get}
use Rattle.std.specs.Fmt.{decimal}
use Rattle.std.specs.List.{Any, concat, flat_map}
use Rattle.std.specs.Str.Lines.{lines}
use Rattle.xet_io.specs.Disk.{Files}
use Rattle.xet_io.specs.Named.{Named}
use Rattle.xet_hash.specs.Hash.{hash_text}
use Rattle.xet_cut.specs.declared.limits.LimitSettings.{LimitSettings}
use Rattle.xet_cut.specs.Chunking.{chunking}
use Rattle.xet_cut.specs.Generator.{generated}
use Rattle.xet_shard_format.specs.declared.record.FileDataSequenceEntry.{FileDataSequenceEntry as Segment}
use Rattle.xet_folder.specs.Plan.{Resolves, plan_bytes, range}
use Rattle.xet_folder.specs.Stored.{IsStored}
use Rattle.xet_folder.specs.Xorbs.{FileRecords}
use Rattle.xet_folder.specs.declared.contents.Contents.{Contents}
use Rattle.xet_store_disk.specs.Separate.{SeparateIn}
use Rattle.xet_store_disk.specs.Store.{Differ, plan_of, recorded_files}
use Rattle.xet_program.specs.Words.{Command}
use Rattle.xet_program.specs.Words.Command.{Pack, Clean, Make, Read, ListFiles, Group}
use Rattle.xet_program.specs.Start.{Start}
use Rattle.xet_program.specs.Early.{Outcome, outcome}
use Rattle.xet_program.specs.Tasks.{default_limits, store_folder}
use Rattle.xet_program.specs.Allowed.{are_short}
use Rattle.xet_program.specs.Making.{IsMadeText}
use Rattle.xet_program.specs.Lines.{Line, are_ranges, files_of, good_lines}
use Rattle.xet_program.specs.Report.{IsReport, file_line}
use Rattle.xet_program.specs.Stored.{AreStored}

-- The disk is observable, and there are no collisions among the data seen in its folder and in these files.
abbrev pub AreSeparate : Bool → Files → ℕ → LimitSettings → List (List ℕ) → Type 0
AreSeparate tells disk now s files = (tells ≡ true) × SeparateIn disk store_folder now (map (chunking s) files)

-- `pack`: a report of what an input says whose lines and ranges are good; it is this input, if that is
-- observable. Its files are stored, if the disk is observable.
pub record PackAnswer (s : LimitSettings) (start : Start) (new : Files) (o : Outcome) : Type 0 where
  pub said : List Line
  pub good : start.input_tells ≡ true → good_lines (lines start.input) ≡ Some said
  pub ranges_good : are_ranges said ≡ true
  pub status : o.status ≡ 0
  pub report : IsReport (AreSeparate start.tells new start.now s (files_of said)) s said o.text
  pub stored : start.tells ≡ true → AreStored s (files_of said) start.now start.files new

-- These are the files under these names, in order.
abbrev pub AreNamed : Named (List ℕ) → List (List ℕ) → List (List ℕ) → Type 0
AreNamed inputs names files = map (get inputs) names ≡ map Some files

-- `clean`: the line of each file, in order; the files are those under the names, if these are observable, and none is longer
-- than a source may be. They are stored, if the disk is observable too.
pub record IsCleanReport (names : List (List ℕ)) (start : Start) (new : Files) (o : Outcome) : Type 0 where
  pub files : List (List ℕ)
  pub named : start.inputs_tell ≡ true → AreNamed start.inputs names files
  pub count : length files ≡ length names
  pub short : start.inputs_tell ≡ true → are_short default_limits files ≡ true
  pub status : o.status ≡ 0
  pub text : o.text ≡ flat_map (file_line default_limits) files
  pub stored : start.inputs_tell ≡ true → start.tells ≡ true → AreStored default_limits files start.now start.files new

-- `clean`: a name is absent; or all are there, and a file is longer than a source may be; or the report
pub data CleanAnswer (names : List (List ℕ)) (start : Start) (new : Files) (o : Outcome) : Type 0 where
  absent : (start.inputs_tell ≡ true → Any (λ name. get start.inputs name ≡ None) names) → o ≡ outcome 8 [] → CleanAnswer names start new o
  too_long : (start.inputs_tell ≡ true → (files : List (List ℕ)) × AreNamed start.inputs names files × (are_short default_limits files ≡ false)) → o ≡ outcome 9 []
      → CleanAnswer names start new o
  reported : IsCleanReport names start new o → CleanAnswer names start new o

-- `make`: the lines of the two files and of the xorbs; the chunks of the files are stored, if the disk is observable
pub record MakeAnswer (seed bytes : ℕ) (start : Start) (contents : Contents) (new : Files) (o : Outcome) : Type 0 where
  pub status : o.status ≡ 0
  pub text : IsMadeText start.tells contents new (generated seed bytes) o.text

-- No file with this hash is listed, or the range is reversed or passes the file's end.
abbrev pub IsNoRange : FileRecords → List ℕ → ℕ → ℕ → Type 0
IsNoRange records h from to = (plan_of records h ≡ None) ⊎ ((plan : List Segment) × (plan_of records h ≡ Some plan) × ((to < from) ⊎ (plan_bytes plan < to)))

-- The bytes are this range of the stored chunks to which the plan of the file with this hash resolves.
pub record IsRangeOf (disk : Files) (records : FileRecords) (h : List ℕ) (from to : ℕ) (bytes : List ℕ) : Type 0 where
  pub plan : List Segment
  pub planned : plan_of records h ≡ Some plan
  pub chunks : List (List ℕ)
  pub resolves : Resolves (IsStored disk store_folder) length plan chunks
  pub is : bytes ≡ range (concat chunks) from to

-- `read`: no such range; or its bytes
pub data ReadAnswer (h : List ℕ) (from to : ℕ) (start : Start) (contents : Contents) (o : Outcome) : Type 0 where
  none : (start.tells ≡ true → IsNoRange contents.records h from to) → o ≡ outcome 8 [] → ReadAnswer h from to start contents o
  read : o.status ≡ 0 → from ≤ to → length o.text ≡ to - from → (start.tells ≡ true → IsRangeOf start.files contents.records h from to o.text)
      → ReadAnswer h from to start contents o

-- the line of a listed file: the text form of its hash, its length in decimal, and LF
unfoldable pub listed_line : List ℕ × ℕ → List ℕ
listed_line row = hash_text row.0 ++ 32 ∷ decimal row.1 ++ 10 ∷ []

-- `list`: the line of each file of the folder, each hash once
pub record ListAnswer (start : Start) (contents : Contents) (o : Outcome) : Type 0 where
  pub rows : List (List ℕ × ℕ)
  pub listed : start.tells ≡ true → rows ≡ recorded_files contents.records
  pub differ : Differ rows
  pub is : o ≡ outcome 0 (flat_map listed_line rows)

-- What a command answers over a valid folder with these contents, if the disk is observable. `group` opens no
-- folder.
abbrev pub Answers : Command → Start → Contents → Files → Outcome → Type 0
Answers (Pack s workers) start contents new o = PackAnswer s start new o
Answers (Clean names) start contents new o = CleanAnswer names start new o
Answers (Make seed bytes) start contents new o = MakeAnswer seed bytes start contents new o
Answers (Read h from to) start contents new o = ReadAnswer h from to start contents o
Answers ListFiles start contents new o = ListAnswer start contents o
Answers Group start contents new o = ⊥
