-- How a run may end.
use Rattle.std.specs.Prelude.{◌≡◌, ◌≢◌, ◌⊎◌, ℕ, ◌≤◌, Bool, true, List, [], ◌∷◌, ◌++◌, codes, length, take, Option, Some, None}
use Rattle.xet_io.specs.Disk.{Files}
use Rattle.xet_hash.specs.declared.error.StoreError.{StoreError}
use Rattle.xet_shard_format.specs.Names.{shard_name}
use Rattle.xet_shard_file.specs.Names.{IsHash}
use Rattle.xet_folder.specs.Admission.{Refuses}
use Rattle.xet_folder.specs.Contents.{HasContents, HasTooMany, max_shards}
use Rattle.xet_folder.specs.declared.contents.Contents.{Contents}
use Rattle.xet_program.specs.Words.{Command}
use Rattle.xet_program.specs.Words.Command.{Pack, Clean, Make, Read, ListFiles, Group}
use Rattle.xet_program.specs.Start.{LacksName, Observes, OpensInputs, ReadsInput, Start}
use Rattle.xet_program.specs.Early.{IsEarly, Outcome, early_outcome, max_input, outcome, pack_early}
use Rattle.xet_program.specs.Tasks.{default_limits, files_to_store, limits_of, store_folder}
use Rattle.xet_program.specs.Reasons.{AreApart, IsFull, IsMalformed}
use Rattle.xet_program.specs.Allowed.{are_short}
use Rattle.xet_program.specs.Making.{made_files}
use Rattle.xet_program.specs.Answers.{Answers, AreNamed, IsNoRange}

-- the file name of a shard
abbrev pub IsShardName : List ℕ → Type 0
IsShardName name = (hash : List ℕ) × IsHash hash × (name ≡ shard_name hash)

abbrev pub bad_shard_text : List ℕ → List ℕ
bad_shard_text name = codes "bad shard " ++ name ++ 10 ∷ []

-- The command opens the store.
abbrev pub OpensStore : Option Command → Type 0
OpensStore None = ⊥
OpensStore (Some Group) = ⊥
OpensStore (Some _) = Unit {0}

-- The command stores files.
abbrev pub StoresFiles : Option Command → Type 0
StoresFiles (Some (Pack s workers)) = Unit {0}
StoresFiles (Some (Clean names)) = Unit {0}
StoresFiles (Some (Make seed bytes)) = Unit {0}
StoresFiles _ = ⊥

-- A shard of the folder is the first with which a check fails, if the disk is observable; its file name is printed.
pub record IsRejected (start : Start) (o : Outcome) : Type 0 where
  pub name : List ℕ
  pub named : IsShardName name
  pub fails : start.tells ≡ true → (e : StoreError) × Refuses start.files store_folder start.now e name
  pub is : o ≡ outcome 7 (bad_shard_text name)

-- The folder is valid at a time, with these contents, and no more of its shards are unexpired than can be registered.
pub record CanOpen (disk : Files) (now : ℕ) (contents : Contents) : Type 0 where
  pub valid : HasContents disk store_folder now contents
  pub few : length contents.shards ≤ max_shards

-- The folder can be opened, if the disk is observable, and this is what the command answers.
pub record IsAnswer (command : Option Command) (start : Start) (new : Files) (o : Outcome) : Type 0 where
  pub asked : Command
  pub is : command ≡ Some asked
  pub contents : Contents
  pub valid : start.tells ≡ true → CanOpen start.files start.now contents
  pub answer : Answers asked start contents new o

-- The folder can be opened at the start, and its contents have this.
abbrev pub ForContents : Start → (Contents → Type 0) → Type 0
ForContents start P = (contents : Contents) × CanOpen start.files start.now contents × P contents

-- What the run of a command has found once its store is open: nothing was due before; if the disk is observable, the folder can
-- be opened; and if the inputs are, each name exists that is opened.
pub record HasOpened (command : Option Command) (start : Start) : Type 0 where
  pub early : Observes start command → early_outcome command start.input ≡ None
  pub folder : start.tells ≡ true → ForContents start (λ contents. Unit {0})
  pub names : start.inputs_tell ≡ true → LacksName command start → ⊥

-- A run of a command is stopped before it prints if memory is out; if the input fails while it is read; if a file that
-- is opened by name fails, once the folder was found valid; or if the disk fails on which the store is opened, once
-- nothing is due before that.
abbrev pub IsStoppedSilent : Option Command → Start → ℕ → Type 0
IsStoppedSilent command start status =
    (status ≡ 1) ⊎ ((status ≡ 4) × ReadsInput command) ⊎ ((status ≡ 4) × OpensInputs command × (start.tells ≡ true → ForContents start (λ contents. Unit {0})))
    ⊎ ((status ≡ 6) × OpensStore command × (Observes start command → early_outcome command start.input ≡ None))

-- How the run of a command may end: before its store is opened, as is due then; at a shard that fails a check, or because the
-- folder has too many shards; with its answer; stopped, with no text; and once the store is open and the names are, because the
-- folder is full in which files are stored; or because a stored xorb changed after it was verified, which needs a disk that is
-- not observable, or because there are collisions.
pub data MayEnd (command : Option Command) (start : Start) (new : Files) (o : Outcome) : Type 0 where
  early : (Observes start command → early_outcome command start.input ≡ Some o) → IsEarly command o → MayEnd command start new o
  refused : OpensStore command → (Observes start command → early_outcome command start.input ≡ None) → IsRejected start o → MayEnd command start new o
  too_many : OpensStore command → (Observes start command → early_outcome command start.input ≡ None) → (start.tells ≡ true → HasTooMany start.files store_folder start.now) → o ≡ outcome 9 []
      → MayEnd command start new o
  answered : (Observes start command → early_outcome command start.input ≡ None) → IsAnswer command start new o → MayEnd command start new o
  stopped : IsStoppedSilent command start o.status → o.text ≡ [] → MayEnd command start new o
  full : StoresFiles command → HasOpened command start → (start.tells ≡ true → IsFull new start.now) → o ≡ outcome 9 [] → MayEnd command start new o
  malformed : HasOpened command start → IsMalformed command start new → o ≡ outcome 10 [] → MayEnd command start new o

-- It is cut short while it prints if the output fails or runs out of memory.
abbrev pub IsCutShort : ℕ → Type 0
IsCutShort status = (status ≡ 1) ⊎ (status ≡ 5)

-- What a run with this outcome has printed, if the output is observable: the whole text; or, if there is a
-- text and the run was cut short, a prefix of it.
abbrev pub Prints : Bool → Outcome → List ℕ → List ℕ → ℕ → Type 0
Prints tells o before after status =
    ((status ≡ o.status) × (tells ≡ true → after ≡ before ++ o.text))
    ⊎ (IsCutShort status × (o.text ≢ []) × (tells ≡ true → (n : ℕ) × (after ≡ before ++ take n o.text)))

-- a run that was stopped
abbrev pub IsStopped : ℕ → Type 0
IsStopped status = (status ≡ 1) ⊎ (status ≡ 4) ⊎ (status ≡ 5) ⊎ (status ≡ 6)

-- the statuses with which nothing is printed
abbrev pub IsSilent : ℕ → Type 0
IsSilent status = (status ≡ 2) ⊎ (status ≡ 4) ⊎ (status ≡ 6) ⊎ (status ≡ 8) ⊎ (status ≡ 9) ⊎ (status ≡ 10)

-- Command, inputs and disk give no cause for another status than 0: the folder can be opened. Where files are stored there are
-- no collisions, and the folder is not full at the end.
abbrev pub IsFaultless : Option Command → Start → Files → Type 0
IsFaultless None start new = ⊥
IsFaultless (Some (Pack s workers)) start new =
    (pack_early start.input ≡ None) × ForContents start (λ contents. Unit {0}) × AreApart new start.now s (files_to_store (Pack s workers) start) × (IsFull new start.now → ⊥)
IsFaultless (Some (Clean names)) start new =
    (files : List (List ℕ)) × AreNamed start.inputs names files × (are_short default_limits files ≡ true) × ForContents start (λ contents. Unit {0})
    × AreApart new start.now (limits_of (Clean names)) (files_to_store (Clean names) start) × (IsFull new start.now → ⊥)
IsFaultless (Some (Make seed bytes)) start new =
    ForContents start (λ contents. Unit {0}) × AreApart new start.now default_limits (made_files seed bytes) × (IsFull new start.now → ⊥)
IsFaultless (Some (Read h from to)) start new = ForContents start (λ contents. IsNoRange contents.records h from to → ⊥)
IsFaultless (Some ListFiles) start new = ForContents start (λ contents. Unit {0})
IsFaultless (Some Group) start new = length start.input ≤ max_input
