-- What the steps of a store change in its folder.
use Rattle.std.specs.Prelude.{◌≡◌, ℕ, Bool, true, false, List, [], ◌∷◌, ◌++◌, map, None, if◌then◌else◌}
use Rattle.xet_folder.specs.Changes.{Change}
use Rattle.xet_folder.specs.Names.{xorb_path}
use Rattle.xet_hash.specs.Merkle.{xorb_hash}
use Rattle.xet_history.specs.Core.{is_cut_due}
use Rattle.xet_history.specs.declared.entry.Entry.{Entry}
use Rattle.xet_history.specs.declared.entry.Entry.TheVariants.{Query, Register, Complete, Flush, Fault}
use Rattle.xet_io.specs.Disk.{Files, entry_at as get}
use Rattle.xet_shard_file.specs.Names.{shard_path, temp_name}
use Rattle.xet_store_disk.specs.Cleaning.{SameEntry}
use Rattle.xet_store_disk.specs.Flushing.{flush_changes}
use Rattle.xet_store_disk.specs.Separate.{Among}
use Rattle.xet_store_disk.specs.Store.{State}
use Rattle.xet_store.specs.Recorded.{RecordedState, core_of}

-- whether what is pending is written before a record of this many bytes is added
abbrev pub is_due : State → ℕ → Bool
is_due s bytes = is_cut_due (core_of (record { store = s; shards = []; history = [] })) s.limits.shard_target bytes

-- the changes of that
abbrev pub cut_changes : State → ℕ → List Change
cut_changes s bytes = if is_due s bytes then flush_changes s else []

-- ---- the files that entries name

-- the file of an entry: of a xorb whose hash was new, or of a shard that was flushed
abbrev pub file_of : List ℕ → Entry → List (List ℕ)
file_of folder (Query pass hashes reply) = []
file_of folder (Register pass chunks next true) = xorb_path folder (xorb_hash chunks) ∷ []
file_of folder (Register pass chunks next false) = []
file_of folder (Complete pass file added) = []
file_of folder (Flush pass shard) = shard_path folder shard ∷ []
file_of folder (Fault pass kind) = []

-- the files of entries
abbrev pub files_of : List ℕ → List Entry → List (List ℕ)
files_of folder [] = []
files_of folder (e ∷ es) = file_of folder e ++ files_of folder es

-- What is under a name is what was there; or the name is that of a file that was put, or its temporary name, under which nothing
-- is left; or it is that of a file whose put may have failed, or its temporary name.
pub data IsChange (put tried : List (List ℕ)) (old new : Files) (name : List ℕ) : Type 0 where
  same : SameEntry old new name → IsChange put tried old new name
  is_put : Among put name → IsChange put tried old new name
  is_free : Among (map temp_name put) name → get new name ≡ None → IsChange put tried old new name
  is_tried : Among tried name → IsChange put tried old new name
  is_left : Among (map temp_name tried) name → IsChange put tried old new name

-- On the disk nothing has changed but the files of these entries, and those files whose puts failed. So without any of these no
-- temporary file is left.
pub record ChangesFiles (tried : List (List ℕ)) (old new : RecordedState) (added : List Entry) : Type 0 where
  pub changed : old.store.tells ≡ true → (name : List ℕ) → IsChange (files_of old.store.folder added) tried old.store.files new.store.files name

-- A call failed that adds these entries if it is completed. On the disk nothing has changed but their files, and what is under
-- the temporary names of these.
abbrev pub Tries : RecordedState → RecordedState → List Entry → Type 0
Tries old new entries = ChangesFiles (files_of old.store.folder entries) old new []
