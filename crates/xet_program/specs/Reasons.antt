-- Why a command may stop though nothing has failed: chunks collide, or the folder is full.
use Rattle.std.specs.Prelude.{◌≡◌, ◌≢◌, ◌⊎◌, ◌≤◌, ◌<◌, ℕ, true, false, List, length, map, Option, Some, Ok}
use Rattle.xet_io.specs.Disk.{Files}
use Rattle.xet_hash.specs.Hash.{sentinel, zero_hash}
use Rattle.xet_hash.specs.Merkle.{chunk_hash, file_hash, leaves_of}
use Rattle.xet_cut.specs.declared.limits.LimitSettings.{LimitSettings}
use Rattle.xet_cut.specs.Chunking.{chunking}
use Rattle.xet_shard.specs.Queries.{kept_hash}
use Rattle.xet_shard_file.specs.Shards.{IsThere, Registers, ShardFile, is_expired}
use Rattle.xet_shard_format.specs.Reading.{ShardParts, all_of}
use Rattle.xet_folder.specs.Admission.{key_of}
use Rattle.xet_folder.specs.Contents.{max_shards}
use Rattle.xet_folder.specs.Stored.{IsStored}
use Rattle.xet_store_disk.specs.Separate.{Among}
use Rattle.xet_program.specs.Words.{Command}
use Rattle.xet_program.specs.Words.Command.{Pack, Clean, Make, Read}
use Rattle.xet_program.specs.Start.{Observes, Start}
use Rattle.xet_program.specs.Making.{made_files}
use Rattle.xet_program.specs.Tasks.{default_limits, files_to_store, limits_of, store_folder}

-- a chunk of a xorb that is stored in the folder, or of one of these files, each given as its chunks
abbrev pub MetHere : Files → List (List (List ℕ)) → List ℕ → Type 0
MetHere disk files b =
    ((h : List ℕ) × (c : List (List ℕ)) × IsStored disk store_folder h c × Among c b) ⊎ ((f : List (List ℕ)) × Among files f × Among f b)

-- zero, or the key of a shard of the folder that is unexpired at a time
abbrev pub IsKeyHere : Files → ℕ → List ℕ → Type 0
IsKeyHere disk now key =
    (key ≡ zero_hash) ⊎ ((shard : ShardFile) × IsThere disk store_folder shard × (is_expired now shard.file.bytes ≡ false) × (parts : ShardParts) × (all_of shard.file.bytes ≡ Ok parts) × (key_of parts ≡ key))

-- No collisions among the chunks that are stored in the folder and those of these files, under the keys of the folder's
-- shards; and no file has the sentinel for its hash.
pub record AreApart (disk : Files) (now : ℕ) (s : LimitSettings) (stored : List (List ℕ)) : Type 0 where
  pub chunks : (key a b : List ℕ) → IsKeyHere disk now key → MetHere disk (map (chunking s) stored) a → MetHere disk (map (chunking s) stored) b → kept_hash key (chunk_hash a) ≡ kept_hash key (chunk_hash b) → a ≡ b
  pub named : (f : List (List ℕ)) → Among (map (chunking s) stored) f → 0 < length f → file_hash (leaves_of f) ≢ sentinel

-- As many shards are in the folder, unexpired at a time, as can be registered.
pub record IsFull (disk : Files) (now : ℕ) : Type 0 where
  pub shards : List ShardFile
  pub registers : Registers disk store_folder now shards
  pub many : max_shards ≤ length shards

-- When a run of a command may end with 10: the disk is not observable, or, where files are stored, what the command reads is
-- not, or there are collisions. The other commands never do.
abbrev pub IsMalformed : Option Command → Start → Files → Type 0
IsMalformed (Some (Pack s workers)) start new = Observes start (Some (Pack s workers)) → start.tells ≡ true → AreApart new start.now s (files_to_store (Pack s workers) start) → ⊥
IsMalformed (Some (Clean names)) start new = Observes start (Some (Clean names)) → start.tells ≡ true → AreApart new start.now (limits_of (Clean names)) (files_to_store (Clean names) start) → ⊥
IsMalformed (Some (Make seed bytes)) start new = start.tells ≡ true → AreApart new start.now default_limits (made_files seed bytes) → ⊥
IsMalformed (Some (Read h from to)) start new = start.tells ≡ false
IsMalformed _ start new = ⊥
