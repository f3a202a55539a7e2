-- What a crash leaves of a session's folder.
use Rattle.std.specs.Prelude.{◌≡◌, ◌≤◌, ℕ, true, List}
use Rattle.std.specs.List.{IsAmong}
use Rattle.xet_io.specs.Disk.{Files}
use Rattle.xet_io.specs.Images.{MayBeLeft}
use Rattle.xet_shard_format.specs.declared.record.MDBFileInfo.{MDBFileInfo}
use Rattle.xet_shard_file.specs.Shards.{Registers, ShardFile}
use Rattle.xet_folder.specs.Admission.{Admits}
use Rattle.xet_folder.specs.Listed.{Lists}
use Rattle.xet_folder.specs.Puts.{IsSettled}
use Rattle.xet_store_disk.specs.Store.{State}

-- Files with these in a session's folder are valid at each time from its opening on. What a registered shard of the session
-- lists at a time is listed then.
pub record IsSafe (s : State) (left : Files) : Type 0 where
  pub admits : (time : ℕ) → s.opened ≤ time → (shards : List ShardFile) → Registers left s.folder time shards → Admits left s.folder time shards
  pub lists : (time : ℕ) (f : MDBFileInfo) (l : Lists s.files s.folder time f) → IsAmong s.shards l.shard.hash → Lists left s.folder time f

-- Whenever a crash came since the session was `old`, which is `new` now, what it left is safe, and each name of the folder is
-- durable now.
pub record IsCrashSafe (old new : State) : Type 0 where
  pub safe : (left : Files) → MayBeLeft old.files new.files left → IsSafe old left
  pub settled : IsSettled new.files.entries new.folder

abbrev pub CrashSafe : State → State → Type 0
CrashSafe old new = old.tells ≡ true → IsSettled old.files.entries old.folder → IsCrashSafe old new
