-- What opening returns.
use Rattle.std.specs.Prelude.{◌≡◌, ℕ, Bool, true, false, List}
use Rattle.xet_io.specs.Disk.{Files}
use Rattle.xet_shard.specs.Held.{nothing}
use Rattle.xet_folder.specs.Pruning.{IsPruned}
use Rattle.xet_folder.specs.declared.contents.Contents.{Contents}
use Rattle.xet_cut.specs.declared.limits.LimitSettings.{LimitSettings}
use Rattle.xet_store_disk.specs.Store.{State}

-- the contents of its folder, as a session has them
abbrev pub contents_of : State → Contents
contents_of s = record { shards = s.shards; xorbs = s.xorbs; records = s.records }

-- What a session has from the arguments of opening. Nothing is pending. Without pruning no file of the disk has changed.
-- With it, exactly the expired shards of the folder are gone that may be deleted, if the disk is observable.
pub record IsOpened (tells prune : Bool) (files : Files) (folder : List ℕ) (limits : LimitSettings) (now : ℕ) (s : State) : Type 0 where
  pub same_tells : s.tells ≡ tells
  pub same_files : prune ≡ false → s.files ≡ files
  pub pruned : tells ≡ true → prune ≡ true → IsPruned files folder limits.expiry_buffer now s.files
  pub same_folder : s.folder ≡ folder
  pub same_limits : s.limits ≡ limits
  pub time : s.opened ≡ now
  pub nothing_pending : s.pending ≡ nothing
