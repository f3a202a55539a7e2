-- A shard of what is pending that is due to be written.
use Rattle.std.specs.Prelude.{◌≡◌, ℕ, List, None}
use Rattle.xet_shard.specs.Held.{Held, held_shard}
use Rattle.xet_shard_directory.specs.Writing.{path_of}
use Rattle.xet_shard_flush.specs.Importing.{flushed_bytes}
use Rattle.xet_shard_format.specs.Encoding.{Fits, IsShard}

-- its bytes, and the path of its file
pub record Due : Type 0 where
  pub bytes : List ℕ
  pub path : List ℕ

-- It is the shard of these records at a moment, and its file belongs into this folder.
pub record IsDue (folder : List ℕ) (pending : Held) (moment : ℕ) (d : Due) : Type 0 where
  pub bytes : d.bytes ≡ flushed_bytes pending moment
  pub path : d.path ≡ path_of folder d.bytes
  pub form : IsShard (held_shard pending moment None)
  pub fits : Fits (held_shard pending moment None)
