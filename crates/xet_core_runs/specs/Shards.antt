-- The registered shards of a core, as a registry has them.
use Rattle.std.specs.Prelude.{◌≡◌, ℕ, List, [], map, All, IsSome}
use Rattle.xet_io.specs.Disk.{Files, file_at}
use Rattle.xet_history.specs.Core.{Core, RegisteredShard}
use Rattle.xet_shard.specs.Union.{ShardRecords}
use Rattle.xet_shard_directory.specs.declared.shard_file.MDBShardFile.{MDBShardFile}
use Rattle.xet_shard_lookup.specs.Found.{HoldsFiles, shard_of}
use Rattle.xet_shard_registry.specs.Registered.{Registered, with_shard}

-- a registered shard with its contents
abbrev pub with_contents : Registered → RegisteredShard
with_contents s = record { hash = s.file.shard_hash; contents = shard_of s }

-- The shards were registered one after the other with this cap, from none on: each entered the index if the indexes had
-- fewer words than the cap.
pub data AreRegistered (cap : ℕ) : List Registered → Type 0 where
  none : AreRegistered cap []
  next : (shards : List Registered) (file : MDBShardFile) (items : List (ℕ × ℕ × ℕ)) (records : ShardRecords) → AreRegistered cap shards → AreRegistered cap (with_shard cap shards file items records)

-- The registered shards of a core are these, and their files are there and hold them.
pub record AreShardsOf (files : Files) (c : Core) (shards : List Registered) : Type 0 where
  pub contents : c.shards ≡ map with_contents shards
  pub registered : AreRegistered c.index_cap shards
  pub there : All (λ s. IsSome (file_at files s.file.path)) shards
  pub holds : HoldsFiles files shards
