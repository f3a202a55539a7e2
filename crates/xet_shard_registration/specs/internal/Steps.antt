-- One step of registration.
use Rattle.std.specs.Prelude.{◌≡◌, ℕ, List, Ok}
use Rattle.xet_io.specs.Disk.{Files}
use Rattle.xet_shard.specs.Union.{ShardRecords}
use Rattle.xet_shard_directory.specs.declared.shard_file.MDBShardFile.{MDBShardFile}
use Rattle.xet_shard_registration.specs.Registering.{registered_one}
use Rattle.xet_shard_registry.specs.Collections.{IsRegistryOf, Tables}
use Rattle.xet_shard_registry.specs.Registered.{Registered}

-- A shard file is registered.
pub record RegistersOne (cap : ℕ) (files : Files) (records : MDBShardFile → ShardRecords) (shards : List Registered) (s : MDBShardFile) (t : Tables) : Type 0 where
  pub registered : List Registered
  pub one : registered_one cap files records shards s ≡ Ok registered
  pub tables : IsRegistryOf registered t
