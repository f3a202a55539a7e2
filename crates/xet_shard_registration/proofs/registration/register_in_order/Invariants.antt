use Rattle.std.proofs.Common.{◌≡◌, ◌<◌, ◌++◌, Bor, List, length, map, take, true}
use Rattle.xet_io.specs.Frame.{Unchanged}
use Rattle.xet_shard.specs.Union.{ShardRecords}
use Rattle.xet_shard_directory.specs.declared.shard_file.MDBShardFile.{MDBShardFile}
use Rattle.xet_shard_registration.specs.Registering.{AddsDue, Grows, RegistersAll}
use Rattle.xet_shard_registration.proofs.registration.register_in_order.Given as goal
use Rattle.xet_shard_registry.specs.Collections.{IsRegistryOf}
use Rattle.xet_shard_registry.specs.Registered.{Registered}

abbrev pub invariant-loop-file : goal.invariant-loop-file
invariant-loop-file g l = record {
  registered : g.D.Disk.tells l.fn.disk ≡ true → (shards : List Registered) (records : MDBShardFile → ShardRecords) → IsRegistryOf shards l.fn.registry
      → RegistersAll l.cap (g.D.Disk.files l.fn.disk) records shards (map (λ (a : Bor MDBShardFile). a.now) (take l.file-index l.files)) l.registry;
  grows : (shards : List Registered) → IsRegistryOf shards l.fn.registry → (more : List Registered) × IsRegistryOf (shards ++ more) l.registry;
  enters : Grows l.cap l.fn.registry l.registry;
  few : length l.fn.registry.files < 4294967296 → length l.registry.files < 4294967296;
  due : AddsDue (map (λ (a : Bor MDBShardFile). a.now) (take l.file-index l.files)) l.fn.registry l.registry;
  frame : Unchanged g.D.Disk.files g.D.Disk.tells g.D.Disk.faults l.fn.disk l.disk;
}
