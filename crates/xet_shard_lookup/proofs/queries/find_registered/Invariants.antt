use Rattle.std.proofs.Common.{◌≡◌, List, None, map, take, true}
use Rattle.xet_io.specs.Frame.{Unchanged}
use Rattle.xet_shard_lookup.specs.Found.{HoldsFiles, first_some, keyed_run}
use Rattle.xet_shard_registry.specs.Collections.{IsRegistryOf}
use Rattle.xet_shard_registry.specs.Registered.{Registered, keys_of}
use Rattle.xet_shard_lookup.proofs.queries.find_registered.Given as goal

abbrev pub invariant-loop-index : goal.invariant-loop-index
invariant-loop-index g l =
    let files = g.D.Disk.files l.fn.disk in
    record {
      found : g.D.Disk.tells l.fn.disk ≡ true → (shards : List Registered) → IsRegistryOf shards l.registry → HoldsFiles files shards
          → first_some (take l.index (map (keyed_run files shards l.first l.query) (keys_of shards))) ≡ None;
      frame : Unchanged g.D.Disk.files g.D.Disk.tells g.D.Disk.faults l.fn.disk l.disk;
    }
