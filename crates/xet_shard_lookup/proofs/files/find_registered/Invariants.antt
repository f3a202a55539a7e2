use Rattle.std.proofs.Common.{◌≡◌, List, Ok, None, map, take, true}
use Rattle.xet_io.specs.Frame.{Unchanged}
use Rattle.xet_shard_lookup.specs.Found.{HoldsFiles}
use Rattle.xet_shard_lookup.specs.Records.{answer_of, first_answer}
use Rattle.xet_shard_registry.specs.Collections.{IsRegistryOf}
use Rattle.xet_shard_registry.specs.Registered.{Registered, collection, keys_of}
use Rattle.xet_shard_lookup.proofs.files.find_registered.Given as goal

abbrev pub invariant-loop-index : goal.invariant-loop-index
invariant-loop-index g l =
    let files = g.D.Disk.files l.fn.disk in
    record {
      found : g.D.Disk.tells l.fn.disk ≡ true → (shards : List Registered) → IsRegistryOf shards l.registry → HoldsFiles files shards
          → first_answer (take l.index (map (λ key. first_answer (map (answer_of files l.hash) (collection key shards))) (keys_of shards))) ≡ Ok None;
      frame : Unchanged g.D.Disk.files g.D.Disk.tells g.D.Disk.faults l.fn.disk l.disk;
    }
