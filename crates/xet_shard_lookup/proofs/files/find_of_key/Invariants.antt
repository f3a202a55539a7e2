use Rattle.std.proofs.Common.{◌≡◌, ℕ, List, Ok, None, Some, map, slice_get, take, true}
use Rattle.xet_io.specs.Frame.{Unchanged}
use Rattle.xet_shard_lookup.specs.Found.{HoldsFiles}
use Rattle.xet_shard_lookup.specs.Records.{answer_of, first_answer}
use Rattle.xet_shard_registry.specs.Collections.{IsRegistryOf}
use Rattle.xet_shard_registry.specs.Registered.{Registered, collection, keys_of}
use Rattle.xet_shard_lookup.proofs.files.find_of_key.Given as goal

abbrev pub invariant-loop-number : goal.invariant-loop-number
invariant-loop-number g l =
    let files = g.D.Disk.files l.fn.disk in
    record {
      found : g.D.Disk.tells l.fn.disk ≡ true → (shards : List Registered) (key : List ℕ) → IsRegistryOf shards l.registry → HoldsFiles files shards → slice_get (keys_of shards) l.index ≡ Some key
          → first_answer (take l.number-index (map (answer_of files l.hash) (collection key shards))) ≡ Ok None;
      frame : Unchanged g.D.Disk.files g.D.Disk.tells g.D.Disk.faults l.fn.disk l.disk;
    }
