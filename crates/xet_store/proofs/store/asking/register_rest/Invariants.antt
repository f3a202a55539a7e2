use Rattle.std.proofs.Common.{◌-◌, length}
use Rattle.xet_store_disk.specs.Ranges.{IsUnchanged}
use Rattle.xet_store.specs.Asking.{HasRegistry}
use Rattle.xet_store.proofs.store.asking.register_rest.Given as goal

abbrev pub invariant-loop-store : goal.invariant-loop-store
invariant-loop-store g l = record { unchanged : IsUnchanged l.fn.store l.store; registry : HasRegistry l.store l.registry }

abbrev pub decreases-loop-store : goal.decreases-loop-store
decreases-loop-store g l = length l.fn.store.shards - length l.registry.files
