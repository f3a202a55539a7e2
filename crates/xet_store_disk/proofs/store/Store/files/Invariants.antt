use Rattle.std.proofs.Common.{◌≡◌, map}
use Rattle.std.specs.Map.Iter.{deref_pair}
use Rattle.xet_store_disk.specs.Store.{recorded_files}
use Rattle.xet_store_disk.proofs.store.Store.files.Given as goal

abbrev pub invariant-loop-hash : goal.invariant-loop-hash
invariant-loop-hash g l = l.files.items ≡ recorded_files (map deref_pair l.yielded)
