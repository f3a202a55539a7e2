use Rattle.std.proofs.Common.{◌≡◌, take, true}
use Rattle.xet_io.specs.Frame.{Unchanged}
use Rattle.xet_shard_registration.proofs.LoadedPaths.{IsLoaded}
use Rattle.xet_shard_registration.proofs.refreshing.add_paths.Given as goal

abbrev pub invariant-loop-path : goal.invariant-loop-path
invariant-loop-path g l = record {
  loaded : g.D.Disk.tells l.fn.disk ≡ true → IsLoaded (g.D.Disk.files l.fn.disk) l.now (take l.path-index l.paths) l.fn.loaded.items l.loaded.items;
  frame : Unchanged g.D.Disk.files g.D.Disk.tells g.D.Disk.faults l.fn.disk l.disk;
}
