use Rattle.std.proofs.Common.{◌≡◌, take, true}
use Rattle.xet_io.specs.Frame.{Unchanged}
use Rattle.xet_manager.proofs.Listing.{AreAdded}
use Rattle.xet_manager.proofs.manager.asking.add_files.Given as goal

abbrev pub invariant-loop-shard : goal.invariant-loop-shard
invariant-loop-shard g l = record {
  added : g.D.Disk.tells l.fn.disk ≡ true → AreAdded (g.D.Disk.files l.fn.disk) (take l.shard-index l.shards) l.fn.infos.items l.infos.items;
  frame : Unchanged g.D.Disk.files g.D.Disk.tells g.D.Disk.faults l.fn.disk l.disk;
}
