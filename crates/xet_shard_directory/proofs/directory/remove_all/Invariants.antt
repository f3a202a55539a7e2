use Rattle.std.proofs.Common.{◌≡◌, ◌≤◌, take, true}
use Rattle.xet_shard_directory.specs.Directories.{all_removed, paths}
use Rattle.xet_shard_directory.proofs.directory.remove_all.Given as goal

abbrev pub invariant-loop-shard : goal.invariant-loop-shard
invariant-loop-shard g l = record {
  removed : g.D.Disk.tells l.fn.disk ≡ true → g.D.Disk.files l.disk ≡ all_removed (g.D.Disk.files l.fn.disk) (paths (take l.shard-index l.shards));
  tells : g.D.Disk.tells l.disk ≡ g.D.Disk.tells l.fn.disk;
  later : g.D.Disk.faults l.fn.disk ≤ g.D.Disk.faults l.disk;
}
