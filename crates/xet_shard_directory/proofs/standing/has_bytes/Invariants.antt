use Rattle.std.proofs.Common.{◌≡◌, ◌≤◌, ◌-◌, ℕ, List, Some, length, take, true}
use Rattle.xet_io.specs.Disk.{bytes_at}
use Rattle.xet_shard_directory.proofs.standing.has_bytes.Given as goal

abbrev pub invariant-parts : goal.invariant-parts
invariant-parts g l = record {
  within : l.at ≤ length l.bytes;
  same : g.D.Disk.tells l.fn.disk ≡ true → (b : List ℕ) → bytes_at (g.D.Disk.files l.fn.disk) l.path ≡ Some b → take l.at b ≡ take l.at l.bytes;
  files : g.D.Disk.files l.disk ≡ g.D.Disk.files l.fn.disk;
  tells : g.D.Disk.tells l.disk ≡ g.D.Disk.tells l.fn.disk;
  later : g.D.Disk.faults l.fn.disk ≤ g.D.Disk.faults l.disk;
}

abbrev pub decreases-parts : goal.decreases-parts
decreases-parts g l = length l.bytes - l.at
