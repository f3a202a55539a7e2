use Rattle.std.proofs.Common.{◌≡◌, ◌+◌, ◌-◌, ◌≤◌, ◌++◌, true, List, ℕ, length, drop}
use Rattle.std.specs.List.{concat}
use Rattle.xet_folder.specs.Plan.{Resolves, plan_bytes, range}
use Rattle.xet_store_disk.specs.internal.Reading.{IsStoredListed, ResolvesListed}
use Rattle.xet_store_disk.proofs.Reading.{Goes}
use Rattle.xet_store_disk.proofs.store.reading.read_plan.Given as goal

abbrev pub invariant-loop-segment : goal.invariant-loop-segment
invariant-loop-segment g l = record {
  resolves : ResolvesListed l.xorbs.entries (drop l.segment-index l.plan);
  order : l.from ≤ l.to;
  within : l.to ≤ plan_bytes (drop l.segment-index l.plan);
  len : length l.reader + (l.to - l.from) ≡ length l.fn.reader + (l.fn.to - l.fn.from);
  told : g.D.Disk.tells l.fn.disk ≡ true → (chunks : List (List ℕ)) → Resolves (IsStoredListed (g.D.Disk.files l.fn.disk) l.folder l.xorbs.entries) length l.plan chunks
      → Goes (IsStoredListed (g.D.Disk.files l.fn.disk) l.folder l.xorbs.entries) (drop l.segment-index l.plan) l.reader l.from l.to (l.fn.reader ++ range (concat chunks) l.fn.from l.fn.to);
  same : g.D.Disk.files l.disk ≡ g.D.Disk.files l.fn.disk;
  tells : g.D.Disk.tells l.disk ≡ g.D.Disk.tells l.fn.disk;
  later : g.D.Disk.faults l.fn.disk ≤ g.D.Disk.faults l.disk;
}
