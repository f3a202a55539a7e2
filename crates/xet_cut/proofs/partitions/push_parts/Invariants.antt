use Rattle.std.proofs.Common.{◌≡◌, ◌-◌, ◌^◌, ◌<◌, ◌≤◌, ◌++◌, ℕ, List, true, All, AllPairs}
use Rattle.xet_io.specs.Frame.{ReadFrom}
use Rattle.xet_cut.specs.Partitions.{part_at}
use Rattle.xet_cut.proofs.Parts.{Walked}
use Rattle.xet_cut.proofs.partitions.push_parts.Given as goal

abbrev pub invariant-places : goal.invariant-places
invariant-places g l = record {
  small : l.place < 2 ^ 62;
  walked : g.R.ReadAt.tells l.fn.reader ≡ true
      → Walked (g.R.ReadAt.bytes l.fn.reader) l.size l.min_partition l.scan (part_at l.limits (g.R.ReadAt.bytes l.fn.reader) l.scan) l.fn.starts.items l.starts.items l.place;
  added : (more : List ℕ) × (l.starts.items ≡ l.fn.starts.items ++ more) × All (λ start. start < l.size) more;
  rises : l.scan ≤ l.min_partition → AllPairs ◌<◌ l.fn.starts.items → All (λ start. start ≤ l.min_partition) l.fn.starts.items
      → AllPairs ◌<◌ l.starts.items × All (λ start. start ≤ l.place) l.starts.items;
  frame : ReadFrom g.R.ReadAt.bytes g.R.ReadAt.tells g.R.ReadAt.faults g.R.ReadAt.lent l.fn.reader l.reader ⊥;
}

abbrev pub decreases-places : goal.decreases-places
decreases-places g l = l.size - l.place
