use Rattle.std.proofs.Common.{◌≡◌, ℕ, ◌+◌, ◌-◌, ◌*◌, ◌<◌, ◌≤◌, drop}
use Rattle.xet_group.specs.Histogram.{IsTable, byte_counts, count_of}
use Rattle.xet_group.proofs.lanes.count_blocks.Given as goal

abbrev pub invariant-parts : goal.invariant-parts
invariant-parts l = record {
  done : l.done ≤ l.blocks;
  shape : IsTable l.counts;
  counts : (g k : ℕ) → g < 4 → k < 9
      → count_of l.counts g k + byte_counts l.start (drop (16 * l.done) l.b) g k ≡ count_of l.initial.counts g k + byte_counts l.start l.b g k;
}

abbrev pub decreases-parts : goal.decreases-parts
decreases-parts l = l.blocks - l.done
