use Rattle.std.proofs.Common.{◌≡◌, ℕ, ◌+◌, ◌<◌, drop}
use Rattle.xet_group.specs.Histogram.{IsTable, count_of, byte_counts}
use Rattle.xet_group.proofs.predictor.BG4Predictor.add_data_reference.Given as goal

abbrev pub invariant-loop-i : goal.invariant-loop-i
invariant-loop-i l = record {
  shape : IsTable l.self-inside.counts;
  counts : (g k : ℕ) → g < 4 → k < 9
      → count_of l.self-inside.counts g k + byte_counts (l.start + l.i) (drop l.i l.b) g k ≡ count_of l.initial.self-inside.counts g k + byte_counts l.start l.b g k;
}
