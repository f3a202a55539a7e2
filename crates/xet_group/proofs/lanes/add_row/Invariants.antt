use Rattle.std.proofs.Common.{◌≡◌, ℕ, ◌+◌, ◌<◌, ◌≤◌, [], length, slice_index, slice_index_or}
use Rattle.xet_group.specs.internal.Lanes.{group_sum}
use Rattle.xet_group.proofs.lanes.add_row.Given as goal

abbrev pub invariant-places : goal.invariant-places
invariant-places l = record {
  len : length l.row ≡ 9;
  added : (k : ℕ) → k < l.k → slice_index l.row k ≡ slice_index l.initial.row k + group_sum (slice_index_or l.vectors k []) l.lane;
  left : (k : ℕ) → l.k ≤ k → slice_index l.row k ≡ slice_index l.initial.row k;
}
