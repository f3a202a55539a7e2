use Rattle.std.proofs.Common.{◌≡◌, ◌+◌, ◌++◌, map, take, vec_capacity, vec_len}
use Rattle.xet_aggregate.proofs.aggregator.push_shifted.Given as goal

abbrev pub invariant-loop-boundary : goal.invariant-loop-boundary
invariant-loop-boundary l = record {
  items : l.boundaries.items ≡ l.fn.boundaries.items ++ map (λ k. k + l.count) (take l.boundary-index l.more);
  count : vec_len l.boundaries ≡ vec_len l.fn.boundaries + l.boundary-index;
  capacity : vec_capacity l.boundaries ≡ vec_capacity l.fn.boundaries;
}
