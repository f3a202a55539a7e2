use Rattle.std.proofs.Common.{◌≡◌, ◌++◌, ℕ, drop}
use Rattle.xet_xorb_samples.specs.Samples.{Rise, leaves_from}
use Rattle.xet_xorb_samples.proofs.reference.boundary_leaves.Given as goal

abbrev pub invariant-loop-chunk : goal.invariant-loop-chunk
invariant-loop-chunk l = record {
  made : l.leaves.items ++ leaves_from l.start (drop l.chunk-index l.chunks) ≡ leaves_from 0 l.chunks;
  rise : (len : ℕ) × Rise l.start (drop l.chunk-index l.chunks) len;
}
