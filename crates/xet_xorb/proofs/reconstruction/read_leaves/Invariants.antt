use Rattle.std.proofs.Common.{◌≡◌, ◌<◌, ◌≤◌, ◌^◌, ◌-◌, ℕ, List, length, vec_len}
use Rattle.std.specs.List.{AllByRecursion}
use Rattle.xet_hash.specs.Merkle.{leaves_of}
use Rattle.xet_xorb_footer.specs.FooterEncoding.{max_chunks}
use Rattle.xet_xorb.specs.internal.Copying.{AreBefore}
use Rattle.xet_xorb.proofs.reconstruction.read_leaves.Given as goal

abbrev pub invariant-chunks : goal.invariant-chunks
invariant-chunks l = record {
  within : l.at ≤ length l.raw;
  few : vec_len l.leaves ≤ max_chunks;
  each : AllByRecursion (λ m. m.1 < 2 ^ 24) l.leaves.items;
  prefix : (chunks : List (List ℕ)) × AreBefore l.max_chunk l.raw chunks l.at × (l.leaves.items ≡ leaves_of chunks);
}

abbrev pub decreases-chunks : goal.decreases-chunks
decreases-chunks l = length l.raw - l.at
