use Rattle.std.proofs.Common.{◌≤◌, ◌*◌, ◌^◌, take}
use Rattle.xet_hash.specs.Merkle.{total_len}
use Rattle.xet_folder.specs.Plan.{Resolves}
use Rattle.xet_folder.specs.Xorbs.{IsListed}
use Rattle.xet_completion.proofs.resolving.resolved.Given as goal

abbrev pub invariant-loop-segment : goal.invariant-loop-segment
invariant-loop-segment l = record {
  resolves : Resolves (IsListed l.xorbs.entries) (λ m. m.1) (take l.segment-index l.segments) l.leaves.items;
  total : total_len l.leaves.items ≤ 2 ^ 32 * l.segment-index;
}
