use Rattle.std.proofs.Common.{◌≡◌, ℕ, ◌+◌, ◌-◌, ◌*◌, ◌^◌, ◌<◌, ◌≤◌, length, take}
use Rattle.xet_shard_index.specs.Runs.{merged}
use Rattle.xet_shard_index.proofs.Merging.{at}
use Rattle.xet_shard_index.proofs.search.find_in_runs.Given as goal

abbrev pub invariant-loop-left : goal.invariant-loop-left
invariant-loop-left g l = record {
  within : l.left ≤ length l.runs;
  same : at l.word (merged l.runs) ≡ at l.word (merged (take l.left l.runs));
  steps : (b : ℕ) → length (merged l.runs) < 2 ^ b → l.steps ≤ l.initial.steps + (b - l.left) * (b - l.left);
}

abbrev pub decreases-loop-left : goal.decreases-loop-left
decreases-loop-left g l = l.left
