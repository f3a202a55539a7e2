use Rattle.std.proofs.Common.{◌≡◌, ◌+◌, ◌*◌, ◌-◌, ◌≤◌, List, length, take, ℕ}
use Rattle.std.specs.List.{AllByRecursion}
use Rattle.xet_io.specs.Faults.{HasCause}
use Rattle.xet_codec.specs.Blocks.{IsPart, Sees}
use Rattle.xet_hash.specs.Merkle.{total_len}
use Rattle.xet_xorb.specs.internal.Checking.{HaveLeaves}
use Rattle.xet_xorb.proofs.validation.stored_leaves.Given as goal
use Rattle.xet_io.specs.Lent.{IsSameLent}

abbrev pub invariant-chunks : goal.invariant-chunks
invariant-chunks g l = record {
  size : total_len l.leaves.items + 8 * length l.leaves.items ≡ l.at;
  fit : AllByRecursion (λ m. m.1 ≤ l.max_chunk) l.leaves.items;
  within : l.at ≤ l.end;
  same : g.R.ReadAt.bytes l.reader ≡ g.R.ReadAt.bytes l.initial.reader;
  tells : g.R.ReadAt.tells l.reader ≡ g.R.ReadAt.tells l.initial.reader;
  cause : HasCause (g.R.ReadAt.faults l.initial.reader) (g.R.ReadAt.faults l.reader) ⊥;
  lent : IsSameLent (g.R.ReadAt.lent l.initial.reader) (g.R.ReadAt.lent l.reader);
  part : (bytes : List ℕ) → Sees (g.R.ReadAt.tells l.initial.reader) (g.R.ReadAt.bytes l.initial.reader) bytes l.len l.initial.block → IsPart l.block bytes;
  found : (bytes : List ℕ) → Sees (g.R.ReadAt.tells l.initial.reader) (g.R.ReadAt.bytes l.initial.reader) bytes l.len l.initial.block → HaveLeaves l.max_chunk (take l.at bytes) l.leaves.items;
}

abbrev pub decreases-chunks : goal.decreases-chunks
decreases-chunks g l = l.end - l.at
