use Rattle.std.proofs.Common.{◌≡◌, ◌+◌, ◌-◌, ◌≤◌, List, drop, length, take, ℕ}
use Rattle.xet_io.specs.Faults.{HasCause}
use Rattle.xet_codec.specs.Blocks.{IsPart, Sees}
use Rattle.xet_xorb.proofs.validation.stands_at.Given as goal
use Rattle.xet_io.specs.Lent.{IsSameLent}

abbrev pub invariant-pieces : goal.invariant-pieces
invariant-pieces g l = record {
  within : l.done ≤ length l.encoding;
  room : l.at + length l.encoding ≤ l.len;
  same : g.R.ReadAt.bytes l.reader ≡ g.R.ReadAt.bytes l.initial.reader;
  tells : g.R.ReadAt.tells l.reader ≡ g.R.ReadAt.tells l.initial.reader;
  cause : HasCause (g.R.ReadAt.faults l.initial.reader) (g.R.ReadAt.faults l.reader) ⊥;
  lent : IsSameLent (g.R.ReadAt.lent l.initial.reader) (g.R.ReadAt.lent l.reader);
  part : (bytes : List ℕ) → Sees (g.R.ReadAt.tells l.initial.reader) (g.R.ReadAt.bytes l.initial.reader) bytes l.len l.initial.block → IsPart l.block bytes;
  found : (bytes : List ℕ) → Sees (g.R.ReadAt.tells l.initial.reader) (g.R.ReadAt.bytes l.initial.reader) bytes l.len l.initial.block → take l.done l.encoding ≡ take l.done (drop l.at bytes);
}

abbrev pub decreases-pieces : goal.decreases-pieces
decreases-pieces g l = length l.encoding - l.done
