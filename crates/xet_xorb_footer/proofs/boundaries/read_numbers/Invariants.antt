use Rattle.std.proofs.Common.{◌≡◌, ◌≤◌, ◌+◌, ◌-◌, ◌*◌, ◌++◌, List, Ok, drop, length, ℕ}
use Rattle.xet_codec.specs.Blocks.{IsPart, Sees}
use Rattle.xet_codec.specs.Parsing.{◌>>=◌, number_at, times}
use Rattle.xet_xorb_footer.proofs.boundaries.read_numbers.Given as goal
use Rattle.xet_io.specs.Frame.{ReadFrom}

abbrev pub invariant-numbers : goal.invariant-numbers
invariant-numbers g l = record {
  taken : (bytes : List ℕ) → Sees (g.R.ReadAt.tells l.fn.reader) (g.R.ReadAt.bytes l.fn.reader) bytes l.end l.fn.block
      → (times number_at (l.count - length l.list.items) (drop l.to bytes) >>= λ x. Ok (l.list.items ++ x.0, x.1)) ≡ times number_at l.count (drop l.at bytes);
  part : (bytes : List ℕ) → Sees (g.R.ReadAt.tells l.fn.reader) (g.R.ReadAt.bytes l.fn.reader) bytes l.end l.fn.block → IsPart l.block bytes;
  few : length l.list.items ≤ l.count;
  place : l.to ≡ l.at + 4 * length l.list.items;
  within : l.to ≤ l.end;
  frame : ReadFrom g.R.ReadAt.bytes g.R.ReadAt.tells g.R.ReadAt.faults g.R.ReadAt.lent l.fn.reader l.reader ⊥;
}

abbrev pub decreases-numbers : goal.decreases-numbers
decreases-numbers g l = l.count - length l.list.items
