use Rattle.std.proofs.Common.{◌≡◌, ◌≤◌, ◌+◌, ℕ, false, length, take, drop, Some}
use Rattle.std.specs.Str.Lines.{lines}
use Rattle.std.specs.Option.{option_map}
use Rattle.xet_program.specs.Lines.{good_lines, is_bad_at}
use Rattle.xet_program.specs.internal.Parsing.{parted}
use Rattle.xet_program.proofs.lines.parse.Given as goal

abbrev pub invariant-lines : goal.invariant-lines
invariant-lines l = record {
  few : l.number + length l.rest ≤ length l.input;
  count : l.number + length (lines l.rest) ≡ length (lines l.input);
  rest : lines l.rest ≡ drop l.number (lines l.input);
  said : option_map parted (good_lines (take l.number (lines l.input))) ≡ Some l.said;
  before : (j : ℕ) → 1 ≤ j → j ≤ l.number → is_bad_at (lines l.input) j ≡ false;
}

abbrev pub decreases-lines : goal.decreases-lines
decreases-lines l = length l.rest
