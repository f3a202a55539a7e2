use Rattle.std.proofs.Common.{◌≡◌, ℕ, ◌<◌, length, get_or}
use Rattle.xet_cut.specs.Generator.{output, state}
use Rattle.xet_cut.proofs.generator.gear_table.Given as goal

abbrev pub invariant-loop-i : goal.invariant-loop-i
invariant-loop-i l = record {
  len : length l.table ≡ 256;
  at : l.state ≡ state l.seed l.i;
  filled : (k : ℕ) → k < l.i → get_or l.table k 0 ≡ output l.seed k;
}
