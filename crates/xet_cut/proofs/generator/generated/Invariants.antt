use Rattle.std.proofs.Common.{◌≡◌, ◌+◌, ◌/◌, ◌%◌, ◌<◌}
use Rattle.std.specs.Int.{w64, to_le_bytes}
use Rattle.xet_cut.specs.Generator.{generated, output, state}
use Rattle.xet_cut.proofs.generator.generated.Given as goal

abbrev pub invariant-loop-i : goal.invariant-loop-i
invariant-loop-i l = record {
  bytes : l.bytes.items ≡ generated l.seed l.i;
  at : l.state ≡ state l.seed ((l.i + 7) / 8);
  word : 0 < l.i % 8 → l.word ≡ to_le_bytes w64 (output l.seed (l.i / 8));
}
