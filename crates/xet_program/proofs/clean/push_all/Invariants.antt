use Rattle.std.proofs.Common.{◌≡◌, ◌≤◌, ◌<◌, ◌+◌, ◌^◌, length, map, string_bytes, take, vec_capacity}
use Rattle.xet_program.specs.internal.Cleaned.{AreOpened}
use Rattle.xet_program.proofs.clean.push_all.Given as goal

abbrev pub invariant-loop-name : goal.invariant-loop-name
invariant-loop-name g l = record {
  files : g.F.Inputs.files l.inputs ≡ g.F.Inputs.files l.initial.inputs;
  tells : g.F.Inputs.tells l.inputs ≡ g.F.Inputs.tells l.initial.inputs;
  later : g.F.Inputs.faults l.initial.inputs ≤ g.F.Inputs.faults l.inputs;
  room : vec_capacity l.sources ≡ vec_capacity l.initial.sources;
  count : length l.sources.items ≡ l.name-index;
  many : g.F.Inputs.opened l.initial.inputs + length l.names < 2 ^ 64 → g.F.Inputs.opened l.inputs ≡ g.F.Inputs.opened l.initial.inputs + length l.sources.items;
  opened : AreOpened (g.F.Inputs.tells l.initial.inputs) (g.F.Inputs.files l.initial.inputs) g.F.S.Source.tells g.F.S.Source.left g.F.S.Source.faults (map string_bytes (take l.name-index l.names)) l.sources.items;
}
