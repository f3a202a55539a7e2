use Rattle.std.proofs.Common.{◌≡◌, ◌⊎◌, ◌<◌, ◌≤◌, ◌-◌, Any, length}
use Rattle.xet_io.specs.Faults.{Rose}
use Rattle.xet_program.proofs.clean.close_all.Given as goal

abbrev pub invariant-sources : goal.invariant-sources
invariant-sources g l = record {
  many : g.F.Inputs.opened l.inputs ≡ g.F.Inputs.opened l.fn.inputs - (length l.fn.sources.items - length l.sources.items);
  few : length l.sources.items ≤ length l.fn.sources.items;
  files : g.F.Inputs.files l.inputs ≡ g.F.Inputs.files l.fn.inputs;
  tells : g.F.Inputs.tells l.inputs ≡ g.F.Inputs.tells l.fn.inputs;
  later : g.F.Inputs.faults l.fn.inputs ≤ g.F.Inputs.faults l.inputs;
  failed : Any (λ s. 0 < g.F.S.Source.faults s) l.fn.sources.items → Any (λ s. 0 < g.F.S.Source.faults s) l.sources.items ⊎ Rose (g.F.Inputs.faults l.fn.inputs) (g.F.Inputs.faults l.inputs);
}

abbrev pub decreases-sources : goal.decreases-sources
decreases-sources g l = length l.sources.items
