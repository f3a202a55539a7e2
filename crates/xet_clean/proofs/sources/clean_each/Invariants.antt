use Rattle.std.proofs.Common.{◌≡◌, ◌≤◌, length}
use Rattle.std.specs.Vec.{vec_capacity, vec_len}
use Rattle.xet_clean.proofs.Looping.{IsLoop}
use Rattle.xet_clean.proofs.sources.clean_each.Given as goal

abbrev pub invariant-sources : goal.invariant-sources
invariant-sources g l = record {
  loop : IsLoop g.R.Source.tells g.R.Source.left g.R.Source.faults l.fn.policy l.fn.sources l.sources l.at (g.S.Stepping.holder l.fn.asking.steps) (g.S.Stepping.holder l.asking.steps) l.working.cleaned.infos.items l.working.cleaned.choices.items l.working.cleaned.metrics l.working.aggregate;
  infos_count : vec_len l.working.cleaned.infos ≡ l.at;
  choices_count : vec_len l.working.cleaned.choices ≡ l.at;
  infos_room : length l.fn.sources ≤ vec_capacity l.working.cleaned.infos;
  choices_room : length l.fn.sources ≤ vec_capacity l.working.cleaned.choices;
}
