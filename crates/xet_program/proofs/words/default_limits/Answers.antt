use Rattle.std.proofs.Common.{◌∙◌, ap}
use Rattle.xet_cut.specs.Limits.{shown_settings}
use Rattle.xet_program.specs.Tasks.{default_limits}
use Rattle.xet_program.proofs.Commands.{shown_in_range}
use Rattle.xet_program.proofs.words.default_limits.Goals as goal

pub unreachable-requires : goal.unreachable-requires
unreachable-requires c = rw (c.shown.ensures, shown_in_range c.gear_table.result) at c.in-Err.ensures.refused

pub returns : goal.returns
unfolding default_limits
returns c = c.in-Ok.ensures.ok.0 ∙ c.shown.ensures ∙ ap shown_settings c.gear_table.ensures
