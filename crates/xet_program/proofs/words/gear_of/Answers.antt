use Rattle.std.proofs.Common.{◌∙◌, ap, sym, Some}
use Rattle.std.specs.Option.{option_map}
use Rattle.xet_cut.specs.Generator.{gear_table}
use Rattle.xet_program.proofs.Commands.{gear_one, gear_seed, gear_zero}
use Rattle.xet_program.proofs.words.gear_of.Goals as goal

pub returns-in-zero : goal.returns-in-zero
returns-in-zero c = ap Some c.constant_table.ensures ∙ sym (gear_zero c.args.word.now c.in-zero.is)

pub returns-in-one : goal.returns-in-one
returns-in-one c = ap Some c.constant_table-in-one.ensures ∙ sym (gear_one c.args.word.now c.in-one.is)

pub returns-in_err-number_of-in_default : goal.returns-in_err-number_of-in_default
returns-in_err-number_of-in_default c =
    c.from_residual.ensures
    ∙ sym (gear_seed c.args.word.now c.in_default.not-zero c.in_default.not-one ∙ ap (option_map gear_table) (sym c.in_err-number_of-in_default.ensures))

pub returns-in_ok-number_of-in_default : goal.returns-in_ok-number_of-in_default
returns-in_ok-number_of-in_default c =
    ap Some c.gear_table.ensures
    ∙ sym (gear_seed c.args.word.now c.in_default.not-zero c.in_default.not-one ∙ ap (option_map gear_table) (sym c.in_ok-number_of-in_default.ensures))
