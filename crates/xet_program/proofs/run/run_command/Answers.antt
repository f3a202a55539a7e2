use Rattle.std.proofs.Common.{◌≡◌, ◌∙◌, Option, Some, ap, map, option_map, string_bytes, subst, sym}
use Rattle.xet_program.specs.internal.Answered.{Answered}
use Rattle.xet_program.specs.internal.Asked.{asked}
use Rattle.xet_program.specs.Start.{start}
use Rattle.xet_program.specs.internal.Stops.{answer_outcome}
use Rattle.xet_program.specs.Words.{Command, command_of}
use Rattle.xet_program.proofs.Answered.{answered_told}
use Rattle.xet_program.proofs.run.run_command.Goals as goal

pub returns-in-Ok-Some-clause-answered : goal.returns-in-Ok-Some-clause-answered
returns-in-Ok-Some-clause-answered g c =
    let command = command_of (map string_bytes c.args.words.now) in
    let from = start (g.I.Source.tells c.args.input.now) (g.I.Source.left c.args.input.now) (g.F.Inputs.tells c.args.inputs.now) (g.F.Inputs.files c.args.inputs.now) c.args.now (g.D.Disk.tells c.args.disk) (g.D.Disk.files c.args.disk) in
    let new = g.D.Disk.files c.answer-disk.result.0 in
    let o = answer_outcome c.answer-disk.result.1 in
    let asks : Some (asked c.in-Ok-Some.command) ≡ command = sym (ap (option_map asked) c.in-Ok-Some.field-0-is) ∙ c.in-Ok-Some.ensures.command in
    answered_told command from new o c.of_answer.result (subst (λ (x : Option Command). Answered x from new o) asks c.answer-disk.ensures.answered) c.of_answer.ensures.ends
