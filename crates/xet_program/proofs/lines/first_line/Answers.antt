use Rattle.std.proofs.Common.{◌∙◌, ◌+◌, arith}
use Rattle.std.proofs.lemmas.Bool.{false_from_ne_true}
use Rattle.std.proofs.lemmas.List.{take_rest, drop_all}
use Rattle.xet_program.proofs.LinesOf.{lines_at_lf, lines_without_lf}
use Rattle.xet_program.proofs.lines.first_line.Goals as goal

pub returns-in-Some-clause-line : goal.returns-in-Some-clause-line
returns-in-Some-clause-line c =
    let bytes = c.args.bytes.now in
    let found = c.in-Some.ensures in
    lines_at_lf bytes _ _ c.in-Some.end found.0.high (λ k h. false_from_ne_true _ (found.0.before k (omega arith) h)) found.1 c.without_return.ensures (take_rest bytes (c.in-Some.end + 1))

pub returns-in-None-clause-line : goal.returns-in-None-clause-line
returns-in-None-clause-line c =
    let bytes = c.args.bytes.now in
    lines_without_lf bytes _ c.requires (λ k h. false_from_ne_true _ (c.in-None.ensures k (omega arith) h)) (take_rest bytes _ ∙ drop_all _ bytes (omega arith))
