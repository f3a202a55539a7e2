use Rattle.std.proofs.Common.{◌+◌, arith}
use Rattle.std.proofs.lemmas.Bool.{false_from_ne_true}
use Rattle.std.proofs.lemmas.List.{take_rest}
use Rattle.xet_program.proofs.Ranged.{words_first, words_only}
use Rattle.xet_program.proofs.lines.first_word.Goals as goal

pub returns-in_err-end-clause-none : goal.returns-in_err-end-clause-none
returns-in_err-end-clause-none c =
    rw c.from_residual.ensures (words_only c.args.line.now (λ k h. false_from_ne_true _ (c.in_err-end.ensures k (omega arith) h)))

pub returns-clause-found : goal.returns-clause-found
returns-clause-found c =
    let line = c.args.line.now in
    let found = c.in_ok-end.ensures in
    words_first line _ c.in_ok-end.end found.0.high (λ k h. false_from_ne_true _ (found.0.before k (omega arith) h)) found.1 (take_rest line (c.in_ok-end.end + 1))
