use Rattle.std.proofs.Common.{rules}
use Rattle.std.proofs.lemmas.List.{append_assoc}
use Rattle.xet_program.specs.Answers.{listed_line}
use Rattle.xet_program.proofs.list.push_line.Goals as goal

pub returns-clause-line : goal.returns-clause-line
unfolding listed_line
returns-clause-line c = search (rules, append_assoc)
