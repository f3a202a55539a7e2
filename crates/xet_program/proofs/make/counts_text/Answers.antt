use Rattle.std.proofs.Common.{rules}
use Rattle.std.proofs.lemmas.List.{append_assoc}
use Rattle.xet_program.specs.internal.Made.{counts_text}
use Rattle.xet_program.proofs.make.counts_text.Goals as goal

pub returns-clause-text : goal.returns-clause-text
unfolding counts_text
returns-clause-text c = search (rules, append_assoc)
