use Rattle.std.proofs.Common.{rules}
use Rattle.std.proofs.lemmas.List.{append_assoc}
use Rattle.xet_program.specs.internal.Report.{info_line}
use Rattle.xet_program.proofs.report.push_info_line.Goals as goal

pub returns-clause-line : goal.returns-clause-line
unfolding info_line
returns-clause-line c = search (rules, append_assoc)
