use Rattle.std.proofs.Common.{false}
use Rattle.xet_store_tests.proofs.passing_tests.pass_once.Given as goal

abbrev pub ghosts-pass_steps-J-Naming : goal.ghosts-pass_steps-J-Naming
ghosts-pass_steps-J-Naming g a = record { table = a.opened.word; store = a.store; stops = false }

abbrev pub ghosts-pass_steps-J-Ledger : goal.ghosts-pass_steps-J-Ledger
ghosts-pass_steps-J-Ledger g a = record { name = a.opened.blank.name; parts = a.opened.blank.parts }
