use Rattle.std.proofs.Common.{false}
use Rattle.xet_session_tests.proofs.single_tests.steps_once.Given as goal

abbrev pub ghosts-steps_in-J-Naming : goal.ghosts-steps_in-J-Naming
ghosts-steps_in-J-Naming g a = record { table = a.opened.word; store = a.store; stops = false }

abbrev pub ghosts-steps_in-J-Ledger : goal.ghosts-steps_in-J-Ledger
ghosts-steps_in-J-Ledger g a = record { name = a.opened.blank.name; parts = a.opened.blank.parts }
