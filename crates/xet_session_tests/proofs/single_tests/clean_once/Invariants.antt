use Rattle.std.proofs.Common.{false}
use Rattle.xet_session_tests.proofs.single_tests.clean_once.Given as goal

abbrev pub ghosts-clean_in-J-Naming : goal.ghosts-clean_in-J-Naming
ghosts-clean_in-J-Naming g a = record { table = a.opened.word; store = a.store; stops = false }

abbrev pub ghosts-clean_in-J-Ledger : goal.ghosts-clean_in-J-Ledger
ghosts-clean_in-J-Ledger g a = record { name = a.opened.blank.name; parts = a.opened.blank.parts }
