use Rattle.std.proofs.Common.{true}
use Rattle.xet_store_tests.proofs.locked_tests.end_once.Given as goal

abbrev pub ghosts-end_session-J-Naming : goal.ghosts-end_session-J-Naming
ghosts-end_session-J-Naming g a = record { table = a.opened.word; store = a.store; stops = true }

abbrev pub ghosts-end_session-J-Ledger : goal.ghosts-end_session-J-Ledger
ghosts-end_session-J-Ledger g a = record { name = a.opened.blank.name; parts = a.opened.blank.parts }
