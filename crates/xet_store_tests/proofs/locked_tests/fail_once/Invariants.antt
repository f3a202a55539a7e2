use Rattle.std.proofs.Common.{false}
use Rattle.xet_store_tests.proofs.locked_tests.fail_once.Given as goal

abbrev pub ghosts-fail_session-J-Naming : goal.ghosts-fail_session-J-Naming
ghosts-fail_session-J-Naming g a = record { table = a.opened.word; store = a.store; stops = false }

abbrev pub ghosts-fail_session-J-Ledger : goal.ghosts-fail_session-J-Ledger
ghosts-fail_session-J-Ledger g a = record { name = a.opened.blank.name; parts = a.opened.blank.parts }
