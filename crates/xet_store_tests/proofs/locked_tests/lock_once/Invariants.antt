use Rattle.std.proofs.Common.{false}
use Rattle.xet_store_tests.proofs.locked_tests.lock_once.Given as goal

abbrev pub ghosts-lock-J-Naming : goal.ghosts-lock-J-Naming
ghosts-lock-J-Naming a = record { table = a.opened.word; store = a.store; stops = false }

abbrev pub ghosts-lock-J-Ledger : goal.ghosts-lock-J-Ledger
ghosts-lock-J-Ledger a = record { name = a.opened.blank.name; parts = a.opened.blank.parts }
