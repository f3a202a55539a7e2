use Rattle.std.proofs.Common.{true}
use Rattle.xet_store_tests.proofs.locked_tests.halt_once.Given as goal

abbrev pub ghosts-halt-J-Naming : goal.ghosts-halt-J-Naming
ghosts-halt-J-Naming g a = record { table = a.opened.word; store = a.store; stops = true }

abbrev pub ghosts-halt-J-Ledger : goal.ghosts-halt-J-Ledger
ghosts-halt-J-Ledger g a = record { name = a.opened.blank.name; parts = a.opened.blank.parts }
