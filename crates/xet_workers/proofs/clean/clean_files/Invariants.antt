use Rattle.std.proofs.Common.{true}
use Rattle.xet_workers.proofs.clean.clean_files.Given as goal

abbrev pub ghosts-clean_named-J-Naming : goal.ghosts-clean_named-J-Naming
ghosts-clean_named-J-Naming g a = record { table = a.opened.word; store = a.store; stops = true }

abbrev pub ghosts-clean_named-J-Ledger : goal.ghosts-clean_named-J-Ledger
ghosts-clean_named-J-Ledger g a = record { name = a.opened.blank.name; parts = a.opened.blank.parts }
