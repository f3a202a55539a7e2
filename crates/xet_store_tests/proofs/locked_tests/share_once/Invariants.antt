use Rattle.std.proofs.Common.{false}
use Rattle.xet_store_tests.proofs.locked_tests.share_once.Given as goal

abbrev pub ghosts-share-J-Naming : goal.ghosts-share-J-Naming
ghosts-share-J-Naming g a = record { table = a.opened.word; store = a.store; stops = false }

abbrev pub ghosts-share-J-Ledger : goal.ghosts-share-J-Ledger
ghosts-share-J-Ledger g a = record { name = a.opened.blank.name; parts = a.opened.blank.parts }
