use Rattle.xet_shard_registry.proofs.collection.Collection.find.Given as goal

abbrev pub ghosts-find_place : goal.ghosts-find_place
ghosts-find_place a = record { name = a.blank.name; parts = a.blank.parts }
