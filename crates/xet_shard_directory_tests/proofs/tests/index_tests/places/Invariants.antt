use Rattle.xet_shard_directory_tests.proofs.tests.index_tests.places.Given as goal

abbrev pub ghosts-places_of : goal.ghosts-places_of
ghosts-places_of a = record { name = a.blank.name; parts = a.blank.parts }
