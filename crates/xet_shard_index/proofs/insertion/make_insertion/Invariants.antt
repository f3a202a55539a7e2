use Rattle.xet_shard_index.proofs.insertion.make_insertion.Given as goal

abbrev pub ghosts-count_new : goal.ghosts-count_new
ghosts-count_new a = record { name = a.blank.name; parts = a.blank.parts }
