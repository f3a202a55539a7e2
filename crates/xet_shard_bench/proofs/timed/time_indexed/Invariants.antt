use Rattle.xet_shard_bench.proofs.timed.time_indexed.Given as goal

abbrev pub ghosts-indexed : goal.ghosts-indexed
ghosts-indexed g a = record { name = a.blank.name; parts = a.blank.parts }
