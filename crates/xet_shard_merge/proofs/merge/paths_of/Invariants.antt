use Rattle.std.proofs.Common.{◌≡◌, List, take, ℕ}
use Rattle.xet_shard_merge.proofs.Paths.{has, is_path_of}
use Rattle.xet_shard_merge.proofs.merge.paths_of.Given as goal

abbrev pub invariant-loop-shard : goal.invariant-loop-shard
invariant-loop-shard l = (path : List ℕ) → has path l.paths.keys ≡ is_path_of path (take l.shard-index l.shards)
