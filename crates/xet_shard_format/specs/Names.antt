-- File names of shards.
use Rattle.std.specs.Prelude.{ℕ, List, ◌++◌, codes}
use Rattle.xet_hash.specs.Hash.{hash_text}

-- the file name of the shard with this hash, without its folder
abbrev pub shard_name : List ℕ → List ℕ
shard_name h = hash_text h ++ codes ".mdb"
