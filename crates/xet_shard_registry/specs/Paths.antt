-- The paths of registered shard files.
use Rattle.std.specs.Prelude.{◌≡◌, ℕ, true, List, All, nat_eq}
use Rattle.std.specs.Cmp.Lexicographic.{pointwise}
use Rattle.std.specs.List.{list_any}
use Rattle.std.specs.Map.{keys_of}
use Rattle.xet_hash.specs.Merkle.{chunk_hash}
use Rattle.xet_shard_directory.specs.declared.shard_file.MDBShardFile.{MDBShardFile}

-- There is a number under the digest of the path of each of these shard files. Which shard it is of is not said.
abbrev pub HavePaths : List MDBShardFile → List (List ℕ × ℕ) → Type 0
HavePaths files numbers = All (λ s. list_any (pointwise nat_eq (chunk_hash s.path)) (keys_of numbers) ≡ true) files
