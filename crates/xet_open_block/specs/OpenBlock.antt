-- The open block: the chunks of the xorb that is being filled, and the runs of chunks in it. Its leaves are the
-- (hash, length) pairs of its chunks.
use Rattle.std.specs.Prelude.{◌≡◌, ◌<◌, ℕ, suc, ◌+◌, ◌^◌, ◌==◌, nat_eq, List, [], ◌∷◌, length, map, Option, Some, None, option_map, if◌then◌else◌}
use Rattle.std.specs.Cmp.Lexicographic.{pointwise}
use Rattle.std.specs.Map.{lookup}
use Rattle.xet_choices.specs.Choices.{last_place}
use Rattle.xet_xorb_chunk.specs.declared.chunk.Chunk.{Chunk}
use Rattle.xet_xorb_chunk.specs.Chunks.{chunk_leaf, total}

-- the last index of the first of these hashes
abbrev pub first_place : List (List ℕ) → List (List ℕ × ℕ) → Option ℕ
first_place [] leaves = None
first_place (h ∷ hs) leaves = last_place h leaves

-- How many of these hashes, from the first on, have their last indices at `at`, `at + 1` and so on.
unfoldable pub run_from : List (List ℕ) → ℕ → List (List ℕ × ℕ) → ℕ
run_from [] at leaves = 0
run_from (h ∷ hs) at leaves = elim (last_place h leaves) [ Some i ↦ if i == at then suc (run_from hs (suc at) leaves) else 0 | None ↦ 0 ]

-- The run of a query: the last index of its first hash, and the length of the run from there. None if the open block
-- does not have this hash.
unfoldable pub open_run : List (List ℕ) → List (List ℕ × ℕ) → Option (ℕ × ℕ)
open_run hashes leaves = option_map (λ at. (at, run_from hashes at leaves)) (first_place hashes leaves)

-- The invariant of an open block: the sum of its bytes is kept, and the table has the last index of each hash.
pub record IsTracked (chunks : List Chunk) (bytes : ℕ) (places : List (List ℕ × ℕ)) : Type 0 where
  pub sum : bytes ≡ total chunks
  pub small : bytes < 2 ^ 63
  pub last : (h : List ℕ) → lookup {X = ℕ} (pointwise nat_eq h) places ≡ last_place h (map chunk_leaf chunks)
