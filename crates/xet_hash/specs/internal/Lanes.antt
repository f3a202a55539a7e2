-- Eight blocks side by side: each word is a vector, and lane j of each vector belongs to block j.
use Rattle.std.specs.Prelude.{ℕ, ◌≡◌, ◌+◌, ◌*◌, ◌≤◌, List, [], ◌∷◌, length, take, drop, map, slice_index}
use Rattle.xet_hash.specs.Blake3.{chunk_value, word_at}

-- the words of block j
abbrev pub lane : ℕ → List (List ℕ) → List ℕ
lane j v = map (λ word. slice_index word j) v

-- the four words of b from byte p on
abbrev pub four_words : List ℕ → ℕ → List ℕ
four_words b p = word_at b p ∷ word_at b (p + 4) ∷ word_at b (p + 8) ∷ word_at b (p + 12) ∷ []

-- The lanes from lane `at` on are the chaining values of the full chunks of b, whose first chunk is chunk number i.
abbrev pub HasChunkValues : List (List ℕ) → ℕ → List ℕ → ℕ → ℕ → List ℕ → Type 0
HasChunkValues v at key flags i b =
    (j : ℕ) → 1024 * j + 1024 ≤ length b → lane (at + j) v ≡ chunk_value key flags 0 (i + j) (take 1024 (drop (1024 * j) b))
