-- The items of one shard, sorted by their words, for private functions.
use Rattle.std.specs.Prelude.{ℕ, ◌==◌, List, [], ◌∷◌, map, if◌then◌else◌}
use Rattle.xet_shard_index.specs.Places.{within_reach, word_place}
use Rattle.xet_shard_index.specs.Runs.{Item}

-- the words and places of the items within reach
abbrev pub placed : ℕ → List (ℕ × ℕ × ℕ) → List Item
placed shard items = map (λ i. (i.0, word_place shard (i.1, i.2))) (within_reach items)

-- the items that are followed at once by none with their word
unfoldable pub lasts : List Item → List Item
lasts [] = []
lasts (i ∷ []) = i ∷ []
lasts (i ∷ j ∷ js) = if i.0 == j.0 then lasts (j ∷ js) else i ∷ lasts (j ∷ js)
