-- The map from chunk hashes to their last positions in a shard in memory.
use Rattle.std.specs.Prelude.{◌≡◌, ℕ, suc, List, [], ◌∷◌, Option, Some, None, option_map, nat_eq}
use Rattle.std.specs.Cmp.Lexicographic.{pointwise}
use Rattle.std.specs.Map.{lookup}
use Rattle.xet_shard_format.specs.declared.record.MDBXorbInfo.{MDBXorbInfo}
use Rattle.xet_shard.specs.Runs.{digests, last_place}

-- the index of the last xorb that has a chunk hash, and its last index in this xorb
unfoldable pub last_at : List ℕ → List MDBXorbInfo → Option (ℕ × ℕ)
last_at h [] = None
last_at h (b ∷ bs) = elim (last_at h bs) [ Some found ↦ Some (suc found.0, found.1) | None ↦ option_map (λ i. (0, i)) (last_place h (digests b.chunks)) ]

-- the entry of each chunk hash is its last position
abbrev pub HasPlaces : List (List ℕ × (ℕ × ℕ)) → List MDBXorbInfo → Type 0
HasPlaces entries blocks = (h : List ℕ) → lookup {X = ℕ × ℕ} (pointwise nat_eq h) entries ≡ last_at h blocks
