-- Rows with other values under the same hashes.
use Rattle.std.proofs.Common.{◌≡◌, ◌∙◌, ◌<◌, ◌∷◌, [], ℕ, List, length, get_or, map, ap, sym, arith}
use Rattle.std.proofs.Math.ListN.{get_or-map}
use Rattle.std.proofs.lemmas.List.{get_or_default, length-map}
use Rattle.xet_store_disk.specs.Store.{Differ}

module _ {X Y : Type 0} (f : X → Y) where
  abbrev with_value : List ℕ × X → List ℕ × Y
  with_value r = (r.0, f r.1)

  same_hash : (rows : List (List ℕ × X)) (r : List ℕ × X) (d : List ℕ × Y) (k : ℕ) → k < length (map with_value rows) → (get_or (map with_value rows) k d).0 ≡ (get_or rows k r).0
  same_hash rows r d k below =
      ap (λ (x : List ℕ × Y). x.0) (get_or_default (map with_value rows) k d (with_value r) below) ∙ ap (λ (x : List ℕ × Y). x.0) (get_or-map with_value rows k r)

  pub differ_by : (rows : List (List ℕ × X)) → Differ rows → Differ (map with_value rows)
  differ_by [] differ i j d lt below same = absurd (omega (arith, below))
  differ_by (r ∷ rows) differ i j d lt below same =
      differ i j r lt (omega (arith, below, length-map (r ∷ rows) with_value))
      (sym (same_hash (r ∷ rows) r d i (omega (arith, lt, below))) ∙ same ∙ same_hash (r ∷ rows) r d j below)
