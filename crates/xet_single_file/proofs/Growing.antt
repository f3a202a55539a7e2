-- More bytes have at least as many chunks.
use Rattle.std.proofs.Common.{◌≡◌, ℕ, zero, suc, ◌<◌, ◌≤◌, List, [], ◌∷◌, ◌++◌, length, take, drop, Option, Some, None, refl, ap, arith}
use Rattle.std.proofs.lemmas.List.{append-nil, length-drop, length-map}
use Rattle.xet_base.specs.theorems.Pieces.{pieces_none, pieces_step}
use Rattle.xet_clean.specs.Files.{leaves_in}
use Rattle.xet_cut.specs.Chunking.{chunking, first_chunk_len}
use Rattle.xet_cut.specs.Streams.{boundary_in}
use Rattle.xet_cut.specs.declared.limits.LimitSettings.{LimitSettings}
use Rattle.xet_cut.specs.theorems.FirstBoundary.{is_first}
use Rattle.xet_cut.specs.theorems.Parts.{first_chunk_len_within}
use Rattle.xet_cut.specs.theorems.Streams.{chunking_cut, chunking_unended}
use Rattle.xet_hash.specs.Merkle.{leaf_of}

module _ (s : LimitSettings) (some : 1 ≤ s.minimum_chunk) (order : s.minimum_chunk < s.maximum_chunk) where
  -- bytes have a chunk
  one_chunk : (bs : List ℕ) → 0 < length bs → 0 < length (chunking s bs)
  one_chunk bs any =
      let n : ℕ = first_chunk_len s bs in
      let step : chunking s bs ≡ take n bs ∷ chunking s (drop n bs) = pieces_step (first_chunk_len s) bs n any refl (first_chunk_len_within s bs some order any).0 in
      omega (arith, ap length step)

  no_boundary : (bs rest : List ℕ) → boundary_in s bs ≡ None → length (chunking s bs) ≤ length (chunking s (bs ++ rest))
  no_boundary [] rest none = omega (arith, ap length (chunking_unended s [] none))
  no_boundary (b ∷ bs) rest none = omega (arith, ap length (chunking_unended s (b ∷ bs) none), one_chunk ((b ∷ bs) ++ rest) (omega arith))

  by_boundary : (n : ℕ) (bs rest : List ℕ) → length bs ≤ suc n → ((cs : List ℕ) → length cs ≤ n → length (chunking s cs) ≤ length (chunking s (cs ++ rest))) → (o : Option ℕ) → boundary_in s bs ≡ o
      → length (chunking s bs) ≤ length (chunking s (bs ++ rest))
  by_boundary n bs rest le shorter None none = no_boundary bs rest none
  by_boundary n bs rest le shorter (Some k) found =
      let f = is_first s bs k (omega (arith, order)) found in
      omega (
        arith,
        shorter (drop k bs) (omega (arith, le, f.low, some, length-drop k bs)),
        ap length (chunking_cut s bs rest k some order found),
        ap length (chunking_cut s bs [] k some order found),
        ap (λ (l : List ℕ). length (chunking s l)) (append-nil bs),
        ap (λ (l : List ℕ). length (chunking s l)) (append-nil (drop k bs)),
      )

  chunks_within : (n : ℕ) (bs rest : List ℕ) → length bs ≤ n → length (chunking s bs) ≤ length (chunking s (bs ++ rest))
  chunks_within zero [] rest le =
      let none : chunking s [] ≡ [] = pieces_none (first_chunk_len s) [] refl in
      omega (arith, ap length none)
  chunks_within zero (b ∷ bs) rest le = absurd (omega (arith, le))
  chunks_within (suc n) bs rest le = by_boundary n bs rest le (λ cs. chunks_within n cs rest) (boundary_in s bs) refl

  pub leaves_more : (bs rest : List ℕ) → length (leaves_in s bs) ≤ length (leaves_in s (bs ++ rest))
  leaves_more bs rest = omega (arith, chunks_within (length bs) bs rest (omega arith), length-map (chunking s bs) leaf_of, length-map (chunking s (bs ++ rest)) leaf_of)
