-- The complete chunks of bytes: those that end at a boundary, whatever follows.
use Rattle.std.proofs.Common.{◌≡◌, ◌∙◌, ℕ, ◌+◌, ◌<◌, ◌≤◌, true, List, [], ◌∷◌, ◌++◌, length, take, drop, Option, Some, None, unwrap_or, refl, sym, ap, arith, inl, inr, length-append, length-take}
use Rattle.std.proofs.lemmas.List.{append-nil, length-take-le, take-append-drop}
use Rattle.std.proofs.lemmas.Bool.{cases_lt, false≢true}
use Rattle.xet_base.specs.theorems.Pieces.{pieces_step}
use Rattle.xet_cut.specs.declared.limits.LimitSettings.{LimitSettings}
use Rattle.xet_cut.specs.Chunking.{chunking, first_chunk_len, may_end}
use Rattle.xet_cut.specs.Partitions.{complete_chunks}
use Rattle.xet_cut.specs.Streams.{boundary_in}
use Rattle.xet_cut.specs.theorems.FirstBoundary.{first_chunk_len_is, first_found, is_first, is_none, may_end-append}
use Rattle.xet_cut.specs.theorems.Streams.{chunking_cut, chunking_unended}

-- the first boundary is within the first chunk too
pub boundary_in_first : (s : LimitSettings) (bs : List ℕ) (k : ℕ) → s.minimum_chunk < s.maximum_chunk → boundary_in s bs ≡ Some k → boundary_in s (take k bs) ≡ Some k
boundary_in_first s bs k order found =
    let f = is_first s bs k (omega arith) found in
    let len : length (take k bs) ≡ k = length-take-le k bs f.within in
    let same : (j : ℕ) → j ≤ k → may_end s (take k bs) j ≡ may_end s bs j =
    λ j within. sym (may_end-append s (take k bs) (drop k bs) j (omega arith)) ∙ ap (λ (t : List ℕ). may_end s t j) (take-append-drop k bs) in
    first_found s (take k bs) k record {
      low = f.low;
      within = omega arith;
      high = f.high;
      none = λ j low high. same j (omega arith) ∙ f.none j low high;
      ends = λ below. same k (omega arith) ∙ f.ends below;
    }

-- the first chunk is complete
pub complete_cut : (s : LimitSettings) (bs : List ℕ) (k : ℕ) → 1 ≤ s.minimum_chunk → s.minimum_chunk < s.maximum_chunk → boundary_in s bs ≡ Some k
    → complete_chunks s bs ≡ take k bs ∷ complete_chunks s (drop k bs)
complete_cut s bs k some order found =
    let chunks : chunking s bs ≡ take k bs ∷ chunking s (drop k bs) =
    ap (chunking s) (sym (append-nil bs)) ∙ chunking_cut s bs [] k some order found ∙ ap (λ (t : List ℕ). take k bs ∷ chunking s t) (append-nil (drop k bs)) in
    rw (chunks, boundary_in_first s bs k order found) refl

-- no chunk is complete
pub complete_unended : (s : LimitSettings) (bs : List ℕ) → boundary_in s bs ≡ None → complete_chunks s bs ≡ []
complete_unended s [] none = rw (chunking_unended s [] none) refl
complete_unended s (b ∷ bs) none = rw (chunking_unended s (b ∷ bs) none, none) refl

-- the first chunk, and those after it
first_of_chunks : (s : LimitSettings) (bs c : List ℕ) (rest : List (List ℕ)) → 0 < length bs → 0 < first_chunk_len s bs → chunking s bs ≡ c ∷ rest → take (first_chunk_len s bs) bs ≡ c
first_of_chunks s bs c rest some positive is =
    let step = pieces_step (first_chunk_len s) bs (first_chunk_len s bs) some refl positive in cc (step, is)

-- bytes with no boundary within them are not a chunk if one byte more follows
not_a_chunk : (s : LimitSettings) (bs : List ℕ) (rest : List (List ℕ)) → s.minimum_chunk < s.maximum_chunk → 0 < length bs → boundary_in s bs ≡ None → chunking s (bs ++ 0 ∷ []) ≡ bs ∷ rest → ⊥
not_a_chunk s bs rest order some none is = by_boundary (boundary_in s (bs ++ 0 ∷ [])) refl
  where
    by_boundary : (o : Option ℕ) → boundary_in s (bs ++ 0 ∷ []) ≡ o → ⊥
    by_boundary None found =
        let len : length (bs ++ 0 ∷ []) ≡ length bs + 1 = length-append bs (0 ∷ []) in
        let n : first_chunk_len s (bs ++ 0 ∷ []) ≡ length bs + 1 = first_chunk_len_is s (bs ++ 0 ∷ []) ∙ ap (λ (o : Option ℕ). unwrap_or o (length (bs ++ 0 ∷ []))) found ∙ len in
        let first = ap length (first_of_chunks s (bs ++ 0 ∷ []) bs rest (omega arith) (omega arith) is) in
        omega (arith, first, length-take (first_chunk_len s (bs ++ 0 ∷ [])) (bs ++ 0 ∷ []))
    by_boundary (Some k) found =
        let len : length (bs ++ 0 ∷ []) ≡ length bs + 1 = length-append bs (0 ∷ []) in
        let f = is_first s (bs ++ 0 ∷ []) k (omega arith) found in
        let no = is_none s bs none in
        let n : first_chunk_len s (bs ++ 0 ∷ []) ≡ k = first_chunk_len_is s (bs ++ 0 ∷ []) ∙ ap (λ (o : Option ℕ). unwrap_or o (length (bs ++ 0 ∷ []))) found in
        elim (cases_lt 0 k) [
          | inl positive ↦
              let first = ap length (first_of_chunks s (bs ++ 0 ∷ []) bs rest (omega arith) (omega arith) is) in
              let at : k ≡ length bs = omega (arith, first, f.within, length-take (first_chunk_len s (bs ++ 0 ∷ [])) (bs ++ 0 ∷ [])) in
              let ends : may_end s bs k ≡ true = sym (may_end-append s bs (0 ∷ []) k (omega arith)) ∙ f.ends (omega (arith, no.short)) in
              false≢true (sym (no.none k f.low (omega arith)) ∙ ends)
          | inr zero ↦
              let early : may_end s bs k ≡ true = sym (may_end-append s bs (0 ∷ []) k (omega arith)) ∙ f.ends (omega (arith, no.short)) in
              false≢true (sym (no.none k f.low (omega arith)) ∙ early)
        ]

-- one chunk of bytes with no boundary within them
only_chunk : (s : LimitSettings) (bs c : List ℕ) (rest : List (List ℕ)) → boundary_in s bs ≡ None → chunking s bs ≡ c ∷ rest → (0 < length bs) × (bs ≡ c)
only_chunk s [] c rest none is = absurd (cc (is, chunking_unended s [] none))
only_chunk s (b ∷ bs) c rest none is = (omega arith, cc (is, chunking_unended s (b ∷ bs) none))

-- the chunks into which bytes are split are the complete ones
pub split_complete : (s : LimitSettings) (chunks : List (List ℕ)) (bs left : List ℕ) → 1 ≤ s.minimum_chunk → s.minimum_chunk < s.maximum_chunk
    → ((rest : List ℕ) → chunking s (bs ++ rest) ≡ chunks ++ chunking s (left ++ rest)) → boundary_in s left ≡ None → complete_chunks s bs ≡ chunks
split_complete s [] bs left some order joined none =
    let same : chunking s bs ≡ chunking s left = ap (chunking s) (sym (append-nil bs)) ∙ joined [] ∙ ap (chunking s) (append-nil left) in
    rw same (complete_unended s left none)
split_complete s (c ∷ cs) bs left some order joined none = by_boundary (split_complete s cs) (boundary_in s bs) refl
  where
    by_boundary : ((bs left : List ℕ) → 1 ≤ s.minimum_chunk → s.minimum_chunk < s.maximum_chunk
        → ((rest : List ℕ) → chunking s (bs ++ rest) ≡ cs ++ chunking s (left ++ rest)) → boundary_in s left ≡ None → complete_chunks s bs ≡ cs)
        → (o : Option ℕ) → boundary_in s bs ≡ o → complete_chunks s bs ≡ c ∷ cs
    by_boundary more None found =
        let whole : chunking s bs ≡ c ∷ (cs ++ chunking s (left ++ [])) = ap (chunking s) (sym (append-nil bs)) ∙ joined [] in
        let only = only_chunk s bs c (cs ++ chunking s (left ++ [])) found whole in
        let one : chunking s (bs ++ 0 ∷ []) ≡ bs ∷ (cs ++ chunking s (left ++ 0 ∷ [])) = joined (0 ∷ []) ∙ ap (λ (t : List ℕ). t ∷ (cs ++ chunking s (left ++ 0 ∷ []))) (sym only.1) in
        absurd (not_a_chunk s bs (cs ++ chunking s (left ++ 0 ∷ [])) order only.0 found one)
    by_boundary more (Some k) found =
        let step : (rest : List ℕ) → take k bs ∷ chunking s (drop k bs ++ rest) ≡ c ∷ (cs ++ chunking s (left ++ rest)) =
        λ rest. sym (chunking_cut s bs rest k some order found) ∙ joined rest in
        let first : take k bs ≡ c = cc (step []) in
        let after : (rest : List ℕ) → chunking s (drop k bs ++ rest) ≡ cs ++ chunking s (left ++ rest) = λ rest. cc (step rest) in
        complete_cut s bs k some order found ∙ ap (λ (t : List ℕ). t ∷ complete_chunks s (drop k bs)) first ∙ ap (λ (t : List (List ℕ)). c ∷ t) (more (drop k bs) left some order after none)
