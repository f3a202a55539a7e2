-- The chunks of a file join to it.
use Rattle.std.proofs.Common.{◌≡◌, ◌≢◌, ◌∙◌, ℕ, zero, suc, ◌+◌, ◌-◌, ◌<◌, ◌≤◌, Bool, true, false, min, List, [], ◌∷◌, ◌++◌, length, take, drop, Option, Some, None, unwrap_or, refl, sym, ap, arith}
use Rattle.std.specs.List.{concat}
use Rattle.xet_base.specs.Pieces.{first_of, pieces_after}
use Rattle.xet_cut.specs.declared.limits.LimitSettings.{LimitSettings}
use Rattle.xet_cut.specs.Chunking.{chunking, may_end, first_chunk_len}
use Rattle.xet_cut.specs.Limits.{AreInRange}

-- what passes a test first is not below where the search began
first_from : (test : ℕ → Bool) (k n m : ℕ) → first_of test k n ≡ Some m → k ≤ m
unfolding first_of
first_from test k zero m e = absurd (cc e)
first_from test k (suc n) m e = by_test (test k) e (first_from test (suc k) n m)
  where
    by_test : (t : Bool) → elim t [ true ↦ Some k | false ↦ first_of test (suc k) n ] ≡ Some m → (first_of test (suc k) n ≡ Some m → suc k ≤ m) → k ≤ m
    by_test true is more =
        let same : k ≡ m = cc is in omega arith
    by_test false is more = omega (arith, more is)

-- no piece is empty
piece_some : (s : LimitSettings) (bs : List ℕ) → AreInRange s → 0 < length bs → 0 < first_chunk_len s bs
unfolding first_chunk_len
piece_some s bs fits some = by_first (first_of (may_end s bs) s.minimum_chunk (min s.maximum_chunk (length bs) + 1 - s.minimum_chunk)) refl
  where
    by_first : (o : Option ℕ) → first_of (may_end s bs) s.minimum_chunk (min s.maximum_chunk (length bs) + 1 - s.minimum_chunk) ≡ o → 0 < unwrap_or o (min s.maximum_chunk (length bs))
    by_first None e = omega (arith, fits.minimum_to)
    by_first (Some m) e = omega (arith, fits.minimum_from, first_from (may_end s bs) s.minimum_chunk (min s.maximum_chunk (length bs) + 1 - s.minimum_chunk) m e)

take_drop : {X : Type 0} (n : ℕ) (xs : List X) → take n xs ++ drop n xs ≡ xs
take_drop zero xs = refl
take_drop (suc n) [] = refl
take_drop (suc n) (x ∷ xs) = ap (λ (ys : List _). x ∷ ys) (take_drop n xs)

concat_after : (len : List ℕ → ℕ) (k : ℕ) (xs : List ℕ) → ((ys : List ℕ) → 0 < length ys → 0 < len ys) → concat (pieces_after len k xs) ≡ drop k xs
unfolding pieces_after
concat_after len zero [] some = refl
concat_after len (suc k) [] some = refl
concat_after len zero (x ∷ xs) some =
    let n : ℕ = len (x ∷ xs) in
    let positive : 0 < len (x ∷ xs) = some (x ∷ xs) (omega arith) in
    let one : suc (n - 1) ≡ n = omega arith in
    ap (λ (ys : List ℕ). take n (x ∷ xs) ++ ys) (concat_after len (n - 1) xs some ∙ ap (λ (k : ℕ). drop k (x ∷ xs)) one) ∙ take_drop n (x ∷ xs)
concat_after len (suc k) (x ∷ xs) some = concat_after len k xs some

pub concat_chunking : (s : LimitSettings) (bs : List ℕ) → AreInRange s → concat (chunking s bs) ≡ bs
concat_chunking s bs fits = concat_after (first_chunk_len s) 0 bs (λ ys some. piece_some s ys fits some)

pub chunking_some : (s : LimitSettings) (bs : List ℕ) → AreInRange s → bs ≢ [] → 0 < length (chunking s bs)
chunking_some s bs fits some = by_cut (chunking s bs) (concat_chunking s bs fits)
  where
    by_cut : (chunks : List (List ℕ)) → concat chunks ≡ bs → 0 < length chunks
    by_cut [] e = absurd (some (sym e))
    by_cut (c ∷ cs) e = omega arith
