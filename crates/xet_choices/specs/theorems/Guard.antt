-- The guard against fragmentation: what a query leaves, and one more or a longer range.
use Rattle.std.proofs.Common.{◌≡◌, ◌∙◌, ℕ, zero, suc, ◌+◌, ◌-◌, Bool, true, false, not, if◌then◌else◌, List, [], ◌∷◌, ◌++◌, length, drop, refl, sym, ap, arith, length-append, length-drop}
use Rattle.std.proofs.lemmas.List.{drop-append-le, drop-drop}
use Rattle.xet_cut.specs.declared.limits.LimitSettings.{LimitSettings}
use Rattle.xet_fragmentation.specs.Fragmentation.{Fragmentation, asked, grown, is_allowed, is_fragmented, is_full, is_short, with_longer_range, with_range}
use Rattle.xet_choices.specs.Choices.{allowed_flag, guard_of}

-- ---- a query

allowed_by : (full fragmented short : Bool) (f : Fragmentation) → (if full then (if fragmented then not short else true) else true) ≡ true
    → (if full then (if fragmented then (if short then record f { low = false } else f) else record f { low = true }) else f)
    ≡ record f { low = if full then (if fragmented then f.low else true) else f.low }
allowed_by true true true f e = absurd (cc e)
allowed_by true true false f e = refl
allowed_by true false short f e = refl
allowed_by false fragmented short f e = refl

rejected_by : (full fragmented short : Bool) (f : Fragmentation) → (if full then (if fragmented then not short else true) else true) ≡ false
    → (if full then (if fragmented then (if short then record f { low = false } else f) else record f { low = true }) else f) ≡ record f { low = false }
rejected_by true true true f e = refl
rejected_by true true false f e = absurd (cc e)
rejected_by true false short f e = absurd (cc e)
rejected_by false fragmented short f e = absurd (cc e)

-- what a query leaves if the run is allowed
pub asked_allowed : (f : Fragmentation) (run : ℕ) → is_allowed f run ≡ true → asked f run ≡ record f { low = allowed_flag f }
unfolding is_allowed asked
asked_allowed f run e = allowed_by (is_full f) (is_fragmented f) (is_short f run) f e

-- and if it is not
pub asked_refused : (f : Fragmentation) (run : ℕ) → is_allowed f run ≡ false → asked f run ≡ record f { low = false }
unfolding is_allowed asked
asked_refused f run e = rejected_by (is_full f) (is_fragmented f) (is_short f run) f e

-- A query changes nothing but whether the low threshold counts.
pub asked_keeps : (f : Fragmentation) (run : ℕ) → asked f run ≡ record f { low = (asked f run).low }
asked_keeps f run = by (is_allowed f run) refl
  where
    by : (b : Bool) → is_allowed f run ≡ b → asked f run ≡ record f { low = (asked f run).low }
    by true e = asked_allowed f run e ∙ ap (λ (low : Bool). record f { low = low }) (sym (ap (λ (g : Fragmentation). g.low) (asked_allowed f run e)))
    by false e = asked_refused f run e ∙ ap (λ (low : Bool). record f { low = low }) (sym (ap (λ (g : Fragmentation). g.low) (asked_refused f run e)))

-- ---- ranges

last_push : (w n : ℕ) (xs : List ℕ) → drop (length (drop (length xs - w) xs) + 1 - w) (drop (length xs - w) xs ++ n ∷ []) ≡ drop (length (xs ++ n ∷ []) - w) (xs ++ n ∷ [])
last_push w n xs =
    let a : ℕ = length xs - w in
    let b : ℕ = length (drop a xs) + 1 - w in
    let both : a + b ≡ length (xs ++ n ∷ []) - w = omega (arith, length-drop a xs, length-append xs (n ∷ [])) in
    ap (drop b) (sym (drop-append-le a xs (n ∷ []) (omega arith))) ∙ drop-drop b a (xs ++ n ∷ []) ∙ ap (λ (k : ℕ). drop k (xs ++ n ∷ [])) both

-- one more range
pub guard_with_range : (settings : LimitSettings) (xs : List ℕ) (low : Bool) (n : ℕ) → with_range (guard_of settings xs low) n ≡ guard_of settings (xs ++ n ∷ []) low
guard_with_range settings xs low n =
    ap (λ (ranges : List ℕ). record { window = settings.guard_window; min_range = settings.min_range; low_factor = settings.low_factor; ranges = ranges; low = low }) (last_push settings.guard_window n xs)

grown-drop : (n k : ℕ) (xs : List ℕ) → grown n (drop k xs) ≡ drop k (grown n xs)
grown-drop n zero xs = refl
grown-drop n (suc k) [] = refl
grown-drop n (suc zero) (x ∷ []) = refl
grown-drop n (suc (suc k)) (x ∷ []) = refl
grown-drop n (suc k) (x ∷ y ∷ xs) = grown-drop n k (y ∷ xs)

-- the last of these numbers made greater
pub grown-push : (n c : ℕ) (xs : List ℕ) → grown n (xs ++ c ∷ []) ≡ xs ++ (c + n) ∷ []
grown-push n c [] = refl
grown-push n c (x ∷ []) = refl
grown-push n c (x ∷ y ∷ xs) = ap (λ (l : List ℕ). x ∷ l) (grown-push n c (y ∷ xs))

-- a longer last range
pub guard_with_longer_range : (settings : LimitSettings) (xs : List ℕ) (c : ℕ) (low : Bool) (n : ℕ)
    → with_longer_range (guard_of settings (xs ++ c ∷ []) low) n ≡ guard_of settings (xs ++ (c + n) ∷ []) low
guard_with_longer_range settings xs c low n =
    let w : ℕ = settings.guard_window in
    let same : length (xs ++ c ∷ []) - w ≡ length (xs ++ (c + n) ∷ []) - w = omega (arith, length-append xs (c ∷ []), length-append xs ((c + n) ∷ [])) in
    ap (λ (ranges : List ℕ). record { window = w; min_range = settings.min_range; low_factor = settings.low_factor; ranges = ranges; low = low }) (
    grown-drop n (length (xs ++ c ∷ []) - w) (xs ++ c ∷ [])
    ∙ (λ i. drop (same i) (grown-push n c xs i))
    )
