-- What is taken out of seats, one after the other.
use Rattle.std.proofs.Common.{◌≡◌, ◌∙◌, ◌⊎◌, inl, inr, ℕ, ◌+◌, ◌≤◌, List, [], ◌∷◌, ◌++◌, append_assoc, append-nil, length, length-append, map, refl, sym, ap, subst, arith, Option, None, Some}
use Rattle.std.proofs.lemmas.List.{map-append}
use Rattle.std.specs.Prelude.{Err, IfErr, IfOk, IsErrAnd, IsOkAnd, Ok, Result}
use Rattle.xet_store_disk.specs.Separate.{Among}

-- ---- passes

module _ {H : Type 0} where
  -- each is there
  pub none_missing : (hs : List H) (zs : List (Option H)) (ps : List H) (o : Option H) → o ≡ None → map Some hs ++ (o ∷ zs) ≡ map Some ps → ⊥
  none_missing [] zs [] o none there = absurd (cc there)
  none_missing [] zs (p ∷ ps) o none there = let is : o ≡ Some p = cc there in absurd (cc (none, is))
  none_missing (h ∷ hs) zs [] o none there = absurd (cc there)
  none_missing (h ∷ hs) zs (p ∷ ps) o none there = none_missing hs zs ps o none (cc there)

  pub next_pass : {X : Type 0} (f : X → Option H) (hs more : List H) (x : X) (news olds all : List X) (h : H) → olds ≡ x ∷ news → f x ≡ Some h → more ≡ hs ++ h ∷ [] → map Some hs ++ map f olds ≡ map f all → map Some more ++ map f news ≡ map f all
  next_pass {X} f hs more x news olds all h is there added so_far =
      ap (λ (l : List H). map Some l ++ map f news) added
      ∙ ap (λ (l : List (Option H)). l ++ map f news) (map-append Some hs (h ∷ []))
      ∙ append_assoc (map Some hs) (Some h ∷ []) (map f news)
      ∙ ap (λ (o : Option H). map Some hs ++ (o ∷ map f news)) (sym there)
      ∙ ap (λ (l : List X). map Some hs ++ map f l) (sym is)
      ∙ so_far

-- ---- what was made

module _ {X W E : Type 0} where
  among_middle : (m : X → Result W E) (before news : List X) (x : X) → Among (map m (before ++ x ∷ news)) (m x)
  among_middle m [] news x = inl refl
  among_middle m (b ∷ before) news x = inr (among_middle m before news x)

  module _ {V : Type 0} (items : V → List W) (room : V → ℕ) (m : X → Result W E) (made next : Result V E) (x : X) (news olds all : List X) (is : olds ≡ x ∷ news)
      (added : IfOk next (λ v. IsOkAnd made (λ u. IsOkAnd (m x) (λ w. (items v ≡ items u ++ w ∷ []) × (room v ≡ room u))))) where
    made_there : (us : List W) (vs : List W) (w : W) → m x ≡ Ok w → vs ≡ us ++ w ∷ [] → map Ok us ++ map m olds ≡ map m all → map Ok vs ++ map m news ≡ map m all
    made_there us vs w well pushed so_far =
        ap (λ (l : List W). map Ok l ++ map m news) pushed
        ∙ ap (λ (l : List (Result W E)). l ++ map m news) (map-append Ok us (w ∷ []))
        ∙ append_assoc (map Ok us) (Ok w ∷ []) (map m news)
        ∙ ap (λ (r : Result W E). map Ok us ++ (r ∷ map m news)) (sym well)
        ∙ ap (λ (l : List X). map Ok us ++ map m l) (sym is)
        ∙ so_far

    -- of what was added
    of_added : (P : V → Type 0) → ((v u : V) (w : W) → made ≡ Ok u → m x ≡ Ok w → items v ≡ items u ++ w ∷ [] → room v ≡ room u → P v) → IfOk next P
    of_added P give = go next made (m x) refl refl added
      where
        go : (n s : Result V E) (r : Result W E) → made ≡ s → m x ≡ r → IfOk n (λ v. IsOkAnd s (λ u. IsOkAnd r (λ w. (items v ≡ items u ++ w ∷ []) × (room v ≡ room u)))) → IfOk n P
        go (Err e) s r was well a = tt
        go (Ok v) (Err e) r was well a = absurd a
        go (Ok v) (Ok u) (Err e) was well a = absurd a
        go (Ok v) (Ok u) (Ok w) was well a = give v u w was well a.0 a.1

    pub next_workings : IfOk made (λ u. map Ok (items u) ++ map m olds ≡ map m all) → IfOk next (λ v. map Ok (items v) ++ map m news ≡ map m all)
    next_workings so_far =
        of_added (λ v. map Ok (items v) ++ map m news ≡ map m all)
        (λ v u w was well pushed same. made_there (items u) (items v) w well pushed (subst (λ (s : Result V E). IfOk s (λ u. map Ok (items u) ++ map m olds ≡ map m all)) was so_far))

    pub next_room : IfOk made (λ u. length (items u) + length olds ≤ room u) → IfOk next (λ v. length (items v) + length news ≤ room v)
    next_room so_far =
        of_added (λ v. length (items v) + length news ≤ room v)
        (λ v u w was well pushed same.
        let fits : length (items u) + length olds ≤ room u = subst (λ (s : Result V E). IfOk s (λ u. length (items u) + length olds ≤ room u)) was so_far in
        omega (arith, fits, same, ap length pushed, length-append (items u) (w ∷ []), ap length is))

    pub next_error : (before : List X) → before ++ olds ≡ all → IfErr next (λ e. IsErrAnd made (λ d. e ≡ d) ⊎ IsErrAnd (m x) (λ d. e ≡ d)) → IfErr made (λ e. Among (map m all) (Err e)) → IfErr next (λ e. Among (map m all) (Err e))
    next_error before left why so_far = go next made (m x) refl why so_far
      where
        there : Among (map m all) (m x)
        there = subst (λ (l : List X). Among (map m l) (m x)) (ap (λ (l : List X). before ++ l) (sym is) ∙ left) (among_middle m before news x)

        go : (n s : Result V E) (r : Result W E) → m x ≡ r → IfErr n (λ e. IsErrAnd s (λ d. e ≡ d) ⊎ IsErrAnd r (λ d. e ≡ d)) → IfErr s (λ e. Among (map m all) (Err e)) → IfErr n (λ e. Among (map m all) (Err e))
        go (Ok v) s r is w known = tt
        go (Err e) (Ok u) r is (inl w) known = absurd w
        go (Err e) (Err d) r is (inl w) known = subst (λ (k : E). Among (map m all) (Err k)) (sym w) known
        go (Err e) s (Ok v) is (inr w) known = absurd w
        go (Err e) s (Err d) is (inr w) known = subst (λ (k : E). Among (map m all) (Err k)) (sym w) (subst (λ (r : Result W E). Among (map m all) r) is there)

  -- all were taken
  pub last_workings : {V : Type 0} (items : V → List W) (m : X → Result W E) (made : Result V E) (olds all : List X) → length olds ≡ 0 → IfOk made (λ u. map Ok (items u) ++ map m olds ≡ map m all) → IfOk made (λ u. map m all ≡ map Ok (items u))
  last_workings items m (Ok u) [] all none so_far = sym so_far ∙ append-nil (map Ok (items u))
  last_workings items m (Ok u) (o ∷ olds) all none so_far = absurd (omega (arith, none))
  last_workings items m (Err e) olds all none so_far = tt
