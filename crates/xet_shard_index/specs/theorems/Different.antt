-- The different elements of a list, where a test tells whether two are equal.
use Rattle.std.proofs.Common.{◌≡◌, ◌≢◌, ◌⊎◌, inl, inr, Bool, true, false, if◌then◌else◌, not, List, [], ◌∷◌, ◌++◌, filter, refl, sym, ap, ◌∙◌}
use Rattle.std.proofs.lemmas.List.{append-nil}
use Rattle.std.proofs.lemmas.List.Elements.{filter-append}
use Rattle.std.specs.List.{list_any}
use Rattle.xet_shard_index.specs.Different.{different}

module _ {X : Type 0} (eq : X → X → Bool) (tells : (a b : X) → ((eq a b ≡ true) × (a ≡ b)) ⊎ ((eq a b ≡ false) × (a ≢ b))) where
  -- no element comes twice
  unfoldable pub Distinct : List X → Type 0
  Distinct [] = Unit {0}
  Distinct (k ∷ ks) = (list_any (eq k) ks ≡ false) × Distinct ks

  -- an element is not among those without it
  none_left : (k : X) (ks : List X) → list_any (eq k) (filter (λ l. not (eq l k)) ks) ≡ false
  none_left k [] = refl
  none_left k (x ∷ ks) = by (tells x k) (tells k x) (none_left k ks)
    where
      by : ((eq x k ≡ true) × (x ≡ k)) ⊎ ((eq x k ≡ false) × (x ≢ k)) → ((eq k x ≡ true) × (k ≡ x)) ⊎ ((eq k x ≡ false) × (k ≢ x))
          → list_any (eq k) (filter (λ l. not (eq l k)) ks) ≡ false
          → list_any (eq k) (filter (λ l. not (eq l k)) (x ∷ ks)) ≡ false
      by (inl a) b later = rw a.0 later
      by (inr a) (inl b) later = absurd (a.1 (sym b.1))
      by (inr a) (inr b) later = rw (a.0, b.0) later

  -- another element is among them as before
  any_left : (k w : X) (ks : List X) → w ≢ k → list_any (eq w) (filter (λ l. not (eq l k)) ks) ≡ list_any (eq w) ks
  any_left k w [] other = refl
  any_left k w (x ∷ ks) other = by (tells x k) (tells w x) (any_left k w ks other)
    where
      by : ((eq x k ≡ true) × (x ≡ k)) ⊎ ((eq x k ≡ false) × (x ≢ k)) → ((eq w x ≡ true) × (w ≡ x)) ⊎ ((eq w x ≡ false) × (w ≢ x))
          → list_any (eq w) (filter (λ l. not (eq l k)) ks) ≡ list_any (eq w) ks
          → list_any (eq w) (filter (λ l. not (eq l k)) (x ∷ ks)) ≡ list_any (eq w) (x ∷ ks)
      by (inl a) (inl b) later = absurd (other (b.1 ∙ a.1))
      by (inl a) (inr b) later = rw (a.0, b.0) later
      by (inr a) (inl b) later = rw (a.0, b.0) refl
      by (inr a) (inr b) later = rw (a.0, b.0) later

  -- an element that is not in a list is not in a part of it
  none_in_part : (test : X → Bool) (w : X) (ks : List X) → list_any (eq w) ks ≡ false → list_any (eq w) (filter test ks) ≡ false
  none_in_part test w [] none = refl
  none_in_part test w (x ∷ ks) none = by (test x) refl (tells w x) (none_in_part test w ks)
    where
      by : (b : Bool) → test x ≡ b → ((eq w x ≡ true) × (w ≡ x)) ⊎ ((eq w x ≡ false) × (w ≢ x))
          → (list_any (eq w) ks ≡ false → list_any (eq w) (filter test ks) ≡ false) → list_any (eq w) (filter test (x ∷ ks)) ≡ false
      by b eb (inl a) later = absurd (cc (a.0, none))
      by true eb (inr a) later = rw (eb, a.0) (later (rw a.0 at none))
      by false eb (inr a) later = rw eb (later (rw a.0 at none))

  distinct_part : (test : X → Bool) (ks : List X) → Distinct ks → Distinct (filter test ks)
  unfolding Distinct
  distinct_part test [] d = tt
  distinct_part test (x ∷ ks) d = by (test x) refl (distinct_part test ks d.1)
    where
      by : (b : Bool) → test x ≡ b → Distinct (filter test ks) → Distinct (filter test (x ∷ ks))
      by true eb later = rw eb (none_in_part test x ks d.0, later)
      by false eb later = rw eb later

  pub different_is_distinct : (ks : List X) → Distinct (different eq ks)
  unfolding different Distinct
  different_is_distinct [] = tt
  different_is_distinct (k ∷ ks) = (none_left k (different eq ks), distinct_part (λ l. not (eq l k)) (different eq ks) (different_is_distinct ks))

  -- an element comes last, if it is not there yet
  abbrev pub with_last : List X → X → List X
  with_last ks w = if list_any (eq w) ks then ks else ks ++ w ∷ []

  -- the different elements, where one comes last
  pub different_with : (ks : List X) (w : X) → different eq (ks ++ w ∷ []) ≡ with_last (different eq ks) w
  unfolding different
  different_with [] w = refl
  different_with (k ∷ ks) w =
      ap (λ (ys : List X). k ∷ filter (λ l. not (eq l k)) ys) (different_with ks w)
      ∙ by (tells w k) (list_any (eq w) (different eq ks)) refl
    where
      d : List X
      d = different eq ks

      by : ((eq w k ≡ true) × (w ≡ k)) ⊎ ((eq w k ≡ false) × (w ≢ k)) → (c : Bool) → list_any (eq w) d ≡ c
          → k ∷ filter (λ l. not (eq l k)) (with_last d w) ≡ with_last (k ∷ filter (λ l. not (eq l k)) d) w
      by (inl a) true ec = rw (ec, a.0) refl
      by (inl a) false ec = rw (ec, a.0) (ap (λ (ys : List X). k ∷ ys) (filter-append (λ l. not (eq l k)) d (w ∷ []) ∙ rw a.0 (append-nil (filter (λ l. not (eq l k)) d))))
      by (inr a) true ec = rw (ec, a.0, any_left k w d a.1, ec) refl
      by (inr a) false ec = rw (ec, a.0, any_left k w d a.1, ec) (ap (λ (ys : List X). k ∷ ys) (filter-append (λ l. not (eq l k)) d (w ∷ []) ∙ rw a.0 refl))

  -- an element is among the different ones if and only if it is among all
  pub any_different : (w : X) (ks : List X) → list_any (eq w) (different eq ks) ≡ list_any (eq w) ks
  unfolding different
  any_different w [] = refl
  any_different w (k ∷ ks) = by (tells w k) (any_different w ks)
    where
      by : ((eq w k ≡ true) × (w ≡ k)) ⊎ ((eq w k ≡ false) × (w ≢ k)) → list_any (eq w) (different eq ks) ≡ list_any (eq w) ks
          → list_any (eq w) (k ∷ filter (λ l. not (eq l k)) (different eq ks)) ≡ list_any (eq w) (k ∷ ks)
      by (inl a) later = rw a.0 refl
      by (inr a) later = rw a.0 (any_left k w (different eq ks) a.1 ∙ later)
