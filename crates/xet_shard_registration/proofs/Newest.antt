-- What a stable sort gives is the sorted list.
use Rattle.std.proofs.Common.{◌≡◌, ◌∙◌, ℕ, suc, ◌<◌, ◌≤◌, Bool, true, false, cond, not, ◌&&◌, Bor, List, [], ◌∷◌, filter, length, get_or, map, inl, inr, refl, sym, ap, subst, arith}
use Rattle.std.proofs.lemmas.Bool.{cases_Bool, true≢false}
use Rattle.std.proofs.lemmas.Cmp.{nat_cmp_total}
use Rattle.std.proofs.lemmas.List.Sorted.{IsStrictWeakOrder-flip, ranks_by, sorted_far}
use Rattle.std.specs.Cmp.{IsStrictWeakOrder}
use Rattle.std.specs.List.{AllByRecursion}
use Rattle.std.specs.List.Sorted.{IsSortedBy, IsStableBy, ties}
use Rattle.std.specs.Ordering.{is_lt, nat_cmp}
use Rattle.std.specs.declared.cmp.Ordering.{Ordering}
use Rattle.xet_shard_directory.specs.declared.shard_file.MDBShardFile.{MDBShardFile}
use Rattle.xet_shard_format.specs.Sorted.{put_in, sorted}
use Rattle.xet_shard_registration.specs.Registering.{newest_first}

-- ---- tests

tie_of : (a b : Bool) → a ≡ false → b ≡ false → not a && not b ≡ true
tie_of true b p q = absurd (true≢false p)
tie_of false true p q = absurd (true≢false q)
tie_of false false p q = refl

tied : (a b : Bool) → not a && not b ≡ true → (a ≡ false) × (b ≡ false)
tied true b e = absurd (true≢false (sym e))
tied false true e = absurd (true≢false (sym e))
tied false false e = (refl, refl)

untied : (a b : Bool) → a ≡ true → not a && not b ≡ false
untied true b p = refl
untied false b p = absurd (true≢false (sym p))

-- two elements of which one passes at most
apart : {X : Type 0} (s t : Bool) (x y : X) (l : List X) → (s ≡ true → t ≡ true → ⊥) → cond s (y ∷ cond t (x ∷ l) l) (cond t (x ∷ l) l) ≡ cond t (x ∷ cond s (y ∷ l) l) (cond s (y ∷ l) l)
apart true true x y l once = absurd (once refl refl)
apart true false x y l once = refl
apart false true x y l once = refl
apart false false x y l once = refl

rest_of : {X : Type 0} (b : Bool) (x : X) (k l : List X) → cond b (x ∷ k) k ≡ cond b (x ∷ l) l → k ≡ l
rest_of true x k l e = cc e
rest_of false x k l e = e

all_map : {X : Type 0} (P Q : X → Type 0) → ((x : X) → P x → Q x) → (xs : List X) → AllByRecursion P xs → AllByRecursion Q xs
all_map P Q f [] all = tt
all_map P Q f (x ∷ xs) all = (f x all.0, all_map P Q f xs all.1)

module _ {X : Type 0} (cmp : X → X → Ordering) (order : IsStrictWeakOrder (λ x y. is_lt (cmp x y))) where
  abbrev lt : X → X → Bool
  lt x y = is_lt (cmp x y)

  -- no element is less than one before it
  abbrev Up : List X → Type 0
  Up [] = Unit {0}
  Up (x ∷ xs) = AllByRecursion (λ y. lt y x ≡ false) xs × Up xs

  irreflexive : (x : X) → lt x x ≡ false
  irreflexive x = elim (cases_Bool (lt x x)) [ inl t ↦ order.one_way x x t | inr f ↦ f ]

  -- x is less than z, and y is not
  below : (x y z : X) → lt x z ≡ true → lt y z ≡ false → lt x y ≡ true
  below x y z t f = elim (cases_Bool (lt x y)) [ inl s ↦ s | inr g ↦ absurd (true≢false (sym t ∙ order.chain x y z g f)) ]

  all_from : (x : X) (xs : List X) → ((k : ℕ) → k < length xs → lt (get_or xs k x) x ≡ false) → AllByRecursion (λ y. lt y x ≡ false) xs
  all_from x [] h = tt
  all_from x (y ∷ ys) h = (h 0 (omega arith), all_from x ys (λ k p. h (suc k) (omega arith)))

  up_from : (xs : List X) → ((i j : ℕ) (d : X) → i ≤ j → j < length xs → lt (get_or xs j d) (get_or xs i d) ≡ false) → Up xs
  up_from [] h = tt
  up_from (x ∷ xs) h = (all_from x xs (λ k p. h 0 (suc k) x (omega arith) (omega arith)), up_from xs (λ i j d p q. h (suc i) (suc j) d (omega arith) (omega arith)))

  -- ---- a list in order is determined by its ties

  first_tie : (x : X) (xs : List X) → filter (ties lt x) (x ∷ xs) ≡ x ∷ filter (ties lt x) xs
  first_tie x xs = ap (λ (b : Bool). cond b (x ∷ filter (ties lt x) xs) (filter (ties lt x) xs)) (tie_of (lt x x) (lt x x) (irreflexive x) (irreflexive x))

  no_tie : (x : X) (xs : List X) → AllByRecursion (λ y. lt x y ≡ true) xs → filter (ties lt x) xs ≡ []
  no_tie x [] all = refl
  no_tie x (y ∷ ys) all = ap (λ (b : Bool). cond b (y ∷ filter (ties lt x) ys) (filter (ties lt x) ys)) (untied (lt x y) (lt y x) all.0) ∙ no_tie x ys all.1

  -- an element that is less than the first of a list in order does not stand first in another with the same ties
  not_less : (x y : X) (xs ys : List X) → Up (y ∷ ys) → filter (ties lt x) (x ∷ xs) ≡ filter (ties lt x) (y ∷ ys) → lt x y ≡ false
  not_less x y xs ys up same = elim (cases_Bool (lt x y)) [
    | inl t ↦
        let all : AllByRecursion (λ z. lt x z ≡ true) (y ∷ ys) = (t, all_map (λ z. lt z y ≡ false) (λ z. lt x z ≡ true) (λ z f. below x z y t f) ys up.0) in
        let bad : x ∷ filter (ties lt x) xs ≡ [] = sym (first_tie x xs) ∙ same ∙ no_tie x (y ∷ ys) all in absurd (cc bad)
    | inr f ↦ f
  ]

  unique : (xs ys : List X) → Up xs → Up ys → ((x : X) → filter (ties lt x) xs ≡ filter (ties lt x) ys) → xs ≡ ys
  unique [] [] up vp same = refl
  unique [] (y ∷ ys) up vp same = let bad : [] ≡ y ∷ filter (ties lt y) ys = same y ∙ first_tie y ys in absurd (cc bad)
  unique (x ∷ xs) [] up vp same = let bad : x ∷ filter (ties lt x) xs ≡ [] = sym (first_tie x xs) ∙ same x in absurd (cc bad)
  unique (x ∷ xs) (y ∷ ys) up vp same =
      let p : lt x y ≡ false = not_less x y xs ys vp (same x) in
      let q : lt y x ≡ false = not_less y x ys xs up (sym (same y)) in
      let here : filter (ties lt x) (y ∷ ys) ≡ y ∷ filter (ties lt x) ys = ap (λ (b : Bool). cond b (y ∷ filter (ties lt x) ys) (filter (ties lt x) ys)) (tie_of (lt x y) (lt y x) p q) in
      let both : x ∷ filter (ties lt x) xs ≡ y ∷ filter (ties lt x) ys = sym (first_tie x xs) ∙ same x ∙ here in
      let one : x ≡ y = cc both in
      let more : xs ≡ ys = unique xs ys up.1 vp.1 (λ z. rest_of (ties lt z x) x (filter (ties lt z) xs) (filter (ties lt z) ys) (same z ∙ ap (λ (w : X). cond (ties lt z w) (w ∷ filter (ties lt z) ys) (filter (ties lt z) ys)) (sym one))) in
      λ i. one i ∷ more i

  -- ---- the sorted list

  put_first : (a b : X) (xs : List X) → lt b a ≡ true → put_in cmp a (b ∷ xs) ≡ b ∷ put_in cmp a xs
  unfolding put_in
  put_first a b xs h = rw (h, put_in) refl

  put_here : (a b : X) (xs : List X) → lt b a ≡ false → put_in cmp a (b ∷ xs) ≡ a ∷ b ∷ xs
  unfolding put_in
  put_here a b xs h = rw (h, put_in) refl

  put_none : (a : X) → put_in cmp a [] ≡ a ∷ []
  unfolding put_in
  put_none a = refl

  all_put : (P : X → Type 0) (a : X) (xs : List X) → P a → AllByRecursion P xs → AllByRecursion P (put_in cmp a xs)
  all_put P a [] p all = subst (AllByRecursion P) (sym (put_none a)) (p, tt)
  all_put P a (x ∷ xs) p all = elim (cases_Bool (lt x a)) [
    | inl t ↦ subst (AllByRecursion P) (sym (put_first a x xs t)) (all.0, all_put P a xs p all.1)
    | inr f ↦ subst (AllByRecursion P) (sym (put_here a x xs f)) (p, all)
  ]

  up_put : (a : X) (xs : List X) → Up xs → Up (put_in cmp a xs)
  up_put a [] up = subst Up (sym (put_none a)) (tt, tt)
  up_put a (x ∷ xs) up = elim (cases_Bool (lt x a)) [
    | inl t ↦ subst Up (sym (put_first a x xs t)) (all_put (λ y. lt y x ≡ false) a xs (order.one_way x a t) up.0, up_put a xs up.1)
    | inr f ↦ subst Up (sym (put_here a x xs f)) ((f, all_map (λ y. lt y x ≡ false) (λ y. lt y a ≡ false) (λ y g. order.chain y x a g f) xs up.0), up)
  ]

  up_sorted : (xs : List X) → Up (sorted cmp xs)
  unfolding sorted
  up_sorted [] = tt
  up_sorted (x ∷ xs) = up_put x (sorted cmp xs) (up_sorted xs)

  ties_put : (x a : X) (xs : List X) → filter (ties lt x) (put_in cmp a xs) ≡ filter (ties lt x) (a ∷ xs)
  ties_put x a [] = ap (filter (ties lt x)) (put_none a)
  ties_put x a (y ∷ ys) = elim (cases_Bool (lt y a)) [
    | inl t ↦
        ap (filter (ties lt x)) (put_first a y ys t) ∙ ap (λ (l : List X). cond (ties lt x y) (y ∷ l) l) (ties_put x a ys)
        ∙ apart (ties lt x y) (ties lt x a) a y (filter (ties lt x) ys) (λ p q.
        let one = tied (lt x y) (lt y x) p in
        let two = tied (lt x a) (lt a x) q in
        true≢false (sym t ∙ order.chain y x a one.1 two.0))
    | inr f ↦ ap (filter (ties lt x)) (put_here a y ys f)
  ]

  ties_sorted : (x : X) (xs : List X) → filter (ties lt x) (sorted cmp xs) ≡ filter (ties lt x) xs
  unfolding sorted
  ties_sorted x [] = refl
  ties_sorted x (a ∷ xs) = ties_put x a (sorted cmp xs) ∙ ap (λ (l : List X). cond (ties lt x a) (a ∷ l) l) (ties_sorted x xs)

  pub sorted_stable : (xs ys : List X) → IsSortedBy lt ys → IsStableBy lt xs ys → ys ≡ sorted cmp xs
  sorted_stable xs ys up stable = unique ys (sorted cmp xs) (up_from ys (sorted_far lt order ys up)) (up_sorted xs) (λ x. stable x ∙ sym (ties_sorted x xs))

-- ---- through a function

module _ {X Y : Type 0} (view : Y → X) (cmp : X → X → Ordering) where
  abbrev on : Y → Y → Ordering
  on a b = cmp (view a) (view b)

  map_put : (y : Y) (ys : List Y) → map view (put_in on y ys) ≡ put_in cmp (view y) (map view ys)
  unfolding put_in
  map_put y [] = refl
  map_put y (z ∷ zs) = elim (cases_Bool (is_lt (cmp (view z) (view y)))) [
    | inl t ↦ rw (t, put_in) (ap (λ (l : List X). view z ∷ l) (map_put y zs))
    | inr f ↦ rw (f, put_in) refl
  ]

  pub map_sorted : (ys : List Y) → map view (sorted on ys) ≡ sorted cmp (map view ys)
  unfolding sorted
  map_sorted [] = refl
  map_sorted (y ∷ ys) = map_put y (sorted on ys) ∙ ap (put_in cmp (view y)) (map_sorted ys)

-- ---- shard files

abbrev pub is_newer : MDBShardFile → MDBShardFile → Ordering
is_newer a b = nat_cmp b.last_modified_time a.last_modified_time

abbrev pub lent_newer : Bor MDBShardFile → Bor MDBShardFile → Bool
lent_newer a b = is_lt (is_newer a.now b.now)

pub newer_order : IsStrictWeakOrder lent_newer
newer_order = IsStrictWeakOrder-flip (λ (a b : Bor MDBShardFile). is_lt (nat_cmp a.now.last_modified_time b.now.last_modified_time)) (ranks_by nat_cmp_total (λ (a : Bor MDBShardFile). a.now.last_modified_time))

abbrev lent : Bor MDBShardFile → MDBShardFile
lent a = a.now

pub newest_of : (files : List MDBShardFile) (listed ordered : List (Bor MDBShardFile)) → map (λ (a : Bor MDBShardFile). a.now) listed ≡ files → IsSortedBy lent_newer ordered → IsStableBy lent_newer listed ordered
    → map (λ (a : Bor MDBShardFile). a.now) ordered ≡ newest_first files
newest_of files listed ordered same up stable =
    ap (map lent) (sorted_stable (λ (a b : Bor MDBShardFile). is_newer a.now b.now) newer_order listed ordered up stable) ∙ map_sorted lent is_newer listed ∙ ap (sorted is_newer) same
