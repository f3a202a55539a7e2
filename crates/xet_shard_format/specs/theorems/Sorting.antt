-- A sorted list with the same elements is the sorted list, if elements that compare as equal are equal.
use Rattle.std.proofs.Common.{◌≡◌, ℕ, zero, suc, ◌+◌, ◌<◌, Bool, true, false, List, [], ◌∷◌, length, get_or, set, refl, sym, ap, subst, ◌∙◌, arith, inl, inr}
use Rattle.std.specs.List.{All, swap}
use Rattle.std.specs.List.Sorted.{IsPermutation, IsSorted}
use Rattle.std.specs.Ordering.{is_lt, ordering_reverse}
use Rattle.std.specs.declared.cmp.Ordering.{Ordering}
use Rattle.std.specs.declared.cmp.Ordering.TheVariants.{Less, Equal, Greater}
use Rattle.std.specs.Cmp.{IsTotalOrder, IsStrictWeakOrder}
use Rattle.std.proofs.lemmas.Bool.{cases_Bool, cases_eq, true≢false}
use Rattle.std.proofs.lemmas.List.{get_or_default, get_or-set_other, get_or-set_same, length-set}
use Rattle.std.proofs.lemmas.List.Elements.{All-get_or, All-head, All-set, All-tail}
use Rattle.std.proofs.lemmas.List.MinMax.{ranks_by}
use Rattle.std.proofs.lemmas.List.Sorted.{IsPermutation-keeps}
use Rattle.xet_shard_format.specs.Sorted.{put_in, sorted}

length-put_in : {X : Type 0} (cmp : X → X → Ordering) (x : X) (xs : List X) → length (put_in cmp x xs) ≡ suc (length xs)
unfolding put_in
length-put_in cmp x [] = refl
length-put_in {X} cmp x (y ∷ ys) = elim (is_lt (cmp y x)) as (λ b. length (elim b as (λ _. List X) [ true ↦ y ∷ put_in cmp x ys | false ↦ x ∷ y ∷ ys ]) ≡ suc (suc (length ys))) [
  | true ↦ ap suc (length-put_in cmp x ys)
  | false ↦ refl
]

pub length-sorted : {X : Type 0} (cmp : X → X → Ordering) (xs : List X) → length (sorted cmp xs) ≡ length xs
unfolding sorted
length-sorted cmp [] = refl
length-sorted cmp (x ∷ xs) = length-put_in cmp x (sorted cmp xs) ∙ ap suc (length-sorted cmp xs)

neither_less : (o : Ordering) → is_lt o ≡ false → is_lt (ordering_reverse o) ≡ false → o ≡ Equal
neither_less Less p q = absurd (true≢false p)
neither_less Equal p q = refl
neither_less Greater p q = absurd (true≢false q)

neither : {K : Type 0} {cmp : K → K → Ordering} → IsTotalOrder cmp → (x y : K) → is_lt (cmp x y) ≡ false → is_lt (cmp y x) ≡ false → cmp x y ≡ Equal
neither {K} {cmp} total x y p q = neither_less (cmp x y) p (ap is_lt (sym (total.antisymm y x)) ∙ q)

-- the elements of P that compare as equal are one
abbrev pub AreExact : {X : Type 0} → (X → X → Ordering) → (X → Type 0) → Type 0
AreExact {X} cmp P = (x y : X) → P x → P y → is_lt (cmp x y) ≡ false → is_lt (cmp y x) ≡ false → x ≡ y

module _ {X : Type 0} (cmp : X → X → Ordering) (order : IsStrictWeakOrder (λ x y. is_lt (cmp x y))) (P : X → Type 0) (exact : AreExact cmp P) where
  abbrev lt : X → X → Bool
  lt x y = is_lt (cmp x y)

  irrefl : (a : X) → lt a a ≡ false
  irrefl a = elim (cases_Bool (lt a a)) [ inl t ↦ order.one_way a a t | inr f ↦ f ]

  -- a is not above b, and b is below c
  above : (a b c : X) → lt b a ≡ false → lt b c ≡ true → lt a c ≡ true
  above a b c p q = elim (cases_Bool (lt a c)) [
    | inl t ↦ t
    | inr f ↦ absurd (true≢false (sym q ∙ order.chain b a c p f))
  ]

  put_first : (a b : X) (xs : List X) → lt b a ≡ true → put_in cmp a (b ∷ xs) ≡ b ∷ put_in cmp a xs
  unfolding put_in
  put_first a b xs h = rw (h, put_in) refl

  put_here : (a b : X) (xs : List X) → lt b a ≡ false → put_in cmp a (b ∷ xs) ≡ a ∷ b ∷ xs
  unfolding put_in
  put_here a b xs h = rw (h, put_in) refl

  put_none : (a : X) → put_in cmp a [] ≡ a ∷ []
  unfolding put_in
  put_none a = refl

  -- two elements in front of a list that neither passes
  both_here : (a b : X) (xs : List X) → P a → P b → put_in cmp a xs ≡ a ∷ xs → put_in cmp b xs ≡ b ∷ xs → put_in cmp a (b ∷ xs) ≡ put_in cmp b (a ∷ xs)
  both_here a b xs pa pb ha hb = elim (cases_Bool (lt b a)) [
    | inl t ↦ put_first a b xs t ∙ ap (λ (ys : List X). b ∷ ys) ha ∙ sym (put_here b a xs (order.one_way b a t))
    | inr f ↦ elim (cases_Bool (lt a b)) [
      | inl t ↦ put_here a b xs f ∙ ap (λ (ys : List X). a ∷ ys) (sym hb) ∙ sym (put_first b a xs t)
      | inr g ↦ let same : a ≡ b = exact a b pa pb g f in λ i. put_in cmp (same i) (sym same i ∷ xs)
    ]
  ]

  -- the order of two insertions is free
  put_put : (a b : X) (xs : List X) → P a → P b → put_in cmp a (put_in cmp b xs) ≡ put_in cmp b (put_in cmp a xs)
  put_put a b [] pa pb = ap (put_in cmp a) (put_none b) ∙ both_here a b [] pa pb (put_none a) (put_none b) ∙ ap (put_in cmp b) (sym (put_none a))
  put_put a b (j ∷ js) pa pb = elim (cases_Bool (lt j a)) [
    | inl ta ↦ elim (cases_Bool (lt j b)) [
      | inl tb ↦
          ap (put_in cmp a) (put_first b j js tb) ∙ put_first a j (put_in cmp b js) ta ∙ ap (λ (ys : List X). j ∷ ys) (put_put a b js pa pb)
          ∙ sym (put_first b j (put_in cmp a js) tb) ∙ ap (put_in cmp b) (sym (put_first a j js ta))
      | inr fb ↦
          let ba : lt b a ≡ true = above b j a fb ta in
          ap (put_in cmp a) (put_here b j js fb) ∙ put_first a b (j ∷ js) ba ∙ ap (λ (ys : List X). b ∷ ys) (put_first a j js ta)
          ∙ sym (put_here b j (put_in cmp a js) fb) ∙ ap (put_in cmp b) (sym (put_first a j js ta))
    ]
    | inr fa ↦ elim (cases_Bool (lt j b)) [
      | inl tb ↦
          let ab : lt a b ≡ true = above a j b fa tb in
          ap (put_in cmp a) (put_first b j js tb) ∙ put_here a j (put_in cmp b js) fa ∙ ap (λ (ys : List X). a ∷ ys) (sym (put_first b j js tb))
          ∙ sym (put_first b a (j ∷ js) ab) ∙ ap (put_in cmp b) (sym (put_here a j js fa))
      | inr fb ↦ ap (put_in cmp a) (put_here b j js fb) ∙ both_here a b (j ∷ js) pa pb (put_here a j js fa) (put_here b j js fb) ∙ ap (put_in cmp b) (sym (put_here a j js fa))
    ]
  ]

  -- one element replaced
  put_set : (xs : List X) (i : ℕ) (x d : X) → i < length xs → P x → All P xs → put_in cmp (get_or xs i d) (sorted cmp (set xs i x)) ≡ put_in cmp x (sorted cmp xs)
  unfolding sorted
  put_set [] i x d below px all = absurd (omega arith)
  put_set (y ∷ ys) zero x d below px all = put_put y x (sorted cmp ys) (All-head P y ys all) px
  put_set (y ∷ ys) (suc i) x d below px all =
      let py : P y = All-head P y ys all in
      let rest : All P ys = All-tail P y ys all in
      put_put (get_or ys i d) y (sorted cmp (set ys i x)) (All-get_or P ys i d (omega arith) rest) py ∙ ap (put_in cmp y) (put_set ys i x d (omega arith) px rest) ∙ put_put y x (sorted cmp ys) py px

  -- what was put in is taken out
  unfoldable without : X → List X → List X
  without x [] = []
  without x (j ∷ js) = elim (lt j x) [ true ↦ j ∷ without x js | false ↦ js ]

  without_put : (x : X) (xs : List X) → without x (put_in cmp x xs) ≡ xs
  unfolding without
  without_put x [] = ap (without x) (put_none x) ∙ rw (irrefl x, without) refl
  without_put x (j ∷ js) = elim (cases_Bool (lt j x)) [
    | inl t ↦ ap (without x) (put_first x j js t) ∙ rw (t, without) (ap (λ (ys : List X). j ∷ ys) (without_put x js))
    | inr f ↦ ap (without x) (put_here x j js f) ∙ rw (irrefl x, without) refl
  ]

  same_put : (x : X) (xs ys : List X) → put_in cmp x xs ≡ put_in cmp x ys → xs ≡ ys
  same_put x xs ys e = sym (without_put x xs) ∙ ap (without x) e ∙ without_put x ys

  sorted_swap : (l : List X) (i j : ℕ) → i < length l → j < length l → All P l → sorted cmp (swap l i j) ≡ sorted cmp l
  sorted_swap [] i j p q all = refl
  sorted_swap (d ∷ ys) i j p q all =
      let here : get_or (set (d ∷ ys) i (get_or (d ∷ ys) j d)) j d ≡ get_or (d ∷ ys) j d = elim (cases_eq j i) [
        | inl e ↦ ap (λ (k : ℕ). get_or (set (d ∷ ys) i (get_or (d ∷ ys) j d)) k d) e ∙ get_or-set_same (d ∷ ys) i (get_or (d ∷ ys) j d) d p
        | inr n ↦ get_or-set_other (d ∷ ys) i j (get_or (d ∷ ys) j d) d n
      ] in
      let px : P (get_or (d ∷ ys) i d) = All-get_or P (d ∷ ys) i d p all in
      let py : P (get_or (d ∷ ys) j d) = All-get_or P (d ∷ ys) j d q all in
      let first = put_set (d ∷ ys) i (get_or (d ∷ ys) j d) d p py all in
      let second = put_set (set (d ∷ ys) i (get_or (d ∷ ys) j d)) j (get_or (d ∷ ys) i d) d (omega (arith, length-set (d ∷ ys) i (get_or (d ∷ ys) j d), q)) px (All-set P (d ∷ ys) i (get_or (d ∷ ys) j d) py all) in
      same_put (get_or (d ∷ ys) j d) (sorted cmp (swap (d ∷ ys) i j)) (sorted cmp (d ∷ ys)) (ap (λ (x : X). put_in cmp x (sorted cmp (swap (d ∷ ys) i j))) (sym here) ∙ second ∙ first)

  all_swap : (l : List X) (i j : ℕ) → i < length l → j < length l → All P l → All P (swap l i j)
  all_swap [] i j p q all = all
  all_swap (d ∷ ys) i j p q all =
      All-set P (set (d ∷ ys) i (get_or (d ∷ ys) j d)) j (get_or (d ∷ ys) i d) (All-get_or P (d ∷ ys) i d p all) (All-set P (d ∷ ys) i (get_or (d ∷ ys) j d) (All-get_or P (d ∷ ys) j d q all) all)

  sorted_already : (ys : List X) → IsSorted cmp ys → sorted cmp ys ≡ ys
  unfolding sorted
  sorted_already [] s = refl
  sorted_already (a ∷ []) s = put_none a
  sorted_already (a ∷ b ∷ rest) s =
      ap (put_in cmp a) (sorted_already (b ∷ rest) (λ k d low high. let next : suc k + 1 ≡ suc (k + 1) = omega arith in subst (λ (n : ℕ). lt (get_or (a ∷ b ∷ rest) n d) (get_or (b ∷ rest) k d) ≡ false) next (s (suc k) d (omega arith) (omega arith))))
      ∙ put_here a b rest (s 0 a (omega arith) (omega arith))

  pub sorted_is : (xs ys : List X) → All P xs → IsPermutation xs ys → IsSorted cmp ys → ys ≡ sorted cmp xs
  sorted_is xs ys all p s =
      sym (sorted_already ys s)
      ∙ (IsPermutation-keeps xs (λ l. All P l × (sorted cmp l ≡ sorted cmp xs)) (all, refl) (λ l i j a b e. (all_swap l i j a b e.0, sorted_swap l i j a b e.0 ∙ e.1)) ys p).1

-- what a sort gives in an order without ties
pub sorted_exact : {X : Type 0} (cmp : X → X → Ordering) → IsTotalOrder cmp → ((x y : X) → cmp x y ≡ Equal → x ≡ y) → (xs ys : List X) → IsPermutation xs ys → IsSorted cmp ys → ys ≡ sorted cmp xs
sorted_exact {X} cmp total exact xs ys p s =
    sorted_is cmp (ranks_by total (λ (x : X). x)) (λ _. Unit {0}) (λ x y _ _ a b. exact x y (neither total x y a b)) xs ys (λ k d below. tt) p s

-- what a sort by a key gives, where no two elements of the list have keys that tie
pub sorted_apart : {X K : Type 0} (cmp : K → K → Ordering) → IsTotalOrder cmp → (key : X → K) (xs ys : List X)
    → ((i j : ℕ) (d : X) → i < length xs → j < length xs → cmp (key (get_or xs i d)) (key (get_or xs j d)) ≡ Equal → i ≡ j)
    → IsPermutation xs ys → IsSorted (λ x y. cmp (key x) (key y)) ys → ys ≡ sorted (λ x y. cmp (key x) (key y)) xs
sorted_apart {X} {K} cmp total key xs ys apart p s =
    sorted_is (λ x y. cmp (key x) (key y)) (ranks_by total key) (λ x. (i : ℕ) × (i < length xs) × ((d : X) → get_or xs i d ≡ x))
    (λ x y a b less greater.
    let tie : cmp (key x) (key y) ≡ Equal = neither total (key x) (key y) less greater in
    let one : a.0 ≡ b.0 = apart a.0 b.0 x a.1 b.1 ((λ i. cmp (key (a.2 x i)) (key (b.2 x i))) ∙ tie) in
    sym (a.2 x) ∙ ap (λ (k : ℕ). get_or xs k x) one ∙ b.2 x)
    xs ys (λ k d below. (k, below, λ e. get_or_default xs k e d below)) p s
