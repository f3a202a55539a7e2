-- The merge of two rising lists is their union.
use Rattle.std.proofs.Common.{◌≡◌, ◌≢◌, ◌∙◌, ℕ, Bool, true, false, cond, List, [], ◌∷◌, ◌++◌, filter, is_none, nat_eq, Option, Some, refl, sym, ap, subst, inl, inr, length, not}
use Rattle.std.specs.Cmp.{IsStrictWeakOrder}
use Rattle.std.specs.Cmp.Lexicographic.{bytes_decides, pointwise}
use Rattle.std.specs.List.{AllByRecursion}
use Rattle.std.specs.Ordering.{is_lt}
use Rattle.std.specs.declared.cmp.Ordering.{Ordering}
use Rattle.std.proofs.lemmas.Bool.{cases_Bool, false_from_ne_true, true≢false}
use Rattle.std.proofs.lemmas.List.{nil_from_length}
use Rattle.std.proofs.lemmas.List.MinMax.{ranks_by}
use Rattle.xet_hash.specs.theorems.Ties.{hash_tied}
use Rattle.xet_hash.specs.Order.{hash_cmp}
use Rattle.xet_shard.specs.Held.{record_of}
use Rattle.xet_shard.specs.internal.Merging.{FirstAgrees, Rises, after_hash, below, not_below}
use Rattle.xet_shard_format.specs.Records.{AreRecords}
use Rattle.xet_shard_format.specs.Sorted.{put_in, sorted}
use Rattle.xet_shard.specs.Union.{Agree, union}
use Rattle.xet_base.specs.theorems.Elements.{all_filtered}
use Rattle.xet_shard.proofs.Rising.{all_sorted, hash_total, other_less}

-- ---- hashes

order : IsStrictWeakOrder (λ (a b : List ℕ). is_lt (hash_cmp a b))
order = ranks_by hash_total (λ (h : List ℕ). h)

-- what is not below is above where the next is above
above : (a b c : List ℕ) → is_lt (hash_cmp b a) ≡ false → is_lt (hash_cmp b c) ≡ true → is_lt (hash_cmp a c) ≡ true
above a b c p q = elim (cases_Bool (is_lt (hash_cmp a c))) [
  | inl t ↦ t
  | inr f ↦ absurd (true≢false (sym q ∙ order.chain b a c p f))
]

less_less : (a b c : List ℕ) → is_lt (hash_cmp a b) ≡ true → is_lt (hash_cmp b c) ≡ true → is_lt (hash_cmp a c) ≡ true
less_less a b c p q = above a b c (order.one_way a b p) q

apart : (a b : List ℕ) → is_lt (hash_cmp a b) ≡ true → a ≢ b
apart a b less e = true≢false (sym less ∙ ap is_lt (hash_tied a b e))

not_same : (a b : List ℕ) → a ≢ b → pointwise nat_eq a b ≡ false
not_same a b ne = false_from_ne_true _ (λ e. ne ((bytes_decides a b).0 e))

-- what a test of two hashes told
pub hashes_differ : (r : Bool) (a b a' b' : List ℕ) → r ≡ true → r ≡ not (pointwise nat_eq a b) → a ≡ a' → b ≡ b' → a' ≢ b'
hashes_differ r a b a' b' differ is ea eb e = true≢false (sym differ ∙ is ∙ ap not ((bytes_decides a b).1 (ea ∙ e ∙ sym eb)))

pub hashes_equal : (r : Bool) (a b a' b' : List ℕ) → r ≡ false → r ≡ not (pointwise nat_eq a b) → a ≡ a' → b ≡ b' → a' ≡ b'
hashes_equal r a b a' b' alike is ea eb = elim (cases_Bool (pointwise nat_eq a b)) [
  | inl t ↦ sym ea ∙ (bytes_decides a b).0 t ∙ eb
  | inr f ↦ absurd (true≢false (sym (is ∙ ap not f) ∙ alike))
]

-- ---- lists

all_append : {X : Type 0} (P : X → Type 0) (xs ys : List X) → AllByRecursion P xs → AllByRecursion P ys → AllByRecursion P (xs ++ ys)
all_append P [] ys first second = second
all_append P (x ∷ xs) ys first second = (first.0, all_append P xs ys first.1 second)

all_each : {X : Type 0} (P Q : X → Type 0) (xs : List X) → ((x : X) → P x → Q x) → AllByRecursion P xs → AllByRecursion Q xs
all_each P Q [] f all = tt
all_each P Q (x ∷ xs) f all = (f x all.0, all_each P Q xs f all.1)

keeps : {X : Type 0} (test : X → Bool) (y : X) (ys : List X) → test y ≡ true → filter test (y ∷ ys) ≡ y ∷ filter test ys
keeps {X} test y ys e = ap (λ (b : Bool). cond b (y ∷ filter test ys) (filter test ys)) e

skips : {X : Type 0} (test : X → Bool) (y : X) (ys : List X) → test y ≡ false → filter test (y ∷ ys) ≡ filter test ys
skips {X} test y ys e = ap (λ (b : Bool). cond b (y ∷ filter test ys) (filter test ys)) e

same_filter : {X : Type 0} (f g : X → Bool) (ys : List X) → AllByRecursion (λ y. f y ≡ g y) ys → filter f ys ≡ filter g ys
same_filter f g [] all = refl
same_filter {X} f g (y ∷ ys) all = λ i. cond (all.0 i) (y ∷ same_filter f g ys all.1 i) (same_filter f g ys all.1 i)

filter_none : {X : Type 0} (ys : List X) → filter (λ _. true) ys ≡ ys
filter_none [] = refl
filter_none (y ∷ ys) = ap (λ (l : List _). y ∷ l) (filter_none ys)

module _ {X : Type 0} (hash : X → List ℕ) where
  abbrev lt : X → X → Bool
  lt x y = is_lt (hash_cmp (hash x) (hash y))

  abbrev by : X → X → Ordering
  by x y = hash_cmp (hash x) (hash y)

  -- ---- the merge

  unfoldable pub merged : List X → List X → List X
  merged [] ys = ys
  merged (x ∷ xs) ys = below hash (hash x) ys ++ x ∷ merged xs (after_hash hash (hash x) (not_below hash (hash x) ys))

  pub merged_one : (x : X) (xs ys : List X) → merged (x ∷ xs) ys ≡ below hash (hash x) ys ++ x ∷ merged xs (after_hash hash (hash x) (not_below hash (hash x) ys))
  unfolding merged
  merged_one x xs ys = refl

  pub merged_rest : (ys : List X) → merged [] ys ≡ ys
  unfolding merged
  merged_rest ys = refl

  pub below_low : (h : List ℕ) (y : X) (ys : List X) → is_lt (hash_cmp (hash y) h) ≡ true → below hash h (y ∷ ys) ≡ y ∷ below hash h ys
  unfolding below
  below_low h y ys less = ap (λ (b : Bool). cond b (y ∷ below hash h ys) []) less

  pub below_high : (h : List ℕ) (y : X) (ys : List X) → is_lt (hash_cmp (hash y) h) ≡ false → below hash h (y ∷ ys) ≡ []
  unfolding below
  below_high h y ys high = ap (λ (b : Bool). cond b (y ∷ below hash h ys) []) high

  pub rest_low : (h : List ℕ) (y : X) (ys : List X) → is_lt (hash_cmp (hash y) h) ≡ true → not_below hash h (y ∷ ys) ≡ not_below hash h ys
  unfolding not_below
  rest_low h y ys less = ap (λ (b : Bool). cond b (not_below hash h ys) (y ∷ ys)) less

  pub rest_high : (h : List ℕ) (y : X) (ys : List X) → is_lt (hash_cmp (hash y) h) ≡ false → not_below hash h (y ∷ ys) ≡ y ∷ ys
  unfolding not_below
  rest_high h y ys high = ap (λ (b : Bool). cond b (not_below hash h ys) (y ∷ ys)) high

  pub behind_same : (h : List ℕ) (y : X) (ys : List X) → hash y ≡ h → after_hash hash h (y ∷ ys) ≡ ys
  unfolding after_hash
  behind_same h y ys e = ap (λ (b : Bool). cond b ys (y ∷ ys)) ((bytes_decides (hash y) h).1 e)

  pub behind_other : (h : List ℕ) (y : X) (ys : List X) → hash y ≢ h → after_hash hash h (y ∷ ys) ≡ y ∷ ys
  unfolding after_hash
  behind_other h y ys ne = ap (λ (b : Bool). cond b ys (y ∷ ys)) (not_same (hash y) h ne)

  pub ends : (h : List ℕ) → (below hash h [] ≡ []) × (not_below hash h [] ≡ []) × (after_hash hash h [] ≡ [])
  unfolding below not_below after_hash
  ends h = (refl, refl, refl)

  pub behind_nothing : (h : List ℕ) (ys : List X) → length ys ≡ 0 → ys ≡ after_hash hash h ys
  behind_nothing h ys none = nil_from_length ys none ∙ sym (ends h).2 ∙ ap (after_hash hash h) (sym (nil_from_length ys none))

  pub behind_first_other : (h : List ℕ) (ys : List X) (y : X) (rest : List X) → ys ≡ y ∷ rest → hash y ≢ h → ys ≡ after_hash hash h ys
  behind_first_other h ys y rest is ne = is ∙ sym (behind_other h y rest ne) ∙ ap (after_hash hash h) (sym is)

  pub behind_first_same : (h : List ℕ) (ys : List X) (y : X) (rest : List X) → ys ≡ y ∷ rest → hash y ≡ h → rest ≡ after_hash hash h ys
  behind_first_same h ys y rest is e = sym (behind_same h y rest e) ∙ ap (after_hash hash h) (sym is)

  merged_low : (x : X) (xs : List X) (y : X) (ys : List X) → lt y x ≡ true → merged (x ∷ xs) (y ∷ ys) ≡ y ∷ merged (x ∷ xs) ys
  unfolding merged
  merged_low x xs y ys less = λ i. below_low (hash x) y ys less i ++ x ∷ merged xs (after_hash hash (hash x) (rest_low (hash x) y ys less i))

  merged_high : (x : X) (xs : List X) (y : X) (ys : List X) → lt y x ≡ false → merged (x ∷ xs) (y ∷ ys) ≡ x ∷ merged xs (after_hash hash (hash x) (y ∷ ys))
  unfolding merged
  merged_high x xs y ys high = λ i. below_high (hash x) y ys high i ++ x ∷ merged xs (after_hash hash (hash x) (rest_high (hash x) y ys high i))

  merged_end : (x : X) (xs : List X) → merged (x ∷ xs) [] ≡ x ∷ merged xs []
  unfolding merged
  merged_end x xs = λ i. (ends (hash x)).0 i ++ x ∷ merged xs (at i)
    where
      at : after_hash hash (hash x) (not_below hash (hash x) []) ≡ []
      at = ap (after_hash hash (hash x)) (ends (hash x)).1 ∙ (ends (hash x)).2

  -- ---- what is left

  pub all_rest : (P : X → Type 0) (h : List ℕ) (ys : List X) → AllByRecursion P ys → AllByRecursion P (not_below hash h ys)
  all_rest P h [] all = subst (AllByRecursion P) (sym (ends h).1) tt
  all_rest P h (y ∷ ys) all = elim (cases_Bool (is_lt (hash_cmp (hash y) h))) [
    | inl t ↦ subst (AllByRecursion P) (sym (rest_low h y ys t)) (all_rest P h ys all.1)
    | inr f ↦ subst (AllByRecursion P) (sym (rest_high h y ys f)) all
  ]

  pub all_behind : (P : X → Type 0) (h : List ℕ) (ys : List X) → AllByRecursion P ys → AllByRecursion P (after_hash hash h ys)
  all_behind P h [] all = subst (AllByRecursion P) (sym (ends h).2) tt
  all_behind P h (y ∷ ys) all = elim (cases_Bool (pointwise nat_eq (hash y) h)) [
    | inl t ↦ subst (AllByRecursion P) (sym (behind_same h y ys ((bytes_decides (hash y) h).0 t))) all.1
    | inr f ↦ subst (AllByRecursion P) (sym (behind_other h y ys (λ e. true≢false (sym ((bytes_decides (hash y) h).1 e) ∙ f)))) all
  ]

  pub rest_rises : (h : List ℕ) (ys : List X) → Rises hash ys → Rises hash (not_below hash h ys)
  rest_rises h [] r = subst (Rises hash) (sym (ends h).1) tt
  rest_rises h (y ∷ ys) r = elim (cases_Bool (is_lt (hash_cmp (hash y) h))) [
    | inl t ↦ subst (Rises hash) (sym (rest_low h y ys t)) (rest_rises h ys r.1)
    | inr f ↦ subst (Rises hash) (sym (rest_high h y ys f)) r
  ]

  pub behind_rises : (h : List ℕ) (ys : List X) → Rises hash ys → Rises hash (after_hash hash h ys)
  behind_rises h [] r = subst (Rises hash) (sym (ends h).2) tt
  behind_rises h (y ∷ ys) r = elim (cases_Bool (pointwise nat_eq (hash y) h)) [
    | inl t ↦ subst (Rises hash) (sym (behind_same h y ys ((bytes_decides (hash y) h).0 t))) r.1
    | inr f ↦ subst (Rises hash) (sym (behind_other h y ys (λ e. true≢false (sym ((bytes_decides (hash y) h).1 e) ∙ f)))) r
  ]

  -- ---- the union

  abbrev others : List X → X → Bool
  others xs y = is_none (record_of hash (hash y) xs)

  no_record : (xs : List X) (y : X) → AllByRecursion (λ x. hash y ≢ hash x) xs → others xs y ≡ true
  no_record [] y all = refl
  no_record (x ∷ xs) y all = ap (λ (b : Bool). is_none (cond b (Some x) (record_of hash (hash y) xs))) (not_same (hash y) (hash x) all.0) ∙ no_record xs y all.1

  other_record : (x : X) (xs : List X) (y : X) → hash y ≢ hash x → others (x ∷ xs) y ≡ others xs y
  other_record x xs y ne = ap (λ (b : Bool). is_none (cond b (Some x) (record_of hash (hash y) xs))) (not_same (hash y) (hash x) ne)

  this_record : (x : X) (xs : List X) (y : X) → hash y ≡ hash x → others (x ∷ xs) y ≡ false
  this_record x xs y e = ap (λ (b : Bool). is_none (cond b (Some x) (record_of hash (hash y) xs))) ((bytes_decides (hash y) (hash x)).1 e)

  put_low : (y : X) (zs : List X) → AllByRecursion (λ z. lt y z ≡ true) zs → put_in by y zs ≡ y ∷ zs
  unfolding put_in
  put_low y [] all = refl
  put_low y (z ∷ zs) all = ap (λ (b : Bool). elim b as (λ _. List X) [ true ↦ z ∷ put_in by y zs | false ↦ y ∷ z ∷ zs ]) (order.one_way (hash y) (hash z) all.0)

  put_high : (x y : X) (zs : List X) → lt y x ≡ true → put_in by x (y ∷ zs) ≡ y ∷ put_in by x zs
  unfolding put_in
  put_high x y zs less = ap (λ (b : Bool). elim b as (λ _. List X) [ true ↦ y ∷ put_in by x zs | false ↦ x ∷ y ∷ zs ]) less

  -- the least one comes first, wherever it stands
  sorted_low : (y : X) (xs zs : List X) → AllByRecursion (λ x. lt y x ≡ true) xs → AllByRecursion (λ z. lt y z ≡ true) zs → sorted by (xs ++ y ∷ zs) ≡ y ∷ sorted by (xs ++ zs)
  unfolding sorted
  sorted_low y [] zs first second = put_low y (sorted by zs) (all_sorted by (λ z. lt y z ≡ true) zs second)
  sorted_low y (x ∷ xs) zs first second = ap (put_in by x) (sorted_low y xs zs first.1 second) ∙ put_high x y (sorted by (xs ++ zs)) first.0

  sorted_rising : (ys : List X) → Rises hash ys → sorted by ys ≡ ys
  unfolding sorted
  sorted_rising [] r = refl
  sorted_rising (y ∷ ys) r = ap (put_in by y) (sorted_rising ys r.1) ∙ put_low y ys r.0

  -- after the first of another list, which is not below x, all are above x
  all_above : (x y : X) (ys : List X) → Rises hash (y ∷ ys) → lt y x ≡ false → AllByRecursion (λ z. lt x z ≡ true) (after_hash hash (hash x) (y ∷ ys))
  all_above x y ys r high = elim (cases_Bool (pointwise nat_eq (hash y) (hash x))) [
    | inl t ↦ subst (AllByRecursion (λ z. lt x z ≡ true)) (sym (behind_same (hash x) y ys ((bytes_decides (hash y) (hash x)).0 t))) later
    | inr f ↦
        let ne : hash y ≢ hash x = λ e. true≢false (sym ((bytes_decides (hash y) (hash x)).1 e) ∙ f) in
        subst (AllByRecursion (λ z. lt x z ≡ true)) (sym (behind_other (hash x) y ys ne)) (other_less (hash x) (hash y) (λ e. ne (sym e)) high, later)
  ]
    where
      later : AllByRecursion (λ z. lt x z ≡ true) ys
      later = all_each (λ z. lt y z ≡ true) (λ z. lt x z ≡ true) ys (λ z less. above (hash x) (hash y) (hash z) high less) r.0

  above_others : (x : X) (xs zs : List X) → AllByRecursion (λ z. lt x z ≡ true) zs → filter (others (x ∷ xs)) zs ≡ filter (others xs) zs
  above_others x xs zs all =
      same_filter (others (x ∷ xs)) (others xs) zs (all_each (λ z. lt x z ≡ true) (λ z. others (x ∷ xs) z ≡ others xs z) zs (λ z less. other_record x xs z (λ e. apart (hash x) (hash z) less (sym e))) all)

  kept_behind : (x : X) (xs : List X) (y : X) (ys : List X) → Rises hash (y ∷ ys) → lt y x ≡ false → filter (others (x ∷ xs)) (y ∷ ys) ≡ filter (others xs) (after_hash hash (hash x) (y ∷ ys))
  kept_behind x xs y ys r high = elim (cases_Bool (pointwise nat_eq (hash y) (hash x))) [
    | inl t ↦
        let e : hash y ≡ hash x = (bytes_decides (hash y) (hash x)).0 t in
        let rest : after_hash hash (hash x) (y ∷ ys) ≡ ys = behind_same (hash x) y ys e in
        skips (others (x ∷ xs)) y ys (this_record x xs y e) ∙ above_others x xs ys (subst (AllByRecursion (λ z. lt x z ≡ true)) rest (all_above x y ys r high)) ∙ ap (filter (others xs)) (sym rest)
    | inr f ↦
        let rest : after_hash hash (hash x) (y ∷ ys) ≡ y ∷ ys = behind_other (hash x) y ys (λ e. true≢false (sym ((bytes_decides (hash y) (hash x)).1 e) ∙ f)) in
        above_others x xs (y ∷ ys) (subst (AllByRecursion (λ z. lt x z ≡ true)) rest (all_above x y ys r high)) ∙ ap (filter (others xs)) (sym rest)
  ]

  pub merged_is : (xs ys : List X) → Rises hash xs → Rises hash ys → merged xs ys ≡ union hash xs ys
  merged_is [] ys r s = merged_rest ys ∙ sym (sorted_rising ys s) ∙ ap (sorted by) (sym (filter_none ys))
  merged_is (x ∷ xs) [] r s =
      merged_end x xs ∙ ap (λ (l : List X). x ∷ l) (merged_is xs [] r.1 tt)
      ∙ sym (sorted_low x [] (xs ++ []) tt (all_append (λ z. lt x z ≡ true) xs [] r.0 tt))
  merged_is (x ∷ xs) (y ∷ ys) r s = elim (cases_Bool (lt y x)) [
    | inl t ↦
        let first : AllByRecursion (λ z. lt y z ≡ true) (x ∷ xs) = (t, all_each (λ z. lt x z ≡ true) (λ z. lt y z ≡ true) xs (λ z less. less_less (hash y) (hash x) (hash z) t less) r.0) in
        let kept = keeps (others (x ∷ xs)) y ys (no_record (x ∷ xs) y (all_each (λ z. lt y z ≡ true) (λ z. hash y ≢ hash z) (x ∷ xs) (λ z less. apart (hash y) (hash z) less) first)) in
        merged_low x xs y ys t ∙ ap (λ (l : List X). y ∷ l) (merged_is (x ∷ xs) ys r s.1)
        ∙ sym (sorted_low y (x ∷ xs) (filter (others (x ∷ xs)) ys) first (all_filtered (λ z. lt y z ≡ true) (others (x ∷ xs)) ys s.0))
        ∙ ap (λ (l : List X). sorted by ((x ∷ xs) ++ l)) (sym kept)
    | inr f ↦
        let rest : List X = after_hash hash (hash x) (y ∷ ys) in
        merged_high x xs y ys f ∙ ap (λ (l : List X). x ∷ l) (merged_is xs (after_hash hash (hash x) (y ∷ ys)) r.1 (behind_rises (hash x) (y ∷ ys) s))
        ∙ sym (sorted_low x [] (xs ++ filter (others xs) (after_hash hash (hash x) (y ∷ ys))) tt
        (all_append (λ z. lt x z ≡ true) xs (filter (others xs) (after_hash hash (hash x) (y ∷ ys))) r.0 (all_filtered (λ z. lt x z ≡ true) (others xs) (after_hash hash (hash x) (y ∷ ys)) (all_above x y ys s f))))
        ∙ ap (λ (l : List X). sorted by (x ∷ (xs ++ l))) (sym (kept_behind x xs y ys s f))
  ]

  -- what holds of the records of both holds of those of the union
  pub all_union : (P : X → Type 0) (xs ys : List X) → AllByRecursion P xs → AllByRecursion P ys → AllByRecursion P (union hash xs ys)
  all_union P xs ys first second = all_sorted by P (xs ++ filter (others xs) ys) (all_append P xs (filter (others xs) ys) first (all_filtered P (others xs) ys second))

  -- ---- records that agree

  -- what holds of each record of the second list, up to x and after it, holds of all
  all_again : (P : X → Type 0) (x : X) (ys : List X) → ((y : X) → lt y x ≡ true → P y) → ((y : X) → hash y ≡ hash x → P y) → AllByRecursion P (after_hash hash (hash x) (not_below hash (hash x) ys)) → AllByRecursion P ys
  all_again P x [] low same all = tt
  all_again P x (y ∷ ys) low same all = elim (cases_Bool (lt y x)) [
    | inl t ↦ (low y t, all_again P x ys low same (subst (λ (l : List X). AllByRecursion P (after_hash hash (hash x) l)) (rest_low (hash x) y ys t) all))
    | inr f ↦
        let at : AllByRecursion P (after_hash hash (hash x) (y ∷ ys)) = subst (λ (l : List X). AllByRecursion P (after_hash hash (hash x) l)) (rest_high (hash x) y ys f) all in
        elim (cases_Bool (pointwise nat_eq (hash y) (hash x))) [
          | inl t ↦ let e : hash y ≡ hash x = (bytes_decides (hash y) (hash x)).0 t in (same y e, subst (AllByRecursion P) (behind_same (hash x) y ys e) at)
          | inr g ↦ subst (AllByRecursion P) (behind_other (hash x) y ys (λ e. true≢false (sym ((bytes_decides (hash y) (hash x)).1 e) ∙ g))) at
        ]
  ]

  first_again : (x : X) (ys : List X) → Rises hash ys → FirstAgrees hash x (not_below hash (hash x) ys) → AllByRecursion (λ y. hash x ≡ hash y → x ≡ y) ys
  first_again x [] r first = tt
  first_again x (y ∷ ys) r first = elim (cases_Bool (lt y x)) [
    | inl t ↦ ((λ e. absurd (apart (hash y) (hash x) t (sym e))), first_again x ys r.1 (subst (FirstAgrees hash x) (rest_low (hash x) y ys t) first))
    | inr f ↦
        let here : FirstAgrees hash x (y ∷ ys) = subst (FirstAgrees hash x) (rest_high (hash x) y ys f) first in
        (here, all_each (λ z. lt y z ≡ true) (λ z. hash x ≡ hash z → x ≡ z) ys (λ z less e. absurd (apart (hash x) (hash z) (above (hash x) (hash y) (hash z) f less) e)) r.0)
  ]

  pub agree_back : (x : X) (xs ys : List X) → Rises hash (x ∷ xs) → Rises hash ys → FirstAgrees hash x (not_below hash (hash x) ys) → Agree hash xs (after_hash hash (hash x) (not_below hash (hash x) ys)) → Agree hash (x ∷ xs) ys
  agree_back x xs ys r s first rest = (first_again x ys s first, each xs r.0 rest)
    where
      each : (zs : List X) → AllByRecursion (λ z. lt x z ≡ true) zs → Agree hash zs (after_hash hash (hash x) (not_below hash (hash x) ys)) → Agree hash zs ys
      each [] all agree = tt
      each (z ∷ zs) all agree = (
        all_again (λ y. hash z ≡ hash y → z ≡ y) x ys
            (λ y less e. absurd (apart (hash y) (hash z) (less_less (hash y) (hash x) (hash z) less all.0) (sym e)))
            (λ y same e. absurd (apart (hash x) (hash z) all.0 (sym (e ∙ same)))) agree.0,
        each zs all.1 agree.1,
      )

  first_of : (x : X) (ys : List X) → AllByRecursion (λ y. hash x ≡ hash y → x ≡ y) ys → FirstAgrees hash x ys
  first_of x [] all = tt
  first_of x (y ∷ ys) all = all.0

  pub agree_first : (x : X) (xs ys : List X) → Agree hash (x ∷ xs) ys → FirstAgrees hash x (not_below hash (hash x) ys)
  agree_first x xs ys agree = first_of x (not_below hash (hash x) ys) (all_rest (λ y. hash x ≡ hash y → x ≡ y) (hash x) ys agree.0)

  pub agree_on : (x : X) (xs ys : List X) → Agree hash (x ∷ xs) ys → Agree hash xs (after_hash hash (hash x) (not_below hash (hash x) ys))
  agree_on x xs ys agree =
      all_each (λ z. AllByRecursion (λ y. hash z ≡ hash y → z ≡ y) ys) (λ z. AllByRecursion (λ y. hash z ≡ hash y → z ≡ y) (after_hash hash (hash x) (not_below hash (hash x) ys))) xs
      (λ z all. all_behind (λ y. hash z ≡ hash y → z ≡ y) (hash x) (not_below hash (hash x) ys) (all_rest (λ y. hash z ≡ hash y → z ≡ y) (hash x) ys all)) agree.1

  -- ---- the form of records

  module _ (Form : X → Type 0) where
    above_last : (last x : List ℕ) (ys : List X) → is_lt (hash_cmp last x) ≡ true → AreRecords hash Form (Some x) ys → AllByRecursion (λ y. is_lt (hash_cmp last (hash y)) ≡ true) ys
    above_last last x [] less r = tt
    above_last last x (y ∷ ys) less r =
        let here : is_lt (hash_cmp last (hash y)) ≡ true = less_less last x (hash y) less r.0 in
        (here, above_last last (hash y) ys here r.3)

    above_this : (x : List ℕ) (ys : List X) → AreRecords hash Form (Some x) ys → AllByRecursion (λ y. is_lt (hash_cmp x (hash y)) ≡ true) ys
    above_this x [] r = tt
    above_this x (y ∷ ys) r = (r.0, above_last x (hash y) ys r.0 r.3)

    pub records_rise : (last : Option (List ℕ)) (xs : List X) → AreRecords hash Form last xs → Rises hash xs
    records_rise last [] r = tt
    records_rise last (x ∷ xs) r = (above_this (hash x) xs r.3, records_rise (Some (hash x)) xs r.3)

    pub records_merged : (last : Option (List ℕ)) (xs ys : List X) → AreRecords hash Form last xs → AreRecords hash Form last ys → AreRecords hash Form last (merged xs ys)
    records_merged last [] ys r s = subst (AreRecords hash Form last) (sym (merged_rest ys)) s
    records_merged last (x ∷ xs) [] r s = subst (AreRecords hash Form last) (sym (merged_end x xs)) (r.0, r.1, r.2, records_merged (Some (hash x)) xs [] r.3 tt)
    records_merged last (x ∷ xs) (y ∷ ys) r s = elim (cases_Bool (lt y x)) [
      | inl t ↦ subst (AreRecords hash Form last) (sym (merged_low x xs y ys t)) (s.0, s.1, s.2, records_merged (Some (hash y)) (x ∷ xs) ys (t, r.1, r.2, r.3) s.3)
      | inr f ↦
          subst (AreRecords hash Form last) (sym (merged_high x xs y ys f)) (
            r.0,
            r.1,
            r.2,
            records_merged (Some (hash x)) xs (after_hash hash (hash x) (y ∷ ys)) r.3 (elim (cases_Bool (pointwise nat_eq (hash y) (hash x))) [
              | inl t ↦
                  let e : hash y ≡ hash x = (bytes_decides (hash y) (hash x)).0 t in
                  subst (AreRecords hash Form (Some (hash x))) (sym (behind_same (hash x) y ys e)) (subst (λ (h : List ℕ). AreRecords hash Form (Some h) ys) e s.3)
              | inr g ↦
                  let ne : hash y ≢ hash x = λ e. true≢false (sym ((bytes_decides (hash y) (hash x)).1 e) ∙ g) in
                  subst (AreRecords hash Form (Some (hash x))) (sym (behind_other (hash x) y ys ne)) (other_less (hash x) (hash y) (λ e. ne (sym e)) f, s.1, s.2, s.3)
            ]),
          )
    ]
