-- The place that a registry gives of a word is that of an item of a shard's chunk lookup table.
use Rattle.std.proofs.Common.{◌≡◌, ℕ, zero, suc, ◌+◌, ◌<◌, get_or, Bool, true, false, List, [], ◌∷◌, length, Option, None, Some, option_map, slice_get, refl, sym, ap, ◌∙◌, arith, add-zero}
use Rattle.std.specs.Prelude.{filter, option_and_then, nat_le, ◌==◌}
use Rattle.std.proofs.lemmas.Option.{same_Some, slice_get-get_or}
use Rattle.xet_shard.specs.Queries.{last_of}
use Rattle.xet_shard_index.specs.Places.{indexed_shard, place_of, within_reach, word_place}
use Rattle.xet_shard_index.specs.declared.word_place.WordPlace.{WordPlace}
use Rattle.xet_shard_registry.specs.Registered.{Registered, collection, entered_from, has_key, indexed, numbers, numbers_from, place_among}

-- ---- the numbers of a key's shards

-- the number at an index of a key's numbers is that of the shard at this index of the key's shards
pub numbered : (n : ℕ) (key : List ℕ) (shards : List Registered) (j m : ℕ) → slice_get (numbers_from n key shards) j ≡ Some m
    → (i : ℕ) × (s : Registered) × (m ≡ n + i) × (slice_get shards i ≡ Some s) × (slice_get (collection key shards) j ≡ Some s)
unfolding numbers_from
numbered n key [] j m e = absurd cc
numbered n key (t ∷ ss) j m e = by (has_key key t) refl (numbered (n + 1) key ss)
  where
    by : (b : Bool) → has_key key t ≡ b
        → ((j m : ℕ) → slice_get (numbers_from (n + 1) key ss) j ≡ Some m
        → (i : ℕ) × (s : Registered) × (m ≡ n + 1 + i) × (slice_get ss i ≡ Some s) × (slice_get (collection key ss) j ≡ Some s))
        → (i : ℕ) × (s : Registered) × (m ≡ n + i) × (slice_get (t ∷ ss) i ≡ Some s) × (slice_get (collection key (t ∷ ss)) j ≡ Some s)
    by false eb later =
        let (i, s, em, es, ec) = later j m (rw eb at e) in
        let next : m ≡ n + suc i = omega (arith, em) in
        (suc i, s, next, es, rw eb ec)
    by true eb later = at j (rw eb at e)
      where
        at : (k : ℕ) → slice_get (n ∷ numbers_from (n + 1) key ss) k ≡ Some m
            → (i : ℕ) × (s : Registered) × (m ≡ n + i) × (slice_get (t ∷ ss) i ≡ Some s) × (slice_get (collection key (t ∷ ss)) k ≡ Some s)
        at zero e =
            let same : n ≡ m = same_Some n m e in
            let here : m ≡ n + 0 = omega (arith, same) in
            (0, t, here, refl, rw eb refl)
        at (suc k) e =
            let (i, s, em, es, ec) = later k m e in
            let next : m ≡ n + suc i = omega (arith, em) in
            (suc i, s, next, es, rw eb ec)

-- the number that a list of a key's numbers has at an index is that of the shard at this index
pub number_at : (key : List ℕ) (shards : List Registered) (members : List ℕ) (i : ℕ) → members ≡ numbers key shards → i < length members
    → (s : Registered) × (slice_get shards (get_or members i 0) ≡ Some s) × (slice_get (collection key shards) i ≡ Some s)
number_at key shards members i are low =
    let (j, s, em, es, ec) = numbered 0 key shards i (get_or members i 0) (ap (λ (ms : List ℕ). slice_get ms i) (sym are) ∙ slice_get-get_or members i 0 low) in
    let number : get_or members i 0 ≡ j = omega (arith, em) in
    (s, ap (λ (k : ℕ). slice_get shards k) number ∙ es, ec)

-- there are as many numbers as shards
pub numbers_count : (n : ℕ) (key : List ℕ) (shards : List Registered) → length (numbers_from n key shards) ≡ length (collection key shards)
unfolding numbers_from
numbers_count n key [] = refl
numbers_count n key (t ∷ ss) = by (has_key key t) refl (numbers_count (n + 1) key ss)
  where
    by : (b : Bool) → has_key key t ≡ b → length (numbers_from (n + 1) key ss) ≡ length (collection key ss) → length (numbers_from n key (t ∷ ss)) ≡ length (collection key (t ∷ ss))
    by true eb later = rw eb (ap suc later)
    by false eb later = rw eb later

-- ---- the items of a shard

-- what a filter keeps was there
filtered : {X : Type 0} (f : X → Bool) (xs : List X) (i : ℕ) (x : X) → slice_get (filter f xs) i ≡ Some x → (j : ℕ) × (slice_get xs j ≡ Some x)
filtered f [] i x e = absurd cc
filtered {X} f (y ∷ xs) i x e = by (f y) refl (filtered f xs)
  where
    by : (b : Bool) → f y ≡ b → ((i : ℕ) (x : X) → slice_get (filter f xs) i ≡ Some x → (j : ℕ) × (slice_get xs j ≡ Some x)) → (j : ℕ) × (slice_get (y ∷ xs) j ≡ Some x)
    by false eb later = let (j, ej) = later i x (rw eb at e) in (suc j, ej)
    by true eb later = at i (rw eb at e)
      where
        at : (k : ℕ) → slice_get (y ∷ filter f xs) k ≡ Some x → (j : ℕ) × (slice_get (y ∷ xs) j ≡ Some x)
        at zero e = (0, e)
        at (suc k) e = let (j, ej) = later k x e in (suc j, ej)

-- the last item with a word is one of the items
last_is_item : (word : ℕ) (items : List (ℕ × ℕ × ℕ)) (row place : ℕ) → last_of word items ≡ Some (row, place) → (w : ℕ) × (i : ℕ) × (slice_get items i ≡ Some (w, row, place))
unfolding last_of
last_is_item word [] row place e = absurd cc
last_is_item word (x ∷ xs) row place e = by (last_of word xs) refl (last_is_item word xs row place)
  where
    by : (o : Option (ℕ × ℕ)) → last_of word xs ≡ o → (last_of word xs ≡ Some (row, place) → (w : ℕ) × (i : ℕ) × (slice_get xs i ≡ Some (w, row, place)))
        → (w : ℕ) × (i : ℕ) × (slice_get (x ∷ xs) i ≡ Some (w, row, place))
    by (Some found) eo later = let (w, i, there) = later (eo ∙ rw eo at e) in (w, suc i, there)
    by None eo later = own (x.0 == word) refl
      where
        own : (b : Bool) → (x.0 == word) ≡ b → (w : ℕ) × (i : ℕ) × (slice_get (x ∷ xs) i ≡ Some (w, row, place))
        own false eb = absurd (cc (rw (eo, eb) at e))
        own true eb =
            let same : (x.1, x.2) ≡ (row, place) = same_Some _ _ (rw (eo, eb) at e) in
            (x.0, 0, ap (λ (at : ℕ × ℕ). Some (x.0, at.0, at.1)) same)

-- ---- the place of a word

-- the place is that of the last item with a word, in one of these shards, of which the first has the number n
abbrev IsLastItem : ℕ → ℕ → List Registered → WordPlace → Type 0
IsLastItem word n shards p = (j : ℕ) × (s : Registered) × (p.shard ≡ n + j) × (slice_get shards j ≡ Some s) × (last_of word (within_reach s.items) ≡ Some (p.row, p.chunk))

placed : (word : ℕ) (n : ℕ) (shards : List Registered) (p : WordPlace) → place_of word (entered_from n shards) ≡ Some p → IsLastItem word n shards p
unfolding entered_from place_of
placed word n [] p e = absurd cc
placed word n (t ∷ ss) p e = by t.entered refl (placed word (n + 1) ss p)
  where
    next : (place_of word (entered_from (n + 1) ss) ≡ Some p → IsLastItem word (n + 1) ss p) → place_of word (entered_from (n + 1) ss) ≡ Some p → IsLastItem word n (t ∷ ss) p
    next later e =
        let (j, s, ep, es, el) = later e in
        let number : p.shard ≡ n + suc j = omega (arith, ep) in
        (suc j, s, number, es, el)

    own : (o : Option (ℕ × ℕ)) → last_of word (within_reach t.items) ≡ o → option_map (word_place n) o ≡ Some p → IsLastItem word n (t ∷ ss) p
    own None eo is = absurd cc
    own (Some at) eo is =
        let same : word_place n at ≡ p = same_Some (word_place n at) p is in
        let number : p.shard ≡ n + 0 = sym (ap (λ (q : WordPlace). q.shard) same) ∙ sym (add-zero n) in
        let pair : at ≡ (p.row, p.chunk) = ap (λ (q : WordPlace). (q.row, q.chunk)) same in
        (0, t, number, refl, eo ∙ ap (λ (a : ℕ × ℕ). Some a) pair)

    first : (o : Option WordPlace) → place_of word (entered_from (n + 1) ss) ≡ o → (place_of word (entered_from (n + 1) ss) ≡ Some p → IsLastItem word (n + 1) ss p) → place_of word (indexed_shard n t.items ∷ entered_from (n + 1) ss) ≡ Some p → IsLastItem word n (t ∷ ss) p
    first (Some q) eo later is = next later (eo ∙ rw (eo, place_of) at is)
    first None eo later is = own (last_of word (within_reach t.items)) refl (rw (eo, place_of) at is)

    by : (b : Bool) → t.entered ≡ b → (place_of word (entered_from (n + 1) ss) ≡ Some p → IsLastItem word (n + 1) ss p) → IsLastItem word n (t ∷ ss) p
    by false eb later = next later (rw eb at e)
    by true eb later = first (place_of word (entered_from (n + 1) ss)) refl later (rw eb at e)

-- the place is that of an item of the shard's chunk lookup table
abbrev pub HasItem : Registered → WordPlace → Type 0
HasItem s p = (word : ℕ) × (item : ℕ) × (slice_get s.items item ≡ Some (word, p.row, p.chunk))

-- the place of a word among the shards of a key is that of an item of the shard with its number
pub item_of_place : (key : List ℕ) (word : ℕ) (shards : List Registered) (p : WordPlace) (s : Registered) → place_among key word shards ≡ Some p → slice_get shards p.shard ≡ Some s
    → HasItem s p
item_of_place key word shards p s is there = by (place_of word (indexed key shards)) refl is
  where
    found : (q : WordPlace) (m : ℕ) → place_of word (indexed key shards) ≡ Some q → slice_get (numbers key shards) q.shard ≡ Some m → word_place m (q.row, q.chunk) ≡ p → HasItem s p
    found q m eq em same =
        let (j, t, eh, et, el) = placed word 0 (collection key shards) q eq in
        let (i, u, ei, eu, ec) = numbered 0 key shards q.shard m em in
        let at : j ≡ q.shard = omega (arith, eh) in
        let own : t ≡ u = same_Some t u (sym et ∙ rw at ec) in
        let number : i ≡ p.shard = omega (arith, ei, ap (λ (r : WordPlace). r.shard) same) in
        let is_s : u ≡ s = same_Some u s (sym eu ∙ rw number there) in
        let last : last_of word (within_reach s.items) ≡ Some (p.row, p.chunk) = rw (← is_s, ← own, ← same) el in
        let (w, k, ek) = last_is_item word (within_reach s.items) p.row p.chunk last in
        let (l, item) = filtered (λ (x : ℕ × ℕ × ℕ). nat_le x.2 65535) s.items k (w, p.row, p.chunk) ek in
        (w, l, item)

    of_number : (q : WordPlace) (o : Option ℕ) → place_of word (indexed key shards) ≡ Some q → slice_get (numbers key shards) q.shard ≡ o → option_map (λ shard. word_place shard (q.row, q.chunk)) o ≡ Some p → HasItem s p
    of_number q None eq eo is = absurd cc
    of_number q (Some m) eq eo is = found q m eq eo (same_Some (word_place m (q.row, q.chunk)) p is)

    by : (o : Option WordPlace) → place_of word (indexed key shards) ≡ o
        → option_and_then (λ q. option_map (λ shard. word_place shard (q.row, q.chunk)) (slice_get (numbers key shards) q.shard)) (place_of word (indexed key shards)) ≡ Some p → HasItem s p
    by None eo is = absurd (cc (rw eo at is))
    by (Some q) eo is = of_number q (slice_get (numbers key shards) q.shard) eo refl (rw eo at is)
