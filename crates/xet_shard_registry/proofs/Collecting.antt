-- The collections of the registered shards, as one more shard is registered.
use Rattle.std.proofs.Common.{◌≡◌, ◌≢◌, ◌⊎◌, inl, inr, ℕ, zero, suc, ◌+◌, ◌-◌, ◌^◌, ◌≤◌, min, nat_eq, nat_lt, Bool, true, false, if◌then◌else◌, List, [], ◌∷◌, ◌++◌, length, map, None, Some, Option, is_some, option_map, position, Result, Ok, Err, slice_get, slice_set, refl, sym, ap, ◌∙◌, arith, add-zero}
use Rattle.std.proofs.lemmas.List.{append-nil, length-map, map-append, nil_from_length}
use Rattle.std.proofs.lemmas.Bool.{le-ltb, lt-ltb, ltb-false, ltb-true}
use Rattle.std.proofs.lemmas.List.Quantifiers.{position-Some}
use Rattle.std.proofs.lemmas.Option.{get_or_from_slice_get, slice_get-map}
use Rattle.std.specs.Prelude.{IfNone, IfSome, OnErr, OnOk}
use Rattle.std.proofs.lemmas.List.Elements.{filter-append}
use Rattle.std.proofs.lemmas.List.Sums.{sum_by-cons}
use Rattle.std.specs.Cmp.Lexicographic.{pointwise, same_text}
use Rattle.std.specs.List.{AllByRecursion, list_any, sum_by}
use Rattle.xet_hash.specs.Hash.{zero_hash}
use Rattle.xet_shard_registry.proofs.Keys.{key_same, key_tells}
use Rattle.xet_shard.specs.Union.{ShardRecords}
use Rattle.xet_shard_directory.specs.declared.shard_file.MDBShardFile.{MDBShardFile}
use Rattle.xet_shard_registry.specs.Registered.{collection, entered_from, has_key, indexed, is_key_of, key_of, keys_of, materialized_of, numbers, numbers_from, Registered, stored_of, with_shard, word_count}
use Rattle.xet_shard_registry.specs.declared.collection.Collection.{Collection}
use Rattle.xet_shard_registry.specs.Collections.{AddsTo, AreCollectionsOf, HasAdded, HasKept, IsCollectionOf, IsKeyless, IsRegistryOf, StayCollections, Tables, words_in}
use Rattle.xet_shard_index.specs.Different.{different}
use Rattle.xet_shard_index.specs.theorems.Different.{Distinct, any_different, different_is_distinct, different_with, with_last}
use Rattle.xet_shard_index.specs.Places.{IndexedShard, IsIndexOf, all_words, indexed_shard}
use Rattle.xet_shard_index.specs.declared.word_place.WordPlace.{WordPlace}

-- ---- one key

-- a shard comes last in the list of its key's shards, and in no other
collection_own : (key : List ℕ) (shards : List Registered) (s : Registered) → has_key key s ≡ true → collection key (shards ++ s ∷ []) ≡ collection key shards ++ s ∷ []
collection_own key shards s own = filter-append (has_key key) shards (s ∷ []) ∙ rw own refl

collection_other : (key : List ℕ) (shards : List Registered) (s : Registered) → has_key key s ≡ false → collection key (shards ++ s ∷ []) ≡ collection key shards
collection_other key shards s other = filter-append (has_key key) shards (s ∷ []) ∙ rw other (append-nil (collection key shards))

numbers_own : (n : ℕ) (key : List ℕ) (shards : List Registered) (s : Registered) → has_key key s ≡ true
    → numbers_from n key (shards ++ s ∷ []) ≡ numbers_from n key shards ++ (n + length shards) ∷ []
unfolding numbers_from
numbers_own n key [] s own = let here : n + 0 ≡ n = add-zero n in rw (own, here) refl
numbers_own n key (t ∷ ss) s own = by (has_key key t) refl (numbers_own (n + 1) key ss s own)
  where
    place : n + 1 + length ss ≡ n + suc (length ss)
    place = omega arith

    by : (b : Bool) → has_key key t ≡ b → numbers_from (n + 1) key (ss ++ s ∷ []) ≡ numbers_from (n + 1) key ss ++ (n + 1 + length ss) ∷ []
        → numbers_from n key (t ∷ ss ++ s ∷ []) ≡ numbers_from n key (t ∷ ss) ++ (n + suc (length ss)) ∷ []
    by true eb later = rw eb (ap (λ (ys : List ℕ). n ∷ ys) (later ∙ rw place refl))
    by false eb later = rw eb (later ∙ rw place refl)

numbers_other : (n : ℕ) (key : List ℕ) (shards : List Registered) (s : Registered) → has_key key s ≡ false → numbers_from n key (shards ++ s ∷ []) ≡ numbers_from n key shards
unfolding numbers_from
numbers_other n key [] s other = rw other refl
numbers_other n key (t ∷ ss) s other = by (has_key key t) refl (numbers_other (n + 1) key ss s other)
  where
    by : (b : Bool) → has_key key t ≡ b → numbers_from (n + 1) key (ss ++ s ∷ []) ≡ numbers_from (n + 1) key ss
        → numbers_from n key (t ∷ ss ++ s ∷ []) ≡ numbers_from n key (t ∷ ss)
    by true eb later = rw eb (ap (λ (ys : List ℕ). n ∷ ys) later)
    by false eb later = rw eb later

-- there are as many numbers as shards
numbers_count : (n : ℕ) (key : List ℕ) (shards : List Registered) → length (numbers_from n key shards) ≡ length (collection key shards)
unfolding numbers_from
numbers_count n key [] = refl
numbers_count n key (t ∷ ss) = by (has_key key t) refl (numbers_count (n + 1) key ss)
  where
    by : (b : Bool) → has_key key t ≡ b → length (numbers_from (n + 1) key ss) ≡ length (collection key ss) → length (numbers_from n key (t ∷ ss)) ≡ length (collection key (t ∷ ss))
    by true eb later = rw eb (ap suc later)
    by false eb later = rw eb later

-- the shard that comes last enters last, or does not
abbrev pub last_entered : ℕ → Registered → List IndexedShard
last_entered n s = if s.entered then indexed_shard n s.items ∷ [] else []

entered_last : (n : ℕ) (shards : List Registered) (s : Registered) → entered_from n (shards ++ s ∷ []) ≡ entered_from n shards ++ last_entered (n + length shards) s
unfolding entered_from
entered_last n [] s = let here : n + 0 ≡ n = add-zero n in rw here (by s.entered)
  where
    by : (b : Bool) → (if b then indexed_shard n s.items ∷ [] else []) ≡ (if b then indexed_shard n s.items ∷ [] else [])
    by b = refl
entered_last n (t ∷ ss) s = by t.entered (entered_last (n + 1) ss s)
  where
    place : n + 1 + length ss ≡ n + suc (length ss)
    place = omega arith

    by : (b : Bool) → entered_from (n + 1) (ss ++ s ∷ []) ≡ entered_from (n + 1) ss ++ last_entered (n + 1 + length ss) s
        → (if b then indexed_shard n t.items ∷ entered_from (n + 1) (ss ++ s ∷ []) else entered_from (n + 1) (ss ++ s ∷ []))
        ≡ (if b then indexed_shard n t.items ∷ entered_from (n + 1) ss else entered_from (n + 1) ss) ++ last_entered (n + suc (length ss)) s
    by true later = ap (λ (ys : List IndexedShard). indexed_shard n t.items ∷ ys) (later ∙ rw place refl)
    by false later = later ∙ rw place refl

-- ---- one collection

-- a collection of another key stays
collection_stays : (shards : List Registered) (s : Registered) (c : Collection) → has_key c.key s ≡ false → IsCollectionOf shards c → IsCollectionOf (shards ++ s ∷ []) c
collection_stays shards s c other held = record {
  members = held.members ∙ sym (numbers_other 0 c.key shards s other);
  index = rw (collection_other c.key shards s other) held.index;
}

-- that of the shard's key has it
collection_grows : (shards : List Registered) (s : Registered) (c next : Collection) (number : ℕ) (enters : Bool) (items : List (ℕ × ℕ × ℕ)) → has_key c.key s ≡ true → number ≡ length shards
    → enters ≡ s.entered → items ≡ s.items → HasAdded c next number enters items → IsCollectionOf shards c → IsCollectionOf (shards ++ s ∷ []) next
collection_grows shards s c next number enters items own en ee ei added held = record {
  members = added.members ∙ rw (added.key, held.members, en) (rw start at (sym (numbers_own 0 c.key shards s own)));
  index = rw (added.key, collection_own c.key shards s own, entered_last 0 (collection c.key shards) s) (by enters refl);
}
  where
    start : 0 + length shards ≡ length shards
    start = omega arith

    place : length c.members.items ≡ length (collection c.key shards)
    place = ap length held.members ∙ numbers_count 0 c.key shards

    at : 0 + length (collection c.key shards) ≡ length c.members.items
    at = omega (arith, place)

    old : List IndexedShard
    old = entered_from 0 (collection c.key shards)

    by : (b : Bool) → enters ≡ b → IsIndexOf next.index (old ++ last_entered (0 + length (collection c.key shards)) s)
    by true eb =
        let has : s.entered ≡ true = sym ee ∙ eb in
        rw (has, at, sym ei) (added.entered eb old held.index)
    by false eb =
        let has : s.entered ≡ false = sym ee ∙ eb in
        rw (has, append-nil old, added.listed eb) held.index

-- ---- all collections

abbrev pub key_in : Collection → List ℕ
key_in c = c.key

-- where no collection has the key of a shard, all stay
each_stays : (shards : List Registered) (s : Registered) (cs : List Collection) → list_any (pointwise nat_eq (key_of s)) (map key_in cs) ≡ false
    → AllByRecursion (IsCollectionOf shards) cs → AllByRecursion (IsCollectionOf (shards ++ s ∷ [])) cs
each_stays shards s [] none held = tt
each_stays shards s (c ∷ cs) none held = by (key_tells (key_of s) c.key) (key_tells c.key (key_of s)) (each_stays shards s cs)
  where
    by : ((pointwise nat_eq (key_of s) c.key ≡ true) × (key_of s ≡ c.key)) ⊎ ((pointwise nat_eq (key_of s) c.key ≡ false) × (key_of s ≢ c.key))
        → ((pointwise nat_eq c.key (key_of s) ≡ true) × (c.key ≡ key_of s)) ⊎ ((pointwise nat_eq c.key (key_of s) ≡ false) × (c.key ≢ key_of s))
        → (list_any (pointwise nat_eq (key_of s)) (map key_in cs) ≡ false → AllByRecursion (IsCollectionOf shards) cs → AllByRecursion (IsCollectionOf (shards ++ s ∷ [])) cs)
        → AllByRecursion (IsCollectionOf (shards ++ s ∷ [])) (c ∷ cs)
    by (inl a) b later = absurd (cc (a.0, none))
    by (inr a) (inl b) later = absurd (a.1 (sym b.1))
    by (inr a) (inr b) later = (collection_stays shards s c b.0 held.0, later (rw a.0 at none) held.1)

-- a collection that is there has its key among the keys
key_there : (cs : List Collection) (at : ℕ) (c : Collection) → slice_get cs at ≡ Some c → list_any (pointwise nat_eq c.key) (map key_in cs) ≡ true
key_there [] at c e = absurd cc
key_there (x ∷ cs) zero c e = let same : x ≡ c = cc e in rw (same, key_same c.key) refl
key_there (x ∷ cs) (suc at) c e = by (key_tells c.key x.key) (key_there cs at c e)
  where
    by : ((pointwise nat_eq c.key x.key ≡ true) × (c.key ≡ x.key)) ⊎ ((pointwise nat_eq c.key x.key ≡ false) × (c.key ≢ x.key))
        → list_any (pointwise nat_eq c.key) (map key_in cs) ≡ true → list_any (pointwise nat_eq c.key) (map key_in (x ∷ cs)) ≡ true
    by (inl a) later = rw a.0 refl
    by (inr a) later = rw a.0 later

-- a collection that is there is of the shards
collection_at : (shards : List Registered) (cs : List Collection) (at : ℕ) (c : Collection) → slice_get cs at ≡ Some c → AllByRecursion (IsCollectionOf shards) cs → IsCollectionOf shards c
collection_at shards [] at c e all = absurd cc
collection_at shards (d ∷ ds) zero c e all = let same : d ≡ c = cc e in rw same at all.0
collection_at shards (d ∷ ds) (suc at) c e all = collection_at shards ds at c e all.1

-- that of the shard's key is replaced by one that has the shard
each_set : (shards : List Registered) (s : Registered) (cs : List Collection) (at : ℕ) (c next : Collection) → slice_get cs at ≡ Some c → c.key ≡ key_of s
    → Distinct (pointwise nat_eq) key_tells (map key_in cs) → IsCollectionOf (shards ++ s ∷ []) next → AllByRecursion (IsCollectionOf shards) cs → AllByRecursion (IsCollectionOf (shards ++ s ∷ [])) (slice_set cs at next)
unfolding Distinct
each_set shards s [] at c next e ek distinct grown held = tt
each_set shards s (x ∷ cs) zero c next e ek distinct grown held =
    let same : x ≡ c = cc e in
    let none : list_any (pointwise nat_eq (key_of s)) (map key_in cs) ≡ false = rw (same, ek) at distinct.0 in
    (grown, each_stays shards s cs none held.1)
each_set shards s (x ∷ cs) (suc at) c next e ek distinct grown held =
    (by (key_tells x.key (key_of s)), each_set shards s cs at c next e ek distinct.1 grown held.1)
  where
    by : ((pointwise nat_eq x.key (key_of s) ≡ true) × (x.key ≡ key_of s)) ⊎ ((pointwise nat_eq x.key (key_of s) ≡ false) × (x.key ≢ key_of s)) → IsCollectionOf (shards ++ s ∷ []) x
    by (inl a) =
        let there : list_any (pointwise nat_eq x.key) (map key_in cs) ≡ true = rw (ek ∙ sym a.1) at (key_there cs at c e) in
        absurd (cc (there, distinct.0))
    by (inr a) = collection_stays shards s x a.0 held.0

pub keys_set : (cs : List Collection) (at : ℕ) (c next : Collection) → slice_get cs at ≡ Some c → next.key ≡ c.key → map key_in (slice_set cs at next) ≡ map key_in cs
keys_set [] at c next e same = refl
keys_set (x ∷ cs) zero c next e same = let first : x ≡ c = cc e in rw (first, same) refl
keys_set (x ∷ cs) (suc at) c next e same = ap (λ (ks : List (List ℕ)). x.key ∷ ks) (keys_set cs at c next e same)

-- whether a shard was added or not, the key stays
pub same_key : {X E : Type 0} (r : Result X E) (old new : Collection) (number : ℕ) (enters : Bool) (items : List (ℕ × ℕ × ℕ)) → OnOk r (HasAdded old new number enters items) → OnErr r (HasKept old new) → new.key ≡ old.key
same_key (Ok x) old new number enters items added kept = added.key
same_key (Err e) old new number enters items added kept = kept.key

-- the keys after one more shard
keys_more : (shards : List Registered) (s : Registered) → keys_of (shards ++ s ∷ []) ≡ with_last (pointwise nat_eq) key_tells (keys_of shards) (key_of s)
keys_more shards s =
    ap (λ (ks : List (List ℕ)). different (pointwise nat_eq) (zero_hash ∷ ks)) (map-append key_of shards (s ∷ []))
    ∙ different_with (pointwise nat_eq) key_tells (zero_hash ∷ map key_of shards) (key_of s)

-- the collections after one more shard whose key has a collection
pub add_to_key : (shards : List Registered) (s : Registered) (cs : List Collection) (at : ℕ) (c next : Collection) (number : ℕ) (enters : Bool) (items : List (ℕ × ℕ × ℕ))
    → slice_get cs at ≡ Some c → c.key ≡ key_of s → number ≡ length shards → enters ≡ s.entered → items ≡ s.items
    → HasAdded c next number enters items → AreCollectionsOf shards cs → AreCollectionsOf (shards ++ s ∷ []) (slice_set cs at next)
add_to_key shards s cs at c next number enters items e ek en ee ei added held = record {
  keys = keys_set cs at c next e added.key ∙ held.keys ∙ sym (keys_more shards s ∙ rw present refl);
  each = each_set shards s cs at c next e ek distinct grown held.each;
}
  where
    present : list_any (pointwise nat_eq (key_of s)) (keys_of shards) ≡ true
    present = rw (ek, held.keys) at (key_there cs at c e)

    distinct : Distinct (pointwise nat_eq) key_tells (map key_in cs)
    distinct = rw held.keys (different_is_distinct (pointwise nat_eq) key_tells (zero_hash ∷ map key_of shards))

    own : has_key c.key s ≡ true
    own = rw ek (key_same (key_of s))

    grown : IsCollectionOf (shards ++ s ∷ []) next
    grown = collection_grows shards s c next number enters items own en ee ei added (collection_at shards cs at c e held.each)

-- a key that no registered shard has, has no shards
no_shards : (key : List ℕ) (shards : List Registered) → list_any (pointwise nat_eq key) (map key_of shards) ≡ false → collection key shards ≡ []
no_shards key [] none = refl
no_shards key (s ∷ ss) none = by (key_tells key (key_of s)) (no_shards key ss)
  where
    by : ((pointwise nat_eq key (key_of s) ≡ true) × (key ≡ key_of s)) ⊎ ((pointwise nat_eq key (key_of s) ≡ false) × (key ≢ key_of s))
        → (list_any (pointwise nat_eq key) (map key_of ss) ≡ false → collection key ss ≡ []) → collection key (s ∷ ss) ≡ []
    by (inl a) later = absurd (cc (a.0, none))
    by (inr a) later = rw a.0 (later (rw a.0 at none))

no_keys : (key : List ℕ) (ks : List (List ℕ)) → list_any (pointwise nat_eq key) (zero_hash ∷ ks) ≡ false → list_any (pointwise nat_eq key) ks ≡ false
no_keys key ks none = by (key_tells key zero_hash)
  where
    by : ((pointwise nat_eq key zero_hash ≡ true) × (key ≡ zero_hash)) ⊎ ((pointwise nat_eq key zero_hash ≡ false) × (key ≢ zero_hash)) → list_any (pointwise nat_eq key) ks ≡ false
    by (inl a) = absurd (cc (a.0, none))
    by (inr a) = rw a.0 at none

-- a new collection, for a key that none has
empty_collection : (shards : List Registered) (c : Collection) → c.members.items ≡ [] → IsIndexOf c.index [] → list_any (pointwise nat_eq c.key) (keys_of shards) ≡ false → IsCollectionOf shards c
unfolding entered_from
empty_collection shards c members index none = record {
  members = members ∙ sym (nil_from_length (numbers c.key shards) (numbers_count 0 c.key shards ∙ ap length nothing));
  index = rw nothing index;
}
  where
    nothing : collection c.key shards ≡ []
    nothing = no_shards c.key shards (no_keys c.key (map key_of shards) (sym (any_different (pointwise nat_eq) key_tells c.key (zero_hash ∷ map key_of shards)) ∙ none))

each_push : {X : Type 0} (P : X → Type 0) (xs : List X) (x : X) → AllByRecursion P xs → P x → AllByRecursion P (xs ++ x ∷ [])
each_push P [] x all p = (p, tt)
each_push P (y ∷ xs) x all p = (all.0, each_push P xs x all.1 p)

-- the collections after one more shard whose key has none
pub add_new_key : (shards : List Registered) (s : Registered) (cs : List Collection) (c next : Collection) (number : ℕ) (enters : Bool) (items : List (ℕ × ℕ × ℕ))
    → IsKeyless c.key (map key_in cs) → c.members.items ≡ [] → IsIndexOf c.index [] → c.key ≡ key_of s → number ≡ length shards → enters ≡ s.entered → items ≡ s.items
    → HasAdded c next number enters items → AreCollectionsOf shards cs → AreCollectionsOf (shards ++ s ∷ []) (cs ++ next ∷ [])
add_new_key shards s cs c next number enters items none members index ek en ee ei added held = record {
  keys = map-append key_in cs (next ∷ []) ∙ ap (λ (ks : List (List ℕ)). ks ++ next.key ∷ []) held.keys ∙ rw (added.key, ek) (sym (keys_more shards s ∙ rw absent refl));
  each = each_push (IsCollectionOf (shards ++ s ∷ [])) cs next (each_stays shards s cs (rw ek at none) held.each) grown;
}
  where
    absent : list_any (pointwise nat_eq (key_of s)) (keys_of shards) ≡ false
    absent = rw (ek, held.keys) at none

    own : has_key c.key s ≡ true
    own = rw ek (key_same (key_of s))

    grown : IsCollectionOf (shards ++ s ∷ []) next
    grown = collection_grows shards s c next number enters items own en ee ei added (empty_collection shards c members index (rw held.keys at none))

-- ---- after an error

-- a collection that was kept is replaced by itself
pub keep_key : (shards : List Registered) (cs : List Collection) (at : ℕ) (c next : Collection) → slice_get cs at ≡ Some c → HasKept c next → AreCollectionsOf shards cs → AreCollectionsOf shards (slice_set cs at next)
keep_key shards cs at c next e kept held = record {
  keys = keys_set cs at c next e kept.key ∙ held.keys;
  each = go cs at e held.each;
}
  where
    go : (ds : List Collection) (i : ℕ) → slice_get ds i ≡ Some c → AllByRecursion (IsCollectionOf shards) ds → AllByRecursion (IsCollectionOf shards) (slice_set ds i next)
    go [] i e all = tt
    go (d ∷ ds) zero e all =
        let same : d ≡ c = cc e in
        let was : IsCollectionOf shards c = rw same at all.0 in
        (record { members = kept.members ∙ was.members ∙ rw kept.key refl; index = rw (kept.index, kept.key) was.index }, all.1)
    go (d ∷ ds) (suc i) e all = (all.0, go ds i e all.1)

-- ---- words

-- a sum where one summand has grown
pub sum_set : {X : Type 0} (f : X → ℕ) (xs : List X) (at : ℕ) (x y : X) (more : ℕ) → slice_get xs at ≡ Some x → f y ≡ f x + more → sum_by f (slice_set xs at y) ≡ sum_by f xs + more
sum_set f [] at x y more e grown = absurd cc
sum_set f (z ∷ xs) zero x y more e grown =
    let same : z ≡ x = cc e in
    sum_by-cons f y xs ∙ rw (grown, sum_by-cons f z xs, same) (swap (f x) more (sum_by f xs))
  where
    swap : (a b c : ℕ) → a + b + c ≡ a + c + b
    swap a b c = omega arith
sum_set f (z ∷ xs) (suc at) x y more e grown =
    sum_by-cons f z (slice_set xs at y) ∙ rw (sum_set f xs at x y more e grown, sum_by-cons f z xs) (join (f z) (sum_by f xs) more)
  where
    join : (a b c : ℕ) → a + (b + c) ≡ a + b + c
    join a b c = omega arith

pub sum_push : {X : Type 0} (f : X → ℕ) (xs : List X) (x : X) → sum_by f (xs ++ x ∷ []) ≡ sum_by f xs + f x
sum_push f [] x = sum_by-cons f x [] ∙ omega arith
sum_push f (y ∷ xs) x = sum_by-cons f y (xs ++ x ∷ []) ∙ rw (sum_push f xs x, sum_by-cons f y xs) (join (f y) (sum_by f xs) (f x))
  where
    join : (a b c : ℕ) → a + (b + c) ≡ a + b + c
    join a b c = omega arith

-- ---- what is found

-- the key at the index that was found
pub key_at : (cs : List Collection) (keys : List (List ℕ)) (key : List ℕ) (found : Option ℕ) → keys ≡ map key_in cs → found ≡ position (pointwise nat_eq key) keys
    → IfSome found (λ at. (c : Collection) → slice_get cs at ≡ Some c → c.key ≡ key)
key_at cs keys key None same is = tt
key_at cs keys key (Some at) same is = λ c there.
    let here : slice_get keys at ≡ Some c.key = rw same (slice_get-map key_in cs at ∙ ap (option_map key_in) there) in
    let passes = (position-Some (pointwise nat_eq key) keys at c.key (sym is)).1 in
    let equal : pointwise nat_eq key c.key ≡ true = rw (get_or_from_slice_get keys at c.key c.key here) at passes in
    sym (same_text key c.key (sym equal))

pub no_key : (cs : List Collection) (keys : List (List ℕ)) (key : List ℕ) (found : Option ℕ) → keys ≡ map key_in cs → is_some found ≡ list_any (pointwise nat_eq key) keys
    → IfNone found (IsKeyless key (map key_in cs))
no_key cs keys key None same is = rw same at (sym is)
no_key cs keys key (Some at) same is = tt

pub on_ok_then : {X E P Q : Type 0} (r : Result X E) → OnOk r P → (P → Q) → OnOk r Q
on_ok_then (Ok x) p f = f p
on_ok_then (Err e) p f = tt

pub on_err_then : {X E P Q : Type 0} (r : Result X E) → OnErr r P → (P → Q) → OnErr r Q
on_err_then (Ok x) p f = tt
on_err_then (Err e) p f = f p

-- no shard is registered at first
pub no_collections : (c : Collection) → c.key ≡ zero_hash → c.members.items ≡ [] → IsIndexOf c.index [] → AreCollectionsOf [] (c ∷ [])
unfolding different numbers_from entered_from
no_collections c ek em index = record {
  keys = rw ek refl;
  each = (record { members = em; index = index }, tt);
}

-- ---- the index of a key

pub index_at : (shards : List Registered) (cs : List Collection) (at : ℕ) (c : Collection) (key : List ℕ) → AreCollectionsOf shards cs → slice_get cs at ≡ Some c → c.key ≡ key → IsIndexOf c.index (indexed key shards)
index_at shards cs at c key held e ek = rw (← ek) (collection_at shards cs at c e held.each).index

pub key_present : (shards : List Registered) (cs : List Collection) (at : ℕ) (c : Collection) (key : List ℕ) → AreCollectionsOf shards cs → slice_get cs at ≡ Some c → c.key ≡ key → is_key_of key shards ≡ true
key_present shards cs at c key held e ek =
    let there : list_any (pointwise nat_eq key) (keys_of shards) ≡ true = rw (ek, held.keys) at (key_there cs at c e) in
    sym (any_different (pointwise nat_eq) key_tells key (zero_hash ∷ map key_of shards)) ∙ there

pub key_absent : (shards : List Registered) (cs : List Collection) (key : List ℕ) → AreCollectionsOf shards cs → IsKeyless key (map key_in cs) → is_key_of key shards ≡ false
key_absent shards cs key held none =
    let absent : list_any (pointwise nat_eq key) (keys_of shards) ≡ false = rw held.keys at none in
    sym (any_different (pointwise nat_eq) key_tells key (zero_hash ∷ map key_of shards)) ∙ absent

-- ---- words in all collections

-- an index of no shards has no entries
pub empty_index : (e : List (ℕ × WordPlace)) → IsIndexOf e [] → length e ≡ 0
unfolding different all_words
empty_index e held = held.words

pub words_counted : (shards : List Registered) (cs : List Collection) → AreCollectionsOf shards cs → word_count shards ≡ words_in cs
words_counted shards cs held = rw (← held.keys) (go cs held.each)
  where
    count : List ℕ → ℕ
    count key = length (different nat_eq (all_words (indexed key shards)))

    go : (ds : List Collection) → AllByRecursion (IsCollectionOf shards) ds → sum_by (λ key. length (different nat_eq (all_words (indexed key shards)))) (map key_in ds) ≡ words_in ds
    go [] all = refl
    go (d ∷ ds) all =
        sum_by-cons (λ key. length (different nat_eq (all_words (indexed key shards)))) d.key (map key_in ds)
        ∙ rw (go ds all.1, ← all.0.index.words) (sym (sum_by-cons (λ (c : Collection). length c.index) d ds))

-- a new collection has no words
pub no_words : (c : Collection) → IsIndexOf c.index [] → words_in (c ∷ []) ≡ 0
no_words c index = sum_by-cons (λ (d : Collection). length d.index) c [] ∙ omega (arith, empty_index c.index index)

-- a test against a bound goes through the minimum with a number above the bound
capped : (w bound top : ℕ) → bound ≤ top → nat_lt (min w top) bound ≡ nat_lt w bound
capped w bound top fits = by (nat_lt w bound) refl
  where
    by : (b : Bool) → nat_lt w bound ≡ b → nat_lt (min w top) bound ≡ nat_lt w bound
    by true e = let low = ltb-true w bound e in lt-ltb (min w top) bound (omega (arith, low, fits)) ∙ sym e
    by false e = let high = ltb-false w bound e in le-ltb (min w top) bound (omega (arith, high, fits)) ∙ sym e

-- ---- the registry

-- one more shard is registered
pub registry_more : (cap : ℕ) (shards : List Registered) (file : MDBShardFile) (records : ShardRecords) (t next : Tables) (added : ℕ) (enters : Bool) (items : List (ℕ × ℕ × ℕ))
    → cap ≤ 2 ^ 64 - 1 → enters ≡ nat_lt t.words cap
    → ((s : Registered) → s.file ≡ file → enters ≡ s.entered → items ≡ s.items → AddsTo t.collections next.collections (length t.files) s)
    → next.files ≡ t.files ++ file ∷ [] → next.hashes ≡ t.hashes ++ file.shard_hash ∷ [] → words_in next.collections ≡ words_in t.collections + added → next.words ≡ min (t.words + added) (2 ^ 64 - 1)
    → next.materialized ≡ min (t.materialized + file.shard.metadata.materialized_bytes) (2 ^ 64 - 1) → next.stored ≡ min (t.stored + file.shard.metadata.stored_bytes) (2 ^ 64 - 1)
    → IsRegistryOf shards t → IsRegistryOf (with_shard cap shards file items records) next
registry_more cap shards file records t next added enters items fits ee adds files hashes words sum materialized stored held = record {
  files = files ∙ rw held.files (sym (map-append (λ (x : Registered). x.file) shards (s ∷ [])));
  collections = adds s refl enters_too refl shards held.collections (ap length held.files ∙ length-map shards (λ (x : Registered). x.file));
  words = sum ∙ rw (held.words, words) (together (words_in t.collections) added);
  hashes = hashes ∙ rw held.hashes (sym (map-append (λ (x : Registered). x.file.shard_hash) shards (s ∷ [])));
  materialized = materialized ∙ total materialized_of t.materialized held.materialized;
  stored = stored ∙ total stored_of t.stored held.stored;
}
  where
    s : Registered
    s = record { file = file; items = items; records = records; entered = nat_lt (word_count shards) cap }

    enters_too : enters ≡ nat_lt (word_count shards) cap
    enters_too = ee ∙ rw (held.words, words_counted shards t.collections held.collections) (capped (words_in t.collections) cap (2 ^ 64 - 1) fits)

    together : (w a : ℕ) → min (min w (2 ^ 64 - 1) + a) (2 ^ 64 - 1) ≡ min (w + a) (2 ^ 64 - 1)
    together w a = omega arith

    total : (size : Registered → ℕ) (before : ℕ) → before ≡ min (sum_by size shards) (2 ^ 64 - 1) → min (before + size s) (2 ^ 64 - 1) ≡ min (sum_by size (shards ++ s ∷ [])) (2 ^ 64 - 1)
    total size before is = rw (is, sum_push size shards s) (together (sum_by size shards) (size s))

-- the same shards are registered after an error
pub registry_kept : (shards : List Registered) (t next : Tables) → next.files ≡ t.files → StayCollections t.collections next.collections
    → words_in next.collections ≡ words_in t.collections → next.words ≡ t.words → next.hashes ≡ t.hashes → next.materialized ≡ t.materialized → next.stored ≡ t.stored → IsRegistryOf shards t → IsRegistryOf shards next
registry_kept shards t next files stay words same hashes materialized stored held = record {
  files = files ∙ held.files;
  collections = stay shards held.collections;
  words = same ∙ held.words ∙ ap (λ (w : ℕ). min w (2 ^ 64 - 1)) (sym words);
  hashes = hashes ∙ held.hashes;
  materialized = materialized ∙ held.materialized;
  stored = stored ∙ held.stored;
}
