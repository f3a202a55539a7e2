-- The number of entries where each word of the shards has its place.
use Rattle.std.proofs.Common.{◌≡◌, ◌≢◌, ◌⊎◌, inl, inr, ℕ, ◌==◌, ◌||◌, nat_eq, Bool, true, false, cond, List, [], ◌∷◌, length, map, Option, Some, None, is_some, option_map, unwrap_or, refl, sym, ap, ◌∙◌, arith}
use Rattle.std.proofs.lemmas.Bool.Decides.{eqb_tells}
use Rattle.std.proofs.lemmas.List.Folds.{list_any-append}
use Rattle.std.specs.List.{list_any}
use Rattle.xet_shard.specs.Queries.{last_of}
use Rattle.xet_shard_index.specs.Different.{different}
use Rattle.xet_shard_index.specs.Places.{IndexedShard, all_words, place_of, within_reach, word_place}
use Rattle.xet_shard_index.specs.declared.word_place.WordPlace.{WordPlace}
use Rattle.xet_shard_index.specs.theorems.Different.{Distinct, any_different, different_is_distinct}
use Rattle.xet_shard_index.specs.Runs.{Rising, over}
use Rattle.xet_shard_index.proofs.Lengths.{length_put, one_if_new}
use Rattle.xet_shard_index.proofs.Merging.{Run, at, at_over, or_else, rising_over, same_run}

-- ---- a word has a place if and only if a chunk within reach has it

last_there : (w : ℕ) (items : List (ℕ × ℕ × ℕ)) → is_some (last_of w items) ≡ list_any (nat_eq w) (map (λ (i : ℕ × ℕ × ℕ). i.0) items)
unfolding last_of
last_there w [] = refl
last_there w (i ∷ is) = by (last_of w is) (eqb_tells i.0 w) (eqb_tells w i.0) (last_there w is)
  where
    rest : Bool
    rest = list_any (nat_eq w) (map (λ (i : ℕ × ℕ × ℕ). i.0) is)

    by : (o : Option (ℕ × ℕ)) → ((nat_eq i.0 w ≡ true) × (i.0 ≡ w)) ⊎ ((nat_eq i.0 w ≡ false) × (i.0 ≢ w)) → ((nat_eq w i.0 ≡ true) × (w ≡ i.0)) ⊎ ((nat_eq w i.0 ≡ false) × (w ≢ i.0)) → is_some o ≡ rest
        → is_some (elim o as (λ _. Option (ℕ × ℕ)) [ Some found ↦ Some found | None ↦ cond (i.0 == w) (Some (i.1, i.2)) None ]) ≡ list_any (nat_eq w) (map (λ (i : ℕ × ℕ × ℕ). i.0) (i ∷ is))
    by (Some x) a (inl b) later = rw b.0 refl
    by (Some x) a (inr b) later = rw b.0 later
    by None (inl a) (inl b) later = rw (a.0, b.0) refl
    by None (inr a) (inr b) later = rw (a.0, b.0) later
    by None (inl a) (inr b) later = absurd (b.1 (sym a.1))
    by None (inr a) (inl b) later = absurd (a.1 (sym b.1))

place_there : (w : ℕ) (ss : List IndexedShard) → is_some (place_of w ss) ≡ list_any (nat_eq w) (all_words ss)
unfolding place_of all_words
place_there w [] = refl
place_there w (s ∷ ss) =
    by (place_of w ss) (last_of w (within_reach s.items)) (place_there w ss) (last_there w (within_reach s.items))
    ∙ sym (list_any-append (nat_eq w) (map (λ (i : ℕ × ℕ × ℕ). i.0) (within_reach s.items)) (all_words ss))
  where
    by : (o : Option WordPlace) (p : Option (ℕ × ℕ)) → is_some o ≡ list_any (nat_eq w) (all_words ss) → is_some p ≡ list_any (nat_eq w) (map (λ (i : ℕ × ℕ × ℕ). i.0) (within_reach s.items))
        → is_some (elim o as (λ _. Option WordPlace) [ Some place ↦ Some place | None ↦ option_map (word_place s.number) p ])
        ≡ (list_any (nat_eq w) (map (λ (i : ℕ × ℕ × ℕ). i.0) (within_reach s.items)) || list_any (nat_eq w) (all_words ss))
    by (Some x) (Some y) eo ep = rw (← ep) refl
    by (Some x) None eo ep = rw (← ep, ← eo) refl
    by None (Some y) eo ep = rw (← ep) refl
    by None None eo ep = rw (← ep, ← eo) refl

-- ---- different words with places, put in one after another

module _ (place : ℕ → WordPlace) where
  with_places : List ℕ → Run
  with_places ws = map (λ (w : ℕ). (w, place w)) ws

  at_with : (w : ℕ) (ws : List ℕ) → at w (with_places ws) ≡ cond (list_any (nat_eq w) ws) (Some (place w)) None
  unfolding with_places
  at_with w [] = refl
  at_with w (v ∷ ws) = by (eqb_tells w v) (at_with w ws)
    where
      by : ((nat_eq w v ≡ true) × (w ≡ v)) ⊎ ((nat_eq w v ≡ false) × (w ≢ v)) → at w (with_places ws) ≡ cond (list_any (nat_eq w) ws) (Some (place w)) None → at w (with_places (v ∷ ws)) ≡ cond (list_any (nat_eq w) (v ∷ ws)) (Some (place w)) None
      by (inl a) later = rw a.0 (ap (λ (x : ℕ). Some (place x)) (sym a.1))
      by (inr a) later = rw a.0 later

  put_in : List ℕ → Run
  put_in ws = over (with_places ws) []

  at_put_in : (w : ℕ) (ws : List ℕ) → at w (put_in ws) ≡ cond (list_any (nat_eq w) ws) (Some (place w)) None
  unfolding put_in
  at_put_in w ws = at_over w (with_places ws) [] ∙ by (at w (with_places ws)) ∙ at_with w ws
    where
      by : (o : Option WordPlace) → or_else o None ≡ o
      by (Some x) = refl
      by None = refl

  rising_put_in : (ws : List ℕ) → Rising (put_in ws)
  unfolding put_in Rising
  rising_put_in ws = rising_over (with_places ws) [] tt

  length_put_in : (ws : List ℕ) → Distinct nat_eq eqb_tells ws → length (put_in ws) ≡ length ws
  unfolding put_in with_places over Distinct
  length_put_in [] d = refl
  length_put_in (w ∷ ws) d =
      let none : at w (put_in ws) ≡ None = at_put_in w ws ∙ ap (λ (b : Bool). cond b (Some (place w)) None) d.0 in
      let new = ap one_if_new none in
      let l = length_put (w, place w) (put_in ws) (rising_put_in ws) in
      omega (arith, l, new, length_put_in ws d.1)

-- ---- the entries

-- a rising run with the places of all words has as many items as there are different words
pub words_counted : (entries : Run) (ss : List IndexedShard) → Rising entries → ((w : ℕ) → at w entries ≡ place_of w ss) → length entries ≡ length (different nat_eq (all_words ss))
words_counted entries ss rising places =
    ap length (same_run entries (put_in place words) rising (rising_put_in place words) same) ∙ length_put_in place words (different_is_distinct nat_eq eqb_tells (all_words ss))
  where
    words : List ℕ
    words = different nat_eq (all_words ss)

    place : ℕ → WordPlace
    place w = unwrap_or (place_of w ss) (word_place 0 (0, 0))

    found : (w : ℕ) (o : Option WordPlace) → o ≡ cond (is_some o) (Some (unwrap_or o (word_place 0 (0, 0)))) None
    found w (Some x) = refl
    found w None = refl

    same : (w : ℕ) → at w entries ≡ at w (put_in place words)
    same w =
        places w ∙ found w (place_of w ss)
        ∙ ap (λ (b : Bool). cond b (Some (place w)) None) (place_there w ss ∙ sym (any_different nat_eq eqb_tells w (all_words ss)))
        ∙ sym (at_put_in place w words)
