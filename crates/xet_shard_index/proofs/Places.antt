-- The places of words after one more shard.
use Rattle.std.proofs.Common.{◌≡◌, ℕ, ◌+◌, List, [], ◌∷◌, ◌++◌, length, take, Option, Some, None, refl, sym, ap, ◌∙◌}
use Rattle.std.proofs.lemmas.List.Sums.{fold_push}
use Rattle.xet_shard_index.specs.Different.{different}
use Rattle.xet_shard_index.specs.Places.{IndexedShard, IsIndexOf, all_words, place_in, place_of}
use Rattle.xet_shard_index.specs.declared.word_place.WordPlace.{WordPlace}
use Rattle.xet_shard_index.specs.Runs.{Rising, merged, over}
use Rattle.xet_shard_index.specs.internal.Inserting.{IsAbsent, IsInsertion}
use Rattle.xet_shard_index.specs.internal.Lengths.{AreRuns}
use Rattle.xet_shard_index.specs.declared.insertion.Insertion.{Insertion}
use Rattle.xet_shard_index.proofs.Counting.{words_counted}
use Rattle.xet_shard_index.proofs.Lengths.{length_over, rising_merged, runs_with}
use Rattle.xet_shard_index.proofs.Merging.{Run, at, at_over, or_else, rising_over}

pub index_of_none : IsIndexOf [] []
unfolding place_of all_words different
index_of_none = record { places = λ w. refl; words = refl }

-- the place of a word where a shard comes last
place_last : (w : ℕ) (ss : List IndexedShard) (s : IndexedShard) → place_of w (ss ++ s ∷ []) ≡ or_else (place_in w s) (place_of w ss)
unfolding place_of
place_last w [] s = by (place_in w s)
  where
    by : (r : Option WordPlace) → r ≡ or_else r None
    by (Some x) = refl
    by None = refl
place_last w (t ∷ ss) s = ap (λ (r : Option WordPlace). elim r as (λ _. Option WordPlace) [ Some place ↦ Some place | None ↦ place_in w t ]) (place_last w ss s)
    ∙ by (place_in w s)
  where
    by : (r : Option WordPlace) → elim (or_else r (place_of w ss)) as (λ _. Option WordPlace) [ Some place ↦ Some place | None ↦ place_in w t ]
        ≡ or_else r (elim (place_of w ss) as (λ _. Option WordPlace) [ Some place ↦ Some place | None ↦ place_in w t ])
    by (Some x) = refl
    by None = refl

pub index_of_more : (s : IndexedShard) (run entries : Run) (ss : List IndexedShard) → ((w : ℕ) → at w run ≡ place_in w s) → Rising entries → IsIndexOf entries ss → IsIndexOf (over run entries) (ss ++ s ∷ [])
index_of_more s run entries ss found rising held = record { places = places; words = words_counted (over run entries) (ss ++ s ∷ []) (rising_over run entries rising) places }
  where
    places : (w : ℕ) → at w (over run entries) ≡ place_of w (ss ++ s ∷ [])
    places w = at_over w run entries ∙ ap (λ o. or_else o (at w entries)) (found w) ∙ ap (or_else (place_in w s)) (held.places w) ∙ sym (place_last w ss s)

-- no chunk of the shard is within reach
pub index_of_absent : (s : IndexedShard) (entries : Run) (ss : List IndexedShard) → IsAbsent s → Rising entries → IsIndexOf entries ss → IsIndexOf entries (ss ++ s ∷ [])
unfolding over
index_of_absent s entries ss absent rising held = index_of_more s [] entries ss (λ w. sym (absent w)) rising held

-- ---- the insertion of a shard into runs

module _ (runs : List Run) (words : ℕ) (s : IndexedShard) (i : Insertion) (held : AreRuns runs) (new : IsInsertion runs words s i) where
  after : List Run
  after = take i.kept runs ++ i.run ∷ []

  made : merged after ≡ over new.found (merged runs)
  unfolding after
  made = fold_push (λ (older newer : Run). over newer older) [] (take i.kept runs) i.run ∙ new.made.same

  pub inserted_runs : AreRuns (take i.kept runs ++ i.run ∷ [])
  inserted_runs = runs_with runs i.kept i.run held new.made.within new.made.rising new.made.some new.made.short

  pub inserted_length : length (merged (take i.kept runs ++ i.run ∷ [])) ≡ length (merged runs) + i.added
  unfolding after
  inserted_length = ap length made ∙ length_over new.found (merged runs) new.rising (rising_merged runs) ∙ ap (λ (n : ℕ). length (merged runs) + n) (sym new.added)

  pub inserted_index : (ss : List IndexedShard) → IsIndexOf (merged runs) ss → IsIndexOf (merged (take i.kept runs ++ i.run ∷ [])) (ss ++ s ∷ [])
  unfolding after
  inserted_index ss index = rw made (index_of_more s new.found (merged runs) ss new.places (rising_merged runs) index)
