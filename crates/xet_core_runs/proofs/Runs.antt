-- The run of a query in registered shards is that in a core that has them.
use Rattle.std.proofs.Common.{◌≡◌, ℕ, nat_eq, List, [], ◌∷◌, map, Option, None, Some, option_and_then, option_map, refl, sym, ap, ◌∙◌}
use Rattle.std.proofs.lemmas.List.Elements.{recursion_from_All}
use Rattle.std.proofs.lemmas.Simd.{map-map}
use Rattle.std.specs.Cmp.Lexicographic.{pointwise}
use Rattle.std.specs.List.{AllByRecursion}
use Rattle.xet_base.specs.theorems.Elements.{all_filtered}
use Rattle.xet_core_runs.proofs.Places.{CoreSpot, IsThere, Spot, core_spot, core_spotted, last_spot, registry_run, run_at_spot}
use Rattle.xet_core_runs.proofs.Words.{HasItems, entered, in_core, indexed_entered, key_entered}
use Rattle.xet_core_runs.specs.Shards.{AreShardsOf, with_contents}
use Rattle.xet_hash.specs.Hash.{zero_hash}
use Rattle.xet_history.specs.Core.{Core, RegisteredShard}
use Rattle.xet_history.specs.Found.{found_run, indexed, indexed_after, of_key, first_some as core_first, key_of as core_key, keyed_run as core_run, keys_of as core_keys, place_of as core_place}
use Rattle.xet_io.specs.Disk.{File, Files, file_at}
use Rattle.xet_shard.specs.Queries.{kept_hash, shard_run_at}
use Rattle.xet_shard.specs.Runs.{held_run}
use Rattle.xet_shard_format.specs.Records.{first_word}
use Rattle.xet_shard_index.specs.Different.{different}
use Rattle.xet_shard_lookup.specs.Found.{HoldsFile, Run, first_some, found, keyed_run}
use Rattle.xet_shard_registry.specs.Registered.{Registered, collection, has_key, keys_of}

map_same : {X Y : Type 0} (f g : X → Y) (xs : List X) → ((x : X) → f x ≡ g x) → map f xs ≡ map g xs
map_same f g [] same = refl
map_same {Y} f g (x ∷ xs) same = ap (λ (y : Y). y ∷ map f xs) (same x) ∙ ap (λ (ys : List Y). g x ∷ ys) (map_same f g xs same)

first_is : {X : Type 0} (os : List (Option X)) → first_some os ≡ core_first os
unfolding first_some core_first
first_is [] = refl
first_is (None ∷ os) = first_is os
first_is (Some x ∷ os) = refl

-- each file that is there shows the chunk lookup table
have_items : (files : Files) (shards : List Registered) → AllByRecursion (IsThere files) shards → AllByRecursion (HoldsFile files) shards → AllByRecursion HasItems shards
have_items files [] there holds = tt
have_items files (s ∷ ss) there holds = (by (file_at files s.file.path) refl, have_items files ss there.1 holds.1)
  where
    by : (o : Option File) → file_at files s.file.path ≡ o → HasItems s
    by None e = absurd (cc (rw e at there.0))
    by (Some f) e = let is = holds.0 f.bytes (ap (λ (o : Option File). option_map (λ f. f.bytes) o) e) in is.items

module _ (files : Files) (c : Core) (shards : List Registered) (are : AreShardsOf files c shards) where
  there : AllByRecursion (IsThere files) shards
  there = recursion_from_All (IsThere files) shards are.there

  items : AllByRecursion HasItems shards
  items = have_items files shards there (recursion_from_All (HoldsFile files) shards are.holds)

  core_indexed : indexed c ≡ in_core shards
  core_indexed = ap (λ (ss : List RegisteredShard). indexed_after c.index_cap [] ss) are.contents ∙ indexed_entered c.index_cap shards are.registered items

  keys_are : core_keys c.shards ≡ keys_of shards
  keys_are =
      ap (λ (ss : List RegisteredShard). core_keys ss) are.contents
      ∙ ap (λ (ks : List (List ℕ)). different (pointwise nat_eq) (zero_hash ∷ ks)) (map-map core_key with_contents shards)

  -- the runs in the shards of a key
  module _ (query : List (List ℕ)) (key : List ℕ) where
    abbrev run_at_core_spot : CoreSpot → Option Run
    run_at_core_spot at = shard_run_at at.0.contents query at.1 at.2

    same_spot : (o : Option Spot) → option_and_then run_at_core_spot (option_map core_spot o) ≡ option_and_then (run_at_spot query) o
    same_spot None = refl
    same_spot (Some spot) = refl

    run_at_word : (word : ℕ) → option_and_then run_at_core_spot (core_place word (of_key key (indexed c))) ≡ option_and_then (run_at_spot query) (last_spot word (entered (collection key shards)))
    run_at_word word =
        ap (λ (ss : List RegisteredShard). option_and_then run_at_core_spot (core_place word (of_key key ss))) core_indexed
        ∙ ap (λ (ss : List RegisteredShard). option_and_then run_at_core_spot (core_place word ss)) (key_entered key shards)
        ∙ ap (λ (o : Option CoreSpot). option_and_then run_at_core_spot o)
        (core_spotted word (entered (collection key shards)) (all_filtered HasItems (λ s. s.entered) (collection key shards) (all_filtered HasItems (has_key key) shards items)))
        ∙ same_spot (last_spot word (entered (collection key shards)))

    keyed_is : (first : List ℕ) → keyed_run files shards first query key ≡ core_run c first query key
    keyed_is first = registry_run files shards there query key first ∙ sym (run_at_word (first_word (kept_hash key first)))

  pub found_is : (query : List (List ℕ)) → found files c.pending shards query ≡ found_run c query
  unfolding found found_run
  found_is [] = refl
  found_is (h ∷ hs) =
      first_is (held_run c.pending.blocks (h ∷ hs) ∷ map (keyed_run files shards h (h ∷ hs)) (keys_of shards))
      ∙ ap (λ (os : List (Option Run)). core_first (held_run c.pending.blocks (h ∷ hs) ∷ os))
      (map_same (keyed_run files shards h (h ∷ hs)) (core_run c h (h ∷ hs)) (keys_of shards) (λ key. keyed_is (h ∷ hs) key h)
      ∙ ap (λ (ks : List (List ℕ)). map (core_run c h (h ∷ hs)) ks) (sym keys_are))
