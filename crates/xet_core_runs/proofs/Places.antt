-- The place of a word in the shards of a key, as the registry and as the core give it.
use Rattle.std.proofs.Common.{◌≡◌, ℕ, zero, suc, ◌+◌, Bool, true, false, if◌then◌else◌, List, [], ◌∷◌, map, Option, None, Some, is_some, IsSome, option_and_then, option_map, slice_get, refl, sym, ap, ◌∙◌, arith, add-zero, zero-add}
use Rattle.std.specs.List.{AllByRecursion}
use Rattle.xet_core_runs.proofs.Words.{HasItems, entered}
use Rattle.xet_core_runs.specs.Shards.{with_contents}
use Rattle.xet_history.specs.Core.{RegisteredShard}
use Rattle.xet_history.specs.Found.{items_of, place_of as core_place}
use Rattle.xet_io.specs.Disk.{Files, file_at}
use Rattle.xet_shard.specs.Queries.{kept_hash, last_of, shard_run_at}
use Rattle.xet_shard_format.specs.Records.{first_word}
use Rattle.xet_shard_index.specs.Places.{indexed_shard, place_in, place_of, within_reach, word_place}
use Rattle.xet_shard_index.specs.declared.word_place.WordPlace.{WordPlace}
use Rattle.xet_shard_lookup.specs.Found.{Run, keyed_run, run_at_place, run_in_file, shard_of}
use Rattle.xet_shard_registry.specs.Registered.{Registered, collection, entered_from, has_key, indexed, numbers, numbers_from, place_among}

-- a shard with the row and the index of a chunk
abbrev pub Spot : Type 0
Spot = Registered × ℕ × ℕ

-- the last chunk with a word in the last of these shards that has one
unfoldable pub last_spot : ℕ → List Registered → Option Spot
last_spot word [] = None
last_spot word (s ∷ ss) = elim (last_spot word ss) [ Some spot ↦ Some spot | None ↦ option_map (λ at. (s, at.0, at.1)) (last_of word (within_reach s.items)) ]

-- ---- in the registry

-- the place is that of the spot in these shards, of which the first has the number n; or there is neither
abbrev IsSpot : ℕ → List Registered → Option WordPlace → Option Spot → Type 0
IsSpot n shards None None = Unit {0}
IsSpot n shards None (Some spot) = ⊥
IsSpot n shards (Some p) None = ⊥
IsSpot n shards (Some p) (Some spot) = (i : ℕ) × (p.shard ≡ n + i) × (p.row ≡ spot.1) × (p.chunk ≡ spot.2) × (slice_get shards i ≡ Some spot.0)

spotted : (word n : ℕ) (shards : List Registered) → IsSpot n shards (place_of word (entered_from n shards)) (last_spot word (entered shards))
unfolding entered_from place_of last_spot
spotted word n [] = tt
spotted word n (s ∷ ss) = by s.entered (spotted word (n + 1) ss)
  where
    after : (p : Option WordPlace) (o : Option Spot) → IsSpot (n + 1) ss p o → IsSpot n (s ∷ ss) p o
    after None None is = tt
    after None (Some spot) is = is
    after (Some p) None is = is
    after (Some p) (Some spot) is =
        let (i, ep, er, ec, es) = is in
        let number : p.shard ≡ n + suc i = omega (arith, ep) in
        (suc i, number, er, ec, es)

    own : (o : Option (ℕ × ℕ)) → IsSpot n (s ∷ ss) (option_map (word_place n) o) (option_map (λ at. (s, at.0, at.1)) o)
    own None = tt
    own (Some at) = (0, sym (add-zero n), refl, refl, refl)

    first : (p : Option WordPlace) (o : Option Spot) → IsSpot (n + 1) ss p o
        → IsSpot n (s ∷ ss) (elim p as (λ _. Option WordPlace) [ Some place ↦ Some place | None ↦ place_in word (indexed_shard n s.items) ])
        (elim o as (λ _. Option Spot) [ Some spot ↦ Some spot | None ↦ option_map (λ at. (s, at.0, at.1)) (last_of word (within_reach s.items)) ])
    first None None is = own (last_of word (within_reach s.items))
    first None (Some spot) is = absurd is
    first (Some p) None is = absurd is
    first (Some p) (Some spot) is = after (Some p) (Some spot) is

    by : (e : Bool) → IsSpot (n + 1) ss (place_of word (entered_from (n + 1) ss)) (last_spot word (entered ss))
        → IsSpot n (s ∷ ss) (place_of word (if e then indexed_shard n s.items ∷ entered_from (n + 1) ss else entered_from (n + 1) ss)) (last_spot word (if e then s ∷ entered ss else entered ss))
    by true later = first (place_of word (entered_from (n + 1) ss)) (last_spot word (entered ss)) later
    by false later = after (place_of word (entered_from (n + 1) ss)) (last_spot word (entered ss)) later

-- a shard of a key has its number among all
numbered : (n : ℕ) (key : List ℕ) (shards : List Registered) (i : ℕ) (s : Registered) → slice_get (collection key shards) i ≡ Some s
    → (j : ℕ) × (slice_get (numbers_from n key shards) i ≡ Some (n + j)) × (slice_get shards j ≡ Some s)
unfolding numbers_from
numbered n key [] i s e = absurd cc
numbered n key (t ∷ ss) i s e = by (has_key key t) refl (numbered (n + 1) key ss)
  where
    Later : Type 0
    Later = (i : ℕ) (s : Registered) → slice_get (collection key ss) i ≡ Some s → (j : ℕ) × (slice_get (numbers_from (n + 1) key ss) i ≡ Some (n + 1 + j)) × (slice_get ss j ≡ Some s)

    more : (j : ℕ) → n + 1 + j ≡ n + suc j
    more j = omega arith

    by : (b : Bool) → has_key key t ≡ b → Later → (j : ℕ) × (slice_get (numbers_from n key (t ∷ ss)) i ≡ Some (n + j)) × (slice_get (t ∷ ss) j ≡ Some s)
    by false eb later = let (j, en, es) = later i s (rw eb at e) in (suc j, rw eb (en ∙ ap (λ (m : ℕ). Some m) (more j)), es)
    by true eb later = at i (rw eb at e)
      where
        at : (k : ℕ) → slice_get (t ∷ collection key ss) k ≡ Some s → (j : ℕ) × (slice_get (numbers_from n key (t ∷ ss)) k ≡ Some (n + j)) × (slice_get (t ∷ ss) j ≡ Some s)
        at zero e = (0, rw eb (ap (λ (m : ℕ). Some m) (sym (add-zero n))), e)
        at (suc k) e = let (j, en, es) = later k s e in (suc j, rw eb (en ∙ ap (λ (m : ℕ). Some m) (more j)), es)

all_at : {X : Type 0} (P : X → Type 0) (xs : List X) (i : ℕ) (x : X) → AllByRecursion P xs → slice_get xs i ≡ Some x → P x
all_at P [] i x all e = absurd cc
all_at P (y ∷ xs) zero x all e = let same : y ≡ x = cc e in rw same at all.0
all_at P (y ∷ xs) (suc i) x all e = all_at P xs i x all.1 e

-- the run of a query at a spot
abbrev pub run_at_spot : List (List ℕ) → Spot → Option Run
run_at_spot query spot = shard_run_at (shard_of spot.0) query spot.1 spot.2

abbrev pub IsThere : Files → Registered → Type 0
IsThere files s = IsSome (file_at files s.file.path)

module _ (files : Files) (shards : List Registered) (there : AllByRecursion (IsThere files) shards) (query : List (List ℕ)) (key : List ℕ) where
  run_at_word : (word : ℕ) → option_and_then (run_at_place files shards query) (place_among key word shards) ≡ option_and_then (run_at_spot query) (last_spot word (entered (collection key shards)))
  run_at_word word = by (place_of word (indexed key shards)) (last_spot word (entered (collection key shards))) (spotted word 0 (collection key shards))
    where
      place_of_number : WordPlace → Option ℕ → Option WordPlace
      place_of_number p o = option_map (λ shard. word_place shard (p.row, p.chunk)) o

      by : (p : Option WordPlace) (o : Option Spot) → IsSpot 0 (collection key shards) p o
          → option_and_then (run_at_place files shards query) (option_and_then (λ p. place_of_number p (slice_get (numbers key shards) p.shard)) p) ≡ option_and_then (run_at_spot query) o
      by None None is = refl
      by None (Some spot) is = absurd is
      by (Some p) None is = absurd is
      by (Some p) (Some spot) is =
          let (i, ep, er, ec, es) = is in
          let (j, en, ej) = numbered 0 key shards i spot.0 es in
          let index : p.shard ≡ i = omega (arith, ep) in
          let here : is_some (file_at files spot.0.file.path) ≡ true = all_at (IsThere files) shards j spot.0 there ej in
          ap (λ (k : ℕ). option_and_then (run_at_place files shards query) (place_of_number p (slice_get (numbers key shards) k))) index
          ∙ ap (λ (o : Option ℕ). option_and_then (run_at_place files shards query) (place_of_number p o)) (en ∙ ap (λ (m : ℕ). Some m) (zero-add j))
          ∙ ap (λ (o : Option Registered). option_and_then (run_in_file files query (word_place j (p.row, p.chunk))) o) ej
          ∙ ap (λ (b : Bool). if b then run_at_spot query (spot.0, p.row, p.chunk) else None) here
          ∙ ap (λ (row : ℕ). run_at_spot query (spot.0, row, p.chunk)) er
          ∙ ap (λ (chunk : ℕ). run_at_spot query (spot.0, spot.1, chunk)) ec

  pub registry_run : (first : List ℕ) → keyed_run files shards first query key ≡ option_and_then (run_at_spot query) (last_spot (first_word (kept_hash key first)) (entered (collection key shards)))
  registry_run first = run_at_word (first_word (kept_hash key first))

-- ---- in the core

abbrev pub CoreSpot : Type 0
CoreSpot = RegisteredShard × ℕ × ℕ

abbrev pub core_spot : Spot → CoreSpot
core_spot spot = (with_contents spot.0, spot.1, spot.2)

pub core_spotted : (word : ℕ) (shards : List Registered) → AllByRecursion HasItems shards → core_place word (map with_contents shards) ≡ option_map core_spot (last_spot word shards)
unfolding core_place last_spot
core_spotted word [] all = refl
core_spotted word (s ∷ ss) all = ap (λ (o : Option CoreSpot). before o) (core_spotted word ss all.1) ∙ by (last_spot word ss)
  where
    before : Option CoreSpot → Option CoreSpot
    before o = elim o as (λ _. Option CoreSpot) [ Some spot ↦ Some spot | None ↦ option_map (λ at. (with_contents s, at.0, at.1)) (last_of word (items_of (with_contents s))) ]

    own : (o : Option (ℕ × ℕ)) → option_map (λ at. (with_contents s, at.0, at.1)) o ≡ option_map core_spot (option_map (λ at. (s, at.0, at.1)) o)
    own None = refl
    own (Some at) = refl

    by : (o : Option Spot) → before (option_map core_spot o)
        ≡ option_map core_spot (elim o as (λ _. Option Spot) [ Some spot ↦ Some spot | None ↦ option_map (λ at. (s, at.0, at.1)) (last_of word (within_reach s.items)) ])
    by (Some spot) = refl
    by None =
        ap (λ (items : List (ℕ × ℕ × ℕ)). option_map (λ at. (with_contents s, at.0, at.1)) (last_of word (within_reach items))) (sym all.0)
        ∙ own (last_of word (within_reach s.items))
