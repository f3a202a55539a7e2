-- Where a part may begin: one chunk at a time, and one place at a time.
use Rattle.std.proofs.Common.{◌≡◌, ◌∙◌, ℕ, zero, suc, ◌+◌, ◌-◌, ◌*◌, ◌<◌, ◌≤◌, true, false, ◌&&◌, List, [], ◌∷◌, ◌++◌, append_assoc, length, take, drop, map, take_while, All, AllPairs, IfSome, Option, Some, None, refl, sym, ap, arith}
use Rattle.std.proofs.lemmas.List.{append-nil, drop-drop, length-take-le}
use Rattle.std.proofs.lemmas.List.Elements.{All-push, All-weaker}
use Rattle.std.proofs.lemmas.List.Quantifiers.{all_pairs_push}
use Rattle.std.proofs.Math.Nat.{le-mul_of_pos_right}
use Rattle.std.specs.List.{cons_option, filter_map, range_with_len}
use Rattle.std.specs.Option.{option_to_list}
use Rattle.std.proofs.lemmas.Bool.{and_parts, le-leb, lt-leb, ltb-true}
use Rattle.xet_base.specs.theorems.Pieces.{pieces_none}
use Rattle.xet_cut.specs.declared.limits.LimitSettings.{LimitSettings}
use Rattle.xet_cut.specs.Chunking.{chunking, first_chunk_len}
use Rattle.xet_cut.specs.Limits.{with_minimum}
use Rattle.xet_cut.specs.Partitions.{AreWithin, complete_chunks, first_medium, from_third, is_medium, is_scanned, part_at, part_in, places, places_from}
use Rattle.xet_cut.specs.Streams.{boundary_in}
use Rattle.xet_cut.specs.theorems.FirstBoundary.{is_first}
use Rattle.xet_cut.specs.theorems.Complete.{complete_cut, complete_unended}

-- the first chunk is complete
complete_more : (s : LimitSettings) (bs : List ℕ) (k : ℕ) → 1 ≤ s.minimum_chunk → s.minimum_chunk < s.maximum_chunk → boundary_in s bs ≡ Some k
    → map length (complete_chunks s bs) ≡ k ∷ map length (complete_chunks s (drop k bs))
complete_more s bs k some order found =
    rw (complete_cut s bs k some order found, length-take-le k bs (is_first s bs k (omega arith) found).within) refl

-- no chunk is complete
complete_none : (s : LimitSettings) (bs : List ℕ) → boundary_in s bs ≡ None → map length (complete_chunks s bs) ≡ []
complete_none s bs none = ap (map length) (complete_unended s bs none)

-- a medium length after another
pub medium_found : (s : LimitSettings) (at previous n : ℕ) (ns : List ℕ) → is_medium s previous ≡ true → is_medium s n ≡ true → first_medium s at previous (n ∷ ns) ≡ Some (at + n)
unfolding first_medium
medium_found s at previous n ns one two = rw (one, two) refl

-- a length that is not, or not after another
pub medium_passed : (s : LimitSettings) (at previous n : ℕ) (ns : List ℕ) → (is_medium s previous && is_medium s n) ≡ false
    → first_medium s at previous (n ∷ ns) ≡ first_medium s (at + n) n ns
unfolding first_medium
medium_passed s at previous n ns not = rw not refl

pub medium_none : (s : LimitSettings) (at previous : ℕ) → first_medium s at previous [] ≡ None
unfolding first_medium
medium_none s at previous = refl

-- the lengths of the complete chunks of a scan
abbrev pub lengths_in : LimitSettings → List ℕ → List ℕ
lengths_in s bs = map length (complete_chunks (with_minimum s 1) bs)

-- a scan with no complete chunk
pub part_none : (s : LimitSettings) (bs : List ℕ) → boundary_in (with_minimum s 1) bs ≡ None → part_in s bs ≡ None
unfolding from_third
part_none s bs none = rw (complete_none (with_minimum s 1) bs none) refl

-- a scan with one complete chunk
pub part_one : (s : LimitSettings) (bs : List ℕ) (a : ℕ) → 1 < s.maximum_chunk → boundary_in (with_minimum s 1) bs ≡ Some a → boundary_in (with_minimum s 1) (drop a bs) ≡ None
    → part_in s bs ≡ None
unfolding from_third
part_one s bs a order first none =
    let f : LimitSettings = with_minimum s 1 in
    ap (from_third s) (complete_more f bs a (omega arith) order first ∙ ap (λ (t : List ℕ). a ∷ t) (complete_none f (drop a bs) none))

-- a scan with two complete chunks or more
pub part_more : (s : LimitSettings) (bs : List ℕ) (a b : ℕ) → 1 < s.maximum_chunk → boundary_in (with_minimum s 1) bs ≡ Some a → boundary_in (with_minimum s 1) (drop a bs) ≡ Some b
    → first_medium s (a + b) b (lengths_in s (drop (a + b) bs)) ≡ part_in s bs
unfolding from_third
part_more s bs a b order first second =
    let f : LimitSettings = with_minimum s 1 in
    sym (ap (from_third s) (complete_more f bs a (omega arith) order first
    ∙ ap (λ (t : List ℕ). a ∷ t) (complete_more f (drop a bs) b (omega arith) order second)
    ∙ ap (λ (t : List ℕ). a ∷ b ∷ lengths_in s t) (drop-drop b a bs)))

-- the next chunk is the one
pub rest_found : (s : LimitSettings) (bs : List ℕ) (end previous n : ℕ) → 1 < s.maximum_chunk → boundary_in (with_minimum s 1) (drop end bs) ≡ Some n
    → is_medium s previous ≡ true → is_medium s n ≡ true → first_medium s end previous (lengths_in s (drop end bs)) ≡ Some (end + n)
rest_found s bs end previous n order found one two =
    ap (first_medium s end previous) (complete_more (with_minimum s 1) (drop end bs) n (omega arith) order found) ∙ medium_found s end previous n _ one two

-- the next chunk is not the one
pub rest_next : (s : LimitSettings) (bs : List ℕ) (end previous n : ℕ) → 1 < s.maximum_chunk → boundary_in (with_minimum s 1) (drop end bs) ≡ Some n
    → (is_medium s previous && is_medium s n) ≡ false
    → first_medium s (end + n) n (lengths_in s (drop (end + n) bs)) ≡ first_medium s end previous (lengths_in s (drop end bs))
rest_next s bs end previous n order found not =
    sym (ap (first_medium s end previous) (complete_more (with_minimum s 1) (drop end bs) n (omega arith) order found) ∙ medium_passed s end previous n _ not
    ∙ ap (λ (t : List ℕ). first_medium s (end + n) n (lengths_in s t)) (drop-drop n end bs))

-- no chunk is left
pub rest_none : (s : LimitSettings) (bs : List ℕ) (end previous : ℕ) → boundary_in (with_minimum s 1) (drop end bs) ≡ None
    → first_medium s end previous (lengths_in s (drop end bs)) ≡ None
rest_none s bs end previous none = ap (first_medium s end previous) (complete_none (with_minimum s 1) (drop end bs) none) ∙ medium_none s end previous

take_one_more : (n x : ℕ) (xs : List ℕ) → take (1 + n) (x ∷ xs) ≡ x ∷ take n xs
take_one_more n x xs =
    let e : 1 + n ≡ suc n = omega arith in rw e refl

-- a place that is scanned is the first of those from it on
place_next : (size min_partition scan k : ℕ) → k ≤ size → is_scanned size min_partition scan (k * min_partition) ≡ true
    → places_from size min_partition scan k ≡ (k * min_partition) ∷ places_from size min_partition scan (k + 1)
place_next size min_partition scan k within passes =
    let n : size + 1 - k ≡ suc (size + 1 - (k + 1)) = omega arith in
    rw n (rw passes (take_one_more _ _ _))

-- the walk ends at a place that is not
place_last : (size min_partition scan k : ℕ) → is_scanned size min_partition scan (k * min_partition) ≡ false → places_from size min_partition scan k ≡ []
place_last size min_partition scan k fails = by_count (size + 1 - k)
  where
    by_count : (n : ℕ) → take_while (is_scanned size min_partition scan) (map (λ j. j * min_partition) (range_with_len k n)) ≡ []
    by_count zero = refl
    by_count (suc n) = rw fails refl

-- The walk is at a place: what was found before it, and what is found from it on, is all.
pub record Walked (bytes : List ℕ) (size min_partition scan : ℕ) (part : ℕ → Option ℕ) (first found : List ℕ) (place : ℕ) : Type 0 where
  pub turn : ℕ
  pub at : place ≡ turn * min_partition
  pub listed : found ++ filter_map part (places_from size min_partition scan turn) ≡ first ++ filter_map part (places_from size min_partition scan 1)
  pub reached : AreWithin bytes scan (places_from size min_partition scan turn) → AreWithin bytes scan (places_from size min_partition scan 1)
  pub due : AreWithin bytes scan (places_from size min_partition scan 1) → AreWithin bytes scan (places_from size min_partition scan turn)

-- at the first place
pub walked_none : (bytes : List ℕ) (size min_partition scan : ℕ) (part : ℕ → Option ℕ) (first : List ℕ) → Walked bytes size min_partition scan part first first min_partition
walked_none bytes size min_partition scan part first = record { turn = 1; at = omega arith; listed = refl; reached = λ x. x; due = λ x. x }

-- what one place adds
found_next : (found rest : List ℕ) (o : Option ℕ) → (found ++ option_to_list o) ++ rest ≡ found ++ cons_option o rest
found_next found rest None = ap (λ (t : List ℕ). t ++ rest) (append-nil found)
found_next found rest (Some x) = append_assoc found (x ∷ []) rest

-- the places from one that is scanned
next_of : {bytes : List ℕ} {size min_partition scan : ℕ} {part : ℕ → Option ℕ} {first found : List ℕ} {place : ℕ} (w : Walked bytes size min_partition scan part first found place) → 1 ≤ min_partition
    → is_scanned size min_partition scan place ≡ true → places_from size min_partition scan w.turn ≡ place ∷ places_from size min_partition scan (w.turn + 1)
next_of {bytes} {size} {min_partition} {scan} {part} {first} {found} {place} w some passes =
    let below : place + min_partition < size = ltb-true _ _ (and_parts _ _ passes).0 in
    let turn : w.turn ≤ w.turn * min_partition = le-mul_of_pos_right {m = min_partition} w.turn (omega arith) in
    let here : is_scanned size min_partition scan (w.turn * min_partition) ≡ true = rw (sym w.at) passes in
    place_next size min_partition scan w.turn (omega (arith, w.at)) here ∙ ap (λ (k : ℕ). k ∷ places_from size min_partition scan (w.turn + 1)) (sym w.at)

-- at the next place
pub walked_more : {bytes : List ℕ} {size min_partition scan : ℕ} {part : ℕ → Option ℕ} {first found : List ℕ} {place : ℕ} (new : List ℕ) (next : ℕ) → Walked bytes size min_partition scan part first found place
    → 1 ≤ min_partition → is_scanned size min_partition scan place ≡ true → new ≡ found ++ option_to_list (part place) → scan ≤ length bytes - place → next ≡ place + min_partition
    → Walked bytes size min_partition scan part first new next
walked_more {bytes} {size} {min_partition} {scan} {part} {first} {found} {place} new next w some passes new_is within next_is =
    let places = next_of w some passes in
    let rest : List ℕ = places_from size min_partition scan (w.turn + 1) in
    record {
      turn = w.turn + 1;
      at = omega (arith, w.at);
      listed = ap (λ (t : List ℕ). t ++ filter_map part rest) new_is ∙ found_next found (filter_map part rest) (part place) ∙ ap (λ (t : List ℕ). found ++ filter_map part t) (sym places) ∙ w.listed;
      reached = λ is. w.reached (rw places (within, is));
      due = λ is. (rw places at (w.due is)).1;
    }

-- a place that is scanned is within the bytes, if all are
pub walked_due : {bytes : List ℕ} {size min_partition scan : ℕ} {part : ℕ → Option ℕ} {first found : List ℕ} {place : ℕ} → Walked bytes size min_partition scan part first found place
    → 1 ≤ min_partition → is_scanned size min_partition scan place ≡ true → AreWithin bytes scan (places_from size min_partition scan 1) → scan ≤ length bytes - place
walked_due w some passes all = (rw (next_of w some passes) at (w.due all)).0

-- at the end of the walk
pub walked_all : {bytes : List ℕ} {size min_partition scan : ℕ} {part : ℕ → Option ℕ} {first found : List ℕ} {place : ℕ} → Walked bytes size min_partition scan part first found place
    → is_scanned size min_partition scan place ≡ false → (found ≡ first ++ filter_map part (places_from size min_partition scan 1)) × AreWithin bytes scan (places_from size min_partition scan 1)
walked_all {bytes} {size} {min_partition} {scan} {part} {first} {found} {place} w fails =
    let none : places_from size min_partition scan w.turn ≡ [] = place_last size min_partition scan w.turn (rw (sym w.at) fails) in
    (sym (append-nil found) ∙ ap (λ (t : List ℕ). found ++ filter_map part t) (sym none) ∙ w.listed, w.reached (rw none tt))

-- the places, if a chunk is shorter than a part
pub places_some : (s : LimitSettings) (size min_partition scan : ℕ) → s.maximum_chunk < min_partition → places s size min_partition scan ≡ places_from size min_partition scan 1
unfolding places
places_some s size min_partition scan short = rw (lt-leb min_partition s.maximum_chunk short) refl

-- and if it may be as long
pub places_none : (s : LimitSettings) (size min_partition scan : ℕ) → min_partition ≤ s.maximum_chunk → places s size min_partition scan ≡ []
unfolding places
places_none s size min_partition scan long = rw (le-leb min_partition s.maximum_chunk long) refl

-- nothing is found in scans of no bytes
pub no_scan : (s : LimitSettings) (bytes xs : List ℕ) → filter_map (part_at s bytes 0) xs ≡ []
unfolding from_third
no_scan s bytes [] = refl
no_scan s bytes (x ∷ xs) =
    let chunks : chunking (with_minimum s 1) [] ≡ [] = pieces_none (first_chunk_len (with_minimum s 1)) [] refl in
    let none : part_in s [] ≡ None = rw chunks refl in
    rw none (no_scan s bytes xs)

-- which are within all bytes
pub no_scan_within : (bytes xs : List ℕ) → AreWithin bytes 0 xs
no_scan_within bytes [] = tt
no_scan_within bytes (x ∷ xs) = (omega arith, no_scan_within bytes xs)

-- the starts that were found so far, and one more or none
pub starts_more : (size : ℕ) (first found new : List ℕ) (o : Option ℕ) → new ≡ found ++ option_to_list o → IfSome o (λ start. start < size)
    → ((more : List ℕ) × (found ≡ first ++ more) × All (λ start. start < size) more) → (more : List ℕ) × (new ≡ first ++ more) × All (λ start. start < size) more
starts_more size first found new None is below (more, so_far, all) = (more, is ∙ append-nil found ∙ so_far, all)
starts_more size first found new (Some start) is below (more, so_far, all) =
    (more ++ start ∷ [], is ∙ ap (λ (xs : List ℕ). xs ++ start ∷ []) so_far ∙ append_assoc first more (start ∷ []), All-push (λ x. x < size) more start all below)

-- They rise, if each is past all before it.
pub starts_rise : (place next : ℕ) (found new : List ℕ) (o : Option ℕ) → new ≡ found ++ option_to_list o → IfSome o (λ start. (place < start) × (start ≤ next)) → place ≤ next
    → AllPairs ◌<◌ found → All (λ start. start ≤ place) found → AllPairs ◌<◌ new × All (λ start. start ≤ next) new
starts_rise place next found new None is past later pairs all =
    let same : new ≡ found = is ∙ append-nil found in
    rw same (pairs, All-weaker (λ start. start ≤ place) (λ start. start ≤ next) (λ x below. omega (arith, below, later)) found all)
starts_rise place next found new (Some start) is past later pairs all =
    rw is (
      all_pairs_push ◌<◌ found start pairs (λ k d within. let below = all k d within in omega (arith, below, past.0)),
      All-push (λ x. x ≤ next) found start (All-weaker (λ x. x ≤ place) (λ x. x ≤ next) (λ x below. omega (arith, below, later)) found all) past.1,
    )
