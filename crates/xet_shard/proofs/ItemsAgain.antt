-- The items that are spelled in a look-up are read of it.
use Rattle.std.proofs.Common.{◌≡◌, ℕ, suc, ◌+◌, ◌^◌, ◌<◌, ◌≤◌, true, false, List, [], ◌∷◌, ◌++◌, length, map, ap, subst, ◌∙◌, arith}
use Rattle.std.specs.List.{AllByRecursion}
use Rattle.std.specs.Ordering.{is_lt}
use Rattle.std.specs.declared.cmp.Ordering.{Ordering}
use Rattle.std.proofs.lemmas.List.{length-map}
use Rattle.std.proofs.lemmas.List.Concat.{flat_map-cons}
use Rattle.std.proofs.lemmas.Nat.{from_le_bytes-to_le_bytes_4, from_le_bytes-to_le_bytes_8}
use Rattle.xet_shard_format.specs.declared.record.MDBFileInfo.{MDBFileInfo}
use Rattle.xet_shard_format.specs.declared.row.Row.{Row}
use Rattle.xet_shard_format.specs.declared.record.MDBXorbInfo.{MDBXorbInfo}
use Rattle.xet_shard_format.specs.declared.record.XorbChunkSequenceEntry.{XorbChunkSequenceEntry}
use Rattle.xet_shard_format.specs.Lookups.{chunk_items, chunks_from, file_items, record_item_bytes, heads_from, record_items_bytes, place_cmp, chunk_item_bytes, lookup_rows_from, chunk_items_bytes, xorb_items}
use Rattle.xet_shard_format.specs.Records.{chunk_row, file_record_hash, file_head, file_rest, file_section, first_word, section, xorb_record_hash, xorb_head, xorb_rest, xorb_rows, xorb_section}
use Rattle.xet_shard_format.specs.Rows.{RowFits}
use Rattle.xet_shard.specs.Sections.{heads_in, places_in}
use Rattle.xet_shard_format.specs.Sorted.{put_in, sorted}
use Rattle.xet_shard_format.specs.theorems.Bytes.{IsBytes, all_are_bytes}
use Rattle.xet_shard_format.specs.theorems.Counts.{length-section}
use Rattle.xet_base.specs.theorems.Elements.{all_back, all_both, all_prefix}
use Rattle.xet_shard_format.specs.theorems.SectionLaws.{section_cons}

-- what fits into the bytes of an item
abbrev pub HeadFits : ℕ × ℕ → Type 0
HeadFits i = (i.0 < 2 ^ 64) × (i.1 < 2 ^ 32)

abbrev pub PlaceFits : ℕ × ℕ × ℕ → Type 0
PlaceFits i = (i.0 < 2 ^ 64) × (i.1 < 2 ^ 32) × (i.2 < 2 ^ 32)

pub heads_again : (items : List (ℕ × ℕ)) → AllByRecursion HeadFits items → heads_in (length items) (record_items_bytes items) ≡ items
unfolding heads_in
heads_again [] fits = λ i. []
heads_again (h ∷ items) fits =
    ap (heads_in (suc (length items))) (flat_map-cons record_item_bytes h items)
    ∙ (λ i. (from_le_bytes-to_le_bytes_8 h.0 fits.0.0 i, from_le_bytes-to_le_bytes_4 h.1 fits.0.1 i) ∷ heads_again items fits.1 i)

pub places_again : (items : List (ℕ × ℕ × ℕ)) → AllByRecursion PlaceFits items → places_in (length items) (chunk_items_bytes items) ≡ items
unfolding places_in
places_again [] fits = λ i. []
places_again (p ∷ items) fits =
    ap (places_in (suc (length items))) (flat_map-cons chunk_item_bytes p items)
    ∙ (λ i. (from_le_bytes-to_le_bytes_8 p.0 fits.0.0 i, from_le_bytes-to_le_bytes_4 p.1 fits.0.1 i, from_le_bytes-to_le_bytes_4 p.2 fits.0.2 i) ∷ places_again items fits.1 i)

-- ---- the items of fitting xorbs fit

first_word_below : (h : List ℕ) → IsBytes h → first_word h < 2 ^ 64
first_word_below h bytes = omega (arith, bytes 0, bytes 1, bytes 2, bytes 3, bytes 4, bytes 5, bytes 6, bytes 7)

module _ {X : Type 0} (hash : X → List ℕ) (head : X → Row) (others : X → List Row) (hash_is : (x : X) → (head x).hash ≡ hash x) where
  abbrev rows : X → List Row
  rows x = head x ∷ others x

  heads_fit : (at : ℕ) (xs : List X) → AllByRecursion RowFits (section rows xs) → at + length (section rows xs) ≤ 2 ^ 32 → AllByRecursion HeadFits (heads_from hash rows at xs)
  unfolding heads_from
  heads_fit at [] fits few = tt
  heads_fit at (x ∷ xs) fits few =
      let all : AllByRecursion RowFits (rows x ++ section rows xs) = subst (AllByRecursion RowFits) (section_cons rows x xs) fits in
      let long = length-section rows x xs in
      let word : first_word (hash x) < 2 ^ 64 = subst (λ (h : List ℕ). first_word h < 2 ^ 64) (hash_is x) (first_word_below (head x).hash (all_are_bytes (head x).hash all.0.hash.1)) in
      ((word, omega (arith, few, long)), heads_fit (at + length (rows x)) xs (all_back RowFits (rows x) (section rows xs) all) (omega (arith, few, long)))

places_fit : (row place : ℕ) (cs : List XorbChunkSequenceEntry) → AllByRecursion RowFits (map chunk_row cs) → row < 2 ^ 32 → place + length cs ≤ 2 ^ 32 → AllByRecursion PlaceFits (lookup_rows_from row place cs)
unfolding lookup_rows_from
places_fit row place [] fits low few = tt
places_fit row place (c ∷ cs) fits low few =
    ((first_word_below c.chunk_hash (all_are_bytes c.chunk_hash fits.0.hash.1), low, omega (arith, few)), places_fit row (place + 1) cs fits.1 low (omega (arith, few)))

chunks_fit : (at : ℕ) (xs : List MDBXorbInfo) → AllByRecursion RowFits (xorb_section xs) → at + length (xorb_section xs) ≤ 2 ^ 32 → AllByRecursion PlaceFits (chunks_from at xs)
unfolding chunks_from
chunks_fit at [] fits few = tt
chunks_fit at (x ∷ xs) fits few =
    let all : AllByRecursion RowFits (xorb_rows x ++ xorb_section xs) = subst (AllByRecursion RowFits) (section_cons xorb_rows x xs) fits in
    let long = length-section xorb_rows x xs in
    all_both PlaceFits (lookup_rows_from at 0 x.chunks) (chunks_from (at + length (xorb_rows x)) xs)
    (places_fit at 0 x.chunks (all_prefix RowFits (xorb_rest x) (xorb_section xs) all.1) (omega (arith, few, long)) (omega (arith, few, long, length-map x.chunks chunk_row)))
    (chunks_fit (at + length (xorb_rows x)) xs (all_back RowFits (xorb_rows x) (xorb_section xs) all) (omega (arith, few, long)))

put_all : {X : Type 0} (P : X → Type 0) (cmp : X → X → Ordering) (x : X) (xs : List X) → P x → AllByRecursion P xs → AllByRecursion P (put_in cmp x xs)
unfolding put_in
put_all P cmp x [] one all = (one, tt)
put_all {X} P cmp x (y ∷ ys) one all = elim (is_lt (cmp y x)) as (λ b. AllByRecursion P (elim b as (λ _. List X) [ true ↦ y ∷ put_in cmp x ys | false ↦ x ∷ y ∷ ys ])) [
  | true ↦ (all.0, put_all P cmp x ys one all.1)
  | false ↦ (one, all)
]

pub sorted_all : {X : Type 0} (P : X → Type 0) (cmp : X → X → Ordering) (xs : List X) → AllByRecursion P xs → AllByRecursion P (sorted cmp xs)
unfolding sorted
sorted_all P cmp [] all = tt
sorted_all P cmp (x ∷ xs) all = put_all P cmp x (sorted cmp xs) all.0 (sorted_all P cmp xs all.1)

pub xorb_items_fit : (xs : List MDBXorbInfo) → AllByRecursion RowFits (xorb_section xs) → length (xorb_section xs) < 2 ^ 32 → AllByRecursion HeadFits (xorb_items xs)
xorb_items_fit xs fits few = heads_fit xorb_record_hash xorb_head xorb_rest (λ x i. (xorb_head x).hash) 0 xs fits (omega (arith, few))

pub file_items_fit : (xs : List MDBFileInfo) → AllByRecursion RowFits (file_section xs) → length (file_section xs) < 2 ^ 32 → AllByRecursion HeadFits (file_items xs)
file_items_fit xs fits few = heads_fit file_record_hash file_head file_rest (λ x i. (file_head x).hash) 0 xs fits (omega (arith, few))

pub chunk_items_fit : (xs : List MDBXorbInfo) → AllByRecursion RowFits (xorb_section xs) → length (xorb_section xs) < 2 ^ 32 → AllByRecursion PlaceFits (chunk_items xs)
chunk_items_fit xs fits few = sorted_all PlaceFits place_cmp (chunks_from 0 xs) (chunks_fit 0 xs fits (omega (arith, few)))
