-- The numbers of rows and of lookup items.
use Rattle.std.proofs.Common.{◌≡◌, ℕ, Bool, true, false, cond, suc, ◌+◌, ◌^◌, ◌<◌, ◌≤◌, List, [], ◌∷◌, ◌++◌, length, refl, sym, ap, ◌∙◌, arith, length-append}
use Rattle.std.specs.List.{flat_map}
use Rattle.std.proofs.lemmas.Grind.{flat_map-append}
use Rattle.std.proofs.lemmas.List.{length-map}
use Rattle.xet_shard_format.specs.declared.row.Row.{Row}
use Rattle.xet_shard_format.specs.declared.record.MDBFileInfo.{MDBFileInfo}
use Rattle.xet_shard_format.specs.declared.record.MDBXorbInfo.{MDBXorbInfo}
use Rattle.xet_shard_format.specs.declared.record.XorbChunkSequenceEntry.{XorbChunkSequenceEntry}
use Rattle.xet_shard_format.specs.Records.{chunk_row, end_row, file_record_hash, file_head, file_rest, file_rows, file_section, section, xorb_record_hash, xorb_head, xorb_rest, xorb_rows, xorb_section}
use Rattle.xet_shard_format.specs.Lookups.{Lookups, chunk_items, chunks_from, file_items, heads_from, left_in, place_cmp, lookup_rows_from, xorb_items}
use Rattle.xet_shard_format.specs.Encoding.{Shard, footer_of, footer_with, materialized, stored}
use Rattle.xet_shard_format.specs.theorems.SectionLaws.{section_cons}
use Rattle.xet_shard_format.specs.theorems.Sorting.{length-sorted}

pub length-heads_from : {X : Type 0} (hash : X → List ℕ) (rows : X → List Row) (at : ℕ) (xs : List X) → length (heads_from hash rows at xs) ≡ length xs
unfolding heads_from
length-heads_from hash rows at [] = refl
length-heads_from hash rows at (x ∷ xs) = ap suc (length-heads_from hash rows (at + length (rows x)) xs)

length-places_from : (at place : ℕ) (cs : List XorbChunkSequenceEntry) → length (lookup_rows_from at place cs) ≡ length cs
unfolding lookup_rows_from
length-places_from at place [] = refl
length-places_from at place (c ∷ cs) = ap suc (length-places_from at (place + 1) cs)

pub section_some : {X : Type 0} (rows : X → List Row) (xs : List X) → 1 ≤ length (section rows xs)
section_some rows xs = omega (arith, length-append (flat_map rows xs) (end_row ∷ []))

pub length-section : {X : Type 0} (rows : X → List Row) (x : X) (xs : List X) → length (section rows (x ∷ xs)) ≡ length (rows x) + length (section rows xs)
length-section rows x xs = ap length (section_cons rows x xs) ∙ length-append (rows x) (section rows xs)

-- more rows than records
pub rows_le : {X : Type 0} (head : X → Row) (others : X → List Row) (xs : List X) → length xs < length (section (λ x. head x ∷ others x) xs)
rows_le head others [] = omega arith
rows_le {X} head others (x ∷ xs) = omega (arith, length-section (λ (x : X). head x ∷ others x) x xs, rows_le head others xs)

pub file_count : (files : List MDBFileInfo) → length (file_section files) < 2 ^ 32 → (length (file_items files) ≡ length files) × (length files < 2 ^ 32)
file_count files few = (length-heads_from file_record_hash file_rows 0 files, omega (arith, rows_le file_head file_rest files, few))

pub xorb_count : (blocks : List MDBXorbInfo) → length (xorb_section blocks) < 2 ^ 32 → (length (xorb_items blocks) ≡ length blocks) × (length blocks < 2 ^ 32)
xorb_count blocks few = (length-heads_from xorb_record_hash xorb_rows 0 blocks, omega (arith, rows_le xorb_head xorb_rest blocks, few))

-- the rows of the xorbs are their heads, their chunks, and the end
pub chunks_in : (at : ℕ) (blocks : List MDBXorbInfo) → length (chunks_from at blocks) + length blocks + 1 ≡ length (xorb_section blocks)
unfolding chunks_from
chunks_in at [] = refl
chunks_in at (x ∷ xs) =
    let split : length (chunks_from at (x ∷ xs)) ≡ length x.chunks + length (chunks_from (at + length (xorb_rows x)) xs) =
    length-append (lookup_rows_from at 0 x.chunks) (chunks_from (at + length (xorb_rows x)) xs) ∙ ap (λ (k : ℕ). k + length (chunks_from (at + length (xorb_rows x)) xs)) (length-places_from at 0 x.chunks) in
    omega (arith, split, length-section xorb_rows x xs, chunks_in (at + length (xorb_rows x)) xs, length-map x.chunks chunk_row)

pub chunk_count : (blocks : List MDBXorbInfo) → length (chunk_items blocks) + length blocks + 1 ≡ length (xorb_section blocks)
chunk_count blocks = omega (arith, length-sorted place_cmp (chunks_from 0 blocks), chunks_in 0 blocks)

-- with one more record at the end there are more rows than records before
pub before_last : {X : Type 0} (head : X → Row) (others : X → List Row) (xs : List X) (x : X) (n : ℕ) → length (section (λ x. head x ∷ others x) (xs ++ x ∷ [])) < n → length xs < n
before_last head others xs x n few = omega (arith, rows_le head others (xs ++ x ∷ []), length-append xs (x ∷ []), few)

-- more records have no fewer rows
pub fewer_rows : {X : Type 0} (rows : X → List Row) (xs ys : List X) → length (section rows xs) ≤ length (section rows (xs ++ ys))
fewer_rows rows xs ys =
    omega (arith, ap length (flat_map-append rows xs ys), length-append (flat_map rows xs) (flat_map rows ys), length-append (flat_map rows xs) (end_row ∷ []), length-append (flat_map rows (xs ++ ys)) (end_row ∷ []))

-- the items of a look-up that stands or is left out
pub length-left_in : {X : Type 0} (stands : Bool) (items : List X) → length (left_in stands items) ≡ cond stands (length items) 0
length-left_in true items = refl
length-left_in false items = refl

-- the footer of so many rows and items, of which those of a look-up that is left out are not counted
pub footer_counted : (w : Lookups) (s : Shard) {file_rows xorb_rows files xorbs chunks all_files all_xorbs all_chunks bytes stored_bytes : ℕ} → file_rows ≡ length (file_section s.files) → xorb_rows ≡ length (xorb_section s.blocks)
    → files ≡ cond w.files all_files 0 → xorbs ≡ cond w.xorbs all_xorbs 0 → chunks ≡ cond w.chunks all_chunks 0
    → all_files ≡ length (file_items s.files) → all_xorbs ≡ length (xorb_items s.blocks) → all_chunks ≡ length (chunk_items s.blocks)
    → bytes ≡ materialized s.files → stored_bytes ≡ stored s.blocks
    → footer_with file_rows xorb_rows files xorbs chunks s.key s.creation s.expiry bytes stored_bytes ≡ footer_of w s
unfolding footer_of
footer_counted w s e1 e2 f x k all_f all_x all_k m t =
    let counted = λ (stands : Bool) (n all count : ℕ) (left : ℕ) (a : n ≡ cond stands all 0) (b : all ≡ count) (l : left ≡ cond stands count 0). a ∙ ap (λ (j : ℕ). cond stands j 0) b ∙ sym l in
    let ef = counted w.files _ _ _ _ f all_f (length-left_in w.files (file_items s.files)) in
    let ex = counted w.xorbs _ _ _ _ x all_x (length-left_in w.xorbs (xorb_items s.blocks)) in
    let ek = counted w.chunks _ _ _ _ k all_k (length-left_in w.chunks (chunk_items s.blocks)) in
    λ i. footer_with (e1 i) (e2 i) (ef i) (ex i) (ek i) s.key s.creation s.expiry (m i) (t i)
