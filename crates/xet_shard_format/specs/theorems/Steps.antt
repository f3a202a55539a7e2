-- Steps of the loops over records.
use Rattle.std.proofs.Common.{map, ◌≡◌, ℕ, ◌+◌, ◌<◌, ◌≤◌, List, [], ◌∷◌, ◌++◌, length, get_or, drop, sym, ap, ◌∙◌, append_assoc, arith}
use Rattle.std.specs.List.{sum_by}
use Rattle.std.proofs.lemmas.List.{drop_more, get_or-map, length-append, length-map, drop_all, append-nil}
use Rattle.std.proofs.lemmas.List.Concat.{flat_map-cons}
use Rattle.std.proofs.lemmas.List.Sums.{sum_by-cons}
use Rattle.std.specs.Int.{w32, w64, to_le_bytes}
use Rattle.xet_shard_format.specs.declared.record.MDBXorbInfo.{MDBXorbInfo}
use Rattle.xet_shard_format.specs.declared.row.Row.{Row}
use Rattle.xet_shard_format.specs.declared.record.XorbChunkSequenceEntry.{XorbChunkSequenceEntry}
use Rattle.xet_shard_format.specs.Rows.{row}
use Rattle.xet_codec.specs.Numbers.{word}
use Rattle.xet_shard_format.specs.Records.{first_word, section, xorb_rows}
use Rattle.xet_shard_format.specs.Lookups.{chunks_from, record_item_bytes, heads_from, record_items_bytes, lookup_rows_from}
use Rattle.xet_shard_format.specs.theorems.SectionLaws.{section_cons}

-- the record that an element lends, among all of them
pub lent_at : {T R : Type 0} (lent : T → R) (ts : List T) (i : ℕ) (t : T) (r : R) → i < length ts → t ≡ get_or ts i t → r ≡ lent t → (i < length (map lent ts)) × (r ≡ get_or (map lent ts) i r)
lent_at lent ts i t r below is e = (omega (arith, length-map ts lent, below), e ∙ ap lent is ∙ sym (get_or-map lent ts i t r below))

pub none_lent : {T R : Type 0} (lent : T → R) (ts : List T) (i : ℕ) → length ts ≤ i → length (map lent ts) ≤ i
none_lent lent ts i le = omega (arith, length-map ts lent, le)

-- what is left, from the element at i on
pub left : {X : Type 0} (xs : List X) (i : ℕ) (x : X) → i < length xs → x ≡ get_or xs i x → drop i xs ≡ x ∷ drop (i + 1) xs
left xs i x lt is = drop_more xs i x lt ∙ ap (λ (y : _). y ∷ drop (i + 1) xs) (sym is)

pub sum_step : {X : Type 0} (f : X → ℕ) (xs : List X) (i : ℕ) (x : X) → i < length xs → x ≡ get_or xs i x → sum_by f (drop i xs) ≡ f x + sum_by f (drop (i + 1) xs)
sum_step f xs i x lt is = ap (sum_by f) (left xs i x lt is) ∙ sum_by-cons f x (drop (i + 1) xs)

pub heads_step : {X : Type 0} (hash : X → List ℕ) (rows : X → List Row) (at : ℕ) (xs : List X) (i : ℕ) (x : X) → i < length xs → x ≡ get_or xs i x
    → heads_from hash rows at (drop i xs) ≡ (first_word (hash x), at) ∷ heads_from hash rows (at + length (rows x)) (drop (i + 1) xs)
unfolding heads_from
heads_step hash rows at xs i x lt is = ap (heads_from hash rows at) (left xs i x lt is)

pub heads_none : {X : Type 0} (hash : X → List ℕ) (rows : X → List Row) (at : ℕ) (xs : List X) (i : ℕ) → length xs ≤ i → heads_from hash rows at (drop i xs) ≡ []
unfolding heads_from
heads_none hash rows at xs i le = ap (heads_from hash rows at) (drop_all i xs le)

-- the rows of what is left, from the record at i on
pub section_left : {X : Type 0} (rows : X → List Row) (xs : List X) (i : ℕ) (x : X) → i < length xs → x ≡ get_or xs i x → section rows (drop i xs) ≡ rows x ++ section rows (drop (i + 1) xs)
section_left rows xs i x below is = ap (section rows) (left xs i x below is) ∙ section_cons rows x (drop (i + 1) xs)

pub rows_step : {X : Type 0} (rows : X → List Row) (xs : List X) (i : ℕ) (x : X) → i < length xs → x ≡ get_or xs i x
    → length (section rows (drop i xs)) ≡ length (rows x) + length (section rows (drop (i + 1) xs))
rows_step rows xs i x below is = ap length (section_left rows xs i x below is) ∙ length-append (rows x) (section rows (drop (i + 1) xs))

pub places_step : (row place : ℕ) (cs : List XorbChunkSequenceEntry) (i : ℕ) (c : XorbChunkSequenceEntry) → i < length cs → c ≡ get_or cs i c
    → lookup_rows_from row place (drop i cs) ≡ (first_word c.chunk_hash, row, place) ∷ lookup_rows_from row (place + 1) (drop (i + 1) cs)
unfolding lookup_rows_from
places_step row place cs i c lt is = ap (lookup_rows_from row place) (left cs i c lt is)

pub chunks_step : (at : ℕ) (xs : List MDBXorbInfo) (i : ℕ) (x : MDBXorbInfo) → i < length xs → x ≡ get_or xs i x
    → chunks_from at (drop i xs) ≡ lookup_rows_from at 0 x.chunks ++ chunks_from (at + length (xorb_rows x)) (drop (i + 1) xs)
unfolding chunks_from
chunks_step at xs i x lt is = ap (chunks_from at) (left xs i x lt is)

-- one more at the end of what was found
pub onto : {X : Type 0} (found : List X) (x : X) (rest total whole : List X) → whole ≡ x ∷ rest → found ++ whole ≡ total → (found ++ x ∷ []) ++ rest ≡ total
onto found x rest total whole e so_far = append_assoc found (x ∷ []) rest ∙ ap (λ (t : List _). found ++ t) (sym e) ∙ so_far

pub places_more : (found total : List (ℕ × ℕ × ℕ)) (row place : ℕ) (cs : List XorbChunkSequenceEntry) (i : ℕ) (c : XorbChunkSequenceEntry) → i < length cs → c ≡ get_or cs i c
    → found ++ lookup_rows_from row place (drop i cs) ≡ total → (found ++ (first_word c.chunk_hash, row, place) ∷ []) ++ lookup_rows_from row (place + 1) (drop (i + 1) cs) ≡ total
places_more found total row place cs i c lt is so_far = onto found (first_word c.chunk_hash, row, place) (lookup_rows_from row (place + 1) (drop (i + 1) cs)) total _ (places_step row place cs i c lt is) so_far

pub places_end : (found total : List (ℕ × ℕ × ℕ)) (row place : ℕ) (cs : List XorbChunkSequenceEntry) (i : ℕ) → length cs ≤ i → found ++ lookup_rows_from row place (drop i cs) ≡ total → found ≡ total
unfolding lookup_rows_from
places_end found total row place cs i le so_far = sym (append-nil found) ∙ ap (λ (ys : List XorbChunkSequenceEntry). found ++ lookup_rows_from row place ys) (sym (drop_all i cs le)) ∙ so_far

pub chunks_more : (found total : List (ℕ × ℕ × ℕ)) (row : ℕ) (xs : List MDBXorbInfo) (i : ℕ) (x : MDBXorbInfo) → i < length xs → x ≡ get_or xs i x
    → found ++ chunks_from row (drop i xs) ≡ total → (found ++ lookup_rows_from row 0 x.chunks) ++ chunks_from (row + length (xorb_rows x)) (drop (i + 1) xs) ≡ total
chunks_more found total row xs i x lt is so_far =
    append_assoc found (lookup_rows_from row 0 x.chunks) (chunks_from (row + length (xorb_rows x)) (drop (i + 1) xs)) ∙ ap (λ (t : List (ℕ × ℕ × ℕ)). found ++ t) (sym (chunks_step row xs i x lt is)) ∙ so_far

pub chunks_end : (found total : List (ℕ × ℕ × ℕ)) (row : ℕ) (xs : List MDBXorbInfo) (i : ℕ) → length xs ≤ i → found ++ chunks_from row (drop i xs) ≡ total → found ≡ total
unfolding chunks_from
chunks_end found total row xs i le so_far = sym (append-nil found) ∙ ap (λ (ys : List MDBXorbInfo). found ++ chunks_from row ys) (sym (drop_all i xs le)) ∙ so_far

pub heads_more : {X : Type 0} (hash : X → List ℕ) (rows : X → List Row) (encoding total : List ℕ) (row : ℕ) (xs : List X) (i : ℕ) (x : X) → i < length xs → x ≡ get_or xs i x
    → encoding ++ record_items_bytes (heads_from hash rows row (drop i xs)) ≡ total → (encoding ++ record_item_bytes (first_word (hash x), row)) ++ record_items_bytes (heads_from hash rows (row + length (rows x)) (drop (i + 1) xs)) ≡ total
heads_more hash rows encoding total row xs i x lt is so_far =
    append_assoc encoding (record_item_bytes (first_word (hash x), row)) (record_items_bytes (heads_from hash rows (row + length (rows x)) (drop (i + 1) xs)))
    ∙ ap (λ (t : List ℕ). encoding ++ t) (sym (ap record_items_bytes (heads_step hash rows row xs i x lt is) ∙ flat_map-cons record_item_bytes (first_word (hash x), row) (heads_from hash rows (row + length (rows x)) (drop (i + 1) xs)))) ∙ so_far

pub heads_end : {X : Type 0} (hash : X → List ℕ) (rows : X → List Row) (encoding total : List ℕ) (row : ℕ) (xs : List X) (i : ℕ) → length xs ≤ i → encoding ++ record_items_bytes (heads_from hash rows row (drop i xs)) ≡ total → encoding ≡ total
unfolding heads_from
heads_end hash rows encoding total row xs i le so_far = sym (append-nil encoding) ∙ ap (λ (ys : List _). encoding ++ record_items_bytes (heads_from hash rows row ys)) (sym (drop_all i xs le)) ∙ so_far

-- the same where the text grew by two pieces, and the row by a number
pub heads_grow : {X : Type 0} (hash : X → List ℕ) (rows : X → List Row) (encoding text1 text2 total : List ℕ) (row n word : ℕ) (xs : List X) (i : ℕ) (x : X) → i < length xs → x ≡ get_or xs i x
    → text1 ≡ encoding ++ to_le_bytes w64 word → text2 ≡ text1 ++ to_le_bytes w32 row → word ≡ first_word (hash x) → n ≡ length (rows x)
    → encoding ++ record_items_bytes (heads_from hash rows row (drop i xs)) ≡ total → text2 ++ record_items_bytes (heads_from hash rows (row + n) (drop (i + 1) xs)) ≡ total
heads_grow {X} hash rows encoding text1 text2 total row n word xs i x lt is e1 e2 ew en so_far =
    let two : text2 ≡ encoding ++ record_item_bytes (first_word (hash x), row) =
    e2 ∙ ap (λ (t : List ℕ). t ++ to_le_bytes w32 row) e1 ∙ append_assoc encoding (to_le_bytes w64 word) (to_le_bytes w32 row) ∙ ap (λ (k : ℕ). encoding ++ (to_le_bytes w64 k ++ to_le_bytes w32 row)) ew in
    (λ j. two j ++ record_items_bytes (heads_from hash rows (row + en j) (drop (i + 1) xs))) ∙ heads_more hash rows encoding total row xs i x lt is so_far

pub chunks_grow : (found found1 total : List (ℕ × ℕ × ℕ)) (row n : ℕ) (xs : List MDBXorbInfo) (i : ℕ) (x : MDBXorbInfo) → i < length xs → x ≡ get_or xs i x
    → found1 ≡ found ++ lookup_rows_from row 0 x.chunks → n ≡ length (xorb_rows x) → found ++ chunks_from row (drop i xs) ≡ total → found1 ++ chunks_from (row + n) (drop (i + 1) xs) ≡ total
chunks_grow found found1 total row n xs i x lt is e en so_far = (λ j. e j ++ chunks_from (row + en j) (drop (i + 1) xs)) ∙ chunks_more found total row xs i x lt is so_far

-- the sum of what is left, from the element at i on
pub sum_lent : {T R : Type 0} (lent : T → R) (f : R → ℕ) (ts : List T) (i : ℕ) (t : T) (r : R) → i < length ts → t ≡ get_or ts i t → r ≡ lent t
    → sum_by f (drop i (map lent ts)) ≡ f r + sum_by f (drop (i + 1) (map lent ts))
sum_lent lent f ts i t r below is e = let at = lent_at lent ts i t r below is e in sum_step f (map lent ts) i r at.0 at.1
