-- Lookup tables as the bytes have them, read at an index that bisects them.
use Rattle.std.proofs.Common.{◌≡◌, ◌≢◌, ◌<◌, ◌≤◌, ℕ, zero, suc, ◌+◌, ◌-◌, ◌*◌, Bool, true, false, leb, min, List, [], ◌∷◌, drop, length, map, nat_le, nat_lt, take, None, Option, Some, Result, Ok, Err, refl, sym, ap, subst, ◌∙◌, arith}
use Rattle.std.specs.Prelude.{◌==◌, if◌then◌else◌, option_map}
use Rattle.std.specs.List.{list_any, slice_get}
use Rattle.std.proofs.lemmas.Bool.{eq-eqb, le-leb, leb-true, ne_eqb}
use Rattle.std.proofs.lemmas.List.{drop-drop}
use Rattle.std.proofs.lemmas.Option.{slice_get-get_or, slice_get-map, slice_get_past}
use Rattle.xet_hash.specs.declared.error.Place.TheVariants.{Input}
use Rattle.xet_hash.specs.declared.error.StoreError.{StoreError}
use Rattle.xet_hash.specs.declared.error.StoreError.TheVariants as errors
use Rattle.xet_shard.specs.declared.query.bisection.Probe.{Probe}
use Rattle.xet_shard.specs.declared.query.bisection.Probe.TheVariants.{RowBelow, WordAtMost, WordBelow}
use Rattle.xet_shard_format.specs.declared.header_footer.MDBShardFileFooter.{MDBShardFileFooter}
use Rattle.xet_shard_format.specs.declared.record.MDBXorbInfo.{MDBXorbInfo}
use Rattle.xet_shard.specs.Bisection.{AnswersAt, Bisects, in_table, passes}
use Rattle.xet_shard.specs.internal.Bisection.{slots}
use Rattle.xet_shard_format.specs.Lookups.{chunk_items, xorb_items}
use Rattle.xet_shard.specs.Queries.{chunk_place, chunk_table, file_items_from, file_table, has_head, last_of, place_before, tells_row, xorb_table}
use Rattle.xet_codec.specs.Parsing.{◌>>=◌, GivesUnlessFault, reaches}
use Rattle.xet_codec.specs.Numbers.{half_word, word}
use Rattle.xet_shard.specs.Sections.{blocks_in, chunk_lookup_in, heads_in, places_in, xorb_lookup_in}
use Rattle.xet_shard.proofs.Bisecting.{bisects_map, get_or-slots, length-slots}
use Rattle.xet_shard.proofs.Faulting.{fault_on}
use Rattle.xet_shard_format.specs.theorems.FirstLast.{half_word_first, word_first}
use Rattle.xet_shard.proofs.ItemLists.{heads_first}
use Rattle.xet_shard.proofs.PartLaws.{chosen_second}
use Rattle.xet_shard_format.specs.theorems.RowLaws.{ok_is}

-- ---- items by their bytes

abbrev head_of : List ℕ → ℕ × ℕ
head_of item = (word item 0, half_word item 8)

abbrev place_of : List ℕ → ℕ × ℕ × ℕ
place_of item = (word item 0, half_word item 8, half_word item 12)

heads_slots : (n : ℕ) (bytes : List ℕ) → map head_of (slots 12 n bytes) ≡ heads_in n bytes
unfolding slots heads_in
heads_slots zero bytes = refl
heads_slots (suc n) bytes = ap (λ (is : List (ℕ × ℕ)). head_of bytes ∷ is) (heads_slots n (drop 12 bytes))

places_slots : (n : ℕ) (bytes : List ℕ) → map place_of (slots 16 n bytes) ≡ places_in n bytes
unfolding slots places_in
places_slots zero bytes = refl
places_slots (suc n) bytes = ap (λ (is : List (ℕ × ℕ × ℕ)). place_of bytes ∷ is) (places_slots n (drop 16 bytes))

slot_get : {X : Type 0} (f : List ℕ → X) (size n k : ℕ) (bytes : List ℕ) → k < n → slice_get (map f (slots size n bytes)) k ≡ Some (f (drop (size * k) bytes))
slot_get f size n k bytes lt =
    slice_get-map f (slots size n bytes) k
    ∙ ap (option_map f) (slice_get-get_or (slots size n bytes) k [] (omega (arith, lt, length-slots size n bytes)) ∙ ap (λ (b : List ℕ). Some b) (get_or-slots size n k bytes [] lt))

pub head_get : (n k : ℕ) (bytes : List ℕ) → k < n → slice_get (heads_in n bytes) k ≡ Some (head_of (drop (12 * k) bytes))
head_get n k bytes lt = ap (λ (is : List (ℕ × ℕ)). slice_get is k) (sym (heads_slots n bytes)) ∙ slot_get head_of 12 n k bytes lt

pub place_get : (n k : ℕ) (bytes : List ℕ) → k < n → slice_get (places_in n bytes) k ≡ Some (place_of (drop (16 * k) bytes))
place_get n k bytes lt = ap (λ (is : List (ℕ × ℕ × ℕ)). slice_get is k) (sym (places_slots n bytes)) ∙ slot_get place_of 16 n k bytes lt

pub length-heads_in : (n : ℕ) (bytes : List ℕ) → length (heads_in n bytes) ≡ n
unfolding heads_in
length-heads_in zero bytes = refl
length-heads_in (suc n) bytes = ap suc (length-heads_in n (drop 12 bytes))

-- ---- what bisects the bytes of a table bisects its items

pub words_below : (bound n index : ℕ) (bytes : List ℕ) → Bisects (passes (WordBelow bound)) (slots 12 n bytes) index → Bisects (λ i. nat_lt i.0 bound) (heads_in n bytes) index
unfolding passes
words_below bound n index bytes b = subst (λ (is : List (ℕ × ℕ)). Bisects (λ i. nat_lt i.0 bound) is index) (heads_slots n bytes) (bisects_map head_of (λ i. nat_lt i.0 bound) (slots 12 n bytes) index b)

pub words_at_most : (bound n index : ℕ) (bytes : List ℕ) → Bisects (passes (WordAtMost bound)) (slots 16 n bytes) index → Bisects (λ i. nat_le i.0 bound) (places_in n bytes) index
unfolding passes
words_at_most bound n index bytes b = subst (λ (is : List (ℕ × ℕ × ℕ)). Bisects (λ i. nat_le i.0 bound) is index) (places_slots n bytes) (bisects_map place_of (λ i. nat_le i.0 bound) (slots 16 n bytes) index b)

pub rows_below : (bound n index : ℕ) (bytes : List ℕ) → Bisects (passes (RowBelow bound)) (slots 12 n bytes) index → Bisects (λ i. nat_lt i.1 bound) (heads_in n bytes) index
unfolding passes
rows_below bound n index bytes b = subst (λ (is : List (ℕ × ℕ)). Bisects (λ i. nat_lt i.1 bound) is index) (heads_slots n bytes) (bisects_map head_of (λ i. nat_lt i.1 bound) (slots 12 n bytes) index b)

-- a table that was left out has no items
pub no_heads : (p : ℕ × ℕ → Bool) (n : ℕ) (bytes : List ℕ) → n ≡ 0 → Bisects p (heads_in n bytes) 0
unfolding heads_in
no_heads p n bytes e = subst (λ (m : ℕ). Bisects p (heads_in m bytes) 0) (sym e) (record { within = omega arith; before = tt; after = tt })

pub no_places : (p : ℕ × ℕ × ℕ → Bool) (n : ℕ) (bytes : List ℕ) → n ≡ 0 → Bisects p (places_in n bytes) 0
unfolding places_in
no_places p n bytes e = subst (λ (m : ℕ). Bisects p (places_in m bytes) 0) (sym e) (record { within = omega arith; before = tt; after = tt })

-- ---- the index that was found

-- where the reader failed, any answer will do
pub faulted : {A B : Type 0} (view : A → B) (e : StoreError) (read : Result B StoreError) → e ≡ errors.Io Input → GivesUnlessFault view (Err e) read
faulted {A} view e read is = subst (λ (d : StoreError). GivesUnlessFault {X = A} view (Err d) read) (sym is) refl

found_more : {Y : Type 0} (at len : ℕ) (bytes : List ℕ) (index : ℕ) (found : Y) → (in_table at len bytes index >>= λ _. Ok found) ≡ in_table at len bytes found
found_more {Y} at len bytes index found = by (nat_le (at + len) (length bytes))
  where
    by : (b : Bool) → ((reaches b >>= λ _. Ok index) >>= λ _. Ok found) ≡ (reaches b >>= λ _. Ok found)
    by true = refl
    by false = refl

module _ {X : Type 0} (p : X → Bool) (items : List X) (at len : ℕ) (bytes : List ℕ) where
  -- a refusal of looking for the index
  pub index_refused : {A B I : Type 0} (q : I → Bool) (table : List I) (view : A → B) (e : StoreError) (found : ℕ → B) → ((index : ℕ) → Bisects p items index → Bisects q table index)
      → AnswersAt {A = ℕ} p items (λ x. x) (Err e) (λ index. in_table at len bytes index) → AnswersAt q table view (Err e) (λ index. in_table at len bytes (found index))
  index_refused {A} {B} q table view e found carry answer =
      let index = answer.0 in
      (index, carry index answer.1, subst (λ (r : Result B StoreError). GivesUnlessFault view (Err e) r) (found_more at len bytes index (found index)) (fault_on {A = ℕ} (λ x. x) view e (in_table at len bytes index) (λ _. Ok (found index)) answer.2))

  -- an index that was found
  pub index_is : (index : ℕ) → AnswersAt {A = ℕ} p items (λ x. x) (Ok index) (λ index. in_table at len bytes index) → Bisects p items index × (at + len ≤ length bytes)
  index_is index answer = by (leb (at + len) (length bytes)) refl
    where
      by : (b : Bool) → leb (at + len) (length bytes) ≡ b → Bisects p items index × (at + len ≤ length bytes)
      by true e =
          let made : in_table at len bytes answer.0 ≡ Ok answer.0 = rw e refl in
          (subst (λ (k : ℕ). Bisects p items k) (ok_is answer.0 index (sym made ∙ answer.2)) answer.1, leb-true (at + len) (length bytes) e)
      by false e =
          let none : in_table at len bytes answer.0 ≡ Err errors.UnexpectedEof = rw e refl in
          absurd (cc (sym none ∙ answer.2))

-- what looking for the index found that bisects the bytes of a table by a test
abbrev pub Looked : Probe → ℕ → ℕ → ℕ → List ℕ → Result ℕ StoreError → Type 0
Looked probe size at n bytes found = AnswersAt {A = ℕ} (passes probe) (slots size n (drop at bytes)) (λ x. x) found (λ index. in_table at (size * n) bytes index)

-- The same of a table of items, which what bisects its bytes bisects.
module _ {I : Type 0} (probe : Probe) (size at n : ℕ) (bytes : List ℕ) (q : I → Bool) (table : List I) (carry : (index : ℕ) → Bisects (passes probe) (slots size n (drop at bytes)) index → Bisects q table index) where
  stored_refused : {A B : Type 0} (view : A → B) (e : StoreError) (found : ℕ → B) (made : Result B StoreError) → n ≢ 0 → Looked probe size at n bytes (Err e)
      → AnswersAt q table view (Err e) (λ index. if n == 0 then made else in_table at (size * n) bytes (found index))
  stored_refused {A} {B} view e found made ne answer =
      let refused = index_refused (passes probe) (slots size n (drop at bytes)) at (size * n) bytes q table view e found carry answer in
      (refused.0, refused.1, subst (λ (r : Result B StoreError). GivesUnlessFault {X = A} view (Err e) r) (chosen_second n made _ ne) refused.2)

  stored_index : (index : ℕ) → Looked probe size at n bytes (Ok index) → Bisects q table index × (at + size * n ≤ length bytes)
  stored_index index answer =
      let found = index_is (passes probe) (slots size n (drop at bytes)) at (size * n) bytes index answer in
      (carry index found.0, found.1)

table_there : {Y : Type 0} (at len : ℕ) (bytes : List ℕ) (found : Y) → at + len ≤ length bytes → in_table at len bytes found ≡ Ok found
table_there at len bytes found le = rw (le-leb (at + len) (length bytes) le) refl

-- ---- the items from an index on

heads_drop : (n i : ℕ) (bytes : List ℕ) → i ≤ n → drop i (heads_in n bytes) ≡ heads_in (n - i) (drop (12 * i) bytes)
unfolding heads_in
heads_drop n zero bytes le = let e : n ≡ n - 0 = omega arith in let z : 0 ≡ 12 * 0 = omega arith in λ j. heads_in (e j) (drop (z j) bytes)
heads_drop zero (suc i) bytes le = absurd (omega arith)
heads_drop (suc n) (suc i) bytes le =
    let e : n - i ≡ suc n - suc i = omega arith in
    let z : 12 + 12 * i ≡ 12 * suc i = omega arith in
    heads_drop n i (drop 12 bytes) (omega arith) ∙ ap (heads_in (n - i)) (drop-drop (12 * i) 12 bytes) ∙ (λ j. heads_in (e j) (drop (z j) bytes))

heads_take : (k m : ℕ) (bytes : List ℕ) → take k (heads_in m bytes) ≡ heads_in (min m k) bytes
unfolding heads_in
heads_take zero m bytes = let e : 0 ≡ min m 0 = omega arith in ap (λ (n : ℕ). heads_in n bytes) e
heads_take (suc k) zero bytes = let e : 0 ≡ min 0 (suc k) = omega arith in ap (λ (n : ℕ). heads_in n bytes) e
heads_take (suc k) (suc m) bytes =
    let e : suc (min m k) ≡ min (suc m) (suc k) = omega arith in
    ap (λ (is : List (ℕ × ℕ)). head_of bytes ∷ is) (heads_take k m (drop 12 bytes)) ∙ ap (λ (n : ℕ). heads_in n bytes) e

module _ (f : MDBShardFileFooter) (bytes : List ℕ) where
  pub files_at_index : (index : ℕ) (items : List (ℕ × ℕ)) → f.file_lookup_num_entry ≢ 0 → f.file_lookup_offset + 12 * f.file_lookup_num_entry ≤ length bytes → take 8 (drop index (file_table f bytes)) ≡ items → file_items_from f index bytes ≡ Ok items
  unfolding file_items_from
  files_at_index index items ne le is =
      sym (chosen_second f.file_lookup_num_entry _ _ ne) ∙ table_there f.file_lookup_offset (12 * f.file_lookup_num_entry) bytes (take 8 (drop index (file_table f bytes))) le ∙ ap (λ (is : List (ℕ × ℕ)). Ok is) is

  -- what was read from an index on of the files' table
  pub files_from : (index few : ℕ) (piece : List ℕ) (items : List (ℕ × ℕ)) → f.file_lookup_num_entry ≢ 0 → f.file_lookup_offset + 12 * f.file_lookup_num_entry ≤ length bytes → index ≤ f.file_lookup_num_entry
      → few ≡ min (f.file_lookup_num_entry - index) 8 → piece ≡ take (12 * few) (drop (f.file_lookup_offset + 12 * index) bytes) → items ≡ heads_in few piece → file_items_from f index bytes ≡ Ok items
  files_from index few piece items ne le within is read made =
      let n = f.file_lookup_num_entry in
      let at = f.file_lookup_offset in
      let rest : List ℕ = drop (at + 12 * index) bytes in
      files_at_index index items ne le
      (ap (take 8) (heads_drop n index (drop at bytes) within ∙ ap (heads_in (n - index)) (drop-drop (12 * index) at bytes)) ∙ heads_take 8 (n - index) rest
      ∙ ap (λ (k : ℕ). heads_in k rest) (sym is) ∙ sym (heads_first few rest) ∙ ap (heads_in few) (sym read) ∙ sym made)

  pub files_refused : {A : Type 0} (view : A → List (ℕ × ℕ)) (first : ℕ) (e : StoreError) → f.file_lookup_num_entry ≢ 0 → Looked (WordBelow first) 12 f.file_lookup_offset f.file_lookup_num_entry bytes (Err e) → AnswersAt (λ i. nat_lt i.0 first) (file_table f bytes) view (Err e) (λ index. file_items_from f index bytes)
  unfolding file_items_from
  files_refused view first e = stored_refused (WordBelow first) 12 _ f.file_lookup_num_entry bytes _ (file_table f bytes) (λ index. words_below first _ index _) view e (λ index. take 8 (drop index (file_table f bytes))) _

  pub files_index : (first index : ℕ) → Looked (WordBelow first) 12 f.file_lookup_offset f.file_lookup_num_entry bytes (Ok index) → Bisects (λ i. nat_lt i.0 first) (file_table f bytes) index × (f.file_lookup_offset + 12 * f.file_lookup_num_entry ≤ length bytes)
  files_index first = stored_index (WordBelow first) 12 f.file_lookup_offset f.file_lookup_num_entry bytes (λ (i : ℕ × ℕ). nat_lt i.0 first) (file_table f bytes) (λ index. words_below first _ index _)

  -- the same of the chunks' table
  pub chunks_refused : {A : Type 0} (view : A → Option (ℕ × ℕ)) (first : ℕ) (e : StoreError) → f.chunk_lookup_num_entry ≢ 0 → Looked (WordAtMost first) 16 f.chunk_lookup_offset f.chunk_lookup_num_entry bytes (Err e) → AnswersAt (λ i. nat_le i.0 first) (chunk_table f bytes) view (Err e) (λ index. chunk_place f first index bytes)
  unfolding chunk_place
  chunks_refused view first e = stored_refused (WordAtMost first) 16 _ f.chunk_lookup_num_entry bytes _ (chunk_table f bytes) (λ index. words_at_most first _ index _) view e (λ index. place_before first index (chunk_table f bytes)) _

  pub chunks_index : (first index : ℕ) → Looked (WordAtMost first) 16 f.chunk_lookup_offset f.chunk_lookup_num_entry bytes (Ok index) → Bisects (λ i. nat_le i.0 first) (chunk_table f bytes) index × (f.chunk_lookup_offset + 16 * f.chunk_lookup_num_entry ≤ length bytes)
  chunks_index first = stored_index (WordAtMost first) 16 f.chunk_lookup_offset f.chunk_lookup_num_entry bytes (λ (i : ℕ × ℕ × ℕ). nat_le i.0 first) (chunk_table f bytes) (λ index. words_at_most first _ index _)

  pub place_at_index : (first index : ℕ) (place : Option (ℕ × ℕ)) → f.chunk_lookup_num_entry ≢ 0 → f.chunk_lookup_offset + 16 * f.chunk_lookup_num_entry ≤ length bytes → place_before first index (chunk_table f bytes) ≡ place → chunk_place f first index bytes ≡ Ok place
  unfolding chunk_place
  place_at_index first index place ne le is =
      sym (chosen_second f.chunk_lookup_num_entry _ _ ne) ∙ table_there f.chunk_lookup_offset (16 * f.chunk_lookup_num_entry) bytes (place_before first index (chunk_table f bytes)) le ∙ ap (λ (p : Option (ℕ × ℕ)). Ok p) is

  -- the answer by an index that was found
  pub place_answer : (first index : ℕ) (place : Option (ℕ × ℕ)) → f.chunk_lookup_num_entry ≢ 0 → Looked (WordAtMost first) 16 f.chunk_lookup_offset f.chunk_lookup_num_entry bytes (Ok index) → place_before first index (chunk_table f bytes) ≡ place
      → AnswersAt {A = Option (ℕ × ℕ)} (λ i. nat_le i.0 first) (chunk_table f bytes) (λ p. p) (Ok place) (λ index. chunk_place f first index bytes)
  place_answer first index place ne answer is =
      let found = chunks_index first index answer in
      (index, found.0, place_at_index first index place ne found.1 is)

  -- the item before an index is there
  pub item_before : (first index : ℕ) (now : List ℕ) → Looked (WordAtMost first) 16 f.chunk_lookup_offset f.chunk_lookup_num_entry bytes (Ok index) → 0 < index → index ≤ f.chunk_lookup_num_entry → now ≡ bytes → f.chunk_lookup_offset + 16 * (index - 1) + 16 ≤ length now
  item_before first index now answer some within same = omega (arith, (chunks_index first index answer).1, some, within, ap length same)

  -- the item before an index, of the bytes that were read
  place_read : (first index : ℕ) (item : List ℕ) → 0 < index → index ≤ f.chunk_lookup_num_entry → item ≡ take 16 (drop (f.chunk_lookup_offset + 16 * (index - 1)) bytes)
      → place_before first index (chunk_table f bytes) ≡ (if word item 0 == first then Some (half_word item 8, half_word item 12) else None)
  place_read first index item some within read =
      let at = f.chunk_lookup_offset in
      let n = f.chunk_lookup_num_entry in
      let k : index ≡ suc (index - 1) = omega arith in
      let rest : List ℕ = drop (at + 16 * (index - 1)) bytes in
      let there : slice_get (chunk_table f bytes) (index - 1) ≡ Some (place_of rest) = place_get n (index - 1) (drop at bytes) (omega (arith, some, within)) ∙ ap (λ (b : List ℕ). Some (place_of b)) (drop-drop (16 * (index - 1)) at bytes) in
      let cut : place_of rest ≡ place_of item = sym (λ i. (word_first 0 16 rest (omega arith) i, half_word_first 8 16 rest (omega arith) i, half_word_first 12 16 rest (omega arith) i)) ∙ ap place_of (sym read) in
      ap (λ (m : ℕ). place_before first m (chunk_table f bytes)) k
      ∙ ap (λ (o : Option (ℕ × ℕ × ℕ)). elim o [ None ↦ None | Some i ↦ if i.0 == first then Some (i.1, i.2) else None ]) (there ∙ ap (λ (i : ℕ × ℕ × ℕ). Some i) cut)

  pub place_same : (first index : ℕ) (item : List ℕ) (w row place : ℕ) → 0 < index → index ≤ f.chunk_lookup_num_entry → item ≡ take 16 (drop (f.chunk_lookup_offset + 16 * (index - 1)) bytes) → w ≡ word item 0 → row ≡ half_word item 8 → place ≡ half_word item 12 → w ≡ first
      → place_before first index (chunk_table f bytes) ≡ Some (row, place)
  place_same first index item w row place some within read ew er ep same = place_read first index item some within read ∙ rw (eq-eqb (word item 0) first (sym ew ∙ same)) (sym (λ i. Some (er i, ep i)))

  pub place_other : (first index : ℕ) (item : List ℕ) (w : ℕ) → 0 < index → index ≤ f.chunk_lookup_num_entry → item ≡ take 16 (drop (f.chunk_lookup_offset + 16 * (index - 1)) bytes) → w ≡ word item 0 → w ≢ first → place_before first index (chunk_table f bytes) ≡ None
  place_other first index item w some within read ew other = place_read first index item some within read ∙ rw (ne_eqb (word item 0) first (λ e. other (ew ∙ e))) refl

  -- and of the xorbs'
  pub heads_refused : {A : Type 0} (view : A → Bool) (row : ℕ) (e : StoreError) → f.xorb_lookup_num_entry ≢ 0 → Looked (RowBelow row) 12 f.xorb_lookup_offset f.xorb_lookup_num_entry bytes (Err e) → AnswersAt (λ i. nat_lt i.1 row) (xorb_table f bytes) view (Err e) (λ index. has_head f row index bytes)
  unfolding has_head
  heads_refused view row e = stored_refused (RowBelow row) 12 _ f.xorb_lookup_num_entry bytes _ (xorb_table f bytes) (λ index. rows_below row _ index _) view e (λ index. tells_row row index (xorb_table f bytes)) _

  pub heads_index : (row index : ℕ) → Looked (RowBelow row) 12 f.xorb_lookup_offset f.xorb_lookup_num_entry bytes (Ok index) → Bisects (λ i. nat_lt i.1 row) (xorb_table f bytes) index × (f.xorb_lookup_offset + 12 * f.xorb_lookup_num_entry ≤ length bytes)
  heads_index row = stored_index (RowBelow row) 12 f.xorb_lookup_offset f.xorb_lookup_num_entry bytes (λ (i : ℕ × ℕ). nat_lt i.1 row) (xorb_table f bytes) (λ index. rows_below row _ index _)

  pub head_at_index : (row index : ℕ) (there : Bool) → f.xorb_lookup_num_entry ≢ 0 → f.xorb_lookup_offset + 12 * f.xorb_lookup_num_entry ≤ length bytes → tells_row row index (xorb_table f bytes) ≡ there → has_head f row index bytes ≡ Ok there
  unfolding has_head
  head_at_index row index there ne le is =
      sym (chosen_second f.xorb_lookup_num_entry _ _ ne) ∙ table_there f.xorb_lookup_offset (12 * f.xorb_lookup_num_entry) bytes (tells_row row index (xorb_table f bytes)) le ∙ ap (λ (b : Bool). Ok b) is

  pub head_past : (row index : ℕ) → f.xorb_lookup_num_entry ≤ index → tells_row row index (xorb_table f bytes) ≡ false
  head_past row index le =
      ap (λ (o : Option (ℕ × ℕ)). elim o [ None ↦ false | Some i ↦ i.1 == row ]) (slice_get_past (xorb_table f bytes) index (omega (arith, le, length-heads_in f.xorb_lookup_num_entry (drop f.xorb_lookup_offset bytes))))

  pub head_read : (row index : ℕ) (item : List ℕ) → index < f.xorb_lookup_num_entry → item ≡ take 12 (drop (f.xorb_lookup_offset + 12 * index) bytes) → tells_row row index (xorb_table f bytes) ≡ (half_word item 8 == row)
  head_read row index item within read =
      let at = f.xorb_lookup_offset in
      let rest : List ℕ = drop (at + 12 * index) bytes in
      let there : slice_get (xorb_table f bytes) index ≡ Some (head_of rest) = head_get f.xorb_lookup_num_entry index (drop at bytes) within ∙ ap (λ (b : List ℕ). Some (head_of b)) (drop-drop (12 * index) at bytes) in
      ap (λ (o : Option (ℕ × ℕ)). elim o [ None ↦ false | Some i ↦ i.1 == row ]) there ∙ ap (λ (n : ℕ). n == row) (sym (half_word_first 8 12 rest (omega arith)) ∙ ap (λ (b : List ℕ). half_word b 8) (sym read))

  -- ---- tables that were left out

  pub chunks_of_all : (first index : ℕ) → f.chunk_lookup_num_entry ≡ 0 → (chunk_lookup_in f bytes >>= λ items. Ok (last_of first items)) ≡ chunk_place f first index bytes
  unfolding chunk_lookup_in chunk_place
  chunks_of_all first index e = rw (eq-eqb f.chunk_lookup_num_entry 0 e) (regroup (blocks_in f bytes))
    where
      regroup : (r : Result (List MDBXorbInfo) StoreError) → ((r >>= λ blocks. Ok (chunk_items blocks)) >>= λ items. Ok (last_of first items)) ≡ (r >>= λ blocks. Ok (last_of first (chunk_items blocks)))
      regroup (Ok x) = refl
      regroup (Err e) = refl

  pub heads_of_all : (row index : ℕ) → f.xorb_lookup_num_entry ≡ 0 → (xorb_lookup_in f bytes >>= λ items. Ok (list_any (λ i. i.1 == row) items)) ≡ has_head f row index bytes
  unfolding xorb_lookup_in has_head
  heads_of_all row index e = rw (eq-eqb f.xorb_lookup_num_entry 0 e) (regroup (blocks_in f bytes))
    where
      regroup : (r : Result (List MDBXorbInfo) StoreError) → ((r >>= λ blocks. Ok (xorb_items blocks)) >>= λ items. Ok (list_any (λ i. i.1 == row) items)) ≡ (r >>= λ blocks. Ok (list_any (λ i. i.1 == row) (xorb_items blocks)))
      regroup (Ok x) = refl
      regroup (Err e) = refl
