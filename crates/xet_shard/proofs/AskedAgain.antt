-- What a shard's text answers is what the shard holds.
use Rattle.std.proofs.Common.{◌≡◌, ◌≢◌, ℕ, zero, suc, ◌+◌, ◌-◌, ◌*◌, ◌^◌, ◌<◌, ◌≤◌, Bool, true, false, cond, eqb, List, [], ◌∷◌, ◌++◌, drop, filter, length, map, nat_eq, nat_le, nat_lt, take, None, Option, Some, Result, Ok, refl, sym, ap, subst, ◌∙◌, arith, inl, inr}
use Rattle.std.specs.Cmp.Lexicographic.{bytes_decides, pointwise}
use Rattle.std.specs.List.{AllByRecursion, list_any}
use Rattle.std.specs.Prelude.{◌==◌, if◌then◌else◌, is_some}
use Rattle.std.proofs.lemmas.Bool.{cases_Bool, cases_lt, eq-eqb, eqb-false, eqb-true, le-leb, le-ltb, lt-ltb, ne_eqb}
use Rattle.std.proofs.lemmas.List.{drop-drop, drop_at, length-append, length-take, take_all}
use Rattle.std.proofs.lemmas.Option.{same_Some}
use Rattle.xet_hash.specs.declared.error.StoreError.{StoreError}
use Rattle.xet_shard_format.specs.declared.header_footer.MDBShardFileFooter.{MDBShardFileFooter}
use Rattle.xet_shard_format.specs.declared.record.FileDataSequenceEntry.{FileDataSequenceEntry}
use Rattle.xet_shard_format.specs.declared.record.MDBFileInfo.{MDBFileInfo}
use Rattle.xet_shard_format.specs.declared.record.MDBXorbInfo.{MDBXorbInfo}
use Rattle.xet_shard_format.specs.declared.record.XorbChunkSequenceEntry.{XorbChunkSequenceEntry}
use Rattle.xet_shard_format.specs.declared.row.Row.{Row}
use Rattle.xet_shard.specs.Held.{record_of}
use Rattle.xet_shard.specs.Bisection.{Bisects}
use Rattle.xet_shard_format.specs.Lookups.{Lookups, chunk_items, chunks_from, file_items, heads_from, place_cmp, lookup_rows_from, xorb_items}
use Rattle.xet_shard.specs.Queries.{block_at, chunk_place, chunk_table, fewer_than_eight, file_after, file_in, file_items_from, file_table, first_file, found_file, found_run, has_head, kept_hash, last_of, place_before, query_word, read_in_row, rows_from, rows_of, run_in, run_of_word, file_in_shard, shard_run, shard_run_at, tells_row, direct_run, xorb_table}
use Rattle.xet_codec.specs.Parsing.{◌>>=◌}
use Rattle.xet_shard_format.specs.Reading.{file_record_at, file_row_count, xorb_at, xorb_row_count}
use Rattle.xet_shard_format.specs.Records.{AreRecords, IsFile, IsXorb, file_record_hash, file_head, file_rest, file_rows, first_word, section, xorb_record_hash, xorb_head, xorb_rest, xorb_rows}
use Rattle.xet_shard_format.specs.Rows.{rows_in}
use Rattle.xet_shard.specs.Runs.{run_after, run_at}
use Rattle.xet_shard_format.specs.Encoding.{Fits, IsShard, Shard, footer_of, shard_bytes}
use Rattle.xet_base.specs.theorems.Elements.{all_both}
use Rattle.xet_shard.proofs.ItemsAgain.{sorted_all}
use Rattle.xet_shard.proofs.PartsAgain.{chunks_again, encoding_checked, encoding_placed, xorbs_again, chunk_table_again, file_table_again, files_again, xorb_table_again}
use Rattle.xet_shard.proofs.PartLaws.{count_whole, files_made}
use Rattle.xet_shard_format.specs.theorems.RowList.{length-rows_in, rows_drop}
use Rattle.xet_shard.proofs.RunsAgain.{run_taken}
use Rattle.xet_shard_format.specs.theorems.SectionLaws.{files_reading, section_cons, section_takes, xorbs_reading}
use Rattle.xet_shard.proofs.RisingTables.{chunk_words_rise, equal_from, file_words_rise, last_before, row_told, xorb_rows_rise}
use Rattle.xet_shard.proofs.Tables.{chunks_of_all, files_at_index, head_at_index, heads_of_all, place_at_index}

-- something holds of each record and its row
abbrev pub Each : {X : Type 0} → (X → List Row) → (ℕ → X → Type 0) → ℕ → List X → Type 0
Each rows P at [] = Unit {0}
Each rows P at (x ∷ xs) = P at x × Each rows P (at + length (rows x)) xs

-- ---- the records are read, each in its row

module _ {X Y : Type 0} (read : Row → List Row → Result Y StoreError) (head : X → Row) (others : X → List Row) (Form : X → Type 0) (what : X → Y) (each : (x : X) (rest : List Row) → Form x → read (head x) (others x ++ rest) ≡ Ok (what x))
    (at count : ℕ) (bytes : List ℕ) (few : count < 2 ^ 32) (inside : at + 48 * count ≤ length bytes) where
  -- what is read of the record whose rows are the next of the section
  row_read : (row : ℕ) (x : X) (rest : List Row) → row < count → drop row (rows_in count (drop at bytes)) ≡ head x ∷ (others x ++ rest) → Form x → read_in_row read at count row bytes ≡ Ok (what x)
  unfolding read_in_row rows_from
  row_read row x rest below is form =
      let there : rows_in (count - row) (drop (at + 48 * row) bytes) ≡ head x ∷ (others x ++ rest) = ap (rows_in (count - row)) (sym (drop-drop (48 * row) at bytes)) ∙ rows_drop row count (drop at bytes) (omega arith) ∙ is in
      rw (lt-ltb count (2 ^ 32) few, lt-ltb row count below, le-leb (at + 48 * count) (length bytes) inside, there, each x rest form) refl

-- what holds of each record that begins in a row of a section holds of all of them
module _ {X : Type 0} (hash : X → List ℕ) (head : X → Row) (others : X → List Row) (Form : X → Type 0) (P : ℕ → X → Type 0) (count : ℕ) (all : List Row)
    (one : (row : ℕ) (x : X) (rest : List Row) → row < count → drop row all ≡ head x ∷ (others x ++ rest) → Form x → P row x) where
  abbrev rows : X → List Row
  rows x = head x ∷ others x

  each_there : (row : ℕ) (last : Option (List ℕ)) (xs : List X) → drop row all ≡ section rows xs → row + length (section rows xs) ≡ count → AreRecords hash Form last xs → Each rows P row xs
  each_there row last [] is sum form = tt
  each_there row last (x ∷ xs) is sum form =
      let first : drop row all ≡ rows x ++ section rows xs = is ∙ section_cons rows x xs in
      let long : length (section rows (x ∷ xs)) ≡ length (rows x) + length (section rows xs) = ap length (section_cons rows x xs) ∙ length-append (rows x) (section rows xs) in
      let next : drop (row + length (rows x)) all ≡ section rows xs = sym (drop-drop (length (rows x)) row all) ∙ ap (drop (length (rows x))) first ∙ drop_at (rows x) (section rows xs) (length (rows x)) refl in
      (one row x (section rows xs) (omega (arith, long, sum)) first form.2, each_there (row + length (rows x)) (Some (hash x)) xs next (omega (arith, long, sum)) form.3)

-- ---- files

module _ (f : MDBShardFileFooter) (h bytes : List ℕ) where
  -- an item of the look-up whose file was read
  first_step : (word w row : ℕ) (x : MDBFileInfo) (items : List (ℕ × ℕ)) (found : Option MDBFileInfo) → (h ≡ file_record_hash x → w ≡ word) → file_in f row bytes ≡ Ok x → first_file f h (rows_of word items) bytes ≡ Ok found
      → first_file f h (rows_of word ((w, row) ∷ items)) bytes ≡ Ok (if pointwise nat_eq h (file_record_hash x) then Some x else found)
  unfolding first_file
  first_step word w row x items found same there others = elim (cases_Bool (pointwise nat_eq h (file_record_hash x))) [
    | inl is ↦ rw (eq-eqb w word (same ((bytes_decides h (file_record_hash x)).0 is)), there, is) refl
    | inr other ↦ elim (cases_Bool (eqb w word)) [
      | inl e ↦ rw (e, there, other) others
      | inr e ↦ rw (e, other) others
    ]
  ]

  first_again : (at : ℕ) (files : List MDBFileInfo) → Each file_rows (λ r x. file_in f r bytes ≡ Ok x) at files → first_file f h (rows_of (first_word h) (heads_from file_record_hash file_rows at files)) bytes ≡ Ok (record_of file_record_hash h files)
  unfolding first_file heads_from
  first_again at [] there = refl
  first_again at (x ∷ xs) there =
      first_step (first_word h) (first_word (file_record_hash x)) at x (heads_from file_record_hash file_rows (at + length (file_rows x)) xs) (record_of file_record_hash h xs) (λ e. ap first_word (sym e)) there.0 (first_again (at + length (file_rows x)) xs there.1)

-- the file among these rows, where they are fewer than eight
abbrev file_among : MDBShardFileFooter → List ℕ → List ℕ → List ℕ → Result (Option MDBFileInfo) StoreError
file_among f h bytes rows = fewer_than_eight (length rows) >>= λ _. first_file f h rows bytes

-- eight of the rows are enough
among_eight : (f : MDBShardFileFooter) (h bytes rows : List ℕ) → file_among f h bytes (take 8 rows) ≡ file_among f h bytes rows
among_eight f h bytes rows = elim (cases_lt (length rows) 8) [
  | inl few ↦ ap (file_among f h bytes) (take_all 8 rows (omega (arith, few)))
  | inr many ↦
      let eight : 8 ≤ length (take 8 rows) = omega (arith, many, length-take 8 rows) in
      rw (le-ltb (length (take 8 rows)) 8 eight, le-ltb (length rows) 8 many) refl
]

map_take : (n : ℕ) (items : List (ℕ × ℕ)) → map (λ i. i.1) (take n items) ≡ take n (map (λ i. i.1) items)
map_take zero items = refl
map_take (suc n) [] = refl
map_take (suc n) (i ∷ items) = ap (λ (rows : List ℕ). i.1 ∷ rows) (map_take n items)

-- ---- the run at a row

-- each run of a xorb is read at its row
abbrev RunsAt : MDBShardFileFooter → List ℕ → ℕ → MDBXorbInfo → Type 0
RunsAt f bytes row x = (query : List (List ℕ)) (place : ℕ) → run_in f query row place bytes ≡ Ok (run_at (map (kept_hash f.chunk_hash_hmac_key) query) x place)

module _ (f : MDBShardFileFooter) (query : List (List ℕ)) (row place : ℕ) (bytes : List ℕ) where
  direct_again : (at : ℕ) (xs : List MDBXorbInfo) → Each xorb_rows (RunsAt f bytes) at xs
      → (if list_any (λ i. i.1 == row) (heads_from xorb_record_hash xorb_rows at xs) then run_in f query row place bytes else Ok None) ≡ Ok (elim (block_at row at xs) [ None ↦ None | Some block ↦ run_at (map (kept_hash f.chunk_hash_hmac_key) query) block place ])
  unfolding heads_from block_at
  direct_again at [] there = refl
  direct_again at (x ∷ xs) there = elim (cases_Bool (eqb row at)) [
    | inl e ↦
        let is : row ≡ at = eqb-true row at e in
        let read : run_in f query row place bytes ≡ Ok (run_at (map (kept_hash f.chunk_hash_hmac_key) query) x place) = ap (λ (r : ℕ). run_in f query r place bytes) is ∙ there.0 query place in
        rw (e, eq-eqb at row (sym is), read) refl
    | inr e ↦
        let ne : at ≢ row = λ is. eqb-false row at e (sym is) in
        rw (e, ne_eqb at row ne) (direct_again (at + length (xorb_rows x)) xs there.1)
  ]

-- ---- runs

-- each xorb stands in its row
placed_in : (blocks : List MDBXorbInfo) (at : ℕ) (xs : List MDBXorbInfo) → ((r : ℕ) → at ≤ r → block_at r 0 blocks ≡ block_at r at xs) → Each xorb_rows (λ r x. block_at r 0 blocks ≡ Some x) at xs
unfolding block_at
placed_in blocks at [] alike = tt
placed_in blocks at (x ∷ xs) alike =
    let here : eqb at at ≡ true = eq-eqb at at refl in
    let first : block_at at at (x ∷ xs) ≡ Some x = rw here refl in (
      alike at (omega arith) ∙ first,
      placed_in blocks (at + length (xorb_rows x)) xs (λ r le.
          let ne : r ≢ at = omega (arith, le) in
          let past : block_at r at (x ∷ xs) ≡ block_at r (at + length (xorb_rows x)) xs = rw (ne_eqb r at ne) refl in
          alike r (omega (arith, le)) ∙ past),
    )

module _ (f : MDBShardFileFooter) (bytes : List ℕ) (blocks : List MDBXorbInfo) where
  -- a xorb that stands in a row, and whose runs are read there
  record Stands (row : ℕ) : Type 0 where
    pub block : MDBXorbInfo
    pub read : RunsAt f bytes row block
    pub placed : block_at row 0 blocks ≡ Some block

  places_stand : (at place : ℕ) (cs : List XorbChunkSequenceEntry) → Stands at → AllByRecursion (λ i. Stands (i.1)) (lookup_rows_from at place cs)
  unfolding lookup_rows_from
  places_stand at place [] stands = tt
  places_stand at place (c ∷ cs) stands = (stands, places_stand at (place + 1) cs stands)

  chunks_stand : (at : ℕ) (xs : List MDBXorbInfo) → Each xorb_rows (RunsAt f bytes) at xs → Each xorb_rows (λ r x. block_at r 0 blocks ≡ Some x) at xs → AllByRecursion (λ i. Stands (i.1)) (chunks_from at xs)
  unfolding chunks_from
  chunks_stand at [] read placed = tt
  chunks_stand at (x ∷ xs) read placed =
      all_both (λ (i : ℕ × ℕ × ℕ). Stands (i.1)) (lookup_rows_from at 0 x.chunks) (chunks_from (at + length (xorb_rows x)) xs) (places_stand at 0 x.chunks (record { block = x; read = read.0; placed = placed.0 }))
      (chunks_stand (at + length (xorb_rows x)) xs read.1 placed.1)

  last_stands : (word : ℕ) (items : List (ℕ × ℕ × ℕ)) → AllByRecursion (λ i. Stands (i.1)) items → (found : ℕ × ℕ) → last_of word items ≡ Some found → Stands (found.0)
  unfolding last_of
  last_stands word [] all found e = absurd cc
  last_stands word (i ∷ is) all found e = by (last_of word is) (last_stands word is all.1) e
    where
      one : (b : Bool) → cond b (Some (i.1, i.2)) None ≡ Some found → Stands (found.0)
      one true e = subst (λ (p : ℕ × ℕ). Stands (p.0)) (same_Some _ _ e) all.0
      one false e = absurd cc

      by : (r : Option (ℕ × ℕ)) → ((p : ℕ × ℕ) → r ≡ Some p → Stands (p.0)) → elim r [ Some p ↦ Some p | None ↦ cond (i.0 == word) (Some (i.1, i.2)) None ] ≡ Some found → Stands (found.0)
      by None later e = one (i.0 == word) e
      by (Some p) later e = later found e

  -- what a place that was looked up comes to
  place_again : (query : List (List ℕ)) (key : List ℕ) (word : ℕ) (items : List (ℕ × ℕ × ℕ)) → f.chunk_hash_hmac_key ≡ key → AllByRecursion (λ i. Stands (i.1)) items
      → elim (last_of word items) as (λ _. Result (Option (ℕ × FileDataSequenceEntry)) StoreError) [ None ↦ Ok None | Some found ↦ run_in f query found.0 found.1 bytes ]
      ≡ Ok (elim (last_of word items) as (λ _. Option (ℕ × FileDataSequenceEntry)) [ None ↦ None | Some found ↦ elim (block_at (found.0) 0 blocks) [ None ↦ None | Some block ↦ run_at (map (kept_hash key) query) block (found.1) ] ])
  place_again query key word items key_is all = by (last_of word items) (last_stands word items all)
    where
      by : (r : Option (ℕ × ℕ)) → ((p : ℕ × ℕ) → r ≡ Some p → Stands (p.0)) → elim r as (λ _. Result (Option (ℕ × FileDataSequenceEntry)) StoreError) [ None ↦ Ok None | Some found ↦ run_in f query found.0 found.1 bytes ]
          ≡ Ok (elim r as (λ _. Option (ℕ × FileDataSequenceEntry)) [ None ↦ None | Some found ↦ elim (block_at (found.0) 0 blocks) [ None ↦ None | Some block ↦ run_at (map (kept_hash key) query) block (found.1) ] ])
      by None stands = refl
      by (Some p) stands = let s = stands p refl in rw (s.read query (p.1), s.placed, key_is) refl

-- ---- the questions to a text

module _ (w : Lookups) (s : Shard) (form : IsShard s) (fits : Fits s) where
  abbrev encoding : List ℕ
  encoding = shard_bytes w s

  abbrev foot : MDBShardFileFooter
  foot = footer_of w s

  files_there : Each file_rows (λ r x. file_in foot r encoding ≡ Ok x) 0 s.files
  files_there =
      let p = encoding_placed w s form fits in
      let all = section_takes file_record_at file_record_hash file_head file_rest IsFile files_reading (file_row_count foot) None (rows_in (file_row_count foot) (drop foot.file_info_offset encoding)) s.files (encoding_checked w s form fits).files in
      let count = file_row_count foot in
      let one = row_read file_after file_head file_rest IsFile (λ x. x) (λ x rest form. ap (λ (r : Result (MDBFileInfo × List Row) StoreError). r >>= λ y. Ok y.0) (files_reading.again x rest form)) foot.file_info_offset count encoding p.few_files
      (omega (arith, p.xorbs, p.file_lookup, p.xorb_lookup, p.chunk_lookup, p.footer, p.end)) in
      subst (λ (r : Result ℕ StoreError). Each file_rows (λ k x. (r >>= λ n. read_in_row file_after foot.file_info_offset n k encoding) ≡ Ok x) 0 s.files) (sym (count_whole foot.file_info_offset foot.xorb_info_offset p.xorbs))
      (each_there file_record_hash file_head file_rest IsFile (λ k x. read_in_row file_after foot.file_info_offset count k encoding ≡ Ok x) count (rows_in count (drop foot.file_info_offset encoding)) one 0 None s.files all.0
      (omega (arith, ap length all.0, length-rows_in count (drop foot.file_info_offset encoding))) all.1)

  blocks_there : Each xorb_rows (RunsAt foot encoding) 0 s.blocks
  blocks_there =
      let p = encoding_placed w s form fits in
      let all = section_takes xorb_at xorb_record_hash xorb_head xorb_rest IsXorb xorbs_reading (xorb_row_count foot) None (rows_in (xorb_row_count foot) (drop foot.xorb_info_offset encoding)) s.blocks (encoding_checked w s form fits).blocks in
      let count = xorb_row_count foot in
      let counted = count_whole foot.xorb_info_offset foot.file_lookup_offset p.file_lookup in
      let one : (row : ℕ) (x : MDBXorbInfo) (rest : List Row) → row < count → drop row (rows_in count (drop foot.xorb_info_offset encoding)) ≡ xorb_head x ∷ (xorb_rest x ++ rest) → IsXorb x → RunsAt foot encoding row x =
      λ row x rest below is form query place.
      let ks : List (List ℕ) = map (kept_hash foot.chunk_hash_hmac_key) query in
      ap (λ (r : Result ℕ StoreError). r >>= λ n. read_in_row (run_after ks place) foot.xorb_info_offset n row encoding) counted
      ∙ row_read (run_after ks place) xorb_head xorb_rest IsXorb (λ x. run_at ks x place) (λ x rest form. run_taken ks place x rest form) foot.xorb_info_offset count encoding p.few_xorbs
      (omega (arith, p.file_lookup, p.xorb_lookup, p.chunk_lookup, p.footer, p.end)) row x rest below is form in
      each_there xorb_record_hash xorb_head xorb_rest IsXorb (RunsAt foot encoding) count (rows_in count (drop foot.xorb_info_offset encoding)) one 0 None s.blocks all.0 (omega (arith, ap length all.0, length-rows_in count (drop foot.xorb_info_offset encoding))) all.1

  key_again : foot.chunk_hash_hmac_key ≡ s.key
  unfolding footer_of
  key_again = refl

  -- the items of the files of a word, by an index that bisects the table
  files_found : (h : List ℕ) (index : ℕ) → Bisects (λ i. nat_lt i.0 (first_word h)) (file_table foot encoding) index → found_file foot h index encoding ≡ file_among foot h encoding (rows_of (first_word h) (file_items s.files))
  unfolding found_file
  files_found h index b = elim (cases_Bool (eqb foot.file_lookup_num_entry 0)) [
    | inl none ↦
        let made : file_items_from foot index encoding ≡ Ok (file_items s.files) = sym (files_made foot index encoding (eqb-true _ _ none)) ∙ ap (λ (r : Result (List MDBFileInfo) StoreError). r >>= λ files. Ok (file_items files)) (files_again w s form fits) in
        rw made refl
    | inr some ↦
        let p = encoding_placed w s form fits in
        let ne : foot.file_lookup_num_entry ≢ 0 = eqb-false _ _ some in
        let items : List (ℕ × ℕ) = file_items s.files in
        let word : ℕ = first_word h in
        let there : file_table foot encoding ≡ items = file_table_again w s form fits ne in
        let kept : file_items_from foot index encoding ≡ Ok (take 8 (drop index items)) = files_at_index foot encoding index (take 8 (drop index items)) ne (omega (arith, p.xorb_lookup, p.chunk_lookup, p.footer, p.end)) (ap (λ (is : List (ℕ × ℕ)). take 8 (drop index is)) there) in
        let here : Bisects (λ i. nat_lt i.0 word) items index = subst (λ (is : List (ℕ × ℕ)). Bisects (λ i. nat_lt i.0 word) is index) there b in
        let rows : rows_of word (take 8 (drop index items)) ≡ take 8 (rows_of word items) = ap (map (λ (i : ℕ × ℕ). i.1)) (equal_from (λ (i : ℕ × ℕ). i.0) word 0 8 index items (file_words_rise s.files fits.files form.files) here) ∙ map_take 8 (filter (λ i. i.0 == word) items) in
        rw kept (ap (file_among foot h encoding) rows ∙ among_eight foot h encoding (rows_of word items))
  ]

  pub file_again : (h : List ℕ) (index : ℕ) → Bisects (λ i. nat_lt i.0 (first_word h)) (file_table foot encoding) index → found_file foot h index encoding ≡ file_in_shard s h
  file_again h index b = files_found h index b ∙ ap (λ (r : Result (Option MDBFileInfo) StoreError). fewer_than_eight (length (rows_of (first_word h) (file_items s.files))) >>= λ _. r) (first_again foot h encoding 0 s.files files_there)

  head_again : (row index : ℕ) → Bisects (λ i. nat_lt i.1 row) (xorb_table foot encoding) index → has_head foot row index encoding ≡ Ok (list_any (λ i. i.1 == row) (xorb_items s.blocks))
  head_again row index b = elim (cases_Bool (eqb foot.xorb_lookup_num_entry 0)) [
    | inl none ↦ sym (heads_of_all foot encoding row index (eqb-true _ _ none)) ∙ ap (λ (r : Result (List (ℕ × ℕ)) StoreError). r >>= λ items. Ok (list_any (λ i. i.1 == row) items)) (xorbs_again w s form fits)
    | inr some ↦
        let p = encoding_placed w s form fits in
        let ne : foot.xorb_lookup_num_entry ≢ 0 = eqb-false _ _ some in
        let there = xorb_table_again w s form fits ne in
        head_at_index foot encoding row index _ ne (omega (arith, p.chunk_lookup, p.footer, p.end))
        (ap (tells_row row index) there ∙ row_told row 0 index (xorb_items s.blocks) (xorb_rows_rise s.blocks) (subst (λ (is : List (ℕ × ℕ)). Bisects (λ i. nat_lt i.1 row) is index) there b))
  ]

  pub direct_run_again : (query : List (List ℕ)) (row place index : ℕ) → Bisects (λ i. nat_lt i.1 row) (xorb_table foot encoding) index → direct_run foot query row place index encoding ≡ Ok (elim query [ [] ↦ None | h ∷ hs ↦ shard_run_at s (h ∷ hs) row place ])
  unfolding direct_run
  direct_run_again [] row place index b = refl
  direct_run_again (h ∷ hs) row place index b =
      let read = direct_again foot (h ∷ hs) row place encoding 0 s.blocks blocks_there in
      rw (head_again row index b) (read ∙ ap (λ (key : List ℕ). Ok (elim (block_at row 0 s.blocks) [ None ↦ None | Some block ↦ run_at (map (kept_hash key) (h ∷ hs)) block place ])) key_again)

  chunk_again : (word index : ℕ) → Bisects (λ i. nat_le i.0 word) (chunk_table foot encoding) index → chunk_place foot word index encoding ≡ Ok (last_of word (chunk_items s.blocks))
  chunk_again word index b = elim (cases_Bool (eqb foot.chunk_lookup_num_entry 0)) [
    | inl none ↦ sym (chunks_of_all foot encoding word index (eqb-true _ _ none)) ∙ ap (λ (r : Result (List (ℕ × ℕ × ℕ)) StoreError). r >>= λ items. Ok (last_of word items)) (chunks_again w s form fits)
    | inr some ↦
        let p = encoding_placed w s form fits in
        let ne : foot.chunk_lookup_num_entry ≢ 0 = eqb-false _ _ some in
        let there = chunk_table_again w s form fits ne in
        place_at_index foot encoding word index _ ne (omega (arith, p.footer, p.end))
        (ap (place_before word index) there ∙ last_before word 0 index (chunk_items s.blocks) (chunk_words_rise s.blocks) (subst (λ (is : List (ℕ × ℕ × ℕ)). Bisects (λ i. nat_le i.0 word) is index) there b))
  ]

  pub run_again : (query : List (List ℕ)) (index : ℕ) → Bisects (λ i. nat_le i.0 (query_word foot query)) (chunk_table foot encoding) index → found_run foot query index encoding ≡ Ok (shard_run s query)
  unfolding found_run run_of_word shard_run
  run_again [] index b = refl
  run_again (h ∷ hs) index b =
      let placed = placed_in s.blocks 0 s.blocks (λ r le. refl) in
      let all = sorted_all (λ (i : ℕ × ℕ × ℕ). Stands foot encoding s.blocks (i.1)) place_cmp (chunks_from 0 s.blocks) (chunks_stand foot encoding s.blocks 0 s.blocks blocks_there placed) in
      rw (chunk_again (query_word foot (h ∷ hs)) index b) (place_again foot encoding s.blocks (h ∷ hs) s.key (first_word (kept_hash foot.chunk_hash_hmac_key h)) (chunk_items s.blocks) key_again all
      ∙ ap (λ (key : List ℕ). Ok (elim (last_of (first_word (kept_hash key h)) (chunk_items s.blocks)) [ None ↦ None | Some found ↦ shard_run_at s (h ∷ hs) found.0 found.1 ])) key_again)

  -- the run of a query in the row of a header
  pub run_in_again : (query : List (List ℕ)) (row place : ℕ) (block : MDBXorbInfo) → block_at row 0 s.blocks ≡ Some block → run_in foot query row place encoding ≡ Ok (run_at (map (kept_hash s.key) query) block place)
  unfolding block_at
  run_in_again query row place block is = read_at 0 s.blocks blocks_there is
    where
      read_at : (at : ℕ) (xs : List MDBXorbInfo) → Each xorb_rows (RunsAt foot encoding) at xs → block_at row at xs ≡ Some block → run_in foot query row place encoding ≡ Ok (run_at (map (kept_hash s.key) query) block place)
      read_at at [] there e = absurd cc
      read_at at (x ∷ xs) there e = elim (cases_Bool (eqb row at)) [
        | inl same ↦
            let here : x ≡ block = same_Some _ _ (subst (λ (b : Bool). cond b (Some x) (block_at row (at + length (xorb_rows x)) xs) ≡ Some block) same e) in
            let read : run_in foot query row place encoding ≡ Ok (run_at (map (kept_hash foot.chunk_hash_hmac_key) query) x place) = ap (λ (r : ℕ). run_in foot query r place encoding) (eqb-true row at same) ∙ there.0 query place in
            read ∙ ap (λ (b : MDBXorbInfo). Ok (run_at (map (kept_hash foot.chunk_hash_hmac_key) query) b place)) here ∙ ap (λ (key : List ℕ). Ok (run_at (map (kept_hash key) query) block place)) key_again
        | inr other ↦ read_at (at + length (xorb_rows x)) xs there.1 (subst (λ (b : Bool). cond b (Some x) (block_at row (at + length (xorb_rows x)) xs) ≡ Some block) other e)
      ]

-- ---- the items of the chunk lookup table

module _ (blocks : List MDBXorbInfo) where
  abbrev IsHead : ℕ → Type 0
  IsHead row = is_some (block_at row 0 blocks) ≡ true

  rows_are_heads : (at place : ℕ) (cs : List XorbChunkSequenceEntry) → IsHead at → AllByRecursion (λ i. IsHead (i.1)) (lookup_rows_from at place cs)
  unfolding lookup_rows_from
  rows_are_heads at place [] is = tt
  rows_are_heads at place (c ∷ cs) is = (is, rows_are_heads at (place + 1) cs is)

  chunks_are_in_heads : (at : ℕ) (xs : List MDBXorbInfo) → Each xorb_rows (λ r x. block_at r 0 blocks ≡ Some x) at xs → AllByRecursion (λ i. IsHead (i.1)) (chunks_from at xs)
  unfolding chunks_from
  chunks_are_in_heads at [] placed = tt
  chunks_are_in_heads at (x ∷ xs) placed =
      all_both (λ (i : ℕ × ℕ × ℕ). IsHead (i.1)) (lookup_rows_from at 0 x.chunks) (chunks_from (at + length (xorb_rows x)) xs) (rows_are_heads at 0 x.chunks (ap is_some placed.0))
      (chunks_are_in_heads (at + length (xorb_rows x)) xs placed.1)

  pub item_rows_are_heads : AllByRecursion (λ i. is_some (block_at (i.1) 0 blocks) ≡ true) (chunk_items blocks)
  item_rows_are_heads = sorted_all (λ (i : ℕ × ℕ × ℕ). IsHead (i.1)) place_cmp (chunks_from 0 blocks) (chunks_are_in_heads 0 blocks (placed_in blocks 0 blocks (λ r le. refl)))
