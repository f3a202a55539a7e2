-- Questions to a shard: the look-ups' items, and the records at their rows.
use Rattle.std.proofs.Common.{◌≡◌, ◌≢◌, ℕ, ◌+◌, ◌<◌, ◌≤◌, Bool, true, false, List, [], ◌∷◌, drop, length, nat_eq, Option, None, Some, Result, Ok, Err, get_or, slice_get, refl, sym, ap, subst, ◌∙◌, filter, map}
use Rattle.std.specs.Cmp.Lexicographic.{pointwise}
use Rattle.std.specs.Prelude.{◌==◌, if◌then◌else◌}
use Rattle.std.proofs.lemmas.Bool.{eq-eqb, le-ltb, lt-ltb, ne_eqb}
use Rattle.std.proofs.lemmas.Option.{same_Some}
use Rattle.std.proofs.lemmas.List.{drop_all, drop_more, length-map}
use Rattle.xet_hash.specs.declared.error.StoreError.{StoreError}
use Rattle.xet_hash.specs.declared.error.StoreError.TheVariants as errors
use Rattle.xet_shard_format.specs.declared.header_footer.MDBShardFileFooter.{MDBShardFileFooter}
use Rattle.xet_shard_format.specs.declared.record.FileDataSequenceEntry.{FileDataSequenceEntry}
use Rattle.xet_shard_format.specs.declared.record.MDBFileInfo.{MDBFileInfo}
use Rattle.xet_shard_format.specs.Lookups.{flat_places}
use Rattle.xet_shard.specs.Queries.{file_in, first_file, found_file, found_run, kept_hash, rows_of, run_in, run_of_word, direct_run, chunk_place, file_items_from, has_head, query_word, last_of}
use Rattle.xet_codec.specs.Parsing.{◌>>=◌, GivesUnlessFault}
use Rattle.xet_shard_format.specs.Records.{file_record_hash, first_word}
use Rattle.xet_shard.proofs.Faulting.{fault_on}

abbrev Run : Type 0
Run = Option (ℕ × FileDataSequenceEntry)

-- ---- files

abbrev Found : Type 0
Found = Result (Option MDBFileInfo) StoreError

module _ (f : MDBShardFileFooter) (h : List ℕ) (word : ℕ) (bytes : List ℕ) where
  -- what is found at the row of one item, where it has the word
  abbrev at_row : ℕ → Found
  at_row row = file_in f row bytes >>= λ x. if pointwise nat_eq h (file_record_hash x) then Ok (Some x) else Ok None

  abbrev by_items : List (ℕ × ℕ) → Found
  by_items items = first_file f h (rows_of word items) bytes

  abbrev or_else : Found → Option MDBFileInfo → Found
  or_else others None = others
  or_else others (Some x) = Ok (Some x)

  pub other_word : (i : ℕ × ℕ) → i.0 ≢ word → by_items (i ∷ []) ≡ Ok None
  unfolding first_file
  other_word i ne = rw (ne_eqb i.0 word ne) refl

  same_word : (i : ℕ × ℕ) → i.0 ≡ word → by_items (i ∷ []) ≡ at_row i.1
  unfolding first_file
  same_word i is = rw (eq-eqb i.0 word is) refl

  pub file_fails : (i : ℕ × ℕ) (e : StoreError) → i.0 ≡ word → GivesUnlessFault {X = MDBFileInfo} (λ x. x) (Err e) (file_in f i.1 bytes) → GivesUnlessFault {X = Option MDBFileInfo} (λ x. x) (Err e) (by_items (i ∷ []))
  file_fails i e is gives =
      subst (λ (r : Found). GivesUnlessFault {X = Option MDBFileInfo} (λ x. x) (Err e) r) (sym (same_word i is)) (fault_on {A = MDBFileInfo} (λ x. x) (λ x. x) e (file_in f i.1 bytes) (λ x. if pointwise nat_eq h (file_record_hash x) then Ok (Some x) else Ok None) gives)

  pub file_found : (i : ℕ × ℕ) (x : MDBFileInfo) (k : List ℕ) → i.0 ≡ word → file_in f i.1 bytes ≡ Ok x → k ≡ file_record_hash x → pointwise nat_eq h k ≡ true → by_items (i ∷ []) ≡ Ok (Some x)
  file_found i x k is e hash same = same_word i is ∙ rw e (ap (λ (b : Bool). if b then Ok (Some x) else Ok None) (ap (pointwise nat_eq h) (sym hash) ∙ same))

  pub file_other : (i : ℕ × ℕ) (x : MDBFileInfo) (k : List ℕ) → i.0 ≡ word → file_in f i.1 bytes ≡ Ok x → k ≡ file_record_hash x → pointwise nat_eq h k ≡ false → by_items (i ∷ []) ≡ Ok None
  file_other i x k is e hash other = same_word i is ∙ rw e (ap (λ (b : Bool). if b then Ok (Some x) else Ok None) (ap (pointwise nat_eq h) (sym hash) ∙ other))

  first_next : (i : ℕ × ℕ) (is : List (ℕ × ℕ)) → by_items (i ∷ is) ≡ (by_items (i ∷ []) >>= or_else (by_items is))
  unfolding first_file
  first_next i is = by (i.0 == word) (file_in f i.1 bytes)
    where
      checked : (x : MDBFileInfo) (b : Bool) → (if b then Ok (Some x) else by_items is) ≡ ((if b then Ok (Some x) else Ok None) >>= or_else (by_items is))
      checked x true = refl
      checked x false = refl

      read : (r : Result MDBFileInfo StoreError) → (r >>= λ x. if pointwise nat_eq h (file_record_hash x) then Ok (Some x) else by_items is) ≡ ((r >>= λ x. if pointwise nat_eq h (file_record_hash x) then Ok (Some x) else Ok None) >>= or_else (by_items is))
      read (Ok x) = checked x (pointwise nat_eq h (file_record_hash x))
      read (Err e) = refl

      by : (b : Bool) (r : Result MDBFileInfo StoreError) → first_file f h (map (λ j. j.1) (if b then i ∷ filter (λ j. j.0 == word) is else filter (λ j. j.0 == word) is)) bytes ≡ (first_file f h (map (λ j. j.1) (if b then i ∷ [] else [])) bytes >>= or_else (by_items is))
      by true r = read (file_in f i.1 bytes)
      by false r = refl

  -- one item more of the look-up
  pub item_none : (items : List (ℕ × ℕ)) (n : ℕ) (d : ℕ × ℕ) (total : Found) → n < length items → by_items (get_or items n d ∷ []) ≡ Ok None → by_items (drop n items) ≡ total → by_items (drop (n + 1) items) ≡ total
  item_none items n d total lt none so_far = sym (ap (λ (r : Found). r >>= or_else (by_items (drop (n + 1) items))) none) ∙ sym (first_next (get_or items n d) (drop (n + 1) items)) ∙ sym (ap by_items (drop_more items n d lt)) ∙ so_far

  pub item_some : (items : List (ℕ × ℕ)) (n : ℕ) (d : ℕ × ℕ) (x : MDBFileInfo) (total : Found) → n < length items → by_items (get_or items n d ∷ []) ≡ Ok (Some x) → by_items (drop n items) ≡ total → total ≡ Ok (Some x)
  item_some items n d x total lt some so_far = sym so_far ∙ ap by_items (drop_more items n d lt) ∙ first_next (get_or items n d) (drop (n + 1) items) ∙ ap (λ (r : Found). r >>= or_else (by_items (drop (n + 1) items))) some

  pub item_fails : (items : List (ℕ × ℕ)) (n : ℕ) (d : ℕ × ℕ) (e : StoreError) (total : Found) → n < length items → GivesUnlessFault {X = Option MDBFileInfo} (λ x. x) (Err e) (by_items (get_or items n d ∷ [])) → by_items (drop n items) ≡ total
      → GivesUnlessFault {X = Option MDBFileInfo} (λ x. x) (Err e) total
  item_fails items n d e total lt gives so_far =
      subst (λ (r : Found). GivesUnlessFault {X = Option MDBFileInfo} (λ x. x) (Err e) r) (sym (first_next (get_or items n d) (drop (n + 1) items)) ∙ sym (ap by_items (drop_more items n d lt)) ∙ so_far)
      (fault_on {A = Option MDBFileInfo} (λ x. x) (λ x. x) e (by_items (get_or items n d ∷ [])) (or_else (by_items (drop (n + 1) items))) gives)

  pub items_done : (items : List (ℕ × ℕ)) (n : ℕ) (total : Found) → length items ≤ n → by_items (drop n items) ≡ total → total ≡ Ok None
  unfolding first_file
  items_done items n total le so_far = sym so_far ∙ ap by_items (drop_all n items le)

-- ---- the last item of a word

abbrev pub or_found : Option (ℕ × ℕ) → Option (ℕ × ℕ) → Option (ℕ × ℕ)
or_found found later = elim later [ Some place ↦ Some place | None ↦ found ]

-- the rest, by its first item
last_next : (word : ℕ) (found : Option (ℕ × ℕ)) (i : ℕ × (ℕ × ℕ)) (is : List (ℕ × (ℕ × ℕ))) → or_found found (last_of word (flat_places (i ∷ is))) ≡ or_found (if i.0 == word then Some i.1 else found) (last_of word (flat_places is))
unfolding last_of
last_next word found i is = by (last_of word (flat_places is)) (i.0 == word)
  where
    by : (later : Option (ℕ × ℕ)) (b : Bool) → or_found found (elim later [ Some place ↦ Some place | None ↦ if b then Some (i.1.0, i.1.1) else None ]) ≡ or_found (if b then Some i.1 else found) later
    by (Some place) b = refl
    by None true = refl
    by None false = refl

pub last_same : (word : ℕ) (found : Option (ℕ × ℕ)) (items : List (ℕ × (ℕ × ℕ))) (n : ℕ) (d : ℕ × (ℕ × ℕ)) (total : Option (ℕ × ℕ)) → n < length items → (get_or items n d).0 ≡ word
    → or_found found (last_of word (flat_places (drop n items))) ≡ total → or_found (Some (get_or items n d).1) (last_of word (flat_places (drop (n + 1) items))) ≡ total
last_same word found items n d total lt same so_far =
    sym (ap (λ (b : Bool). or_found (if b then Some (get_or items n d).1 else found) (last_of word (flat_places (drop (n + 1) items)))) (eq-eqb (get_or items n d).0 word same)) ∙ sym (last_next word found (get_or items n d) (drop (n + 1) items))
    ∙ sym (ap (λ (is : List (ℕ × (ℕ × ℕ))). or_found found (last_of word (flat_places is))) (drop_more items n d lt)) ∙ so_far

pub last_other : (word : ℕ) (found : Option (ℕ × ℕ)) (items : List (ℕ × (ℕ × ℕ))) (n : ℕ) (d : ℕ × (ℕ × ℕ)) (total : Option (ℕ × ℕ)) → n < length items → (get_or items n d).0 ≢ word
    → or_found found (last_of word (flat_places (drop n items))) ≡ total → or_found found (last_of word (flat_places (drop (n + 1) items))) ≡ total
last_other word found items n d total lt other so_far =
    sym (ap (λ (b : Bool). or_found (if b then Some (get_or items n d).1 else found) (last_of word (flat_places (drop (n + 1) items)))) (ne_eqb (get_or items n d).0 word other)) ∙ sym (last_next word found (get_or items n d) (drop (n + 1) items))
    ∙ sym (ap (λ (is : List (ℕ × (ℕ × ℕ))). or_found found (last_of word (flat_places is))) (drop_more items n d lt)) ∙ so_far

pub last_begins : (word : ℕ) (items : List (ℕ × (ℕ × ℕ))) → or_found None (last_of word (flat_places items)) ≡ last_of word (flat_places items)
last_begins word items = by (last_of word (flat_places items))
  where
    by : (r : Option (ℕ × ℕ)) → or_found None r ≡ r
    by None = refl
    by (Some x) = refl

pub last_done : (word : ℕ) (found : Option (ℕ × ℕ)) (items : List (ℕ × (ℕ × ℕ))) (n : ℕ) (total : Option (ℕ × ℕ)) → length items ≤ n → or_found found (last_of word (flat_places (drop n items))) ≡ total → found ≡ total
unfolding last_of
last_done word found items n total le so_far = sym (ap (λ (is : List (ℕ × (ℕ × ℕ))). or_found found (last_of word (flat_places is))) (drop_all n items le)) ∙ so_far

-- ---- questions

-- the files of the items that were read
pub found_by : (f : MDBShardFileFooter) (h bytes : List ℕ) (index : ℕ) (items : List (ℕ × ℕ)) (result : Found) → file_items_from f index bytes ≡ Ok items → length (rows_of (first_word h) items) < 8
    → GivesUnlessFault {X = Option MDBFileInfo} (λ x. x) result (first_file f h (rows_of (first_word h) items) bytes) → GivesUnlessFault {X = Option MDBFileInfo} (λ x. x) result (found_file f h index bytes)
unfolding found_file
found_by f h bytes index items result e few gives =
    subst (λ (r : Found). GivesUnlessFault {X = Option MDBFileInfo} (λ x. x) result r) (sym (rw (e, lt-ltb (length (rows_of (first_word h) items)) 8 few) refl)) gives

-- the items of a word, and their rows
pub rows_count : (h : List ℕ) (items now : List (ℕ × ℕ)) (word n : ℕ) → now ≡ items → word ≡ first_word h → n ≡ length (filter (λ i. i.0 == word) now) → n ≡ length (rows_of (first_word h) items)
rows_count h items now word n same w e = e ∙ (λ j. length (filter (λ i. i.0 == w j) (same j))) ∙ sym (length-map (filter (λ i. i.0 == first_word h) items) (λ (i : ℕ × ℕ). i.1))

pub found_many : (f : MDBShardFileFooter) (h bytes : List ℕ) (index : ℕ) (items : List (ℕ × ℕ)) → file_items_from f index bytes ≡ Ok items → 8 ≤ length (rows_of (first_word h) items) → found_file f h index bytes ≡ Err errors.TruncatedHashCollision
unfolding found_file
found_many f h bytes index items e many = rw (e, le-ltb (length (rows_of (first_word h) items)) 8 many) refl

pub found_fails : {A : Type 0} (view : A → List (ℕ × ℕ)) (f : MDBShardFileFooter) (h bytes : List ℕ) (index : ℕ) (e : StoreError) → GivesUnlessFault view (Err e) (file_items_from f index bytes) → GivesUnlessFault {X = Option MDBFileInfo} (λ x. x) (Err e) (found_file f h index bytes)
unfolding found_file
found_fails view f h bytes index e gives = fault_on view (λ x. x) e (file_items_from f index bytes) _ gives

-- the run at a place that was looked up
abbrev at_place : MDBShardFileFooter → List (List ℕ) → List ℕ → Option (ℕ × ℕ) → Result Run StoreError
at_place f query bytes place = elim place [ None ↦ Ok None | Some found ↦ run_in f query found.0 found.1 bytes ]

pub run_by : (f : MDBShardFileFooter) (query : List (List ℕ)) (word index : ℕ) (bytes : List ℕ) (place : Option (ℕ × ℕ)) → chunk_place f word index bytes ≡ Ok place → at_place f query bytes place ≡ run_of_word f query word index bytes
unfolding run_of_word
run_by f query word index bytes place e = sym (rw e refl)

pub run_by_fails : {A : Type 0} (view : A → Option (ℕ × ℕ)) (f : MDBShardFileFooter) (query : List (List ℕ)) (word index : ℕ) (bytes : List ℕ) (e : StoreError) → GivesUnlessFault view (Err e) (chunk_place f word index bytes) → GivesUnlessFault {X = Run} (λ x. x) (Err e) (run_of_word f query word index bytes)
unfolding run_of_word
run_by_fails view f query word index bytes e gives = fault_on view (λ x. x) e (chunk_place f word index bytes) _ gives

pub run_none_first : (f : MDBShardFileFooter) (query : List (List ℕ)) (index : ℕ) (bytes : List ℕ) → None ≡ slice_get query 0 → found_run f query index bytes ≡ Ok None
unfolding found_run
run_none_first f [] index bytes e = refl
run_none_first f (h ∷ hs) index bytes e = absurd cc

pub first_is : (f : MDBShardFileFooter) (query : List (List ℕ)) (h : List ℕ) (k : List ℕ) (word : ℕ) → Some h ≡ slice_get query 0 → k ≡ kept_hash f.chunk_hash_hmac_key h → word ≡ first_word k → word ≡ query_word f query
first_is f [] h k word e is w = absurd cc
first_is f (q ∷ qs) h k word e is w = w ∙ ap first_word (is ∙ ap (kept_hash f.chunk_hash_hmac_key) (same_Some _ _ e))

pub run_first : (f : MDBShardFileFooter) (query : List (List ℕ)) (h : List ℕ) (index : ℕ) (bytes : List ℕ) → Some h ≡ slice_get query 0 → run_of_word f query (query_word f query) index bytes ≡ found_run f query index bytes
unfolding found_run
run_first f [] h index bytes e = absurd cc
run_first f (q ∷ qs) h index bytes e = refl

pub direct_run_empty : (f : MDBShardFileFooter) (query : List (List ℕ)) (row place index : ℕ) (bytes : List ℕ) → length query ≡ 0 → direct_run f query row place index bytes ≡ Ok None
unfolding direct_run
direct_run_empty f [] row place index bytes e = refl
direct_run_empty f (h ∷ hs) row place index bytes e = absurd cc

-- the run at a row that is told, by what the table said of the row
pub direct_run_found : (f : MDBShardFileFooter) (query : List (List ℕ)) (row place index : ℕ) (bytes : List ℕ) (there : Bool) → length query ≢ 0 → has_head f row index bytes ≡ Ok there
    → (if there then run_in f query row place bytes else Ok None) ≡ direct_run f query row place index bytes
unfolding direct_run
direct_run_found f [] row place index bytes there some e = absurd (some refl)
direct_run_found f (h ∷ hs) row place index bytes there some e = sym (rw e refl)

pub direct_run_fails : {A : Type 0} (view : A → Bool) (f : MDBShardFileFooter) (query : List (List ℕ)) (row place index : ℕ) (bytes : List ℕ) (e : StoreError) → length query ≢ 0 → GivesUnlessFault view (Err e) (has_head f row index bytes) → GivesUnlessFault {X = Run} (λ x. x) (Err e) (direct_run f query row place index bytes)
unfolding direct_run
direct_run_fails view f [] row place index bytes e some gives = absurd (some refl)
direct_run_fails view f (h ∷ hs) row place index bytes e some gives = fault_on view (λ x. x) e (has_head f row index bytes) _ gives
