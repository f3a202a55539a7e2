-- The results of queries to the bytes of a shard: the file of a hash, and the run of a query.
-- A query bisects a lookup table, and reads the records in the rows that a few of its items give. An omitted
-- table is made from all records, and then the index has no influence.
use Rattle.std.specs.Prelude.{ℕ, ◌+◌, ◌-◌, ◌*◌, ◌^◌, ◌==◌, nat_eq, nat_le, nat_lt, Bool, false, List, [], ◌∷◌, drop, filter, length, map, take, Option, Some, None, Result, Ok, Err, if◌then◌else◌}
use Rattle.std.specs.Cmp.Lexicographic.{pointwise}
use Rattle.std.specs.List.{list_any, slice_get}
use Rattle.xet_hash.specs.Blake3.{keyed_digest}
use Rattle.xet_hash.specs.Hash.{zero_hash}
use Rattle.xet_hash.specs.declared.error.Reason.TheVariants.{SectionPlace}
use Rattle.xet_hash.specs.declared.error.StoreError.{StoreError}
use Rattle.xet_hash.specs.declared.error.StoreError.TheVariants.{TruncatedHashCollision}
use Rattle.xet_shard_format.specs.declared.header_footer.MDBShardFileFooter.{MDBShardFileFooter}
use Rattle.xet_shard_format.specs.declared.record.FileDataSequenceEntry.{FileDataSequenceEntry}
use Rattle.xet_shard_format.specs.declared.record.MDBFileInfo.{MDBFileInfo}
use Rattle.xet_shard_format.specs.declared.record.MDBXorbInfo.{MDBXorbInfo}
use Rattle.xet_shard_format.specs.declared.row.Row.{Row}
use Rattle.xet_shard_format.specs.Lookups.{chunk_items, file_items, xorb_items}
use Rattle.xet_codec.specs.Parsing.{◌>>=◌, reaches, wants}
use Rattle.xet_shard_format.specs.Reading.{IsShardError, file_record_at, row_at}
use Rattle.xet_shard_format.specs.Records.{file_record_hash, first_word, xorb_rows}
use Rattle.xet_shard.specs.Held.{record_of}
use Rattle.xet_shard_format.specs.Rows.{rows_in}
use Rattle.xet_shard.specs.Runs.{run_after, run_at}
use Rattle.xet_shard.specs.Sections.{files_in, heads_in, row_count, blocks_in, places_in}
use Rattle.xet_shard.specs.Bisection.{in_table, item_before}
use Rattle.xet_shard_format.specs.Encoding.{Shard}

-- the number of rows from row `row` on, in the section of `count` rows at offset `at`
unfoldable pub rows_from : ℕ → ℕ → ℕ → List ℕ → Result ℕ StoreError
rows_from at count row bytes = do
  _ ← wants (nat_lt count (2 ^ 32)) SectionPlace
  _ ← wants (nat_lt row count) SectionPlace
  _ ← reaches (nat_le (at + 48 * count) (length bytes))
  Ok (count - row)

-- what is read of the header in a row of that section, and of the rows after it
unfoldable pub read_in_row : {X : Type 0} → (Row → List Row → Result X StoreError) → ℕ → ℕ → ℕ → List ℕ → Result X StoreError
read_in_row read at count row bytes = do
  n ← rows_from at count row bytes
  r ← row_at (rows_in n (drop (at + 48 * row) bytes))
  read r.0 r.1

-- the file with this header, from the first rows after it
abbrev pub file_after : Row → List Row → Result MDBFileInfo StoreError
file_after head rows = file_record_at head rows >>= λ x. Ok x.0

abbrev pub file_in : MDBShardFileFooter → ℕ → List ℕ → Result MDBFileInfo StoreError
file_in f row bytes = row_count f.file_info_offset f.xorb_info_offset >>= λ count. read_in_row file_after f.file_info_offset count row bytes

-- ---- stored lookup tables

abbrev pub file_table : MDBShardFileFooter → List ℕ → List (ℕ × ℕ)
file_table f bytes = heads_in f.file_lookup_num_entry (drop f.file_lookup_offset bytes)

abbrev pub xorb_table : MDBShardFileFooter → List ℕ → List (ℕ × ℕ)
xorb_table f bytes = heads_in f.xorb_lookup_num_entry (drop f.xorb_lookup_offset bytes)

abbrev pub chunk_table : MDBShardFileFooter → List ℕ → List (ℕ × ℕ × ℕ)
chunk_table f bytes = places_in f.chunk_lookup_num_entry (drop f.chunk_lookup_offset bytes)

-- ---- files

-- the items of the file lookup table that are read: at most eight from an index on, or all of an omitted
-- table
unfoldable pub file_items_from : MDBShardFileFooter → ℕ → List ℕ → Result (List (ℕ × ℕ)) StoreError
file_items_from f index bytes =
    if f.file_lookup_num_entry == 0 then (files_in f bytes >>= λ files. Ok (file_items files))
    else in_table f.file_lookup_offset (12 * f.file_lookup_num_entry) bytes (take 8 (drop index (file_table f bytes)))

-- the rows of the items with a word
abbrev pub rows_of : ℕ → List (ℕ × ℕ) → List ℕ
rows_of word items = map (λ i. i.1) (filter (λ i. i.0 == word) items)

-- the first file in these rows that has the hash
unfoldable pub first_file : MDBShardFileFooter → List ℕ → List ℕ → List ℕ → Result (Option MDBFileInfo) StoreError
first_file f h [] bytes = Ok None
first_file f h (row ∷ rows) bytes = do
  x ← file_in f row bytes
  if pointwise nat_eq h (file_record_hash x) then Ok (Some x) else first_file f h rows bytes

-- If eight or more files share the first word of a hash, the query fails.
abbrev pub fewer_than_eight : ℕ → Result (Unit {0}) StoreError
fewer_than_eight count = if nat_lt count 8 then Ok tt else Err TruncatedHashCollision

-- The file with a hash, if there is one. `index` bisects the table by the first word of the hash.
unfoldable pub found_file : MDBShardFileFooter → List ℕ → ℕ → List ℕ → Result (Option MDBFileInfo) StoreError
found_file f h index bytes = do
  items ← file_items_from f index bytes
  _ ← fewer_than_eight (length (rows_of (first_word h) items))
  first_file f h (rows_of (first_word h) items) bytes

-- ---- runs

-- a chunk hash as a shard stores it: keyed, if the shard has a key
unfoldable pub kept_hash : List ℕ → List ℕ → List ℕ
kept_hash key h = if pointwise nat_eq key zero_hash then h else keyed_digest key h

-- the run of a query at index `place` of the xorb whose header is in row `row`
abbrev pub run_in : MDBShardFileFooter → List (List ℕ) → ℕ → ℕ → List ℕ → Result (Option (ℕ × FileDataSequenceEntry)) StoreError
run_in f query row place bytes =
    row_count f.xorb_info_offset f.file_lookup_offset >>= λ count. read_in_row (run_after (map (kept_hash f.chunk_hash_hmac_key) query) place) f.xorb_info_offset count row bytes

-- the row and the index of the last item with a word
unfoldable pub last_of : ℕ → List (ℕ × ℕ × ℕ) → Option (ℕ × ℕ)
last_of word [] = None
last_of word (i ∷ is) = elim (last_of word is) [ Some found ↦ Some found | None ↦ if i.0 == word then Some (i.1, i.2) else None ]

-- the row and the index of the item before `index`, if it has the word
abbrev pub place_before : ℕ → ℕ → List (ℕ × ℕ × ℕ) → Option (ℕ × ℕ)
place_before word index items = elim (item_before index items) [ None ↦ None | Some i ↦ if i.0 == word then Some (i.1, i.2) else None ]

-- the row and the index of the last chunk with a first word
unfoldable pub chunk_place : MDBShardFileFooter → ℕ → ℕ → List ℕ → Result (Option (ℕ × ℕ)) StoreError
chunk_place f word index bytes =
    if f.chunk_lookup_num_entry == 0 then (blocks_in f bytes >>= λ blocks. Ok (last_of word (chunk_items blocks)))
    else in_table f.chunk_lookup_offset (16 * f.chunk_lookup_num_entry) bytes (place_before word index (chunk_table f bytes))

-- the run of a query at the last chunk with a first word
unfoldable pub run_of_word : MDBShardFileFooter → List (List ℕ) → ℕ → ℕ → List ℕ → Result (Option (ℕ × FileDataSequenceEntry)) StoreError
run_of_word f query word index bytes = do
  place ← chunk_place f word index bytes
  elim place [ None ↦ Ok None | Some found ↦ run_in f query found.0 found.1 bytes ]

-- the first word of the first hash of a query, as the shard stores it
abbrev pub query_word : MDBShardFileFooter → List (List ℕ) → ℕ
query_word f [] = 0
query_word f (h ∷ hs) = first_word (kept_hash f.chunk_hash_hmac_key h)

-- The run of a query at the last chunk with the first word of its first hash; none if there is no such chunk.
-- `index` bisects the table by that word.
unfoldable pub found_run : MDBShardFileFooter → List (List ℕ) → ℕ → List ℕ → Result (Option (ℕ × FileDataSequenceEntry)) StoreError
found_run f [] index bytes = Ok None
found_run f (h ∷ hs) index bytes = run_of_word f (h ∷ hs) (query_word f (h ∷ hs)) index bytes

-- whether the item at an index has a row
abbrev pub tells_row : ℕ → ℕ → List (ℕ × ℕ) → Bool
tells_row row index items = elim (slice_get items index) [ None ↦ false | Some i ↦ i.1 == row ]

-- whether the header of a xorb is in a row
unfoldable pub has_head : MDBShardFileFooter → ℕ → ℕ → List ℕ → Result Bool StoreError
has_head f row index bytes =
    if f.xorb_lookup_num_entry == 0 then (blocks_in f bytes >>= λ blocks. Ok (list_any (λ i. i.1 == row) (xorb_items blocks)))
    else in_table f.xorb_lookup_offset (12 * f.xorb_lookup_num_entry) bytes (tells_row row index (xorb_table f bytes))

-- The run of a query at a given row and index in the xorb; none if no xorb's header is in the row. `index`
-- bisects the table by the row.
unfoldable pub direct_run : MDBShardFileFooter → List (List ℕ) → ℕ → ℕ → ℕ → List ℕ → Result (Option (ℕ × FileDataSequenceEntry)) StoreError
direct_run f [] row place index bytes = Ok None
direct_run f (h ∷ hs) row place index bytes = do
  there ← has_head f row index bytes
  if there then run_in f (h ∷ hs) row place bytes else Ok None

-- the errors of looking up a file
abbrev pub IsFileError : StoreError → Type 0
IsFileError TruncatedHashCollision = Unit {0}
IsFileError e = IsShardError e

-- ---- the same queries to a shard

abbrev pub file_in_shard : Shard → List ℕ → Result (Option MDBFileInfo) StoreError
file_in_shard s h = fewer_than_eight (length (rows_of (first_word h) (file_items s.files))) >>= λ _. Ok (record_of file_record_hash h s.files)

-- the xorb whose header is in a row
unfoldable pub block_at : ℕ → ℕ → List MDBXorbInfo → Option MDBXorbInfo
block_at row at [] = None
block_at row at (x ∷ xs) = if row == at then Some x else block_at row (at + length (xorb_rows x)) xs

abbrev pub shard_run_at : Shard → List (List ℕ) → ℕ → ℕ → Option (ℕ × FileDataSequenceEntry)
shard_run_at s query row place = elim (block_at row 0 s.blocks) [ None ↦ None | Some block ↦ run_at (map (kept_hash s.key) query) block place ]

unfoldable pub shard_run : Shard → List (List ℕ) → Option (ℕ × FileDataSequenceEntry)
shard_run s [] = None
shard_run s (h ∷ hs) = elim (last_of (first_word (kept_hash s.key h)) (chunk_items s.blocks)) [ None ↦ None | Some found ↦ shard_run_at s (h ∷ hs) found.0 found.1 ]
