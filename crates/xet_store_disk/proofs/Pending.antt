-- Records that are pending: their form, and the room that they take in a shard.
use Rattle.std.proofs.Common.{◌≡◌, ◌⊎◌, inl, inr, ◌∙◌, ℕ, ◌+◌, ◌*◌, ◌<◌, ◌≤◌, ◌^◌, Bool, true, false, cond, not, nat_eq, filter, List, [], ◌∷◌, ◌++◌, length, map, drop, Option, Some, None, option_map, is_some, refl, sym, ap, subst, arith}
use Rattle.std.proofs.lemmas.List.{length-append, length-map, nil_from_length}
use Rattle.std.proofs.lemmas.List.Concat.{length-flat_map}
use Rattle.std.proofs.lemmas.List.Sums.{sum_by-append, sum_by-cons}
use Rattle.std.specs.Cmp.Lexicographic.{pointwise}
use Rattle.std.specs.List.{AllByRecursion, flat_map, sum_by}
use Rattle.xet_hash.specs.Merkle.{file_hash, total_len}
use Rattle.xet_shard_format.specs.declared.record.FileDataSequenceEntry.{FileDataSequenceEntry as Segment}
use Rattle.xet_shard_format.specs.declared.record.FileMetadataExt.{FileMetadataExt}
use Rattle.xet_shard_format.specs.declared.record.MDBFileInfo.{MDBFileInfo}
use Rattle.xet_shard_format.specs.declared.record.MDBXorbInfo.{MDBXorbInfo}
use Rattle.xet_shard_format.specs.declared.record.XorbChunkSequenceEntry.{XorbChunkSequenceEntry}
use Rattle.xet_shard_format.specs.declared.row.Row.{Row}
use Rattle.xet_shard.specs.Held.{Held, held_size, with_last}
use Rattle.xet_shard_format.specs.RecordSizes.{file_record_size, xorb_record_size}
use Rattle.xet_shard_format.specs.Records.{IsFile, IsXorb, StartAt, chunk_bytes, chunk_row, end_row, ext_rows, file_record_hash, file_rows, file_section, flags_of, section, segment_row, verification_row, xorb_record_hash, xorb_rows, xorb_section}
use Rattle.xet_folder.specs.Admission.{entry_leaf}
use Rattle.xet_dedup.specs.Records.{IsRecordOf, entries_from, range_hashes, run_len, xorb_record}
use Rattle.xet_store_disk.specs.Store.{HasRanges, IsBareRecordOf}

-- ---- the record of a xorb

pub entries_leaves : (at : ℕ) (ms : List (List ℕ × ℕ)) → map entry_leaf (entries_from at ms) ≡ ms
entries_leaves at [] = refl
entries_leaves at (m ∷ ms) = ap (λ (l : List (List ℕ × ℕ)). m ∷ l) (entries_leaves (at + m.1) ms)

pub entries_count : (at : ℕ) (ms : List (List ℕ × ℕ)) → length (entries_from at ms) ≡ length ms
entries_count at [] = refl
entries_count at (m ∷ ms) = omega (arith, entries_count (at + m.1) ms)

entries_start : (at : ℕ) (ms : List (List ℕ × ℕ)) → StartAt at (entries_from at ms)
entries_start at [] = tt
entries_start at (m ∷ ms) = (refl, entries_start (at + m.1) ms)

entries_bytes : (at : ℕ) (ms : List (List ℕ × ℕ)) → total_len ms ≡ chunk_bytes (entries_from at ms)
entries_bytes at [] = refl
entries_bytes at (m ∷ ms) =
    let entry : XorbChunkSequenceEntry = record { chunk_hash = m.0; chunk_byte_range_start = at; unpacked_segment_bytes = m.1 } in
    sum_by-cons (λ (n : List ℕ × ℕ). n.1) m ms ∙ ap (λ (n : ℕ). m.1 + n) (entries_bytes (at + m.1) ms) ∙ sym (sum_by-cons (λ (c : XorbChunkSequenceEntry). c.unpacked_segment_bytes) entry (entries_from (at + m.1) ms))

pub xorb_form : (h : List ℕ) (ms : List (List ℕ × ℕ)) → IsXorb (xorb_record h ms)
xorb_form h ms = record { counted = sym (entries_count 0 ms); plain = refl; starts = entries_start 0 ms; total = entries_bytes 0 ms; on_disk = refl }

-- ---- the record of a file

pub ranges_count : (plan : List Segment) (ms : List (List ℕ × ℕ)) → length (range_hashes plan ms) ≡ length plan
ranges_count [] ms = refl
ranges_count (s ∷ ss) ms = omega (arith, ranges_count ss (drop (run_len s) ms))

some_mapped : {X Y : Type 0} (f : X → Y) (o : Option X) → is_some o ≡ is_some (option_map f o)
some_mapped f None = refl
some_mapped f (Some x) = refl

pub file_form : (ms : List (List ℕ × ℕ)) (f : MDBFileInfo) → IsRecordOf ms f → AllByRecursion (λ s. s.xorb_flags ≡ 0) f.segments → IsFile f
file_form ms f form plain = record {
  counted = ap (λ (g : MDBFileInfo). g.metadata.num_entries) form.is;
  plain = plain;
  verified = true;
  verifications = ap (λ (g : MDBFileInfo). length g.verification) form.is ∙ ranges_count f.segments ms;
  flags = ap (λ (g : MDBFileInfo). g.metadata.file_flags) form.is ∙ ap (λ (b : Bool). flags_of true b) (some_mapped _ form.sha256 ∙ sym (ap (λ (g : MDBFileInfo). is_some g.metadata_ext) form.is));
}

-- The SHA-256 of a record's metadata row gives the row.
ext_of_sha256 : (o : Option FileMetadataExt) → o ≡ option_map (λ digest. record { sha256 = digest }) (option_map (λ m. m.sha256) o)
ext_of_sha256 None = refl
ext_of_sha256 (Some m) = refl

-- A well-formed record of these chunks that has the range hashes of its plan, or no verification rows, is exactly one of the
-- two records of these chunks.
pub record_form : (ms : List (List ℕ × ℕ)) (f : MDBFileInfo) → IsFile f → file_hash ms ≡ file_record_hash f → HasRanges f ms → IsRecordOf ms f ⊎ IsBareRecordOf ms f
record_form ms f form hash ranges = go form.verified form.verifications form.flags
  where
    sha256 : Option (List ℕ)
    sha256 = option_map (λ m. m.sha256) f.metadata_ext

    ext : f.metadata_ext ≡ option_map (λ digest. record { sha256 = digest }) sha256
    ext = ext_of_sha256 f.metadata_ext

    flags : (b : Bool) → f.metadata.file_flags ≡ flags_of b (is_some f.metadata_ext) → f.metadata.file_flags ≡ flags_of b (is_some sha256)
    flags b e = e ∙ ap (flags_of b) (some_mapped (λ m. m.sha256) f.metadata_ext)

    with_ranges : length f.verification ≡ length f.segments → HasRanges f ms → f.verification ≡ range_hashes f.segments ms
    with_ranges counted (inl none) =
        let empty : f.segments ≡ [] = nil_from_length f.segments (sym counted ∙ ap length none) in
        none ∙ sym (ap (λ (plan : List Segment). range_hashes plan ms) empty)
    with_ranges counted (inr is) = is

    go : (b : Bool) → length f.verification ≡ cond b (length f.segments) 0 → f.metadata.file_flags ≡ flags_of b (is_some f.metadata_ext) → IsRecordOf ms f ⊎ IsBareRecordOf ms f
    go true counted has =
        let rows : f.verification ≡ range_hashes f.segments ms = with_ranges counted ranges in
        inl (record {
          sha256 = sha256;
          is = λ i. record { metadata = record { file_hash = sym hash i; file_flags = flags true has i; num_entries = form.counted i }; segments = f.segments; verification = rows i; metadata_ext = ext i };
        })
    go false counted has =
        let rows : f.verification ≡ [] = nil_from_length f.verification counted in
        inr (record {
          sha256 = sha256;
          is = λ i. record { metadata = record { file_hash = sym hash i; file_flags = flags false has i; num_entries = form.counted i }; segments = f.segments; verification = rows i; metadata_ext = ext i };
        })

-- ---- room

module _ {X : Type 0} (rows : X → List Row) (size : X → ℕ) (each : (x : X) → 48 * length (rows x) ≤ size x) where
  abbrev counts : X → ℕ
  counts x = length (rows x)

  filtered : (test : X → Bool) (xs : List X) → 48 * sum_by counts (filter test xs) ≤ sum_by size xs
  filtered test [] = omega arith
  filtered test (x ∷ xs) = go (test x) (filtered test xs)
    where
      go : (b : Bool) → 48 * sum_by counts (filter test xs) ≤ sum_by size xs → 48 * sum_by counts (cond b (x ∷ filter test xs) (filter test xs)) ≤ sum_by size (x ∷ xs)
      go true later = omega (arith, later, each x, sum_by-cons counts x (filter test xs), sum_by-cons size x xs)
      go false later = omega (arith, later, sum_by-cons size x xs)

  -- a section with one record more, where the shard has room for its rows
  few_rows : (hash : X → List ℕ) (xs : List X) (x : X) (n : ℕ) → counts x ≤ n → sum_by size xs + 48 * n < 2 ^ 37 → length (section rows (with_last hash xs x)) < 2 ^ 32
  few_rows hash xs x n within room =
      let test : X → Bool = λ y. not (pointwise nat_eq (hash y) (hash x)) in
      let kept : List X = filter test xs in
      let whole : List X = kept ++ x ∷ [] in
      let count : length (section rows whole) ≡ length (flat_map rows whole) + 1 = length-append (flat_map rows whole) (end_row ∷ []) in
      let sum : length (flat_map rows whole) ≡ sum_by counts whole = length-flat_map rows whole in
      let parted : sum_by counts whole ≡ sum_by counts kept + sum_by counts (x ∷ []) = sum_by-append counts kept (x ∷ []) in
      let last : sum_by counts (x ∷ []) ≡ counts x + 0 = sum_by-cons counts x [] in
      let below : 48 * sum_by counts kept ≤ sum_by size xs = filtered test xs in
      omega (arith, count, sum, parted, last, below, within, room)

xorb_rows_size : (b : MDBXorbInfo) → 48 * length (xorb_rows b) ≤ xorb_record_size b
xorb_rows_size b = omega arith

file_rows_size : (f : MDBFileInfo) → 48 * length (file_rows f) ≤ file_record_size f
file_rows_size f = omega arith

-- the rows of a xorb's record, and those of a file's
xorb_row_count : (h : List ℕ) (ms : List (List ℕ × ℕ)) → length (xorb_rows (xorb_record h ms)) ≡ 1 + length ms
xorb_row_count h ms = omega (arith, length-map (entries_from 0 ms) chunk_row, entries_count 0 ms)

few_ext : (o : Option FileMetadataExt) → length (ext_rows o) ≤ 1
few_ext None = omega arith
few_ext (Some m) = omega arith

file_row_count : (f : MDBFileInfo) (n : ℕ) → length f.segments ≡ n → length f.verification ≤ n → length (file_rows f) ≤ 2 + 2 * n
file_row_count f n segments verification =
    let rest = length-append (map verification_row f.verification) (ext_rows f.metadata_ext) in
    omega (arith, length-append (map segment_row f.segments) (map verification_row f.verification ++ ext_rows f.metadata_ext), rest, length-map f.segments segment_row, length-map f.verification verification_row, few_ext f.metadata_ext, segments, verification)

pub few_blocks : (p : Held) (h : List ℕ) (ms : List (List ℕ × ℕ)) → held_size p + 48 * (1 + length ms) < 2 ^ 37 → length (xorb_section (with_last xorb_record_hash p.blocks (xorb_record h ms))) < 2 ^ 32
few_blocks p h ms room =
    let rows : length (xorb_rows (xorb_record h ms)) ≤ 1 + length ms = omega (arith, xorb_row_count h ms) in
    few_rows xorb_rows xorb_record_size xorb_rows_size xorb_record_hash p.blocks (xorb_record h ms) (1 + length ms) rows (omega (arith, room))

-- the same of a record that is equal to it
module _ (b : MDBXorbInfo) (h : List ℕ) (ms : List (List ℕ × ℕ)) (exact : b ≡ xorb_record h ms) where
  pub xorb_form_of : IsXorb b
  xorb_form_of = subst IsXorb (sym exact) (xorb_form h ms)

  pub few_blocks_of : (p : Held) (n : ℕ) → n ≡ length ms → held_size p + 48 * (1 + n) < 2 ^ 37 → length (xorb_section (with_last xorb_record_hash p.blocks b)) < 2 ^ 32
  few_blocks_of p n count room =
      subst (λ (x : MDBXorbInfo). length (xorb_section (with_last xorb_record_hash p.blocks x)) < 2 ^ 32) (sym exact) (few_blocks p h ms (omega (arith, count, room)))

-- as many verification rows as segments, or none
few_verifications : (f : MDBFileInfo) → IsFile f → length f.verification ≤ length f.segments
few_verifications f form = go form.verified form.verifications
  where
    go : (b : Bool) → length f.verification ≡ cond b (length f.segments) 0 → length f.verification ≤ length f.segments
    go true e = omega (arith, e)
    go false e = omega (arith, e)

pub few_files : (p : Held) (f : MDBFileInfo) → IsFile f → held_size p + 48 * (2 + 2 * f.metadata.num_entries) < 2 ^ 37 → length (file_section (with_last file_record_hash p.files f)) < 2 ^ 32
few_files p f form room =
    let n : ℕ = f.metadata.num_entries in
    let segments : length f.segments ≡ n = sym form.counted in
    let verification : length f.verification ≤ n = omega (arith, few_verifications f form, segments) in
    few_rows file_rows file_record_size file_rows_size file_record_hash p.files f (2 + 2 * n) (file_row_count f n segments verification) (omega (arith, room))
