-- The encoding of a shard is read back.
use Rattle.std.proofs.Common.{◌≡◌, ℕ, ◌+◌, ◌-◌, ◌*◌, ◌/◌, ◌^◌, ◌≤◌, Bool, true, false, eqb, List, ◌++◌, length, take, drop, None, Result, Ok, refl, sym, ap, subst, ◌∙◌, arith}
use Rattle.std.specs.List.{AllByRecursion}
use Rattle.std.specs.Prelude.{replicate, nat_eq}
use Rattle.std.specs.Cmp.Lexicographic.{pointwise, bytes_decides}
use Rattle.std.proofs.lemmas.Bool.{eq-eqb, true≢false}
use Rattle.std.proofs.lemmas.List.{take_at, drop_at, length-drop, drop-drop}
use Rattle.std.proofs.Math.Nat.{mul-div_cancel_left}
use Rattle.xet_shard_format.specs.declared.record.MDBFileInfo.{MDBFileInfo}
use Rattle.xet_shard_format.specs.declared.header_footer.MDBShardFileFooter.{MDBShardFileFooter}
use Rattle.xet_shard_format.specs.declared.record.MDBXorbInfo.{MDBXorbInfo}
use Rattle.xet_shard_format.specs.declared.row.Row.{Row}
use Rattle.xet_hash.specs.declared.error.StoreError.{StoreError}
use Rattle.xet_shard_format.specs.Rows.{RowFits, rows_in, rows_bytes}
use Rattle.xet_codec.specs.Numbers.{word}
use Rattle.xet_shard_format.specs.Records.{IsFile, IsXorb, file_record_hash, file_head, file_rest, file_section, xorb_record_hash, xorb_head, xorb_rest, xorb_section}
use Rattle.xet_shard_format.specs.Lookups.{Lookups, chunk_items, file_items, record_item_bytes, record_items_bytes, left_in, chunk_item_bytes, chunk_items_bytes, xorb_items}
use Rattle.xet_shard_format.specs.Encoding.{Fits, IsShard, Shard, footer_of, shard_footer_bytes, header, shard_header_bytes, materialized, shard_bytes, stored}
use Rattle.xet_shard_format.specs.Reading.{IsPlaced, all_of, file_record_at, file_row_count, shard_footer_at, footer_in, shard_header_at, lookup_at, section_at, totals_at, ShardParts, shard_parts_of, shard_of, xorb_at, xorb_row_count}
use Rattle.xet_shard_format.specs.theorems.SectionLaws.{files_reading, xorbs_reading, section_again}
use Rattle.xet_shard_format.specs.theorems.Bytes.{rows_again, length-rows_bytes}
use Rattle.xet_shard_format.specs.theorems.Footers.{header_again, footer_again, FooterFits, zeros_again, length-footer_bytes, places_again}
use Rattle.xet_shard_format.specs.theorems.Counts.{chunk_count, file_count, rows_le, xorb_count}
use Rattle.xet_shard_format.specs.theorems.Fitting.{materialized_below, stored_below}
use Rattle.xet_shard_format.specs.theorems.WholeTaken.{lookup_again, length-items_encoding, head_len, place_len, first_word_is}

left_le : {X : Type 0} (w : Bool) (xs : List X) (n : ℕ) → length xs ≤ n → length (left_in w xs) ≤ n
left_le true xs n le = le
left_le false xs n le = omega arith

-- ---- the footer

footer_at_again : (bytes : List ℕ) (f : MDBShardFileFooter) → drop (length bytes - 200) bytes ≡ shard_footer_bytes f → FooterFits f → f.version ≡ 1 → IsPlaced (length bytes) f → shard_footer_at bytes ≡ Ok f
unfolding shard_footer_at
footer_at_again bytes f e fits v p =
    let is : footer_in (drop (length bytes - 200) bytes) ≡ f = ap footer_in e ∙ footer_again f fits in
    let version : eqb (word (drop (length bytes - 200) bytes) 0) 1 ≡ true = eq-eqb _ _ (sym (first_word_is (drop (length bytes - 200) bytes)) ∙ ap (λ (g : MDBShardFileFooter). g.version) is ∙ v) in
    let zeros : pointwise nat_eq (take 48 (drop 120 (drop (length bytes - 200) bytes))) (replicate 48 0) ≡ true = (bytes_decides _ _).1 (ap (λ (t : List ℕ). take 48 (drop 120 t)) e ∙ zeros_again f fits.key) in
    rw (version, zeros, is, places_again (length bytes) f p) refl

count_back : (k n : ℕ) → (48 + 48 * n - 48) / 48 ≡ n
count_back k n = ap (λ (m : ℕ). m / 48) (omega arith) ∙ mul-div_cancel_left n (omega arith)

count_after : (a n : ℕ) → (a + 48 * n - a) / 48 ≡ n
count_after a n = let diff : a + 48 * n - a ≡ 48 * n = omega arith in ap (λ (m : ℕ). m / 48) diff ∙ mul-div_cancel_left n (omega arith)

-- ---- all

read_again : (bytes : List ℕ) (f : MDBShardFileFooter) (files : List MDBFileInfo) (blocks : List MDBXorbInfo) → shard_header_at bytes ≡ Ok tt → shard_footer_at bytes ≡ Ok f
    → section_at file_record_at file_record_hash (file_row_count f) None (rows_in (file_row_count f) (drop f.file_info_offset bytes)) ≡ Ok files
    → section_at xorb_at xorb_record_hash (xorb_row_count f) None (rows_in (xorb_row_count f) (drop f.xorb_info_offset bytes)) ≡ Ok blocks
    → lookup_at bytes f.file_lookup_offset (12 * f.file_lookup_num_entry) (record_items_bytes (file_items files)) ≡ Ok tt
    → lookup_at bytes f.xorb_lookup_offset (12 * f.xorb_lookup_num_entry) (record_items_bytes (xorb_items blocks)) ≡ Ok tt
    → lookup_at bytes f.chunk_lookup_offset (16 * f.chunk_lookup_num_entry) (chunk_items_bytes (chunk_items blocks)) ≡ Ok tt
    → totals_at f (materialized files) (stored blocks) ≡ Ok tt → all_of bytes ≡ Ok (blocks, files, f)
unfolding all_of
read_again bytes f files blocks h g fs xs l1 l2 l3 t = rw (h, g, fs, xs, l1, l2, l3, t) refl

totals_again : (f : MDBShardFileFooter) (m s : ℕ) → f.stored_bytes_on_disk ≡ 0 → f.materialized_bytes ≡ m → f.stored_bytes ≡ s → totals_at f m s ≡ Ok tt
unfolding totals_at
totals_again f m s a b c = rw (eq-eqb _ _ a, eq-eqb _ _ b, eq-eqb _ _ c) refl

-- a piece, and what follows it
drop_next : (bytes : List ℕ) (at len next : ℕ) (piece rest : List ℕ) → drop at bytes ≡ piece ++ rest → length piece ≡ len → at + len ≡ next → drop next bytes ≡ rest
drop_next bytes at len next piece rest e l n = ap (λ (k : ℕ). drop k bytes) (sym n) ∙ sym (drop-drop len at bytes) ∙ ap (drop len) e ∙ drop_at piece rest len l

take_next : (bytes : List ℕ) (at len : ℕ) (piece rest : List ℕ) → drop at bytes ≡ piece ++ rest → length piece ≡ len → take len (drop at bytes) ≡ piece
take_next bytes at len piece rest e l = ap (take len) e ∙ take_at piece rest len l

section_placed : {X : Type 0} (record_at : Row → List Row → Result (X × List Row) StoreError) (hash : X → List ℕ) (bytes : List ℕ) (at n count : ℕ) (rows : List Row) (rest : List ℕ) (xs : List X)
    → drop at bytes ≡ rows_bytes rows ++ rest → AllByRecursion RowFits rows → length rows ≡ n → count ≡ n → section_at record_at hash (length rows) None rows ≡ Ok xs → section_at record_at hash count None (rows_in count (drop at bytes)) ≡ Ok xs
section_placed record_at hash bytes at n count rows rest xs e fits l c s =
    let same : count ≡ length rows = c ∙ sym l in
    (λ i. section_at record_at hash (same i) None (rows_in (same i) (e i))) ∙ ap (section_at record_at hash (length rows) None) (rows_again rows rest fits) ∙ s

no_count : {X : Type 0} (k : ℕ) (w : Bool) (xs : List X) → w ≡ false → k * length (left_in w xs) ≡ 0
no_count k true xs e = absurd (true≢false e)
no_count k false xs e = grind arith

encoded_again : (bytes : List ℕ) (f : MDBShardFileFooter) (s : Shard) (w : Lookups) → IsShard s → Fits s → bytes ≡ shard_bytes w s → f ≡ footer_of w s → all_of bytes ≡ Ok (s.blocks, s.files, f)
unfolding shard_bytes footer_of
encoded_again bytes f s w form fits encoding footer =
    let e0 : f.file_info_offset ≡ 48 = ap (λ (g : MDBShardFileFooter). g.file_info_offset) footer in
    let e1 : f.xorb_info_offset ≡ 48 + 48 * length (file_section s.files) = ap (λ (g : MDBShardFileFooter). g.xorb_info_offset) footer in
    let e2 : f.file_lookup_offset ≡ 48 + 48 * length (file_section s.files) + 48 * length (xorb_section s.blocks) = ap (λ (g : MDBShardFileFooter). g.file_lookup_offset) footer in
    let na : f.file_lookup_num_entry ≡ length (left_in w.files (file_items s.files)) = ap (λ (g : MDBShardFileFooter). g.file_lookup_num_entry) footer in
    let e3 : f.xorb_lookup_offset ≡ 48 + 48 * length (file_section s.files) + 48 * length (xorb_section s.blocks) + 12 * length (left_in w.files (file_items s.files)) = ap (λ (g : MDBShardFileFooter). g.xorb_lookup_offset) footer in
    let nb : f.xorb_lookup_num_entry ≡ length (left_in w.xorbs (xorb_items s.blocks)) = ap (λ (g : MDBShardFileFooter). g.xorb_lookup_num_entry) footer in
    let e4 : f.chunk_lookup_offset ≡ 48 + 48 * length (file_section s.files) + 48 * length (xorb_section s.blocks) + 12 * length (left_in w.files (file_items s.files)) + 12 * length (left_in w.xorbs (xorb_items s.blocks)) = ap (λ (g : MDBShardFileFooter). g.chunk_lookup_offset) footer in
    let nc : f.chunk_lookup_num_entry ≡ length (left_in w.chunks (chunk_items s.blocks)) = ap (λ (g : MDBShardFileFooter). g.chunk_lookup_num_entry) footer in
    let e5 : f.footer_offset ≡ 48 + 48 * length (file_section s.files) + 48 * length (xorb_section s.blocks) + 12 * length (left_in w.files (file_items s.files)) + 12 * length (left_in w.xorbs (xorb_items s.blocks)) + 16 * length (left_in w.chunks (chunk_items s.blocks)) = ap (λ (g : MDBShardFileFooter). g.footer_offset) footer in
    let lf = length-rows_bytes (file_section s.files) fits.files in
    let lx = length-rows_bytes (xorb_section s.blocks) fits.blocks in
    let la = length-items_encoding record_item_bytes 12 head_len (left_in w.files (file_items s.files)) in
    let lb = length-items_encoding record_item_bytes 12 head_len (left_in w.xorbs (xorb_items s.blocks)) in
    let lc = length-items_encoding chunk_item_bytes 16 place_len (left_in w.chunks (chunk_items s.blocks)) in
    let d0 = ap (drop 48) encoding in
    let d1 = drop_next bytes 48 (48 * length (file_section s.files)) f.xorb_info_offset _ _ d0 lf (sym e1) in
    let d2 = drop_next bytes f.xorb_info_offset (48 * length (xorb_section s.blocks)) f.file_lookup_offset _ _ d1 lx (omega (arith, e1, e2)) in
    let d3 = drop_next bytes f.file_lookup_offset (12 * length (left_in w.files (file_items s.files))) f.xorb_lookup_offset _ _ d2 la (omega (arith, e2, e3)) in
    let d4 = drop_next bytes f.xorb_lookup_offset (12 * length (left_in w.xorbs (xorb_items s.blocks))) f.chunk_lookup_offset _ _ d3 lb (omega (arith, e3, e4)) in
    let d5 = drop_next bytes f.chunk_lookup_offset (16 * length (left_in w.chunks (chunk_items s.blocks))) f.footer_offset _ _ d4 lc (omega (arith, e4, e5)) in
    let lfoot : length (drop f.footer_offset bytes) ≡ 200 = ap length d5 ∙ length-footer_bytes (footer_of w s) fits.key.0 in
    let whole : length bytes ≡ f.footer_offset + 200 = omega (arith, lfoot, length-drop f.footer_offset bytes) in
    let cf : file_row_count f ≡ length (file_section s.files) = (λ i. (e1 i - e0 i) / 48) ∙ count_back 0 (length (file_section s.files)) in
    let cx : xorb_row_count f ≡ length (xorb_section s.blocks) = (λ i. (e2 i - e1 i) / 48) ∙ count_after (48 + 48 * length (file_section s.files)) (length (xorb_section s.blocks)) in
    let placed : IsPlaced (length bytes) f = record {
      files = e0;
      xorbs = omega (arith, e0, e1, cf);
      some_files = omega (arith, cf, rows_le file_head file_rest s.files);
      few_files = omega (arith, cf, form.few_files);
      file_lookup = omega (arith, e1, e2, cx);
      some_xorbs = omega (arith, cx, rows_le xorb_head xorb_rest s.blocks);
      few_xorbs = omega (arith, cx, form.few_blocks);
      xorb_lookup = omega (arith, e2, e3, na);
      chunk_lookup = omega (arith, e3, e4, nb);
      footer = omega (arith, e4, e5, nc);
      end = whole;
    } in
    let sa : length (left_in w.files (file_items s.files)) ≤ 2 ^ 32 = left_le w.files (file_items s.files) (2 ^ 32) (omega (arith, (file_count s.files form.few_files).0, (file_count s.files form.few_files).1)) in
    let sb : length (left_in w.xorbs (xorb_items s.blocks)) ≤ 2 ^ 32 = left_le w.xorbs (xorb_items s.blocks) (2 ^ 32) (omega (arith, (xorb_count s.blocks form.few_blocks).0, (xorb_count s.blocks form.few_blocks).1)) in
    let sc : length (left_in w.chunks (chunk_items s.blocks)) ≤ 2 ^ 32 = left_le w.chunks (chunk_items s.blocks) (2 ^ 32) (omega (arith, chunk_count s.blocks, form.few_blocks)) in
    let ff : FooterFits (footer_of w s) = record {
      version = omega arith;
      file_info_offset = omega arith;
      xorb_info_offset = omega (arith, form.few_files);
      file_lookup_offset = omega (arith, form.few_files, form.few_blocks);
      file_lookup_num_entry = omega (arith, sa);
      xorb_lookup_offset = omega (arith, form.few_files, form.few_blocks, sa);
      xorb_lookup_num_entry = omega (arith, sb);
      chunk_lookup_offset = omega (arith, form.few_files, form.few_blocks, sa, sb);
      chunk_lookup_num_entry = omega (arith, sc);
      key = fits.key.0;
      creation = fits.creation;
      expiry = fits.expiry;
      stored_bytes_on_disk = omega arith;
      materialized_bytes = materialized_below s.files form.few_files fits.files;
      stored_bytes = stored_below s.blocks form.few_blocks fits.blocks;
      footer_offset = omega (arith, form.few_files, form.few_blocks, sa, sb, sc);
    } in
    let at_end : length bytes - 200 ≡ f.footer_offset = omega (arith, whole) in
    let end : drop (length bytes - 200) bytes ≡ shard_footer_bytes f = ap (λ (k : ℕ). drop k bytes) at_end ∙ d5 ∙ ap shard_footer_bytes (sym footer) in
    let long : 200 ≤ length (drop 48 bytes) = omega (arith, length-drop 48 bytes, whole, e5) in
    let head : shard_header_at bytes ≡ Ok tt = ap shard_header_at (encoding ∙ ap (λ (t : List ℕ). shard_header_bytes header ++ t) (sym d0)) ∙ header_again (drop 48 bytes) long in
    read_again bytes f s.files s.blocks head
    (footer_at_again bytes f end (subst FooterFits (sym footer) ff) (ap (λ (g : MDBShardFileFooter). g.version) footer) placed)
    (section_placed file_record_at file_record_hash bytes f.file_info_offset (length (file_section s.files)) (file_row_count f) (file_section s.files) _ s.files (ap (λ (k : ℕ). drop k bytes) e0 ∙ d0) fits.files refl cf
    (section_again file_record_at file_record_hash file_head file_rest IsFile files_reading (length (file_section s.files)) None s.files (rows_le file_head file_rest s.files) form.files))
    (section_placed xorb_at xorb_record_hash bytes f.xorb_info_offset (length (xorb_section s.blocks)) (xorb_row_count f) (xorb_section s.blocks) _ s.blocks d1 fits.blocks refl cx
    (section_again xorb_at xorb_record_hash xorb_head xorb_rest IsXorb xorbs_reading (length (xorb_section s.blocks)) None s.blocks (rows_le xorb_head xorb_rest s.blocks) form.blocks))
    (lookup_again record_item_bytes w.files (file_items s.files) bytes f.file_lookup_offset (12 * f.file_lookup_num_entry) (take_next bytes f.file_lookup_offset (12 * f.file_lookup_num_entry) _ _ d2 (omega (arith, la, na))) (λ e. ap (λ (k : ℕ). 12 * k) na ∙ no_count 12 w.files (file_items s.files) e))
    (lookup_again record_item_bytes w.xorbs (xorb_items s.blocks) bytes f.xorb_lookup_offset (12 * f.xorb_lookup_num_entry) (take_next bytes f.xorb_lookup_offset (12 * f.xorb_lookup_num_entry) _ _ d3 (omega (arith, lb, nb))) (λ e. ap (λ (k : ℕ). 12 * k) nb ∙ no_count 12 w.xorbs (xorb_items s.blocks) e))
    (lookup_again chunk_item_bytes w.chunks (chunk_items s.blocks) bytes f.chunk_lookup_offset (16 * f.chunk_lookup_num_entry) (take_next bytes f.chunk_lookup_offset (16 * f.chunk_lookup_num_entry) _ _ d4 (omega (arith, lc, nc))) (λ e. ap (λ (k : ℕ). 16 * k) nc ∙ no_count 16 w.chunks (chunk_items s.blocks) e))
    (totals_again f (materialized s.files) (stored s.blocks) (ap (λ (g : MDBShardFileFooter). g.stored_bytes_on_disk) footer) (ap (λ (g : MDBShardFileFooter). g.materialized_bytes) footer) (ap (λ (g : MDBShardFileFooter). g.stored_bytes) footer))

pub all_again : (w : Lookups) (s : Shard) → IsShard s → Fits s → all_of (shard_bytes w s) ≡ Ok (s.blocks, s.files, footer_of w s)
all_again w s form fits = encoded_again (shard_bytes w s) (footer_of w s) s w form fits refl refl

-- ---- two shards of one text

pub same_shard : (w v : Lookups) (s t : Shard) → shard_parts_of w s ≡ shard_parts_of v t → s ≡ t
unfolding footer_of
same_shard w v s t e = ap (λ (p : ShardParts). shard_of p) e
