-- The parts of a shard's text are read, each for itself.
use Rattle.std.proofs.Common.{◌≡◌, ◌≢◌, ℕ, ◌+◌, ◌-◌, ◌*◌, ◌^◌, ◌<◌, ◌≤◌, true, false, eqb, List, length, take, drop, replicate, nat_eq, nat_le, None, Result, Ok, refl, sym, ap, subst, ◌∙◌, arith, inl, inr}
use Rattle.std.specs.Cmp.Lexicographic.{pointwise}
use Rattle.std.specs.List.{flat_map}
use Rattle.std.proofs.lemmas.Bool.{cases_Bool, eqb-false, eqb-true, le-leb, lt-ltb}
use Rattle.xet_hash.specs.declared.error.StoreError.{StoreError}
use Rattle.xet_shard_format.specs.declared.header_footer.MDBShardFileFooter.{MDBShardFileFooter}
use Rattle.xet_shard_format.specs.declared.record.MDBXorbInfo.{MDBXorbInfo}
use Rattle.xet_shard.specs.Bisection.{in_table}
use Rattle.xet_shard.specs.Queries.{chunk_table, file_table, xorb_table}
use Rattle.xet_shard_format.specs.declared.row.Row.{Row}
use Rattle.xet_shard_format.specs.Lookups.{Lookups, chunk_items, file_items, record_item_bytes, record_items_bytes, left_in, chunk_item_bytes, chunk_items_bytes, xorb_items}
use Rattle.xet_shard.specs.internal.ReaderBytes.{piece_at}
use Rattle.xet_codec.specs.Parsing.{◌>>=◌}
use Rattle.xet_shard_format.specs.Reading.{IsPlaced, file_record_at, file_row_count, shard_footer_at, footer_in, lookup_at, places_at, section_at, xorb_at, xorb_row_count}
use Rattle.xet_shard_format.specs.Records.{file_record_hash, xorb_record_hash}
use Rattle.xet_shard_format.specs.Rows.{rows_in}
use Rattle.xet_codec.specs.Numbers.{word}
use Rattle.xet_shard.specs.Sections.{blocks_in, chunk_lookup_in, files_in, heads_in, info_at, places_in, section_in, xorb_lookup_in}
use Rattle.xet_shard_format.specs.Encoding.{Fits, IsShard, Shard, footer_of, header, shard_bytes}
use Rattle.xet_shard.proofs.Faulting.{info_of, piece_there}
use Rattle.xet_shard_format.specs.theorems.Footers.{places_take}
use Rattle.xet_shard.proofs.ItemsAgain.{chunk_items_fit, file_items_fit, heads_again, places_again, xorb_items_fit}
use Rattle.xet_shard.proofs.PartLaws.{chosen_second, chunks_kept, chunks_made, count_whole, goes_on, heads_kept, reached_is, xorbs_kept, xorbs_made}
use Rattle.xet_shard_format.specs.theorems.RowLaws.{bind_ok, ok_is, wants_ok}
use Rattle.xet_shard_format.specs.theorems.WholeAgain.{all_again}
use Rattle.xet_shard_format.specs.theorems.WholeTaken.{Checked, LeftIn, checked, head_len, lookup_takes, place_len}

placed : (bytes : List ℕ) (f : MDBShardFileFooter) → shard_footer_at bytes ≡ Ok f → IsPlaced (length bytes) f
unfolding shard_footer_at
placed bytes f e =
    let end : List ℕ = drop (length bytes - 200) bytes in
    let a = wants_ok (eqb (word end 0) 1) _ _ _ e in
    let b = wants_ok (pointwise nat_eq (take 48 (drop 120 end)) (replicate 48 0)) _ _ _ a.1 in
    let c = bind_ok (places_at (length bytes) (footer_in end)) _ _ b.1 in
    subst (λ (g : MDBShardFileFooter). IsPlaced (length bytes) g) (ok_is _ _ c.2) (places_take _ _ c.0 c.1)

section_there : {X : Type 0} (record_at : Row → List Row → Result (X × List Row) StoreError) (hash : X → List ℕ) (at count : ℕ) (bytes : List ℕ) (xs : List X) → count < 2 ^ 32 → at + 48 * count ≤ length bytes
    → section_at record_at hash count None (rows_in count (drop at bytes)) ≡ Ok xs → section_in record_at hash at count bytes ≡ Ok xs
unfolding section_in
section_there record_at hash at count bytes xs few le e = rw (lt-ltb count (2 ^ 32) few, le-leb (at + 48 * count) (length bytes) le) e

-- the items of a look-up that stands
stands : {I : Type 0} (encoding : I → List ℕ) (items : List I) (n : ℕ) (piece : List ℕ) → n ≢ 0 → LeftIn encoding items n piece → (n ≡ length items) × (piece ≡ flat_map encoding items)
stands {I} encoding items n piece ne left =
    elim (left.stands) as (λ b. n ≡ length (left_in b items) → piece ≡ flat_map encoding (left_in b items) → (n ≡ length items) × (piece ≡ flat_map encoding items)) [
      | true ↦ λ e is. (e, is)
      | false ↦ λ e is. absurd (ne e)
    ] left.count left.is

-- a look-up of records that stands, or is made
heads_there : (bytes : List ℕ) (items : List (ℕ × ℕ)) (at n : ℕ) (whole : Result (List (ℕ × ℕ)) StoreError) → (n ≡ 0 → whole ≡ Ok items) → (n ≢ 0 → (piece_at at (12 * n) bytes >>= λ p. Ok (heads_in n p)) ≡ whole) → at + 12 * n ≤ length bytes
    → heads_in (length items) (record_items_bytes items) ≡ items → lookup_at bytes at (12 * n) (record_items_bytes items) ≡ Ok tt → whole ≡ Ok items
heads_there bytes items at n whole made kept le again e = elim (cases_Bool (eqb n 0)) [
  | inl none ↦ made (eqb-true n 0 none)
  | inr some ↦
      let ne : n ≢ 0 = eqb-false n 0 some in
      let both = stands record_item_bytes items n (take (12 * n) (drop at bytes)) ne (lookup_takes record_item_bytes 11 head_len items bytes at n (12 * n) tt refl le e) in
      goes_on (λ (x : List ℕ). x) (λ (x : List (ℕ × ℕ)). x) (take (12 * n) (drop at bytes)) items (piece_at at (12 * n) bytes) (heads_in n) whole (kept ne) (piece_there at (12 * n) bytes le) (sym again ∙ (λ i. heads_in (sym both.0 i) (sym both.1 i)))
]

xorbs_there : (bytes : List ℕ) (f : MDBShardFileFooter) (blocks : List MDBXorbInfo) → IsPlaced (length bytes) f → heads_in (length (xorb_items blocks)) (record_items_bytes (xorb_items blocks)) ≡ xorb_items blocks → blocks_in f bytes ≡ Ok blocks
    → lookup_at bytes f.xorb_lookup_offset (12 * f.xorb_lookup_num_entry) (record_items_bytes (xorb_items blocks)) ≡ Ok tt → xorb_lookup_in f bytes ≡ Ok (xorb_items blocks)
xorbs_there bytes f blocks p again whole e =
    heads_there bytes (xorb_items blocks) f.xorb_lookup_offset f.xorb_lookup_num_entry (xorb_lookup_in f bytes)
    (λ none. goes_on (λ (x : List MDBXorbInfo). x) (λ (x : List (ℕ × ℕ)). x) blocks (xorb_items blocks) (blocks_in f bytes) xorb_items (xorb_lookup_in f bytes) (xorbs_made f bytes none) whole refl)
    (xorbs_kept f bytes) (omega (arith, p.chunk_lookup, p.footer, p.end)) again e

chunks_there : (bytes : List ℕ) (f : MDBShardFileFooter) (blocks : List MDBXorbInfo) → IsPlaced (length bytes) f → places_in (length (chunk_items blocks)) (chunk_items_bytes (chunk_items blocks)) ≡ chunk_items blocks → blocks_in f bytes ≡ Ok blocks
    → lookup_at bytes f.chunk_lookup_offset (16 * f.chunk_lookup_num_entry) (chunk_items_bytes (chunk_items blocks)) ≡ Ok tt → chunk_lookup_in f bytes ≡ Ok (chunk_items blocks)
chunks_there bytes f blocks p again whole e =
    let at = f.chunk_lookup_offset in
    let n = f.chunk_lookup_num_entry in
    let items = chunk_items blocks in
    let le : at + 16 * n ≤ length bytes = omega (arith, p.footer, p.end) in
    elim (cases_Bool (eqb n 0)) [
      | inl none ↦ goes_on (λ (x : List MDBXorbInfo). x) (λ (x : List (ℕ × ℕ × ℕ)). x) blocks items (blocks_in f bytes) chunk_items (chunk_lookup_in f bytes) (chunks_made f bytes (eqb-true n 0 none)) whole refl
      | inr some ↦
          let ne : n ≢ 0 = eqb-false n 0 some in
          let both = stands chunk_item_bytes items n (take (16 * n) (drop at bytes)) ne (lookup_takes chunk_item_bytes 15 place_len items bytes at n (16 * n) tt refl le e) in
          goes_on (λ (x : List ℕ). x) (λ (x : List (ℕ × ℕ × ℕ)). x) (take (16 * n) (drop at bytes)) items (piece_at at (16 * n) bytes) (places_in n) (chunk_lookup_in f bytes) (chunks_kept f bytes ne) (piece_there at (16 * n) bytes le)
          (sym again ∙ (λ i. places_in (sym both.0 i) (sym both.1 i)))
    ]

-- ---- the parts of a text

module _ (w : Lookups) (s : Shard) (form : IsShard s) (fits : Fits s) where
  abbrev encoding : List ℕ
  encoding = shard_bytes w s

  abbrev foot : MDBShardFileFooter
  foot = footer_of w s

  pub encoding_checked : Checked encoding (s.blocks, s.files, foot)
  encoding_checked = checked encoding (s.blocks, s.files, foot) (all_again w s form fits)

  pub encoding_placed : IsPlaced (length encoding) foot
  encoding_placed = placed encoding foot encoding_checked.footer

  pub info_again : info_at encoding ≡ Ok (record { header = header; metadata = foot })
  info_again = info_of encoding foot encoding_checked.header encoding_checked.footer

  pub files_again : files_in foot encoding ≡ Ok s.files
  files_again = let p = encoding_placed in ap (λ (r : Result ℕ StoreError). r >>= λ n. section_in file_record_at file_record_hash foot.file_info_offset n encoding) (count_whole foot.file_info_offset foot.xorb_info_offset p.xorbs) ∙ section_there file_record_at file_record_hash foot.file_info_offset (file_row_count foot) encoding s.files p.few_files (omega (arith, p.xorbs, p.file_lookup, p.xorb_lookup, p.chunk_lookup, p.footer, p.end)) encoding_checked.files

  pub blocks_again : blocks_in foot encoding ≡ Ok s.blocks
  blocks_again = let p = encoding_placed in ap (λ (r : Result ℕ StoreError). r >>= λ n. section_in xorb_at xorb_record_hash foot.xorb_info_offset n encoding) (count_whole foot.xorb_info_offset foot.file_lookup_offset p.file_lookup) ∙ section_there xorb_at xorb_record_hash foot.xorb_info_offset (xorb_row_count foot) encoding s.blocks p.few_xorbs (omega (arith, p.file_lookup, p.xorb_lookup, p.chunk_lookup, p.footer, p.end)) encoding_checked.blocks

  -- a table that stands
  pub file_table_again : foot.file_lookup_num_entry ≢ 0 → file_table foot encoding ≡ file_items s.files
  file_table_again ne =
      let p = encoding_placed in
      let at = foot.file_lookup_offset in
      let n = foot.file_lookup_num_entry in
      reached_is (nat_le (at + 12 * n) (length encoding)) (file_table foot encoding) (file_items s.files)
      (heads_there encoding (file_items s.files) at n (in_table at (12 * n) encoding (file_table foot encoding)) (λ z. absurd (ne z)) (λ _. heads_kept at n encoding) (omega (arith, p.xorb_lookup, p.chunk_lookup, p.footer, p.end))
      (heads_again (file_items s.files) (file_items_fit s.files fits.files form.few_files)) encoding_checked.heads)

  pub xorbs_again : xorb_lookup_in foot encoding ≡ Ok (xorb_items s.blocks)
  xorbs_again = xorbs_there encoding foot s.blocks encoding_placed (heads_again (xorb_items s.blocks) (xorb_items_fit s.blocks fits.blocks form.few_blocks)) blocks_again encoding_checked.xorbs

  pub xorb_table_again : foot.xorb_lookup_num_entry ≢ 0 → xorb_table foot encoding ≡ xorb_items s.blocks
  unfolding xorb_lookup_in
  xorb_table_again ne = reached_is (nat_le (foot.xorb_lookup_offset + 12 * foot.xorb_lookup_num_entry) (length encoding)) (xorb_table foot encoding) (xorb_items s.blocks) (chosen_second foot.xorb_lookup_num_entry _ _ ne ∙ xorbs_again)

  pub chunks_again : chunk_lookup_in foot encoding ≡ Ok (chunk_items s.blocks)
  chunks_again = chunks_there encoding foot s.blocks encoding_placed (places_again (chunk_items s.blocks) (chunk_items_fit s.blocks fits.blocks form.few_blocks)) blocks_again encoding_checked.chunks

  pub chunk_table_again : foot.chunk_lookup_num_entry ≢ 0 → chunk_table foot encoding ≡ chunk_items s.blocks
  unfolding chunk_lookup_in
  chunk_table_again ne = reached_is (nat_le (foot.chunk_lookup_offset + 16 * foot.chunk_lookup_num_entry) (length encoding)) (chunk_table foot encoding) (chunk_items s.blocks) (chosen_second foot.chunk_lookup_num_entry _ _ ne ∙ chunks_again)
