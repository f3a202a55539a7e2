-- What is read of bytes is a well-formed shard, and the bytes are its encoding.
use Rattle.std.proofs.Common.{◌≡◌, ℕ, zero, suc, ◌+◌, ◌-◌, ◌*◌, ◌/◌, ◌^◌, ◌<◌, ◌≤◌, Bool, true, false, eqb, List, [], ◌∷◌, ◌++◌, length, take, drop, None, Ok, refl, sym, ap, subst, ◌∙◌, arith, inl, inr}
use Rattle.std.specs.List.{flat_map, AllByRecursion, All}
use Rattle.std.specs.Prelude.{replicate, nat_eq}
use Rattle.std.specs.Cmp.Lexicographic.{pointwise, bytes_decides}
use Rattle.std.proofs.lemmas.Bool.{eqb-true, eq-eqb, cases_Bool}
use Rattle.std.proofs.lemmas.List.{length-append, length-take, length-drop, drop-drop}
use Rattle.std.proofs.lemmas.List.Concat.{flat_map-cons}
use Rattle.std.proofs.Math.Nat.{mul-div_cancel_left}
use Rattle.xet_shard_format.specs.declared.record.MDBFileInfo.{MDBFileInfo}
use Rattle.xet_shard_format.specs.declared.header_footer.MDBShardFileFooter.{MDBShardFileFooter}
use Rattle.xet_shard_format.specs.declared.record.MDBXorbInfo.{MDBXorbInfo}
use Rattle.xet_shard_format.specs.declared.row.Row.{Row}
use Rattle.xet_shard_format.specs.Rows.{RowFits, rows_in, rows_bytes}
use Rattle.xet_codec.specs.Numbers.{word}
use Rattle.xet_shard_format.specs.Records.{IsFile, IsXorb, file_record_hash, file_head, file_rest, file_section, xorb_record_hash, xorb_head, xorb_rest, xorb_section}
use Rattle.xet_shard_format.specs.Lookups.{Lookups, chunk_items, file_items, record_item_bytes, record_items_bytes, left_in, chunk_item_bytes, chunk_items_bytes, xorb_items}
use Rattle.xet_shard_format.specs.Encoding.{Shard, footer_of, shard_footer_bytes, header, shard_header_bytes, materialized, shard_bytes, stored}
use Rattle.xet_shard_format.specs.Reading.{IsPlaced, IsRead, ShardParts, all_of, file_record_at, file_row_count, shard_footer_at, footer_in, shard_header_at, lookup_at, places_at, section_at, totals_at, xorb_at, xorb_row_count}
use Rattle.xet_shard_format.specs.theorems.RowList.{length-rows_in}
use Rattle.xet_shard_format.specs.theorems.RowLaws.{chosen, bind_ok, wants_ok, wants_last, ok_is}
use Rattle.xet_shard_format.specs.theorems.SectionLaws.{files_reading, xorbs_reading, section_takes}
use Rattle.xet_shard_format.specs.theorems.Bytes.{IsBytes, IsBytes-drop, IsBytes-take, glue, rows_back, rows_fit, word_below, bytes_all}
use Rattle.xet_shard_format.specs.theorems.Footers.{header_takes, footer_back, places_take}

-- ---- look-ups

pub length-items_encoding : {I : Type 0} (encoding : I → List ℕ) (size : ℕ) (each : (i : I) → length (encoding i) ≡ size) (is : List I) → length (flat_map encoding is) ≡ size * length is
length-items_encoding encoding size each [] = omega arith
length-items_encoding encoding size each (i ∷ is) =
    let more : size * suc (length is) ≡ size + size * length is = grind arith in
    ap length (flat_map-cons encoding i is) ∙ length-append (encoding i) (flat_map encoding is) ∙ omega (arith, each i, length-items_encoding encoding size each is, more)

-- how many items a look-up has, and which
pub record LeftIn {I : Type 0} (encoding : I → List ℕ) (items : List I) (n : ℕ) (piece : List ℕ) : Type 0 where
  pub stands : Bool
  pub is : piece ≡ flat_map encoding (left_in stands items)
  pub count : n ≡ length (left_in stands items)

no_items : (size n len : ℕ) → len ≡ suc size * n → len ≡ 0 → n ≡ 0
no_items size zero len e z = refl
no_items size (suc n) len e z =
    let more : suc size * suc n ≡ suc size + suc size * n = grind arith in
    absurd (omega (arith, e, z, more))

same_items : (size n m : ℕ) → suc size * n ≡ suc size * m → n ≡ m
same_items size n m e = let pos : 0 < suc size = omega arith in sym (mul-div_cancel_left n pos) ∙ ap (λ (k : ℕ). k / suc size) e ∙ mul-div_cancel_left m pos

pub lookup_takes : {I : Type 0} (encoding : I → List ℕ) (size : ℕ) (each : (i : I) → length (encoding i) ≡ suc size) (items : List I) (bytes : List ℕ) (at n len : ℕ) (u : Unit {0}) → len ≡ suc size * n → at + len ≤ length bytes
    → lookup_at bytes at len (flat_map encoding items) ≡ Ok u → LeftIn encoding items n (take len (drop at bytes))
unfolding lookup_at
lookup_takes encoding size each items bytes at n len u e le h =
    elim (chosen (eqb len 0) _ _ _ h) [
      | inl (none, _) ↦
          let zero_len : len ≡ 0 = eqb-true _ _ none in
          record { stands = false; is = ap (λ (k : ℕ). take k (drop at bytes)) zero_len; count = no_items size n len e zero_len }
      | inr (some, f) ↦
          let same : take len (drop at bytes) ≡ flat_map encoding items = (bytes_decides (take len (drop at bytes)) (flat_map encoding items)).0 (wants_last _ _ _ f) in
          let long : length (take len (drop at bytes)) ≡ len = omega (arith, length-take len (drop at bytes), length-drop at bytes) in
          record { stands = true; is = same; count = same_items size n (length items) (sym e ∙ sym long ∙ ap length same ∙ length-items_encoding encoding (suc size) each items) }
    ]

pub lookup_again : {I : Type 0} (encoding : I → List ℕ) (stands : Bool) (items : List I) (bytes : List ℕ) (at len : ℕ) → take len (drop at bytes) ≡ flat_map encoding (left_in stands items) → (stands ≡ false → len ≡ 0)
    → lookup_at bytes at len (flat_map encoding items) ≡ Ok tt
unfolding lookup_at
lookup_again encoding false items bytes at len e z = rw (eq-eqb len 0 (z refl)) refl
lookup_again encoding true items bytes at len e z = elim (cases_Bool (eqb len 0)) [
  | inl none ↦ rw none refl
  | inr some ↦ rw (some, (bytes_decides (take len (drop at bytes)) (flat_map encoding items)).1 e) refl
]

-- ---- reading a shard

pub head_len : (i : ℕ × ℕ) → length (record_item_bytes i) ≡ 12
head_len i = refl

pub place_len : (i : ℕ × ℕ × ℕ) → length (chunk_item_bytes i) ≡ 16
place_len i = refl

pub record EndsInFooter (bytes : List ℕ) (f : MDBShardFileFooter) : Type 0 where
  pub is : f ≡ footer_in (drop (length bytes - 200) bytes)
  pub version : f.version ≡ 1
  pub placed : IsPlaced (length bytes) f
  pub encoding : shard_footer_bytes f ≡ drop (length bytes - 200) bytes

pub first_word_is : (bytes : List ℕ) → (footer_in bytes).version ≡ word bytes 0
unfolding footer_in
first_word_is bytes = refl

pub footer_takes : (bytes : List ℕ) (f : MDBShardFileFooter) → IsBytes bytes → 248 ≤ length bytes → shard_footer_at bytes ≡ Ok f → EndsInFooter bytes f
unfolding shard_footer_at
footer_takes bytes f fits long e =
    let end : List ℕ = drop (length bytes - 200) bytes in
    let a = wants_ok (eqb (word (drop (length bytes - 200) bytes) 0) 1) _ _ _ e in
    let b = wants_ok (pointwise nat_eq (take 48 (drop 120 (drop (length bytes - 200) bytes))) (replicate 48 0)) _ _ _ a.1 in
    let c = bind_ok (places_at (length bytes) (footer_in (drop (length bytes - 200) bytes))) _ _ b.1 in
    let is : footer_in (drop (length bytes - 200) bytes) ≡ f = ok_is _ _ c.2 in
    let len : length (drop (length bytes - 200) bytes) ≡ 200 = length-drop (length bytes - 200) bytes ∙ omega arith in
    let back = footer_back (drop (length bytes - 200) bytes) (IsBytes-drop (length bytes - 200) bytes fits) len ((bytes_decides _ _).0 b.0) in
    record {
      is = sym is;
      version = ap (λ (g : MDBShardFileFooter). g.version) (sym is) ∙ first_word_is (drop (length bytes - 200) bytes) ∙ eqb-true _ _ a.0;
      placed = subst (λ (g : MDBShardFileFooter). IsPlaced (length bytes) g) is (places_take _ _ c.0 c.1);
      encoding = ap shard_footer_bytes (sym is) ∙ back;
    }

totals_take : (f : MDBShardFileFooter) (m s : ℕ) (u : Unit {0}) → totals_at f m s ≡ Ok u → (f.stored_bytes_on_disk ≡ 0) × (f.materialized_bytes ≡ m) × (f.stored_bytes ≡ s)
unfolding totals_at
totals_take f m s u e =
    let a = wants_ok (eqb f.stored_bytes_on_disk 0) _ _ _ e in
    let b = wants_ok (eqb f.materialized_bytes m) _ _ _ a.1 in
    (eqb-true _ _ a.0, eqb-true _ _ b.0, eqb-true _ _ (wants_last _ _ _ b.1))

-- a section that was read: its rows are those in its place
rows_placed : (bytes : List ℕ) (at n next : ℕ) (rows : List Row) → IsBytes bytes → at + 48 * n ≡ next → next ≤ length bytes → rows_in n (drop at bytes) ≡ rows
    → (drop at bytes ≡ rows_bytes rows ++ drop next bytes) × (length rows ≡ n) × AllByRecursion RowFits rows
rows_placed bytes at n next rows fits e le is =
    let enough : 48 * n ≤ length (drop at bytes) = omega (arith, e, le, length-drop at bytes) in
    let back = rows_back n (drop at bytes) (IsBytes-drop at bytes fits) enough in
    let rest : drop (48 * n) (drop at bytes) ≡ drop next bytes = drop-drop (48 * n) at bytes ∙ ap (λ (k : ℕ). drop k bytes) e in
    (sym back ∙ (λ i. rows_bytes (is i) ++ rest i), ap length (sym is) ∙ length-rows_in n (drop at bytes), subst (AllByRecursion RowFits) is (rows_fit n (drop at bytes) (IsBytes-drop at bytes fits) enough))

-- a look-up in its place
piece_placed : (bytes : List ℕ) (at len next : ℕ) (piece : List ℕ) → at + len ≡ next → take len (drop at bytes) ≡ piece → drop at bytes ≡ piece ++ drop next bytes
piece_placed bytes at len next piece e is = sym (glue at len bytes) ∙ (λ i. is i ++ drop (e i) bytes)

footer_is : (f g : MDBShardFileFooter) → f.version ≡ g.version → f.file_info_offset ≡ g.file_info_offset → f.xorb_info_offset ≡ g.xorb_info_offset → f.file_lookup_offset ≡ g.file_lookup_offset → f.file_lookup_num_entry ≡ g.file_lookup_num_entry
    → f.xorb_lookup_offset ≡ g.xorb_lookup_offset → f.xorb_lookup_num_entry ≡ g.xorb_lookup_num_entry → f.chunk_lookup_offset ≡ g.chunk_lookup_offset → f.chunk_lookup_num_entry ≡ g.chunk_lookup_num_entry
    → f.chunk_hash_hmac_key ≡ g.chunk_hash_hmac_key → f.shard_creation_timestamp ≡ g.shard_creation_timestamp → f.shard_key_expiry ≡ g.shard_key_expiry → f.stored_bytes_on_disk ≡ g.stored_bytes_on_disk → f.materialized_bytes ≡ g.materialized_bytes
    → f.stored_bytes ≡ g.stored_bytes → f.footer_offset ≡ g.footer_offset → f ≡ g
footer_is f g e1 e2 e3 e4 e5 e6 e7 e8 e9 e10 e11 e12 e13 e14 e15 e16 = λ i. record {
  version = e1 i;
  file_info_offset = e2 i;
  xorb_info_offset = e3 i;
  file_lookup_offset = e4 i;
  file_lookup_num_entry = e5 i;
  xorb_lookup_offset = e6 i;
  xorb_lookup_num_entry = e7 i;
  chunk_lookup_offset = e8 i;
  chunk_lookup_num_entry = e9 i;
  chunk_hash_hmac_key = e10 i;
  shard_creation_timestamp = e11 i;
  shard_key_expiry = e12 i;
  stored_bytes_on_disk = e13 i;
  materialized_bytes = e14 i;
  stored_bytes = e15 i;
  footer_offset = e16 i;
}

read_parts : (bytes : List ℕ) (files : List MDBFileInfo) (blocks : List MDBXorbInfo) (f : MDBShardFileFooter) → IsBytes bytes → (bytes ≡ shard_header_bytes header ++ drop 48 bytes) × (248 ≤ length bytes)
    → section_at file_record_at file_record_hash (file_row_count f) None (rows_in (file_row_count f) (drop f.file_info_offset bytes)) ≡ Ok files
    → section_at xorb_at xorb_record_hash (xorb_row_count f) None (rows_in (xorb_row_count f) (drop f.xorb_info_offset bytes)) ≡ Ok blocks
    → EndsInFooter bytes f
    → (u1 : Unit {0}) → lookup_at bytes f.file_lookup_offset (12 * f.file_lookup_num_entry) (record_items_bytes (file_items files)) ≡ Ok u1
    → (u2 : Unit {0}) → lookup_at bytes f.xorb_lookup_offset (12 * f.xorb_lookup_num_entry) (record_items_bytes (xorb_items blocks)) ≡ Ok u2
    → (u3 : Unit {0}) → lookup_at bytes f.chunk_lookup_offset (16 * f.chunk_lookup_num_entry) (chunk_items_bytes (chunk_items blocks)) ≡ Ok u3
    → (f.stored_bytes_on_disk ≡ 0) × (f.materialized_bytes ≡ materialized files) × (f.stored_bytes ≡ stored blocks)
    → IsRead bytes (blocks, files, f)
unfolding shard_bytes footer_of footer_in
read_parts bytes files blocks f fits h fe xe end u1 l1 u2 l2 u3 l3 totals =
    let p = end.placed in
    let fs = section_takes file_record_at file_record_hash file_head file_rest IsFile files_reading (file_row_count f) None (rows_in (file_row_count f) (drop f.file_info_offset bytes)) files fe in
    let xs = section_takes xorb_at xorb_record_hash xorb_head xorb_rest IsXorb xorbs_reading (xorb_row_count f) None (rows_in (xorb_row_count f) (drop f.xorb_info_offset bytes)) blocks xe in
    let lt : f.footer_offset < length bytes = omega (arith, p.end) in
    let frows = rows_placed bytes f.file_info_offset (file_row_count f) f.xorb_info_offset (file_section files) fits (sym p.xorbs) (omega (arith, p.end, p.footer, p.chunk_lookup, p.xorb_lookup, p.file_lookup)) fs.0 in
    let xrows = rows_placed bytes f.xorb_info_offset (xorb_row_count f) f.file_lookup_offset (xorb_section blocks) fits (sym p.file_lookup) (omega (arith, p.end, p.footer, p.chunk_lookup, p.xorb_lookup)) xs.0 in
    let a = lookup_takes record_item_bytes 11 head_len (file_items files) bytes f.file_lookup_offset f.file_lookup_num_entry (12 * f.file_lookup_num_entry) u1 refl (omega (arith, p.end, p.footer, p.chunk_lookup, p.xorb_lookup)) l1 in
    let b = lookup_takes record_item_bytes 11 head_len (xorb_items blocks) bytes f.xorb_lookup_offset f.xorb_lookup_num_entry (12 * f.xorb_lookup_num_entry) u2 refl (omega (arith, p.end, p.footer, p.chunk_lookup)) l2 in
    let c = lookup_takes chunk_item_bytes 15 place_len (chunk_items blocks) bytes f.chunk_lookup_offset f.chunk_lookup_num_entry (16 * f.chunk_lookup_num_entry) u3 refl (omega (arith, p.end, p.footer)) l3 in
    let ta = piece_placed bytes f.file_lookup_offset (12 * f.file_lookup_num_entry) f.xorb_lookup_offset _ (sym p.xorb_lookup) a.is in
    let tb = piece_placed bytes f.xorb_lookup_offset (12 * f.xorb_lookup_num_entry) f.chunk_lookup_offset _ (sym p.chunk_lookup) b.is in
    let tc = piece_placed bytes f.chunk_lookup_offset (16 * f.chunk_lookup_num_entry) f.footer_offset _ (sym p.footer) c.is in
    let which : Lookups = record { files = a.stands; xorbs = b.stands; chunks = c.stands } in
    let s : Shard = record { blocks = blocks; files = files; key = f.chunk_hash_hmac_key; creation = f.shard_creation_timestamp; expiry = f.shard_key_expiry } in
    let at_end : length bytes - 200 ≡ f.footer_offset = omega (arith, p.end) in
    let footer : f ≡ footer_of which s = footer_is f (footer_of which s) end.version p.files
    (omega (arith, p.files, p.xorbs, frows.1))
    (omega (arith, p.files, p.xorbs, p.file_lookup, frows.1, xrows.1))
    a.count
    (omega (arith, p.files, p.xorbs, p.file_lookup, p.xorb_lookup, frows.1, xrows.1, a.count))
    b.count
    (omega (arith, p.files, p.xorbs, p.file_lookup, p.xorb_lookup, p.chunk_lookup, frows.1, xrows.1, a.count, b.count))
    c.count
    refl refl refl totals.0 totals.1 totals.2
    (omega (arith, p.files, p.xorbs, p.file_lookup, p.xorb_lookup, p.chunk_lookup, p.footer, frows.1, xrows.1, a.count, b.count, c.count)) in
    let tail : drop f.footer_offset bytes ≡ shard_footer_bytes (footer_of which s) = ap (λ (k : ℕ). drop k bytes) (sym at_end) ∙ sym end.encoding ∙ ap shard_footer_bytes footer in
    let e5 = tc ∙ ap (λ (t : List ℕ). flat_map chunk_item_bytes (left_in c.stands (chunk_items blocks)) ++ t) tail in
    let e4 = tb ∙ ap (λ (t : List ℕ). flat_map record_item_bytes (left_in b.stands (xorb_items blocks)) ++ t) e5 in
    let e3 = ta ∙ ap (λ (t : List ℕ). flat_map record_item_bytes (left_in a.stands (file_items files)) ++ t) e4 in
    let e2 = xrows.0 ∙ ap (λ (t : List ℕ). rows_bytes (xorb_section blocks) ++ t) e3 in
    let e1 = frows.0 ∙ ap (λ (t : List ℕ). rows_bytes (file_section files) ++ t) e2 in
    let whole : bytes ≡ shard_bytes which s = h.0 ∙ ap (λ (t : List ℕ). shard_header_bytes header ++ t) (ap (λ (k : ℕ). drop k bytes) (sym p.files) ∙ e1) in
    let ends : List ℕ = drop (length bytes - 200) bytes in
    let ends_fit : IsBytes (drop (length bytes - 200) bytes) = IsBytes-drop (length bytes - 200) bytes fits in
    let ends_len : length (drop (length bytes - 200) bytes) ≡ 200 = length-drop (length bytes - 200) bytes ∙ omega (arith, h.1) in
    let key : f.chunk_hash_hmac_key ≡ take 32 (drop 72 (drop (length bytes - 200) bytes)) = ap (λ (g : MDBShardFileFooter). g.chunk_hash_hmac_key) end.is in
    let key_fits : (length f.chunk_hash_hmac_key ≡ 32) × All (λ b. b < 256) f.chunk_hash_hmac_key =
    subst (λ (k : List ℕ). (length k ≡ 32) × All (λ b. b < 256) k) (sym key) (omega (arith, length-take 32 (drop 72 (drop (length bytes - 200) bytes)), length-drop 72 (drop (length bytes - 200) bytes), ends_len), bytes_all _ (IsBytes-take 32 _ (IsBytes-drop 72 _ ends_fit))) in
    record {
      shard = record { files = fs.1; blocks = xs.1; few_files = omega (arith, p.few_files, frows.1); few_blocks = omega (arith, p.few_xorbs, xrows.1) };
      fits = record {
        files = frows.2;
        blocks = xrows.2;
        key = key_fits;
        creation = subst (λ (k : ℕ). k < 2 ^ 64) (ap (λ (g : MDBShardFileFooter). g.shard_creation_timestamp) (sym end.is)) (word_below (drop (length bytes - 200) bytes) 104 ends_fit);
        expiry = subst (λ (k : ℕ). k < 2 ^ 64) (ap (λ (g : MDBShardFileFooter). g.shard_key_expiry) (sym end.is)) (word_below (drop (length bytes - 200) bytes) 112 ends_fit);
      };
      lookups = which;
      encoding = whole;
      footer = footer;
    }

-- what reading the whole has checked of each part
pub record Checked (bytes : List ℕ) (p : ShardParts) : Type 0 where
  pub header : shard_header_at bytes ≡ Ok tt
  pub footer : shard_footer_at bytes ≡ Ok p.2
  pub files : section_at file_record_at file_record_hash (file_row_count p.2) None (rows_in (file_row_count p.2) (drop p.2.file_info_offset bytes)) ≡ Ok p.1
  pub blocks : section_at xorb_at xorb_record_hash (xorb_row_count p.2) None (rows_in (xorb_row_count p.2) (drop p.2.xorb_info_offset bytes)) ≡ Ok p.0
  pub heads : lookup_at bytes p.2.file_lookup_offset (12 * p.2.file_lookup_num_entry) (record_items_bytes (file_items p.1)) ≡ Ok tt
  pub xorbs : lookup_at bytes p.2.xorb_lookup_offset (12 * p.2.xorb_lookup_num_entry) (record_items_bytes (xorb_items p.0)) ≡ Ok tt
  pub chunks : lookup_at bytes p.2.chunk_lookup_offset (16 * p.2.chunk_lookup_num_entry) (chunk_items_bytes (chunk_items p.0)) ≡ Ok tt
  pub totals : totals_at p.2 (materialized p.1) (stored p.0) ≡ Ok tt

pub checked : (bytes : List ℕ) (p : ShardParts) → all_of bytes ≡ Ok p → Checked bytes p
unfolding all_of
checked bytes p e =
    let h = bind_ok (shard_header_at bytes) _ _ e in
    let g = bind_ok (shard_footer_at bytes) _ _ h.2 in
    let fs = bind_ok (section_at file_record_at file_record_hash (file_row_count g.0) None (rows_in (file_row_count g.0) (drop g.0.file_info_offset bytes))) _ _ g.2 in
    let xs = bind_ok (section_at xorb_at xorb_record_hash (xorb_row_count g.0) None (rows_in (xorb_row_count g.0) (drop g.0.xorb_info_offset bytes))) _ _ fs.2 in
    let l1 = bind_ok (lookup_at bytes g.0.file_lookup_offset (12 * g.0.file_lookup_num_entry) (record_items_bytes (file_items fs.0))) _ _ xs.2 in
    let l2 = bind_ok (lookup_at bytes g.0.xorb_lookup_offset (12 * g.0.xorb_lookup_num_entry) (record_items_bytes (xorb_items xs.0))) _ _ l1.2 in
    let l3 = bind_ok (lookup_at bytes g.0.chunk_lookup_offset (16 * g.0.chunk_lookup_num_entry) (chunk_items_bytes (chunk_items xs.0))) _ _ l2.2 in
    let t = bind_ok (totals_at g.0 (materialized fs.0) (stored xs.0)) _ _ l3.2 in
    let made : ShardParts = (xs.0, fs.0, g.0) in
    subst (λ (q : ShardParts). Checked bytes q) (ok_is made p t.2) (record { header = h.1; footer = g.1; files = fs.1; blocks = xs.1; heads = l1.1; xorbs = l2.1; chunks = l3.1; totals = t.1 })

pub all_takes : (bytes : List ℕ) (p : ShardParts) → IsBytes bytes → all_of bytes ≡ Ok p → IsRead bytes p
all_takes bytes p fits e =
    let c = checked bytes p e in
    let start = header_takes bytes tt fits c.header in
    read_parts bytes p.1 p.0 p.2 fits start c.files c.blocks (footer_takes bytes p.2 fits start.1 c.footer) tt c.heads tt c.xorbs tt c.chunks (totals_take p.2 (materialized p.1) (stored p.0) tt c.totals)
