-- Round trip of header and footer: what is read encodes to the bytes, and an encoding is read back.
use Rattle.std.proofs.Common.{◌≡◌, ℕ, ◌+◌, ◌*◌, ◌^◌, ◌<◌, ◌≤◌, eqb, ltb, leb, List, ◌++◌, length, take, drop, Ok, refl, sym, ap, ◌∙◌, arith}
use Rattle.std.specs.Prelude.{replicate, nat_eq}
use Rattle.std.specs.Int.{w64, from_le_bytes, to_le_bytes}
use Rattle.std.specs.Cmp.Lexicographic.{pointwise, bytes_decides}
use Rattle.std.proofs.lemmas.Bool.{eqb-true, eq-eqb, leb-true, le-leb, ltb-true, lt-ltb}
use Rattle.std.proofs.lemmas.List.{take_at, drop_at, take-append-drop, length-append, length-drop, drop-drop, take_all}
use Rattle.std.proofs.lemmas.Nat.{from_le_bytes-to_le_bytes_8}
use Rattle.xet_shard_format.specs.declared.header_footer.MDBShardFileFooter.{MDBShardFileFooter}
use Rattle.xet_codec.specs.Numbers.{word}
use Rattle.xet_shard_format.specs.Encoding.{shard_footer_bytes, header, shard_header_bytes, tag}
use Rattle.xet_shard_format.specs.Reading.{IsPlaced, file_row_count, footer_in, shard_header_at, places_at, xorb_row_count}
use Rattle.xet_shard_format.specs.theorems.RowLaws.{wants_ok, wants_last, reaches_ok, reaches_last}
use Rattle.xet_shard_format.specs.theorems.Bytes.{IsBytes, glue, word_back}

word_then : (bytes : List ℕ) (at : ℕ) (tail : List ℕ) → IsBytes bytes → at + 8 ≤ length bytes → tail ≡ drop (at + 8) bytes → to_le_bytes w64 (word bytes at) ++ tail ≡ drop at bytes
word_then bytes at tail fits le e = (λ i. word_back bytes at fits le i ++ e i) ∙ glue at 8 bytes

-- ---- header

pub header_takes : (bytes : List ℕ) (u : Unit {0}) → IsBytes bytes → shard_header_at bytes ≡ Ok u → (bytes ≡ shard_header_bytes header ++ drop 48 bytes) × (248 ≤ length bytes)
unfolding shard_header_at
header_takes bytes u fits e =
    let a = reaches_ok (leb 32 (length bytes)) _ _ e in
    let b = wants_ok (pointwise nat_eq (take 32 bytes) tag) _ _ _ a.1 in
    let c = reaches_ok (leb 40 (length bytes)) _ _ b.1 in
    let d = wants_ok (eqb (word bytes 32) 2) _ _ _ c.1 in
    let f = reaches_ok (leb 48 (length bytes)) _ _ d.1 in
    let g = wants_ok (eqb (word bytes 40) 200) _ _ _ f.1 in
    let long : 248 ≤ length bytes = leb-true _ _ (reaches_last _ _ g.1) in
    let t40 : to_le_bytes w64 200 ++ drop 48 bytes ≡ drop 40 bytes = ap (λ (n : ℕ). to_le_bytes w64 n ++ drop 48 bytes) (sym (eqb-true _ _ g.0)) ∙ word_then bytes 40 (drop 48 bytes) fits (omega arith) refl in
    let t32 : to_le_bytes w64 2 ++ (to_le_bytes w64 200 ++ drop 48 bytes) ≡ drop 32 bytes = ap (λ (n : ℕ). to_le_bytes w64 n ++ (to_le_bytes w64 200 ++ drop 48 bytes)) (sym (eqb-true _ _ d.0)) ∙ word_then bytes 32 (to_le_bytes w64 200 ++ drop 48 bytes) fits (omega arith) t40 in
    let t0 : tag ++ (to_le_bytes w64 2 ++ (to_le_bytes w64 200 ++ drop 48 bytes)) ≡ bytes = (λ i. sym ((bytes_decides (take 32 bytes) tag).0 b.0) i ++ t32 i) ∙ take-append-drop 32 bytes in
    (sym t0, long)

pub header_again : (rest : List ℕ) → 200 ≤ length rest → shard_header_at (shard_header_bytes header ++ rest) ≡ Ok tt
unfolding shard_header_at
header_again rest long =
    let len : length (shard_header_bytes header ++ rest) ≡ 48 + length rest = length-append (shard_header_bytes header) rest in
    rw (le-leb 32 (length (shard_header_bytes header ++ rest)) (omega arith), le-leb 40 (length (shard_header_bytes header ++ rest)) (omega arith), le-leb 48 (length (shard_header_bytes header ++ rest)) (omega arith), le-leb 248 (length (shard_header_bytes header ++ rest)) (omega arith)) refl

-- ---- footer

pub footer_back : (bytes : List ℕ) → IsBytes bytes → length bytes ≡ 200 → take 48 (drop 120 bytes) ≡ replicate 48 0 → shard_footer_bytes (footer_in bytes) ≡ bytes
unfolding footer_in
footer_back bytes fits len zeros =
    let t192 : to_le_bytes w64 (word bytes 192) ≡ drop 192 bytes = word_back bytes 192 fits (omega arith) ∙ take_all 8 (drop 192 bytes) (omega (arith, length-drop 192 bytes)) in
    let t184 = word_then bytes 184 _ fits (omega arith) t192 in
    let t176 = word_then bytes 176 _ fits (omega arith) t184 in
    let t168 = word_then bytes 168 _ fits (omega arith) t176 in
    let t120 = (λ i. sym zeros i ++ t168 i) ∙ glue 120 48 bytes in
    let t112 = word_then bytes 112 _ fits (omega arith) t120 in
    let t104 = word_then bytes 104 _ fits (omega arith) t112 in
    let t72 = ap (λ (t : List ℕ). take 32 (drop 72 bytes) ++ t) t104 ∙ glue 72 32 bytes in
    let t64 = word_then bytes 64 _ fits (omega arith) t72 in
    let t56 = word_then bytes 56 _ fits (omega arith) t64 in
    let t48 = word_then bytes 48 _ fits (omega arith) t56 in
    let t40 = word_then bytes 40 _ fits (omega arith) t48 in
    let t32 = word_then bytes 32 _ fits (omega arith) t40 in
    let t24 = word_then bytes 24 _ fits (omega arith) t32 in
    let t16 = word_then bytes 16 _ fits (omega arith) t24 in
    let t8 = word_then bytes 8 _ fits (omega arith) t16 in
    word_then bytes 0 _ fits (omega arith) t8

pub record FooterFits (f : MDBShardFileFooter) : Type 0 where
  pub version : f.version < 2 ^ 64
  pub file_info_offset : f.file_info_offset < 2 ^ 64
  pub xorb_info_offset : f.xorb_info_offset < 2 ^ 64
  pub file_lookup_offset : f.file_lookup_offset < 2 ^ 64
  pub file_lookup_num_entry : f.file_lookup_num_entry < 2 ^ 64
  pub xorb_lookup_offset : f.xorb_lookup_offset < 2 ^ 64
  pub xorb_lookup_num_entry : f.xorb_lookup_num_entry < 2 ^ 64
  pub chunk_lookup_offset : f.chunk_lookup_offset < 2 ^ 64
  pub chunk_lookup_num_entry : f.chunk_lookup_num_entry < 2 ^ 64
  pub key : length f.chunk_hash_hmac_key ≡ 32
  pub creation : f.shard_creation_timestamp < 2 ^ 64
  pub expiry : f.shard_key_expiry < 2 ^ 64
  pub stored_bytes_on_disk : f.stored_bytes_on_disk < 2 ^ 64
  pub materialized_bytes : f.materialized_bytes < 2 ^ 64
  pub stored_bytes : f.stored_bytes < 2 ^ 64
  pub footer_offset : f.footer_offset < 2 ^ 64

abbrev after_key : MDBShardFileFooter → List ℕ
after_key f = to_le_bytes w64 f.shard_creation_timestamp ++ (to_le_bytes w64 f.shard_key_expiry ++ (replicate 48 0 ++ (to_le_bytes w64 f.stored_bytes_on_disk ++ (to_le_bytes w64 f.materialized_bytes ++ (to_le_bytes w64 f.stored_bytes ++ to_le_bytes w64 f.footer_offset)))))

past : (f : MDBShardFileFooter) (k : ℕ) → length f.chunk_hash_hmac_key ≡ 32 → drop (32 + k) (f.chunk_hash_hmac_key ++ after_key f) ≡ drop k (after_key f)
past f k len = sym (drop-drop k 32 (f.chunk_hash_hmac_key ++ after_key f)) ∙ ap (drop k) (drop_at f.chunk_hash_hmac_key (after_key f) 32 len)

pub zeros_again : (f : MDBShardFileFooter) → length f.chunk_hash_hmac_key ≡ 32 → take 48 (drop 120 (shard_footer_bytes f)) ≡ replicate 48 0
zeros_again f len = ap (take 48) (past f 16 len)

pub length-footer_bytes : (f : MDBShardFileFooter) → length f.chunk_hash_hmac_key ≡ 32 → length (shard_footer_bytes f) ≡ 200
length-footer_bytes f len =
    let key : length (f.chunk_hash_hmac_key ++ after_key f) ≡ 128 = length-append f.chunk_hash_hmac_key (after_key f) ∙ omega (arith, len) in
    omega (arith, key)

pub footer_again : (f : MDBShardFileFooter) → FooterFits f → footer_in (shard_footer_bytes f) ≡ f
unfolding footer_in
footer_again f fits =
    let back = λ (n : ℕ) (lt : n < 2 ^ 64). from_le_bytes-to_le_bytes_8 n lt in
    let from = λ (k : ℕ). ap (λ (t : List ℕ). from_le_bytes w64 (take 8 t)) (past f k fits.key) in
    λ i. record {
      version = back f.version fits.version i;
      file_info_offset = back f.file_info_offset fits.file_info_offset i;
      xorb_info_offset = back f.xorb_info_offset fits.xorb_info_offset i;
      file_lookup_offset = back f.file_lookup_offset fits.file_lookup_offset i;
      file_lookup_num_entry = back f.file_lookup_num_entry fits.file_lookup_num_entry i;
      xorb_lookup_offset = back f.xorb_lookup_offset fits.xorb_lookup_offset i;
      xorb_lookup_num_entry = back f.xorb_lookup_num_entry fits.xorb_lookup_num_entry i;
      chunk_lookup_offset = back f.chunk_lookup_offset fits.chunk_lookup_offset i;
      chunk_lookup_num_entry = back f.chunk_lookup_num_entry fits.chunk_lookup_num_entry i;
      chunk_hash_hmac_key = take_at f.chunk_hash_hmac_key (after_key f) 32 fits.key i;
      shard_creation_timestamp = (from 0 ∙ back f.shard_creation_timestamp fits.creation) i;
      shard_key_expiry = (from 8 ∙ back f.shard_key_expiry fits.expiry) i;
      stored_bytes_on_disk = (from 64 ∙ back f.stored_bytes_on_disk fits.stored_bytes_on_disk) i;
      materialized_bytes = (from 72 ∙ back f.materialized_bytes fits.materialized_bytes) i;
      stored_bytes = (from 80 ∙ back f.stored_bytes fits.stored_bytes) i;
      footer_offset = (from 88 ∙ back f.footer_offset fits.footer_offset) i;
    }

-- ---- places

pub places_take : (len : ℕ) (f : MDBShardFileFooter) (u : Unit {0}) → places_at len f ≡ Ok u → IsPlaced len f
unfolding places_at
places_take len f u e =
    let a = wants_ok (eqb f.file_info_offset 48) _ _ _ e in
    let b = wants_ok (eqb f.xorb_info_offset (f.file_info_offset + 48 * file_row_count f)) _ _ _ a.1 in
    let x = wants_ok (ltb 0 (file_row_count f)) _ _ _ b.1 in
    let c = wants_ok (ltb (file_row_count f) (2 ^ 32)) _ _ _ x.1 in
    let d = wants_ok (eqb f.file_lookup_offset (f.xorb_info_offset + 48 * xorb_row_count f)) _ _ _ c.1 in
    let y = wants_ok (ltb 0 (xorb_row_count f)) _ _ _ d.1 in
    let g = wants_ok (ltb (xorb_row_count f) (2 ^ 32)) _ _ _ y.1 in
    let h = wants_ok (eqb f.xorb_lookup_offset (f.file_lookup_offset + 12 * f.file_lookup_num_entry)) _ _ _ g.1 in
    let i = wants_ok (eqb f.chunk_lookup_offset (f.xorb_lookup_offset + 12 * f.xorb_lookup_num_entry)) _ _ _ h.1 in
    let j = wants_ok (eqb f.footer_offset (f.chunk_lookup_offset + 16 * f.chunk_lookup_num_entry)) _ _ _ i.1 in
    record {
      files = eqb-true _ _ a.0;
      xorbs = eqb-true _ _ b.0;
      some_files = ltb-true _ _ x.0;
      few_files = ltb-true _ _ c.0;
      file_lookup = eqb-true _ _ d.0;
      some_xorbs = ltb-true _ _ y.0;
      few_xorbs = ltb-true _ _ g.0;
      xorb_lookup = eqb-true _ _ h.0;
      chunk_lookup = eqb-true _ _ i.0;
      footer = eqb-true _ _ j.0;
      end = eqb-true _ _ (wants_last _ _ _ j.1);
    }

pub places_again : (len : ℕ) (f : MDBShardFileFooter) → IsPlaced len f → places_at len f ≡ Ok tt
unfolding places_at
places_again len f p =
    rw (eq-eqb _ _ p.files, eq-eqb _ _ p.xorbs, lt-ltb _ _ p.some_files, lt-ltb _ _ p.few_files, eq-eqb _ _ p.file_lookup, lt-ltb _ _ p.some_xorbs, lt-ltb _ _ p.few_xorbs, eq-eqb _ _ p.xorb_lookup, eq-eqb _ _ p.chunk_lookup, eq-eqb _ _ p.footer, eq-eqb _ _ p.end) refl
