-- The same two theorems for xorbs and for whole sections.
use Rattle.std.proofs.Common.{◌≡◌, ℕ, zero, suc, ◌+◌, ◌<◌, true, false, eqb, leb, List, [], ◌∷◌, ◌++◌, length, map, Option, Some, None, Result, Ok, refl, sym, ap, subst, ◌∙◌, append_assoc, length-append, arith, inl, inr}
use Rattle.std.specs.List.{flat_map}
use Rattle.std.specs.Prelude.{nat_eq}
use Rattle.std.specs.Cmp.Lexicographic.{pointwise, bytes_decides}
use Rattle.std.proofs.lemmas.Bool.{eqb-true, eq-eqb, le-leb, false_from_ne_true, true≢false}
use Rattle.std.proofs.lemmas.List.{length-map, nil_from_length}
use Rattle.std.proofs.lemmas.List.Concat.{flat_map-cons}
use Rattle.std.proofs.lemmas.List.Sums.{sum_by-cons}
use Rattle.xet_shard_format.specs.declared.record.MDBXorbInfo.{MDBXorbInfo}
use Rattle.xet_shard_format.specs.declared.row.Row.{Row}
use Rattle.xet_shard_format.specs.declared.record.XorbChunkSequenceEntry.{XorbChunkSequenceEntry}
use Rattle.xet_hash.specs.declared.error.StoreError.{StoreError}
use Rattle.xet_shard_format.specs.Rows.{row}
use Rattle.xet_hash.specs.Hash.{sentinel}
use Rattle.xet_shard_format.specs.Records.{AreRecords, IsFile, IsXorb, StartAt, chunk_bytes, chunk_row, end_row, file_record_hash, file_head, file_rest, is_after, section, xorb_record_hash, xorb_head, xorb_rest}
use Rattle.xet_shard_format.specs.Reading.{chunk_in, chunks_at, end_at, file_record_at, hash_in, row_at, section_at, step_at, xorb_at}
use Rattle.xet_codec.specs.Parsing.{◌>>=◌}
use Rattle.xet_shard_format.specs.theorems.RowLaws.{chosen, bind_ok, wants_ok, wants_last, done, ok_is, row_ok, row_is, hash_takes, file_takes, file_again}

-- ---- xorbs

chunk_takes : (r : Row) (at : ℕ) (c : XorbChunkSequenceEntry) → chunk_in r at ≡ Ok c → (r ≡ chunk_row c) × (c.chunk_byte_range_start ≡ at)
unfolding chunk_in
chunk_takes r at c e =
    let a = wants_ok (eqb r.a at) _ _ _ e in
    let b = wants_ok (eqb r.c 0) _ _ _ a.1 in
    let d = wants_ok (eqb r.d 0) _ _ _ b.1 in
    let made : XorbChunkSequenceEntry = record { chunk_hash = r.hash; chunk_byte_range_start = r.a; unpacked_segment_bytes = r.b } in
    subst (λ (y : XorbChunkSequenceEntry). (r ≡ chunk_row y) × (y.chunk_byte_range_start ≡ at)) (ok_is made c d.1) (row_is r _ _ 0 0 refl refl (eqb-true _ _ b.0) (eqb-true _ _ d.0), eqb-true _ _ a.0)

pub chunk_again : (c : XorbChunkSequenceEntry) (at : ℕ) → c.chunk_byte_range_start ≡ at → chunk_in (chunk_row c) at ≡ Ok c
unfolding chunk_in
chunk_again c at e = rw (eq-eqb _ _ e) refl

pub chunk_total : (c : XorbChunkSequenceEntry) (cs : List XorbChunkSequenceEntry) → chunk_bytes (c ∷ cs) ≡ c.unpacked_segment_bytes + chunk_bytes cs
chunk_total c cs = sum_by-cons (λ (c : XorbChunkSequenceEntry). c.unpacked_segment_bytes) c cs

chunks_take : (n at : ℕ) (rows : List Row) (cs : List XorbChunkSequenceEntry) (total : ℕ) (rest : List Row) → chunks_at n at rows ≡ Ok (cs, total, rest)
    → (rows ≡ map chunk_row cs ++ rest) × (length cs ≡ n) × StartAt at cs × (total ≡ at + chunk_bytes cs)
unfolding chunks_at
chunks_take zero at rows cs total rest e =
    subst (λ (y : List XorbChunkSequenceEntry × ℕ × List Row). (rows ≡ map chunk_row y.0 ++ y.2) × (length y.0 ≡ 0) × StartAt at y.0 × (y.1 ≡ at + chunk_bytes y.0)) (ok_is ([], at, rows) (cs, total, rest) e) (refl, refl, tt, omega arith)
chunks_take (suc n) at rows cs total rest e =
    let a = bind_ok (row_at rows) _ _ e in
    let b = bind_ok (chunk_in a.0.0 at) _ _ a.2 in
    let c = bind_ok (chunks_at n (a.0.0.a + a.0.0.b) a.0.1) _ _ b.2 in
    let one = chunk_takes a.0.0 at b.0 b.1 in
    let others = chunks_take n (a.0.0.a + a.0.0.b) a.0.1 c.0.0 c.0.1 c.0.2 c.1 in
    let encoding : rows ≡ chunk_row b.0 ∷ (map chunk_row c.0.0 ++ c.0.2) = row_ok rows a.0 a.1 ∙ ap (λ (r : Row). r ∷ a.0.1) one.0 ∙ ap (λ (rs : List Row). chunk_row b.0 ∷ rs) others.0 in
    let ends : a.0.0.a + a.0.0.b ≡ at + b.0.unpacked_segment_bytes = ap (λ (r : Row). r.a + r.b) one.0 ∙ ap (λ (n : ℕ). n + b.0.unpacked_segment_bytes) one.1 in
    let starts : StartAt (at + b.0.unpacked_segment_bytes) c.0.0 = subst (λ (n : ℕ). StartAt n c.0.0) ends others.2 in
    subst (λ (y : List XorbChunkSequenceEntry × ℕ × List Row). (rows ≡ map chunk_row y.0 ++ y.2) × (length y.0 ≡ suc n) × StartAt at y.0 × (y.1 ≡ at + chunk_bytes y.0)) (ok_is (b.0 ∷ c.0.0, c.0.1, c.0.2) (cs, total, rest) c.2)
    (encoding, ap suc others.1, (one.1, starts), omega (arith, others.3, ends, chunk_total b.0 c.0.0))

chunks_again : (at : ℕ) (cs : List XorbChunkSequenceEntry) (rest : List Row) → StartAt at cs → chunks_at (length cs) at (map chunk_row cs ++ rest) ≡ Ok (cs, at + chunk_bytes cs, rest)
unfolding chunks_at
chunks_again at [] rest s = ap (λ (n : ℕ). done ([], n, rest)) (omega arith)
chunks_again at (c ∷ cs) rest s =
    let next : c.chunk_byte_range_start + c.unpacked_segment_bytes ≡ at + c.unpacked_segment_bytes = ap (λ (n : ℕ). n + c.unpacked_segment_bytes) s.0 in
    rw (chunk_again c at s.0, next, chunks_again (at + c.unpacked_segment_bytes) cs rest s.1) (ap (λ (n : ℕ). done (c ∷ cs, n, rest)) (omega (arith, chunk_total c cs)))

pub xorb_takes : (head : Row) (rows : List Row) (x : MDBXorbInfo) (rest : List Row) → xorb_at head rows ≡ Ok (x, rest) → (head ≡ xorb_head x) × (rows ≡ xorb_rest x ++ rest) × IsXorb x
unfolding xorb_at
xorb_takes head rows x rest e =
    let z = wants_ok (leb head.b (length rows)) _ _ _ e in
    let a = wants_ok (eqb head.a 0) _ _ _ z.1 in
    let b = wants_ok (eqb head.d 0) _ _ _ a.1 in
    let c = bind_ok (chunks_at head.b 0 rows) _ _ b.1 in
    let d = wants_ok (eqb c.0.1 head.c) _ _ _ c.2 in
    let made : MDBXorbInfo = record { metadata = record { xorb_hash = head.hash; xorb_flags = head.a; num_entries = head.b; num_bytes_in_xorb = head.c; num_bytes_on_disk = head.d }; chunks = c.0.0 } in
    let t = chunks_take head.b 0 rows c.0.0 c.0.1 c.0.2 c.1 in
    let form : IsXorb made = record {
      counted = sym t.1;
      plain = eqb-true _ _ a.0;
      starts = t.2;
      total = omega (arith, t.3, eqb-true _ _ d.0);
      on_disk = eqb-true _ _ b.0;
    } in
    subst (λ (y : MDBXorbInfo × List Row). (head ≡ xorb_head y.0) × (rows ≡ xorb_rest y.0 ++ y.1) × IsXorb y.0) (ok_is (made, c.0.2) (x, rest) d.1) (refl, t.0, form)

pub xorb_again : (x : MDBXorbInfo) (rest : List Row) → IsXorb x → xorb_at (xorb_head x) (xorb_rest x ++ rest) ≡ Ok (x, rest)
unfolding xorb_at
xorb_again x rest form =
    let cs : chunks_at x.metadata.num_entries 0 (map chunk_row x.chunks ++ rest) ≡ Ok (x.chunks, 0 + chunk_bytes x.chunks, rest) = ap (λ (n : ℕ). chunks_at n 0 (map chunk_row x.chunks ++ rest)) form.counted ∙ chunks_again 0 x.chunks rest form.starts in
    let total : eqb (0 + chunk_bytes x.chunks) x.metadata.num_bytes_in_xorb ≡ true = eq-eqb _ _ (omega (arith, form.total)) in
    let room : leb x.metadata.num_entries (length (map chunk_row x.chunks ++ rest)) ≡ true = le-leb _ _ (omega (arith, length-append (map chunk_row x.chunks) rest, length-map x.chunks chunk_row, form.counted)) in
    rw (room, eq-eqb _ _ form.plain, eq-eqb _ _ form.on_disk, cs, total) refl

-- ---- sections

-- the rows of a section, from the first record on
pub section_cons : {X : Type 0} (rows : X → List Row) (x : X) (xs : List X) → section rows (x ∷ xs) ≡ rows x ++ section rows xs
section_cons rows x xs = ap (λ (rs : List Row). rs ++ end_row ∷ []) (flat_map-cons rows x xs) ∙ append_assoc (rows x) (flat_map rows xs) (end_row ∷ [])

-- a record is a head and rows after it
pub record Reading {X : Type 0} (record_at : Row → List Row → Result (X × List Row) StoreError) (hash : X → List ℕ) (head : X → Row) (others : X → List Row) (Form : X → Type 0) : Type 0 where
  pub hash_is : (x : X) → (head x).hash ≡ hash x
  pub takes : (r : Row) (rows : List Row) (x : X) (rest : List Row) → record_at r rows ≡ Ok (x, rest) → (r ≡ head x) × (rows ≡ others x ++ rest) × Form x
  pub again : (x : X) (rest : List Row) → Form x → record_at (head x) (others x ++ rest) ≡ Ok (x, rest)

pub files_reading : Reading file_record_at file_record_hash file_head file_rest IsFile
files_reading = record { hash_is = λ x. refl; takes = file_takes; again = file_again }

pub xorbs_reading : Reading xorb_at xorb_record_hash xorb_head xorb_rest IsXorb
xorbs_reading = record { hash_is = λ x. refl; takes = xorb_takes; again = xorb_again }

end_takes : (r : Row) (rows : List Row) (u : Unit {0}) → pointwise nat_eq r.hash sentinel ≡ true → end_at r rows ≡ Ok u → (r ≡ end_row) × (rows ≡ [])
unfolding end_at
end_takes r rows u m e =
    let a = bind_ok (hash_in r) _ _ e in
    let is : r.hash ≡ sentinel = (bytes_decides r.hash sentinel).0 m in
    let hash : r.hash ≡ a.0 = ap (λ (x : Row). x.hash) (hash_takes r a.0 a.1) in
    (hash_takes r a.0 a.1 ∙ ap (λ (h : List ℕ). row h 0 0 0 0) (sym hash ∙ is), nil_from_length rows (eqb-true _ _ (wants_last _ _ _ a.2)))

pub section_takes : {X : Type 0} (record_at : Row → List Row → Result (X × List Row) StoreError) (hash : X → List ℕ) (head : X → Row) (others : X → List Row) (Form : X → Type 0) (each : Reading record_at hash head others Form)
    (n : ℕ) (last : Option (List ℕ)) (rows : List Row) (xs : List X) → section_at record_at hash n last rows ≡ Ok xs → (rows ≡ section (λ x. head x ∷ others x) xs) × AreRecords hash Form last xs
unfolding section_at step_at
section_takes {X} record_at hash head others Form each zero last rows xs e = absurd cc
section_takes {X} record_at hash head others Form each (suc n) last rows xs e =
    let a = bind_ok (step_at record_at last rows) _ _ e in
    let b = bind_ok (row_at rows) _ _ a.1 in
    elim (chosen (pointwise nat_eq b.0.0.hash sentinel) _ _ _ b.2) [
      | inl (m, f) ↦
          let u = bind_ok (end_at b.0.0 b.0.1) _ _ f in
          let t = end_takes b.0.0 b.0.1 u.0 m u.1 in
          let none : None ≡ a.0.0 = ap (λ (p : Option X × List Row). p.0) (ok_is (None, b.0.1) a.0 u.2) in
          let empty : [] ≡ xs = ok_is [] xs (ap (λ (o : Option X). elim o as (λ _. Result (List X) StoreError) [ None ↦ Ok [] | Some y ↦ section_at record_at hash n (Some (hash y)) a.0.1 >>= λ ys. Ok (y ∷ ys) ]) none ∙ a.2) in
          subst (λ (ys : List X). (rows ≡ section (λ x. head x ∷ others x) ys) × AreRecords hash Form last ys) empty
          (row_ok rows b.0 b.1 ∙ ap (λ (r : Row). r ∷ b.0.1) t.0 ∙ ap (λ (rs : List Row). end_row ∷ rs) t.1, tt)
      | inr (m, f) ↦
          let x = bind_ok (record_at b.0.0 b.0.1) _ _ f in
          let w = wants_ok (is_after last b.0.0.hash) _ _ _ x.2 in
          let t = each.takes b.0.0 b.0.1 x.0.0 x.0.1 x.1 in
          let same : (Some x.0.0, x.0.1) ≡ a.0 = ok_is (Some x.0.0, x.0.1) a.0 w.1 in
          let next : (section_at record_at hash n (Some (hash x.0.0)) x.0.1 >>= λ ys. Ok (x.0.0 ∷ ys)) ≡ Ok xs = ap (λ (p : Option X × List Row). elim (p.0) as (λ _. Result (List X) StoreError) [ None ↦ Ok [] | Some y ↦ section_at record_at hash n (Some (hash y)) p.1 >>= λ ys. Ok (y ∷ ys) ]) same ∙ a.2 in
          let ys = bind_ok (section_at record_at hash n (Some (hash x.0.0)) x.0.1) _ _ next in
          let rest = section_takes record_at hash head others Form each n (Some (hash x.0.0)) x.0.1 ys.0 ys.1 in
          let hash_is : b.0.0.hash ≡ hash x.0.0 = ap (λ (r : Row). r.hash) t.0 ∙ each.hash_is x.0.0 in
          subst (λ (ys : List X). (rows ≡ section (λ x. head x ∷ others x) ys) × AreRecords hash Form last ys) (ok_is (x.0.0 ∷ ys.0) xs ys.2) (
            row_ok rows b.0 b.1 ∙ ap (λ (r : Row). r ∷ b.0.1) t.0 ∙ ap (λ (rs : List Row). head x.0.0 ∷ rs) (t.1 ∙ ap (λ (rs : List Row). others x.0.0 ++ rs) rest.0) ∙ sym (section_cons (λ (x : X). head x ∷ others x) x.0.0 ys.0),
            (ap (is_after last) (sym hash_is) ∙ w.0, (λ is. absurd (true≢false (sym ((bytes_decides b.0.0.hash sentinel).1 (hash_is ∙ is)) ∙ m))), t.2, rest.1),
          )
    ]

pub section_again : {X : Type 0} (record_at : Row → List Row → Result (X × List Row) StoreError) (hash : X → List ℕ) (head : X → Row) (others : X → List Row) (Form : X → Type 0) (each : Reading record_at hash head others Form)
    (n : ℕ) (last : Option (List ℕ)) (xs : List X) → length xs < n → AreRecords hash Form last xs → section_at record_at hash n last (section (λ x. head x ∷ others x) xs) ≡ Ok xs
unfolding section_at step_at end_at hash_in
section_again {X} record_at hash head others Form each zero last xs lt r = absurd (omega arith)
section_again {X} record_at hash head others Form each (suc n) last [] lt r = refl
section_again {X} record_at hash head others Form each (suc n) last (x ∷ xs) lt r =
    let apart : pointwise nat_eq (head x).hash sentinel ≡ false = false_from_ne_true _ (λ e. absurd (r.1 (sym (each.hash_is x) ∙ (bytes_decides (head x).hash sentinel).0 e))) in
    let after : is_after last (head x).hash ≡ true = ap (is_after last) (each.hash_is x) ∙ r.0 in
    ap (section_at record_at hash (suc n) last) (section_cons (λ (x : X). head x ∷ others x) x xs)
    ∙ rw (apart, each.again x (section (λ x. head x ∷ others x) xs) r.2, after, section_again record_at hash head others Form each n (Some (hash x)) xs (omega arith) r.3) refl
