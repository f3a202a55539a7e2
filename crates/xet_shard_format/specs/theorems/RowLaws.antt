-- Two theorems for each reader of rows: what is read has these rows, and the rows of a value are read back.
use Rattle.std.proofs.Common.{inl, inr, ◌≡◌, ℕ, zero, suc, Bool, true, false, cond, eqb, leb, List, [], ◌∷◌, ◌++◌, length, map, Option, Some, None, Result, Ok, Err, refl, sym, ap, subst, ◌∙◌, append_assoc, arith, length-append}
use Rattle.std.specs.List.{AllByRecursion}
use Rattle.std.specs.Prelude.{◌⊎◌, is_some}
use Rattle.std.proofs.lemmas.Bool.{eqb-true, eq-eqb, le-leb}
use Rattle.std.proofs.lemmas.List.{length-map}
use Rattle.xet_shard_format.specs.declared.record.FileDataSequenceEntry.{FileDataSequenceEntry}
use Rattle.xet_shard_format.specs.declared.record.FileMetadataExt.{FileMetadataExt}
use Rattle.xet_shard_format.specs.declared.record.FileVerificationEntry.{FileVerificationEntry}
use Rattle.xet_shard_format.specs.declared.record.MDBFileInfo.{MDBFileInfo}
use Rattle.xet_shard_format.specs.declared.row.Row.{Row}
use Rattle.xet_hash.specs.declared.error.StoreError.{StoreError}
use Rattle.xet_hash.specs.declared.error.Reason.{Reason}
use Rattle.xet_shard_format.specs.Rows.{row}
use Rattle.xet_shard_format.specs.Records.{IsFile, ext_rows, file_head, file_rest, flags_of, segment_row, verification_row}
use Rattle.xet_shard_format.specs.Reading.{ext_at, file_record_at, has_ext, hash_row_at, hash_in, is_verified, row_at, rows_after_file, segment_at, times_rows, verification_at}
use Rattle.xet_codec.specs.Parsing.{reaches, wants, ◌>>=◌}

-- ---- tools

pub bind_ok : {A B : Type 0} (r : Result A StoreError) (f : A → Result B StoreError) (y : B) → (r >>= f) ≡ Ok y → (x : A) × (r ≡ Ok x) × (f x ≡ Ok y)
bind_ok (Ok x) f y e = (x, refl, e)
bind_ok (Err d) f y e = absurd cc

pub wants_ok : {B : Type 0} (b : Bool) (d : Reason) (next : Result B StoreError) (y : B) → (wants b d >>= λ _. next) ≡ Ok y → (b ≡ true) × (next ≡ Ok y)
wants_ok true d next y e = (refl, e)
wants_ok false d next y e = absurd cc

pub reaches_ok : {B : Type 0} (b : Bool) (next : Result B StoreError) (y : B) → (reaches b >>= λ _. next) ≡ Ok y → (b ≡ true) × (next ≡ Ok y)
reaches_ok true next y e = (refl, e)
reaches_ok false next y e = absurd cc

pub reaches_last : (b : Bool) (u : Unit {0}) → reaches b ≡ Ok u → b ≡ true
reaches_last true u e = refl
reaches_last false u e = absurd cc

pub wants_last : (b : Bool) (d : Reason) (u : Unit {0}) → wants b d ≡ Ok u → b ≡ true
wants_last true d u e = refl
wants_last false d u e = absurd cc

-- what a choice comes to
pub chosen : {A : Type 0} (b : Bool) (x y z : A) → cond b x y ≡ z → ((b ≡ true) × (x ≡ z)) ⊎ ((b ≡ false) × (y ≡ z))
chosen true x y z e = inl (refl, e)
chosen false x y z e = inr (refl, e)

abbrev pub done : {A : Type 0} → A → Result A StoreError
done x = Ok x

pub ok_is : {A : Type 0} (x y : A) → done x ≡ done y → x ≡ y
ok_is x y e = cc

pub row_ok : (rows : List Row) (x : Row × List Row) → row_at rows ≡ Ok x → rows ≡ x.0 ∷ x.1
row_ok [] x e = absurd cc
row_ok (r ∷ rows) x e = ap (λ (p : Row × List Row). p.0 ∷ p.1) (ok_is (r, rows) x e)

pub row_is : (r : Row) (a b c d : ℕ) → r.a ≡ a → r.b ≡ b → r.c ≡ c → r.d ≡ d → r ≡ row r.hash a b c d
row_is r a b c d ea eb ec ed = λ i. row r.hash (ea i) (eb i) (ec i) (ed i)

-- what a reader of a text, a list of rows of a value that is in form, is to meet
pub record ReadsRows {X : Type 0} (read : List Row → Result (X × List Row) StoreError) (encoding : X → List Row) (Form : X → Type 0) : Type 0 where
  pub takes : (rows : List Row) (x : X) (rest : List Row) → read rows ≡ Ok (x, rest) → (rows ≡ encoding x ++ rest) × Form x
  pub again : (x : X) (rest : List Row) → Form x → read (encoding x ++ rest) ≡ Ok (x, rest)

-- ---- things one after the other

pub times_takes : {X : Type 0} (read : List Row → Result (X × List Row) StoreError) (one : X → Row) (Form : X → Type 0) (each : ReadsRows read (λ x. one x ∷ []) Form) (n : ℕ) (rows : List Row) (xs : List X) (rest : List Row)
    → times_rows read n rows ≡ Ok (xs, rest) → (rows ≡ map one xs ++ rest) × (length xs ≡ n) × AllByRecursion Form xs
unfolding times_rows
times_takes {X} read one Form each zero rows xs rest e =
    subst (λ (y : List X × List Row). (rows ≡ map one y.0 ++ y.1) × (length y.0 ≡ 0) × AllByRecursion Form y.0) (ok_is ([], rows) (xs, rest) e) (refl, refl, tt)
times_takes {X} read one Form each (suc n) rows xs rest e =
    let a = bind_ok (read rows) (λ x. times_rows read n x.1 >>= λ ys. Ok (x.0 ∷ ys.0, ys.1)) (xs, rest) e in
    let b = bind_ok (times_rows read n a.0.1) (λ ys. Ok (a.0.0 ∷ ys.0, ys.1)) (xs, rest) a.2 in
    let first = each.takes rows a.0.0 a.0.1 a.1 in
    let second = times_takes read one Form each n a.0.1 b.0.0 b.0.1 b.1 in
    subst (λ (y : List X × List Row). (rows ≡ map one y.0 ++ y.1) × (length y.0 ≡ suc n) × AllByRecursion Form y.0) (ok_is (a.0.0 ∷ b.0.0, b.0.1) (xs, rest) b.2)
    (first.0 ∙ ap (λ (rs : List Row). one a.0.0 ∷ rs) second.0, ap suc second.1, (first.1, second.2))

pub times_again : {X : Type 0} (read : List Row → Result (X × List Row) StoreError) (one : X → Row) (Form : X → Type 0) (each : ReadsRows read (λ x. one x ∷ []) Form) (xs : List X) (rest : List Row)
    → AllByRecursion Form xs → times_rows read (length xs) (map one xs ++ rest) ≡ Ok (xs, rest)
unfolding times_rows
times_again read one Form each [] rest f = refl
times_again read one Form each (x ∷ xs) rest f = rw (each.again x (map one xs ++ rest) f.0, times_again read one Form each xs rest f.1) refl

-- ---- rows of files

abbrev pub HasNoFlags : FileDataSequenceEntry → Type 0
HasNoFlags s = s.xorb_flags ≡ 0

pub segments_read : ReadsRows segment_at (λ s. segment_row s ∷ []) HasNoFlags
unfolding segment_at
segments_read = record {
  takes = λ rows x rest e.
      let a = bind_ok (row_at rows) _ _ e in
      let b = wants_ok (eqb a.0.0.a 0) _ _ _ a.2 in
      let made : FileDataSequenceEntry = record { xorb_hash = a.0.0.hash; xorb_flags = a.0.0.a; unpacked_segment_bytes = a.0.0.b; chunk_index_start = a.0.0.c; chunk_index_end = a.0.0.d } in
      subst (λ (y : FileDataSequenceEntry × List Row). (rows ≡ (segment_row y.0 ∷ []) ++ y.1) × HasNoFlags y.0) (ok_is (made, a.0.1) (x, rest) b.1)
      (row_ok rows a.0 a.1, eqb-true _ _ b.0);
  again = λ x rest plain. rw (eq-eqb x.xorb_flags 0 plain) refl;
}

pub hash_takes : (r : Row) (h : List ℕ) → hash_in r ≡ Ok h → r ≡ row h 0 0 0 0
unfolding hash_in
hash_takes r h e =
    let a = wants_ok (eqb r.a 0) _ _ _ e in
    let b = wants_ok (eqb r.b 0) _ _ _ a.1 in
    let c = wants_ok (eqb r.c 0) _ _ _ b.1 in
    let d = wants_ok (eqb r.d 0) _ _ _ c.1 in
    row_is r 0 0 0 0 (eqb-true _ _ a.0) (eqb-true _ _ b.0) (eqb-true _ _ c.0) (eqb-true _ _ d.0) ∙ ap (λ (x : List ℕ). row x 0 0 0 0) (ok_is r.hash h d.1)

pub hash_again : (h : List ℕ) → hash_in (row h 0 0 0 0) ≡ Ok h
unfolding hash_in
hash_again h = refl

verification_takes : (rows : List Row) (v : FileVerificationEntry) (rest : List Row) → verification_at rows ≡ Ok (v, rest) → rows ≡ verification_row v ∷ rest
unfolding verification_at hash_row_at
verification_takes rows v rest e =
    let a = bind_ok (hash_row_at rows) _ _ e in
    let b = bind_ok (row_at rows) _ _ a.1 in
    let c = bind_ok (hash_in b.0.0) _ _ b.2 in
    let made : FileVerificationEntry = record { range_hash = a.0.0 } in
    let same : (c.0, b.0.1) ≡ a.0 = ok_is (c.0, b.0.1) a.0 c.2 in
    subst (λ (y : FileVerificationEntry × List Row). rows ≡ verification_row y.0 ∷ y.1) (ok_is (made, a.0.1) (v, rest) a.2)
    (subst (λ (y : List ℕ × List Row). rows ≡ row y.0 0 0 0 0 ∷ y.1) same (row_ok rows b.0 b.1 ∙ ap (λ (r : Row). r ∷ b.0.1) (hash_takes b.0.0 c.0 c.1)))

pub verifications_read : ReadsRows verification_at (λ v. verification_row v ∷ []) (λ _. Unit {0})
unfolding verification_at hash_row_at
verifications_read = record {
  takes = λ rows x rest e. (verification_takes rows x rest e, tt);
  again = λ x rest any. rw (hash_again x.range_hash) refl;
}

ext_takes : (wanted : Bool) (rows : List Row) (m : Option FileMetadataExt) (rest : List Row) → ext_at wanted rows ≡ Ok (m, rest) → (rows ≡ ext_rows m ++ rest) × (is_some m ≡ wanted)
unfolding ext_at hash_row_at
ext_takes false rows m rest e = subst (λ (y : Option FileMetadataExt × List Row). (rows ≡ ext_rows y.0 ++ y.1) × (is_some y.0 ≡ false)) (ok_is (None, rows) (m, rest) e) (refl, refl)
ext_takes true rows m rest e =
    let a = bind_ok (hash_row_at rows) _ _ e in
    let b = bind_ok (row_at rows) _ _ a.1 in
    let c = bind_ok (hash_in b.0.0) _ _ b.2 in
    let made : FileMetadataExt = record { sha256 = a.0.0 } in
    let same : (c.0, b.0.1) ≡ a.0 = ok_is (c.0, b.0.1) a.0 c.2 in
    subst (λ (y : Option FileMetadataExt × List Row). (rows ≡ ext_rows y.0 ++ y.1) × (is_some y.0 ≡ true)) (ok_is (Some made, a.0.1) (m, rest) a.2)
    (subst (λ (y : List ℕ × List Row). rows ≡ row y.0 0 0 0 0 ∷ y.1) same (row_ok rows b.0 b.1 ∙ ap (λ (r : Row). r ∷ b.0.1) (hash_takes b.0.0 c.0 c.1)), refl)

ext_again : (m : Option FileMetadataExt) (rest : List Row) → ext_at (is_some m) (ext_rows m ++ rest) ≡ Ok (m, rest)
unfolding ext_at hash_row_at
ext_again None rest = refl
ext_again (Some m) rest = rw (hash_again m.sha256) refl

-- the flags are those of the two tests
any_each : {X : Type 0} (xs : List X) → AllByRecursion (λ _. Unit {0}) xs
any_each [] = tt
any_each (x ∷ xs) = (tt, any_each xs)

verified_again : (v e : Bool) → is_verified (flags_of v e) ≡ v
verified_again false false = refl
verified_again false true = refl
verified_again true false = refl
verified_again true true = refl

has_ext_again : (v e : Bool) → has_ext (flags_of v e) ≡ e
has_ext_again false false = refl
has_ext_again false true = refl
has_ext_again true false = refl
has_ext_again true true = refl

ext_count : (m : Option FileMetadataExt) → cond (is_some m) 1 0 ≡ length (ext_rows m)
ext_count None = refl
ext_count (Some m) = refl

pub file_takes : (head : Row) (rows : List Row) (f : MDBFileInfo) (rest : List Row) → file_record_at head rows ≡ Ok (f, rest) → (head ≡ file_head f) × (rows ≡ file_rest f ++ rest) × IsFile f
unfolding file_record_at
file_takes head rows f rest e =
    let z = wants_ok (leb (rows_after_file head) (length rows)) _ _ _ e in
    let a = wants_ok (eqb head.a (flags_of (is_verified head.a) (has_ext head.a))) _ _ _ z.1 in
    let c = wants_ok (eqb head.c 0) _ _ _ a.1 in
    let d = wants_ok (eqb head.d 0) _ _ _ c.1 in
    let ss = bind_ok (times_rows segment_at head.b rows) _ _ d.1 in
    let vs = bind_ok (times_rows verification_at (cond (is_verified head.a) head.b 0) ss.0.1) _ _ ss.2 in
    let m = bind_ok (ext_at (has_ext head.a) vs.0.1) _ _ vs.2 in
    let made : MDBFileInfo = record { metadata = record { file_hash = head.hash; file_flags = head.a; num_entries = head.b }; segments = ss.0.0; verification = vs.0.0; metadata_ext = m.0.0 } in
    let st = times_takes segment_at segment_row HasNoFlags segments_read head.b rows ss.0.0 ss.0.1 ss.1 in
    let vt = times_takes verification_at verification_row (λ _. Unit {0}) verifications_read (cond (is_verified head.a) head.b 0) ss.0.1 vs.0.0 vs.0.1 vs.1 in
    let mt = ext_takes (has_ext head.a) vs.0.1 m.0.0 m.0.1 m.1 in
    let encoding : rows ≡ file_rest made ++ m.0.1 =
    st.0 ∙ ap (λ (rs : List Row). map segment_row ss.0.0 ++ rs) (vt.0 ∙ ap (λ (rs : List Row). map verification_row vs.0.0 ++ rs) mt.0 ∙ sym (append_assoc (map verification_row vs.0.0) (ext_rows m.0.0) m.0.1))
    ∙ sym (append_assoc (map segment_row ss.0.0) (map verification_row vs.0.0 ++ ext_rows m.0.0) m.0.1) in
    let form : IsFile made = record {
      counted = sym st.1;
      plain = st.2;
      verified = is_verified head.a;
      verifications = vt.1 ∙ ap (λ (n : ℕ). cond (is_verified head.a) n 0) (sym st.1);
      flags = eqb-true _ _ a.0 ∙ ap (flags_of (is_verified head.a)) (sym mt.1);
    } in
    subst (λ (y : MDBFileInfo × List Row). (head ≡ file_head y.0) × (rows ≡ file_rest y.0 ++ y.1) × IsFile y.0) (ok_is (made, m.0.1) (f, rest) m.2)
    (row_is head _ _ 0 0 refl refl (eqb-true _ _ c.0) (eqb-true _ _ d.0), encoding, form)

pub file_again : (f : MDBFileInfo) (rest : List Row) → IsFile f → file_record_at (file_head f) (file_rest f ++ rest) ≡ Ok (f, rest)
unfolding file_record_at
file_again f rest form =
    let vi : is_verified f.metadata.file_flags ≡ form.verified = ap (λ (n : ℕ). is_verified n) form.flags ∙ verified_again form.verified (is_some f.metadata_ext) in
    let ei : has_ext f.metadata.file_flags ≡ is_some f.metadata_ext = ap (λ (n : ℕ). has_ext n) form.flags ∙ has_ext_again form.verified (is_some f.metadata_ext) in
    let ok : eqb f.metadata.file_flags (flags_of form.verified (is_some f.metadata_ext)) ≡ true = eq-eqb _ _ form.flags in
    let count : cond form.verified f.metadata.num_entries 0 ≡ length f.verification = ap (λ (n : ℕ). cond form.verified n 0) form.counted ∙ sym form.verifications in
    let regrouped : file_rest f ++ rest ≡ map segment_row f.segments ++ (map verification_row f.verification ++ (ext_rows f.metadata_ext ++ rest)) =
    append_assoc (map segment_row f.segments) (map verification_row f.verification ++ ext_rows f.metadata_ext) rest ∙ ap (λ (rs : List Row). map segment_row f.segments ++ rs) (append_assoc (map verification_row f.verification) (ext_rows f.metadata_ext) rest) in
    let ss : times_rows segment_at f.metadata.num_entries (file_rest f ++ rest) ≡ Ok (f.segments, map verification_row f.verification ++ (ext_rows f.metadata_ext ++ rest)) =
    ap (λ (n : ℕ). times_rows segment_at n (file_rest f ++ rest)) form.counted ∙ ap (times_rows segment_at (length f.segments)) regrouped ∙ times_again segment_at segment_row HasNoFlags segments_read f.segments _ form.plain in
    let checks : cond (is_verified f.metadata.file_flags) f.metadata.num_entries 0 ≡ length f.verification = ap (λ (b : Bool). cond b f.metadata.num_entries 0) vi ∙ count in
    let extra : cond (has_ext f.metadata.file_flags) 1 0 ≡ length (ext_rows f.metadata_ext) = ap (λ (b : Bool). cond b 1 0) ei ∙ ext_count f.metadata_ext in
    let room : leb (rows_after_file (file_head f)) (length (file_rest f ++ rest)) ≡ true =
    le-leb _ _ (omega (
      arith,
      ap length regrouped,
      length-append (map segment_row f.segments) (map verification_row f.verification ++ (ext_rows f.metadata_ext ++ rest)),
      length-append (map verification_row f.verification) (ext_rows f.metadata_ext ++ rest),
      length-append (ext_rows f.metadata_ext) rest,
      length-map f.segments segment_row,
      length-map f.verification verification_row,
      form.counted,
      checks,
      extra,
    )) in
    rw (room, vi, ei, ok, ss, count, times_again verification_at verification_row (λ _. Unit {0}) verifications_read f.verification (ext_rows f.metadata_ext ++ rest) (any_each f.verification), ext_again f.metadata_ext rest) refl
