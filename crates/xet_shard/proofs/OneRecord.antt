-- A record is read of the rows that its head tells, and what comes after them is not looked at.
use Rattle.std.proofs.Common.{◌≡◌, ℕ, zero, suc, ◌+◌, ◌-◌, ◌*◌, ◌^◌, ◌≤◌, ◌<◌, Bool, true, false, List, [], ◌∷◌, cond, eqb, ltb, length, take, drop, Option, Some, Result, Ok, Err, refl, sym, ap, subst, ◌∙◌, arith, min, inl, inr, leb}
use Rattle.std.proofs.lemmas.Bool.{cases_Bool, leb-false, leb-true, le-leb, le-ltb, lt-leb, lt-ltb}
use Rattle.std.proofs.lemmas.List.{drop-drop, length-take, take_min}
use Rattle.xet_hash.specs.declared.error.Reason.TheVariants.{SectionEntry, SectionPlace}
use Rattle.xet_hash.specs.declared.error.Reason.{Reason}
use Rattle.xet_hash.specs.declared.error.StoreError.{StoreError}
use Rattle.xet_hash.specs.declared.error.StoreError.TheVariants as errors
use Rattle.xet_shard_format.specs.declared.record.FileDataSequenceEntry.{FileDataSequenceEntry}
use Rattle.xet_shard_format.specs.declared.record.FileMetadataExt.{FileMetadataExt}
use Rattle.xet_shard_format.specs.declared.record.FileVerificationEntry.{FileVerificationEntry}
use Rattle.xet_shard_format.specs.declared.record.MDBFileInfo.{MDBFileInfo}
use Rattle.xet_shard_format.specs.declared.row.Row.{Row}
use Rattle.xet_shard.specs.Queries.{file_after, read_in_row, rows_from}
use Rattle.xet_codec.specs.Parsing.{◌>>=◌, Gives, GivesUnlessFault, wants}
use Rattle.xet_shard_format.specs.Reading.{ext_at, file_record_at, has_ext, hash_row_at, has_rows, hash_in, is_verified, row_at, rows_after_file, segment_at, times_rows, verification_at}
use Rattle.xet_shard_format.specs.Records.{flags_of}
use Rattle.xet_shard_format.specs.Rows.{row_of, rows_in}
use Rattle.xet_shard.proofs.Faulting.{fault_on}
use Rattle.xet_shard_format.specs.theorems.Refusing.{IsAnswer, gives_whole}
use Rattle.xet_shard_format.specs.theorems.RowLaws.{done}
use Rattle.xet_shard_format.specs.theorems.RowList.{length-rows_in, rows_first, rows_prefix}

-- what was read, with so many of the rows after it
abbrev cut : {X : Type 0} → ℕ → Result (X × List Row) StoreError → Result (X × List Row) StoreError
cut m read = read >>= λ x. Ok (x.0, take m x.1)

-- what was read, without the rows after it
abbrev alone : {X : Type 0} → Result (X × List Row) StoreError → Result X StoreError
alone read = read >>= λ x. Ok x.0

-- a reader that looks at one row
abbrev LooksAtOne : {X : Type 0} → (List Row → Result (X × List Row) StoreError) → Type 0
LooksAtOne read = (m : ℕ) (rows : List Row) → read (take (suc m) rows) ≡ cut m (read rows)

cut_bind : {A B : Type 0} (m : ℕ) (r : Result A StoreError) (f : A → Result (B × List Row) StoreError) → cut m (r >>= f) ≡ (r >>= λ x. cut m (f x))
cut_bind m (Ok x) f = refl
cut_bind m (Err e) f = refl

bind_cut : {A B : Type 0} (m : ℕ) (r : Result (A × List Row) StoreError) (f : A × List Row → Result B StoreError) → (cut m r >>= f) ≡ (r >>= λ x. f (x.0, take m x.1))
bind_cut m (Ok x) f = refl
bind_cut m (Err e) f = refl

-- what goes on alike after the same
goes_alike : {A B : Type 0} (r : Result A StoreError) (f g : A → Result B StoreError) → ((x : A) → f x ≡ g x) → (r >>= f) ≡ (r >>= g)
goes_alike (Ok x) f g same = same x
goes_alike (Err e) f g same = refl

-- what goes on after a part of the rows, and after all of them
after_cut : {A B : Type 0} (m k : ℕ) (part all : Result (A × List Row) StoreError) (f : A × List Row → Result (B × List Row) StoreError) → part ≡ cut m all → ((x : A) (rows : List Row) → f (x, take m rows) ≡ cut k (f (x, rows)))
    → (part >>= f) ≡ cut k (all >>= f)
after_cut m k part all f e each = ap (λ (r : Result (_ × List Row) StoreError). r >>= f) e ∙ bind_cut m all f ∙ goes_alike all _ _ (λ x. each x.0 x.1) ∙ sym (cut_bind k all f)

-- a test before
test_cut : {B : Type 0} (b : Bool) (reason : Reason) (part all : Result (B × List Row) StoreError) → part ≡ cut 0 all → (wants b reason >>= λ _. part) ≡ cut 0 (wants b reason >>= λ _. all)
test_cut true reason part all same = same
test_cut false reason part all same = refl

row_cut : (m : ℕ) (rows : List Row) → row_at (take (suc m) rows) ≡ cut m (row_at rows)
row_cut m [] = refl
row_cut m (r ∷ rows) = refl

times_cut : {X : Type 0} (read : List Row → Result (X × List Row) StoreError) → LooksAtOne read → (n m : ℕ) (rows : List Row) → times_rows read n (take (n + m) rows) ≡ cut m (times_rows read n rows)
unfolding times_rows
times_cut read one zero m rows = let e : 0 + m ≡ m = omega arith in ap (λ (j : ℕ). done ([], take j rows)) e
times_cut read one (suc n) m rows =
    let e : suc n + m ≡ suc (n + m) = omega arith in
    ap (λ (j : ℕ). times_rows read (suc n) (take j rows)) e ∙ after_cut (n + m) m (read (take (suc (n + m)) rows)) (read rows) (λ x. times_rows read n x.1 >>= λ xs. Ok (x.0 ∷ xs.0, xs.1)) (one (n + m) rows) (λ x rest.
    after_cut m m (times_rows read n (take (n + m) rest)) (times_rows read n rest) (λ xs. Ok (x ∷ xs.0, xs.1)) (times_cut read one n m rest) (λ xs others. refl))

segment_cut : LooksAtOne segment_at
unfolding segment_at
segment_cut m [] = refl
segment_cut m (r ∷ rows) = by (eqb r.a 0)
  where
    made : FileDataSequenceEntry
    made = record { xorb_hash = r.hash; xorb_flags = r.a; unpacked_segment_bytes = r.b; chunk_index_start = r.c; chunk_index_end = r.d }

    by : (b : Bool) → (wants b SectionEntry >>= λ _. Ok (made, take m rows)) ≡ cut m (wants b SectionEntry >>= λ _. Ok (made, rows))
    by true = refl
    by false = refl

hash_cut : LooksAtOne hash_row_at
unfolding hash_row_at
hash_cut m [] = refl
hash_cut m (r ∷ rows) = by (hash_in r)
  where
    by : (h : Result (List ℕ) StoreError) → (h >>= λ x. Ok (x, take m rows)) ≡ cut m (h >>= λ x. Ok (x, rows))
    by (Ok x) = refl
    by (Err e) = refl

verification_cut : LooksAtOne verification_at
unfolding verification_at
verification_cut m rows =
    let made : List ℕ × List Row → Result (FileVerificationEntry × List Row) StoreError = λ h. Ok (record { range_hash = h.0 }, h.1) in
    after_cut m m (hash_row_at (take (suc m) rows)) (hash_row_at rows) made (hash_cut m rows) (λ h rest. refl)

ext_cut : (there : Bool) (rows : List Row) → ext_at there (take (cond there 1 0) rows) ≡ cut 0 (ext_at there rows)
unfolding ext_at
ext_cut false rows = refl
ext_cut true rows =
    let made : List ℕ × List Row → Result (Option FileMetadataExt × List Row) StoreError = λ h. Ok (Some (record { sha256 = h.0 }), h.1) in
    after_cut 0 0 (hash_row_at (take 1 rows)) (hash_row_at rows) made (hash_cut 0 rows) (λ h rest. refl)

-- so many rows are left, whether or not more are looked at
room : (n : ℕ) (rows : List Row) → leb n (length (take n rows)) ≡ leb n (length rows)
room n rows = elim (cases_Bool (leb n (length rows))) [
  | inl e ↦ le-leb n (length (take n rows)) (omega (arith, leb-true n (length rows) e, length-take n rows)) ∙ sym e
  | inr e ↦ lt-leb n (length (take n rows)) (omega (arith, leb-false n (length rows) e, length-take n rows)) ∙ sym e
]

room_cut : {B : Type 0} (n : ℕ) (rows : List Row) (part all : Result (B × List Row) StoreError) → part ≡ cut 0 all → (has_rows n (take n rows) >>= λ _. part) ≡ cut 0 (has_rows n rows >>= λ _. all)
room_cut n rows part all same = ap (λ (b : Bool). wants b SectionPlace >>= λ _. part) (room n rows) ∙ test_cut (leb n (length rows)) SectionPlace part all same

file_cut : (head : Row) (rows : List Row) → file_record_at head (take (rows_after_file head) rows) ≡ cut 0 (file_record_at head rows)
unfolding file_record_at
file_cut head rows =
    let b : ℕ = cond (is_verified head.a) head.b 0 in
    let e : ℕ = cond (has_ext head.a) 1 0 in
    let made : List FileDataSequenceEntry → List FileVerificationEntry → Option FileMetadataExt → MDBFileInfo = λ ss vs m. record { metadata = record { file_hash = head.hash; file_flags = head.a; num_entries = head.b }; segments = ss; verification = vs; metadata_ext = m } in
    let last : List FileDataSequenceEntry → List FileVerificationEntry → Option FileMetadataExt × List Row → Result (MDBFileInfo × List Row) StoreError = λ ss vs m. Ok (made ss vs m.0, m.1) in
    let second : List FileDataSequenceEntry → List FileVerificationEntry × List Row → Result (MDBFileInfo × List Row) StoreError = λ ss vs. ext_at (has_ext head.a) vs.1 >>= last ss vs.0 in
    let first : List FileDataSequenceEntry × List Row → Result (MDBFileInfo × List Row) StoreError = λ ss. times_rows verification_at b ss.1 >>= second ss.0 in
    room_cut (rows_after_file head) rows _ _ (test_cut (eqb head.a (flags_of (is_verified head.a) (has_ext head.a))) SectionEntry _ _
    (test_cut (eqb head.c 0) SectionEntry _ _ (test_cut (eqb head.d 0) SectionEntry _ _
    (after_cut (b + e) 0 (times_rows segment_at head.b (take (head.b + (b + e)) rows)) (times_rows segment_at head.b rows) first (times_cut segment_at segment_cut head.b (b + e) rows) (λ ss rest.
    after_cut e 0 (times_rows verification_at b (take (b + e) rest)) (times_rows verification_at b rest) (second ss) (times_cut verification_at verification_cut b e rest) (λ vs others.
    after_cut 0 0 (ext_at (has_ext head.a) (take e others)) (ext_at (has_ext head.a) others) (last ss vs) (ext_cut (has_ext head.a) others) (λ m left. refl)))))))

alone_cut : {X : Type 0} (read : Result (X × List Row) StoreError) → alone (cut 0 read) ≡ alone read
alone_cut (Ok x) = refl
alone_cut (Err e) = refl

pub file_alone : (head : Row) (n : ℕ) (rows : List Row) → n ≡ rows_after_file head → file_after head (take n rows) ≡ file_after head rows
file_alone head n rows e = ap (λ (k : ℕ). alone (file_record_at head (take k rows))) e ∙ ap (λ (r : Result (MDBFileInfo × List Row) StoreError). alone r) (file_cut head rows) ∙ alone_cut (file_record_at head rows)

-- ---- what was read of the rows after the head

pub alone_gives : {X : Type 0} (rest : List Row) (result : Result X StoreError) (read : Result (X × List Row) StoreError) → IsAnswer read → Gives (λ x. (x, rest)) result read → GivesUnlessFault (λ x. x) result (alone read)
alone_gives {X} rest (Ok x) read answers gives = ap (λ (r : Result (X × List Row) StoreError). alone r) gives
alone_gives {X} rest (Err e) read answers gives = fault_on {A = X} (λ x. (x, rest)) (λ x. x) e read (λ x. Ok x.0) (gives_whole (λ (x : X). (x, rest)) (Err e) read read answers refl gives)

-- where a piece that is there was not read, the reader failed, or memory was wanting
pub stops : {A B X Y : Type 0} (first : A → X) (then : B → Y) (e : StoreError) (x : X) (read : Result X StoreError) (whole : Result Y StoreError) → read ≡ Ok x → GivesUnlessFault first (Err e) read → GivesUnlessFault then (Err e) whole
stops {A} {B} {X} {Y} first then e x read whole there gives = subst (λ (r : Result X StoreError). GivesUnlessFault {X = B} then (Err e) (r >>= λ _. whole)) there (fault_on first then e read (λ _. whole) gives)

-- ---- the record in a row of a section

pub rows_wanted : (n m k : ℕ) (piece bytes : List ℕ) → k ≡ min n m → piece ≡ take (48 * k) bytes → rows_in k piece ≡ take n (rows_in m bytes)
rows_wanted n m k piece bytes e is =
    let some : k ≡ min n (length (rows_in m bytes)) = e ∙ ap (min n) (sym (length-rows_in m bytes)) in
    ap (rows_in k) is ∙ rows_first k bytes ∙ rows_prefix k m bytes (omega (arith, e)) ∙ ap (λ (j : ℕ). take j (rows_in m bytes)) some ∙ take_min n (rows_in m bytes)

module _ {X : Type 0} (read : Row → List Row → Result X StoreError) (bytes : List ℕ) where
  -- in a section and in what is left of it from the row on
  pub from_row : (at count row : ℕ) → count < 2 ^ 32 → row < count → at + 48 * count ≤ length bytes → read_in_row read (at + 48 * row) (count - row) 0 bytes ≡ read_in_row read at count row bytes
  unfolding read_in_row rows_from
  from_row at count row few below le =
      let a : count - row < 2 ^ 32 = omega arith in
      let b : 0 < count - row = omega arith in
      let c : at + 48 * row + 48 * (count - row) ≤ length bytes = omega arith in
      let d : count - row - 0 ≡ count - row = omega arith in
      let e : at + 48 * row + 48 * 0 ≡ at + 48 * row = omega arith in
      rw (lt-ltb (count - row) (2 ^ 32) a, lt-ltb 0 (count - row) b, le-leb (at + 48 * row + 48 * (count - row)) (length bytes) c, lt-ltb count (2 ^ 32) few, lt-ltb row count below, le-leb (at + 48 * count) (length bytes) le)
      (λ i. row_at (rows_in (d i) (drop (e i) bytes)) >>= λ r. read r.0 r.1)

  -- the head is the first row
  pub at_head : (at count : ℕ) → 0 < count → count < 2 ^ 32 → at + 48 * count ≤ length bytes → read_in_row read at count 0 bytes ≡ read (row_of (drop at bytes)) (rows_in (count - 1) (drop (at + 48) bytes))
  unfolding read_in_row rows_from rows_in
  at_head at count some few le =
      let d : count - 0 ≡ suc (count - 1) = omega arith in
      let e : at + 48 * 0 ≡ at = omega arith in
      rw (lt-ltb count (2 ^ 32) few, lt-ltb 0 count some, le-leb (at + 48 * count) (length bytes) le)
      ((λ i. row_at (rows_in (d i) (drop (e i) bytes)) >>= λ r. read r.0 r.1) ∙ ap (λ (b : List ℕ). read (row_of (drop at bytes)) (rows_in (count - 1) b)) (drop-drop 48 at bytes))

-- ---- how many rows there are from a row on

module _ (bytes : List ℕ) where
  pub row_past : (at count row : ℕ) → count ≤ row → rows_from at count row bytes ≡ Err (errors.MalformedData SectionPlace)
  unfolding rows_from
  row_past at count row past = rw (le-ltb row count past) (either (ltb count (2 ^ 32)))
    where
      refused : Result ℕ StoreError
      refused = Err (errors.MalformedData SectionPlace)

      either : (b : Bool) → (wants b SectionPlace >>= λ _. refused) ≡ refused
      either true = refl
      either false = refl

  pub rows_past : (at count row : ℕ) → 2 ^ 32 ≤ count → rows_from at count row bytes ≡ Err (errors.MalformedData SectionPlace)
  unfolding rows_from
  rows_past at count row many = rw (le-ltb count (2 ^ 32) many) refl

  pub end_past : (at count row : ℕ) → count < 2 ^ 32 → row < count → length bytes < at + 48 * count → rows_from at count row bytes ≡ Err errors.UnexpectedEof
  unfolding rows_from
  end_past at count row few below past = rw (lt-ltb count (2 ^ 32) few, lt-ltb row count below, lt-leb (at + 48 * count) (length bytes) past) refl

  pub rows_left : (at count row : ℕ) → count < 2 ^ 32 → row < count → at + 48 * count ≤ length bytes → rows_from at count row bytes ≡ Ok (count - row)
  unfolding rows_from
  rows_left at count row few below le = rw (lt-ltb count (2 ^ 32) few, lt-ltb row count below, le-leb (at + 48 * count) (length bytes) le) refl

-- where there are not as many, nothing is read of the row
pub in_row_fails : {X B : Type 0} (read : Row → List Row → Result X StoreError) (then : B → X) (at count row : ℕ) (e : StoreError) (bytes : List ℕ) → GivesUnlessFault {X = ℕ} (λ n. n) (Err e) (rows_from at count row bytes)
    → GivesUnlessFault then (Err e) (read_in_row read at count row bytes)
unfolding read_in_row
in_row_fails read then at count row e bytes gives = fault_on {A = ℕ} (λ n. n) then e (rows_from at count row bytes) _ gives

module _ (bytes : List ℕ) where
  -- the file by its head and by as many of the rows after it as it has, and as there are
  pub by_piece : (at count n rest : ℕ) (head : Row) (piece : List ℕ) → 0 < count → count < 2 ^ 32 → at + 48 * count ≤ length bytes → head ≡ row_of (drop at bytes) → n ≡ rows_after_file head → rest ≡ min n (count - 1)
      → piece ≡ take (48 * rest) (drop (at + 48) bytes) → file_after head (rows_in rest piece) ≡ read_in_row file_after at count 0 bytes
  by_piece at count n rest head piece some few le is own e piece_is =
      ap (λ (rs : List Row). file_after head rs) (rows_wanted n (count - 1) rest piece (drop (at + 48) bytes) e piece_is) ∙ file_alone head n (rows_in (count - 1) (drop (at + 48) bytes)) own
      ∙ ap (λ (r : Row). file_after r (rows_in (count - 1) (drop (at + 48) bytes))) is ∙ sym (at_head file_after bytes at count some few le)
