-- Reading fails for bytes that end too early or that fail a check, and for nothing else.
use Rattle.std.proofs.Common.{◌≡◌, ℕ, zero, suc, ◌+◌, ◌-◌, ◌*◌, ◌^◌, ◌≤◌, Bool, true, false, List, [], ◌∷◌, length, drop, take, replicate, nat_eq, nat_le, nat_lt, if◌then◌else◌, Option, None, Some, Result, Ok, Err, IfErr, IsErrOf, subst, refl, sym, ap}
use Rattle.xet_hash.specs.declared.error.Place.{Place}
use Rattle.xet_hash.specs.declared.error.Place.TheVariants.{Input}
use Rattle.xet_io.specs.Faults.{HasCause}
use Rattle.xet_hash.specs.declared.error.Reason.{Reason}
use Rattle.xet_hash.specs.declared.error.Reason.TheVariants.{Lookup, SectionPlace, Totals}
use Rattle.xet_hash.specs.declared.error.StoreError.{StoreError}
use Rattle.xet_hash.specs.declared.error.StoreError.TheVariants as errors
use Rattle.std.specs.Prelude.{◌==◌}
use Rattle.std.specs.Cmp.Lexicographic.{pointwise}
use Rattle.xet_shard_format.specs.declared.row.Row.{Row}
use Rattle.xet_shard_format.specs.declared.header_footer.MDBShardFileFooter.{MDBShardFileFooter}
use Rattle.xet_hash.specs.Hash.{sentinel}
use Rattle.xet_shard_format.specs.Records.{file_record_hash, flags_of, is_after, xorb_record_hash}
use Rattle.xet_codec.specs.Numbers.{word}
use Rattle.xet_shard_format.specs.Encoding.{tag}
use Rattle.xet_shard_format.specs.Ends.{footer_of_last, header_of_first}
use Rattle.xet_shard_format.specs.theorems.FirstLast.{footer_is, header_of_first_is}
use Rattle.xet_codec.specs.Parsing.{Fails, Gives, GivesUnlessFault, IsInputError, IsUnlessFault, reaches, wants, ◌>>=◌}
use Rattle.xet_shard_format.specs.Reading.{IsShardError, ShardParts, all_of, chunk_in, chunks_at, end_at, ext_at, file_record_at, file_row_count, shard_footer_at, footer_in, has_ext, is_verified, xorb_row_count, hash_row_at, hash_in, shard_header_at, lookup_at, places_at, row_at, rows_after_file, section_at, segment_at, step_at, times_rows, totals_at, verification_at, xorb_at}

abbrev pub IsOfBytes : StoreError → Type 0
IsOfBytes errors.UnexpectedEof = Unit {0}
IsOfBytes (errors.MalformedData reason) = Unit {0}
IsOfBytes e = ⊥

-- a result whose refusal, if any, is of the bytes
pub record IsAnswer {X : Type 0} (r : Result X StoreError) : Type 0 where
  pub refusal : (e : StoreError) → r ≡ Err e → IsOfBytes e

fine : {X : Type 0} (x : X) → IsAnswer (Ok x)
fine x = record { refusal = λ e is. absurd (cc is) }

fails : {X : Type 0} (e : StoreError) → IsOfBytes e → IsAnswer {X = X} (Err e)
fails {X} e of = record { refusal = λ d is. let same : e ≡ d = cc is in subst (λ (x : StoreError). IsOfBytes x) same of }

both : {A B : Type 0} (r : Result A StoreError) (f : A → Result B StoreError) → IsAnswer r → ((x : A) → IsAnswer (f x)) → IsAnswer (r >>= f)
both (Ok x) f first second = second x
both (Err e) f first second = fails e (first.refusal e refl)

test : {B : Type 0} (b : Bool) (reason : Reason) (f : Unit {0} → Result B StoreError) → IsAnswer (f tt) → IsAnswer (wants b reason >>= f)
test true reason f next = next
test false reason f next = fails (errors.MalformedData reason) tt

reach : {B : Type 0} (b : Bool) (f : Unit {0} → Result B StoreError) → IsAnswer (f tt) → IsAnswer (reaches b >>= f)
reach true f next = next
reach false f next = fails errors.UnexpectedEof tt

either : {A : Type 0} (b : Bool) (x y : Result A StoreError) → IsAnswer x → IsAnswer y → IsAnswer (if b then x else y)
either true x y first second = first
either false x y first second = second

wanted : (b : Bool) (reason : Reason) → IsAnswer (wants b reason)
wanted true reason = fine tt
wanted false reason = fails (errors.MalformedData reason) tt

reached : (b : Bool) → IsAnswer (reaches b)
reached true = fine tt
reached false = fails errors.UnexpectedEof tt

a_row : (rows : List Row) → IsAnswer (row_at rows)
a_row [] = fails (errors.MalformedData SectionPlace) tt
a_row (r ∷ rows) = fine (r, rows)

some_times : {X : Type 0} (read : List Row → Result (X × List Row) StoreError) → ((rows : List Row) → IsAnswer (read rows)) → (n : ℕ) (rows : List Row) → IsAnswer (times_rows read n rows)
unfolding times_rows
some_times read each zero rows = fine _
some_times read each (suc n) rows = both (read rows) _ (each rows) (λ x. both (times_rows read n x.1) _ (some_times read each n x.1) (λ xs. fine _))

a_segment : (rows : List Row) → IsAnswer (segment_at rows)
unfolding segment_at
a_segment rows = both (row_at rows) _ (a_row rows) (λ r. test (r.0.a == 0) _ _ (fine _))

a_hash_in : (r : Row) → IsAnswer (hash_in r)
unfolding hash_in
a_hash_in r = test (r.a == 0) _ _ (test (r.b == 0) _ _ (test (r.c == 0) _ _ (test (r.d == 0) _ _ (fine _))))

a_hash : (rows : List Row) → IsAnswer (hash_row_at rows)
unfolding hash_row_at
a_hash rows = both (row_at rows) _ (a_row rows) (λ r. both (hash_in r.0) _ (a_hash_in r.0) (λ _. fine _))

a_verification : (rows : List Row) → IsAnswer (verification_at rows)
unfolding verification_at
a_verification rows = both (hash_row_at rows) _ (a_hash rows) (λ _. fine _)

an_ext : (there : Bool) (rows : List Row) → IsAnswer (ext_at there rows)
unfolding ext_at
an_ext false rows = fine _
an_ext true rows = both (hash_row_at rows) _ (a_hash rows) (λ _. fine _)

pub a_file : (head : Row) (rows : List Row) → IsAnswer (file_record_at head rows)
unfolding file_record_at
a_file head rows =
    let checks : ℕ = if is_verified head.a then head.b else 0 in
    test (nat_le (rows_after_file head) (length rows)) _ _ (test (head.a == flags_of (is_verified head.a) (has_ext head.a)) _ _ (test (head.c == 0) _ _ (test (head.d == 0) _ _
    (both (times_rows segment_at head.b rows) _ (some_times segment_at a_segment head.b rows) (λ segments.
    both (times_rows verification_at checks segments.1) _ (some_times verification_at a_verification checks segments.1) (λ verification.
    both (ext_at (has_ext head.a) verification.1) _ (an_ext (has_ext head.a) verification.1) (λ _. fine _)))))))

a_chunk : (r : Row) (at : ℕ) → IsAnswer (chunk_in r at)
unfolding chunk_in
a_chunk r at = test (r.a == at) _ _ (test (r.c == 0) _ _ (test (r.d == 0) _ _ (fine _)))

some_chunks : (n at : ℕ) (rows : List Row) → IsAnswer (chunks_at n at rows)
unfolding chunks_at
some_chunks zero at rows = fine _
some_chunks (suc n) at rows =
    both (row_at rows) _ (a_row rows) (λ r. both (chunk_in r.0 at) _ (a_chunk r.0 at) (λ c.
    both (chunks_at n (r.0.a + r.0.b) r.1) _ (some_chunks n (r.0.a + r.0.b) r.1) (λ cs. fine _)))

pub a_xorb : (head : Row) (rows : List Row) → IsAnswer (xorb_at head rows)
unfolding xorb_at
a_xorb head rows =
    test (nat_le head.b (length rows)) _ _ (test (head.a == 0) _ _ (test (head.d == 0) _ _ (both (chunks_at head.b 0 rows) _ (some_chunks head.b 0 rows) (λ chunks. test (chunks.1 == head.c) _ _ (fine _)))))

an_end : (r : Row) (rows : List Row) → IsAnswer (end_at r rows)
unfolding end_at
an_end r rows = both (hash_in r) _ (a_hash_in r) (λ _. wanted (length rows == 0) SectionPlace)

module _ {X : Type 0} (record_at : Row → List Row → Result (X × List Row) StoreError) (each : (r : Row) (rows : List Row) → IsAnswer (record_at r rows)) where
  a_step : (last : Option (List ℕ)) (rows : List Row) → IsAnswer (step_at record_at last rows)
  unfolding step_at
  a_step last rows =
      both (row_at rows) _ (a_row rows) (λ r. either (pointwise nat_eq r.0.hash sentinel) _ _ (both (end_at r.0 r.1) _ (an_end r.0 r.1) (λ _. fine _))
      (both (record_at r.0 r.1) _ (each r.0 r.1) (λ _. test (is_after last r.0.hash) _ _ (fine _))))

  pub a_section : (hash : X → List ℕ) (n : ℕ) (last : Option (List ℕ)) (rows : List Row) → IsAnswer (section_at record_at hash n last rows)
  unfolding section_at
  a_section hash zero last rows = fails (errors.MalformedData SectionPlace) tt
  a_section hash (suc n) last rows =
      both (step_at record_at last rows) _ (a_step last rows) (λ x.
      elim (x.0) as (λ (o : Option X). IsAnswer (elim o as (λ _. Result (List X) StoreError) [ None ↦ Ok [] | Some y ↦ section_at record_at hash n (Some (hash y)) x.1 >>= λ ys. Ok (y ∷ ys) ])) [
        | None ↦ fine _
        | Some y ↦ both (section_at record_at hash n (Some (hash y)) x.1) _ (a_section hash n (Some (hash y)) x.1) (λ _. fine _)
      ])

pub a_first : (len : ℕ) (first : List ℕ) → IsAnswer (header_of_first len first)
unfolding header_of_first
a_first len first =
    reach (nat_le 32 len) _ (test (pointwise nat_eq (take 32 first) tag) _ _ (reach (nat_le 40 len) _ (test (word first 32 == 2) _ _
    (reach (nat_le 48 len) _ (test (word first 40 == 200) _ _ (reached (nat_le 248 len)))))))

a_header : (bytes : List ℕ) → IsAnswer (shard_header_at bytes)
a_header bytes = subst IsAnswer (header_of_first_is bytes) (a_first (length bytes) bytes)

some_places : (len : ℕ) (f : MDBShardFileFooter) → IsAnswer (places_at len f)
unfolding places_at
some_places len f =
    test (f.file_info_offset == 48) _ _ (test (f.xorb_info_offset == f.file_info_offset + 48 * file_row_count f) _ _ (test (nat_lt 0 (file_row_count f)) _ _ (test (nat_lt (file_row_count f) (2 ^ 32)) _ _
    (test (f.file_lookup_offset == f.xorb_info_offset + 48 * xorb_row_count f) _ _ (test (nat_lt 0 (xorb_row_count f)) _ _ (test (nat_lt (xorb_row_count f) (2 ^ 32)) _ _
    (test (f.xorb_lookup_offset == f.file_lookup_offset + 12 * f.file_lookup_num_entry) _ _
    (test (f.chunk_lookup_offset == f.xorb_lookup_offset + 12 * f.xorb_lookup_num_entry) _ _
    (test (f.footer_offset == f.chunk_lookup_offset + 16 * f.chunk_lookup_num_entry) _ _ (wanted (len == f.footer_offset + 200) SectionPlace))))))))))

pub a_last : (len : ℕ) (last : List ℕ) → IsAnswer (footer_of_last len last)
unfolding footer_of_last
a_last len last =
    test (word last 0 == 1) _ _ (test (pointwise nat_eq (take 48 (drop 120 last)) (replicate 48 0)) _ _
    (both (places_at len (footer_in last)) _ (some_places len (footer_in last)) (λ _. fine _)))

a_footer : (bytes : List ℕ) → IsAnswer (shard_footer_at bytes)
a_footer bytes = subst IsAnswer (footer_is bytes) (a_last (length bytes) (drop (length bytes - 200) bytes))

a_lookup : (bytes : List ℕ) (at len : ℕ) (encoding : List ℕ) → IsAnswer (lookup_at bytes at len encoding)
unfolding lookup_at
a_lookup bytes at len encoding = either (len == 0) _ _ (fine _) (wanted (pointwise nat_eq (take len (drop at bytes)) encoding) Lookup)

some_totals : (f : MDBShardFileFooter) (bytes stored : ℕ) → IsAnswer (totals_at f bytes stored)
unfolding totals_at
some_totals f bytes stored = test (f.stored_bytes_on_disk == 0) _ _ (test (f.materialized_bytes == bytes) _ _ (wanted (f.stored_bytes == stored) Totals))

pub all_answers : (bytes : List ℕ) → IsAnswer (all_of bytes)
unfolding all_of
all_answers bytes =
    both (shard_header_at bytes) _ (a_header bytes) (λ _. both (shard_footer_at bytes) _ (a_footer bytes) (λ f.
    both (section_at file_record_at file_record_hash (file_row_count f) None _) _ (a_section file_record_at a_file file_record_hash (file_row_count f) None _) (λ files.
    both (section_at xorb_at xorb_record_hash (xorb_row_count f) None _) _ (a_section xorb_at a_xorb xorb_record_hash (xorb_row_count f) None _) (λ blocks.
    both (lookup_at bytes _ _ _) _ (a_lookup bytes _ _ _) (λ _. both (lookup_at bytes _ _ _) _ (a_lookup bytes _ _ _) (λ _. both (lookup_at bytes _ _ _) _ (a_lookup bytes _ _ _) (λ _.
    both (totals_at f _ _) _ (some_totals f _ _) (λ _. fine _))))))))

-- an error that a result has is of the bytes
of_bytes : {Y : Type 0} (e : StoreError) (read : Result Y StoreError) → IsAnswer read → read ≡ Err e → IsOfBytes e
of_bytes e read answers is = answers.refusal e is

fault_none : {X Y : Type 0} (view : X → Y) (e : StoreError) (read : Result Y StoreError) → IsAnswer read → Gives view (Err e) read → GivesUnlessFault view (Err e) read
fault_none view errors.OutOfMemory read answers gives = gives
fault_none view (errors.Io place) read answers gives = absurd (of_bytes (errors.Io place) read answers gives)
fault_none view errors.UnexpectedEof read answers gives = gives
fault_none view (errors.TooLarge what) read answers gives = gives
fault_none view errors.FileNotFound read answers gives = gives
fault_none view errors.InvalidRange read answers gives = gives
fault_none view errors.InvalidArguments read answers gives = gives
fault_none view (errors.MalformedData reason) read answers gives = gives
fault_none view errors.ChunkHeaderParse read answers gives = gives
fault_none view errors.HashMismatch read answers gives = gives
fault_none view (errors.InvalidShard hash reason) read answers gives = gives
fault_none view errors.TruncatedHashCollision read answers gives = gives
fault_none view errors.BadFilename read answers gives = gives
fault_none view (errors.CompressionError number) read answers gives = gives
fault_none view (errors.BadLimits field) read answers gives = gives

-- what was read without a reader is so with one
gives_unless : {X Y : Type 0} (view : X → Y) (result : Result X StoreError) (read : Result Y StoreError) → IsAnswer read → Gives view result read → GivesUnlessFault view result read
gives_unless view (Ok x) read answers gives = gives
gives_unless view (Err e) read answers gives = fault_none view e read answers gives

-- what was read of a part of some bytes is so of the whole
pub gives_whole : {X Y : Type 0} (view : X → Y) (result : Result X StoreError) (read whole : Result Y StoreError) → IsAnswer read → read ≡ whole → Gives view result read → GivesUnlessFault view result whole
gives_whole {X} {Y} view result read whole answers same gives =
    subst (λ (r : Result Y StoreError). GivesUnlessFault view result r) same (gives_unless view result read answers gives)

pub gives_all : {X : Type 0} (view : X → ShardParts) (result : Result X StoreError) (bytes whole : List ℕ) → bytes ≡ whole → Gives view result (all_of bytes) → GivesUnlessFault view result (all_of whole)
gives_all view result bytes whole same gives = gives_whole view result (all_of bytes) (all_of whole) (all_answers bytes) (ap all_of same) gives

allowed : {Y : Type 0} (e : StoreError) (read : Result Y StoreError) → IsAnswer read → Fails e read → IsShardError e
allowed errors.OutOfMemory read answers fails = tt
allowed (errors.Io place) read answers fails = absurd (of_bytes (errors.Io place) read answers fails)
allowed errors.UnexpectedEof read answers fails = tt
allowed (errors.TooLarge what) read answers fails = of_bytes (errors.TooLarge what) read answers fails
allowed errors.FileNotFound read answers fails = of_bytes errors.FileNotFound read answers fails
allowed errors.InvalidRange read answers fails = of_bytes errors.InvalidRange read answers fails
allowed errors.InvalidArguments read answers fails = of_bytes errors.InvalidArguments read answers fails
allowed (errors.MalformedData reason) read answers fails = tt
allowed errors.ChunkHeaderParse read answers fails = of_bytes errors.ChunkHeaderParse read answers fails
allowed errors.HashMismatch read answers fails = of_bytes errors.HashMismatch read answers fails
allowed (errors.InvalidShard hash reason) read answers fails = of_bytes (errors.InvalidShard hash reason) read answers fails
allowed errors.TruncatedHashCollision read answers fails = of_bytes errors.TruncatedHashCollision read answers fails
allowed errors.BadFilename read answers fails = of_bytes errors.BadFilename read answers fails
allowed (errors.CompressionError number) read answers fails = of_bytes (errors.CompressionError number) read answers fails
allowed (errors.BadLimits field) read answers fails = of_bytes (errors.BadLimits field) read answers fails

-- which refusals a shard's bytes have
pub refuses : {X Y : Type 0} (view : X → Y) (result : Result X StoreError) (read : Result Y StoreError) → IsAnswer read → Gives view result read → IfErr result IsShardError
refuses view (Ok x) read answers gives = tt
refuses view (Err e) read answers gives = allowed e read answers gives

-- the same of a call that takes no memory
input_of : (e : StoreError) → IsOfBytes e → IsInputError e
input_of errors.UnexpectedEof of = tt
input_of (errors.MalformedData reason) of = tt
input_of e of = absurd of

pub gives_input_error : {X : Type 0} (result read : Result X StoreError) → IsAnswer read → result ≡ read → IfErr result IsInputError
gives_input_error (Ok x) read answers is = tt
gives_input_error (Err e) read answers is = input_of e (of_bytes e read answers (sym is))

pub is_unless_fault : {X : Type 0} (result read : Result X StoreError) → GivesUnlessFault (λ x. x) result read → IfErr result IsInputError → IsUnlessFault result read
is_unless_fault (Ok x) read gives refusal = sym gives
is_unless_fault (Err (errors.Io place)) read gives refusal = gives
is_unless_fault (Err errors.UnexpectedEof) read gives refusal = sym gives
is_unless_fault (Err (errors.MalformedData reason)) read gives refusal = sym gives
is_unless_fault (Err e) read gives refusal = absurd refusal

-- and none is that of an object of the outside
pub no_fault : {X Y : Type 0} (view : X → Y) (result : Result X StoreError) (read : Result Y StoreError) (place : Place) → IsAnswer read → Gives view result read → IsErrOf result (errors.Io place) → ⊥
no_fault {X} {Y} view result read place answers gives failed =
    of_bytes (errors.Io place) read answers (subst (λ (r : Result X StoreError). Gives view r read) failed gives)

-- the cause of a failure of what comes before reading
pub cause_before : {X Y : Type 0} (view : X → Y) (result : Result X StoreError) (read : Result Y StoreError) (before now : ℕ) → IsAnswer read → Gives view result read → before ≤ now → HasCause before now (IsErrOf result (errors.Io Input))
cause_before view result read before now answers gives later = record {
  later = later;
  rose = λ failed. absurd (no_fault view result read Input answers gives failed);
}
