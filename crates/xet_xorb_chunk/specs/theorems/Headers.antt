-- The checks of a chunk header, in order.
use Rattle.std.proofs.Common.{◌≡◌, ◌≢◌, ℕ, ◌*◌, ◌<◌, ◌≤◌, ◌==◌, ◌||◌, nat_le, Bool, true, false, List, Ok, Err, refl, sym, ap, ◌∙◌, if◌then◌else◌}
use Rattle.std.proofs.lemmas.Bool.{eq-eqb, le-leb, lt-leb, ne_eqb}
use Rattle.xet_hash.specs.declared.error.StoreError.{StoreError}
use Rattle.xet_hash.specs.declared.error.StoreError.TheVariants.{ChunkHeaderParse, MalformedData}
use Rattle.xet_hash.specs.declared.error.Reason.TheVariants.{HeaderVersion, PlainLength, Scheme, StoredLength}
use Rattle.xet_xorb_chunk.specs.declared.scheme.CompressionScheme.{CompressionScheme}
use Rattle.xet_xorb_chunk.specs.declared.scheme.CompressionScheme.TheVariants.{Auto, ByteGrouping4LZ4, LZ4, None}
use Rattle.xet_xorb_chunk.specs.Header.{Header, header_at, header_of, is_footer_magic, is_scheme}
use Rattle.xet_xorb_chunk.specs.Scheme.{scheme_of}

known_by : (a b c d : Bool) (s : CompressionScheme)
    → (if a then Ok None else if b then Ok LZ4 else if c then Ok ByteGrouping4LZ4 else if d then Ok Auto else Err (MalformedData Scheme)) ≡ Ok s → (a || b || c || d) ≡ true
known_by true b c d s e = refl
known_by false true c d s e = refl
known_by false false true d s e = refl
known_by false false false true s e = refl
known_by false false false false s e = absurd (cc e)

unknown_by : (a b c d : Bool) (error : StoreError)
    → (if a then Ok None else if b then Ok LZ4 else if c then Ok ByteGrouping4LZ4 else if d then Ok Auto else Err (MalformedData Scheme)) ≡ Err error
    → ((a || b || c || d) ≡ false) × (error ≡ MalformedData Scheme)
unknown_by true b c d error e = absurd (cc e)
unknown_by false true c d error e = absurd (cc e)
unknown_by false false true d error e = absurd (cc e)
unknown_by false false false true error e = absurd (cc e)
unknown_by false false false false error e = (refl, cc e)

-- a number that has a scheme, and one that has none
pub known : (n : ℕ) (s : CompressionScheme) → scheme_of n ≡ Ok s → is_scheme n ≡ true
known n s e = known_by (n == 0) (n == 1) (n == 2) (n == 99) s e

pub unknown : (n : ℕ) (error : StoreError) → scheme_of n ≡ Err error → (is_scheme n ≡ false) × (error ≡ MalformedData Scheme)
unknown n error e = unknown_by (n == 0) (n == 1) (n == 2) (n == 99) error e

pub refused_ident : (max_chunk : ℕ) (bytes : List ℕ) → is_footer_magic bytes ≡ true → header_at max_chunk bytes ≡ Err ChunkHeaderParse
unfolding header_at
refused_ident max_chunk bytes i = rw i refl

pub refused_scheme : (max_chunk : ℕ) (bytes : List ℕ) (h : Header) (error : StoreError) → is_footer_magic bytes ≡ false → h ≡ header_of bytes → scheme_of h.scheme ≡ Err error
    → header_at max_chunk bytes ≡ Err error
unfolding header_at
refused_scheme max_chunk bytes h error i is s =
    let u = unknown h.scheme error s in
    let no : is_scheme (header_of bytes).scheme ≡ false = ap (λ (x : Header). is_scheme x.scheme) (sym is) ∙ u.0 in
    rw (i, no, u.1) refl

pub refused_version : (max_chunk : ℕ) (bytes : List ℕ) (h : Header) (s : CompressionScheme) → is_footer_magic bytes ≡ false → h ≡ header_of bytes → scheme_of h.scheme ≡ Ok s
    → h.version ≢ 0 → header_at max_chunk bytes ≡ Err (MalformedData HeaderVersion)
unfolding header_at
refused_version max_chunk bytes h s i is k v =
    let yes : is_scheme (header_of bytes).scheme ≡ true = ap (λ (x : Header). is_scheme x.scheme) (sym is) ∙ known h.scheme s k in
    let no : ((header_of bytes).version == 0) ≡ false = ap (λ (x : Header). x.version == 0) (sym is) ∙ ne_eqb h.version 0 v in
    rw (i, yes, no) refl

pub refused_stored : (max_chunk : ℕ) (bytes : List ℕ) (h : Header) (s : CompressionScheme) → is_footer_magic bytes ≡ false → h ≡ header_of bytes → scheme_of h.scheme ≡ Ok s
    → h.version ≡ 0 → 2 * max_chunk < h.stored → header_at max_chunk bytes ≡ Err (MalformedData StoredLength)
unfolding header_at
refused_stored max_chunk bytes h s i is k v l =
    let yes : is_scheme (header_of bytes).scheme ≡ true = ap (λ (x : Header). is_scheme x.scheme) (sym is) ∙ known h.scheme s k in
    let zero : ((header_of bytes).version == 0) ≡ true = ap (λ (x : Header). x.version == 0) (sym is) ∙ eq-eqb h.version 0 v in
    let no : nat_le (header_of bytes).stored (2 * max_chunk) ≡ false = ap (λ (x : Header). nat_le x.stored (2 * max_chunk)) (sym is) ∙ lt-leb h.stored (2 * max_chunk) l in
    rw (i, yes, zero, no) refl

pub refused_plain : (max_chunk : ℕ) (bytes : List ℕ) (h : Header) (s : CompressionScheme) → is_footer_magic bytes ≡ false → h ≡ header_of bytes → scheme_of h.scheme ≡ Ok s
    → h.version ≡ 0 → h.stored ≤ 2 * max_chunk → max_chunk < h.plain → header_at max_chunk bytes ≡ Err (MalformedData PlainLength)
unfolding header_at
refused_plain max_chunk bytes h s i is k v l p =
    let yes : is_scheme (header_of bytes).scheme ≡ true = ap (λ (x : Header). is_scheme x.scheme) (sym is) ∙ known h.scheme s k in
    let zero : ((header_of bytes).version == 0) ≡ true = ap (λ (x : Header). x.version == 0) (sym is) ∙ eq-eqb h.version 0 v in
    let fits : nat_le (header_of bytes).stored (2 * max_chunk) ≡ true = ap (λ (x : Header). nat_le x.stored (2 * max_chunk)) (sym is) ∙ le-leb h.stored (2 * max_chunk) l in
    let no : nat_le (header_of bytes).plain max_chunk ≡ false = ap (λ (x : Header). nat_le x.plain max_chunk) (sym is) ∙ lt-leb h.plain max_chunk p in
    rw (i, yes, zero, fits, no) refl

-- bytes that pass the checks
pub accepted : (max_chunk : ℕ) (bytes : List ℕ) (h : Header) → is_footer_magic bytes ≡ false → h ≡ header_of bytes → is_scheme h.scheme ≡ true
    → h.version ≡ 0 → h.stored ≤ 2 * max_chunk → h.plain ≤ max_chunk → header_at max_chunk bytes ≡ Ok h
unfolding header_at
accepted max_chunk bytes h i is k v l p =
    let yes : is_scheme (header_of bytes).scheme ≡ true = ap (λ (x : Header). is_scheme x.scheme) (sym is) ∙ k in
    let zero : ((header_of bytes).version == 0) ≡ true = ap (λ (x : Header). x.version == 0) (sym is) ∙ eq-eqb h.version 0 v in
    let fits : nat_le (header_of bytes).stored (2 * max_chunk) ≡ true = ap (λ (x : Header). nat_le x.stored (2 * max_chunk)) (sym is) ∙ le-leb h.stored (2 * max_chunk) l in
    let small : nat_le (header_of bytes).plain max_chunk ≡ true = ap (λ (x : Header). nat_le x.plain max_chunk) (sym is) ∙ le-leb h.plain max_chunk p in
    rw (i, yes, zero, fits, small) (ap (λ (x : Header). Ok x) (sym is))
