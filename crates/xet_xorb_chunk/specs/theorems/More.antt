-- What is decided about the first chunk does not change when more bytes follow.
use Rattle.std.proofs.Common.{◌≡◌, ◌∙◌, ◌⊎◌, ℕ, ◌+◌, ◌<◌, ◌≤◌, ◌==◌, nat_lt, Bool, true, false, cond, List, [], ◌∷◌, ◌++◌, length, take, drop, Ok, Err, Result, refl, sym, ap, subst, inl, inr, arith, length-append, length-drop}
use Rattle.std.proofs.lemmas.Bool.{cases_lt, le-ltb, lt-ltb}
use Rattle.std.proofs.lemmas.List.{drop-append-le, length-take-le, take-append-le}
use Rattle.std.proofs.lemmas.List.Sums.{sum_by-cons}
use Rattle.std.specs.List.{sum_by}
use Rattle.xet_hash.specs.declared.error.StoreError.{StoreError}
use Rattle.xet_hash.specs.declared.error.StoreError.TheVariants.{CompressionError, MalformedData}
use Rattle.xet_hash.specs.declared.error.Reason.TheVariants.{AutoScheme, BodyLength}
use Rattle.xet_xorb_chunk.specs.Header.{Header, header_at}
use Rattle.xet_xorb_chunk.specs.Passing.{Passes}
use Rattle.xet_xorb_chunk.specs.Stream.{Decodes, Prefix, Short, Whole, Fails, after_header, body_of, prefix_of}
use Rattle.xet_xorb_chunk.specs.theorems.Prefixes.{prefix_few}

-- there are eight bytes
pub prefix_at : (max_chunk : ℕ) (bytes : List ℕ) → 8 ≤ length bytes → prefix_of max_chunk bytes ≡ after_header (header_at max_chunk (take 8 bytes)) (drop 8 bytes)
unfolding prefix_of
prefix_at max_chunk bytes enough = let test : nat_lt (length bytes) 8 ≡ false = le-ltb _ _ enough in rw test refl

pub behind_few : (h : Header) (rest : List ℕ) → length rest < h.stored → after_header (Ok h) rest ≡ Short
behind_few h rest few = let test : nat_lt (length rest) h.stored ≡ true = lt-ltb _ _ few in rw test refl

pub behind_all : (h : Header) (rest : List ℕ) → h.stored ≤ length rest → after_header (Ok h) rest ≡ body_of h (take h.stored rest)
behind_all h rest enough = let test : nat_lt (length rest) h.stored ≡ false = le-ltb _ _ enough in rw test refl

behind_more_of : (h : Header) (rest more : List ℕ) (f : Prefix) → (length rest < h.stored) ⊎ (h.stored ≤ length rest) → after_header (Ok h) rest ≡ f → (f ≡ Short → ⊥)
    → after_header (Ok h) (rest ++ more) ≡ f
behind_more_of h rest more f (inl few) e decided = absurd (decided (sym e ∙ behind_few h rest few))
behind_more_of h rest more f (inr enough) e decided =
    let long : h.stored ≤ length (rest ++ more) = omega (arith, length-append rest more) in
    behind_all h (rest ++ more) long ∙ ap (body_of h) (take-append-le h.stored rest more enough) ∙ sym (behind_all h rest enough) ∙ e

behind_more : (r : Result Header StoreError) (rest more : List ℕ) (f : Prefix) → after_header r rest ≡ f → (f ≡ Short → ⊥) → after_header r (rest ++ more) ≡ f
behind_more (Err x) rest more f e decided = e
behind_more (Ok h) rest more f e decided = behind_more_of h rest more f (cases_lt (length rest) h.stored) e decided

prefix_more_of : (max_chunk : ℕ) (bytes more : List ℕ) (f : Prefix) → (length bytes < 8) ⊎ (8 ≤ length bytes) → prefix_of max_chunk bytes ≡ f → (f ≡ Short → ⊥) → prefix_of max_chunk (bytes ++ more) ≡ f
prefix_more_of max_chunk bytes more f (inl few) e decided = absurd (decided (sym e ∙ prefix_few max_chunk bytes few))
prefix_more_of max_chunk bytes more f (inr enough) e decided =
    let long : 8 ≤ length (bytes ++ more) = omega (arith, length-append bytes more) in
    let head : take 8 (bytes ++ more) ≡ take 8 bytes = take-append-le 8 bytes more enough in
    let rest : drop 8 (bytes ++ more) ≡ drop 8 bytes ++ more = drop-append-le 8 bytes more enough in
    prefix_at max_chunk (bytes ++ more) long ∙ ap (λ (x : List ℕ). after_header (header_at max_chunk x) (drop 8 (bytes ++ more))) head ∙ ap (after_header (header_at max_chunk (take 8 bytes))) rest
    ∙ behind_more (header_at max_chunk (take 8 bytes)) (drop 8 bytes) more f (sym (prefix_at max_chunk bytes enough) ∙ e) decided

-- more bytes change nothing of what is decided
pub prefix_more : (max_chunk : ℕ) (bytes more : List ℕ) (f : Prefix) → prefix_of max_chunk bytes ≡ f → (f ≡ Short → ⊥) → prefix_of max_chunk (bytes ++ more) ≡ f
prefix_more max_chunk bytes more f e decided = prefix_more_of max_chunk bytes more f (cases_lt (length bytes) 8) e decided

pub whole_more : (max_chunk : ℕ) (bytes more chunk : List ℕ) → prefix_of max_chunk bytes ≡ Whole chunk → prefix_of max_chunk (bytes ++ more) ≡ Whole chunk
whole_more max_chunk bytes more chunk e = prefix_more max_chunk bytes more (Whole chunk) e (λ s. cc s)

pub fails_more : (max_chunk : ℕ) (bytes more : List ℕ) (error : StoreError) → prefix_of max_chunk bytes ≡ Fails error → prefix_of max_chunk (bytes ++ more) ≡ Fails error
fails_more max_chunk bytes more error e = prefix_more max_chunk bytes more (Fails error) e (λ s. cc s)

body_by : (auto plain same : Bool) (body chunk : List ℕ) (x y z : StoreError) → cond auto (Fails x) (cond plain (cond same (Whole body) (Fails y)) (Fails z)) ≡ Whole chunk → body ≡ chunk
body_by true plain same body chunk x y z e = absurd (cc e)
body_by false true true body chunk x y z e = cc e
body_by false true false body chunk x y z e = absurd (cc e)
body_by false false same body chunk x y z e = absurd (cc e)

decided_by : (auto plain same : Bool) (body : List ℕ) (x y z : StoreError) → cond auto (Fails x) (cond plain (cond same (Whole body) (Fails y)) (Fails z)) ≡ Short → ⊥
decided_by true plain same body x y z e = cc e
decided_by false true true body x y z e = cc e
decided_by false true false body x y z e = cc e
decided_by false false same body x y z e = cc e

-- a body of the length that is stored is decided, and if it is a chunk, that one
pub body_decided : (h : Header) (body : List ℕ) → body_of h body ≡ Short → ⊥
body_decided h body e = decided_by (h.scheme == 99) (h.scheme == 0) (h.stored == h.plain) body (MalformedData AutoScheme) (MalformedData BodyLength) (CompressionError h.scheme) e

pub body_whole : (h : Header) (body chunk : List ℕ) → body_of h body ≡ Whole chunk → body ≡ chunk
body_whole h body chunk e = body_by (h.scheme == 99) (h.scheme == 0) (h.stored == h.plain) body chunk (MalformedData AutoScheme) (MalformedData BodyLength) (CompressionError h.scheme) e

behind_within_of : (h : Header) (rest chunk : List ℕ) → (length rest < h.stored) ⊎ (h.stored ≤ length rest) → after_header (Ok h) rest ≡ Whole chunk → length chunk ≤ length rest
behind_within_of h rest chunk (inl few) e = absurd (cc (sym (behind_few h rest few) ∙ e))
behind_within_of h rest chunk (inr enough) e =
    let same : take h.stored rest ≡ chunk = body_whole h (take h.stored rest) chunk (sym (behind_all h rest enough) ∙ e) in
    omega (arith, ap length same, length-take-le h.stored rest enough)

behind_within : (r : Result Header StoreError) (rest chunk : List ℕ) → after_header r rest ≡ Whole chunk → length chunk ≤ length rest
behind_within (Err x) rest chunk e = absurd (cc e)
behind_within (Ok h) rest chunk e = behind_within_of h rest chunk (cases_lt (length rest) h.stored) e

whole_within_of : (max_chunk : ℕ) (bytes chunk : List ℕ) → (length bytes < 8) ⊎ (8 ≤ length bytes) → prefix_of max_chunk bytes ≡ Whole chunk → 8 + length chunk ≤ length bytes
whole_within_of max_chunk bytes chunk (inl few) e = absurd (cc (sym (prefix_few max_chunk bytes few) ∙ e))
whole_within_of max_chunk bytes chunk (inr enough) e =
    let within = behind_within (header_at max_chunk (take 8 bytes)) (drop 8 bytes) chunk (sym (prefix_at max_chunk bytes enough) ∙ e) in omega (arith, length-drop 8 bytes)

-- a whole chunk is all there
pub whole_within : (max_chunk : ℕ) (bytes chunk : List ℕ) → prefix_of max_chunk bytes ≡ Whole chunk → 8 + length chunk ≤ length bytes
whole_within max_chunk bytes chunk e = whole_within_of max_chunk bytes chunk (cases_lt (length bytes) 8) e

-- what is left over is less than a chunk
pub rest_short : (max_chunk total : ℕ) (bytes : List ℕ) (chunks : List (List ℕ)) (rest : List ℕ) → Decodes max_chunk total bytes chunks (Ok rest) → prefix_of max_chunk rest ≡ Short
rest_short max_chunk total bytes [] rest (inl d) = let same : bytes ≡ rest = cc d.1 in subst (λ (b : List ℕ). prefix_of max_chunk b ≡ Short) same d.0
rest_short max_chunk total bytes [] rest (inr (inl d)) = absurd (cc d.2)
rest_short max_chunk total bytes [] rest (inr (inr d)) = absurd (cc d.3)
rest_short max_chunk total bytes (c ∷ cs) rest d = rest_short max_chunk (total + length c) (drop (8 + length c) bytes) cs rest d.2

-- where more bytes come, the same chunks are passed on first
pub passes_more : (max_chunk total : ℕ) (bytes more : List ℕ) (chunks : List (List ℕ)) (rest : List ℕ) → Decodes max_chunk total bytes chunks (Ok rest)
    → (after_header : ℕ) × Passes max_chunk total (bytes ++ more) chunks after_header (rest ++ more) × (after_header ≡ total + sum_by length chunks)
passes_more max_chunk total bytes more [] rest (inl d) = let same : rest ≡ bytes = cc d.1 in (total, (refl, ap (λ (b : List ℕ). b ++ more) same), omega arith)
passes_more max_chunk total bytes more [] rest (inr (inl d)) = absurd (cc d.2)
passes_more max_chunk total bytes more [] rest (inr (inr d)) = absurd (cc d.3)
passes_more max_chunk total bytes more (c ∷ cs) rest d =
    let next = passes_more max_chunk (total + length c) (drop (8 + length c) bytes) more cs rest d.2 in
    let seam : drop (8 + length c) bytes ++ more ≡ drop (8 + length c) (bytes ++ more) = sym (drop-append-le (8 + length c) bytes more (whole_within max_chunk bytes c d.0)) in (
      next.0,
      (whole_more max_chunk bytes more c d.0, d.1, subst (λ (b : List ℕ). Passes max_chunk (total + length c) b cs next.0 (rest ++ more)) seam next.1),
      omega (arith, next.2, sum_by-cons length c cs),
    )
