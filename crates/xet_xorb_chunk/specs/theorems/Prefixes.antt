-- What reading the first chunk gives, by its header and its body.
use Rattle.std.proofs.Common.{◌≡◌, ◌∙◌, ℕ, ◌-◌, ◌<◌, ◌≤◌, nat_lt, Bool, true, false, cond, List, ◌++◌, length, take, drop, Ok, Err, Result, refl, sym, ap, arith, length-append, length-drop}
use Rattle.std.proofs.lemmas.Bool.{le-ltb, lt-ltb, true≢false}
use Rattle.std.proofs.lemmas.List.{length-take-le, take-append-drop, take_all, take_at}
use Rattle.xet_hash.specs.declared.error.StoreError.{StoreError}
use Rattle.xet_hash.specs.declared.error.StoreError.TheVariants.{UnexpectedEof}
use Rattle.xet_io.specs.Whole.{FillsWith}
use Rattle.xet_xorb_chunk.specs.Header.{Header, header_at}
use Rattle.xet_xorb_chunk.specs.Stream.{Short, Fails, after_header, body_of, chunk_at, chunk_of_prefix, prefix_of}
use Rattle.xet_xorb_chunk.specs.Taking.{header_in}

by_refusal : (few : Bool) (r : Result Header StoreError) (rest : List ℕ) (e : StoreError) → cond few (Err UnexpectedEof) r ≡ Err e
    → chunk_of_prefix (cond few Short (after_header r rest)) ≡ Err e
by_refusal true r rest e h = cc h
by_refusal false (Err x) rest e h = cc h
by_refusal false (Ok x) rest e h = absurd (cc h)

by_header : (few : Bool) (r : Result Header StoreError) (rest : List ℕ) (h : Header) → cond few (Err UnexpectedEof) r ≡ Ok h
    → cond few Short (after_header r rest) ≡ after_header (Ok h) rest
by_header true r rest h e = absurd (cc e)
by_header false (Err x) rest h e = absurd (cc e)
by_header false (Ok x) rest h e = let same : x ≡ h = cc e in ap (λ (y : Header). after_header (Ok y) rest) same

-- a refused header refuses the chunk
pub chunk_refused : (max_chunk : ℕ) (bytes : List ℕ) (e : StoreError) → header_in max_chunk bytes ≡ Err e → chunk_at max_chunk bytes ≡ Err e
unfolding prefix_of
chunk_refused max_chunk bytes e h = by_refusal (nat_lt (length bytes) 8) (header_at max_chunk (take 8 bytes)) (drop 8 bytes) e h

prefix_behind : (max_chunk : ℕ) (bytes : List ℕ) (h : Header) → header_in max_chunk bytes ≡ Ok h → prefix_of max_chunk bytes ≡ after_header (Ok h) (drop 8 bytes)
unfolding prefix_of
prefix_behind max_chunk bytes h e = by_header (nat_lt (length bytes) 8) (header_at max_chunk (take 8 bytes)) (drop 8 bytes) h e

-- fewer bytes than a body has
pub prefix_short : (max_chunk : ℕ) (bytes : List ℕ) (h : Header) → header_in max_chunk bytes ≡ Ok h → length (drop 8 bytes) < h.stored → prefix_of max_chunk bytes ≡ Short
prefix_short max_chunk bytes h e few =
    let test : nat_lt (length (drop 8 bytes)) h.stored ≡ true = lt-ltb _ _ few in prefix_behind max_chunk bytes h e ∙ rw test refl

pub chunk_short : (max_chunk : ℕ) (bytes : List ℕ) (h : Header) → header_in max_chunk bytes ≡ Ok h → length (drop 8 bytes) < h.stored → chunk_at max_chunk bytes ≡ Err UnexpectedEof
chunk_short max_chunk bytes h e few = ap chunk_of_prefix (prefix_short max_chunk bytes h e few)

-- a whole body
pub prefix_whole : (max_chunk : ℕ) (bytes body rest : List ℕ) (h : Header) → header_in max_chunk bytes ≡ Ok h → drop 8 bytes ≡ body ++ rest → length body ≡ h.stored
    → prefix_of max_chunk bytes ≡ body_of h body
prefix_whole max_chunk bytes body rest h e is size =
    let test : nat_lt (length (drop 8 bytes)) h.stored ≡ false = le-ltb _ _ (omega (arith, ap length is, length-append body rest)) in
    let same : take h.stored (drop 8 bytes) ≡ body = ap (take h.stored) is ∙ take_at body rest h.stored size in
    prefix_behind max_chunk bytes h e ∙ rw (test, same) refl

-- eight bytes that were taken are a header
pub header_told : (max_chunk count : ℕ) (buffer left rest : List ℕ) → length buffer ≡ 8 → 8 ≤ count → count ≤ length buffer → FillsWith count buffer left rest
    → header_in max_chunk left ≡ header_at max_chunk buffer
header_told max_chunk count buffer left rest size low high fills =
    let all : take count buffer ≡ buffer = take_all count buffer (omega arith) in
    let is : left ≡ buffer ++ rest = fills.taken ∙ ap (λ (x : List ℕ). x ++ rest) all in
    let test : nat_lt (length left) 8 ≡ false = le-ltb _ _ (omega (arith, ap length is, length-append buffer rest)) in
    let prefix : take 8 left ≡ buffer = ap (take 8) is ∙ take_at buffer rest 8 size in
    rw (test, prefix) refl

by_prefix : (few : Bool) (r : Result Header StoreError) (rest : List ℕ) (e : StoreError) → few ≡ false → cond few (Err UnexpectedEof) r ≡ Err e
    → cond few Short (after_header r rest) ≡ Fails e
by_prefix true r rest e enough h = absurd (true≢false enough)
by_prefix false (Err x) rest e enough h = let same : x ≡ e = cc h in ap (λ (y : StoreError). Fails y) same
by_prefix false (Ok x) rest e enough h = absurd (cc h)

-- a refused header, whose bytes are there, fails
pub prefix_refused : (max_chunk : ℕ) (bytes : List ℕ) (e : StoreError) → 8 ≤ length bytes → header_in max_chunk bytes ≡ Err e → prefix_of max_chunk bytes ≡ Fails e
unfolding prefix_of
prefix_refused max_chunk bytes e enough h = by_prefix (nat_lt (length bytes) 8) (header_at max_chunk (take 8 bytes)) (drop 8 bytes) e (le-ltb _ _ enough) h

-- fewer bytes than a header has
pub prefix_few : (max_chunk : ℕ) (bytes : List ℕ) → length bytes < 8 → prefix_of max_chunk bytes ≡ Short
unfolding prefix_of
prefix_few max_chunk bytes few = let test : nat_lt (length bytes) 8 ≡ true = lt-ltb _ _ few in rw test refl

-- a whole body at its place
pub prefix_body : (max_chunk : ℕ) (bytes : List ℕ) (h : Header) → header_in max_chunk bytes ≡ Ok h → 8 ≤ length bytes → h.stored ≤ length bytes - 8
    → prefix_of max_chunk bytes ≡ body_of h (take h.stored (drop 8 bytes))
prefix_body max_chunk bytes h e enough long =
    let size : length (take h.stored (drop 8 bytes)) ≡ h.stored = length-take-le h.stored (drop 8 bytes) (omega (arith, length-drop 8 bytes)) in
    prefix_whole max_chunk bytes (take h.stored (drop 8 bytes)) (drop h.stored (drop 8 bytes)) h e (sym (take-append-drop h.stored (drop 8 bytes))) size
