-- Round trips of chunk headers, chunks and streams of chunks.
use Rattle.std.proofs.Common.{◌≡◌, ◌∙◌, ◌⊎◌, ℕ, ◌+◌, ◌-◌, ◌*◌, ◌<◌, ◌≤◌, ◌^◌, ◌==◌, nat_eq, nat_le, nat_lt, Bool, true, false, cond, List, [], ◌∷◌, ◌++◌, codes, length, take, drop, get_or, slice_range, Ok, Err, Result, refl, sym, ap, subst, inl, inr, arith, append_assoc, length-append}
use Rattle.std.specs.Cmp.Lexicographic.{pointwise}
use Rattle.std.specs.Int.{w32, from_le_bytes}
use Rattle.std.specs.List.{AllByRecursion, flat_map, sum_by}
use Rattle.std.proofs.lemmas.Bool.{cases_lt, eq-eqb, eqb-true, le-ltb, leb-true}
use Rattle.std.proofs.lemmas.List.{drop_at, get_or-drop, length-take-le}
use Rattle.std.proofs.lemmas.List.Sums.{sum_by-cons}
use Rattle.xet_hash.specs.declared.error.StoreError.{StoreError}
use Rattle.xet_hash.specs.declared.error.StoreError.TheVariants.{ChunkHeaderParse, CompressionError, MalformedData}
use Rattle.xet_hash.specs.declared.error.Reason.TheVariants.{AutoScheme, BodyLength, HeaderVersion, PlainLength, Scheme, StoredLength}
use Rattle.xet_xorb_chunk.specs.Header.{Header, header_at, header_bytes, header_of, is_footer_magic, is_scheme, checked_then}
use Rattle.xet_xorb_chunk.specs.ChunkEncoding.{le24, encoded_chunk}
use Rattle.xet_xorb_chunk.specs.Stream.{Decodes, Whole, Fails, IsStream, after_header, body_of, end_of_stream, prefix_of}
use Rattle.xet_xorb_chunk.specs.Taking.{header_in}
use Rattle.xet_xorb_chunk.specs.EncodedChunks.{AreEncoded}
use Rattle.xet_xorb_chunk.specs.theorems.Prefix.{eight, prefix_is}
use Rattle.xet_xorb_chunk.specs.theorems.Prefixes.{prefix_few, prefix_whole}
use Rattle.xet_xorb_chunk.specs.theorems.Headers.{accepted, refused_ident}
use Rattle.xet_xorb_chunk.specs.theorems.More.{behind_all, behind_few, body_whole, prefix_at, whole_within}
use Rattle.xet_xorb_chunk.specs.theorems.Encoded.{encoded_by}

-- a number below 2 ^ 24 is that of its three bytes
number_back : (n : ℕ) → n < 2 ^ 24 → from_le_bytes w32 (le24 n ++ 0 ∷ []) ≡ n
number_back n small = omega arith

plain_version : (h : Header) → h.version ≡ 0 → is_footer_magic (header_bytes h) ≡ false
plain_version h e = let test : nat_eq h.version 88 ≡ false = ap (λ (n : ℕ). nat_eq n 88) e in rw test refl

header_back : (h : Header) → h.stored < 2 ^ 24 → h.plain < 2 ^ 24 → h ≡ header_of (header_bytes h)
header_back h stored plain = λ i. record { version = h.version; stored = sym (number_back h.stored stored) i; scheme = h.scheme; plain = sym (number_back h.plain plain) i }

-- a header that was written is read back
pub header_read_back : (max_chunk : ℕ) (h : Header) → max_chunk < 2 ^ 23 → is_scheme h.scheme ≡ true → h.version ≡ 0 → h.stored ≤ 2 * max_chunk → h.plain ≤ max_chunk → header_at max_chunk (header_bytes h) ≡ Ok h
header_read_back max_chunk h small known version stored plain =
    accepted max_chunk (header_bytes h) h (plain_version h version) (header_back h (omega arith) (omega arith)) known version stored plain

-- no accepted header begins a footer
pub header_is_no_ident : (max_chunk : ℕ) (bytes : List ℕ) (h : Header) → header_at max_chunk bytes ≡ Ok h → take 7 bytes ≡ codes "XETBLOB" → ⊥
header_is_no_ident max_chunk bytes h e ident =
    let test : is_footer_magic bytes ≡ true = ap (λ (x : List ℕ). pointwise nat_eq x (codes "XETBLOB")) ident in cc (sym (refused_ident max_chunk bytes test) ∙ e)

encoded_len : (chunk : List ℕ) → length (encoded_chunk chunk) ≡ 8 + length chunk
encoded_len chunk =
    let h : Header = record { version = 0; stored = length chunk; scheme = 0; plain = length chunk } in
    ap length (sym (encoded_by h chunk refl)) ∙ omega (arith, length-append (header_bytes h) chunk)

header_in_prefix : (max_chunk : ℕ) (h : Header) (rest : List ℕ) → header_at max_chunk (header_bytes h) ≡ Ok h → header_in max_chunk (header_bytes h ++ rest) ≡ Ok h
header_in_prefix max_chunk h rest e =
    let test : nat_lt (length (header_bytes h ++ rest)) 8 ≡ false = le-ltb _ _ (omega (arith, length-append (header_bytes h) rest)) in rw test e

-- a spelled chunk stands whole at the front
encoded_prefix : (max_chunk : ℕ) (chunk rest : List ℕ) → max_chunk < 2 ^ 23 → length chunk ≤ max_chunk → prefix_of max_chunk (encoded_chunk chunk ++ rest) ≡ Whole chunk
encoded_prefix max_chunk chunk rest small fits =
    let h : Header = record { version = 0; stored = length chunk; scheme = 0; plain = length chunk } in
    let is : encoded_chunk chunk ++ rest ≡ header_bytes h ++ (chunk ++ rest) = ap (λ (x : List ℕ). x ++ rest) (sym (encoded_by h chunk refl)) ∙ append_assoc (header_bytes h) chunk rest in
    let header = header_in_prefix max_chunk h (chunk ++ rest) (header_read_back max_chunk h small refl refl (omega arith) fits) in
    let test : (length chunk == length chunk) ≡ true = eq-eqb (length chunk) (length chunk) refl in
    prefix_whole max_chunk (encoded_chunk chunk ++ rest) chunk rest h (ap (header_in max_chunk) is ∙ header) (ap (drop 8) is) refl ∙ rw test refl

decodes_encoded : (max_chunk total : ℕ) (chunks : List (List ℕ)) → max_chunk < 2 ^ 23 → AllByRecursion (λ b. length b ≤ max_chunk) chunks → total + sum_by length chunks < 2 ^ 32
    → Decodes max_chunk total (flat_map encoded_chunk chunks) chunks (Ok [])
decodes_encoded max_chunk total [] small fit sum = inl (prefix_few max_chunk [] (omega arith), refl)
decodes_encoded max_chunk total (c ∷ cs) small fit sum =
    let more = sum_by-cons length c cs in
    let after_header : flat_map encoded_chunk cs ≡ drop (8 + length c) (encoded_chunk c ++ flat_map encoded_chunk cs) = sym (drop_at (encoded_chunk c) (flat_map encoded_chunk cs) (8 + length c) (encoded_len c)) in (
      encoded_prefix max_chunk c (flat_map encoded_chunk cs) small fit.0,
      omega (arith, more),
      subst (λ (b : List ℕ). Decodes max_chunk (total + length c) b cs (Ok [])) after_header (decodes_encoded max_chunk (total + length c) cs small fit.1 (omega (arith, more))),
    )

-- spelled chunks are a stream of them
pub stream_of_encoded : (max_chunk : ℕ) (bytes : List ℕ) (chunks : List (List ℕ)) → max_chunk < 2 ^ 23 → AreEncoded max_chunk bytes chunks → IsStream max_chunk bytes chunks (Ok tt)
stream_of_encoded max_chunk bytes chunks small are =
    record {
      rest = Ok [];
      decodes = subst (λ (b : List ℕ). Decodes max_chunk 0 b chunks (Ok [])) (sym are.encoded) (decodes_encoded max_chunk 0 chunks small are.fit (omega (arith, are.total)));
      ends = refl;
    }

by_ok : {X : Type 0} (holds : Bool) (error : StoreError) (next : Result X StoreError) (x : X) → checked_then holds error next ≡ Ok x → (holds ≡ true) × (next ≡ Ok x)
by_ok true error next x e = (refl, e)
by_ok false error next x e = absurd (cc e)

not_ok : {X : Type 0} (fails : Bool) (error : StoreError) (next : Result X StoreError) (x : X) → cond fails (Err error) next ≡ Ok x → next ≡ Ok x
not_ok false error next x e = e
not_ok true error next x e = absurd (cc e)

-- what an accepted header is
pub record Accepted (max_chunk : ℕ) (bytes : List ℕ) (h : Header) : Type 0 where
  pub is : header_of bytes ≡ h
  pub version : (header_of bytes).version ≡ 0
  pub plain : (header_of bytes).plain ≤ max_chunk

accepted_back : (max_chunk : ℕ) (bytes : List ℕ) (h : Header) → header_at max_chunk bytes ≡ Ok h → Accepted max_chunk bytes h
unfolding header_at
accepted_back max_chunk bytes h e =
    let a = not_ok (is_footer_magic bytes) ChunkHeaderParse _ h e in
    let b = by_ok (is_scheme (header_of bytes).scheme) (MalformedData Scheme) _ h a in
    let c = by_ok ((header_of bytes).version == 0) (MalformedData HeaderVersion) _ h b.1 in
    let d = by_ok (nat_le (header_of bytes).stored (2 * max_chunk)) (MalformedData StoredLength) _ h c.1 in
    let f = by_ok (nat_le (header_of bytes).plain max_chunk) (MalformedData PlainLength) _ h d.1 in
    record { is = cc f.1; version = eqb-true _ _ c.0; plain = leb-true _ _ f.0 }

body_back_by : (auto plain same : Bool) (body chunk : List ℕ) (x y z : StoreError) → cond auto (Fails x) (cond plain (cond same (Whole body) (Fails y)) (Fails z)) ≡ Whole chunk
    → (plain ≡ true) × (same ≡ true)
body_back_by true plain same body chunk x y z e = absurd (cc e)
body_back_by false true true body chunk x y z e = (refl, refl)
body_back_by false true false body chunk x y z e = absurd (cc e)
body_back_by false false same body chunk x y z e = absurd (cc e)

body_back : (h : Header) (body chunk : List ℕ) → body_of h body ≡ Whole chunk → (h.scheme ≡ 0) × (h.stored ≡ h.plain)
body_back h body chunk e =
    let b = body_back_by (h.scheme == 99) (h.scheme == 0) (h.stored == h.plain) body chunk (MalformedData AutoScheme) (MalformedData BodyLength) (CompressionError h.scheme) e in
    (eqb-true h.scheme 0 b.0, eqb-true h.stored h.plain b.1)

-- the header and the body of a whole chunk
pub record Behind (r : Result Header StoreError) (rest chunk : List ℕ) : Type 0 where
  pub header : Header
  pub is : r ≡ Ok header
  pub body : body_of header (take header.stored rest) ≡ Whole chunk
  pub within : header.stored ≤ length rest

behind_back_of : (h : Header) (rest chunk : List ℕ) → (length rest < h.stored) ⊎ (h.stored ≤ length rest) → after_header (Ok h) rest ≡ Whole chunk → Behind (Ok h) rest chunk
behind_back_of h rest chunk (inl few) e = absurd (cc (sym (behind_few h rest few) ∙ e))
behind_back_of h rest chunk (inr enough) e = record { header = h; is = refl; body = sym (behind_all h rest enough) ∙ e; within = enough }

behind_back : (r : Result Header StoreError) (rest chunk : List ℕ) → after_header r rest ≡ Whole chunk → Behind r rest chunk
behind_back (Err x) rest chunk e = absurd (cc e)
behind_back (Ok h) rest chunk e = behind_back_of h rest chunk (cases_lt (length rest) h.stored) e

number_of_cells : (a b c : ℕ) → from_le_bytes w32 (a ∷ b ∷ c ∷ 0 ∷ []) ≡ a + b * 256 + c * 65536
number_of_cells a b c = omega arith

-- a whole chunk at the front of bytes is spelled there
prefix_back : (max_chunk : ℕ) (bytes chunk : List ℕ) → ((i : ℕ) → get_or bytes i 0 < 256) → prefix_of max_chunk bytes ≡ Whole chunk
    → (bytes ≡ encoded_chunk chunk ++ drop (8 + length chunk) bytes) × (length chunk ≤ max_chunk)
prefix_back max_chunk bytes chunk small e =
    let within = whole_within max_chunk bytes chunk e in
    let b = behind_back (header_at max_chunk (take 8 bytes)) (drop 8 bytes) chunk (sym (prefix_at max_chunk bytes (omega arith)) ∙ e) in
    let h : Header = b.header in
    let a = accepted_back max_chunk (take 8 bytes) h b.is in
    let body = body_back h (take h.stored (drop 8 bytes)) chunk b.body in
    let same : take h.stored (drop 8 bytes) ≡ chunk = body_whole h (take h.stored (drop 8 bytes)) chunk b.body in
    let cells = eight bytes (omega arith) in
    let version : (header_of (take 8 bytes)).version ≡ get_or bytes 0 0 = ap (λ (t : List ℕ). (header_of (take 8 t)).version) cells in
    let scheme : (header_of (take 8 bytes)).scheme ≡ get_or bytes 4 0 = ap (λ (t : List ℕ). (header_of (take 8 t)).scheme) cells in
    let stored : (header_of (take 8 bytes)).stored ≡ get_or bytes 1 0 + get_or bytes 2 0 * 256 + get_or bytes 3 0 * 65536 =
    ap (λ (t : List ℕ). (header_of (take 8 t)).stored) cells ∙ number_of_cells (get_or bytes 1 0) (get_or bytes 2 0) (get_or bytes 3 0) in
    let plain : (header_of (take 8 bytes)).plain ≡ get_or bytes 5 0 + get_or bytes 6 0 * 256 + get_or bytes 7 0 * 65536 =
    ap (λ (t : List ℕ). (header_of (take 8 t)).plain) cells ∙ number_of_cells (get_or bytes 5 0) (get_or bytes 6 0) (get_or bytes 7 0) in
    let is_stored = ap (λ (x : Header). x.stored) a.is in
    let is_plain = ap (λ (x : Header). x.plain) a.is in
    let is_scheme = ap (λ (x : Header). x.scheme) a.is in
    let size : length chunk ≡ h.stored = ap length (sym same) ∙ length-take-le h.stored (drop 8 bytes) b.within in
    let n : h.stored ≡ length chunk = sym size in
    let encoded = prefix_is bytes h.stored small (record {
      version = sym version ∙ a.version;
      scheme = sym scheme ∙ is_scheme ∙ body.0;
      stored = sym stored ∙ is_stored;
      plain = sym plain ∙ is_plain ∙ sym body.1;
      within = omega arith;
    }) in
    let count : 8 + h.stored - 8 ≡ h.stored = omega arith in
    let part : slice_range bytes 8 (8 + h.stored) ≡ chunk = ap (λ (k : ℕ). take k (drop 8 bytes)) count ∙ same in (
      encoded ∙ ap (λ (x : List ℕ). encoded_chunk x ++ drop (8 + h.stored) bytes) part ∙ ap (λ (k : ℕ). encoded_chunk chunk ++ drop (8 + k) bytes) n,
      omega (arith, a.plain, is_plain, body.1, size),
    )

sum_more : (total : ℕ) (c : List ℕ) (cs : List (List ℕ)) → total + length c < 2 ^ 32 → (total + length c + sum_by length cs < 2 ^ 32) ⊎ (cs ≡ []) → total + sum_by length (c ∷ cs) < 2 ^ 32
sum_more total c cs one (inl more) = omega (arith, sum_by-cons length c cs)
sum_more total c cs one (inr none) = let last : sum_by length cs ≡ 0 = ap (sum_by length) none in omega (arith, last, sum_by-cons length c cs)

decoded_encoded : (max_chunk total : ℕ) (bytes : List ℕ) (chunks : List (List ℕ)) → ((i : ℕ) → get_or bytes i 0 < 256) → Decodes max_chunk total bytes chunks (Ok [])
    → (bytes ≡ flat_map encoded_chunk chunks) × AllByRecursion (λ b. length b ≤ max_chunk) chunks × ((total + sum_by length chunks < 2 ^ 32) ⊎ (chunks ≡ []))
decoded_encoded max_chunk total bytes [] small (inl d) = let none : bytes ≡ [] = cc d.1 in (none, tt, inr refl)
decoded_encoded max_chunk total bytes [] small (inr (inl d)) = absurd (cc d.2)
decoded_encoded max_chunk total bytes [] small (inr (inr d)) = absurd (cc d.3)
decoded_encoded max_chunk total bytes (c ∷ cs) small d =
    let prefix = prefix_back max_chunk bytes c small d.0 in
    let rest = decoded_encoded max_chunk (total + length c) (drop (8 + length c) bytes) cs (λ i. subst (λ (n : ℕ). n < 256) (sym (get_or-drop (8 + length c) bytes i 0)) (small (8 + length c + i))) d.2 in
    (prefix.0 ∙ ap (λ (x : List ℕ). encoded_chunk c ++ x) rest.0, (prefix.1, rest.1), inl (sum_more total c cs d.1 rest.2))

total_small : (chunks : List (List ℕ)) → (0 + sum_by length chunks < 2 ^ 32) ⊎ (chunks ≡ []) → sum_by length chunks < 2 ^ 32
total_small chunks (inl small) = omega arith
total_small chunks (inr none) = let last : sum_by length chunks ≡ 0 = ap (sum_by length) none in omega arith

ended : (bytes : List ℕ) (chunks : List (List ℕ)) (max_chunk : ℕ) (rest : Result (List ℕ) StoreError) → end_of_stream rest ≡ Ok tt → Decodes max_chunk 0 bytes chunks rest → Decodes max_chunk 0 bytes chunks (Ok [])
ended bytes chunks max_chunk (Ok []) e d = d
ended bytes chunks max_chunk (Ok (b ∷ bs)) e d = absurd (cc e)
ended bytes chunks max_chunk (Err x) e d = absurd (cc e)

-- a stream is its chunks as they are spelled
pub encoded_of_stream : (max_chunk : ℕ) (bytes : List ℕ) (chunks : List (List ℕ)) → ((i : ℕ) → get_or bytes i 0 < 256) → IsStream max_chunk bytes chunks (Ok tt) → AreEncoded max_chunk bytes chunks
encoded_of_stream max_chunk bytes chunks small is =
    let d = decoded_encoded max_chunk 0 bytes chunks small (ended bytes chunks max_chunk is.rest is.ends is.decodes) in
    record { fit = d.1; total = total_small chunks d.2; encoded = d.0 }
