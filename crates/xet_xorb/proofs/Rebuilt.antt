-- Stored chunks that are copied: they are spelled, and with their footer they are a xorb.
use Rattle.std.proofs.Common.{◌≡◌, ◌∙◌, ◌⊎◌, ℕ, zero, suc, ◌+◌, ◌-◌, ◌*◌, ◌<◌, ◌≤◌, ◌^◌, List, [], ◌∷◌, ◌++◌, length, take, drop, get_or, slice_range, Some, None, Ok, Err, Result, true, refl, sym, ap, subst, inl, inr, arith, length-drop}
use Rattle.std.proofs.Math.Seq.{take-add}
use Rattle.std.proofs.lemmas.Bool.{cases_lt}
use Rattle.std.proofs.lemmas.Grind.{flat_map-append}
use Rattle.std.proofs.lemmas.List.{append-nil, drop-drop, drop-take, drop_all, get_or-drop, length-map, length-take, length-take-le, length_push, map_push, take-append-drop, take-append-le}
use Rattle.std.proofs.lemmas.List.Sums.{sum_by_push}
use Rattle.std.specs.List.{AllByRecursion, flat_map, sum_by}
use Rattle.xet_hash.specs.Merkle.{chunk_hash, leaf_of, leaves_of, total_len, xorb_hash}
use Rattle.xet_hash.specs.declared.error.Reason.TheVariants.{ChunkCount}
use Rattle.xet_hash.specs.declared.error.StoreError.{StoreError}
use Rattle.xet_hash.specs.declared.error.StoreError.TheVariants.{ChunkHeaderParse, MalformedData, UnexpectedEof}
use Rattle.xet_xorb_footer.specs.declared.info.XorbObjectInfoV1.{XorbObjectInfoV1}
use Rattle.xet_xorb_footer.specs.FooterEncoding.{length_of, max_chunks, footer_bytes_v1}
use Rattle.xet_codec.specs.Numbers.{number}
use Rattle.xet_xorb_chunk.specs.Header.{Header, header_at}
use Rattle.xet_xorb_chunk.specs.ChunkEncoding.{encoded_chunk}
use Rattle.xet_xorb_chunk.specs.Stream.{Decodes, Fails, IsStream, Short, Whole, after_header, body_of, end_of_stream, prefix_of}
use Rattle.xet_xorb_chunk.specs.theorems.Prefixes.{prefix_few}
use Rattle.xet_xorb_chunk.specs.theorems.More.{behind_all, behind_few, body_whole, prefix_at, whole_within}
use Rattle.xet_xorb_chunk.specs.theorems.Passed.{decodes_after, passes_append}
use Rattle.xet_xorb_chunk.specs.theorems.Readback.{encoded_of_stream}
use Rattle.xet_xorb.specs.declared.object.XorbObject.{XorbObject}
use Rattle.xet_xorb.specs.Building.{ending, no_spare, object_for, encoding_of}
use Rattle.xet_xorb.specs.internal.Copying.{AreBefore, IsCopied, IsNoCopy, ShowsNext}
use Rattle.xet_xorb.specs.Footer.{V1, footer_v1}
use Rattle.xet_xorb.specs.Object.{object_of}
use Rattle.xet_xorb.specs.Xorb.{IsXorbEncoding, xorb_bytes}
use Rattle.xet_xorb.proofs.Built.{ending_is, length_encoded, length_of_leaves, total_leaves}

-- ---- a whole chunk at the front is spelled there

-- bytes are below 256
abbrev pub AreBytes : List ℕ → Type 0
AreBytes bytes = (i : ℕ) → get_or bytes i 0 < 256

bytes_after : (n : ℕ) (bytes : List ℕ) → AreBytes bytes → AreBytes (drop n bytes)
bytes_after n bytes small = λ i. subst (λ (b : ℕ). b < 256) (sym (get_or-drop n bytes i 0)) (small (n + i))

bytes_before : (n : ℕ) (bytes : List ℕ) → AreBytes bytes → AreBytes (take n bytes)
bytes_before zero bytes small i = omega arith
bytes_before (suc n) [] small i = omega arith
bytes_before (suc n) (b ∷ bs) small zero = small zero
bytes_before (suc n) (b ∷ bs) small (suc i) = bytes_before n bs (λ j. small (suc j)) i

take-take : (n m : ℕ) (xs : List ℕ) → n ≤ m → n ≤ length xs → take n (take m xs) ≡ take n xs
take-take n m xs less long = sym (take-append-le n (take m xs) (drop m xs) (omega (arith, length-take m xs))) ∙ ap (take n) (take-append-drop m xs)

behind_fewer_of : (h : Header) (rest chunk : List ℕ) (n : ℕ) → (length rest < h.stored) ⊎ (h.stored ≤ length rest) → after_header (Ok h) rest ≡ Whole chunk → length chunk ≤ n → after_header (Ok h) (take n rest) ≡ Whole chunk
behind_fewer_of h rest chunk n (inl few) e long = absurd (cc (sym (behind_few h rest few) ∙ e))
behind_fewer_of h rest chunk n (inr enough) e long =
    let body : body_of h (take h.stored rest) ≡ Whole chunk = sym (behind_all h rest enough) ∙ e in
    let same : take h.stored rest ≡ chunk = body_whole h (take h.stored rest) chunk body in
    let size : h.stored ≤ n = omega (arith, ap length same, length-take-le h.stored rest enough) in
    behind_all h (take n rest) (omega (arith, length-take n rest)) ∙ ap (body_of h) (take-take h.stored n rest size enough) ∙ body

behind_fewer : (r : Result Header StoreError) (rest chunk : List ℕ) (n : ℕ) → after_header r rest ≡ Whole chunk → length chunk ≤ n → after_header r (take n rest) ≡ Whole chunk
behind_fewer (Err x) rest chunk n e long = e
behind_fewer (Ok h) rest chunk n e long = behind_fewer_of h rest chunk n (cases_lt (length rest) h.stored) e long

-- no bytes after it are needed
prefix_alone : (max_chunk : ℕ) (bytes chunk : List ℕ) → prefix_of max_chunk bytes ≡ Whole chunk → prefix_of max_chunk (take (8 + length chunk) bytes) ≡ Whole chunk
prefix_alone max_chunk bytes chunk e =
    let n : ℕ = 8 + length chunk in
    let within = whole_within max_chunk bytes chunk e in
    let head : take 8 (take n bytes) ≡ take 8 bytes = take-take 8 n bytes (omega arith) (omega arith) in
    let rest : drop 8 (take n bytes) ≡ take (length chunk) (drop 8 bytes) = drop-take 8 (length chunk) bytes in
    prefix_at max_chunk (take n bytes) (omega (arith, length-take-le n bytes within)) ∙ ap (λ (x : List ℕ). after_header (header_at max_chunk x) (drop 8 (take n bytes))) head ∙ ap (after_header (header_at max_chunk (take 8 bytes))) rest
    ∙ behind_fewer (header_at max_chunk (take 8 bytes)) (drop 8 bytes) chunk (length chunk) (sym (prefix_at max_chunk bytes (omega arith)) ∙ e) (omega arith)

prefix_encoded : (max_chunk : ℕ) (bytes chunk : List ℕ) → AreBytes bytes → length chunk < 2 ^ 32 → prefix_of max_chunk bytes ≡ Whole chunk → take (8 + length chunk) bytes ≡ encoded_chunk chunk
prefix_encoded max_chunk bytes chunk small fits e =
    let n : ℕ = 8 + length chunk in
    let none : drop n (take n bytes) ≡ [] = drop_all n (take n bytes) (omega (arith, length-take n bytes)) in
    let end : prefix_of max_chunk (drop n (take n bytes)) ≡ Short = prefix_few max_chunk _ (omega (arith, ap length none)) in
    let stream : IsStream max_chunk (take n bytes) (chunk ∷ []) (Ok tt) = record { rest = Ok []; decodes = (prefix_alone max_chunk bytes chunk e, omega arith, inl (end, ap (λ (x : List ℕ). Ok x) (sym none))); ends = refl } in
    (encoded_of_stream max_chunk (take n bytes) (chunk ∷ []) (bytes_before n bytes small) stream).encoded ∙ append-nil (encoded_chunk chunk)

-- ---- chunk by chunk

-- how far they go
pub prefix_len : (max_chunk : ℕ) (raw : List ℕ) (chunks : List (List ℕ)) (at : ℕ) → AreBefore max_chunk raw chunks at → at ≡ sum_by length chunks + 8 * length chunks
prefix_len max_chunk raw chunks at f = sym (length-take-le at raw f.within) ∙ ap length f.encoded ∙ length_encoded chunks

pub prefix_none : (max_chunk : ℕ) (raw : List ℕ) → AreBefore max_chunk raw [] 0
prefix_none max_chunk raw = record { passes = (refl, refl); encoded = refl; within = omega arith }

-- one more
pub prefix_step : (max_chunk : ℕ) (raw : List ℕ) (chunks : List (List ℕ)) (at n : ℕ) (chunk : List ℕ) → AreBytes raw → length raw < 2 ^ 32 → AreBefore max_chunk raw chunks at
    → prefix_of max_chunk (drop at raw) ≡ Whole chunk → length chunk ≡ n → AreBefore max_chunk raw (chunks ++ chunk ∷ []) (at + 8 + n)
prefix_step max_chunk raw chunks at n chunk small bound f e size =
    let len = prefix_len max_chunk raw chunks at f in
    let inside : 8 + length chunk ≤ length raw - at = omega (arith, whole_within max_chunk (drop at raw) chunk e, length-drop at raw) in
    let step : at + 8 + n ≡ at + (8 + length chunk) = omega arith in
    let rest : drop (8 + length chunk) (drop at raw) ≡ drop (at + 8 + n) raw = drop-drop (8 + length chunk) at raw ∙ ap (λ (k : ℕ). drop k raw) (sym step) in
    let sum : sum_by length chunks + length chunk ≡ sum_by length (chunks ++ chunk ∷ []) = sym (sum_by_push length chunks chunk) in
    let fits : sum_by length chunks + length chunk < 2 ^ 32 = omega (arith, f.within) in
    record {
      passes = passes_append max_chunk 0 raw chunks (sum_by length chunks) (drop at raw) (chunk ∷ []) (sum_by length (chunks ++ chunk ∷ [])) (drop (at + 8 + n) raw) f.passes (e, fits, (sym sum, sym rest));
      encoded =
          ap (λ (k : ℕ). take k raw) step ∙ take-add at (8 + length chunk) raw ∙ ap (λ (x : List ℕ). x ++ take (8 + length chunk) (drop at raw)) f.encoded
          ∙ ap (λ (x : List ℕ). flat_map encoded_chunk chunks ++ x) (prefix_encoded max_chunk (drop at raw) chunk (bytes_after at raw small) (omega arith) e ∙ sym (append-nil (encoded_chunk chunk))) ∙ sym (flat_map-append encoded_chunk chunks (chunk ∷ []));
      within = omega (arith, f.within);
    }

-- ---- what comes next

next_chunk_of : (max_chunk : ℕ) (raw : List ℕ) (at n : ℕ) (rest : List ℕ) → rest ≡ drop at raw → ShowsNext max_chunk rest (Ok (Some n)) → (prefix_of max_chunk (drop at raw) ≡ Whole (take n (drop (at + 8) raw))) × (length (take n (drop (at + 8) raw)) ≡ n)
next_chunk_of max_chunk raw at n rest is next =
    let seam : drop 8 rest ≡ drop (at + 8) raw = ap (drop 8) is ∙ drop-drop 8 at raw ∙ ap (λ (k : ℕ). drop k raw) (omega arith) in (
      ap (prefix_of max_chunk) (sym is) ∙ next.0 ∙ ap (λ (x : List ℕ). Whole (take n x)) seam,
      length-take-le n (drop (at + 8) raw) (omega (arith, next.1, ap length seam, length-drop 8 rest)),
    )

-- the next chunk, as it was read
pub next_is : (max_chunk : ℕ) (raw : List ℕ) (chunks : List (List ℕ)) (at n : ℕ) (rest : List ℕ) → AreBytes raw → length raw < 2 ^ 32 → AreBefore max_chunk raw chunks at → rest ≡ drop at raw → ShowsNext max_chunk rest (Ok (Some n))
    → AreBefore max_chunk raw (chunks ++ take n (drop (at + 8) raw) ∷ []) (at + 8 + n)
next_is max_chunk raw chunks at n rest small bound f is next =
    let c = next_chunk_of max_chunk raw at n rest is next in prefix_step max_chunk raw chunks at n (take n (drop (at + 8) raw)) small bound f c.0 c.1

-- and its leaf
pub next_leaf : (max_chunk : ℕ) (raw : List ℕ) (chunks : List (List ℕ)) (at n : ℕ) (rest hash : List ℕ) (old new : List (List ℕ × ℕ)) → rest ≡ drop at raw → ShowsNext max_chunk rest (Ok (Some n))
    → hash ≡ chunk_hash (slice_range raw (at + 8) (at + 8 + n)) → new ≡ old ++ (hash, n) ∷ [] → old ≡ leaves_of chunks → new ≡ leaves_of (chunks ++ take n (drop (at + 8) raw) ∷ [])
next_leaf max_chunk raw chunks at n rest hash old new is next digest pushed kept =
    let c = next_chunk_of max_chunk raw at n rest is next in
    let size : at + 8 + n - (at + 8) ≡ n = omega arith in
    let own : hash ≡ chunk_hash (take n (drop (at + 8) raw)) = digest ∙ ap (λ (k : ℕ). chunk_hash (take k (drop (at + 8) raw))) size in
    let count : n ≡ length (take n (drop (at + 8) raw)) = sym c.1 in
    let leaf : (hash, n) ≡ leaf_of (take n (drop (at + 8) raw)) = λ i. (own i, count i) in
    pushed ∙ ap (λ (ms : List (List ℕ × ℕ)). ms ++ (hash, n) ∷ []) kept ∙ ap (λ (m : List ℕ × ℕ). leaves_of chunks ++ m ∷ []) leaf ∙ sym (map_push leaf_of chunks (take n (drop (at + 8) raw)))

decoded_to : (max_chunk : ℕ) (raw : List ℕ) (chunks : List (List ℕ)) (at : ℕ) (r : Result (List ℕ) StoreError) → AreBefore max_chunk raw chunks at → Decodes max_chunk (sum_by length chunks) (drop at raw) [] r → Decodes max_chunk 0 raw chunks r
decoded_to max_chunk raw chunks at r f d =
    subst (λ (cs : List (List ℕ)). Decodes max_chunk 0 raw cs r) (append-nil chunks) (decodes_after max_chunk 0 raw chunks (sum_by length chunks) (drop at raw) [] r f.passes d)

end_inside : (rest : List ℕ) → 0 < length rest → end_of_stream (Ok rest) ≡ Err UnexpectedEof
end_inside [] some = absurd (omega arith)
end_inside (b ∷ bs) some = refl

no_copy_by : (max_chunk : ℕ) (raw : List ℕ) (chunks : List (List ℕ)) (at : ℕ) (rest : List ℕ) (e : StoreError) → AreBefore max_chunk raw chunks at → rest ≡ drop at raw
    → ((prefix_of max_chunk rest ≡ Short) × (0 < length rest) × (e ≡ UnexpectedEof)) ⊎ (prefix_of max_chunk rest ≡ Fails e) → IsStream max_chunk raw chunks (Err e)
no_copy_by max_chunk raw chunks at rest e f is (inl s) = record {
  rest = Ok (drop at raw);
  decodes = decoded_to max_chunk raw chunks at (Ok (drop at raw)) f (inl (ap (prefix_of max_chunk) (sym is) ∙ s.0, refl));
  ends = end_inside (drop at raw) (omega (arith, s.1, ap length is)) ∙ ap (λ (x : StoreError). Err x) (sym s.2);
}
no_copy_by max_chunk raw chunks at rest e f is (inr s) = record {
  rest = Err e;
  decodes = decoded_to max_chunk raw chunks at (Err e) f (inr (inl (e, ap (prefix_of max_chunk) (sym is) ∙ s, refl)));
  ends = refl;
}

-- a check fails
pub no_copy : (max_chunk : ℕ) (raw : List ℕ) (chunks : List (List ℕ)) (at : ℕ) (rest : List ℕ) (e : StoreError) → AreBefore max_chunk raw chunks at → rest ≡ drop at raw → ShowsNext max_chunk rest (Err e) → length chunks ≤ max_chunks
    → IsNoCopy max_chunk raw e
no_copy max_chunk raw chunks at rest e f is next few = inl (record { chunks = chunks; stream = no_copy_by max_chunk raw chunks at rest e f is next.1; few = few; failure = next.0 })

-- there are too many
pub too_many : (max_chunk : ℕ) (raw : List ℕ) (chunks : List (List ℕ)) (at : ℕ) (chunk : List ℕ) (next : ℕ) → AreBefore max_chunk raw (chunks ++ chunk ∷ []) next → length chunks ≡ max_chunks → IsNoCopy max_chunk raw (MalformedData ChunkCount)
too_many max_chunk raw chunks at chunk next f full =
    inr (inl (refl, record { chunks = chunks ++ chunk ∷ []; whole = (sum_by length (chunks ++ chunk ∷ []), drop next raw, f.passes); count = omega (arith, length_push chunks chunk) }))

copied_by : (max_chunk : ℕ) (raw : List ℕ) (chunks : List (List ℕ)) (at : ℕ) (rest : List ℕ) → AreBefore max_chunk raw chunks at → rest ≡ drop at raw → (rest ≡ []) ⊎ (prefix_of max_chunk rest ≡ Fails ChunkHeaderParse)
    → IsStream max_chunk raw chunks (Ok tt) ⊎ IsStream max_chunk raw chunks (Err ChunkHeaderParse)
copied_by max_chunk raw chunks at rest f is (inl none) =
    let empty : drop at raw ≡ [] = sym is ∙ none in
    inl (record {
      rest = Ok [];
      decodes = decoded_to max_chunk raw chunks at (Ok []) f (inl (prefix_few max_chunk (drop at raw) (omega (arith, ap length empty)), ap (λ (x : List ℕ). Ok x) (sym empty)));
      ends = refl;
    })
copied_by max_chunk raw chunks at rest f is (inr footer) =
    inr (record {
      rest = Err ChunkHeaderParse;
      decodes = decoded_to max_chunk raw chunks at (Err ChunkHeaderParse) f (inr (inl (ChunkHeaderParse, ap (prefix_of max_chunk) (sym is) ∙ footer, refl)));
      ends = refl;
    })

-- nothing more comes
pub all_copied : (max_chunk : ℕ) (raw : List ℕ) (chunks : List (List ℕ)) (at : ℕ) (rest : List ℕ) (leaves : List (List ℕ × ℕ)) → AreBefore max_chunk raw chunks at → rest ≡ drop at raw → ShowsNext max_chunk rest (Ok None)
    → leaves ≡ leaves_of chunks → length leaves ≤ max_chunks → IsCopied max_chunk raw leaves at
all_copied max_chunk raw chunks at rest leaves f is next kept few =
    record {
      chunks = chunks;
      copied = record { stream = copied_by max_chunk raw chunks at rest f is next; few = omega (arith, ap (λ (ms : List (List ℕ × ℕ)). length ms) kept, length-map chunks leaf_of) };
      of_chunks = kept;
      encoded = f.encoded;
      within = f.within;
    }

-- they are fewer than 2 ^ 32 bytes
pub copied_small : (max_chunk : ℕ) (raw : List ℕ) (chunks : List (List ℕ)) (at : ℕ) (leaves : List (List ℕ × ℕ)) → AreBefore max_chunk raw chunks at → length raw < 2 ^ 32 → leaves ≡ leaves_of chunks → total_len leaves + 8 * length leaves < 2 ^ 32
copied_small max_chunk raw chunks at leaves f bound kept =
    omega (arith, f.within, prefix_len max_chunk raw chunks at f, ap (λ (ms : List (List ℕ × ℕ)). length ms) kept, ap total_len kept, length-map chunks leaf_of, total_leaves chunks)

-- ---- the whole

-- what is written of them is their xorb
pub encoding_is : (max_chunk : ℕ) (raw : List ℕ) (leaves : List (List ℕ × ℕ)) (at : ℕ) (hash : List ℕ) (info : XorbObjectInfoV1) (c : IsCopied max_chunk raw leaves at) → hash ≡ xorb_hash leaves → info ≡ footer_v1 hash leaves no_spare
    → take at raw ++ (footer_bytes_v1 info ++ number (length_of info)) ≡ encoding_of c.chunks
unfolding xorb_bytes
encoding_is max_chunk raw leaves at hash info c digest is =
    let chunks : List (List ℕ) = c.chunks in
    let stored : List ℕ = flat_map encoded_chunk chunks in
    ap (λ (x : List ℕ). x ++ (footer_bytes_v1 info ++ number (length_of info))) c.encoded ∙ ap (λ (x : List ℕ). stored ++ x) (ending_is hash leaves info is)
    ∙ ap (λ (h : List ℕ). stored ++ ending true h leaves) digest ∙ ap (λ (ms : List (List ℕ × ℕ)). stored ++ ending true (xorb_hash ms) ms) c.of_chunks

-- and its object that of the chunks
pub object_is : (max_chunk : ℕ) (raw : List ℕ) (leaves : List (List ℕ × ℕ)) (at : ℕ) (hash : List ℕ) (info : XorbObjectInfoV1) (c : IsCopied max_chunk raw leaves at) (object : XorbObject) → hash ≡ xorb_hash leaves → info ≡ footer_v1 hash leaves no_spare
    → object ≡ record { info = info; info_length = length_of info } → object ≡ object_for c.chunks
object_is max_chunk raw leaves at hash info c object digest is made =
    made ∙ ap (λ (i : XorbObjectInfoV1). record { info = i; info_length = length_of i }) is ∙ ap (λ (n : ℕ). record { info = footer_v1 hash leaves no_spare; info_length = n }) (length_of_leaves hash leaves no_spare)
    ∙ ap (λ (h : List ℕ). object_of V1 h leaves no_spare) digest ∙ ap (λ (ms : List (List ℕ × ℕ)). object_of V1 (xorb_hash ms) ms no_spare) c.of_chunks

-- one more chunk is short
pub each_more : (ms new : List (List ℕ × ℕ)) (m : List ℕ × ℕ) → AllByRecursion (λ x. x.1 < 2 ^ 24) ms → m.1 < 2 ^ 24 → new ≡ ms ++ m ∷ [] → AllByRecursion (λ x. x.1 < 2 ^ 24) new
each_more ms new m each small is = subst (λ (l : List (List ℕ × ℕ)). AllByRecursion (λ x. x.1 < 2 ^ 24) l) (sym is) (push ms each)
  where
    push : (xs : List (List ℕ × ℕ)) → AllByRecursion (λ x. x.1 < 2 ^ 24) xs → AllByRecursion (λ x. x.1 < 2 ^ 24) (xs ++ m ∷ [])
    push [] all = (small, tt)
    push (x ∷ xs) all = (all.0, push xs all.1)

short_chunks : (chunks : List (List ℕ)) → AllByRecursion (λ m. m.1 < 2 ^ 24) (leaves_of chunks) → AllByRecursion (λ b. length b < 2 ^ 24) chunks
short_chunks [] all = tt
short_chunks (c ∷ cs) all = (all.0, short_chunks cs all.1)

-- the text of short chunks is of the grammar
pub rebuilt_is_xorb : (chunks : List (List ℕ)) (leaves : List (List ℕ × ℕ)) → leaves ≡ leaves_of chunks → AllByRecursion (λ m. m.1 < 2 ^ 24) leaves → 0 < length chunks → length (encoding_of chunks) < 2 ^ 32
    → IsXorbEncoding (encoding_of chunks) chunks
rebuilt_is_xorb chunks leaves are each some bound = record {
  some = some;
  small = short_chunks chunks (subst (λ (l : List (List ℕ × ℕ)). AllByRecursion (λ m. m.1 < 2 ^ 24) l) are each);
  bound = bound;
  version = V1;
  spare = no_spare;
  spare_len = refl;
  encoded = refl;
}
