-- Stored chunks that are read one by one, and what they are determined by.
use Rattle.std.proofs.Common.{◌≡◌, ◌∙◌, ℕ, ◌+◌, ◌-◌, ◌*◌, ◌<◌, ◌≤◌, ◌^◌, ◌/◌, ◌%◌, List, Option, Some, [], ◌∷◌, ◌++◌, inl, inr, length, length-append, drop, slice_range, take, refl, sym, ap, arith, append_assoc}
use Rattle.std.proofs.lemmas.Grind.{flat_map-append}
use Rattle.std.proofs.lemmas.List.{append-nil, drop-drop, drop-take, length-drop, length-take-le, map-append, take-append-drop, take-take, take_at}
use Rattle.std.proofs.lemmas.List.Sums.{sum_by-append}
use Rattle.std.specs.List.{AllByRecursion, flat_map}
use Rattle.xet_hash.specs.declared.error.StoreError.{StoreError}
use Rattle.xet_hash.specs.declared.error.StoreError.TheVariants.{UnexpectedEof}
use Rattle.xet_hash.specs.Merkle.{chunk_hash, leaf_of, leaves_of, total_len}
use Rattle.xet_codec.specs.Blocks.{EndsBefore}
use Rattle.xet_xorb_chunk.specs.ChunkEncoding.{encoded_chunk}
use Rattle.xet_xorb.specs.internal.Checking.{AreChunks, HaveLeaves, IsStoredAt, encoded_header}
use Rattle.xet_xorb.specs.theorems.Determined.{all_chunks, le24_same, one_chunk}

-- ---- one chunk

-- some bytes, in two parts
pub take_two : (n m : ℕ) (bytes : List ℕ) → take (n + m) bytes ≡ take n bytes ++ take m (drop n bytes)
take_two n m bytes =
    sym (take-append-drop n (take (n + m) bytes)) ∙ ap (λ (t : List ℕ). t ++ drop n (take (n + m) bytes)) (take-take n (n + m) bytes (omega arith)) ∙ ap (λ (t : List ℕ). take n bytes ++ t) (drop-take n m bytes)

-- a chunk is stored as its header and its bytes
pub encoded : (b : List ℕ) → encoded_chunk b ≡ encoded_header (length b) ++ b
unfolding encoded_chunk
encoded b = refl

length-encoded_chunk : (b : List ℕ) → length (encoded_chunk b) ≡ 8 + length b
unfolding encoded_chunk
length-encoded_chunk b = omega arith

-- the header and the bytes that were read are those of a stored chunk
pub stands : (max_chunk at end size : ℕ) (bytes header : List ℕ) → size ≤ max_chunk → at + (8 + size) ≤ end → end ≤ length bytes
    → header ≡ take 8 (drop at bytes) → header ≡ encoded_header size → IsStoredAt max_chunk bytes at end (take size (drop (at + 8) bytes))
stands max_chunk at end size bytes header fits within room read is =
    let body : List ℕ = take size (drop (at + 8) bytes) in
    let long : length body ≡ size = length-take-le size (drop (at + 8) bytes) (omega (arith, length-drop (at + 8) bytes)) in
    let both : take (8 + size) (drop at bytes) ≡ take 8 (drop at bytes) ++ take size (drop 8 (drop at bytes)) = take_two 8 size (drop at bytes) in
    let behind : drop 8 (drop at bytes) ≡ drop (at + 8) bytes = drop-drop 8 at bytes in
    let prefix : take 8 (drop at bytes) ≡ encoded_header (length body) = sym read ∙ is ∙ ap encoded_header (sym long) in
    record {
      fits = omega arith;
      within = omega arith;
      stored = ap (λ (n : ℕ). take (8 + n) (drop at bytes)) long ∙ both ∙ ap (λ (t : List ℕ). t ++ take size (drop 8 (drop at bytes))) prefix ∙ ap (λ (t : List ℕ). encoded_header (length body) ++ take size t) behind ∙ sym (encoded body);
    }

-- the header of a chunk that is stored
pub header_shown : (max_chunk at end : ℕ) (bytes header chunk : List ℕ) → header ≡ take 8 (drop at bytes) → IsStoredAt max_chunk bytes at end chunk → header ≡ encoded_header (length chunk)
header_shown max_chunk at end bytes header chunk read s =
    let prefix : take 8 (take (8 + length chunk) (drop at bytes)) ≡ take 8 (drop at bytes) = take-take 8 (8 + length chunk) (drop at bytes) (omega arith) in
    read ∙ sym prefix ∙ ap (take 8) (s.stored ∙ encoded chunk) ∙ take_at (encoded_header (length chunk)) chunk 8 refl

-- a header tells one number
pub header_same : (n m : ℕ) → n < 2 ^ 24 → m < 2 ^ 24 → encoded_header n ≡ encoded_header m → n ≡ m
header_same n m small tiny e =
    let first : n % 256 ≡ m % 256 = cc in
    let second : n / 256 % 256 ≡ m / 256 % 256 = cc in
    let third : n / 65536 % 256 ≡ m / 65536 % 256 = cc in
    le24_same n m small tiny first second third

-- what was digested is a leaf
pub digested : (at size : ℕ) (bytes digest : List ℕ) (found : Option (List ℕ)) → found ≡ Some (chunk_hash (take size (drop (at + 8) bytes))) → found ≡ Some digest
    → at + 8 + size ≤ length bytes → (digest, size) ≡ leaf_of (take size (drop (at + 8) bytes))
digested at size bytes digest found is some room =
    let body : List ℕ = take size (drop (at + 8) bytes) in
    let long : length body ≡ size = length-take-le size (drop (at + 8) bytes) (omega (arith, length-drop (at + 8) bytes)) in
    let here : Some digest ≡ Some (chunk_hash body) = sym some ∙ is in
    let hash : digest ≡ chunk_hash body = cc in
    λ i. (hash i, sym long i)

-- enough bytes do not end too early
pub too_few : (bytes : List ℕ) (at n : ℕ) (e : StoreError) → e ≡ UnexpectedEof → at + n ≤ length bytes → EndsBefore bytes at n e → ⊥
too_few bytes at n e is room (inl few) = omega (arith, few.1, length-drop at bytes)
too_few bytes at n e is room (inr (inl failed)) = cc
too_few bytes at n e is room (inr (inr memory)) = cc

-- ---- all chunks

-- one more leaf, and how many bytes it adds
pub total_more : (ms : List (List ℕ × ℕ)) (m : List ℕ × ℕ) → total_len (ms ++ m ∷ []) + 8 * length (ms ++ m ∷ []) ≡ total_len ms + 8 * length ms + (8 + m.1)
total_more ms m = omega (arith, sum_by-append (λ (x : List ℕ × ℕ). x.1) ms (m ∷ []), length-append ms (m ∷ []))

-- no chunk is in no bytes
pub none_yet : (max_chunk : ℕ) (bytes : List ℕ) → HaveLeaves max_chunk (take 0 bytes) []
none_yet max_chunk bytes = record { chunks = []; are = record { fit = tt; stored = refl }; leaves = refl }

fit_more : (max_chunk : ℕ) (cs : List (List ℕ)) (c : List ℕ) → AllByRecursion (λ b. length b ≤ max_chunk) cs → length c ≤ max_chunk → AllByRecursion (λ b. length b ≤ max_chunk) (cs ++ c ∷ [])
fit_more max_chunk [] c fit one = (one, tt)
fit_more max_chunk (b ∷ bs) c fit one = (fit.0, fit_more max_chunk bs c fit.1 one)

-- one more chunk was read
pub one_more : (max_chunk at end : ℕ) (bytes : List ℕ) (ms : List (List ℕ × ℕ)) (m : List ℕ × ℕ) (chunk : List ℕ) → HaveLeaves max_chunk (take at bytes) ms → IsStoredAt max_chunk bytes at end chunk → m ≡ leaf_of chunk
    → HaveLeaves max_chunk (take (at + (8 + m.1)) bytes) (ms ++ m ∷ [])
one_more max_chunk at end bytes ms m chunk h s is =
    let size : m.1 ≡ length chunk = ap (λ (x : List ℕ × ℕ). x.1) is in
    let last : flat_map encoded_chunk (chunk ∷ []) ≡ encoded_chunk chunk = append-nil (encoded_chunk chunk) in
    let both : flat_map encoded_chunk (h.chunks ++ chunk ∷ []) ≡ flat_map encoded_chunk h.chunks ++ encoded_chunk chunk = flat_map-append encoded_chunk h.chunks (chunk ∷ []) ∙ ap (λ (t : List ℕ). flat_map encoded_chunk h.chunks ++ t) last in
    let read : take (at + (8 + length chunk)) bytes ≡ flat_map encoded_chunk h.chunks ++ encoded_chunk chunk =
    take_two at (8 + length chunk) bytes ∙ ap (λ (t : List ℕ). t ++ take (8 + length chunk) (drop at bytes)) h.are.stored ∙ ap (λ (t : List ℕ). flat_map encoded_chunk h.chunks ++ t) s.stored in
    record {
      chunks = h.chunks ++ chunk ∷ [];
      are = record { fit = fit_more max_chunk h.chunks chunk h.are.fit s.fits; stored = ap (λ (n : ℕ). take (at + (8 + n)) bytes) size ∙ read ∙ sym both };
      leaves = ap (λ (x : List (List ℕ × ℕ)). x ++ m ∷ []) h.leaves ∙ ap (λ (x : List ℕ × ℕ). leaves_of h.chunks ++ x ∷ []) is ∙ sym (map-append leaf_of h.chunks (chunk ∷ []));
    }

small_of : (max_chunk : ℕ) (cs : List (List ℕ)) → max_chunk < 2 ^ 23 → AllByRecursion (λ b. length b ≤ max_chunk) cs → AllByRecursion (λ b. length b < 2 ^ 24) cs
small_of max_chunk [] small fit = tt
small_of max_chunk (b ∷ bs) small fit = (omega (arith, fit.0), small_of max_chunk bs small fit.1)

-- chunks at most so long are below 2 ^ 24 bytes
pub all_small : (max_chunk : ℕ) (cs : List (List ℕ)) → max_chunk < 2 ^ 23 → AllByRecursion (λ b. length b ≤ max_chunk) cs → AllByRecursion (λ b. length b < 2 ^ 24) cs
all_small = small_of

-- the chunks that are left, where the first are known
rest_of : (max_chunk : ℕ) (cs all : List (List ℕ)) (s : List ℕ) → max_chunk < 2 ^ 23 → AllByRecursion (λ b. length b ≤ max_chunk) cs → AllByRecursion (λ b. length b ≤ max_chunk) all → 0 < length s
    → flat_map encoded_chunk cs ++ s ≡ flat_map encoded_chunk all → (r : List ℕ) × (rest : List ℕ) × (length r ≤ max_chunk) × (s ≡ encoded_chunk r ++ rest)
unfolding encoded_chunk
rest_of max_chunk [] [] s small fc fa some e = absurd (omega (arith, ap length e))
rest_of max_chunk [] (r ∷ rs) s small fc fa some e = (r, flat_map encoded_chunk rs, fa.0, e)
rest_of max_chunk (c ∷ cs) [] s small fc fa some e = absurd (omega (arith, ap length e))
rest_of max_chunk (c ∷ cs) (d ∷ ds) s small fc fa some e =
    let same = one_chunk c d (flat_map encoded_chunk cs ++ s) (flat_map encoded_chunk ds) (omega (arith, fc.0)) (omega (arith, fa.0)) (sym (append_assoc (encoded_chunk c) (flat_map encoded_chunk cs) s) ∙ e) in
    rest_of max_chunk cs ds s small fc.1 fa.1 some same.1

-- bytes up to a place, in two parts
take_to : (at end : ℕ) (bytes : List ℕ) → at ≤ end → take end bytes ≡ take at bytes ++ take (end - at) (drop at bytes)
take_to at end bytes before =
    let sum : at + (end - at) ≡ end = omega arith in ap (λ (n : ℕ). take n bytes) (sym sum) ∙ take_two at (end - at) bytes

-- the chunk that begins what is left
first_stands : (max_chunk at end : ℕ) (bytes chunk rest : List ℕ) → at ≤ end → end ≤ length bytes → length chunk ≤ max_chunk → take (end - at) (drop at bytes) ≡ encoded_chunk chunk ++ rest → IsStoredAt max_chunk bytes at end chunk
first_stands max_chunk at end bytes chunk rest before room fits is =
    let long : length (take (end - at) (drop at bytes)) ≡ end - at = length-take-le (end - at) (drop at bytes) (omega (arith, length-drop at bytes)) in
    let size : length (encoded_chunk chunk) ≡ 8 + length chunk = length-encoded_chunk chunk in
    let sum : end - at ≡ 8 + length chunk + length rest = omega (arith, ap length is, length-append (encoded_chunk chunk) rest) in
    record {
      fits = fits;
      within = omega arith;
      stored = sym (take-take (8 + length chunk) (end - at) (drop at bytes) (omega arith)) ∙ ap (take (8 + length chunk)) is ∙ take_at (encoded_chunk chunk) rest (8 + length chunk) size;
    }

-- where bytes are left a chunk stands
pub next_stands : (max_chunk at end : ℕ) (bytes : List ℕ) (ms : List (List ℕ × ℕ)) (all : List (List ℕ)) → max_chunk < 2 ^ 23 → at < end → end ≤ length bytes
    → HaveLeaves max_chunk (take at bytes) ms → AreChunks max_chunk (take end bytes) all → (chunk : List ℕ) × IsStoredAt max_chunk bytes at end chunk
next_stands max_chunk at end bytes ms all small before room h a =
    let long : length (take (end - at) (drop at bytes)) ≡ end - at = length-take-le (end - at) (drop at bytes) (omega (arith, length-drop at bytes)) in
    let e : flat_map encoded_chunk h.chunks ++ take (end - at) (drop at bytes) ≡ flat_map encoded_chunk all =
    sym (ap (λ (t : List ℕ). t ++ take (end - at) (drop at bytes)) h.are.stored) ∙ sym (take_to at end bytes (omega arith)) ∙ a.stored in
    let r = rest_of max_chunk h.chunks all (take (end - at) (drop at bytes)) small h.are.fit a.fit (omega arith) e in
    (r.0, first_stands max_chunk at end bytes r.0 r.1 (omega arith) room r.2 r.3)

-- the same bytes hold the same stored chunks
pub same_chunks : (max_chunk : ℕ) (bytes : List ℕ) (cs ds : List (List ℕ)) → max_chunk < 2 ^ 23 → AreChunks max_chunk bytes cs → AreChunks max_chunk bytes ds → cs ≡ ds
same_chunks max_chunk bytes cs ds small c d =
    all_chunks cs ds (88 ∷ []) (88 ∷ []) (all_small max_chunk cs small c.fit) (all_small max_chunk ds small d.fit) (_, refl) (_, refl) (ap (λ (t : List ℕ). t ++ 88 ∷ []) (sym c.stored ∙ d.stored))

-- ---- bytes that are compared piece by piece

-- the next piece of a text
piece_is : (done size : ℕ) (encoding piece : List ℕ) → done + size ≤ length encoding → piece ≡ slice_range encoding done (done + size) → (piece ≡ take size (drop done encoding)) × (length piece ≡ size)
piece_is done size encoding piece room is =
    let count : done + size - done ≡ size = omega arith in
    let here : piece ≡ take size (drop done encoding) = is ∙ ap (λ (n : ℕ). take n (drop done encoding)) count in
    (here, ap length here ∙ length-take-le size (drop done encoding) (omega (arith, length-drop done encoding)))

-- one more piece is the same
pub piece_more : (at done size : ℕ) (encoding bytes piece : List ℕ) → done + size ≤ length encoding → piece ≡ slice_range encoding done (done + size)
    → take done encoding ≡ take done (drop at bytes) → piece ≡ take (length piece) (drop (at + done) bytes) → take (done + size) encoding ≡ take (done + size) (drop at bytes)
piece_more at done size encoding bytes piece room is kept equal =
    let p = piece_is done size encoding piece room is in
    let behind : drop done (drop at bytes) ≡ drop (at + done) bytes = drop-drop done at bytes in
    let next : take size (drop done encoding) ≡ take size (drop done (drop at bytes)) =
    sym p.0 ∙ equal ∙ ap (λ (n : ℕ). take n (drop (at + done) bytes)) p.1 ∙ ap (take size) (sym behind) in
    take_two done size encoding ∙ ap (λ (t : List ℕ). t ++ take size (drop done encoding)) kept ∙ ap (λ (t : List ℕ). take done (drop at bytes) ++ t) next ∙ sym (take_two done size (drop at bytes))

-- each piece of the same bytes is the same
pub piece_same : (at done size : ℕ) (encoding bytes piece : List ℕ) → done + size ≤ length encoding → piece ≡ slice_range encoding done (done + size)
    → encoding ≡ take (length encoding) (drop at bytes) → piece ≡ take (length piece) (drop (at + done) bytes)
piece_same at done size encoding bytes piece room is equal =
    let p = piece_is done size encoding piece room is in
    let more : ℕ = length encoding - done in
    let all : done + more ≡ length encoding = omega arith in
    let behind : drop done (drop at bytes) ≡ drop (at + done) bytes = drop-drop done at bytes in
    let rest : drop done encoding ≡ take more (drop done (drop at bytes)) =
    ap (drop done) (equal ∙ ap (λ (n : ℕ). take n (drop at bytes)) (sym all)) ∙ drop-take done more (drop at bytes) in
    let here : piece ≡ take size (drop (at + done) bytes) = p.0 ∙ ap (take size) rest ∙ take-take size more (drop done (drop at bytes)) (omega arith) ∙ ap (take size) behind in
    here ∙ ap (λ (n : ℕ). take n (drop (at + done) bytes)) (sym p.1)
