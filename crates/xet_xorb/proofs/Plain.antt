-- What is read of the bytes of a validated xorb where its chunks are stored.
use Rattle.std.proofs.Common.{◌≡◌, ◌≢◌, ◌∙◌, ℕ, zero, suc, ◌+◌, ◌-◌, ◌<◌, ◌≤◌, ◌^◌, Bool, List, [], ◌∷◌, ◌++◌, length, Ok, Err, Result, drop, take, slice_range, refl, sym, subst, ap, arith, inl, inr, append_assoc, length-append}
use Rattle.std.proofs.Math.Seq.{take-add}
use Rattle.std.proofs.lemmas.Bool.{le-leb}
use Rattle.std.proofs.lemmas.Grind.{flat_map-append}
use Rattle.std.proofs.lemmas.List.{drop_at, length-map, take-append-drop, take_all, take_at}
use Rattle.std.proofs.lemmas.List.Sums.{sum_by-cons}
use Rattle.std.specs.List.{AllByRecursion, concat, flat_map, sum_by}
use Rattle.xet_hash.specs.Hash.{zero_hash}
use Rattle.xet_hash.specs.Merkle.{leaf_of, leaves_of}
use Rattle.xet_hash.specs.declared.error.StoreError.{StoreError}
use Rattle.xet_codec.specs.Parsing.{reaches, ◌>>=◌}
use Rattle.xet_xorb_chunk.specs.EncodedChunks.{AreEncoded}
use Rattle.xet_xorb_chunk.specs.ChunkEncoding.{encoded_chunk}
use Rattle.xet_xorb_chunk.specs.Stream.{Decodes, IsStream, end_of_stream}
use Rattle.xet_xorb_chunk.specs.theorems.Readback.{stream_of_encoded}
use Rattle.xet_xorb.specs.Laws.{ContentsAreChunks, RangesAreChunks}
use Rattle.xet_xorb.specs.Ranges.{IsUncompressed, ReadsPlain, in_file, listed_contents, listed_range}
use Rattle.xet_xorb.specs.Validation.{IsValid}
use Rattle.xet_xorb.specs.Xorb.{IsXorbEncoding, xorb_bytes}
use Rattle.xet_xorb.specs.declared.object.XorbObject.{XorbObject}
use Rattle.xet_xorb.proofs.Listed.{Lists, contents_are, lists_leaves, range_is, reach}

-- ---- bytes are one stream

-- bytes are decoded in one way
decoded_same : (max_chunk total : ℕ) (bytes : List ℕ) (cs ds : List (List ℕ)) (r s : Result (List ℕ) StoreError) → Decodes max_chunk total bytes cs r → Decodes max_chunk total bytes ds s → (cs ≡ ds) × (r ≡ s)
decoded_same max_chunk total bytes [] [] r s (inl d) (inl e) = (refl, d.1 ∙ sym e.1)
decoded_same max_chunk total bytes [] [] r s (inl d) (inr (inl e)) = absurd (cc (sym d.0 ∙ e.1))
decoded_same max_chunk total bytes [] [] r s (inl d) (inr (inr e)) = absurd (cc (sym d.0 ∙ e.1))
decoded_same max_chunk total bytes [] [] r s (inr (inl d)) (inl e) = absurd (cc (sym e.0 ∙ d.1))
decoded_same max_chunk total bytes [] [] r s (inr (inl d)) (inr (inl e)) =
    let same : d.0 ≡ e.0 = cc (sym d.1 ∙ e.1) in (refl, d.2 ∙ ap Err same ∙ sym e.2)
decoded_same max_chunk total bytes [] [] r s (inr (inl d)) (inr (inr e)) = absurd (cc (sym d.1 ∙ e.1))
decoded_same max_chunk total bytes [] [] r s (inr (inr d)) (inl e) = absurd (cc (sym e.0 ∙ d.1))
decoded_same max_chunk total bytes [] [] r s (inr (inr d)) (inr (inl e)) = absurd (cc (sym d.1 ∙ e.1))
decoded_same max_chunk total bytes [] [] r s (inr (inr d)) (inr (inr e)) = (refl, d.3 ∙ sym e.3)
decoded_same max_chunk total bytes [] (c ∷ cs) r s (inl d) e = absurd (cc (sym d.0 ∙ e.0))
decoded_same max_chunk total bytes [] (c ∷ cs) r s (inr (inl d)) e = absurd (cc (sym d.1 ∙ e.0))
decoded_same max_chunk total bytes [] (c ∷ cs) r s (inr (inr d)) e =
    let same : d.0 ≡ c = cc (sym d.1 ∙ e.0) in absurd (omega (arith, d.2, e.1, ap length same))
decoded_same max_chunk total bytes (c ∷ cs) [] r s d (inl e) = absurd (cc (sym e.0 ∙ d.0))
decoded_same max_chunk total bytes (c ∷ cs) [] r s d (inr (inl e)) = absurd (cc (sym e.1 ∙ d.0))
decoded_same max_chunk total bytes (c ∷ cs) [] r s d (inr (inr e)) =
    let same : e.0 ≡ c = cc (sym e.1 ∙ d.0) in absurd (omega (arith, e.2, d.1, ap length same))
decoded_same max_chunk total bytes (c ∷ cs) (b ∷ bs) r s d e =
    let same : b ≡ c = cc (sym e.0 ∙ d.0) in
    let next = subst (λ (x : List ℕ). Decodes max_chunk (total + length x) (drop (8 + length x) bytes) bs s) same e.2 in
    let rest = decoded_same max_chunk (total + length c) (drop (8 + length c) bytes) cs bs r s d.2 next in
    ((λ i. sym same i ∷ rest.0 i), rest.1)

-- and so they are one stream
stream_same : (max_chunk : ℕ) (bytes : List ℕ) (cs ds : List (List ℕ)) (one other : Result (Unit {0}) StoreError) → IsStream max_chunk bytes cs one → IsStream max_chunk bytes ds other → (cs ≡ ds) × (one ≡ other)
stream_same max_chunk bytes cs ds one other x y =
    let same = decoded_same max_chunk 0 bytes cs ds x.rest y.rest x.decodes y.decodes in (same.0, sym x.ends ∙ ap end_of_stream same.1 ∙ y.ends)

-- what is read of a stream of chunks is what they are
plain_is : (max_chunk : ℕ) (stored : List ℕ) (chunks : List (List ℕ)) (read : Result (List ℕ) StoreError) → IsStream max_chunk stored chunks (Ok tt) → IsUncompressed max_chunk stored read → read ≡ Ok (concat chunks)
plain_is max_chunk stored chunks (Ok plain) x y = ap Ok (y.2 ∙ ap concat (stream_same max_chunk stored y.0 chunks (Ok tt) (Ok tt) y.1 x).0)
plain_is max_chunk stored chunks (Err e) x y = absurd (cc (stream_same max_chunk stored chunks y.0 (Ok tt) (Err e) x y.1).1)

-- ---- where chunks are stored

length-stored : (k : ℕ) (chunks : List (List ℕ)) → length (flat_map encoded_chunk (take k chunks)) ≡ reach 8 k (leaves_of chunks)
unfolding encoded_chunk
length-stored zero chunks = refl
length-stored (suc k) [] = refl
length-stored (suc k) (c ∷ cs) = omega (arith, length-append (encoded_chunk c) (flat_map encoded_chunk (take k cs)), length-stored k cs)

-- chunks are stored in more bytes than they have
stored_more : (chunks : List (List ℕ)) → sum_by length chunks ≤ length (flat_map encoded_chunk chunks)
unfolding encoded_chunk
stored_more [] = omega arith
stored_more (c ∷ cs) = omega (arith, length-append (encoded_chunk c) (flat_map encoded_chunk cs), sum_by-cons length c cs, stored_more cs)

all_dropped : (P : List ℕ → Type 0) (k : ℕ) (chunks : List (List ℕ)) → AllByRecursion P chunks → AllByRecursion P (drop k chunks)
all_dropped P zero chunks all = all
all_dropped P (suc k) [] all = all
all_dropped P (suc k) (c ∷ cs) all = all_dropped P k cs all.1

all_taken : (P : List ℕ → Type 0) (k : ℕ) (chunks : List (List ℕ)) → AllByRecursion P chunks → AllByRecursion P (take k chunks)
all_taken P zero chunks all = tt
all_taken P (suc k) [] all = all
all_taken P (suc k) (c ∷ cs) all = (all.0, all_taken P k cs all.1)

-- a part of a list, by the lengths of what stands before it and of it
part_at : (xs ys zs : List ℕ) (from to : ℕ) → length xs ≡ from → length (xs ++ ys) ≡ to → slice_range ((xs ++ ys) ++ zs) from to ≡ ys
part_at xs ys zs from to first both =
    ap (λ (t : List ℕ). take (to - from) (drop from t)) (append_assoc xs ys zs) ∙ ap (take (to - from)) (drop_at xs (ys ++ zs) from first)
    ∙ take_at ys zs (to - from) (omega (arith, first, both, length-append xs ys))

-- These bytes of a xorb are these chunks of it, as they are stored.
record IsStored (bytes : List ℕ) (chunks : List (List ℕ)) (start end : ℕ) : Type 0 where
  pub within : reach 8 end (leaves_of chunks) ≤ length bytes
  pub part : slice_range bytes (reach 8 start (leaves_of chunks)) (reach 8 end (leaves_of chunks)) ≡ flat_map encoded_chunk (slice_range chunks start end)
  pub room : length (flat_map encoded_chunk (slice_range chunks start end)) ≤ length bytes

is_stored : (bytes rest : List ℕ) (chunks : List (List ℕ)) (start end : ℕ) → bytes ≡ flat_map encoded_chunk chunks ++ rest → start ≤ end → IsStored bytes chunks start end
is_stored bytes rest chunks start end is order =
    let part : List (List ℕ) = slice_range chunks start end in
    let before : List ℕ = flat_map encoded_chunk (take start chunks) in
    let behind : List ℕ = flat_map encoded_chunk (drop end chunks) ++ rest in
    let count : end ≡ start + (end - start) = omega arith in
    let prefix : take end chunks ≡ take start chunks ++ part = ap (λ (k : ℕ). take k chunks) count ∙ take-add start (end - start) chunks in
    let stored : flat_map encoded_chunk (take end chunks) ≡ before ++ flat_map encoded_chunk part = ap (flat_map encoded_chunk) prefix ∙ flat_map-append encoded_chunk (take start chunks) part in
    let all : flat_map encoded_chunk chunks ≡ flat_map encoded_chunk (take end chunks) ++ flat_map encoded_chunk (drop end chunks) =
    ap (flat_map encoded_chunk) (sym (take-append-drop end chunks)) ∙ flat_map-append encoded_chunk (take end chunks) (drop end chunks) in
    let split : bytes ≡ (before ++ flat_map encoded_chunk part) ++ behind =
    is ∙ ap (λ (t : List ℕ). t ++ rest) all ∙ append_assoc (flat_map encoded_chunk (take end chunks)) (flat_map encoded_chunk (drop end chunks)) rest ∙ ap (λ (t : List ℕ). t ++ behind) stored in
    let to : length (before ++ flat_map encoded_chunk part) ≡ reach 8 end (leaves_of chunks) = ap length (sym stored) ∙ length-stored end chunks in
    record {
      within = omega (arith, to, ap length split, length-append (before ++ flat_map encoded_chunk part) behind);
      part = ap (λ (t : List ℕ). slice_range t (reach 8 start (leaves_of chunks)) (reach 8 end (leaves_of chunks))) split
          ∙ part_at before (flat_map encoded_chunk part) behind (reach 8 start (leaves_of chunks)) (reach 8 end (leaves_of chunks)) (length-stored start chunks) to;
      room = omega (arith, ap length split, length-append (before ++ flat_map encoded_chunk part) behind, length-append before (flat_map encoded_chunk part));
    }

-- ---- what is read of a validated xorb

-- a xorb begins with its stored chunks
begins : (bytes : List ℕ) (chunks : List (List ℕ)) → IsXorbEncoding bytes chunks → (rest : List ℕ) × (bytes ≡ flat_map encoded_chunk chunks ++ rest)
unfolding xorb_bytes
begins bytes chunks x = (_, x.encoded)

-- what is read between the places of some chunks, if these are listed, is what the chunks are
read_is : (max_chunk : ℕ) (bytes : List ℕ) (chunks : List (List ℕ)) (start end : ℕ) (places : Result (ℕ × ℕ) StoreError) (read : Result (List ℕ) StoreError) → max_chunk < 2 ^ 23 → IsXorbEncoding bytes chunks
    → AllByRecursion (λ b. length b ≤ max_chunk) chunks → start ≤ end → places ≡ Ok (reach 8 start (leaves_of chunks), reach 8 end (leaves_of chunks))
    → ReadsPlain max_chunk bytes (in_file (length bytes) places) read → read ≡ Ok (concat (slice_range chunks start end))
read_is max_chunk bytes chunks start end places read small x fit order are reads =
    let ms = leaves_of chunks in
    let first = begins bytes chunks x in
    let s = is_stored bytes first.0 chunks start end first.1 order in
    let part : List (List ℕ) = slice_range chunks start end in
    let found : in_file (length bytes) places ≡ Ok (reach 8 start ms, reach 8 end ms) =
    ap (in_file (length bytes)) are ∙ ap (λ (b : Bool). reaches b >>= λ _. Ok (reach 8 start ms, reach 8 end ms)) (le-leb (reach 8 end ms) (length bytes) s.within) in
    let encoded : AreEncoded max_chunk (flat_map encoded_chunk part) part =
    record { fit = all_taken _ (end - start) (drop start chunks) (all_dropped _ start chunks fit); total = omega (arith, s.room, stored_more part, x.bound); encoded = refl } in
    plain_is max_chunk (flat_map encoded_chunk part) part read (stream_of_encoded max_chunk (flat_map encoded_chunk part) part small encoded)
    (subst (λ (t : List ℕ). IsUncompressed max_chunk t read) s.part (subst (λ (r : Result (ℕ × ℕ) StoreError). ReadsPlain max_chunk bytes r read) found reads))

valid_lists : (max_chunk : ℕ) (hash bytes : List ℕ) (chunks : List (List ℕ)) (o : XorbObject) → IsValid max_chunk hash bytes chunks o → hash ≢ zero_hash → Lists o.info (leaves_of chunks)
valid_lists max_chunk hash bytes chunks o valid other =
    let x = valid.xorb.encoding in
    let many : length (leaves_of chunks) ≡ length chunks = length-map chunks leaf_of in
    subst (λ (p : XorbObject). Lists p.info (leaves_of chunks)) (sym valid.listed) (lists_leaves x.version hash (leaves_of chunks) x.spare (omega (arith, x.some)) other)

pub ranges_are : RangesAreChunks
ranges_are max_chunk hash bytes chunks o start end read small valid other some few reads =
    let many : length (leaves_of chunks) ≡ length chunks = length-map chunks leaf_of in
    read_is max_chunk bytes chunks start end (listed_range o.info start end) read small valid.xorb.encoding valid.xorb.fit (omega arith)
    (range_is o.info (leaves_of chunks) start end (valid_lists max_chunk hash bytes chunks o valid other) some (omega arith)) reads

pub contents_are_read : ContentsAreChunks
contents_are_read max_chunk hash bytes chunks o read small valid other reads =
    let many : length (leaves_of chunks) ≡ length chunks = length-map chunks leaf_of in
    let places = contents_are o.info (leaves_of chunks) (valid_lists max_chunk hash bytes chunks o valid other) ∙ ap (λ (k : ℕ). Ok (0, reach 8 k (leaves_of chunks))) many in
    let all : slice_range chunks 0 (length chunks) ≡ chunks = take_all (length chunks - 0) chunks (omega arith) in
    read_is max_chunk bytes chunks 0 (length chunks) (listed_contents o.info) read small valid.xorb.encoding valid.xorb.fit (omega arith) places reads ∙ ap (λ (t : List (List ℕ)). Ok (concat t)) all
