-- Xorbs as they are built: how many bytes they have, and that they are xorbs of their parts.
use Rattle.std.proofs.Common.{◌≡◌, ◌∙◌, ℕ, ◌+◌, ◌*◌, ◌<◌, Bool, true, false, List, [], ◌∷◌, ◌++◌, length, map, Some, refl, sym, ap, subst, arith, length-append}
use Rattle.std.proofs.lemmas.List.{length-map}
use Rattle.std.proofs.lemmas.List.Sums.{sum_by-cons}
use Rattle.std.specs.Bool.{then_some}
use Rattle.std.specs.List.{flat_map, sum_by}
use Rattle.xet_hash.specs.Merkle.{leaf_of, leaves_of, total_len, xorb_hash}
use Rattle.xet_shard_format.specs.Records.{chunk_bytes}
use Rattle.xet_shard_format.specs.declared.record.XorbChunkSequenceEntry.{XorbChunkSequenceEntry}
use Rattle.xet_xorb_footer.specs.FooterEncoding.{length_of, footer_bytes_v1}
use Rattle.xet_codec.specs.Numbers.{number}
use Rattle.xet_xorb_footer.specs.theorems.Readback.{length_is_known}
use Rattle.xet_xorb_chunk.specs.ChunkEncoding.{encoded_chunk}
use Rattle.xet_xorb.specs.declared.building.SerializedXorbObject.{SerializedXorbObject}
use Rattle.xet_xorb.specs.declared.raw.RawXorbData.{RawXorbData}
use Rattle.xet_xorb.specs.Building.{built_of, ending, no_spare, start_of_footer}
use Rattle.xet_xorb.specs.Footer.{V1, footer_len, footer_v1}
use Rattle.xet_xorb.specs.Raw.{ArePartsOfXorb, IsRaw, raw_leaves}
use Rattle.xet_xorb.specs.Xorb.{IsXorbEncoding, xorb_bytes}
use Rattle.xet_xorb.specs.theorems.Digests.{length-xorb_hash, leaves_hashed}
use Rattle.xet_xorb.specs.theorems.OfLeaves.{length-ends, length-hashes, standard_v1}

-- ---- what is listed

abbrev pub entry_leaf : XorbChunkSequenceEntry → List ℕ × ℕ
entry_leaf c = (c.chunk_hash, c.unpacked_segment_bytes)

abbrev lengths_of : List XorbChunkSequenceEntry → List ℕ
lengths_of entries = map (λ (c : XorbChunkSequenceEntry). c.unpacked_segment_bytes) entries

total_of : (parts : List (List ℕ)) (entries : List XorbChunkSequenceEntry) → map length parts ≡ lengths_of entries → (total_len (map entry_leaf entries) ≡ sum_by length parts) × (chunk_bytes entries ≡ sum_by length parts)
total_of [] [] e = (refl, refl)
total_of [] (c ∷ cs) e = absurd (cc e)
total_of (p ∷ ps) [] e = absurd (cc e)
total_of (p ∷ ps) (c ∷ cs) e =
    let head : length p ≡ c.unpacked_segment_bytes = cc e in
    let tail : map length ps ≡ lengths_of cs = cc e in
    let rest = total_of ps cs tail in (
      omega (arith, head, rest.0, sum_by-cons length p ps, sum_by-cons (λ (m : List ℕ × ℕ). m.1) (entry_leaf c) (map entry_leaf cs)),
      omega (arith, head, rest.1, sum_by-cons length p ps, sum_by-cons (λ (x : XorbChunkSequenceEntry). x.unpacked_segment_bytes) c cs),
    )

-- the listed leaves are as many as the parts, and have as many bytes
pub count_listed : (x : RawXorbData) → IsRaw x → length (raw_leaves x) ≡ length x.parts
count_listed x raw = length-map x.xorb_info.chunks _ ∙ sym (length-map x.xorb_info.chunks _) ∙ ap length (sym raw.listed) ∙ length-map x.parts length

pub total_listed : (x : RawXorbData) → IsRaw x → total_len (raw_leaves x) ≡ sum_by length x.parts
total_listed x raw = (total_of x.parts x.xorb_info.chunks raw.listed).0

pub plain_listed : (x : RawXorbData) → IsRaw x → chunk_bytes x.xorb_info.chunks ≡ sum_by length x.parts
plain_listed x raw = (total_of x.parts x.xorb_info.chunks raw.listed).1

-- ---- lengths

pub total_leaves : (chunks : List (List ℕ)) → total_len (leaves_of chunks) ≡ sum_by length chunks
total_leaves [] = refl
total_leaves (c ∷ cs) = omega (arith, total_leaves cs, sum_by-cons length c cs, sum_by-cons (λ (m : List ℕ × ℕ). m.1) (leaf_of c) (leaves_of cs))

length-encoded_chunk : (b : List ℕ) → length (encoded_chunk b) ≡ 8 + length b
unfolding encoded_chunk
length-encoded_chunk b = omega arith

pub length_encoded : (chunks : List (List ℕ)) → length (flat_map encoded_chunk chunks) ≡ sum_by length chunks + 8 * length chunks
length_encoded [] = refl
length_encoded (c ∷ cs) = omega (arith, length-append (encoded_chunk c) (flat_map encoded_chunk cs), length-encoded_chunk c, length_encoded cs, sum_by-cons length c cs)

-- the footer of leaves is as long as it is told
pub length_of_leaves : (hash : List ℕ) (ms : List (List ℕ × ℕ)) (spare : List ℕ) → length_of (footer_v1 hash ms spare) ≡ footer_len V1 (length ms)
length_of_leaves hash ms spare = omega (arith, length-hashes ms, length-ends 8 0 ms, length-ends 0 0 ms)

-- ---- the whole

-- a footer of leaves, and its length
pub ending_is : (hash : List ℕ) (ms : List (List ℕ × ℕ)) (info : _) → info ≡ footer_v1 hash ms no_spare → footer_bytes_v1 info ++ number (length_of info) ≡ ending true hash ms
ending_is hash ms info is =
    ap (λ (i : _). footer_bytes_v1 i ++ number (length_of i)) is ∙ ap (λ (n : ℕ). footer_bytes_v1 (footer_v1 hash ms no_spare) ++ number n) (length_of_leaves hash ms no_spare)

-- parts that have their digests and their hash are a xorb
pub parts_encoding : (parts : List (List ℕ)) → ArePartsOfXorb parts → 0 < length parts → IsXorbEncoding (flat_map encoded_chunk parts ++ ending true (xorb_hash (leaves_of parts)) (leaves_of parts)) parts
unfolding xorb_bytes
parts_encoding parts are some =
    let ms : List (List ℕ × ℕ) = leaves_of parts in
    let hash : List ℕ = xorb_hash ms in
    let hashed = leaves_hashed parts in
    let count : length ms ≡ length parts = length-map parts _ in
    let total : total_len ms ≡ sum_by length parts = total_leaves parts in
    let standard = standard_v1 hash ms no_spare (length-xorb_hash ms hashed) hashed (omega (arith, are.count)) (omega (arith, are.count, are.total)) refl in
    let footer : length (footer_bytes_v1 (footer_v1 hash ms no_spare)) ≡ 92 + 40 * length ms = length_is_known (footer_v1 hash ms no_spare) standard in
    let tail : List ℕ = number (92 + 40 * length ms) in
    let four : length tail ≡ 4 = refl in
    record {
      some = some;
      small = are.small;
      bound = omega (arith, are.count, are.total, length_encoded parts, length-append (flat_map encoded_chunk parts) (footer_bytes_v1 (footer_v1 hash ms no_spare) ++ tail), length-append (footer_bytes_v1 (footer_v1 hash ms no_spare)) tail);
      version = V1;
      spare = no_spare;
      spare_len = refl;
      encoded = refl;
    }

-- a footer begins where the stored chunks end
pub start_is : (footer : Bool) (n : ℕ) (parts : List (List ℕ)) → n ≡ length (flat_map encoded_chunk parts) → then_some footer n ≡ start_of_footer footer parts
start_is true n parts e = ap (λ (m : ℕ). Some m) e
start_is false n parts e = refl

-- the record of what was built
pub built_is : (x : RawXorbData) (footer : Bool) (s : SerializedXorbObject) → IsRaw x → s.serialized_data ≡ flat_map encoded_chunk x.parts ++ ending footer x.xorb_info.metadata.xorb_hash (raw_leaves x)
    → s.hash ≡ x.xorb_info.metadata.xorb_hash → s.raw_num_bytes ≡ chunk_bytes x.xorb_info.chunks → s.num_chunks ≡ length x.parts → s.footer_start ≡ start_of_footer footer x.parts → s ≡ built_of x footer
built_is x footer s raw bytes hash plain count start =
    let all : s.raw_num_bytes ≡ sum_by length x.parts = plain ∙ plain_listed x raw in
    λ i. record { serialized_data = bytes i; hash = hash i; raw_num_bytes = all i; num_chunks = count i; footer_start = start i }

-- with a footer, and with the digests of its parts, it is a xorb
pub built_encoding : (x : RawXorbData) (footer : Bool) (s : SerializedXorbObject) → IsRaw x → s ≡ built_of x footer → footer ≡ true → 0 < length x.parts → raw_leaves x ≡ leaves_of x.parts
    → x.xorb_info.metadata.xorb_hash ≡ xorb_hash (leaves_of x.parts) → IsXorbEncoding s.serialized_data x.parts
built_encoding x footer s raw built with some leaves hash =
    let bytes : s.serialized_data ≡ flat_map encoded_chunk x.parts ++ ending true (xorb_hash (leaves_of x.parts)) (leaves_of x.parts) =
    ap (λ (t : SerializedXorbObject). t.serialized_data) built ∙ ap (λ (f : Bool). flat_map encoded_chunk x.parts ++ ending f x.xorb_info.metadata.xorb_hash (raw_leaves x)) with
    ∙ ap (λ (h : List ℕ). flat_map encoded_chunk x.parts ++ ending true h (raw_leaves x)) hash
    ∙ ap (λ (ms : List (List ℕ × ℕ)). flat_map encoded_chunk x.parts ++ ending true (xorb_hash (leaves_of x.parts)) ms) leaves in
    subst (λ (b : List ℕ). IsXorbEncoding b x.parts) (sym bytes) (parts_encoding x.parts raw.parts some)
