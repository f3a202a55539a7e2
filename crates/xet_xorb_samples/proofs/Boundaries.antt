-- Bytes that are cut into parts at places.
use Rattle.std.proofs.Common.{◌≡◌, ◌∙◌, ℕ, ◌+◌, ◌-◌, ◌*◌, ◌<◌, ◌≤◌, ◌^◌, List, [], ◌∷◌, ◌++◌, length, map, take, drop, get_or, min, true, Some, Err, refl, sym, ap, subst, arith, append_assoc, length-append, length-drop}
use Rattle.std.proofs.Math.Seq.{drop-append_seam, take-append-add, take-append_seam, take-length}
use Rattle.std.proofs.lemmas.List.{append-nil, at_drop_all, at_drop_more, flat_map_more, length-take-le, take-append-le, take_min}
use Rattle.std.proofs.lemmas.List.Folds.{concat-append}
use Rattle.std.proofs.lemmas.List.Sums.{sum_by-cons}
use Rattle.std.specs.List.{AllByRecursion, concat, flat_map, sum_by}
use Rattle.std.specs.Prelude.{slice_range}
use Rattle.xet_hash.specs.declared.error.StoreError.{StoreError}
use Rattle.xet_hash.specs.Merkle.{chunk_hash, leaves_of, total_len, xorb_hash}
use Rattle.xet_xorb_chunk.specs.declared.scheme.CompressionScheme.{CompressionScheme}
use Rattle.xet_xorb_chunk.specs.declared.scheme.CompressionScheme.TheVariants.{Auto, ByteGrouping4LZ4, LZ4, None}
use Rattle.xet_xorb_chunk.specs.Scheme.{compressed}
use Rattle.xet_xorb_chunk.specs.ChunkEncoding.{encoded_chunk}
use Rattle.xet_base.specs.theorems.Written.{prefix_of_first, written_both, written_then}
use Rattle.xet_xorb_footer.specs.declared.info.XorbObjectInfoV1.{XorbObjectInfoV1}
use Rattle.xet_xorb_footer.specs.FooterEncoding.{length_of, max_chunks, footer_bytes_v1}
use Rattle.xet_codec.specs.Numbers.{number}
use Rattle.xet_shard_format.specs.Boundaries.{boundaries_from}
use Rattle.xet_shard_format.specs.Records.{chunk_bytes}
use Rattle.xet_shard_format.specs.declared.record.XorbChunkSequenceEntry.{XorbChunkSequenceEntry}
use Rattle.xet_xorb.specs.Building.{built, built_of, no_spare, object_for}
use Rattle.xet_xorb.specs.declared.object.XorbObject.{XorbObject}
use Rattle.xet_xorb.specs.Footer.{V1, Version, footer_len, xorb_footer_bytes, footer_v1}
use Rattle.xet_xorb.specs.Object.{object_of}
use Rattle.xet_xorb.specs.declared.raw.RawXorbData.{RawXorbData}
use Rattle.xet_xorb.specs.Raw.{ArePartsOfXorb, IsRaw, raw_leaves}
use Rattle.xet_xorb_samples.specs.Samples.{AreBoundaries, Rise, chunk_boundaries, leaves_from, parts_from}
use Rattle.xet_xorb.specs.Xorb.{xorb_bytes}
use Rattle.xet_xorb.specs.theorems.OfLeaves.{length-ends, length-hashes}

-- ---- one place after another

pub next_place : (cs : List (List ℕ × ℕ)) (i : ℕ) (c : List ℕ × ℕ) → i < length cs → c ≡ get_or cs i c → drop i cs ≡ c ∷ drop (i + 1) cs
next_place cs i c here e = at_drop_more (λ (x : List (List ℕ × ℕ)). x) cs i c here ∙ ap (λ (x : List ℕ × ℕ). x ∷ drop (i + 1) cs) (sym e)

pub rise_next : (at len : ℕ) (cs : List (List ℕ × ℕ)) (i : ℕ) (c : List ℕ × ℕ) → i < length cs → c ≡ get_or cs i c → Rise at (drop i cs) len
    → (at ≤ c.1) × Rise c.1 (drop (i + 1) cs) len
rise_next at len cs i c here e rise = subst (λ (x : List (List ℕ × ℕ)). Rise at x len) (next_place cs i c here e) rise

-- the place that comes next is within
pub rise_within : (at len : ℕ) (cs : List (List ℕ × ℕ)) → Rise at cs len → at ≤ len
rise_within at len [] rise = rise
rise_within at len (c ∷ cs) rise = omega (arith, rise.0, rise_within c.1 len cs rise.1)

-- one more leaf was pushed
pub one_leaf : (at : ℕ) (cs : List (List ℕ × ℕ)) (i : ℕ) (c : List ℕ × ℕ) (before now whole : List (List ℕ × ℕ)) → i < length cs → c ≡ get_or cs i c
    → now ≡ before ++ (c.0, c.1 - at) ∷ [] → before ++ leaves_from at (drop i cs) ≡ whole → now ++ leaves_from c.1 (drop (i + 1) cs) ≡ whole
one_leaf at cs i c before now whole here e pushed kept =
    let rest : List (List ℕ × ℕ) = leaves_from c.1 (drop (i + 1) cs) in
    ap (λ (x : List (List ℕ × ℕ)). x ++ rest) pushed ∙ append_assoc before ((c.0, c.1 - at) ∷ []) rest
    ∙ ap (λ (x : List (List ℕ × ℕ)). before ++ leaves_from at x) (sym (next_place cs i c here e)) ∙ kept

-- none is left
pub no_leaf : (at : ℕ) (cs : List (List ℕ × ℕ)) (i : ℕ) (before whole : List (List ℕ × ℕ)) → length cs ≤ i → before ++ leaves_from at (drop i cs) ≡ whole → before ≡ whole
no_leaf at cs i before whole past kept =
    sym (append-nil before) ∙ ap (λ (x : List (List ℕ × ℕ)). before ++ x) (sym (at_drop_all (leaves_from at) cs i past)) ∙ kept

-- ---- how much the parts are

pub length-parts : (at : ℕ) (cs : List (List ℕ × ℕ)) (bytes : List ℕ) → length (parts_from at cs bytes) ≡ length cs
length-parts at [] bytes = refl
length-parts at (c ∷ cs) bytes = omega (arith, length-parts c.1 cs bytes)

pub length-leaves : (at : ℕ) (cs : List (List ℕ × ℕ)) → length (leaves_from at cs) ≡ length cs
length-leaves at [] = refl
length-leaves at (c ∷ cs) = omega (arith, length-leaves c.1 cs)

pub length-encoded_chunk : (bytes : List ℕ) → length (encoded_chunk bytes) ≡ 8 + length bytes
unfolding encoded_chunk
length-encoded_chunk bytes = omega arith

pub length-encoded : (parts : List (List ℕ)) → length (flat_map encoded_chunk parts) ≡ sum_by length parts + 8 * length parts
length-encoded [] = refl
length-encoded (p ∷ ps) =
    omega (arith, length-append (encoded_chunk p) (flat_map encoded_chunk ps), length-encoded_chunk p, length-encoded ps, sum_by-cons length p ps)

-- what the parts have together is what the leaves say
part_length : (at to : ℕ) (bytes : List ℕ) → at ≤ to → to ≤ length bytes → length (slice_range bytes at to) ≡ to - at
part_length at to bytes up within = length-take-le (to - at) (drop at bytes) (omega (arith, length-drop at bytes))

pub leaves_total : (at : ℕ) (cs : List (List ℕ × ℕ)) (bytes : List ℕ) → Rise at cs (length bytes) → total_len (leaves_from at cs) ≡ sum_by length (parts_from at cs bytes)
leaves_total at [] bytes rise = refl
leaves_total at (c ∷ cs) bytes rise =
    let within : c.1 ≤ length bytes = rise_within c.1 (length bytes) cs rise.1 in
    omega (
      arith,
      sum_by-cons (λ (m : List ℕ × ℕ). m.1) (c.0, c.1 - at) (leaves_from c.1 cs),
      sum_by-cons length (slice_range bytes at c.1) (parts_from c.1 cs bytes),
      part_length at c.1 bytes rise.0 within,
      leaves_total c.1 cs bytes rise.1,
    )

-- ---- parts that are written one after another

-- all parts have fewer bytes than an address can count
pub encoded_bound : (at : ℕ) (cs : List (List ℕ × ℕ)) (bytes : List ℕ) → ArePartsOfXorb (parts_from at cs bytes) → length (flat_map encoded_chunk (parts_from at cs bytes)) < 2 ^ 31
encoded_bound at cs bytes are = omega (arith, length-encoded (parts_from at cs bytes), are.total, are.count)

-- what stands before a part, the part, and the rest
pub part_next : (at : ℕ) (cs : List (List ℕ × ℕ)) (i : ℕ) (c : List ℕ × ℕ) (bytes : List ℕ) → i < length cs → c ≡ get_or cs i c
    → parts_from at (drop i cs) bytes ≡ slice_range bytes at c.1 ∷ parts_from c.1 (drop (i + 1) cs) bytes
part_next at cs i c bytes here e = ap (λ (x : List (List ℕ × ℕ)). parts_from at x bytes) (next_place cs i c here e)

pub encoded_next : (at : ℕ) (cs : List (List ℕ × ℕ)) (i : ℕ) (c : List ℕ × ℕ) (bytes done whole : List ℕ) → i < length cs → c ≡ get_or cs i c
    → done ++ flat_map encoded_chunk (parts_from at (drop i cs) bytes) ≡ whole
    → (done ++ encoded_chunk (slice_range bytes at c.1)) ++ flat_map encoded_chunk (parts_from c.1 (drop (i + 1) cs) bytes) ≡ whole
encoded_next at cs i c bytes done whole here e kept =
    append_assoc done (encoded_chunk (slice_range bytes at c.1)) (flat_map encoded_chunk (parts_from c.1 (drop (i + 1) cs) bytes))
    ∙ ap (λ (x : List (List ℕ)). done ++ flat_map encoded_chunk x) (sym (part_next at cs i c bytes here e)) ∙ kept

pub encoded_none : (at : ℕ) (cs : List (List ℕ × ℕ)) (i : ℕ) (bytes done whole : List ℕ) → length cs ≤ i
    → done ++ flat_map encoded_chunk (parts_from at (drop i cs) bytes) ≡ whole → done ≡ whole
encoded_none at cs i bytes done whole past kept =
    sym (append-nil done) ∙ ap (λ (x : List (List ℕ)). done ++ flat_map encoded_chunk x) (sym (at_drop_all (λ (x : List (List ℕ × ℕ)). parts_from at x bytes) cs i past)) ∙ kept

pub small_next : (at : ℕ) (cs : List (List ℕ × ℕ)) (i : ℕ) (c : List ℕ × ℕ) (bytes : List ℕ) (bound : ℕ) → i < length cs → c ≡ get_or cs i c
    → AllByRecursion (λ p. length p < bound) (parts_from at (drop i cs) bytes)
    → (length (slice_range bytes at c.1) < bound) × AllByRecursion (λ p. length p < bound) (parts_from c.1 (drop (i + 1) cs) bytes)
small_next at cs i c bytes bound here e small = subst (AllByRecursion (λ p. length p < bound)) (part_next at cs i c bytes here e) small

-- a front of the next part, behind what is written, is a front of all
pub prefix_of_next : (done part rest whole before middle now : List ℕ) (n : ℕ) → (done ++ part) ++ rest ≡ whole → middle ≡ before ++ done → now ≡ middle ++ take n part
    → (m : ℕ) × (now ≡ before ++ take m whole)
prefix_of_next done part rest whole before middle now n split first next =
    let k : ℕ = min n (length part) in
    let head : take (length done + k) whole ≡ done ++ take k part =
    ap (take (length done + k)) (sym split ∙ append_assoc done part rest) ∙ take-append-add done (part ++ rest) k
    ∙ ap (λ (x : List ℕ). done ++ x) (take-append-le k part rest (omega arith)) in (
      length done + k,
      next ∙ ap (λ (x : List ℕ). middle ++ x) (sym (take_min n part)) ∙ ap (λ (x : List ℕ). x ++ take k part) first ∙ append_assoc before done (take k part)
          ∙ ap (λ (x : List ℕ). before ++ x) (sym head),
    )

-- a scheme that refuses some bytes refuses all
pub same_refusal : (scheme : CompressionScheme) (bytes : List ℕ) (e : StoreError) → compressed scheme bytes ≡ Err e → compressed scheme [] ≡ Err e
same_refusal None bytes e h = absurd (cc h)
same_refusal LZ4 bytes e h = h
same_refusal ByteGrouping4LZ4 bytes e h = h
same_refusal Auto bytes e h = absurd (cc h)

-- ---- the xorb that is written

-- a front of the chunks, or the chunks and a front of what stands behind them, is a front of the whole
pub prefix_of_chunks : (version : Version) (hash : List ℕ) (ms : List (List ℕ × ℕ)) (parts : List (List ℕ)) (spare before now : List ℕ) (n : ℕ)
    → now ≡ before ++ take n (flat_map encoded_chunk parts) → (m : ℕ) × (now ≡ before ++ take m (xorb_bytes version hash ms parts spare))
unfolding xorb_bytes
prefix_of_chunks version hash ms parts spare before now n is =
    let f = prefix_of_first (flat_map encoded_chunk parts) (xorb_footer_bytes version hash ms spare ++ number (footer_len version (length ms))) n in
    (f.0, is ∙ ap (λ (x : List ℕ). before ++ x) f.1)

pub prefix_of_footer : (version : Version) (hash : List ℕ) (ms : List (List ℕ × ℕ)) (parts : List (List ℕ)) (spare before middle now footer : List ℕ) (n : ℕ)
    → middle ≡ before ++ flat_map encoded_chunk parts → now ≡ middle ++ take n footer → footer ≡ xorb_footer_bytes version hash ms spare ++ number (footer_len version (length ms))
    → (m : ℕ) × (now ≡ before ++ take m (xorb_bytes version hash ms parts spare))
unfolding xorb_bytes
prefix_of_footer version hash ms parts spare before middle now footer n first next is = (
  length (flat_map encoded_chunk parts) + n,
  written_then before middle now (flat_map encoded_chunk parts) footer n first next
      ∙ ap (λ (x : List ℕ). before ++ take (length (flat_map encoded_chunk parts) + n) (flat_map encoded_chunk parts ++ x)) is,
)

pub whole_encoding : (version : Version) (hash : List ℕ) (ms : List (List ℕ × ℕ)) (parts : List (List ℕ)) (spare before middle now footer : List ℕ)
    → middle ≡ before ++ flat_map encoded_chunk parts → now ≡ middle ++ footer → footer ≡ xorb_footer_bytes version hash ms spare ++ number (footer_len version (length ms))
    → now ≡ before ++ xorb_bytes version hash ms parts spare
unfolding xorb_bytes
whole_encoding version hash ms parts spare before middle now footer first next is =
    written_both before middle now (flat_map encoded_chunk parts) footer first next ∙ ap (λ (x : List ℕ). before ++ (flat_map encoded_chunk parts ++ x)) is

-- how long it is
pub length-encoding : (hash : List ℕ) (ms : List (List ℕ × ℕ)) (parts : List (List ℕ)) (spare : List ℕ)
    → length (xorb_bytes V1 hash ms parts spare) ≡ length (flat_map encoded_chunk parts) + (length (footer_bytes_v1 (footer_v1 hash ms spare)) + 4)
unfolding xorb_bytes
length-encoding hash ms parts spare =
    omega (
      arith,
      length-append (flat_map encoded_chunk parts) (footer_bytes_v1 (footer_v1 hash ms spare) ++ number (footer_len V1 (length ms))),
      length-append (footer_bytes_v1 (footer_v1 hash ms spare)) (number (footer_len V1 (length ms))),
    )

-- a new footer is as long as it says
pub length_of-new : (hash : List ℕ) (ms : List (List ℕ × ℕ)) (spare : List ℕ) → length_of (footer_v1 hash ms spare) ≡ footer_len V1 (length ms)
length_of-new hash ms spare = omega (arith, length-hashes ms, length-ends 8 0 ms, length-ends 0 0 ms)

-- a footer of leaves that equal others
pub footer_of_leaves : (info : XorbObjectInfoV1) (hash : List ℕ) (made ms : List (List ℕ × ℕ)) (spare : List ℕ) → info ≡ footer_v1 hash made spare → made ≡ ms → info ≡ footer_v1 hash ms spare
footer_of_leaves info hash made ms spare is same = is ∙ ap (λ (x : List (List ℕ × ℕ)). footer_v1 hash x spare) same

-- what stands behind the chunks
pub footer_is : (info : XorbObjectInfoV1) (hash : List ℕ) (ms : List (List ℕ × ℕ)) (spare : List ℕ) → info ≡ footer_v1 hash ms spare
    → footer_bytes_v1 info ++ number (length_of info) ≡ xorb_footer_bytes V1 hash ms spare ++ number (footer_len V1 (length ms))
footer_is info hash ms spare is =
    ap (λ (x : XorbObjectInfoV1). footer_bytes_v1 x ++ number (length_of x)) is ∙ ap (λ (n : ℕ). footer_bytes_v1 (footer_v1 hash ms spare) ++ number n) (length_of-new hash ms spare)

pub object_is : (info : XorbObjectInfoV1) (hash : List ℕ) (ms : List (List ℕ × ℕ)) (spare : List ℕ) (object : XorbObject) → info ≡ footer_v1 hash ms spare
    → object ≡ record { info = info; info_length = length_of info } → object ≡ object_of V1 hash ms spare
object_is info hash ms spare object is made =
    made ∙ ap (λ (x : XorbObjectInfoV1). record { info = x; info_length = length_of x }) is
    ∙ ap (λ (n : ℕ). record { info = footer_v1 hash ms spare; info_length = n }) (length_of-new hash ms spare)

pub encoding_count : (info : XorbObjectInfoV1) (hash : List ℕ) (ms : List (List ℕ × ℕ)) (parts : List (List ℕ)) (spare : List ℕ) (start footer : ℕ) → info ≡ footer_v1 hash ms spare
    → start ≡ length (flat_map encoded_chunk parts) → footer ≡ length_of info + 4 → length_of info ≡ length (footer_bytes_v1 info) → start + footer ≡ length (xorb_bytes V1 hash ms parts spare)
encoding_count info hash ms parts spare start footer is before behind whole =
    let same : length (footer_bytes_v1 info) ≡ length (footer_bytes_v1 (footer_v1 hash ms spare)) = ap (λ (x : XorbObjectInfoV1). length (footer_bytes_v1 x)) is in
    omega (arith, before, behind, whole, same, length-encoding hash ms parts spare)

-- the whole is a front of itself
pub whole_prefix : (before encoding now : List ℕ) → now ≡ before ++ encoding → (n : ℕ) × (now ≡ before ++ take n encoding)
whole_prefix before encoding now is = (length encoding, is ∙ ap (λ (x : List ℕ). before ++ x) (sym (take-length encoding)))

-- the leaves of cuts are few, and so are their bytes
pub few_leaves : (bytes : List ℕ) (cs : List (List ℕ × ℕ)) → AreBoundaries bytes cs → length (leaves_from 0 cs) ≤ max_chunks
few_leaves bytes cs are = omega (arith, are.parts.count, length-parts 0 cs bytes, length-leaves 0 cs)

pub fit_leaves : (bytes : List ℕ) (cs : List (List ℕ × ℕ)) → AreBoundaries bytes cs → total_len (leaves_from 0 cs) + 8 * length (leaves_from 0 cs) < 2 ^ 32
fit_leaves bytes cs are =
    omega (arith, are.parts.count, are.parts.total, length-parts 0 cs bytes, length-leaves 0 cs, leaves_total 0 cs bytes are.rise)

-- ---- a raw xorb, cut where its record says

cut_out : (before part rest : List ℕ) (end : ℕ) → end ≡ length (before ++ part) → slice_range (before ++ (part ++ rest)) (length before) end ≡ part
cut_out before part rest end is =
    let count : end - length before ≡ length part = omega (arith, length-append before part) in
    ap (λ (n : ℕ). take n (drop (length before) (before ++ (part ++ rest)))) count ∙ ap (take (length part)) (drop-append_seam before (part ++ rest)) ∙ take-append_seam part rest

pub raw_parts : (before : List ℕ) (parts : List (List ℕ)) (cs : List XorbChunkSequenceEntry) → map length parts ≡ map (λ c. c.unpacked_segment_bytes) cs
    → parts_from (length before) (boundaries_from (length before) cs) (before ++ concat parts) ≡ parts
raw_parts before [] [] listed = refl
raw_parts before [] (c ∷ cs) listed = absurd (cc listed)
raw_parts before (p ∷ ps) [] listed = absurd (cc listed)
raw_parts before (p ∷ ps) (c ∷ cs) listed =
    let size : length p ≡ c.unpacked_segment_bytes = cc listed in
    let rest : map length ps ≡ map (λ (x : XorbChunkSequenceEntry). x.unpacked_segment_bytes) cs = cc listed in
    let end : length (before ++ p) ≡ length before + c.unpacked_segment_bytes = omega (arith, length-append before p) in
    let whole : (before ++ p) ++ concat ps ≡ before ++ (p ++ concat ps) = append_assoc before p (concat ps) in
    let part : slice_range (before ++ (p ++ concat ps)) (length before) (length before + c.unpacked_segment_bytes) ≡ p = cut_out before p (concat ps) (length before + c.unpacked_segment_bytes) (sym end) in
    let others : parts_from (length before + c.unpacked_segment_bytes) (boundaries_from (length before + c.unpacked_segment_bytes) cs) (before ++ (p ++ concat ps)) ≡ ps =
    ap (λ (n : ℕ). parts_from n (boundaries_from n cs) (before ++ (p ++ concat ps))) (sym end)
    ∙ ap (parts_from (length (before ++ p)) (boundaries_from (length (before ++ p)) cs)) (sym whole) ∙ raw_parts (before ++ p) ps cs rest in
    λ i. part i ∷ others i

pub raw_boundary_leaves : (at : ℕ) (cs : List XorbChunkSequenceEntry) → leaves_from at (boundaries_from at cs) ≡ map (λ c. (c.chunk_hash, c.unpacked_segment_bytes)) cs
raw_boundary_leaves at [] = refl
raw_boundary_leaves at (c ∷ cs) =
    let size : at + c.unpacked_segment_bytes - at ≡ c.unpacked_segment_bytes = omega arith in
    let rest = raw_boundary_leaves (at + c.unpacked_segment_bytes) cs in
    λ i. (c.chunk_hash, size i) ∷ rest i

pub raw_rise : (at : ℕ) (parts : List (List ℕ)) (cs : List XorbChunkSequenceEntry) → map length parts ≡ map (λ c. c.unpacked_segment_bytes) cs
    → Rise at (boundaries_from at cs) (at + length (concat parts))
raw_rise at [] [] listed = omega arith
raw_rise at [] (c ∷ cs) listed = absurd (cc listed)
raw_rise at (p ∷ ps) [] listed = absurd (cc listed)
raw_rise at (p ∷ ps) (c ∷ cs) listed =
    let size : length p ≡ c.unpacked_segment_bytes = cc listed in
    let rest : map length ps ≡ map (λ (x : XorbChunkSequenceEntry). x.unpacked_segment_bytes) cs = cc listed in
    let end : (at + c.unpacked_segment_bytes) + length (concat ps) ≡ at + length (p ++ concat ps) = omega (arith, length-append p (concat ps)) in
    (omega arith, subst (Rise (at + c.unpacked_segment_bytes) (boundaries_from (at + c.unpacked_segment_bytes) cs)) end (raw_rise (at + c.unpacked_segment_bytes) ps cs rest))

-- the same in memory
pub components_are : (hash : List ℕ) (ms : List (List ℕ × ℕ)) (parts : List (List ℕ)) (bytes : List ℕ) (plain count start : ℕ) → bytes ≡ xorb_bytes V1 hash ms parts no_spare
    → plain ≡ sum_by length parts → count ≡ length parts → start ≡ length (flat_map encoded_chunk parts)
    → record { serialized_data = bytes; hash = hash; raw_num_bytes = plain; num_chunks = count; footer_start = Some start } ≡ built hash ms parts true
unfolding xorb_bytes
components_are hash ms parts bytes plain count start encoding plain_is count_is start_is =
    λ i. record { serialized_data = encoding i; hash = hash; raw_num_bytes = plain_is i; num_chunks = count_is i; footer_start = Some (start_is i) }

raw_total : (parts : List (List ℕ)) (cs : List XorbChunkSequenceEntry) → map length parts ≡ map (λ c. c.unpacked_segment_bytes) cs → sum_by length parts ≡ chunk_bytes cs
raw_total [] [] listed = refl
raw_total [] (c ∷ cs) listed = absurd (cc listed)
raw_total (p ∷ ps) [] listed = absurd (cc listed)
raw_total (p ∷ ps) (c ∷ cs) listed =
    let size : length p ≡ c.unpacked_segment_bytes = cc listed in
    let rest : map length ps ≡ map (λ (x : XorbChunkSequenceEntry). x.unpacked_segment_bytes) cs = cc listed in
    omega (arith, size, sum_by-cons length p ps, sum_by-cons (λ (x : XorbChunkSequenceEntry). x.unpacked_segment_bytes) c cs, raw_total ps cs rest)

pub raw_fits : (x : RawXorbData) → IsRaw x → chunk_bytes x.xorb_info.chunks < 2 ^ 32
raw_fits x raw = omega (arith, raw_total x.parts x.xorb_info.chunks raw.listed, raw.parts.total)

pub raw_boundaries : (x : RawXorbData) → IsRaw x → AreBoundaries (concat x.parts) (boundaries_from 0 x.xorb_info.chunks)
raw_boundaries x raw = record {
  rise = subst (Rise 0 (boundaries_from 0 x.xorb_info.chunks)) (omega arith) (raw_rise 0 x.parts x.xorb_info.chunks raw.listed);
  parts = subst ArePartsOfXorb (sym (raw_parts [] x.parts x.xorb_info.chunks raw.listed)) raw.parts;
}

-- what is written of its parts is what is built of it
pub raw_built : (x : RawXorbData) → IsRaw x
    → built x.xorb_info.metadata.xorb_hash (leaves_from 0 (boundaries_from 0 x.xorb_info.chunks)) (parts_from 0 (boundaries_from 0 x.xorb_info.chunks) (concat x.parts)) true ≡ built_of x true
raw_built x raw =
    ap (λ (ms : List (List ℕ × ℕ)). built x.xorb_info.metadata.xorb_hash ms (parts_from 0 (boundaries_from 0 x.xorb_info.chunks) (concat x.parts)) true) (raw_boundary_leaves 0 x.xorb_info.chunks)
    ∙ ap (λ (ps : List (List ℕ)). built x.xorb_info.metadata.xorb_hash (raw_leaves x) ps true) (raw_parts [] x.parts x.xorb_info.chunks raw.listed)

-- ---- the cuts of chunks

-- a chunk as a record lists it
entry_of : List ℕ → XorbChunkSequenceEntry
entry_of c = record { chunk_hash = chunk_hash c; chunk_byte_range_start = 0; unpacked_segment_bytes = length c }

boundaries_listed : (chunks : List (List ℕ)) → map length chunks ≡ map (λ (c : XorbChunkSequenceEntry). c.unpacked_segment_bytes) (map entry_of chunks)
unfolding entry_of
boundaries_listed [] = refl
boundaries_listed (c ∷ cs) = ap (λ (x : List ℕ). length c ∷ x) (boundaries_listed cs)

boundaries_are : (at : ℕ) (chunks : List (List ℕ)) → boundaries_from at (map entry_of chunks) ≡ chunk_boundaries at chunks
unfolding entry_of
boundaries_are at [] = refl
boundaries_are at (c ∷ cs) = ap (λ (x : List (List ℕ × ℕ)). (chunk_hash c, at + length c) ∷ x) (boundaries_are (at + length c) cs)

leaves_are : (chunks : List (List ℕ)) → map (λ (c : XorbChunkSequenceEntry). (c.chunk_hash, c.unpacked_segment_bytes)) (map entry_of chunks) ≡ leaves_of chunks
unfolding entry_of
leaves_are [] = refl
leaves_are (c ∷ cs) = ap (λ (x : List (List ℕ × ℕ)). (chunk_hash c, length c) ∷ x) (leaves_are cs)

pub boundary_leaves_are : (chunks : List (List ℕ)) → leaves_from 0 (chunk_boundaries 0 chunks) ≡ leaves_of chunks
boundary_leaves_are chunks = ap (leaves_from 0) (sym (boundaries_are 0 chunks)) ∙ raw_boundary_leaves 0 (map entry_of chunks) ∙ leaves_are chunks

pub boundaries_of_chunks : (chunks : List (List ℕ)) → ArePartsOfXorb chunks → AreBoundaries (concat chunks) (chunk_boundaries 0 chunks)
boundaries_of_chunks chunks parts =
    subst (AreBoundaries (concat chunks)) (boundaries_are 0 chunks) (record {
      rise = subst (Rise 0 (boundaries_from 0 (map entry_of chunks))) (omega arith) (raw_rise 0 chunks (map entry_of chunks) (boundaries_listed chunks));
      parts = subst ArePartsOfXorb (sym (raw_parts [] chunks (map entry_of chunks) (boundaries_listed chunks))) parts;
    })

-- the object of their leaves is theirs
pub chunk_object : (chunks : List (List ℕ)) (boundaries : List (List ℕ × ℕ)) (object : XorbObject) → boundaries ≡ chunk_boundaries 0 chunks
    → object ≡ object_of V1 (xorb_hash (leaves_from 0 boundaries)) (leaves_from 0 boundaries) no_spare → object ≡ object_for chunks
chunk_object chunks boundaries object are is =
    is ∙ ap (λ (ms : List (List ℕ × ℕ)). object_of V1 (xorb_hash ms) ms no_spare) (ap (leaves_from 0) are ∙ boundary_leaves_are chunks)

-- one more chunk
pub more_boundaries : (at : ℕ) (chunks : List (List ℕ)) (next : List ℕ) → chunk_boundaries at (chunks ++ next ∷ []) ≡ chunk_boundaries at chunks ++ (chunk_hash next, at + length (concat (chunks ++ next ∷ []))) ∷ []
more_boundaries at [] next =
    let size : length next ≡ length (next ++ []) = sym (ap length (append-nil next)) in ap (λ (n : ℕ). (chunk_hash next, at + n) ∷ []) size
more_boundaries at (c ∷ cs) next =
    let end : at + length c + length (concat (cs ++ next ∷ [])) ≡ at + length (c ++ concat (cs ++ next ∷ [])) = omega (arith, length-append c (concat (cs ++ next ∷ []))) in
    ap (λ (x : List (List ℕ × ℕ)). (chunk_hash c, at + length c) ∷ x) (more_boundaries (at + length c) cs next)
    ∙ ap (λ (n : ℕ). (chunk_hash c, at + length c) ∷ (chunk_boundaries (at + length c) cs ++ (chunk_hash next, n) ∷ [])) end

pub more_stored : (chunks : List (List ℕ)) (next stored now : List ℕ) → stored ≡ flat_map encoded_chunk chunks → now ≡ stored ++ encoded_chunk next → now ≡ flat_map encoded_chunk (chunks ++ next ∷ [])
more_stored chunks next stored now are is = is ∙ ap (λ (x : List ℕ). x ++ encoded_chunk next) are ∙ flat_map_more encoded_chunk [] chunks next

pub more_plain : (chunks : List (List ℕ)) (next plain now : List ℕ) → plain ≡ concat chunks → now ≡ plain ++ next → now ≡ concat (chunks ++ next ∷ [])
more_plain chunks next plain now are is =
    is ∙ ap (λ (x : List ℕ). x ++ next) are ∙ ap (λ (x : List ℕ). concat chunks ++ x) (sym (append-nil next)) ∙ sym (concat-append chunks (next ∷ []))

pub length-concat : (chunks : List (List ℕ)) → length (concat chunks) ≡ sum_by length chunks
length-concat [] = refl
length-concat (c ∷ cs) = omega (arith, length-append c (concat cs), length-concat cs, sum_by-cons length c cs)
