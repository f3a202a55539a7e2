use Rattle.std.proofs.Common.{◌≡◌, ◌∙◌, ◌++◌, ℕ, List, [], ap, arith, length, refl}
use Rattle.std.specs.List.{flat_map}
use Rattle.xet_xorb_chunk.specs.ChunkEncoding.{encoded_chunk}
use Rattle.xet_xorb.specs.Building.{no_spare}
use Rattle.xet_xorb.specs.Footer.{V1}
use Rattle.xet_xorb_samples.specs.Samples.{leaves_from, parts_from}
use Rattle.xet_xorb.specs.Xorb.{xorb_bytes}
use Rattle.xet_xorb_samples.proofs.Boundaries.{components_are, length-parts, length-encoded}
use Rattle.xet_xorb_samples.proofs.reference.serialized_xorb_object_from_components.Goals as goal

pub xorb_length-requires : goal.xorb_length-requires
xorb_length-requires c = omega (arith, ap length c.deref-2.ensures.value, length-parts 0 c.args.chunks.items c.args.bytes.items, c.requires.parts.count)

pub overflow_sub-result : goal.overflow_sub-result
overflow_sub-result c =
    let cs = c.args.chunks.items in
    let bytes = c.args.bytes.items in
    let start : c.in_ok-start.start ≡ length (flat_map encoded_chunk (parts_from 0 cs bytes)) =
    c.in_ok-start.ensures.start ∙ ap (λ (x : List ℕ). length (flat_map encoded_chunk (parts_from 0 c.deref-4.result.now x))) c.deref-3.ensures.value
    ∙ ap (λ (x : List (List ℕ × ℕ)). length (flat_map encoded_chunk (parts_from 0 x bytes))) c.deref-4.ensures.value in
    omega (arith, start, length-encoded (parts_from 0 cs bytes), length-parts 0 cs bytes, c.deref-4.ensures.len, ap length c.deref-4.ensures.value, c.len.ensures)

pub returns-clause-built : goal.returns-clause-built
returns-clause-built c =
    let hash = c.args.hash.now in
    let cs = c.args.chunks.items in
    let bytes = c.args.bytes.items in
    let ms = leaves_from 0 cs in
    let parts = parts_from 0 cs bytes in
    let start : c.in_ok-start.start ≡ length (flat_map encoded_chunk parts) =
    c.in_ok-start.ensures.start ∙ ap (λ (x : List ℕ). length (flat_map encoded_chunk (parts_from 0 c.deref-4.result.now x))) c.deref-3.ensures.value
    ∙ ap (λ (x : List (List ℕ × ℕ)). length (flat_map encoded_chunk (parts_from 0 x bytes))) c.deref-4.ensures.value in
    let encoding : xorb_bytes V1 hash (leaves_from 0 c.deref-4.result.now) (parts_from 0 c.deref-4.result.now c.deref-3.result.now) no_spare ≡ xorb_bytes V1 hash ms parts no_spare =
    ap (λ (x : List ℕ). xorb_bytes V1 hash (leaves_from 0 c.deref-4.result.now) (parts_from 0 c.deref-4.result.now x) no_spare) c.deref-3.ensures.value
    ∙ ap (λ (x : List (List ℕ × ℕ)). xorb_bytes V1 hash (leaves_from 0 x) (parts_from 0 x bytes) no_spare) c.deref-4.ensures.value in
    let empty : c.from_vec-sink.result ≡ [] = c.from_vec-sink.ensures ∙ c.in_ok-room.ensures.items in
    let written : c.from_vec.result ≡ xorb_bytes V1 hash ms parts no_spare =
    c.from_vec.ensures ∙ c.into_bytes.ensures ∙ c.in_ok-start.ensures.written refl
    ∙ ap (λ (x : List ℕ). x ++ xorb_bytes V1 hash (leaves_from 0 c.deref-4.result.now) (parts_from 0 c.deref-4.result.now c.deref-3.result.now) no_spare) empty ∙ encoding in
    let count : c.len.result ≡ length parts = omega (arith, length-parts 0 cs bytes, c.deref-4.ensures.len, ap length c.deref-4.ensures.value, c.len.ensures) in
    let count_again : c.len-2.result ≡ length parts = omega (arith, length-parts 0 cs bytes, c.deref-4.ensures.len, ap length c.deref-4.ensures.value, c.len-2.ensures) in
    components_are hash ms parts c.from_vec.result _ c.len-2.result c.in_ok-start.start written (omega (arith, start, length-encoded parts, count)) count_again start
