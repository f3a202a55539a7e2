use Rattle.std.proofs.Common.{◌≡◌, ◌∙◌, ◌+◌, ◌*◌, ◌++◌, List, ap, arith, length, ℕ}
use Rattle.std.specs.List.{flat_map}
use Rattle.xet_xorb_chunk.specs.ChunkEncoding.{encoded_chunk}
use Rattle.xet_xorb.specs.Building.{ending}
use Rattle.xet_xorb.specs.Raw.{raw_leaves}
use Rattle.xet_xorb.proofs.Built.{built_is, built_encoding, length_encoded, plain_listed, start_is}
use Rattle.xet_xorb.proofs.building.SerializedXorbObject.from_xorb_in.Goals as goal

pub overflow_add-stored : goal.overflow_add-stored
overflow_add-stored c = omega (arith, plain_listed c.args.xorb c.requires, ap (λ (p : List (List ℕ)). length p) c.as_slice-parts.ensures)

pub overflow_add-room : goal.overflow_add-room
overflow_add-room c = omega (arith, plain_listed c.args.xorb c.requires, ap (λ (p : List (List ℕ)). length p) c.as_slice-parts.ensures)

pub returns-clause-built : goal.returns-clause-built
returns-clause-built c =
    let x = c.args.xorb in
    let parts = c.as_slice-parts.ensures in
    let count : length c.as_slice-parts.result.now ≡ length x.parts = ap (λ (p : List (List ℕ)). length p) parts in
    let stored : c.num_bytes-plain.result + 8 * length c.as_slice-parts.result.now ≡ length (flat_map encoded_chunk x.parts) = omega (arith, length_encoded x.parts, plain_listed x c.requires, count, c.num_bytes-plain.ensures) in
    let hash : List ℕ = x.xorb_info.metadata.xorb_hash in
    let before : c.write_parts.new.sink ≡ flat_map encoded_chunk x.parts =
    c.in_ok-write_parts.ensures.written ∙ ap (λ (s : List ℕ). s ++ flat_map encoded_chunk c.as_slice-parts.result.now) (c.from_vec-sink.ensures ∙ c.in_ok-reserve_exact.ensures.items ∙ c.clear.ensures.items) ∙ ap (flat_map encoded_chunk) parts in
    let bytes = c.from_vec.ensures ∙ c.into_bytes.ensures ∙ c.in_ok-write_ending.ensures.written ∙ ap (λ (s : List ℕ). s ++ ending c.args.footer hash (raw_leaves x)) before in
    built_is x c.args.footer _ c.requires bytes c.hash.ensures c.num_bytes-plain.ensures count (c.then_some.ensures ∙ start_is c.args.footer _ x.parts stored)

pub returns-clause-grammar : goal.returns-clause-grammar
returns-clause-grammar c = λ wanted some leaves hash. built_encoding c.args.xorb c.args.footer _ c.requires (returns-clause-built c) wanted some leaves hash
