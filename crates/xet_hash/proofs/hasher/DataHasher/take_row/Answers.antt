use Rattle.std.proofs.Common.{◌≡◌, ◌∙◌, ◌+◌, ◌*◌, ◌++◌, ℕ, List, drop, take, length, ap, sym, refl, arith}
use Rattle.std.proofs.lemmas.List.{append_assoc, take_all}
use Rattle.std.proofs.lemmas.Simd.{length-chunk}
use Rattle.std.proofs.Math.Seq.{take-add}
use Rattle.xet_hash.specs.Blake3.{chunk_value}
use Rattle.xet_hash.specs.Chunks.{open_len}
use Rattle.xet_hash.proofs.Hashing.{Absorbs_taken}
use Rattle.xet_hash.proofs.Tree.{subtree_chunk}
use Rattle.xet_hash.proofs.hasher.DataHasher.take_row.Goals as goal

pub lanes-preserved : goal.lanes-preserved
lanes-preserved c =
    let bytes = c.args.bytes.now in
    let s = c.lanes.self in
    let j = c.lanes.lane in
    let before : List ℕ = take (1024 * j) bytes in
    let q : List ℕ = take 1024 (drop (1024 * j) bytes) in
    let lq : length q ≡ 1024 = length-chunk (1024 * j) 1024 bytes (omega arith) in
    let place : 0 + j ≡ j = omega arith in
    let ev : c.lane_value-value.result ≡ chunk_value s.key s.flags 0 s.count q =
    c.lane_value-value.ensures
    ∙ rw (c.lanes.invariant.key, c.lanes.invariant.flags, c.lanes.invariant.count) (rw place at (c.chunk_values-values.ensures j (omega arith))) in
    let next : 1024 * j + 1024 ≡ 1024 * (j + 1) = omega arith in
    let whole : before ++ q ≡ take (1024 * (j + 1)) bytes = sym (take-add (1024 * j) 1024 bytes) ∙ ap (λ (n : ℕ). take n bytes) next in
    let pushed = c.push_value.ensures in
    record {
      key = pushed.mode.0 ∙ c.lanes.invariant.key;
      flags = pushed.mode.1 ∙ c.lanes.invariant.flags;
      count = omega (arith, pushed.count, c.lanes.invariant.count);
      chunk = pushed.chunk ∙ c.lanes.invariant.chunk;
      held = λ key flags m start.
          rw (← whole, ← append_assoc)
          (Absorbs_taken s _ key flags 0 (m ++ before) q c.lane_value-value.result (ap open_len c.lanes.invariant.chunk ∙ c.requires.empty) lq
          (ev ∙ sym (subtree_chunk s.key s.flags 0 s.count q 0 refl)) pushed.stack pushed.mode.0 pushed.mode.1 pushed.count pushed.chunk
          (c.lanes.invariant.held key flags m start));
    }

pub returns-clause-message : goal.returns-clause-message
returns-clause-message c = λ key flags m start.
    let done : c.lanes.lane ≡ c.args.chunks = omega arith in
    let all : take (1024 * c.lanes.lane) c.args.bytes.now ≡ c.args.bytes.now = take_all (1024 * c.lanes.lane) c.args.bytes.now (omega arith) in
    rw all at (c.lanes.invariant.held key flags m start)
