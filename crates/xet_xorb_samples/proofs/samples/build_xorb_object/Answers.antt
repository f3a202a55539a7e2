use Rattle.std.proofs.Common.{◌≡◌, ◌∙◌, ◌+◌, ◌++◌, [], ◌∷◌, ℕ, List, ap, arith, length, refl, subst, sym}
use Rattle.std.specs.List.{concat}
use Rattle.xet_hash.specs.Merkle.{chunk_hash}
use Rattle.xet_xorb_chunk.specs.ChunkEncoding.{encoded_chunk}
use Rattle.xet_xorb_samples.specs.Samples.{AreBoundaries, AreSamples, chunk_boundaries}
use Rattle.xet_xorb_samples.proofs.Boundaries.{chunk_object, more_boundaries, more_plain, more_stored}
use Rattle.xet_xorb_samples.proofs.Drawn.{drawn_bound, more_drawn, sample_boundaries}
use Rattle.xet_xorb_samples.proofs.samples.build_xorb_object.Goals as goal

pub overflow_cast-len : goal.overflow_cast-len
overflow_cast-len g c =
    let held = c.draws.invariant in
    let bytes = c.in_ok-bytes.bytes.items in
    let samples = more_drawn c.draws.counter c.args.size _ _ _ _ held.0 _ bytes held.1 c.in_ok-bytes.ensures.size c.draw.ensures.size c.draw.ensures.drawn c.in_ok-bytes.ensures.drawn in
    let plain : c.extend_from_slice.new.self.items ≡ c.draws.plain.items ++ bytes =
    c.in_ok-extend_from_slice.ensures.items ∙ ap (λ (x : List ℕ). c.draws.plain.items ++ x) c.deref-in-draws.ensures.value in
    let whole = more_plain held.0 bytes _ _ held.3 plain in
    let bound = drawn_bound c.args.num_chunks (c.draws.counter + 1) c.args.size _ _ (held.0 ++ bytes ∷ []) _ c.requires (omega arith) samples whole in
    omega (arith, bound, c.len.ensures, c.extend_from_slice.new.self.ok.0)

pub draws-preserved : goal.draws-preserved
draws-preserved g c =
    let held = c.draws.invariant in
    let bytes = c.in_ok-bytes.bytes.items in
    let samples = more_drawn c.draws.counter c.args.size _ _ _ _ held.0 _ bytes held.1 c.in_ok-bytes.ensures.size c.draw.ensures.size c.draw.ensures.drawn c.in_ok-bytes.ensures.drawn in
    let stored : c.serialize_chunk.new.w ≡ c.draws.stored ++ encoded_chunk bytes =
    c.in_ok-serialize_chunk.ensures.whole refl ∙ ap (λ (x : List ℕ). c.draws.stored ++ encoded_chunk x) c.deref.ensures.value in
    let plain : c.extend_from_slice.new.self.items ≡ c.draws.plain.items ++ bytes =
    c.in_ok-extend_from_slice.ensures.items ∙ ap (λ (x : List ℕ). c.draws.plain.items ++ x) c.deref-in-draws.ensures.value in
    let whole : c.extend_from_slice.new.self.items ≡ concat (held.0 ++ bytes ∷ []) = more_plain held.0 bytes _ _ held.3 plain in
    let hash : c.compute_data_hash.result ≡ chunk_hash bytes = c.compute_data_hash.ensures ∙ ap chunk_hash c.deref-in-draws-2.ensures.value in
    let end : c.len.result ≡ 0 + length (concat (held.0 ++ bytes ∷ [])) = omega (arith, ap length whole, c.len.ensures, c.extend_from_slice.new.self.ok.0) in
    let boundaries : c.push.new.self.items ≡ chunk_boundaries 0 (held.0 ++ bytes ∷ []) =
    c.in_ok-push.ensures.items ∙ ap (λ (h : List ℕ). c.draws.boundaries.items ++ (h, c.len.result) ∷ []) hash
    ∙ ap (λ (n : ℕ). c.draws.boundaries.items ++ (chunk_hash bytes, n) ∷ []) end
    ∙ ap (λ (x : List (List ℕ × ℕ)). x ++ (chunk_hash bytes, 0 + length (concat (held.0 ++ bytes ∷ []))) ∷ []) held.4 ∙ sym (more_boundaries 0 held.0 bytes) in
    (held.0 ++ bytes ∷ [], samples, more_stored held.0 bytes _ _ held.2 stored, whole, boundaries)

pub boundary_object-requires : goal.boundary_object-requires
boundary_object-requires g c =
    let held = c.draws.invariant in
    let boundaries = sample_boundaries c.args.num_chunks c.draws.counter c.args.size _ _ held.0 c.requires (omega arith) held.1 in
    (concat held.0, subst (AreBoundaries (concat held.0)) (sym (c.deref-2.ensures.value ∙ held.4)) boundaries)

pub returns-clause-made : goal.returns-clause-made
returns-clause-made g c =
    let held = c.draws.invariant in
    let start = g.G.Rng.stream c.args.rng.now in
    let last = g.G.Rng.stream c.draws.rng in
    let samples : AreSamples c.args.num_chunks c.args.size start held.0 last = subst (λ (n : ℕ). AreSamples n c.args.size start held.0 last) (omega arith) held.1 in
    record {
      chunks = held.0;
      samples = samples;
      of_chunks = chunk_object held.0 c.deref-2.result.now c.in_ok-object.object (c.deref-2.ensures.value ∙ held.4) c.in_ok-object.ensures.object;
      encoded = c.into_bytes.ensures ∙ held.2;
      joined = held.3;
      cut = held.4;
    }

pub returns-clause-boundaries : goal.returns-clause-boundaries
returns-clause-boundaries g c =
    let held = c.draws.invariant in
    let boundaries = sample_boundaries c.args.num_chunks c.draws.counter c.args.size _ _ held.0 c.requires (omega arith) held.1 in
    subst (λ (x : List ℕ). AreBoundaries x c.draws.boundaries.items) (sym held.3) (subst (AreBoundaries (concat held.0)) (sym held.4) boundaries)
