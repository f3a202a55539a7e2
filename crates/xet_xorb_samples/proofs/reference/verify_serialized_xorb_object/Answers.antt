use Rattle.std.proofs.Common.{◌≡◌, ◌∙◌, ℕ, List, ap, subst, sym, true}
use Rattle.std.specs.List.{concat}
use Rattle.std.specs.Prelude.{◌↔◌, IsTrue}
use Rattle.xet_xorb.specs.declared.building.SerializedXorbObject.{SerializedXorbObject}
use Rattle.xet_xorb.specs.Building.{built, built_of}
use Rattle.xet_xorb_samples.specs.Samples.{AreAlike, AreBoundaries, leaves_from, parts_from}
use Rattle.xet_xorb_samples.proofs.Boundaries.{raw_built, raw_boundaries, raw_fits}
use Rattle.xet_xorb_samples.proofs.reference.verify_serialized_xorb_object.Goals as goal

pub chunks_and_boundaries-requires : goal.chunks_and_boundaries-requires
chunks_and_boundaries-requires c = raw_fits c.args.xorb.now c.requires

pub serialized_xorb_object_from_components-requires : goal.serialized_xorb_object_from_components-requires
serialized_xorb_object_from_components-requires c =
    let x = c.args.xorb.now in
    subst (λ (bytes : List ℕ). AreBoundaries bytes c.in_ok-chunks.chunks.items) (sym c.in_ok-bytes.ensures.joined)
    (subst (AreBoundaries (concat x.parts)) (sym c.in_ok-chunks.ensures.boundaries) (raw_boundaries x c.requires))

pub returns-clause-verified : goal.returns-clause-verified
returns-clause-verified c =
    let x = c.args.xorb.now in
    let bytes = c.in_ok-bytes.bytes.items in
    let cs = c.in_ok-chunks.chunks.items in
    let same : c.in_ok-reference.reference ≡ built_of x true =
    c.in_ok-reference.ensures.built ∙ ap (λ (h : List ℕ). built h (leaves_from 0 cs) (parts_from 0 cs bytes) true) c.hash.ensures
    ∙ ap (λ (b : List ℕ). built x.xorb_info.metadata.xorb_hash (leaves_from 0 cs) (parts_from 0 cs b) true) c.in_ok-bytes.ensures.joined
    ∙ ap (λ (k : List (List ℕ × ℕ)). built x.xorb_info.metadata.xorb_hash (leaves_from 0 k) (parts_from 0 k (concat x.parts)) true) c.in_ok-chunks.ensures.boundaries
    ∙ raw_built x c.requires in
    subst (λ (s : SerializedXorbObject). IsTrue c.are_alike.result ↔ AreAlike c.args.serialized.now s) same c.are_alike.ensures
