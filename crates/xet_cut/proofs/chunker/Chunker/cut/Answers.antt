use Rattle.std.proofs.Common.{◌≡◌, ◌∙◌, ℕ, ◌+◌, ◌++◌, ◌∷◌, [], List, length, Some, ap, arith, length-drop}
use Rattle.std.proofs.lemmas.List.{take_rest}
use Rattle.std.specs.List.{slice_range}
use Rattle.xet_xorb_chunk.specs.declared.chunk.Chunk.{Chunk}
use Rattle.xet_xorb_chunk.specs.Chunks.{chunk_of}
use Rattle.xet_cut.specs.Limits.{AreInRange}
use Rattle.xet_cut.specs.Streams.{boundary_in}
use Rattle.xet_cut.specs.internal.Cutting.{left, unsplit}
use Rattle.xet_cut.proofs.Splitting.{cut_more, unsplit_unended}
use Rattle.xet_cut.proofs.chunker.Chunker.cut.Goals as goal

pub boundary-requires : goal.boundary-requires
boundary-requires c =
    let buffered_is : c.self.inside.buffered.items ≡ c.args.self.now.buffered = ap (λ v. v.buffered) c.self.view_is in
    rw (c.unsplit.ensures, ← buffered_is) (unsplit_unended c.self.inside.limits c.self.inside.buffered.items c.chunks.taken c.self.invariant.0 c.self.invariant.1)

pub chunks-preserved : goal.chunks-preserved
chunks-preserved c =
    let limits_is : c.self.inside.limits ≡ c.args.self.now.settings = ap (λ v. v.settings) c.self.view_is in
    let range : AreInRange c.args.self.now.settings = rw (← limits_is) c.self.invariant.0 in
    let before : List ℕ = unsplit c.args.self.now.buffered c.chunks.taken in
    let found : boundary_in c.args.self.now.settings (left c.args.self.now.buffered c.args.bytes.now c.chunks.taken) ≡ Some (length before + c.in-Some.n) =
    rw (limits_is, c.unsplit.ensures, take_rest c.args.bytes.now c.chunks.taken) at c.in-Some.ensures.value in
    let chunk_is : c.in_ok-chunk.field-0 ≡ chunk_of (before ++ slice_range c.args.bytes.now c.chunks.taken (c.chunks.taken + c.in-Some.n)) =
    rw c.unsplit-before.ensures at c.in_ok-chunk.ensures.chunk in
    cut_more c.in-Some.n c.push.new.self.items range c.chunks.invariant found (omega (arith, c.in-Some.ensures.within.0)) (omega (arith, c.in-Some.ensures.within.1, length-drop c.chunks.taken c.args.bytes.now))
    (c.in_ok-push.ensures.items ∙ ap (λ (x : Chunk). c.chunks.chunks.items ++ x ∷ []) chunk_is)
