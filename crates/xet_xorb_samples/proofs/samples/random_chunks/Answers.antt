use Rattle.std.proofs.Common.{◌≡◌, ◌∙◌, ◌++◌, [], ◌∷◌, ◌+◌, List, ap, length, subst, sym}
use Rattle.xet_xorb_chunk.specs.declared.chunk.Chunk.{Chunk}
use Rattle.xet_xorb_chunk.specs.Chunks.{chunk_of}
use Rattle.xet_xorb_samples.specs.internal.Samples.{AreSampleChunks}
use Rattle.xet_xorb_samples.specs.Samples.{HasSize}
use Rattle.xet_xorb_samples.proofs.Drawn.{more_chunks, one_drawn}
use Rattle.xet_xorb_samples.proofs.samples.random_chunks.Goals as goal

pub draws-preserved : goal.draws-preserved
draws-preserved g c =
    let bytes = c.in_ok-bytes.bytes.items in
    let size = c.args.size in
    let start = g.G.Rng.stream c.args.rng.now in
    let before = g.G.Rng.stream c.draws.rng in
    let after = g.G.Rng.stream c.gen_random_bytes.new.rng in
    let made : c.new.result ≡ chunk_of bytes = c.new.ensures ∙ ap chunk_of c.in_ok-from_vec.ensures.ok in
    let sized : HasSize size (length bytes) = subst (HasSize size) (sym c.in_ok-bytes.ensures.size) c.draw.ensures.size in
    let one = one_drawn size before _ after c.draw.result bytes c.in_ok-bytes.ensures.size c.draw.ensures.drawn c.in_ok-bytes.ensures.drawn in
    let pushed : c.push.new.self.items ≡ c.draws.chunks.items ++ chunk_of bytes ∷ [] =
    c.in_ok-push.ensures.items ∙ ap (λ (x : Chunk). c.draws.chunks.items ++ x ∷ []) made in
    subst (λ (x : List Chunk). AreSampleChunks (c.draws.counter + 1) size start x after) (sym pushed)
    (more_chunks c.draws.counter size start before after c.draws.chunks.items bytes c.draws.invariant sized one)
