use Rattle.std.proofs.Common.{◌∙◌, length, sym}
use Rattle.std.proofs.lemmas.Bool.{eqb-false, eqb-true}
use Rattle.xet_cut.specs.theorems.ChunkEnds.{chunking_end, chunking_step}
use Rattle.xet_cut.proofs.chunking.chunk_lengths.Goals as goal

pub pieces-preserved : goal.pieces-preserved
pieces-preserved c =
    let step = chunking_step length c.args.limits.now c.pieces.lengths.items c.pieces.rest.now c.first_chunk_len.result (eqb-false _ _ (sym c.pieces-test.ensures))
    c.first_chunk_len.ensures.value c.first_chunk_len.ensures.some in
    rw (c.in_ok-push.ensures.items, c.split_at.ensures.front, c.split_at.ensures.back) (step ∙ c.pieces.invariant)

pub returns-clause-lengths : goal.returns-clause-lengths
returns-clause-lengths c =
    chunking_end length c.args.limits.now c.pieces.lengths.items c.pieces.rest.now (eqb-true _ _ (sym c.pieces-test.ensures)) ∙ c.pieces.invariant
