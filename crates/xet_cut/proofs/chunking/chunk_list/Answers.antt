use Rattle.std.proofs.Common.{◌∙◌, ℕ, List, ap, sym, arith}
use Rattle.std.proofs.lemmas.Bool.{eqb-false, eqb-true}
use Rattle.std.proofs.lemmas.List.Sums.{sum_by-append}
use Rattle.xet_hash.specs.Merkle.{leaf_of, total_len}
use Rattle.xet_cut.specs.theorems.ChunkEnds.{chunking_end, chunking_step}
use Rattle.xet_cut.proofs.chunking.chunk_list.Goals as goal

pub pieces-preserved : goal.pieces-preserved
pieces-preserved c =
    let step = chunking_step leaf_of c.args.limits.now c.pieces.leaves.items c.pieces.rest.now c.first_chunk_len.result (eqb-false _ _ (sym c.pieces-test.ensures))
    c.first_chunk_len.ensures.value c.first_chunk_len.ensures.some in
    let push = c.in_ok-push.ensures.items in
    record {
      leaves = rw (push, c.compute_data_hash.ensures, c.split_at.ensures.front, c.split_at.ensures.back) (step ∙ c.pieces.invariant.leaves);
      total = omega (arith, ap total_len push ∙ sum_by-append (λ (m : List ℕ × ℕ). m.1) c.pieces.leaves.items _, c.pieces.invariant.total);
    }

pub returns-clause-leaves : goal.returns-clause-leaves
returns-clause-leaves c =
    chunking_end leaf_of c.args.limits.now c.pieces.leaves.items c.pieces.rest.now (eqb-true _ _ (sym c.pieces-test.ensures)) ∙ c.pieces.invariant.leaves

pub returns-clause-total : goal.returns-clause-total
returns-clause-total c = omega (arith, c.pieces.invariant.total, eqb-true _ _ (sym c.pieces-test.ensures))
