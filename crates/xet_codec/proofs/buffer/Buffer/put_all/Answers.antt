use Rattle.std.proofs.Common.{◌∙◌, List, [], arith, refl, ℕ, Bor}
use Rattle.xet_base.specs.theorems.Exits.{exit_on}
use Rattle.xet_codec.specs.theorems.Joining.{group_ends, more}
use Rattle.xet_codec.proofs.buffer.Buffer.put_all.Goals as goal

pub returns-in_err-put-clause-prefix : goal.returns-in_err-put-clause-prefix
returns-in_err-put-clause-prefix g c = λ told.
    let i = c.loop-piece.invariant in
    exit_on _ _ c.from_residual.ensures.1
    (group_ends (λ (p : Bor (List ℕ)). p.now) _ c.args.pieces.now c.loop-piece.piece-index (record { ref_ptr = (0, 0); now = [] }) _ c.loop-piece-test.true refl (i.moved told) (c.in_err-put.ensures.prefix (i.tells ∙ told)))

pub loop-piece-preserved : goal.loop-piece-preserved
loop-piece-preserved g c =
    let i = c.loop-piece.invariant in
    record {
      moved = λ told. more (λ (p : Bor (List ℕ)). p.now) _ c.args.pieces.now c.loop-piece.piece-index (record { ref_ptr = (0, 0); now = [] }) _ c.loop-piece-test.true refl (i.moved told) (c.in_ok-put.ensures.moved (i.tells ∙ told));
      tells = c.in_ok-put.ensures.frame.tells ∙ i.tells;
      later = omega (arith, c.in_ok-put.ensures.frame.later, i.later);
    }
