use Rattle.std.proofs.Common.{◌∙◌, arith, refl, rules}
use Rattle.xet_codec.specs.theorems.Seeing.{sees_on}
use Rattle.xet_xorb.proofs.Checked.{piece_more, piece_same}
use Rattle.xet_xorb.proofs.validation.stands_at.Goals as goal

pub returns-then-not-branch-clause-found : goal.returns-then-not-branch-clause-found
returns-then-not-branch-clause-found g c = λ bytes sees.
    let inv = c.pieces.invariant in
    let size = c.min-size.result in
    let here = sees_on sees inv.tells inv.same (inv.part bytes sees) in
    let found = rw c.if-not-branch.true at (c.in_ok-piece_stands_at.ensures.found bytes here) in
    (search rules, λ equal. found.1 (piece_same c.args.at c.pieces.done size c.args.encoding.now bytes _ (omega arith) refl equal))

pub pieces-preserved : goal.pieces-preserved
pieces-preserved g c =
    let inv = c.pieces.invariant in
    let size = c.min-size.result in
    let kept = c.in_ok-piece_stands_at.ensures in record {
      within = omega arith;
      room = inv.room;
      same = kept.frame.same ∙ inv.same;
      tells = kept.frame.tells ∙ inv.tells;
      cause = record { later = omega (arith, inv.cause.later, kept.frame.later); rose = λ x. absurd x };
      lent = search rules;
      part = λ bytes sees. (rw c.if-not-branch.false at (kept.part bytes (sees_on sees inv.tells inv.same (inv.part bytes sees)))) refl;
      found = λ bytes sees.
          let found = rw c.if-not-branch.false at (kept.found bytes (sees_on sees inv.tells inv.same (inv.part bytes sees))) in
          piece_more c.args.at c.pieces.done size c.args.encoding.now bytes _ (omega arith) refl (inv.found bytes sees) (found.0 refl);
    }
