use Rattle.std.proofs.Common.{◌∙◌, sym, arith}
use Rattle.xet_dedup.proofs.OpenSegments.{open_end, open_no, open_yes}
use Rattle.xet_dedup.proofs.ending.open_indices.Goals as goal
use Rattle.xet_dedup.proofs.ending.open_indices.Goals.{else-is_open, then-is_open+in_ok-push}

pub loop-at-preserved : goal.loop-at-preserved
loop-at-preserved c =
    let at = c.loop-at.at in
    let ss = c.args.segments.now in
    let s = c.index-segments-at.result in
    elim c.if-is_open.branch [
      | then-is_open+in_ok-push w ↦
          rw (w.indices-is, w.in_ok-push.ensures.items) (open_yes _ _ ss at s c.loop-at-test.true c.index-segments-at.is (sym c.is_open.ensures ∙ w.if-is_open.true) c.loop-at.invariant)
      | else-is_open w ↦
          rw w.indices-is (open_no _ _ ss at s c.loop-at-test.true c.index-segments-at.is (sym c.is_open.ensures ∙ w.if-is_open.false) c.loop-at.invariant)
    ]

pub returns-clause-exact : goal.returns-clause-exact
returns-clause-exact c = open_end _ _ c.args.segments.now c.loop-at.at (omega arith) c.loop-at.invariant
