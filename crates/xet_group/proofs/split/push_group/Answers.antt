use Rattle.std.proofs.Common.{◌∙◌, ◌++◌, ap, sym}
use Rattle.std.proofs.lemmas.List.{append-nil}
use Rattle.xet_group.proofs.Fourths.{fourth_none, fourth_step}
use Rattle.xet_group.proofs.Woven.{one_more}
use Rattle.xet_group.proofs.split.push_group.Goals as goal

pub places-preserved : goal.places-preserved
places-preserved c =
    one_more _ _ _ _ _ _ c.in_ok-push.ensures.items (fourth_step c.places.place c.args.bytes.now c.places-test.true) c.places.invariant

pub returns : goal.returns
returns c =
    sym (append-nil _) ∙ ap (λ l. c.places.out.items ++ l) (sym (fourth_none c.places.place c.args.bytes.now c.places-test.false)) ∙ c.places.invariant
