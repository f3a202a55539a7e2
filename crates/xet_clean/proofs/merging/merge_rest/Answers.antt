use Rattle.std.proofs.Common.{◌≡◌, ◌∙◌, [], List, length, map, ap, subst, sym, arith}
use Rattle.std.proofs.lemmas.List.{nil_from_length}
use Rattle.std.specs.Vec.Iter.{into_iter_items}
use Rattle.xet_base.specs.theorems.Exits.{exit_with}
use Rattle.xet_store.specs.theorems.Following.{follows_nothing, follows_then}
use Rattle.xet_xorb_chunk.specs.Chunks.{chunk_leaf}
use Rattle.xet_clean.specs.Closing.{RegistersFull}
use Rattle.xet_clean.specs.Merging.{IsUnmerged}
use Rattle.xet_clean.specs.declared.working.Working.{Working}
use Rattle.xet_clean.specs.internal.Merging.{IsMerging}
use Rattle.xet_clean.proofs.Merged.{merging_few, merging_here, merging_more, merging_rest, merging_room, unmerged}
use Rattle.xet_clean.specs.theorems.Nexts.{closes_none}
use Rattle.xet_clean.specs.theorems.Counting.{at_most_more, at_most_nothing}
use Rattle.xet_clean.proofs.Parting.{most_of}
use Rattle.xet_clean.proofs.merging.merge_rest.Goals as goal

pub loop-part-init : goal.loop-part-init
loop-part-init g c =
    let gives = c.into_iter-part-iterator.ensures.into_iter_gives in
    let old = g.S.Stepping.holder c.args.steps.now in
    let whole = c.args.whole.now in
    record {
      merging = λ ps start is. subst (λ (ws : List Working). IsMerging ps ws start old whole.cleaned.infos.items whole.cleaned.choices.items whole.cleaned.metrics whole.aggregate) (sym gives.0) is;
      follows = follows_nothing old;
      counted = omega (arith, gives.1, ap length gives.0, c.args.rest.ok.0);
    }

pub merge-requires : goal.merge-requires
merge-requires g c =
    let r = c.requires.merging in
    let now = g.S.Stepping.holder c.loop-part.steps in
    let whole = c.loop-part.whole in
    let is = subst (λ (ws : List Working). IsMerging r.0 ws r.1 now whole.cleaned.infos.items whole.cleaned.choices.items whole.cleaned.metrics whole.aggregate) c.in-Some.ensures.steps.0 (c.loop-part.invariant.merging r.0 r.1 r.2) in
    record {
      here = merging_here r.0 _ r.1 now _ _ _ _ is;
      rest = merging_rest r.0 _ _ r.1 now _ _ _ _ is;
      range = is.range;
      room = merging_room r.0 _ _ r.1 now _ _ _ _ is;
    }

pub returns-in_err-merge-clause-follows : goal.returns-in_err-merge-clause-follows
returns-in_err-merge-clause-follows g c =
    follows_then (g.S.Stepping.holder c.args.steps.now) (g.S.Stepping.holder c.loop-part.steps) (g.S.Stepping.holder c.merge.new.steps) c.loop-part.invariant.follows c.merge.ensures.follows

pub returns-in_err-merge-clause-few : goal.returns-in_err-merge-clause-few
returns-in_err-merge-clause-few g c = λ ps start was.
    merging_few ps _ start (g.S.Stepping.holder c.loop-part.steps) _ _ _ _ (c.loop-part.invariant.merging ps start was) (g.S.Stepping.holder c.merge.new.steps) c.merge.ensures.few

pub returns-in_err-merge-clause-refused : goal.returns-in_err-merge-clause-refused
returns-in_err-merge-clause-refused g c = λ ps start was.
    let now = g.S.Stepping.holder c.loop-part.steps in
    let new = g.S.Stepping.holder c.merge.new.steps in
    exit_with (IsUnmerged ps start new) _ _ c.from_residual.ensures.1
    (unmerged ps _ start now _ _ _ _ (c.loop-part.invariant.merging ps start was) (RegistersFull c.loop-part.whole.aggregate (map chunk_leaf c.in-Some.part.aggregate.chunks)) (map chunk_leaf c.in-Some.part.aggregate.chunks)
    (λ calls are. (([], closes_none calls are.1), are.0)) new _ c.in_err-merge.ensures.refused)

pub loop-part-preserved : goal.loop-part-preserved
loop-part-preserved g c =
    let old = g.S.Stepping.holder c.args.steps.now in
    let now = g.S.Stepping.holder c.loop-part.steps in
    let new = g.S.Stepping.holder c.merge.new.steps in
    let whole = c.loop-part.whole in
    let merged = c.in_ok-merge.ensures in
    record {
      merging = λ ps start was.
          let is = subst (λ (ws : List Working). IsMerging ps ws start now whole.cleaned.infos.items whole.cleaned.choices.items whole.cleaned.metrics whole.aggregate) c.in-Some.ensures.steps.0 (c.loop-part.invariant.merging ps start was) in
          merging_more ps _ _ start now _ _ _ _ is new _ merged.joined _ _ _ merged.infos merged.choices merged.metrics;
      follows = follows_then old now new c.loop-part.invariant.follows c.merge.ensures.follows;
      counted = omega (arith, c.in-Some.ensures.steps.1, c.loop-part.invariant.counted, ap length c.in-Some.ensures.steps.0);
    }

pub returns-clause-merged : goal.returns-clause-merged
returns-clause-merged g c = λ ps start was.
    let at = c.loop-part in
    let now = g.S.Stepping.holder at.steps in
    let empty : into_iter_items at.part-iterator ≡ [] = nil_from_length (into_iter_items at.part-iterator) (sym at.invariant.counted ∙ c.in-None.ensures.steps.0) in
    subst (λ (ws : List Working). IsMerging ps ws start now at.whole.cleaned.infos.items at.whole.cleaned.choices.items at.whole.cleaned.metrics at.whole.aggregate) empty (at.invariant.merging ps start was)

pub returns-clause-few : goal.returns-clause-few
returns-clause-few g c = λ ps start was.
    let now = g.S.Stepping.holder c.loop-part.steps in
    merging_few ps _ start now _ _ _ _ (c.loop-part.invariant.merging ps start was) now (at_most_more 0 (most_of c.loop-part.whole.aggregate) now now (omega arith) (at_most_nothing now))
