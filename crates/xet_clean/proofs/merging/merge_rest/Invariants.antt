use Rattle.std.proofs.Common.{◌≡◌, List, length}
use Rattle.std.specs.Vec.Iter.{into_iter_items, into_iter_len}
use Rattle.xet_store.specs.Holders.{Follows, Holder}
use Rattle.xet_clean.specs.Merging.{Part}
use Rattle.xet_clean.specs.internal.Merging.{IsMerging}
use Rattle.xet_clean.proofs.merging.merge_rest.Given as goal

abbrev pub invariant-loop-part : goal.invariant-loop-part
invariant-loop-part g l =
    record {
      merging : (ps : List Part) (start : Holder)
          → IsMerging ps l.fn.rest.items start (g.S.Stepping.holder l.fn.steps) l.fn.whole.cleaned.infos.items l.fn.whole.cleaned.choices.items l.fn.whole.cleaned.metrics l.fn.whole.aggregate
          → IsMerging ps (into_iter_items l.part-iterator) start (g.S.Stepping.holder l.steps) l.whole.cleaned.infos.items l.whole.cleaned.choices.items l.whole.cleaned.metrics l.whole.aggregate;
      follows : Follows (g.S.Stepping.holder l.fn.steps) (g.S.Stepping.holder l.steps);
      counted : into_iter_len l.part-iterator ≡ length (into_iter_items l.part-iterator);
    }
