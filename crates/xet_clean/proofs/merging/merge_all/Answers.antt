use Rattle.std.proofs.Common.{◌≡◌, ℕ, [], subst, sym, arith}
use Rattle.std.proofs.lemmas.Result.{IfErr-weaker, IfOk-weaker}
use Rattle.xet_cut.specs.Limits.{AreInRange}
use Rattle.xet_clean.specs.Closing.{Closes, IsAtMost, IsUnclosed, RegistersAtMost}
use Rattle.xet_clean.specs.Merging.{IsUnmerged, MergesAll}
use Rattle.xet_clean.specs.declared.info.Cleaned.{Cleaned}
use Rattle.xet_clean.specs.theorems.Nexts.{last_closes}
use Rattle.xet_clean.proofs.Merged.{merges_all, merging_begins, merging_few, merging_here, unmerged}
use Rattle.xet_clean.proofs.Parting.{may_count}
use Rattle.xet_clean.proofs.merging.merge_all.Goals as goal

pub remove-whole-requires : goal.remove-whole-requires
remove-whole-requires g c = omega (arith, c.requires.some, c.args.parts.ok.0)

pub merge_rest-requires : goal.merge_rest-requires
merge_rest-requires g c =
    let h = g.S.Stepping.holder c.args.steps.now in
    let r = c.requires.parts in
    let range = subst AreInRange c.limits.ensures c.recall_invariant.ensures in
    record { merging = (r.0, h, merging_begins h range r.0 c.args.parts.items _ _ c.requires.some c.remove-whole.ensures.value c.remove-whole.ensures.by_index.2 c.requires.count r.1) }

pub end-requires : goal.end-requires
end-requires g c =
    let h = g.S.Stepping.holder c.args.steps.now in
    let r = c.requires.parts in
    let range = subst AreInRange c.limits.ensures c.recall_invariant.ensures in
    let begins = merging_begins h range r.0 c.args.parts.items _ _ c.requires.some c.remove-whole.ensures.value c.remove-whole.ensures.by_index.2 c.requires.count r.1 in
    record { aggregate = merging_here r.0 [] h (g.S.Stepping.holder c.merge_rest.new.steps) _ _ _ _ (c.in-Ok.ensures.merged r.0 h begins) }

pub returns-in-Ok-clause-merged : goal.returns-in-Ok-clause-merged
returns-in-Ok-clause-merged g c = λ ps may.
    let h = g.S.Stepping.holder c.args.steps.now in
    let mid = g.S.Stepping.holder c.merge_rest.new.steps in
    let new = g.S.Stepping.holder c.end.new.steps in
    let w = c.merge_rest.new.whole in
    let range = subst AreInRange c.limits.ensures c.recall_invariant.ensures in
    let begins = merging_begins h range ps c.args.parts.items _ _ c.requires.some c.remove-whole.ensures.value c.remove-whole.ensures.by_index.2 c.requires.count may in
    let is = c.in-Ok.ensures.merged ps h begins in
    IfOk-weaker c.end.result (λ (k : Cleaned). (k ≡ w.cleaned) × Closes w.aggregate [] mid new) (λ (k : Cleaned). MergesAll ps h new k.infos.items k.choices.items k.metrics)
    (λ k known. subst (λ (l : Cleaned). MergesAll ps h new l.infos.items l.choices.items l.metrics) (sym known.0) (merges_all ps h mid w.cleaned.infos.items w.cleaned.choices.items w.cleaned.metrics w.aggregate is new known.1))
    c.end.ensures.closed

pub returns-in-Ok-clause-few : goal.returns-in-Ok-clause-few
returns-in-Ok-clause-few g c =
    let h = g.S.Stepping.holder c.args.steps.now in
    let mid = g.S.Stepping.holder c.merge_rest.new.steps in
    let new = g.S.Stepping.holder c.end.new.steps in
    let w = c.merge_rest.new.whole in
    let r = c.requires.parts in
    let range = subst AreInRange c.limits.ensures c.recall_invariant.ensures in
    let begins = merging_begins h range r.0 c.args.parts.items _ _ c.requires.some c.remove-whole.ensures.value c.remove-whole.ensures.by_index.2 c.requires.count r.1 in
    let is = c.in-Ok.ensures.merged r.0 h begins in
    subst (λ (n : ℕ). IsAtMost n h new) (may_count h r.0 c.args.parts.items r.1)
    (merging_few r.0 [] h mid w.cleaned.infos.items w.cleaned.choices.items w.cleaned.metrics w.aggregate is new c.end.ensures.few)

pub returns-in-Ok-clause-refused : goal.returns-in-Ok-clause-refused
returns-in-Ok-clause-refused g c = λ ps may.
    let h = g.S.Stepping.holder c.args.steps.now in
    let mid = g.S.Stepping.holder c.merge_rest.new.steps in
    let new = g.S.Stepping.holder c.end.new.steps in
    let w = c.merge_rest.new.whole in
    let range = subst AreInRange c.limits.ensures c.recall_invariant.ensures in
    let begins = merging_begins h range ps c.args.parts.items _ _ c.requires.some c.remove-whole.ensures.value c.remove-whole.ensures.by_index.2 c.requires.count may in
    let is = c.in-Ok.ensures.merged ps h begins in
    IfErr-weaker c.end.result (IsUnclosed (RegistersAtMost w.aggregate []) w.aggregate [] mid new) (IsUnmerged ps h new)
    (λ e unclosed. unmerged ps [] h mid w.cleaned.infos.items w.cleaned.choices.items w.cleaned.metrics w.aggregate is (RegistersAtMost w.aggregate []) [] (λ calls are. (last_closes w.aggregate calls are, are)) new e unclosed) c.end.ensures.refused

pub returns-in-Err-clause-few : goal.returns-in-Err-clause-few
returns-in-Err-clause-few g c =
    let h = g.S.Stepping.holder c.args.steps.now in
    let new = g.S.Stepping.holder c.merge_rest.new.steps in
    let r = c.requires.parts in
    let range = subst AreInRange c.limits.ensures c.recall_invariant.ensures in
    let begins = merging_begins h range r.0 c.args.parts.items _ _ c.requires.some c.remove-whole.ensures.value c.remove-whole.ensures.by_index.2 c.requires.count r.1 in
    subst (λ (n : ℕ). IsAtMost n h new) (may_count h r.0 c.args.parts.items r.1) (c.merge_rest.ensures.few r.0 h begins)

pub returns-in-Err-clause-refused : goal.returns-in-Err-clause-refused
returns-in-Err-clause-refused g c = λ ps may.
    let h = g.S.Stepping.holder c.args.steps.now in
    let range = subst AreInRange c.limits.ensures c.recall_invariant.ensures in
    let begins = merging_begins h range ps c.args.parts.items _ _ c.requires.some c.remove-whole.ensures.value c.remove-whole.ensures.by_index.2 c.requires.count may in
    c.in-Err.ensures.refused ps h begins
