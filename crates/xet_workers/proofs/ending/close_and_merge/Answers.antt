use Rattle.std.proofs.Common.{inl, inr, refl}
use Rattle.std.proofs.lemmas.Result.{IfErr-weaker, IfOk-at_ok, IfOk-weaker}
use Rattle.xet_clean.specs.declared.info.Cleaned.{Cleaned}
use Rattle.xet_workers.specs.internal.Ending.{HasMerged, IsUnended, MergedAlone, UnmergedAlone}
use Rattle.xet_workers.proofs.Closing.{at_ok}
use Rattle.xet_workers.proofs.Made.{may_merge_all}
use Rattle.xet_workers.proofs.ending.close_and_merge.Goals as goal

pub merge_alone-requires-clause-some : goal.merge_alone-requires-clause-some
merge_alone-requires-clause-some g c = (IfOk-at_ok _ c.in-Ok.is c.requires.count).0

pub merge_alone-requires-clause-count : goal.merge_alone-requires-clause-count
merge_alone-requires-clause-count g c = (IfOk-at_ok _ c.in-Ok.is c.requires.count).2

pub merge_alone-requires-clause-parts : goal.merge_alone-requires-clause-parts
merge_alone-requires-clause-parts g c =
    let closed = c.close_stopped-store.ensures in
    let count = IfOk-at_ok _ c.in-Ok.is c.requires.count in
    let parts = IfOk-at_ok _ c.in-Ok.is c.requires.parts in
    (parts.0, may_merge_all g.J.Naming.store c.close_stopped-store.result.0 closed.since 1 c.args.passes.items c.in-Ok.workings.items parts.0 parts.1 count.1 closed.seen)

pub returns-then-stopped-clause-merged : goal.returns-then-stopped-clause-merged
returns-then-stopped-clause-merged g c = at_ok c.args.made _ c.in-Ok.workings c.in-Ok.is (λ ps are. tt)

pub returns-then-stopped-clause-unmerged : goal.returns-then-stopped-clause-unmerged
returns-then-stopped-clause-unmerged g c =
    let closed = c.close_stopped-store.ensures in
    at_ok c.args.made _ c.in-Ok.workings c.in-Ok.is
    (λ ps are. inr (refl, record { is = record { since = closed.since; made = closed.made }; known = closed.known; seen = closed.seen; own = closed.own }))

pub returns-else-stopped-clause-merged : goal.returns-else-stopped-clause-merged
returns-else-stopped-clause-merged g c =
    let old = g.J.Naming.store in
    let mid = c.close_stopped-store.result.0 in
    let closed = c.close_stopped-store.ensures in
    let new = c.merge_alone.result.0 in
    let hs = c.args.passes.items in
    let count = IfOk-at_ok _ c.in-Ok.is c.requires.count in
    at_ok c.args.made _ c.in-Ok.workings c.in-Ok.is
    (λ ps are.
    IfOk-weaker c.merge_alone.result.1 (λ (k : Cleaned). MergedAlone mid new ps k.infos.items k.choices.items k.metrics) (λ (k : Cleaned). HasMerged old new hs ps k.infos.items k.choices.items k.metrics)
    (λ k merged. record {
      mid = mid;
      closed = record { since = closed.since; made = closed.going c.if-stopped.false; known = closed.known; seen = closed.seen; own = closed.own };
      merged = merged;
    })
    (c.merge_alone.ensures.merged ps (may_merge_all old mid closed.since 1 hs c.in-Ok.workings.items ps are count.1 closed.seen)))

pub returns-else-stopped-clause-unmerged : goal.returns-else-stopped-clause-unmerged
returns-else-stopped-clause-unmerged g c =
    let old = g.J.Naming.store in
    let mid = c.close_stopped-store.result.0 in
    let closed = c.close_stopped-store.ensures in
    let new = c.merge_alone.result.0 in
    let hs = c.args.passes.items in
    let ws = c.in-Ok.workings.items in
    let count = IfOk-at_ok _ c.in-Ok.is c.requires.count in
    at_ok c.args.made _ c.in-Ok.workings c.in-Ok.is
    (λ ps are.
    IfErr-weaker c.merge_alone.result.1 (UnmergedAlone mid new ps ws) (IsUnended old new hs ps ws)
    (λ e refused. inl (record {
      mid = mid;
      closed = record { since = closed.since; made = closed.going c.if-stopped.false; known = closed.known; seen = closed.seen; own = closed.own };
      refused = refused;
    }))
    (c.merge_alone.ensures.unmerged ps (may_merge_all old mid closed.since 1 hs ws ps are count.1 closed.seen)))
