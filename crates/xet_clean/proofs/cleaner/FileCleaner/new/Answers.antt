use Rattle.std.proofs.Common.{◌≡◌, ◌∙◌, [], ap, refl, subst, sym}
use Rattle.xet_cut.specs.Limits.{AreInRange}
use Rattle.xet_cut.specs.Streams.{Splitting}
use Rattle.xet_cut.specs.declared.limits.LimitSettings.{LimitSettings}
use Rattle.xet_dedup.specs.Deduping.{IsDeduped}
use Rattle.xet_file_plan.specs.Moves.{empty_plan}
use Rattle.xet_store.specs.Interface.{Stands}
use Rattle.xet_store.specs.Holders.{calls_of, core_at, lengths_in, xorb_limits}
use Rattle.xet_clean.specs.Cleaner.{IsCleaning}
use Rattle.xet_clean.proofs.Beginning.{cleaning_begins}
use Rattle.xet_clean.proofs.cleaner.FileCleaner.new.Goals as goal

-- nothing is buffered yet
abbrev with_nothing : LimitSettings → Splitting
with_nothing s = record { settings = s; buffered = [] }

pub returns-in-Ok-new-clause-new : goal.returns-in-Ok-new-clause-new
returns-in-Ok-new-clause-new g c =
    let d = c.in-Ok-new.deduper in
    let same = c.in-Ok-new.ensures.same in
    let now = g.S.Stepping.holder d.interface.steps in
    let limits : c.limits.result.now ≡ now.limits = c.limits.ensures ∙ sym (ap (λ a. (g.S.Stepping.holder a.steps).limits) same.0) in
    subst (λ a. IsCleaning (g.S.Stepping.holder a.steps) now d.whole d.plan d.global c.in-Ok.chunker 0 []) (same.0 ∙ sym same.1)
    (cleaning_begins now d.whole d.plan d.global c.in-Ok.chunker 0 c.in-Ok-new.ensures.whole.0
    (c.in-Ok-new.ensures.empty ∙ ap empty_plan limits) same.3
    (c.in-Ok.ensures.new ∙ ap with_nothing limits)
    refl (subst AreInRange limits c.recall_invariant.ensures)
    (subst (λ a. IsDeduped (lengths_in (core_at now)) (Stands now) (calls_of (g.S.Stepping.holder a.steps)) (calls_of now) (xorb_limits now.limits) d.plan) (same.1 ∙ sym same.0) c.in-Ok-new.ensures.whole.1))
