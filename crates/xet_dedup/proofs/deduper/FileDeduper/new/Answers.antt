use Rattle.std.proofs.Common.{◌≡◌, ℕ, List, [], Option, refl, sym, subst}
use Rattle.xet_choices.specs.Calls.{Call}
use Rattle.xet_cut.specs.declared.limits.LimitSettings.{LimitSettings}
use Rattle.xet_file_plan.specs.Moves.{empty_plan}
use Rattle.xet_file_plan.specs.theorems.Since.{empty_since}
use Rattle.xet_shard_format.specs.declared.record.FileDataSequenceEntry.{FileDataSequenceEntry as Segment}
use Rattle.xet_dedup.specs.Deduping.{IsDeduped}
use Rattle.xet_dedup.proofs.deduper.FileDeduper.new.Goals as goal

-- the plan of a file of no chunks is right
empty_deduped : (listing : List ℕ → Option (List ℕ)) (standing : List (List ℕ) → Segment → Type 0) (calls : List Call) (cut : ℕ × ℕ) (settings : LimitSettings)
    → cut ≡ (settings.cut_bytes, settings.cut_chunks) → IsDeduped listing standing calls calls cut (empty_plan settings)
empty_deduped listing standing calls cut settings limits = record { plan = empty_since listing standing calls [] settings; small = tt; limits = limits }

pub returns-in-Ok-clause-whole : goal.returns-in-Ok-clause-whole
returns-in-Ok-clause-whole g c =
    let i = c.args.interface in (
      refl,
      subst (λ s. IsDeduped (g.I.DeduplicationDataInterface.lists i) (g.I.DeduplicationDataInterface.stands i) (g.I.DeduplicationDataInterface.calls s) (g.I.DeduplicationDataInterface.calls i) (g.I.DeduplicationDataInterface.cut_limits i) c.in-Ok.plan) (sym c.of-start.ensures)
          (subst (IsDeduped (g.I.DeduplicationDataInterface.lists i) (g.I.DeduplicationDataInterface.stands i) (g.I.DeduplicationDataInterface.calls i) (g.I.DeduplicationDataInterface.calls i) (g.I.DeduplicationDataInterface.cut_limits i)) (sym c.in-Ok.ensures.new)
          (empty_deduped (g.I.DeduplicationDataInterface.lists i) (g.I.DeduplicationDataInterface.stands i) (g.I.DeduplicationDataInterface.calls i) (g.I.DeduplicationDataInterface.cut_limits i) c.args.limits.now c.requires.limits)),
    )
