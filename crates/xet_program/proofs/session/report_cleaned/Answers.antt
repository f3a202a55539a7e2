use Rattle.std.proofs.Common.{◌∙◌, ℕ, List, ◌++◌, ap}
use Rattle.xet_store_disk.specs.theorems.Keeping.{keeps_then}
use Rattle.xet_program.proofs.Making.{settled_of}
use Rattle.xet_program.proofs.Reading.{keeps_unchanged, read_after}
use Rattle.xet_program.proofs.session.report_cleaned.Goals as goal

pub returns-clause-keeps : goal.returns-clause-keeps
returns-clause-keeps g c = keeps_then _ _ _ c.in_ok-flush.ensures.steps.keeps (keeps_unchanged _ _ c.in_ok-push_ranges.ensures.unchanged)

pub returns-clause-text : goal.returns-clause-text
returns-clause-text g c =
    let lines = c.in_ok-push_ranges.ensures.lines in
    (lines.0, read_after c.args.infos.now _ _ c.args.ranges.now lines.0 c.in_ok-push_ranges.ensures.unchanged lines.1, lines.2 ∙ ap (λ (t : List ℕ). t ++ lines.0) c.in_ok-text.ensures.text)

pub returns-in_err-push_ranges-clause-keeps : goal.returns-in_err-push_ranges-clause-keeps
returns-in_err-push_ranges-clause-keeps g c = keeps_then _ _ _ c.in_ok-flush.ensures.steps.keeps (keeps_unchanged _ _ c.in_err-push_ranges.ensures.unchanged)

pub returns-clause-settled : goal.returns-clause-settled
returns-clause-settled g c =
    settled_of _ _ _ _ c.in_ok-flush.ensures.none c.in_ok-flush.ensures.flushed c.in_ok-flush.ensures.steps c.in_ok-flush.ensures.changes c.in_ok-push_ranges.ensures.unchanged c.in_ok-push_ranges.ensures.recorded
