use Rattle.std.proofs.Common.{◌<◌, ◌≤◌, All, IfOk, length, subst, sym}
use Rattle.xet_cut.specs.Limits.{AreInRange}
use Rattle.xet_store_disk.specs.theorems.Keeping.{keeps_then}
use Rattle.xet_program.proofs.Settled.{AreSteps}
use Rattle.xet_program.proofs.Reported.{bounds_of_cleaned, cause_all, lines_answer, stop_lines}
use Rattle.xet_program.proofs.session.report_lines.Goals as goal

pub returns-clause-keeps : goal.returns-clause-keeps
returns-clause-keeps g c = keeps_then _ _ _ c.clean_lines-session.ensures.keeps c.report_all-session.ensures.keeps

pub report_all-session-requires-clause-bounds : goal.report_all-session-requires-clause-bounds
report_all-session-requires-clause-bounds g c = λ lives within.
    subst (λ rs. IfOk c.clean_lines-session.result.1 (λ cleaned. All (λ r. (0 < r.file) × (r.file ≤ length cleaned.infos.items)) rs)) (sym c.ranges-2.ensures)
    (bounds_of_cleaned c.args.session c.clean_lines-session.result.0 c.args.session c.args.lines.now c.requires.good c.clean_lines-session.result.1 c.clean_lines-session.ensures.cleaned)

pub returns-clause-answer : goal.returns-clause-answer
returns-clause-answer g c =
    let first = c.args.session in
    let before = c.clean_lines-session.result.0 in
    let after = c.report_all-session.result.0 in
    let steps : AreSteps first before after = record {
      cleaned = c.clean_lines-session.ensures.keeps;
      keeps = c.report_all-session.ensures.keeps;
      sound = c.recall_sound.ensures;
      flushed = c.recall_sound-2.ensures;
      recorded = c.recall_invariant-2.ensures;
      folder = c.requires.folder;
      fresh = c.requires.fresh;
      fits = subst AreInRange c.limits.ensures c.recall_invariant.ensures;
      contents = c.requires.contents;
    } in
    lines_answer first before after c.args.lines.now c.ranges-2.result.now c.clean_lines-session.result.1 c.report_all-session.result.1 steps c.ranges-2.ensures c.requires.good c.clean_lines-session.ensures.cleaned
    c.report_all-session.ensures.settled c.report_all-session.ensures.text c.report_all-session.ensures.stopped

pub returns-clause-stop : goal.returns-clause-stop
returns-clause-stop g c =
    stop_lines c.args.session c.clean_lines-session.result.0 c.report_all-session.result.0 c.args.lines.now c.clean_lines-session.result.1 c.report_all-session.result.1 c.clean_lines-session.ensures.keeps.tells
    c.clean_lines-session.ensures.stop c.report_all-session.ensures.stop c.report_all-session.ensures.stopped

pub returns-clause-cause : goal.returns-clause-cause
returns-clause-cause g c =
    cause_all c.args.session c.clean_lines-session.result.0 c.report_all-session.result.0 c.clean_lines-session.result.1 c.report_all-session.result.1 c.clean_lines-session.ensures.cause c.report_all-session.ensures.cause
    c.report_all-session.ensures.stopped
