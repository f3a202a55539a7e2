use Rattle.std.proofs.Common.{◌∙◌, arith, refl}
use Rattle.xet_store_disk.specs.Opening.{contents_of}
use Rattle.xet_program.specs.Stored.{Records}
use Rattle.xet_program.specs.internal.Steps.{MakesIn}
use Rattle.xet_program.specs.internal.Stops.{storing_causes}
use Rattle.xet_program.proofs.Contents.{never_too_many}
use Rattle.xet_program.proofs.Folder.{folder_storing, stop_refused, stops_storing}
use Rattle.xet_program.proofs.Listing.{contents_before, few_before, foreign_same, keeps_folder, keeps_listed, opens_before}
use Rattle.xet_program.proofs.Making.{are_stored}
use Rattle.xet_program.proofs.Outcomes.{never_idle, on_ok_both, on_ok_given}
use Rattle.xet_program.proofs.Named.{report_on_disk}
use Rattle.xet_program.proofs.pack.store_lines.Goals as goal

pub returns-in-Ok-clause-valid : goal.returns-in-Ok-clause-valid
returns-in-Ok-clause-valid g c = on_ok_given c.report_lines-session.result.1 (contents_of c.in-Ok.session.store, opens_before _ _ _ _ _ c.in-Ok.ensures.opened c.in-Ok.ensures.contents (few_before c.in-Ok.session _ c.report_lines-session.ensures.keeps c.recall_invariant.ensures))

pub returns-in-Ok-clause-listed : goal.returns-in-Ok-clause-listed
returns-in-Ok-clause-listed g c =
    keeps_listed (g.D.Disk.tells c.args.disk) _ _ _ _ _ _ c.in-Ok.ensures.opened (contents_before _ _ _ _ _ c.in-Ok.ensures.opened c.in-Ok.ensures.contents) c.report_lines-session.ensures.keeps c.into_disk-disk.ensures.files

pub returns-in-Ok-clause-keeps : goal.returns-in-Ok-clause-keeps
returns-in-Ok-clause-keeps g c =
    keeps_folder (g.D.Disk.tells c.args.disk) _ _ _ _ _ _ c.in-Ok.ensures.opened (contents_before _ _ _ _ _ c.in-Ok.ensures.opened c.in-Ok.ensures.contents) c.report_lines-session.ensures.keeps c.recall_sound-in-Ok.ensures c.into_disk-disk.ensures.files

pub returns-in-Ok-clause-stored : goal.returns-in-Ok-clause-stored
returns-in-Ok-clause-stored g c = λ told.
    let here = c.in-Ok.ensures.opened.same_tells ∙ told in
    let said = c.args.lines.now.files in
    let first = c.in-Ok.session.store in
    let after = c.report_lines-session.result.0.store in
    on_ok_both c.report_lines-session.result.1
    (λ (found : Records first.limits said first.opened after.files × MakesIn first said after) other. are_stored (g.D.Disk.tells c.args.disk) _ _ _ _ _ _ told c.in-Ok.ensures.opened c.recall_sound.ensures c.report_lines-session.ensures.keeps c.into_disk-disk.ensures.files said found.0 found.1 other)
    (on_ok_both c.report_lines-session.result.1 (λ recorded made. (recorded, made)) (c.report_lines-session.ensures.answer.recorded here) (c.report_lines-session.ensures.answer.made here)) (c.report_lines-session.ensures.answer.other here)

pub returns-in-Ok-clause-kept : goal.returns-in-Ok-clause-kept
returns-in-Ok-clause-kept g c = λ told.
    never_idle _ c.args.limits.now c.args.workers c.in-Ok.session c.report_lines-session.result.0 c.args.lines.now c.report_lines-session.result.1 c.report_lines-session.ensures.stop

pub returns-in-Ok-clause-stop : goal.returns-in-Ok-clause-stop
returns-in-Ok-clause-stop g c =
    stops_storing (g.D.Disk.tells c.args.disk) (g.D.Disk.files c.args.disk) _ c.args.limits.now c.args.now c.in-Ok.session c.report_lines-session.result.0 c.in-Ok.ensures.opened c.report_lines-session.ensures.keeps c.recall_sound-in-Ok.ensures
    c.recall_invariant.ensures c.into_disk-disk.ensures.files c.args.lines.now c.report_lines-session.result.1
    (opens_before _ _ _ _ _ c.in-Ok.ensures.opened c.in-Ok.ensures.contents (few_before c.in-Ok.session _ c.report_lines-session.ensures.keeps c.recall_invariant.ensures)) c.report_lines-session.ensures.stop

pub returns-in-Err-clause-stop : goal.returns-in-Err-clause-stop
returns-in-Err-clause-stop g c =
    let tells = g.D.Disk.tells c.args.disk in
    let old = g.D.Disk.files c.args.disk in
    let new = g.D.Disk.files c.not_opened.result.0 in
    let same = c.in-Err.ensures.unpruned refl in
    stop_refused (storing_causes tells c.args.limits.now c.args.lines.now c.args.now old new) c.not_opened.result.1 tells old (g.D.Disk.files c.in-Err.refused.disk) c.args.now _ _ c.in-Err.refused.error c.in-Err.refused.name same c.in-Err.ensures.refused
    (folder_storing tells c.args.limits.now c.args.lines.now c.args.now old new) c.not_opened.ensures.stop

pub returns-in-Ok-clause-report : goal.returns-in-Ok-clause-report
returns-in-Ok-clause-report g c =
    report_on_disk (g.D.Disk.tells c.args.disk) (g.D.Disk.files c.args.disk) _ c.args.limits.now c.args.now c.in-Ok.session.store c.report_lines-session.result.0.store c.args.lines.now c.in-Ok.ensures.opened c.into_disk-disk.ensures.files
    c.report_lines-session.result.1 c.report_lines-session.ensures.answer.report

pub returns-in-Ok-clause-refused : goal.returns-in-Ok-clause-refused
returns-in-Ok-clause-refused g c = λ told never.
    let has = contents_before _ _ _ _ _ c.in-Ok.ensures.opened c.in-Ok.ensures.contents told in absurd (never (has.shards, has.admits))

pub returns-in-Ok-clause-foreign : goal.returns-in-Ok-clause-foreign
returns-in-Ok-clause-foreign g c =
    foreign_same (g.D.Disk.tells c.args.disk) _ _ _ _ _ _ c.in-Ok.ensures.opened c.report_lines-session.ensures.keeps c.into_disk-disk.ensures.files

pub returns-in-Ok-clause-frame : goal.returns-in-Ok-clause-frame
returns-in-Ok-clause-frame g c =
    let cause = c.report_lines-session.ensures.cause in
    let later = c.in-Ok.ensures.later in
    let faults = c.into_disk-disk.ensures.faults in
    record {
      tells = c.into_disk-disk.ensures.tells ∙ c.report_lines-session.ensures.keeps.tells ∙ c.in-Ok.ensures.opened.same_tells;
      later = omega (arith, later, cause.later, faults);
      rose = λ is. let rose = cause.rose is in omega (arith, later, rose, faults);
    }

pub returns-in-Ok-clause-overfull : goal.returns-in-Ok-clause-overfull
returns-in-Ok-clause-overfull g c = λ told many.
    never_too_many _ _ _ _ (opens_before _ _ _ _ _ c.in-Ok.ensures.opened c.in-Ok.ensures.contents (few_before c.in-Ok.session _ c.report_lines-session.ensures.keeps c.recall_invariant.ensures) told) many
