use Rattle.std.proofs.Common.{◌∙◌, arith, false, refl, subst}
use Rattle.xet_cut.specs.declared.limits.LimitSettings.{LimitSettings}
use Rattle.xet_store_disk.specs.Opening.{IsOpened}
use Rattle.xet_program.specs.internal.Stops.{making_causes}
use Rattle.xet_program.specs.Tasks.{default_limits, store_folder}
use Rattle.xet_program.proofs.Contents.{never_too_many}
use Rattle.xet_program.proofs.Folder.{folder_making, never_seven, stop_refused, stops_making}
use Rattle.xet_program.proofs.Held.{texts_of}
use Rattle.xet_program.proofs.Listing.{contents_before, few_before, foreign_same, keeps_folder, keeps_listed, opens_before}
use Rattle.xet_program.proofs.Unflushed.{none_stored_on}
use Rattle.xet_program.proofs.make.store_file.Goals as goal

pub returns-in-Ok-clause-made : goal.returns-in-Ok-clause-made
returns-in-Ok-clause-made g c =
    let tells = g.D.Disk.tells c.args.disk in
    let disk = g.D.Disk.files c.args.disk in
    let opened = subst (λ (l : LimitSettings). IsOpened tells false disk store_folder l c.args.now c.in-Ok.session.store) c.default_limits.ensures c.in-Ok.ensures.opened in
    texts_of tells disk _ c.args.now c.in-Ok.session.store c.store_both-session.result.0.store opened c.store_both-session.ensures.keeps c.recall_sound.ensures c.into_disk-disk.ensures.files c.args.bytes.items
    (opens_before _ _ _ _ _ c.in-Ok.ensures.opened c.in-Ok.ensures.contents (few_before c.in-Ok.session _ c.store_both-session.ensures.keeps c.recall_invariant.ensures)) c.store_both-session.result.1 c.store_both-session.ensures.made

pub returns-in-Ok-clause-stop : goal.returns-in-Ok-clause-stop
returns-in-Ok-clause-stop g c =
    let tells = g.D.Disk.tells c.args.disk in
    let disk = g.D.Disk.files c.args.disk in
    let opened = subst (λ (l : LimitSettings). IsOpened tells false disk store_folder l c.args.now c.in-Ok.session.store) c.default_limits.ensures c.in-Ok.ensures.opened in
    stops_making tells disk _ c.args.now c.in-Ok.session c.store_both-session.result.0 opened c.store_both-session.ensures.keeps c.recall_sound.ensures c.recall_invariant.ensures c.into_disk-disk.ensures.files
    (opens_before _ _ _ _ _ c.in-Ok.ensures.opened c.in-Ok.ensures.contents (few_before c.in-Ok.session _ c.store_both-session.ensures.keeps c.recall_invariant.ensures)) c.args.bytes.items c.store_both-session.result.1 c.store_both-session.ensures.stop

pub returns-in-Ok-clause-listed : goal.returns-in-Ok-clause-listed
returns-in-Ok-clause-listed g c =
    keeps_listed (g.D.Disk.tells c.args.disk) _ _ _ _ _ _ c.in-Ok.ensures.opened (contents_before _ _ _ _ _ c.in-Ok.ensures.opened c.in-Ok.ensures.contents) c.store_both-session.ensures.keeps c.into_disk-disk.ensures.files

pub returns-in-Ok-clause-keeps : goal.returns-in-Ok-clause-keeps
returns-in-Ok-clause-keeps g c =
    keeps_folder (g.D.Disk.tells c.args.disk) _ _ _ _ _ _ c.in-Ok.ensures.opened (contents_before _ _ _ _ _ c.in-Ok.ensures.opened c.in-Ok.ensures.contents) c.store_both-session.ensures.keeps c.recall_sound.ensures c.into_disk-disk.ensures.files

pub returns-in-Ok-clause-refused : goal.returns-in-Ok-clause-refused
returns-in-Ok-clause-refused g c = λ told never.
    let has = contents_before _ _ _ _ _ c.in-Ok.ensures.opened c.in-Ok.ensures.contents told in absurd (never (has.shards, has.admits))

pub returns-in-Ok-clause-kept : goal.returns-in-Ok-clause-kept
returns-in-Ok-clause-kept g c = λ told.
    never_seven c.in-Ok.session c.store_both-session.result.0 c.args.bytes.items _ c.store_both-session.result.1 c.store_both-session.ensures.stop

pub returns-in-Ok-clause-foreign : goal.returns-in-Ok-clause-foreign
returns-in-Ok-clause-foreign g c =
    foreign_same (g.D.Disk.tells c.args.disk) _ _ _ _ _ _ c.in-Ok.ensures.opened c.store_both-session.ensures.keeps c.into_disk-disk.ensures.files

pub returns-in-Ok-clause-frame : goal.returns-in-Ok-clause-frame
returns-in-Ok-clause-frame g c =
    let cause = c.store_both-session.ensures.cause in
    let later = c.in-Ok.ensures.later in
    let faults = c.into_disk-disk.ensures.faults in
    record {
      tells = c.into_disk-disk.ensures.tells ∙ c.store_both-session.ensures.keeps.tells ∙ c.in-Ok.ensures.opened.same_tells;
      later = omega (arith, later, cause.later, faults);
      rose = λ is. let rose = cause.rose is in omega (arith, later, rose, faults);
    }

pub returns-in-Err-clause-stop : goal.returns-in-Err-clause-stop
returns-in-Err-clause-stop g c =
    let tells = g.D.Disk.tells c.args.disk in
    let old = g.D.Disk.files c.args.disk in
    let new = g.D.Disk.files c.not_opened.result.0 in
    let same = c.in-Err.ensures.unpruned refl in
    stop_refused (making_causes tells c.args.now old new c.args.bytes.items) c.not_opened.result.1 tells old (g.D.Disk.files c.in-Err.refused.disk) c.args.now _ _ c.in-Err.refused.error c.in-Err.refused.name same c.in-Err.ensures.refused
    (folder_making tells c.args.now old new c.args.bytes.items) c.not_opened.ensures.stop

pub returns-in-Ok-clause-stored : goal.returns-in-Ok-clause-stored
returns-in-Ok-clause-stored g c = λ told.
    let tells = g.D.Disk.tells c.args.disk in
    let disk = g.D.Disk.files c.args.disk in
    let opened = subst (λ (l : LimitSettings). IsOpened tells false disk store_folder l c.args.now c.in-Ok.session.store) c.default_limits.ensures c.in-Ok.ensures.opened in
    none_stored_on tells disk _ default_limits c.args.now c.in-Ok.session.store c.store_both-session.result.0.store opened c.into_disk-disk.ensures.files c.store_both-session.result.1
    (c.store_both-session.ensures.other (c.in-Ok.ensures.opened.same_tells ∙ told))

pub returns-in-Ok-clause-overfull : goal.returns-in-Ok-clause-overfull
returns-in-Ok-clause-overfull g c = λ told many.
    never_too_many _ _ _ _ (opens_before _ _ _ _ _ c.in-Ok.ensures.opened c.in-Ok.ensures.contents (few_before c.in-Ok.session _ c.store_both-session.ensures.keeps c.recall_invariant.ensures) told) many
