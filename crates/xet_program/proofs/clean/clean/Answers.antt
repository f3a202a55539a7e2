use Rattle.std.proofs.Common.{◌∙◌, false, map, refl, string_bytes, subst, ap, arith}
use Rattle.xet_cut.specs.declared.limits.LimitSettings.{LimitSettings}
use Rattle.xet_store_disk.specs.Opening.{IsOpened}
use Rattle.xet_store.specs.Recorded.{RecordedState}
use Rattle.xet_program.specs.internal.Stops.{cleaning_store_causes}
use Rattle.xet_program.proofs.Contents.{never_too_many}
use Rattle.xet_program.proofs.Folder.{folder_cleaning, stop_refused, stops_cleaning}
use Rattle.xet_program.specs.Tasks.{store_folder}
use Rattle.xet_program.proofs.Listing.{contents_before, few_before, foreign_same, keeps_folder, keeps_listed, opens_before}
use Rattle.xet_program.proofs.Named.{cleaned_text, idle_kept}
use Rattle.xet_program.proofs.clean.clean.Goals as goal

pub returns-in-Ok-clause-cleaned : goal.returns-in-Ok-clause-cleaned
returns-in-Ok-clause-cleaned g c =
    let tells = g.D.Disk.tells c.args.disk in
    let disk = g.D.Disk.files c.args.disk in
    let opened = subst (λ (l : LimitSettings). IsOpened tells false disk store_folder l c.args.now c.in-Ok.session.store) c.default_limits.ensures c.in-Ok.ensures.opened in
    cleaned_text (g.F.Inputs.tells c.args.inputs.now) (g.F.Inputs.files c.args.inputs.now) (map string_bytes c.args.names.now) tells disk _ c.args.now c.in-Ok.session.store c.clean_names-session.result.0.store opened c.recall_sound.ensures c.clean_names-session.ensures.keeps
    c.into_disk-disk.ensures.files (opens_before _ _ _ _ _ c.in-Ok.ensures.opened c.in-Ok.ensures.contents (few_before c.in-Ok.session _ c.clean_names-session.ensures.keeps c.recall_invariant.ensures)) c.clean_names-session.result.1 c.clean_names-session.ensures.cleaned

pub returns-in-Ok-clause-listed : goal.returns-in-Ok-clause-listed
returns-in-Ok-clause-listed g c =
    keeps_listed (g.D.Disk.tells c.args.disk) _ _ _ _ _ _ c.in-Ok.ensures.opened (contents_before _ _ _ _ _ c.in-Ok.ensures.opened c.in-Ok.ensures.contents) c.clean_names-session.ensures.keeps c.into_disk-disk.ensures.files

pub returns-in-Ok-clause-keeps : goal.returns-in-Ok-clause-keeps
returns-in-Ok-clause-keeps g c =
    keeps_folder (g.D.Disk.tells c.args.disk) _ _ _ _ _ _ c.in-Ok.ensures.opened (contents_before _ _ _ _ _ c.in-Ok.ensures.opened c.in-Ok.ensures.contents) c.clean_names-session.ensures.keeps c.recall_sound-in-Ok.ensures c.into_disk-disk.ensures.files

pub returns-in-Ok-clause-kept : goal.returns-in-Ok-clause-kept
returns-in-Ok-clause-kept g c = λ told idle.
    let tells = g.D.Disk.tells c.args.disk in
    let disk = g.D.Disk.files c.args.disk in
    let opened = subst (λ (l : LimitSettings). IsOpened tells false disk store_folder l c.args.now c.in-Ok.session.store) c.default_limits.ensures c.in-Ok.ensures.opened in
    idle_kept (g.F.Inputs.tells c.args.inputs.now) (g.F.Inputs.files c.args.inputs.now) (map string_bytes c.args.names.now) tells disk _ c.args.now c.in-Ok.session.store c.clean_names-session.result.0.store opened
    c.in-Ok.session c.clean_names-session.result.0 c.clean_names-session.result.1 c.clean_names-session.ensures.stop (λ none. ap (λ (s : RecordedState). s.store) (c.clean_names-session.ensures.kept none)) c.into_disk-disk.ensures.files idle

pub returns-in-Ok-clause-disk : goal.returns-in-Ok-clause-disk
returns-in-Ok-clause-disk g c =
    let cause = c.clean_names-session.ensures.cause in
    let later = c.in-Ok.ensures.later in
    let faults = c.into_disk-disk.ensures.faults in
    record {
      tells = c.into_disk-disk.ensures.tells ∙ c.clean_names-session.ensures.keeps.tells ∙ c.in-Ok.ensures.opened.same_tells;
      later = omega (arith, later, cause.later, faults);
      rose = λ is. let rose = cause.rose is in omega (arith, later, rose, faults);
    }

pub returns-in-Ok-clause-refused : goal.returns-in-Ok-clause-refused
returns-in-Ok-clause-refused g c = λ told never.
    let has = contents_before _ _ _ _ _ c.in-Ok.ensures.opened c.in-Ok.ensures.contents told in absurd (never (has.shards, has.admits))

pub returns-in-Ok-clause-absent : goal.returns-in-Ok-clause-absent
returns-in-Ok-clause-absent g c = λ inputs_told told lacks.
    c.into_disk-disk.ensures.files ∙ ap (λ (s : RecordedState). s.store.files) (c.clean_names-session.ensures.absent inputs_told lacks) ∙ c.in-Ok.ensures.opened.same_files refl

pub returns-in-Ok-clause-stop : goal.returns-in-Ok-clause-stop
returns-in-Ok-clause-stop g c =
    let tells = g.D.Disk.tells c.args.disk in
    let disk = g.D.Disk.files c.args.disk in
    let opened = subst (λ (l : LimitSettings). IsOpened tells false disk store_folder l c.args.now c.in-Ok.session.store) c.default_limits.ensures c.in-Ok.ensures.opened in
    stops_cleaning (g.F.Inputs.tells c.args.inputs.now) (g.F.Inputs.files c.args.inputs.now) (map string_bytes c.args.names.now) tells disk _ c.args.now c.in-Ok.session c.clean_names-session.result.0 opened c.clean_names-session.ensures.keeps
    c.recall_sound-in-Ok.ensures c.recall_invariant.ensures c.into_disk-disk.ensures.files
    (opens_before _ _ _ _ _ c.in-Ok.ensures.opened c.in-Ok.ensures.contents (few_before c.in-Ok.session _ c.clean_names-session.ensures.keeps c.recall_invariant.ensures)) c.clean_names-session.result.1 c.clean_names-session.ensures.stop

pub returns-in-Err-clause-stop : goal.returns-in-Err-clause-stop
returns-in-Err-clause-stop g c =
    let tells = g.D.Disk.tells c.args.disk in
    let old = g.D.Disk.files c.args.disk in
    let new = g.D.Disk.files c.not_opened.result.0 in
    let inputs_tell = g.F.Inputs.tells c.args.inputs.now in
    let inputs = g.F.Inputs.files c.args.inputs.now in
    let names = map string_bytes c.args.names.now in
    let same = c.in-Err.ensures.unpruned refl in
    stop_refused (cleaning_store_causes inputs_tell inputs names tells c.args.now old new) c.not_opened.result.1 tells old (g.D.Disk.files c.in-Err.refused.disk) c.args.now _ _ c.in-Err.refused.error c.in-Err.refused.name same c.in-Err.ensures.refused
    (folder_cleaning inputs_tell inputs names tells c.args.now old new) c.not_opened.ensures.stop

pub returns-in-Ok-clause-foreign : goal.returns-in-Ok-clause-foreign
returns-in-Ok-clause-foreign g c =
    foreign_same (g.D.Disk.tells c.args.disk) _ _ _ _ _ _ c.in-Ok.ensures.opened c.clean_names-session.ensures.keeps c.into_disk-disk.ensures.files

pub returns-in-Ok-clause-overfull : goal.returns-in-Ok-clause-overfull
returns-in-Ok-clause-overfull g c = λ told many.
    never_too_many _ _ _ _ (opens_before _ _ _ _ _ c.in-Ok.ensures.opened c.in-Ok.ensures.contents (few_before c.in-Ok.session _ c.clean_names-session.ensures.keeps c.recall_invariant.ensures) told) many
