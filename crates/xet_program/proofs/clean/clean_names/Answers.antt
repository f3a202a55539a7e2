use Rattle.std.proofs.Common.{◌≡◌, ◌∙◌, ◌<◌, ℕ, true, List, Any, Err, IfErr, length, map, string_bytes, subst, sym, ap, arith}
use Rattle.std.proofs.lemmas.List.{length-map, with_items_is}
use Rattle.std.proofs.lemmas.Result.{IfErr-at_err, IfErr-weaker}
use Rattle.xet_cut.specs.Limits.{AreInRange}
use Rattle.xet_store_disk.specs.theorems.Keeping.{keeps_nothing, keeps_then}
use Rattle.xet_program.specs.declared.ending.Stop.TheVariants as stop
use Rattle.xet_program.specs.Answers.{AreNamed}
use Rattle.xet_program.specs.internal.Stops.{IsStop, cleaning_causes, naming_causes, opening_causes}
use Rattle.xet_program.proofs.Absent.{none_absent}
use Rattle.xet_program.proofs.Opened.{on_ok_here, opened_count, opened_lent, opened_named, rose_after, rose_then, same_length, some_failed, stop_of_names, stop_of_opening}
use Rattle.xet_program.proofs.Settled.{AreSteps}
use Rattle.xet_program.proofs.Reported.{cause_all, cause_of, names_answer, no_bounds, stop_names}
use Rattle.xet_program.proofs.clean.clean_names.Goals as goal

pub clean_sources-session-requires-clause-few : goal.clean_sources-session-requires-clause-few
clean_sources-session-requires-clause-few g c = λ lives within.
    let source = g.F.S.Source in
    let opened = on_ok_here c.in-Ok.is c.open_all-sources.ensures.opened in
    let count = opened_count (g.F.Inputs.tells c.args.inputs.now) (g.F.Inputs.files c.args.inputs.now) source.tells source.left source.faults (map string_bytes c.args.names.now) c.open_all-sources.result.0.items opened in
    let same = ap length c.deref_mut.ensures.value in
    let names = length-map c.args.names.now string_bytes in
    omega (arith, same, count, names, c.requires.count)

pub report_all-session-requires-clause-bounds : goal.report_all-session-requires-clause-bounds
report_all-session-requires-clause-bounds g c = λ lives within. no_bounds c.clean_sources-session.result.1

pub returns-in-Ok-clause-cleaned : goal.returns-in-Ok-clause-cleaned
returns-in-Ok-clause-cleaned g c =
    let source = g.F.S.Source in
    let told = g.F.Inputs.tells c.args.inputs.now in
    let files = g.F.Inputs.files c.args.inputs.now in
    let names = map string_bytes c.args.names.now in
    let old = c.deref_mut.result.now in
    let opened = opened_lent told files source.tells source.left source.faults names c.open_all-sources.result.0.items old c.in-Ok.is c.open_all-sources.ensures.opened c.deref_mut.ensures.value in
    let steps : AreSteps c.args.session c.clean_sources-session.result.0 c.report_all-session.result.0 = record {
      cleaned = c.clean_sources-session.ensures.keeps;
      keeps = c.report_all-session.ensures.keeps;
      sound = c.recall_sound.ensures;
      flushed = c.recall_sound-in-Ok.ensures;
      recorded = c.recall_invariant-in-Ok.ensures;
      folder = c.requires.folder;
      fresh = c.requires.fresh;
      fits = subst AreInRange c.limits.ensures c.recall_invariant.ensures;
      contents = c.requires.contents;
    } in
    names_answer c.args.session c.clean_sources-session.result.0 c.report_all-session.result.0 told files names source.tells source.left source.faults old c.clean_sources-session.result.1 c.report_all-session.result.1 steps opened
    c.clean_sources-session.ensures.cleaned c.report_all-session.ensures.settled c.report_all-session.ensures.text c.report_all-session.ensures.stopped

pub returns-in-Ok-clause-keeps : goal.returns-in-Ok-clause-keeps
returns-in-Ok-clause-keeps g c = keeps_then _ _ _ c.clean_sources-session.ensures.keeps c.report_all-session.ensures.keeps

pub returns-in-Ok-clause-stop : goal.returns-in-Ok-clause-stop
returns-in-Ok-clause-stop g c =
    let told = g.F.Inputs.tells c.args.inputs.now in
    let files = g.F.Inputs.files c.args.inputs.now in
    let names = map string_bytes c.args.names.now in
    let session = c.args.session in
    let old = c.deref_mut.result.now in
    let new = c.clean_sources-session.new.sources in
    let opened = opened_lent told files g.F.S.Source.tells g.F.S.Source.left g.F.S.Source.faults names c.open_all-sources.result.0.items old c.in-Ok.is c.open_all-sources.ensures.opened c.deref_mut.ensures.value in
    let before = c.clean_sources-session.result.0 in
    let stops : IfErr c.clean_sources-session.result.1 (IsStop (naming_causes told files names session before)) =
    IfErr-weaker c.clean_sources-session.result.1 (IsStop (cleaning_causes g.F.S.Source.tells g.F.S.Source.left g.F.S.Source.faults old new session before)) (IsStop (naming_causes told files names session before))
    (λ e h. stop_of_names told files g.F.S.Source.tells g.F.S.Source.left g.F.S.Source.faults names old new session before e opened h) c.clean_sources-session.ensures.stop in
    let named : told ≡ true → (fs : List (List ℕ)) × AreNamed files names fs = λ inputs_told. (map g.F.S.Source.left old, opened_named told files g.F.S.Source.tells g.F.S.Source.left g.F.S.Source.faults names old inputs_told opened) in
    stop_names session c.clean_sources-session.result.0 c.report_all-session.result.0 told files names c.clean_sources-session.result.1 c.report_all-session.result.1 c.clean_sources-session.ensures.keeps.tells named stops c.report_all-session.ensures.stop
    c.report_all-session.ensures.stopped

pub returns-in-Ok-clause-absent : goal.returns-in-Ok-clause-absent
returns-in-Ok-clause-absent g c = λ told lacks.
    let source = g.F.S.Source in
    let files = g.F.Inputs.files c.args.inputs.now in
    let names = map string_bytes c.args.names.now in
    let sources = c.open_all-sources.result.0.items in
    let opened = on_ok_here c.in-Ok.is c.open_all-sources.ensures.opened in
    let named = opened_named (g.F.Inputs.tells c.args.inputs.now) files source.tells source.left source.faults names sources told opened in
    absurd (none_absent files names (map source.left sources) lacks.0 lacks.1 named lacks.2 lacks.3 lacks.4)

pub returns-in-Ok-clause-kept : goal.returns-in-Ok-clause-kept
returns-in-Ok-clause-kept g c = λ is.
    let source = g.F.S.Source in
    absurd (cause_of _ (cleaning_causes source.tells source.left source.faults c.deref_mut.result.now c.clean_sources-session.new.sources c.args.session c.clean_sources-session.result.0) c.clean_sources-session.result.0 c.report_all-session.result.0
    c.clean_sources-session.result.1 c.report_all-session.result.1 stop.NotFound (λ h. h) c.clean_sources-session.ensures.stop c.report_all-session.ensures.stop c.report_all-session.ensures.stopped is)

pub returns-in-Ok-clause-cause : goal.returns-in-Ok-clause-cause
returns-in-Ok-clause-cause g c =
    cause_all c.args.session c.clean_sources-session.result.0 c.report_all-session.result.0 c.clean_sources-session.result.1 c.report_all-session.result.1 c.clean_sources-session.ensures.cause c.report_all-session.ensures.cause
    c.report_all-session.ensures.stopped

pub returns-in-Ok-clause-closed : goal.returns-in-Ok-clause-closed
returns-in-Ok-clause-closed g c = λ few.
    let opened = c.open_all-sources.result.0 in
    let new = c.clean_sources-session.new.sources in
    let same = same_length g.F.S.Source.tells opened.items new (c.clean_sources-session.ensures.sources ∙ ap (map g.F.S.Source.tells) c.deref_mut.ensures.value) in
    let returned = ap length (with_items_is opened new (same ∙ sym opened.ok.0)) in
    omega (arith, same, returned, c.open_all-sources.ensures.count few, c.close_all.ensures.count)

pub returns-in-Ok-clause-inputs : goal.returns-in-Ok-clause-inputs
returns-in-Ok-clause-inputs g c =
    let source = g.F.S.Source in
    let old = c.deref_mut.result.now in
    let new = c.clean_sources-session.new.sources in
    let opens = c.open_all-sources.ensures.inputs in
    let closes = c.close_all.ensures.inputs in
    record {
      same = closes.same ∙ opens.same;
      tells = closes.tells ∙ opens.tells;
      later = omega (arith, closes.later, opens.later);
      rose = λ is.
          let opened = opened_lent _ _ source.tells source.left source.faults _ c.open_all-sources.result.0.items old c.in-Ok.is c.open_all-sources.ensures.opened c.deref_mut.ensures.value in
          let why = cause_of _ (cleaning_causes source.tells source.left source.faults old new c.args.session c.clean_sources-session.result.0) c.clean_sources-session.result.0 c.report_all-session.result.0 c.clean_sources-session.result.1 c.report_all-session.result.1 stop.Input (λ h. h)
          c.clean_sources-session.ensures.stop c.report_all-session.ensures.stop c.report_all-session.ensures.stopped is in
          let failed = some_failed _ _ source.tells source.left source.faults _ old new why.0 opened why.1 in
          let sources = c.open_all-sources.result.0 in
          let returned = with_items_is sources new (same_length source.tells old new c.clean_sources-session.ensures.sources ∙ ap length c.deref_mut.ensures.value ∙ sym sources.ok.0) in
          rose_after _ _ _ opens.later (closes.rose (subst (Any (λ s. 0 < source.faults s)) (sym returned) failed));
    }

pub returns-in-Err-clause-keeps : goal.returns-in-Err-clause-keeps
returns-in-Err-clause-keeps g c = keeps_nothing c.args.session.store

pub returns-in-Err-clause-stop : goal.returns-in-Err-clause-stop
returns-in-Err-clause-stop g c =
    let told = g.F.Inputs.tells c.args.inputs.now in
    let files = g.F.Inputs.files c.args.inputs.now in
    let names = map string_bytes c.args.names.now in
    stop_of_opening told files names c.args.session c.in-Err.stop (IfErr-at_err (IsStop (opening_causes told files names)) c.in-Err.is c.open_all-sources.ensures.stop)

pub returns-in-Err-clause-cause : goal.returns-in-Err-clause-cause
returns-in-Err-clause-cause g c =
    let causes = opening_causes (g.F.Inputs.tells c.args.inputs.now) (g.F.Inputs.files c.args.inputs.now) (map string_bytes c.args.names.now) in record {
      later = omega arith;
      rose = λ is. let disk : c.in-Err.stop ≡ stop.Disk = cc is in absurd (subst (IsStop causes) disk (IfErr-at_err (IsStop causes) c.in-Err.is c.open_all-sources.ensures.stop));
    }

pub returns-in-Err-clause-inputs : goal.returns-in-Err-clause-inputs
returns-in-Err-clause-inputs g c =
    let opens = c.open_all-sources.ensures.inputs in
    let closes = c.close_all-in-Err.ensures.inputs in
    record {
      same = closes.same ∙ opens.same;
      tells = closes.tells ∙ opens.tells;
      later = omega (arith, closes.later, opens.later);
      rose = λ is. let input : c.in-Err.stop ≡ stop.Input = cc is in rose_then _ _ _ (opens.rose (c.in-Err.is ∙ ap Err input)) closes.later;
    }
