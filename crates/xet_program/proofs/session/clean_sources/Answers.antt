use Rattle.std.proofs.Common.{◌∙◌, IsSome, List, Result, subst, sym}
use Rattle.std.proofs.lemmas.Result.{IfErr-at_err, IfOk-at_ok}
use Rattle.std.specs.List.{AllByRecursion}
use Rattle.std.specs.Result.{result_err}
use Rattle.std.specs.List.Sorted.{IsPermutation}
use Rattle.xet_clean.specs.Cleaning.{RecordsFile, files_in}
use Rattle.xet_clean.specs.declared.policy.Sha256Policy.TheVariants.{Compute}
use Rattle.xet_clean.specs.declared.info.Cleaned.{Cleaned}
use Rattle.xet_hash.specs.declared.error.StoreError.{StoreError}
use Rattle.xet_history.specs.declared.entry.Entry.{Entry}
use Rattle.xet_locked_session.specs.Shared.{MakesStepsBy}
use Rattle.xet_store_disk.specs.Cleaning.{HasFile, chunkings}
use Rattle.xet_store_disk.specs.Separate.{Separate}
use Rattle.xet_store_disk.specs.Store.{plan_of}
use Rattle.xet_workers.specs.Cleaning.{IsCleanedBy, MadeBy}
use Rattle.xet_program.specs.internal.Stops.{IsStop, cleaning_causes}
use Rattle.xet_program.proofs.Cleaned.{Reason, chosen_all, chunked_files, rose_of_reason, short_of_sources, since_is, stop_of_reason}
use Rattle.xet_program.proofs.MadeFiles.{added_of, counted_of}
use Rattle.xet_program.proofs.Opened.{on_ok_here}
use Rattle.xet_program.proofs.Uncut.{uncut_of}
use Rattle.xet_program.proofs.session.clean_sources.Goals as goal

pub returns-in-Ok-clause-cleaned : goal.returns-in-Ok-clause-cleaned
returns-in-Ok-clause-cleaned g c =
    let tells = g.S.Source.tells in
    let left = g.S.Source.left in
    let first = c.args.session in
    let l = first.store.limits in
    let s = c.clean_files-session.result.0 in
    let sources = c.args.sources.now in
    let is = IfOk-at_ok (λ (x : Cleaned). IsCleanedBy c.args.workers tells left sources first s x.infos.items x.choices.items x.metrics) c.in-Ok.is c.clean_files-session.ensures.cleaned in
    let grows = c.clean_files-session.ensures.steps in
    let since = since_is first s grows.entries grows.steps.moves.history in
    let by : MakesStepsBy first s grows.entries = subst (λ (r : Result Cleaned StoreError). MadeBy (result_err r) first s grows.entries) c.in-Ok.is grows.made in
    record {
      files = is.files;
      each = is.told;
      told = is.pointers;
      short = λ tell. short_of_sources tells left l sources is.files is.told (on_ok_here c.in-Ok.is c.clean_files-session.ensures.short) tell;
      entries = grows.entries;
      steps = grows.steps;
      by = by;
      uncut = uncut_of c.args.workers tells left sources first s _ _ _ is grows.entries grows.steps by.steps;
      recorded = chosen_all c.args.workers l grows.entries _ is.files _ is.records (subst (λ (es : List Entry). IsPermutation is.records (files_in es)) since is.made) is.chosen;
      only = subst (λ (es : List Entry). AllByRecursion (RecordsFile Compute l is.files) es) since is.only;
      has = λ told tell apart.
          let e = chunked_files tells left l sources is.files is.told tell in
          subst (AllByRecursion (HasFile s.store)) e
          (IfOk-at_ok (λ (x : Cleaned). AllByRecursion (HasFile s.store) (chunkings left l sources)) c.in-Ok.is (c.clean_files-session.ensures.files told tell (subst (Separate s.store) (sym e) apart)));
    }

pub returns-in-Ok-clause-planned : goal.returns-in-Ok-clause-planned
returns-in-Ok-clause-planned g c =
    let s = c.clean_files-session.result.0 in
    IfOk-at_ok (λ (x : Cleaned). AllByRecursion (λ info. IsSome (plan_of s.store.records info.hash)) x.infos.items) c.in-Ok.is c.clean_files-session.ensures.recorded

pub returns-in-Ok-clause-counted : goal.returns-in-Ok-clause-counted
returns-in-Ok-clause-counted g c =
    let tells = g.S.Source.tells in
    let left = g.S.Source.left in
    let first = c.args.session in
    let s = c.clean_files-session.result.0 in
    let sources = c.args.sources.now in
    counted_of c.args.workers tells left sources first s _ _ _ (IfOk-at_ok (λ (x : Cleaned). IsCleanedBy c.args.workers tells left sources first s x.infos.items x.choices.items x.metrics) c.in-Ok.is c.clean_files-session.ensures.cleaned)

pub returns-in-Ok-clause-added : goal.returns-in-Ok-clause-added
returns-in-Ok-clause-added g c =
    let tells = g.S.Source.tells in
    let left = g.S.Source.left in
    let first = c.args.session in
    let s = c.clean_files-session.result.0 in
    let sources = c.args.sources.now in
    let grows = c.clean_files-session.ensures.steps in
    added_of c.args.workers tells left sources first s _ _ _ (IfOk-at_ok (λ (x : Cleaned). IsCleanedBy c.args.workers tells left sources first s x.infos.items x.choices.items x.metrics) c.in-Ok.is c.clean_files-session.ensures.cleaned) grows.entries grows.steps

pub returns-in-Err : goal.returns-in-Err
returns-in-Err g c =
    let tells = g.S.Source.tells in
    let left = g.S.Source.left in
    let faults = g.S.Source.faults in
    let old = c.args.sources.now in
    let new = c.clean_files-session.new.sources in
    let first = c.args.session in
    let s = c.clean_files-session.result.0 in
    let cleaning = c.clean_files-session.ensures in
    let reason = IfErr-at_err (Reason tells left faults old new first s) c.in-Err.is cleaning.reason in
    record {
      cleaned = tt;
      planned = tt;
      counted = tt;
      added = tt;
      keeps = cleaning.keeps;
      stop = subst (IsStop (cleaning_causes tells left faults old new first s)) (sym c.from.ensures) (stop_of_reason tells left faults old new first s c.in-Err.error reason);
      sources = cleaning.sources_tell;
      cause = record { later = cleaning.keeps.later; rose = λ is. rose_of_reason tells left faults old new first s c.in-Err.error reason (sym c.from.ensures ∙ cc is) };
    }

pub returns-in-Ok-clause-cause : goal.returns-in-Ok-clause-cause
returns-in-Ok-clause-cause g c = record { later = c.clean_files-session.ensures.keeps.later; rose = λ is. absurd (cc is) }
