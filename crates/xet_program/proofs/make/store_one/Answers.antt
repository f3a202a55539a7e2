use Rattle.std.proofs.Common.{◌≡◌, ◌∙◌, ◌∷◌, [], List, ℕ, Err, IfErr, IfOk, IsSome, ap, subst, true}
use Rattle.std.proofs.lemmas.Result.{IfErr-at_err, IfOk-at_ok}
use Rattle.std.specs.List.{AllByRecursion}
use Rattle.xet_clean.specs.declared.info.Cleaned.{Cleaned}
use Rattle.xet_store_disk.specs.Store.{plan_of}
use Rattle.xet_program.specs.declared.ending.Stop.TheVariants as stop
use Rattle.xet_program.specs.internal.Cleaned.{AreCleaned}
use Rattle.xet_program.specs.internal.Made.{AddsXorbs, AreCounted}
use Rattle.xet_program.specs.internal.Stops.{IsStop, cleaning_causes}
use Rattle.xet_program.proofs.Cleaned.{stop_of_files}
use Rattle.xet_program.proofs.MadeFiles.{counted_one, filing_one, planned_one}
use Rattle.xet_program.proofs.Unflushed.{other_one, pends_one}
use Rattle.xet_program.proofs.make.store_one.Goals as goal

pub returns-in-Ok-clause-counts : goal.returns-in-Ok-clause-counts
returns-in-Ok-clause-counts g c =
    let l = c.args.session.store.limits in
    let bytes = c.args.bytes.now in
    let given = subst (λ (b : List ℕ). IfOk c.clean_sources-session.result.1 (λ (x : Cleaned). AreCounted (λ _. true) (λ f. f) l (b ∷ []) x.metrics)) c.new.ensures c.clean_sources-session.ensures.counted in
    counted_one l bytes _ (IfOk-at_ok (λ (x : Cleaned). AreCounted (λ _. true) (λ f. f) l (bytes ∷ []) x.metrics) c.in-Ok.is given)

pub returns-in-Ok-clause-planned : goal.returns-in-Ok-clause-planned
returns-in-Ok-clause-planned g c =
    let first = c.args.session in
    let s = c.clean_sources-session.result.0 in
    let bytes = c.args.bytes.now in
    let given = subst (λ (b : List ℕ). IfOk c.clean_sources-session.result.1 (λ (x : Cleaned). AreCleaned (λ _. true) (λ f. f) (b ∷ []) first s x.infos.items)) c.new.ensures c.clean_sources-session.ensures.cleaned in
    planned_one bytes first s _ (IfOk-at_ok (λ (x : Cleaned). AreCleaned (λ _. true) (λ f. f) (bytes ∷ []) first s x.infos.items) c.in-Ok.is given)
    (IfOk-at_ok (λ (x : Cleaned). AllByRecursion (λ info. IsSome (plan_of s.store.records info.hash)) x.infos.items) c.in-Ok.is c.clean_sources-session.ensures.planned) c.clean_sources-session.ensures.keeps

pub returns-in-Ok-clause-added : goal.returns-in-Ok-clause-added
returns-in-Ok-clause-added g c =
    IfOk-at_ok (λ (x : Cleaned). AddsXorbs x.metrics.new_chunks c.args.session.store c.clean_sources-session.result.0.store) c.in-Ok.is c.clean_sources-session.ensures.added

pub returns-in-Ok-clause-cause : goal.returns-in-Ok-clause-cause
returns-in-Ok-clause-cause g c = record { later = c.clean_sources-session.ensures.keeps.later; rose = λ is. absurd (cc is) }

pub returns-in-Err : goal.returns-in-Err
returns-in-Err g c =
    let first = c.args.session in
    let s = c.clean_sources-session.result.0 in
    let bytes = c.args.bytes.now in
    let after = c.clean_sources-session.new.sources in
    let causes = cleaning_causes (λ (f : List ℕ). true) (λ f. f) (λ f. 0) (bytes ∷ []) after first s in
    let given = subst (λ (b : List ℕ). IfErr c.clean_sources-session.result.1 (IsStop (cleaning_causes (λ (f : List ℕ). true) (λ f. f) (λ f. 0) (b ∷ []) after first s))) c.new.ensures c.clean_sources-session.ensures.stop in
    let stopped : IsStop causes c.in-Err.stop = IfErr-at_err (IsStop causes) c.in-Err.is given in
    let cause = c.clean_sources-session.ensures.cause in
    record {
      counts = tt;
      planned = tt;
      added = tt;
      other = λ told. tt;
      pends = tt;
      keeps = c.clean_sources-session.ensures.keeps;
      stop = filing_one first s bytes c.in-Err.stop c.requires.short (stop_of_files (record { files = bytes ∷ []; ranges = [] }) after first s c.in-Err.stop stopped);
      cause = record { later = cause.later; rose = λ is. let disk : c.in-Err.stop ≡ stop.Disk = cc is in cause.rose (c.in-Err.is ∙ ap Err disk) };
    }

pub returns-in-Ok-clause-other : goal.returns-in-Ok-clause-other
returns-in-Ok-clause-other g c = λ told.
    let first = c.args.session in
    let s = c.clean_sources-session.result.0 in
    let bytes = c.args.bytes.now in
    let given = subst (λ (b : List ℕ). IfOk c.clean_sources-session.result.1 (λ (x : Cleaned). AreCleaned (λ _. true) (λ f. f) (b ∷ []) first s x.infos.items)) c.new.ensures c.clean_sources-session.ensures.cleaned in
    other_one bytes first s _ (IfOk-at_ok (λ (x : Cleaned). AreCleaned (λ _. true) (λ f. f) (bytes ∷ []) first s x.infos.items) c.in-Ok.is given) c.requires.room c.requires.folder told

pub returns-in-Ok-clause-pends : goal.returns-in-Ok-clause-pends
returns-in-Ok-clause-pends g c =
    let first = c.args.session in
    let s = c.clean_sources-session.result.0 in
    let bytes = c.args.bytes.now in
    let given = subst (λ (b : List ℕ). IfOk c.clean_sources-session.result.1 (λ (x : Cleaned). AreCleaned (λ _. true) (λ f. f) (b ∷ []) first s x.infos.items)) c.new.ensures c.clean_sources-session.ensures.cleaned in
    pends_one bytes first s _ (IfOk-at_ok (λ (x : Cleaned). AreCleaned (λ _. true) (λ f. f) (bytes ∷ []) first s x.infos.items) c.in-Ok.is given) c.requires.room
