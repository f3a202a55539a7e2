use Rattle.std.proofs.Common.{◌≡◌, ℕ, IfOk, sym, subst}
use Rattle.std.proofs.lemmas.Result.{IfErr-weaker}
use Rattle.xet_hash.specs.declared.error.StoreError.{StoreError}
use Rattle.xet_hash.specs.declared.error.StoreError.TheVariants.{OutOfMemory}
use Rattle.xet_store.specs.Interface.{IsErrorSince}
use Rattle.xet_store.specs.Holders.{FollowsAsking}
use Rattle.xet_clean.specs.Planning.{IsFew, IsFinished, RegistersOnly}
use Rattle.xet_clean.proofs.Cleaning.{cleaning_bytes, on_err}
use Rattle.xet_clean.proofs.Finishing.{planned_few, planned_only}
use Rattle.xet_clean.proofs.cleaner.FileCleaner.finish.Goals as goal

pub place_last-requires : goal.place_last-requires
place_last-requires g c = record { cleaning = (c.requires.cleaning.0, cleaning_bytes _ _ _ _ _ _ _ _ c.requires.cleaning.1) }

pub finished-requires : goal.finished-requires
finished-requires g c =
    let bytes = c.requires.cleaning.0 in
    let is = c.requires.cleaning.1 in
    record {
      whole = c.in-Ok.ensures.whole;
      planned = (
        bytes,
        is.counted,
        c.in-Ok.ensures.planned bytes (cleaning_bytes _ _ _ _ _ _ _ _ is),
      );
    }

pub returns-in-Ok-clause-finished : goal.returns-in-Ok-clause-finished
returns-in-Ok-clause-finished g c = λ bytes is.
    let d = c.args.self.deduper in
    let e = c.place_last.new.deduper in
    let r = c.finished.result in
    let same = c.place_last.ensures.same in
    subst (λ a. IfOk r.1 (λ f. IsFinished (g.S.Stepping.holder a.steps) (g.S.Stepping.holder r.0.steps) d.file_id c.args.sha256 bytes f.info f.metrics f.choices f.rest)) same.0
    (subst (λ (n : ℕ). IfOk r.1 (λ f. IsFinished (g.S.Stepping.holder e.start.value.steps) (g.S.Stepping.holder r.0.steps) n c.args.sha256 bytes f.info f.metrics f.choices f.rest)) same.1
    (c.finished.ensures.finished bytes is.counted (c.in-Ok.ensures.planned bytes (cleaning_bytes _ _ _ _ _ _ _ _ is))))

pub returns-in-Ok-clause-few : goal.returns-in-Ok-clause-few
returns-in-Ok-clause-few g c = λ bytes is.
    let d = c.args.self.deduper in
    let e = c.place_last.new.deduper in
    on_err c.finished.result.1
    (subst (λ a. IsFew (g.S.Stepping.holder d.start.value.steps) (g.S.Stepping.holder a.steps) bytes) (sym c.finished.ensures.same)
    (subst (λ a. IsFew (g.S.Stepping.holder a.steps) (g.S.Stepping.holder e.interface.steps) bytes) c.place_last.ensures.same.0
    (planned_few _ _ _ _ (c.in-Ok.ensures.planned bytes (cleaning_bytes _ _ _ _ _ _ _ _ is)))))

pub returns-in-Ok-clause-follows : goal.returns-in-Ok-clause-follows
returns-in-Ok-clause-follows g c =
    subst (λ a. FollowsAsking (g.S.Stepping.holder c.args.self.deduper.interface.steps) (g.S.Stepping.holder a.steps)) (sym c.finished.ensures.same) c.place_last.ensures.follows

pub returns-in-Ok-clause-refused : goal.returns-in-Ok-clause-refused
returns-in-Ok-clause-refused g c =
    let old = g.S.Stepping.holder c.args.self.deduper.interface.steps in
    let new = g.S.Stepping.holder c.finished.result.0.steps in
    IfErr-weaker c.finished.result.1 (λ (e : StoreError). e ≡ OutOfMemory) (IsErrorSince old new) (λ e is. subst (IsErrorSince old new) (sym is) tt) c.finished.ensures.memory

pub returns-clause-few : goal.returns-clause-few
returns-clause-few g c = λ bytes is.
    let d = c.args.self.deduper in
    let e = c.place_last.new.deduper in
    subst (λ a. IsFew (g.S.Stepping.holder d.start.value.steps) (g.S.Stepping.holder a.steps) bytes) (sym c.into_interface.ensures)
    (subst (λ a. IsFew (g.S.Stepping.holder a.steps) (g.S.Stepping.holder e.interface.steps) bytes) c.place_last.ensures.same.0
    (c.in-Err.ensures.few bytes (cleaning_bytes _ _ _ _ _ _ _ _ is)))

pub returns-clause-follows : goal.returns-clause-follows
returns-clause-follows g c =
    subst (λ a. FollowsAsking (g.S.Stepping.holder c.args.self.deduper.interface.steps) (g.S.Stepping.holder a.steps)) (sym c.into_interface.ensures) c.place_last.ensures.follows

pub returns-clause-refused : goal.returns-clause-refused
returns-clause-refused g c =
    subst (λ a. IsErrorSince (g.S.Stepping.holder c.args.self.deduper.interface.steps) (g.S.Stepping.holder a.steps) c.in-Err.error) (sym c.into_interface.ensures) c.in-Err.ensures.refused

pub returns-in-Ok-clause-own : goal.returns-in-Ok-clause-own
returns-in-Ok-clause-own g c = λ bytes is.
    let d = c.args.self.deduper in
    let e = c.place_last.new.deduper in
    on_err c.finished.result.1
    (subst (λ a. RegistersOnly (g.S.Stepping.holder d.start.value.steps) (g.S.Stepping.holder a.steps) bytes) (sym c.finished.ensures.same)
    (subst (λ a. RegistersOnly (g.S.Stepping.holder a.steps) (g.S.Stepping.holder e.interface.steps) bytes) c.place_last.ensures.same.0
    (planned_only _ _ _ _ (c.in-Ok.ensures.planned bytes (cleaning_bytes _ _ _ _ _ _ _ _ is)))))

pub returns-clause-own : goal.returns-clause-own
returns-clause-own g c = λ bytes is.
    let d = c.args.self.deduper in
    let e = c.place_last.new.deduper in
    subst (λ a. RegistersOnly (g.S.Stepping.holder d.start.value.steps) (g.S.Stepping.holder a.steps) bytes) (sym c.into_interface.ensures)
    (subst (λ a. RegistersOnly (g.S.Stepping.holder a.steps) (g.S.Stepping.holder e.interface.steps) bytes) c.place_last.ensures.same.0
    (c.in-Err.ensures.own bytes (cleaning_bytes _ _ _ _ _ _ _ _ is)))
