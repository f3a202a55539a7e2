use Rattle.std.proofs.Common.{◌∙◌, [], ℕ, List, Option, IfOk, true, sym, subst}
use Rattle.std.proofs.lemmas.Result.{IfErr-weaker, IfOk-weaker, on_err_weaker}
use Rattle.xet_store.specs.Interface.{IsErrorSince}
use Rattle.xet_store.specs.Holders.{Follows, FollowsAsking}
use Rattle.xet_store.specs.theorems.Following.{asking_nothing, asking_then}
use Rattle.xet_clean.specs.Planning.{IsFew, IsFinished, RegistersOnly}
use Rattle.xet_clean.specs.Policies.{sha256_by}
use Rattle.xet_clean.specs.Sources.{IsSourceError, Takes}
use Rattle.xet_clean.specs.theorems.Closing.{error_earlier}
use Rattle.xet_clean.proofs.Reading.{few_nothing, only_nothing, source_error, takes_all, takes_nothing, takes_some}
use Rattle.xet_clean.proofs.sources.clean_source.Goals as goal

pub returns-in-Ok-read_into-clause-finished : goal.returns-in-Ok-read_into-clause-finished
returns-in-Ok-read_into-clause-finished g c =
    let r = c.finish.result in
    let tells = g.R.Source.tells c.args.source.now in
    let left = g.R.Source.left c.args.source.now in
    let rest = g.R.Source.left c.read_into.new.source in
    let now = g.S.Stepping.holder r.0.steps in
    let d = c.read_into.new.cleaner.deduper in
    let read = c.in-Ok-read_into.ensures.cleaning in
    let start = c.read_into.ensures.same.0 ∙ c.in-Ok.ensures.same.1 in
    let id = c.read_into.ensures.same.1 ∙ c.in-Ok.ensures.same.3 in
    let policy = c.args.policy.now in
    let given = c.finish.ensures.finished read.0 read.2 in
    let digest = c.end_by.ensures read.0 read.3 in
    IfOk-weaker r.1 (λ f. IsFinished (g.S.Stepping.holder d.start.value.steps) now d.file_id (sha256_by policy read.0) read.0 f.info f.metrics f.choices f.rest)
    (λ f. (bytes : List ℕ) × Takes true tells left rest bytes × IsFinished (g.S.Stepping.holder c.args.asking.steps) now c.args.number (sha256_by policy bytes) bytes f.info f.metrics f.choices f.rest)
    (λ f is. (
      read.0,
      read.1,
      subst (λ a. IsFinished (g.S.Stepping.holder a.steps) now c.args.number (sha256_by policy read.0) read.0 f.info f.metrics f.choices f.rest) start
          (subst (λ (n : ℕ). IsFinished (g.S.Stepping.holder d.start.value.steps) now n (sha256_by policy read.0) read.0 f.info f.metrics f.choices f.rest) id is),
    ))
    (subst (λ (x : Option (List ℕ)). IfOk r.1 (λ f. IsFinished (g.S.Stepping.holder d.start.value.steps) now d.file_id x read.0 f.info f.metrics f.choices f.rest)) digest given)

pub returns-in-Ok-read_into-clause-few : goal.returns-in-Ok-read_into-clause-few
returns-in-Ok-read_into-clause-few g c =
    let r = c.finish.result in
    let tells = g.R.Source.tells c.args.source.now in
    let left = g.R.Source.left c.args.source.now in
    let rest = g.R.Source.left c.read_into.new.source in
    let now = g.S.Stepping.holder r.0.steps in
    let read = c.in-Ok-read_into.ensures.cleaning in
    let start = c.read_into.ensures.same.0 ∙ c.in-Ok.ensures.same.1 in
    on_err_weaker r.1 (λ few. (read.0, takes_some true tells left rest read.0 read.1, subst (λ a. IsFew (g.S.Stepping.holder a.steps) now read.0) start few)) (c.finish.ensures.few read.0 read.2)

pub returns-in-Ok-read_into-clause-follows : goal.returns-in-Ok-read_into-clause-follows
returns-in-Ok-read_into-clause-follows g c =
    let now = g.S.Stepping.holder c.finish.result.0.steps in
    subst (λ a. FollowsAsking (g.S.Stepping.holder a.steps) now) c.in-Ok.ensures.same.0 (asking_then _ _ _ c.read_into.ensures.follows c.finish.ensures.follows)

pub returns-in-Ok-read_into-clause-refused : goal.returns-in-Ok-read_into-clause-refused
returns-in-Ok-read_into-clause-refused g c =
    let r = c.finish.result in
    let tells = g.R.Source.tells c.args.source.now in
    let left = g.R.Source.left c.args.source.now in
    let before = g.R.Source.faults c.args.source.now in
    let after = g.R.Source.faults c.read_into.new.source in
    let old = g.S.Stepping.holder c.args.asking.steps in
    let mid = g.S.Stepping.holder c.read_into.new.cleaner.deduper.interface.steps in
    let now = g.S.Stepping.holder r.0.steps in
    let f = subst (λ a. Follows (g.S.Stepping.holder a.steps) mid) c.in-Ok.ensures.same.0 c.read_into.ensures.follows.follows in
    IfErr-weaker r.1 (IsErrorSince mid now) (IsSourceError c.args.number tells left before after old now)
    (λ e is. source_error c.args.number tells left before after old now e (error_earlier old mid now f e is)) c.finish.ensures.refused

pub returns-in-Err-clause-few : goal.returns-in-Err-clause-few
returns-in-Err-clause-few g c =
    let old = g.S.Stepping.holder c.args.asking.steps in (
      [],
      takes_nothing (g.R.Source.tells c.args.source.now) (g.R.Source.left c.args.source.now),
      subst (λ a. IsFew old (g.S.Stepping.holder a.steps) []) (sym c.in-Err.ensures.back) (few_nothing old []),
    )

pub returns-in-Err-clause-follows : goal.returns-in-Err-clause-follows
returns-in-Err-clause-follows g c =
    let old = g.S.Stepping.holder c.args.asking.steps in
    subst (λ a. FollowsAsking old (g.S.Stepping.holder a.steps)) (sym c.in-Err.ensures.back) (asking_nothing old)

pub returns-in-Ok-read_into-clause-own : goal.returns-in-Ok-read_into-clause-own
returns-in-Ok-read_into-clause-own g c =
    let r = c.finish.result in
    let tells = g.R.Source.tells c.args.source.now in
    let left = g.R.Source.left c.args.source.now in
    let rest = g.R.Source.left c.read_into.new.source in
    let now = g.S.Stepping.holder r.0.steps in
    let read = c.in-Ok-read_into.ensures.cleaning in
    let start = c.read_into.ensures.same.0 ∙ c.in-Ok.ensures.same.1 in
    on_err_weaker r.1
    (λ own told. subst (RegistersOnly (g.S.Stepping.holder c.args.asking.steps) now) (sym (takes_all tells left rest read.0 read.1 told)) (subst (λ a. RegistersOnly (g.S.Stepping.holder a.steps) now read.0) start own))
    (c.finish.ensures.own read.0 read.2)

pub returns-in-Err-clause-own : goal.returns-in-Err-clause-own
returns-in-Err-clause-own g c =
    let old = g.S.Stepping.holder c.args.asking.steps in
    let left = g.R.Source.left c.args.source.now in
    λ told. subst (λ a. RegistersOnly old (g.S.Stepping.holder a.steps) left) (sym c.in-Err.ensures.back) (only_nothing old left)

pub returns-in-Err-read_into-clause-own : goal.returns-in-Err-read_into-clause-own
returns-in-Err-read_into-clause-own g c =
    let now = g.S.Stepping.holder c.read_into.new.cleaner.deduper.interface.steps in
    let left = g.R.Source.left c.args.source.now in
    let start = c.read_into.ensures.same.0 ∙ c.in-Ok.ensures.same.1 in
    λ told. subst (λ a. RegistersOnly (g.S.Stepping.holder c.args.asking.steps) (g.S.Stepping.holder a.steps) left) (sym c.into_asking.ensures) (subst (λ a. RegistersOnly (g.S.Stepping.holder a.steps) now left) start (c.in-Err-read_into.ensures.own told))
