use Rattle.std.proofs.Common.{◌∙◌, ap, false}
use Rattle.std.proofs.lemmas.Result.{IfOk-weaker}
use Rattle.xet_clean.specs.Planning.{IsFinished}
use Rattle.xet_clean.specs.Policies.{sha256_by}
use Rattle.xet_locked_session.specs.Passing.{PassingState, passing_of}
use Rattle.xet_single_file.specs.Single.{SingleFileState}
use Rattle.xet_single_file.proofs.Clauses.{errors_clause, few_ended, finished_clause, follows_clause}
use Rattle.xet_single_file.proofs.single.SingleFileCleaner.finish.Goals as goal

pub finish-asking-requires : goal.finish-asking-requires
finish-asking-requires g c = record { cleaning = (_, (c.self.invariant.1 (ap (λ (s : SingleFileState). s.whole) c.self.view_is ∙ c.requires.whole)).cleaning) }

pub returns-clause-finished : goal.returns-clause-finished
returns-clause-finished g c =
    let new = c.finish-asking.result.0.steps in
    let s = c.args.self in
    let pass = c.into_pass.ensures ∙ ap (λ (p : PassingState). p.pass) c.into_steps.ensures in
    let was = c.self.invariant.1 (ap (λ (x : SingleFileState). x.whole) c.self.view_is ∙ c.requires.whole) in
    IfOk-weaker c.finish-asking.result.1 _ (λ f. IsFinished (passing_of s.start s.start false) (passing_of s.start c.into_pass.result false) s.source (sha256_by s.policy s.bytes) s.bytes f.info f.metrics f.choices f.rest)
    (λ f is.
    finished_clause g.J.Naming.store _ _ new _ _ _ _ _ _ c.self.view_is c.self.invariant.0 c.recall_passing.ensures.start c.recall_passing.ensures.passing c.finish-asking.ensures.follows c.finalize_by.result (c.finalize_by.ensures _ was.hashed) c.into_pass.result pass f.info f.metrics f.choices f.rest is)
    (c.finish-asking.ensures.finished _ was.cleaning)

pub returns-clause-few : goal.returns-clause-few
returns-clause-few g c =
    let new = c.finish-asking.result.0.steps in
    let pass = c.into_pass.ensures ∙ ap (λ (p : PassingState). p.pass) c.into_steps.ensures in
    let was = c.self.invariant.1 (ap (λ (x : SingleFileState). x.whole) c.self.view_is ∙ c.requires.whole) in
    few_ended g.J.Naming.store _ _ new _ _ _ _ _ _ c.self.view_is c.self.invariant.0 c.recall_passing.ensures.start c.recall_passing.ensures.passing c.finish-asking.ensures.follows c.finish-asking.result.1 c.into_pass.result pass (c.finish-asking.ensures.few _ was.cleaning)

pub returns-clause-follows : goal.returns-clause-follows
returns-clause-follows g c =
    let new = c.finish-asking.result.0.steps in
    let pass = c.into_pass.ensures ∙ ap (λ (p : PassingState). p.pass) c.into_steps.ensures in
    follows_clause g.J.Naming.store _ _ new _ _ _ _ _ _ c.self.view_is c.self.invariant.0 c.recall_passing.ensures.start c.recall_passing.ensures.passing c.finish-asking.ensures.follows c.into_pass.result pass

pub returns-clause-refused : goal.returns-clause-refused
returns-clause-refused g c =
    let new = c.finish-asking.result.0.steps in
    let pass = c.into_pass.ensures ∙ ap (λ (p : PassingState). p.pass) c.into_steps.ensures in
    errors_clause g.J.Naming.store _ _ new _ _ _ _ _ _ c.self.view_is c.self.invariant.0 c.recall_passing.ensures.start c.recall_passing.ensures.passing c.finish-asking.ensures.follows c.finish-asking.result.1 c.into_pass.result pass c.finish-asking.ensures.refused
