use Rattle.std.proofs.Common.{false, []}
use Rattle.std.proofs.lemmas.Result.{IfErr-weaker, IfOk-weaker}
use Rattle.xet_clean.specs.Sources.{HasCleaned, IsCutShort, IsLoopError}
use Rattle.xet_clean.specs.declared.policy.Sha256Policy.TheVariants.{Compute}
use Rattle.xet_locked_session.specs.Passing.{passing_of}
use Rattle.xet_workers.specs.Workers.{HasPassed}
use Rattle.xet_workers.proofs.Begun.{IsRefused, MayHavePassed, cleaned_by, err_and, holder_in, refused_by}
use Rattle.xet_workers.proofs.work.clean_whole.Goals as goal

pub returns-clause-cleaned : goal.returns-clause-cleaned
returns-clause-cleaned g c =
    let tells = g.S.Source.tells in let left = g.S.Source.left in let faults = g.S.Source.faults in
    let store = g.J.Naming.store in
    let given = c.args.passing in
    let asked = c.new-asking.result.steps in
    let after = c.clean_each-asking.result.0.steps in
    let now = c.into_steps-passing.result in
    let pass = c.into_pass.result in
    let ss = c.args.sources.now in
    let ts = c.clean_each-asking.new.sources in
    IfOk-weaker c.clean_each-asking.result.1 (λ w. HasCleaned Compute tells left faults ss ts (holder_in asked) (holder_in after) w.cleaned.infos.items w.cleaned.choices.items w.cleaned.metrics w.aggregate)
    (λ w. HasPassed store given.pass.number given.pass pass false × HasCleaned Compute tells left faults ss ts (passing_of given.pass given.pass false) (passing_of given.pass pass false) w.cleaned.infos.items w.cleaned.choices.items w.cleaned.metrics w.aggregate)
    (λ w is.
    cleaned_by store given asked after now pass c.new-asking.ensures.0 c.into_steps-passing.ensures c.into_pass.ensures c.clean_each-asking.ensures.follows c.requires.passing.0 c.requires.passing.1 c.requires.passing.2 c.requires.pass
    c.recall_passing.ensures.passing c.recall_passing.ensures.start c.recall_passing.ensures.pass tells left faults ss ts w.cleaned.infos.items w.cleaned.choices.items w.cleaned.metrics w.aggregate is)
    c.clean_each-asking.ensures.cleaned

pub returns-clause-refused : goal.returns-clause-refused
returns-clause-refused g c =
    let tells = g.S.Source.tells in let left = g.S.Source.left in let faults = g.S.Source.faults in
    let store = g.J.Naming.store in
    let given = c.args.passing in
    let asked = c.new-asking.result.steps in
    let after = c.clean_each-asking.result.0.steps in
    let now = c.into_steps-passing.result in
    let pass = c.into_pass.result in
    let ss = c.args.sources.now in
    let ts = c.clean_each-asking.new.sources in
    IfErr-weaker c.clean_each-asking.result.1
    (λ e. IsLoopError tells left faults ss ts (holder_in asked) (holder_in after) e × IsCutShort [] Compute tells left ss ts (holder_in asked) (holder_in after) e)
    (λ e. MayHavePassed store given.pass pass (IsRefused tells left faults ss ts given.pass pass e))
    (λ e is.
    refused_by store given asked after now pass c.new-asking.ensures.0 c.into_steps-passing.ensures c.into_pass.ensures c.clean_each-asking.ensures.follows c.requires.passing.0 c.requires.passing.1 c.requires.passing.2 c.requires.pass
    c.recall_passing.ensures.passing c.recall_passing.ensures.start c.recall_passing.ensures.pass tells left faults ss ts e is)
    (err_and c.clean_each-asking.result.1 (IsLoopError tells left faults ss ts (holder_in asked) (holder_in after)) (IsCutShort [] Compute tells left ss ts (holder_in asked) (holder_in after)) c.clean_each-asking.ensures.refused
    c.clean_each-asking.ensures.bound)
