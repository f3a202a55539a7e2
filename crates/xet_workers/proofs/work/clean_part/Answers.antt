use Rattle.std.proofs.Common.{◌≡◌, ◌∙◌, IfErr, IfOk, ap, false, subst, sym}
use Rattle.std.proofs.lemmas.Result.{IfErr-at_err}
use Rattle.xet_clean.specs.Sources.{HasCleaned}
use Rattle.xet_clean.specs.declared.policy.Sha256Policy.TheVariants.{Compute}
use Rattle.xet_hash.specs.declared.error.StoreError.{StoreError}
use Rattle.xet_hash.specs.declared.error.StoreError.TheVariants.{OutOfMemory}
use Rattle.xet_locked_session.specs.Passes.{IsPassOf}
use Rattle.xet_locked_session.specs.Passing.{passing_of}
use Rattle.xet_store.specs.Holders.{Holder}
use Rattle.xet_workers.specs.Workers.{HasPassed}
use Rattle.xet_workers.proofs.Begun.{IsRefused, MayHavePassed, memory_before}
use Rattle.xet_workers.proofs.Parts.{later_same, taken_same}
use Rattle.xet_workers.proofs.work.clean_part.Goals as goal

pub clean_whole-requires-clause-passing : goal.clean_whole-requires-clause-passing
clean_whole-requires-clause-passing g c =
    (c.new_stopping-passing.ensures.0 ∙ sym c.new_stopping-passing.ensures.1, c.new_stopping-passing.ensures.2, ap (λ (h : Holder). h.own) c.new_stopping-passing.ensures.1 ∙ c.requires.pass.1)

pub clean_whole-requires-clause-pass : goal.clean_whole-requires-clause-pass
clean_whole-requires-clause-pass g c = subst (IsPassOf g.J.Naming.store) (sym c.new_stopping-passing.ensures.1) c.requires.pass.0

pub returns-in-Ok-clause-cleaned : goal.returns-in-Ok-clause-cleaned
returns-in-Ok-clause-cleaned g c =
    let tells = g.S.Source.tells in let left = g.S.Source.left in let faults = g.S.Source.faults in
    let made = c.clean_whole.result in
    let ss = c.args.sources.now in
    let ts = c.clean_whole.new.sources in
    subst (λ (h : Holder). IfOk made.1 (λ w. HasPassed g.J.Naming.store h.number h made.0 false × HasCleaned Compute tells left faults ss ts (passing_of h h false) (passing_of h made.0 false) w.cleaned.infos.items w.cleaned.choices.items w.cleaned.metrics w.aggregate))
    c.new_stopping-passing.ensures.1 c.clean_whole.ensures.cleaned

pub returns-in-Ok-clause-refused : goal.returns-in-Ok-clause-refused
returns-in-Ok-clause-refused g c =
    let tells = g.S.Source.tells in let left = g.S.Source.left in let faults = g.S.Source.faults in
    let made = c.clean_whole.result in
    let ss = c.args.sources.now in
    let ts = c.clean_whole.new.sources in
    subst (λ (h : Holder). IfErr made.1 (λ e. MayHavePassed g.J.Naming.store h made.0 (IsRefused tells left faults ss ts h made.0 e))) c.new_stopping-passing.ensures.1 c.clean_whole.ensures.refused

pub returns-in-Err-clause-refused : goal.returns-in-Err-clause-refused
returns-in-Err-clause-refused g c =
    memory_before g.S.Source.tells g.S.Source.left g.S.Source.faults c.args.sources.now g.J.Naming.store c.new_stopping-passing.result c.args.pass c.into_pass.result c.new_stopping-passing.ensures.0 c.new_stopping-passing.ensures.1 c.new_stopping-passing.ensures.2 c.into_pass.ensures
    c.requires.pass.0 c.requires.pass.1 c.recall_passing.ensures.passing c.in-Err.error (IfErr-at_err (λ (x : StoreError). x ≡ OutOfMemory) c.in-Err.is c.new-working.ensures.memory)

pub returns-in-Err-clause-taken : goal.returns-in-Err-clause-taken
returns-in-Err-clause-taken g c = taken_same g.S.Source.tells g.S.Source.left g.S.Source.faults c.args.sources.now

pub returns-in-Err-clause-later : goal.returns-in-Err-clause-later
returns-in-Err-clause-later g c = later_same g.S.Source.tells g.S.Source.left g.S.Source.faults c.args.sources.now
