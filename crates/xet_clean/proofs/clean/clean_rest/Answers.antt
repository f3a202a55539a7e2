use Rattle.std.proofs.Common.{[], length, refl}
use Rattle.std.proofs.lemmas.Result.{IfErr-at_err, IfOk-at_ok}
use Rattle.xet_clean.specs.Sources.{HasCleaned, IsCutShort}
use Rattle.xet_clean.specs.declared.info.Cleaned.{Cleaned}
use Rattle.xet_clean.specs.declared.working.Working.{Working}
use Rattle.xet_clean.proofs.Looping.{loop_of}
use Rattle.xet_clean.proofs.Turning.{end_ends, end_reads, end_reason, end_short}
use Rattle.xet_clean.proofs.clean.clean_rest.Goals as goal

pub returns-in-Ok-clause-cleaned : goal.returns-in-Ok-clause-cleaned
returns-in-Ok-clause-cleaned g c =
    let tells = g.R.Source.tells in let left = g.R.Source.left in let faults = g.R.Source.faults in
    let start = g.S.Stepping.holder c.args.asking.steps in
    let h = g.S.Stepping.holder c.clean_each-asking.result.0.steps in
    let w = c.in-Ok.working in
    let given =
    IfOk-at_ok (λ (x : Working). HasCleaned c.args.policy.now tells left faults c.args.sources.now c.clean_each-asking.new.sources start h x.cleaned.infos.items x.cleaned.choices.items x.cleaned.metrics x.aggregate) c.in-Ok.is
    c.clean_each-asking.ensures.cleaned in
    let l = loop_of tells left faults c.args.policy.now c.args.sources.now c.clean_each-asking.new.sources start h w.cleaned.infos.items w.cleaned.choices.items w.cleaned.metrics w.aggregate given in
    let last = g.S.Stepping.holder c.end-cleaned.new.steps in
    end_ends tells left faults c.args.policy.now c.args.sources.now c.clean_each-asking.new.sources (length c.args.sources.now) start h w.cleaned.infos.items w.cleaned.choices.items w.cleaned.metrics w.aggregate l last (λ (t : Cleaned). t.infos.items) (λ (t : Cleaned). t.choices.items) (λ (t : Cleaned). t.metrics) c.end-cleaned.result w.cleaned refl refl refl refl c.end-cleaned.ensures.closed

pub returns-in-Ok-clause-read : goal.returns-in-Ok-clause-read
returns-in-Ok-clause-read g c =
    let tells = g.R.Source.tells in let left = g.R.Source.left in let faults = g.R.Source.faults in
    let start = g.S.Stepping.holder c.args.asking.steps in
    let h = g.S.Stepping.holder c.clean_each-asking.result.0.steps in
    let w = c.in-Ok.working in
    let given =
    IfOk-at_ok (λ (x : Working). HasCleaned c.args.policy.now tells left faults c.args.sources.now c.clean_each-asking.new.sources start h x.cleaned.infos.items x.cleaned.choices.items x.cleaned.metrics x.aggregate) c.in-Ok.is
    c.clean_each-asking.ensures.cleaned in
    let l = loop_of tells left faults c.args.policy.now c.args.sources.now c.clean_each-asking.new.sources start h w.cleaned.infos.items w.cleaned.choices.items w.cleaned.metrics w.aggregate given in
    let last = g.S.Stepping.holder c.end-cleaned.new.steps in
    end_reads tells left faults c.args.policy.now c.args.sources.now c.clean_each-asking.new.sources (length c.args.sources.now) start h w.cleaned.infos.items w.cleaned.choices.items w.cleaned.metrics w.aggregate l last c.end-cleaned.result refl

pub returns-in-Ok-clause-bound : goal.returns-in-Ok-clause-bound
returns-in-Ok-clause-bound g c =
    let tells = g.R.Source.tells in let left = g.R.Source.left in let faults = g.R.Source.faults in
    let start = g.S.Stepping.holder c.args.asking.steps in
    let h = g.S.Stepping.holder c.clean_each-asking.result.0.steps in
    let w = c.in-Ok.working in
    let given =
    IfOk-at_ok (λ (x : Working). HasCleaned c.args.policy.now tells left faults c.args.sources.now c.clean_each-asking.new.sources start h x.cleaned.infos.items x.cleaned.choices.items x.cleaned.metrics x.aggregate) c.in-Ok.is
    c.clean_each-asking.ensures.cleaned in
    let l = loop_of tells left faults c.args.policy.now c.args.sources.now c.clean_each-asking.new.sources start h w.cleaned.infos.items w.cleaned.choices.items w.cleaned.metrics w.aggregate given in
    let last = g.S.Stepping.holder c.end-cleaned.new.steps in
    end_short tells left faults c.args.policy.now c.args.sources.now c.clean_each-asking.new.sources (length c.args.sources.now) start h w.cleaned.infos.items w.cleaned.choices.items w.cleaned.metrics w.aggregate l last c.end-cleaned.result c.end-cleaned.ensures.few c.end-cleaned.ensures.refused

pub returns-in-Ok-clause-refused : goal.returns-in-Ok-clause-refused
returns-in-Ok-clause-refused g c =
    let tells = g.R.Source.tells in let left = g.R.Source.left in let faults = g.R.Source.faults in
    let start = g.S.Stepping.holder c.args.asking.steps in
    let h = g.S.Stepping.holder c.clean_each-asking.result.0.steps in
    let w = c.in-Ok.working in
    let given =
    IfOk-at_ok (λ (x : Working). HasCleaned c.args.policy.now tells left faults c.args.sources.now c.clean_each-asking.new.sources start h x.cleaned.infos.items x.cleaned.choices.items x.cleaned.metrics x.aggregate) c.in-Ok.is
    c.clean_each-asking.ensures.cleaned in
    let l = loop_of tells left faults c.args.policy.now c.args.sources.now c.clean_each-asking.new.sources start h w.cleaned.infos.items w.cleaned.choices.items w.cleaned.metrics w.aggregate given in
    let last = g.S.Stepping.holder c.end-cleaned.new.steps in
    end_reason tells left faults c.args.policy.now c.args.sources.now c.clean_each-asking.new.sources (length c.args.sources.now) start h w.cleaned.infos.items w.cleaned.choices.items w.cleaned.metrics w.aggregate l last c.end-cleaned.result c.end-cleaned.ensures.few c.end-cleaned.ensures.refused

pub returns-in-Err-clause-bound : goal.returns-in-Err-clause-bound
returns-in-Err-clause-bound g c =
    let start = g.S.Stepping.holder c.args.asking.steps in
    let h = g.S.Stepping.holder c.clean_each-asking.result.0.steps in
    ([], IfErr-at_err (IsCutShort [] c.args.policy.now g.R.Source.tells g.R.Source.left c.args.sources.now c.clean_each-asking.new.sources start h) c.in-Err.is c.clean_each-asking.ensures.bound)
