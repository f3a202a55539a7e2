use Rattle.xet_clean.proofs.Looping.{short_before, stopped_before}
use Rattle.xet_clean.proofs.clean.clean_all.Goals as goal

pub returns-in-Err-clause-follows : goal.returns-in-Err-clause-follows
returns-in-Err-clause-follows g c = (stopped_before g.R.Source.tells g.R.Source.left g.R.Source.faults c.args.policy.now c.args.sources.now (g.S.Stepping.holder c.args.asking.steps)).follows

pub returns-in-Err-clause-bound : goal.returns-in-Err-clause-bound
returns-in-Err-clause-bound g c =
    short_before g.R.Source.tells g.R.Source.left g.R.Source.faults c.args.policy.now c.args.sources.now (g.S.Stepping.holder c.args.asking.steps) c.new.result c.in-Err.error c.in-Err.is c.new.ensures.memory

pub returns-in-Err-clause-sources_taken : goal.returns-in-Err-clause-sources_taken
returns-in-Err-clause-sources_taken g c = (stopped_before g.R.Source.tells g.R.Source.left g.R.Source.faults c.args.policy.now c.args.sources.now (g.S.Stepping.holder c.args.asking.steps)).taken

pub returns-in-Err-clause-sources_later : goal.returns-in-Err-clause-sources_later
returns-in-Err-clause-sources_later g c = (stopped_before g.R.Source.tells g.R.Source.left g.R.Source.faults c.args.policy.now c.args.sources.now (g.S.Stepping.holder c.args.asking.steps)).later
