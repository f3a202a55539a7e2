use Rattle.std.proofs.Common.{◌+◌, ◌*◌, length, arith}
use Rattle.xet_store.specs.theorems.Following.{follows_nothing}
use Rattle.xet_clean.specs.theorems.Counting.{at_most_more, at_most_nothing}
use Rattle.xet_clean.proofs.sources.keep.Goals as goal

pub returns-in-Err-clause-follows : goal.returns-in-Err-clause-follows
returns-in-Err-clause-follows g c = follows_nothing (g.S.Stepping.holder c.args.steps.now)

pub returns-in-Err-clause-few : goal.returns-in-Err-clause-few
returns-in-Err-clause-few g c =
    let a = c.args.working.now.aggregate in
    let h = g.S.Stepping.holder c.args.steps.now in
    at_most_more 0 (2 * length a.chunks + 2 * length a.files) h h (omega arith) (at_most_nothing h)
