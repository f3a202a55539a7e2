use Rattle.std.proofs.Common.{◌∙◌, ap, drop}
use Rattle.xet_shard.specs.Bisection.{passes}
use Rattle.xet_shard.proofs.Bisecting.{passes_first}
use Rattle.xet_shard.proofs.query.bisection.passes_at.Goals as goal

pub returns-clause-told : goal.returns-clause-told
returns-clause-told g c = λ told le.
    c.passes.ensures ∙ ap (passes c.args.probe) (c.in_ok-fill.ensures.told told le) ∙ passes_first c.args.probe (drop c.args.at (g.R.ReadAt.bytes c.args.reader.now))
