use Rattle.std.proofs.Common.{◌∙◌, arith}
use Rattle.xet_base.specs.theorems.Exits.{exit_on}
use Rattle.xet_dedup_queries.specs.theorems.Growing.{extends_more}
use Rattle.xet_dedup_queries.specs.theorems.Queries.{adds_more}
use Rattle.xet_dedup_queries.proofs.passing.pass.Goals as goal

pub returns-in_err-progress-clause-prefix : goal.returns-in_err-progress-clause-prefix
returns-in_err-progress-clause-prefix g c =
    let I = g.I.DeduplicationDataInterface in
    adds_more (I.calls c.args.interface.now) (I.calls c.loop-progress.interface) (I.calls c.next_place.new.interface) c.loop-progress.invariant.prefix c.next_place.ensures.prefix

pub returns-in_err-progress-clause-stopped : goal.returns-in_err-progress-clause-stopped
returns-in_err-progress-clause-stopped g c = λ began begins.
    exit_on _ c.from_residual.result c.from_residual.ensures.1 (c.in_err-progress.ensures.stopped began (c.loop-progress.invariant.passing began begins))

pub loop-progress-preserved : goal.loop-progress-preserved
loop-progress-preserved g c =
    let I = g.I.DeduplicationDataInterface in
    let old = c.args.interface.now in
    record {
      passing = λ began begins. c.in_ok-progress.ensures.passing began (c.loop-progress.invariant.passing began begins);
      extends = extends_more I.lists I.stands I.refused I.cut_limits old c.loop-progress.interface c.next_place.new.interface c.loop-progress.invariant.extends c.next_place.ensures.extends;
      prefix = adds_more (I.calls old) (I.calls c.loop-progress.interface) (I.calls c.next_place.new.interface) c.loop-progress.invariant.prefix c.next_place.ensures.prefix;
      passed = c.in_ok-progress.ensures.passed ∙ c.loop-progress.invariant.passed;
    }

pub returns-clause-ends : goal.returns-clause-ends
returns-clause-ends g c = λ began begins.
    let passing = c.loop-progress.invariant.passing began begins in
    (passing, omega (arith, passing.within))
