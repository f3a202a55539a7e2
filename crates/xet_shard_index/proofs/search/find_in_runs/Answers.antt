use Rattle.std.proofs.Common.{◌-◌, ◌<◌, length, sym, arith}
use Rattle.xet_shard_index.proofs.Lengths.{digits_run, few_runs, found_here, not_here, rising_run, steps_all, steps_run}
use Rattle.xet_shard_index.proofs.search.find_in_runs.Goals as goal

pub find_in_run-found-requires : goal.find_in_run-found-requires
find_in_run-found-requires g c = rw c.index-runs-left.is (rising_run c.args.runs.now _ _ c.requires (omega (arith, c.loop-left-test.true, c.loop-left.invariant.within)))

pub returns-then-is_some-clause-place : goal.returns-then-is_some-clause-place
returns-then-is_some-clause-place g c =
    found_here c.args.word c.args.runs.now c.loop-left.left c.index-runs-left.result c.loop-left-test.true c.loop-left.invariant.within c.index-runs-left.is
    c.find_in_run-found.result c.find_in_run-found.ensures.place (sym c.if-is_some.ensures) c.loop-left.invariant.same

pub returns-then-is_some-clause-steps : goal.returns-then-is_some-clause-steps
returns-then-is_some-clause-steps g c b low =
    let inside : c.loop-left.left - 1 < length c.args.runs.now = omega (arith, c.loop-left-test.true, c.loop-left.invariant.within) in
    let few = few_runs c.args.runs.now b c.requires low in
    let run = c.find_in_run-found.ensures.steps (b - (c.loop-left.left - 1)) (digits_run c.args.runs.now (c.loop-left.left - 1) b c.index-runs-left.result c.requires inside c.index-runs-left.is low) in
    let next =
    steps_run b c.loop-left.left c.args.steps.now c.loop-left.steps c.find_in_run-found.new.steps c.loop-left-test.true (omega (arith, few, c.loop-left.invariant.within)) run
    (c.loop-left.invariant.steps b low) in
    steps_all b (c.loop-left.left - 1) c.find_in_run-found.new.steps c.args.steps.now next

pub loop-left-preserved : goal.loop-left-preserved
loop-left-preserved g c = record {
  within = omega (arith, c.loop-left.invariant.within);
  same =
      not_here c.args.word c.args.runs.now c.loop-left.left c.index-runs-left.result c.loop-left-test.true c.loop-left.invariant.within c.index-runs-left.is
      c.find_in_run-found.result c.find_in_run-found.ensures.place (sym c.if-is_some.ensures) c.loop-left.invariant.same;
  steps =
      λ b low.
      let inside : c.loop-left.left - 1 < length c.args.runs.now = omega (arith, c.loop-left-test.true, c.loop-left.invariant.within) in
      let few = few_runs c.args.runs.now b c.requires low in
      let run = c.find_in_run-found.ensures.steps (b - (c.loop-left.left - 1)) (digits_run c.args.runs.now (c.loop-left.left - 1) b c.index-runs-left.result c.requires inside c.index-runs-left.is low) in
      steps_run b c.loop-left.left c.args.steps.now c.loop-left.steps c.find_in_run-found.new.steps c.loop-left-test.true (omega (arith, few, c.loop-left.invariant.within)) run
      (c.loop-left.invariant.steps b low);
}

pub returns-clause-steps : goal.returns-clause-steps
returns-clause-steps g c b low = steps_all b c.loop-left.left c.loop-left.steps c.args.steps.now (c.loop-left.invariant.steps b low)
