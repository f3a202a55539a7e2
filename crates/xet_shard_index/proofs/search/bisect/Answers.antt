use Rattle.std.proofs.Common.{◌+◌, ◌-◌, ◌/◌, length, sym, arith}
use Rattle.xet_shard_index.proofs.Merging.{cmp_greater, cmp_less}
use Rattle.xet_shard_index.proofs.Searching.{bisected_end, bisected_left, bisected_right, found_at, steps_half}
use Rattle.xet_shard_index.proofs.search.bisect.Goals as goal

pub loop-low-preserved-in-Less : goal.loop-low-preserved-in-Less
loop-low-preserved-in-Less g c =
    let low = c.loop-low.low in
    let high = c.loop-low.high in
    let test = c.loop-low-test.true in
    record {
      bisected =
          bisected_right c.args.run.now c.args.word low high (low + (high - low) / 2) c.requires.rising c.loop-low.invariant.bisected (omega (arith, test)) (omega arith)
          (λ d. cmp_less _ _ (c.in-Less.ensures.order d));
      steps =
          steps_half (length c.args.run.now) c.args.steps.now c.loop-low.steps c.compare.new.steps (high - low) (high - (low + (high - low) / 2 + 1)) c.loop-low.invariant.steps c.compare.ensures.steps
          (omega (arith, test)) (omega (arith, test));
    }

pub returns-in-Equal-clause-place : goal.returns-in-Equal-clause-place
returns-in-Equal-clause-place g c =
    let low = c.loop-low.low in
    let high = c.loop-low.high in
    found_at c.args.run.now (low + (high - low) / 2) c.args.word c.place.result c.requires.rising (omega (arith, c.loop-low-test.true, c.loop-low.invariant.bisected.within)) c.in-Equal.ensures.order c.place.ensures

pub loop-low-preserved : goal.loop-low-preserved
loop-low-preserved g c =
    let low = c.loop-low.low in
    let high = c.loop-low.high in
    let test = c.loop-low-test.true in
    record {
      bisected =
          bisected_left c.args.run.now c.args.word low high (low + (high - low) / 2) c.requires.rising c.loop-low.invariant.bisected (omega (arith, test)) (omega arith)
          (λ d. cmp_greater _ _ (c.in-Greater.ensures.order d));
      steps =
          steps_half (length c.args.run.now) c.args.steps.now c.loop-low.steps c.compare.new.steps (high - low) (low + (high - low) / 2 - low) c.loop-low.invariant.steps c.compare.ensures.steps
          (omega (arith, test)) (omega (arith, test));
    }

pub returns-clause-place : goal.returns-clause-place
returns-clause-place g c = sym (bisected_end c.args.run.now c.args.word c.loop-low.low c.loop-low.high c.loop-low.invariant.bisected c.loop-low-test.false)
