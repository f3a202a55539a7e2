use Rattle.std.proofs.Common.{◌-◌, ◌∙◌, arith}
use Rattle.xet_shard_index.proofs.Lengths.{length_newer, over_newest, rising_run}
use Rattle.xet_shard_index.proofs.Merging.{rising_over}
use Rattle.xet_shard_index.proofs.insertion.merge_short.Goals as goal

pub loop-kept-preserved : goal.loop-kept-preserved
loop-kept-preserved c =
    let r = c.index-runs-kept-in-loop-kept.result in
    let rising = rw (← c.index-runs-kept-in-loop-kept.is) at (rising_run c.args.runs.now (c.loop-kept.kept - 1) r c.requires.runs (omega (arith, c.loop-kept-test.true, c.loop-kept.invariant.within))) in
    let longer = length_newer c.loop-kept.merged r c.loop-kept.invariant.rising rising in
    record {
      within = omega (arith, c.loop-kept.invariant.within);
      same =
          rw c.in_ok-merged.ensures.items
          (over_newest 0 c.args.runs.now c.loop-kept.kept r c.loop-kept-test.true c.loop-kept.invariant.within c.index-runs-kept-in-loop-kept.is c.loop-kept.merged ∙ c.loop-kept.invariant.same);
      rising = rw c.in_ok-merged.ensures.items (rising_over c.loop-kept.merged r rising);
      some = rw c.in_ok-merged.ensures.items (omega (arith, longer, c.loop-kept.invariant.some));
    }
