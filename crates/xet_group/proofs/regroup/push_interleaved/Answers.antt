use Rattle.std.proofs.Common.{arith}
use Rattle.xet_group.proofs.Woven.{all_written, groups-woven, one_more, woven, woven_step}
use Rattle.xet_group.proofs.regroup.push_interleaved.Goals as goal

pub loop-i-preserved : goal.loop-i-preserved
loop-i-preserved c =
    one_more _ _ _ _ _ _ c.in_ok-extend_from_slice.ensures.items (woven_step c.args.first.now c.args.second.now c.args.third.now c.args.fourth.now c.loop-i.i c.loop-i-test.true) c.loop-i.invariant

pub returns : goal.returns
returns c =
    let r = c.requires in
    let whole = woven c.args.first.now c.args.second.now c.args.third.now c.args.fourth.now in (
      whole,
      groups-woven _ _ _ _ (record { third = r.third; second = r.second; first = r.first; near = r.near }),
      all_written _ _ _ _ _ _ _ _ _ c.loop-i.i (omega (arith, c.loop-i.auto.i-end, c.loop-i-test.false)) c.loop-i.invariant
          c.in_ok-extend_from_slice-2.ensures.items c.in_ok-extend_from_slice-3.ensures.items c.in_ok-extend_from_slice-4.ensures.items,
    )
