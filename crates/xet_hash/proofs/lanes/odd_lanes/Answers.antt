use Rattle.std.proofs.Common.{◌+◌, ◌*◌, refl}
use Rattle.xet_hash.proofs.Vectors.{words_of_lane}
use Rattle.xet_hash.proofs.lanes.odd_lanes.Goals as goal

pub returns : goal.returns
returns c j h =
    rw (
      c.odd.ensures j h,
      c.odd-2.ensures j h,
      c.odd-3.ensures j h,
      c.odd-4.ensures j h,
      c.odd-5.ensures j h,
      c.odd-6.ensures j h,
      c.odd-7.ensures j h,
      c.odd-8.ensures j h,
      words_of_lane (2 * j + 1) c.args.v.now 8 c.told-v,
    ) refl
