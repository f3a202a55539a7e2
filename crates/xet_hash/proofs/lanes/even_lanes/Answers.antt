use Rattle.std.proofs.Common.{◌*◌, refl}
use Rattle.xet_hash.proofs.Vectors.{words_of_lane}
use Rattle.xet_hash.proofs.lanes.even_lanes.Goals as goal

pub returns : goal.returns
returns c j h =
    rw (
      c.even.ensures j h,
      c.even-2.ensures j h,
      c.even-3.ensures j h,
      c.even-4.ensures j h,
      c.even-5.ensures j h,
      c.even-6.ensures j h,
      c.even-7.ensures j h,
      c.even-8.ensures j h,
      words_of_lane (2 * j) c.args.v.now 8 c.told-v,
    ) refl
