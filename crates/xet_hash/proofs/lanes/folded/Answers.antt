use Rattle.std.proofs.Common.{refl}
use Rattle.xet_hash.proofs.Vectors.{words_of_lane}
use Rattle.xet_hash.proofs.lanes.folded.Goals as goal

pub returns : goal.returns
returns c j h =
    rw (
      c.xored.ensures j h,
      c.xored-2.ensures j h,
      c.xored-3.ensures j h,
      c.xored-4.ensures j h,
      c.xored-5.ensures j h,
      c.xored-6.ensures j h,
      c.xored-7.ensures j h,
      c.xored-8.ensures j h,
      words_of_lane j c.args.v.now 16 c.told-v,
    ) refl
