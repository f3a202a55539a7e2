use Rattle.std.proofs.Common.{refl, slice_set}
use Rattle.xet_hash.specs.Blake3.{half_mix}
use Rattle.xet_hash.proofs.Vectors.{lane_set, lane_word}
use Rattle.xet_hash.proofs.lanes.half_mix.Goals as goal

pub returns : goal.returns
unfolding half_mix
returns c j h =
    let v = c.args.v.now in
    let added = slice_set v c.args.a c.added-2.result in
    let rotated = slice_set added c.args.d c.xor_rotated.result in
    let summed = slice_set rotated c.args.c c.added-3.result in
    rw (
      lane_set,
      c.xor_rotated-2.ensures j h,
      lane_word j summed c.args.b,
      lane_word j summed c.args.c,
      lane_set,
      c.added-3.ensures j h,
      lane_word j rotated c.args.c,
      lane_word j rotated c.args.d,
      lane_set,
      c.xor_rotated.ensures j h,
      lane_word j added c.args.d,
      lane_word j added c.args.a,
      lane_set,
      c.added-2.ensures j h,
      c.added.ensures j h,
      lane_word j v c.args.a,
      lane_word j v c.args.b,
    ) refl
