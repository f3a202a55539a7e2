use Rattle.std.proofs.Common.{refl}
use Rattle.xet_hash.proofs.Vectors.{words_of_lane}
use Rattle.xet_hash.proofs.lanes.lane_value.Goals as goal

pub returns : goal.returns
returns c =
    rw (
      c.lane_word.ensures,
      c.lane_word-2.ensures,
      c.lane_word-3.ensures,
      c.lane_word-4.ensures,
      c.lane_word-5.ensures,
      c.lane_word-6.ensures,
      c.lane_word-7.ensures,
      c.lane_word-8.ensures,
      words_of_lane c.args.j c.args.v.now 8 c.told-v,
    ) refl
