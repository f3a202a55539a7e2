use Rattle.std.proofs.Common.{◌∙◌, bit_or, refl}
use Rattle.std.proofs.lemmas.Simd.{get_or-replicate}
use Rattle.std.specs.Int.Bits.{or_zero_r}
use Rattle.xet_hash.proofs.Vectors.{words_of_lane}
use Rattle.xet_hash.specs.Blake3.{parent_node}
use Rattle.xet_hash.proofs.lanes.parent_lanes.Goals as goal

pub returns : goal.returns
returns c j h =
    c.compress.ensures j 0 h (get_or-replicate 8 j 0 0 h) (get_or-replicate 8 j 0 0 h)
    ∙ rw (
      c.spread-h.ensures j h,
      words_of_lane j c.args.left.now 8 c.told-left,
      words_of_lane j c.args.right.now 8 c.told-right,
      or_zero_r (bit_or c.args.flags parent_node),
    ) refl
