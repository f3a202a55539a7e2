use Rattle.std.proofs.Common.{◌∙◌, ap, arith, bit_and, replicate, slice_index}
use Rattle.std.proofs.lemmas.Nat.{and_mask}
use Rattle.std.proofs.lemmas.Simd.{get_or-replicate, get_or-zip2}
use Rattle.xet_group.proofs.lanes.low_half.Goals as goal

pub returns : goal.returns
returns c l h =
    get_or-zip2 bit_and c.args.pair (replicate 16 15) l 0 0 0 (omega (arith, c.fits-pair.0)) h
    ∙ ap (bit_and (slice_index c.args.pair l)) (get_or-replicate 16 l 15 0 h)
    ∙ and_mask (slice_index c.args.pair l) 4
