use Rattle.std.proofs.Common.{ℕ, ◌/◌, ◌^◌, ◌∙◌, ap, arith, replicate, slice_index}
use Rattle.std.proofs.lemmas.Simd.{get_or-replicate, get_or-zip2}
use Rattle.xet_group.proofs.lanes.high_half.Goals as goal

pub returns : goal.returns
returns c l h =
    get_or-zip2 (λ (a b : ℕ). a / 2 ^ b) c.args.pair (replicate 16 4) l 0 0 0 (omega (arith, c.fits-pair.0)) h
    ∙ ap (λ (k : ℕ). slice_index c.args.pair l / 2 ^ k) (get_or-replicate 16 l 4 0 h)
