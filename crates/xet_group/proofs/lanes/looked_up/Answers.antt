use Rattle.std.proofs.Common.{◌≡◌, ◌∙◌, ℕ, ◌+◌, ◌*◌, ◌/◌, ap, get_or, refl, arith, w8}
use Rattle.std.proofs.lemmas.Simd.{Each1-from_get_or, SwzOk-from_below, get_or-swz_l_below}
use Rattle.xet_group.proofs.lanes.looked_up.Goals as goal

pub swizzle : goal.swizzle
swizzle c =
    SwzOk-from_below w8 16 1 16 0 c.args.ones refl (omega (arith, c.fits-ones.0)) (Each1-from_get_or _ _ 0 (λ l h. omega (arith, c.requires l (omega (arith, c.fits-ones.0)))))

pub returns : goal.returns
returns c l h =
    let same : 16 * ((0 + l) / 16) + get_or c.args.ones l 0 ≡ get_or c.args.ones l 0 = omega arith in
    get_or-swz_l_below w8 16 c.args.units 0 c.args.ones l (omega (arith, c.fits-ones.0)) (omega (arith, c.requires l h))
    ∙ ap (λ (k : ℕ). get_or c.args.units k 0) same
