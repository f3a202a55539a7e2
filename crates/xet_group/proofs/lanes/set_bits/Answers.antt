use Rattle.std.proofs.Common.{◌≡◌, ◌∙◌, ℕ, ◌<◌, map, get_or, count_ones, arith, Fits, w8}
use Rattle.std.proofs.lemmas.List.{get_or-map, length-map}
use Rattle.std.proofs.lemmas.Nat.{ones-le}
use Rattle.std.proofs.lemmas.Simd.{Each1-from_get_or, Each1-get_or}
use Rattle.xet_group.proofs.lanes.set_bits.Goals as goal

few : (c : goal.After-row_known-1) (l : ℕ) → l < 16 → count_ones (get_or c.args.block l 0) < 9
few c l h = omega (arith, ones-le 8 (get_or c.args.block l 0) (Each1-get_or (Fits w8) c.args.block l 0 (omega (arith, c.fits-block.0)) c.fits-block.1).fits)

ones : (c : goal.After-row_known-1) (l : ℕ) → l < 16 → get_or (map count_ones c.args.block) l 0 ≡ count_ones (get_or c.args.block l 0)
ones c l h = get_or-map count_ones c.args.block l 0 0 (omega (arith, c.fits-block.0))

pub overflow_cast-result : goal.overflow_cast-result
overflow_cast-result c =
    Each1-from_get_or _ _ 0 (λ l h.
    let low : l < 16 = omega (arith, length-map c.args.block count_ones, c.fits-block.0) in
    record { fits = omega (arith, ones c l low, few c l low) })

pub returns-clause-ones : goal.returns-clause-ones
returns-clause-ones c l h =
    get_or-map (λ (x : ℕ). x) (map count_ones c.args.block) l 0 0 (omega (arith, length-map c.args.block count_ones, c.fits-block.0)) ∙ ones c l h

pub returns-clause-few : goal.returns-clause-few
returns-clause-few c l h = omega (arith, returns-clause-ones c l h, few c l h)
