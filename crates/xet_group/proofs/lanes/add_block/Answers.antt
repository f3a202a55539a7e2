use Rattle.std.proofs.Common.{◌≡◌, ◌∙◌, ℕ, ◌+◌, ◌*◌, ◌<◌, ◌∷◌, [], ap, arith, count_ones, slice_index}
use Rattle.std.proofs.lemmas.Simd.{get_or-chunk}
use Rattle.xet_group.specs.Histogram.{count_of}
use Rattle.xet_group.specs.internal.Lanes.{lane_count}
use Rattle.xet_group.proofs.Tallies.{below_five, pair_next, pair_unit, units_0, units_1, units_2, units_3, units_4}
use Rattle.xet_group.proofs.lanes.add_block.Goals as goal

pub returns : goal.returns
returns c p l hp hl =
    let b = c.args.b.now in
    let i = c.args.i in
    let ones : slice_index c.set_bits-ones.result l ≡ count_ones (slice_index b (16 * i + l)) = c.set_bits-ones.ensures.ones l hl ∙ ap count_ones (get_or-chunk (16 * i) 16 b l 0 hl) in
    let few = c.set_bits-ones.ensures.few l hl in
    let old = λ (q : ℕ) (low : q < 5). c.requires.counted q l low hl in
    below_five (λ (q : ℕ). count_of (c.added.result ∷ c.added-2.result ∷ c.added-3.result ∷ c.added-4.result ∷ c.added-5.result ∷ []) q l ≡ lane_count b l (2 * q) (i + 1) + 16 * lane_count b l (2 * q + 1) (i + 1))
    (pair_next b 0 l i _ _ _ c.requires.few (c.added.ensures l hl) (old 0 (omega arith)) (c.looked_up.ensures l hl ∙ units_0 _ few ∙ ap (pair_unit 0) ones))
    (pair_next b 1 l i _ _ _ c.requires.few (c.added-2.ensures l hl) (old 1 (omega arith)) (c.looked_up-2.ensures l hl ∙ units_1 _ few ∙ ap (pair_unit 1) ones))
    (pair_next b 2 l i _ _ _ c.requires.few (c.added-3.ensures l hl) (old 2 (omega arith)) (c.looked_up-3.ensures l hl ∙ units_2 _ few ∙ ap (pair_unit 2) ones))
    (pair_next b 3 l i _ _ _ c.requires.few (c.added-4.ensures l hl) (old 3 (omega arith)) (c.looked_up-4.ensures l hl ∙ units_3 _ few ∙ ap (pair_unit 3) ones))
    (pair_next b 4 l i _ _ _ c.requires.few (c.added-5.ensures l hl) (old 4 (omega arith)) (c.looked_up-5.ensures l hl ∙ units_4 _ few ∙ ap (pair_unit 4) ones))
    p hp
