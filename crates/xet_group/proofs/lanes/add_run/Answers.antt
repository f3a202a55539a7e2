use Rattle.std.proofs.Common.{◌≡◌, ℕ, ◌+◌, ◌*◌, ◌<◌, ◌∷◌, [], arith}
use Rattle.std.proofs.lemmas.List.{take_rest}
use Rattle.xet_group.specs.Histogram.{count_of}
use Rattle.xet_group.specs.internal.Lanes.{lane_count}
use Rattle.xet_group.proofs.Tallies.{below_nine, high_added, low_added}
use Rattle.xet_group.proofs.lanes.add_run.Goals as goal

pub returns : goal.returns
returns c k l hk hl =
    let b = c.args.b.now in
    let done = c.args.done in
    let run = c.args.run in
    let old = λ (q : ℕ) (low : q < 9). c.requires.counted q l low hl in
    let all = take_rest b (16 * done) in
    let more = λ (q : ℕ) (low : q < 5). rw all at (c.pairs_of-pairs.ensures q l low hl) in
    below_nine (λ (q : ℕ). count_of (c.added.result ∷ c.added-2.result ∷ c.added-3.result ∷ c.added-4.result ∷ c.added-5.result ∷ c.added-6.result ∷ c.added-7.result ∷ c.added-8.result ∷ c.added-9.result ∷ []) q l
    ≡ lane_count b l q (done + run))
    (low_added b 0 l done run _ _ _ c.requires.few c.requires.run (rw (c.low_half.ensures l hl) at (c.added.ensures l hl)) (old 0 (omega arith)) (more 0 (omega arith)))
    (high_added b 0 l done run _ _ _ c.requires.few c.requires.run (rw (c.high_half.ensures l hl) at (c.added-2.ensures l hl)) (old 1 (omega arith)) (more 0 (omega arith)))
    (low_added b 1 l done run _ _ _ c.requires.few c.requires.run (rw (c.low_half-2.ensures l hl) at (c.added-3.ensures l hl)) (old 2 (omega arith)) (more 1 (omega arith)))
    (high_added b 1 l done run _ _ _ c.requires.few c.requires.run (rw (c.high_half-2.ensures l hl) at (c.added-4.ensures l hl)) (old 3 (omega arith)) (more 1 (omega arith)))
    (low_added b 2 l done run _ _ _ c.requires.few c.requires.run (rw (c.low_half-3.ensures l hl) at (c.added-5.ensures l hl)) (old 4 (omega arith)) (more 2 (omega arith)))
    (high_added b 2 l done run _ _ _ c.requires.few c.requires.run (rw (c.high_half-3.ensures l hl) at (c.added-6.ensures l hl)) (old 5 (omega arith)) (more 2 (omega arith)))
    (low_added b 3 l done run _ _ _ c.requires.few c.requires.run (rw (c.low_half-4.ensures l hl) at (c.added-7.ensures l hl)) (old 6 (omega arith)) (more 3 (omega arith)))
    (high_added b 3 l done run _ _ _ c.requires.few c.requires.run (rw (c.high_half-4.ensures l hl) at (c.added-8.ensures l hl)) (old 7 (omega arith)) (more 3 (omega arith)))
    (low_added b 4 l done run _ _ _ c.requires.few c.requires.run (rw (c.low_half-5.ensures l hl) at (c.added-9.ensures l hl)) (old 8 (omega arith)) (more 4 (omega arith)))
    k hk
