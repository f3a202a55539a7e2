use Rattle.std.proofs.Common.{◌≡◌, ℕ, ◌+◌, ◌*◌, ◌%◌, ◌^◌, ◌∙◌, ap, arith}
use Rattle.xet_hash.proofs.Vectors.{below_eight}
use Rattle.xet_hash.proofs.lanes.counters_low.Goals as goal

pub returns : goal.returns
returns c =
    let first : c.args.index ≡ c.args.index + 0 * c.args.apart = omega arith in
    let second : c.args.index + c.args.apart ≡ c.args.index + 1 * c.args.apart = omega arith in
    below_eight _ (c.low.ensures ∙ ap (λ (x : ℕ). x % 2 ^ 32) first) (c.low-2.ensures ∙ ap (λ (x : ℕ). x % 2 ^ 32) second)
    c.low-3.ensures c.low-4.ensures c.low-5.ensures c.low-6.ensures c.low-7.ensures c.low-8.ensures
