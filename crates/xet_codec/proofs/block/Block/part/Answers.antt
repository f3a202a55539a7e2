use Rattle.std.proofs.Common.{◌≡◌, ◌∙◌, ◌+◌, ◌-◌, List, ap, arith, drop, take, ℕ}
use Rattle.xet_codec.proofs.Blocks.{part_is}
use Rattle.xet_codec.proofs.block.Block.part.Goals as goal

pub returns-clause-value : goal.returns-clause-value
returns-clause-value c = λ bytes is.
    let b = c.args.self.now in
    let n = c.args.count in
    let k : ℕ = c.args.at - b.from in
    let count : k + n - k ≡ n = omega arith in
    ap (λ (m : ℕ). take m (drop k c.deref.result.now)) count ∙ ap (λ (xs : List ℕ). take n (drop k xs)) c.deref.ensures.value ∙ part_is b bytes c.args.at n is c.requires
