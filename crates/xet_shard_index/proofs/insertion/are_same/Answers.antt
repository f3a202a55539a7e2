use Rattle.std.proofs.Common.{◌∙◌, arith, sym}
use Rattle.std.proofs.lemmas.List.{take_all}
use Rattle.xet_shard_index.proofs.insertion.are_same.Goals as goal

pub returns : goal.returns
returns c = λ _.
    sym (take_all c.loop-i.i c.args.a.now c.loop-i-test.false)
    ∙ c.loop-i.invariant
    ∙ take_all c.loop-i.i c.args.b.now (omega (arith, c.if-a-b.false, c.loop-i-test.false))
