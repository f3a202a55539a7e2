use Rattle.std.proofs.Common.{◌∙◌, arith}
use Rattle.xet_codec.specs.Numbers.{number}
use Rattle.xet_base.specs.theorems.Exits.{exit_on}
use Rattle.xet_codec.specs.theorems.Joining.{group_ends, more}
use Rattle.xet_codec.proofs.buffer.Buffer.put_numbers.Goals as goal

pub returns-in_err-put-clause-prefix : goal.returns-in_err-put-clause-prefix
returns-in_err-put-clause-prefix g c = λ told.
    let i = c.loop-number.invariant in
    exit_on _ _ c.from_residual.ensures.1
    (group_ends number _ c.args.list.now c.loop-number.number-index 0 _ c.loop-number-test.true c.to_le_bytes.ensures (i.moved told) (c.in_err-put.ensures.prefix (i.tells ∙ told)))

pub loop-number-preserved : goal.loop-number-preserved
loop-number-preserved g c =
    let i = c.loop-number.invariant in
    record {
      moved = λ told. more number _ c.args.list.now c.loop-number.number-index 0 _ c.loop-number-test.true c.to_le_bytes.ensures (i.moved told) (c.in_ok-put.ensures.moved (i.tells ∙ told));
      tells = c.in_ok-put.ensures.frame.tells ∙ i.tells;
      later = omega (arith, c.in_ok-put.ensures.frame.later, i.later);
    }
