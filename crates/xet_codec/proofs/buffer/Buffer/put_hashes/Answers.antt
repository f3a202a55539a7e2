use Rattle.std.proofs.Common.{◌≡◌, ◌∙◌, List, arith, length, rules, ℕ}
use Rattle.xet_base.specs.theorems.Exits.{exit_on}
use Rattle.xet_codec.specs.theorems.Joining.{group_ends, length_more, more}
use Rattle.xet_codec.proofs.buffer.Buffer.put_hashes.Goals as goal

pub returns-in_err-put-clause-prefix : goal.returns-in_err-put-clause-prefix
returns-in_err-put-clause-prefix g c = λ told.
    let i = c.loop-hash.invariant in
    exit_on _ _ c.from_residual.ensures.1
    (group_ends (λ (h : List ℕ). h) _ c.args.hashes.now c.loop-hash.hash-index c.hash-item.result _ c.loop-hash-test.true (c.as_bytes.ensures ∙ c.hash-item.is) (i.moved told) (c.in_err-put.ensures.prefix (i.tells ∙ told)))

pub loop-hash-preserved : goal.loop-hash-preserved
loop-hash-preserved g c =
    let i = c.loop-hash.invariant in
    let whole : length c.as_bytes.result.now ≡ 32 = search rules in
    record {
      moved = λ told. more (λ (h : List ℕ). h) _ c.args.hashes.now c.loop-hash.hash-index c.hash-item.result _ c.loop-hash-test.true (c.as_bytes.ensures ∙ c.hash-item.is) (i.moved told) (c.in_ok-put.ensures.moved (i.tells ∙ told));
      length = length_more 32 c.args.hashes.now c.loop-hash.hash-index c.hash-item.result c.as_bytes.result.now c.loop-hash-test.true (c.as_bytes.ensures ∙ c.hash-item.is) i.length whole;
      tells = c.in_ok-put.ensures.frame.tells ∙ i.tells;
      later = omega (arith, c.in_ok-put.ensures.frame.later, i.later);
    }
