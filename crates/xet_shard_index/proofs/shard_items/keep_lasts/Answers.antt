use Rattle.std.proofs.Common.{◌++◌, sym, ap, ◌∙◌, drop, arith}
use Rattle.xet_shard_index.specs.internal.Items.{lasts}
use Rattle.xet_shard_index.proofs.Merging.{Run, pushed}
use Rattle.xet_shard_index.proofs.Sorting.{item_kept, item_left, last_item, lasts_end}
use Rattle.xet_shard_index.proofs.shard_items.keep_lasts.Goals as goal
use Rattle.xet_shard_index.proofs.shard_items.keep_lasts.Goals.{then-i-items+in_ok-push, then-i-items-via-then-i-items, then-i-items-via-else-i-items+then-items-i, else-i-items+else-items-i}

pub loop-i-preserved : goal.loop-i-preserved
loop-i-preserved c =
    let is = c.args.items.now in
    let i = c.loop-i.i in
    elim c.if-i-items.branch [
      | then-i-items+in_ok-push w ↦ elim w.then-i-items.branch [
        | then-i-items-via-then-i-items v ↦
            rw w.last-is (pushed _ _ (lasts (drop i is)) _ _ _ w.in_ok-push.ensures.items c.loop-i.invariant (last_item is i _ v.if-i-items.true))
        | then-i-items-via-else-i-items+then-items-i v ↦
            rw w.last-is (pushed _ _ (lasts (drop i is)) _ _ _ w.in_ok-push.ensures.items c.loop-i.invariant (item_kept is i _ (omega (arith, c.loop-i-test.true, v.if-i-items.false)) v.if-items-i.true))
      ]
      | else-i-items+else-items-i w ↦
          rw w.last-is (ap (λ (ys : Run). c.loop-i.last.items ++ ys) (sym (item_left is i _ (omega (arith, c.loop-i-test.true, w.if-i-items.false)) w.if-items-i.false)) ∙ c.loop-i.invariant)
    ]

pub returns : goal.returns
returns c = lasts_end c.args.items.now c.loop-i.last.items c.loop-i.i c.loop-i-test.false c.loop-i.invariant
