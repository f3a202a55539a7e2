use Rattle.std.proofs.Common.{arith}
use Rattle.std.proofs.lemmas.List.{take_rest}
use Rattle.xet_shard_index.proofs.Merging.{next_item}
use Rattle.xet_shard_index.proofs.Without.{leave_end, leave_end_other, leave_equal, leave_greater, leave_less}
use Rattle.xet_shard_index.proofs.word_run.add_without.Goals as goal
use Rattle.xet_shard_index.proofs.word_run.add_without.Goals.{then-loop-i-test+else-j-other, else-loop-i-test}

pub loop-i-preserved-in-Less : goal.loop-i-preserved-in-Less
loop-i-preserved-in-Less c = record {
  run_within = omega (arith, c.loop-i-test.true);
  other_within = c.loop-i.invariant.other_within;
  so_far =
      leave_less c.args.run.now c.args.other.now _ _ c.loop-i.i c.loop-i.j c.index-run-i.result c.index-other-j.result c.requires.run c.requires.other
      (next_item _ _ _ c.loop-i-test.true c.index-run-i.is) (next_item _ _ _ c.if-j-other.true c.index-other-j.is)
      _ (rw (c.word.ensures, c.word-in-loop-i.ensures) at c.in-Less.ensures) c.in_ok-push-in-Less.ensures.items c.loop-i.invariant.so_far;
}

pub loop-i-preserved-in-Equal : goal.loop-i-preserved-in-Equal
loop-i-preserved-in-Equal c = record {
  run_within = omega (arith, c.loop-i-test.true);
  other_within = omega (arith, c.if-j-other.true);
  so_far =
      leave_equal c.args.run.now c.args.other.now _ _ c.loop-i.i c.loop-i.j c.index-run-i.result c.index-other-j.result c.requires.run c.requires.other
      (next_item _ _ _ c.loop-i-test.true c.index-run-i.is) (next_item _ _ _ c.if-j-other.true c.index-other-j.is)
      (rw (c.word.ensures, c.word-in-loop-i.ensures) at c.in-Equal.ensures) c.loop-i.invariant.so_far;
}

pub loop-i-preserved : goal.loop-i-preserved
loop-i-preserved c = record {
  run_within = c.loop-i.invariant.run_within;
  other_within = omega (arith, c.if-j-other.true);
  so_far =
      leave_greater c.args.run.now c.args.other.now _ _ c.loop-i.i c.loop-i.j c.index-run-i.result c.index-other-j.result c.requires.run c.requires.other
      (next_item _ _ _ c.loop-i-test.true c.index-run-i.is) (next_item _ _ _ c.if-j-other.true c.index-other-j.is)
      (rw (c.word.ensures, c.word-in-loop-i.ensures) at c.in-Greater.ensures) c.loop-i.invariant.so_far;
}

pub returns : goal.returns
returns c = elim c.loop-i-test.branch [
  | then-loop-i-test+else-j-other w ↦
      rw (c.in_ok-extend_from_slice.ensures.items, take_rest c.args.run.now c.loop-i.i)
      (leave_end_other c.args.run.now c.args.other.now _ _ c.loop-i.i c.loop-i.j w.if-j-other.false c.loop-i.invariant.so_far)
  | else-loop-i-test w ↦
      rw (c.in_ok-extend_from_slice.ensures.items, take_rest c.args.run.now c.loop-i.i)
      (leave_end c.args.run.now c.args.other.now _ _ c.loop-i.i c.loop-i.j w.loop-i-test.false c.loop-i.invariant.so_far)
]
