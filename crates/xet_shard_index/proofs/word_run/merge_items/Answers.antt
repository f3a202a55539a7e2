use Rattle.std.proofs.Common.{arith}
use Rattle.std.proofs.lemmas.List.{take_rest}
use Rattle.xet_shard_index.proofs.Merging.{merge_both, merge_end, merge_end_older, merge_newer, merge_older, next_item}
use Rattle.xet_shard_index.proofs.word_run.merge_items.Goals as goal
use Rattle.xet_shard_index.proofs.word_run.merge_items.Goals.{then-loop-i-test+else-j-older, else-loop-i-test}

pub loop-i-preserved-in-Less : goal.loop-i-preserved-in-Less
loop-i-preserved-in-Less c = record {
  newer_within = omega (arith, c.loop-i-test.true);
  older_within = c.loop-i.invariant.older_within;
  so_far =
      merge_newer c.args.newer.now c.args.older.now _ _ _ c.loop-i.i c.loop-i.j c.index-newer-i.result c.index-older-j.result c.requires.newer c.requires.older
      (next_item _ _ _ c.loop-i-test.true c.index-newer-i.is) (next_item _ _ _ c.if-j-older.true c.index-older-j.is)
      (rw (c.word.ensures, c.word-in-loop-i.ensures) at c.in-Less.ensures) c.in_ok-push-in-Less.ensures.items c.loop-i.invariant.so_far;
}

pub loop-i-preserved-in-Equal : goal.loop-i-preserved-in-Equal
loop-i-preserved-in-Equal c = record {
  newer_within = omega (arith, c.loop-i-test.true);
  older_within = omega (arith, c.if-j-older.true);
  so_far =
      merge_both c.args.newer.now c.args.older.now _ _ _ c.loop-i.i c.loop-i.j c.index-newer-i.result c.index-older-j.result c.requires.newer c.requires.older
      (next_item _ _ _ c.loop-i-test.true c.index-newer-i.is) (next_item _ _ _ c.if-j-older.true c.index-older-j.is)
      (rw (c.word.ensures, c.word-in-loop-i.ensures) at c.in-Equal.ensures) c.in_ok-push-in-Equal.ensures.items c.loop-i.invariant.so_far;
}

pub loop-i-preserved : goal.loop-i-preserved
loop-i-preserved c = record {
  newer_within = c.loop-i.invariant.newer_within;
  older_within = omega (arith, c.if-j-older.true);
  so_far =
      merge_older c.args.newer.now c.args.older.now _ _ _ c.loop-i.i c.loop-i.j c.index-newer-i.result c.index-older-j.result c.requires.newer c.requires.older
      (next_item _ _ _ c.loop-i-test.true c.index-newer-i.is) (next_item _ _ _ c.if-j-older.true c.index-older-j.is)
      (rw (c.word.ensures, c.word-in-loop-i.ensures) at c.in-Greater.ensures) c.in_ok-push-in-Greater.ensures.items c.loop-i.invariant.so_far;
}

pub returns : goal.returns
returns c = elim c.loop-i-test.branch [
  | then-loop-i-test+else-j-older w ↦
      rw (c.in_ok-extend_from_slice-2.ensures.items, c.in_ok-extend_from_slice.ensures.items, take_rest c.args.newer.now c.loop-i.i, take_rest c.args.older.now c.loop-i.j)
      (merge_end_older c.args.newer.now c.args.older.now _ _ c.loop-i.i c.loop-i.j c.requires.newer w.if-j-older.false c.loop-i.invariant.so_far)
  | else-loop-i-test w ↦
      rw (c.in_ok-extend_from_slice-2.ensures.items, c.in_ok-extend_from_slice.ensures.items, take_rest c.args.newer.now c.loop-i.i, take_rest c.args.older.now c.loop-i.j)
      (merge_end c.args.newer.now c.args.older.now _ _ c.loop-i.i c.loop-i.j c.requires.newer w.loop-i-test.false c.loop-i.invariant.so_far)
]
