use Rattle.std.proofs.Common.{arith}
use Rattle.xet_shard.proofs.ItemLists.{heads_next, heads_none, no_more, one_more}
use Rattle.xet_shard.proofs.reader.lookup_items.heads_in.Goals as goal

pub loop-done-preserved : goal.loop-done-preserved
loop-done-preserved c = record {
  room = omega (arith, c.loop-done.invariant.room, c.split_at.ensures.back_len);
  so_far = one_more c.loop-done.found.items c.push.new.self.items _ _ _ _ c.in_ok-push.ensures.items
      (heads_next c.args.count c.loop-done._done c.loop-done.rest.now c.split_at.result.1.now c.word.result c.half_word.result c.loop-done-test.true c.split_at.ensures.back c.word.ensures c.half_word.ensures) c.loop-done.invariant.so_far;
}

pub returns : goal.returns
returns c = no_more c.loop-done.found.items _ _ (heads_none c.args.count c.loop-done._done c.loop-done.rest.now c.loop-done-test.false) c.loop-done.invariant.so_far
