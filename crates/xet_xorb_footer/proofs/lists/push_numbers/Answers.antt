use Rattle.std.proofs.Common.{arith, rules}
use Rattle.std.specs.Int.{from_le_bytes, w32}
use Rattle.xet_xorb_footer.proofs.Listing.{goes_on, is_done}
use Rattle.xet_xorb_footer.proofs.lists.push_numbers.Goals as goal

pub loop-done-preserved : goal.loop-done-preserved
loop-done-preserved c = record {
  room = omega (arith, c.loop-done.invariant.room, c.split_at.ensures.back_len);
  bound = search rules;
  so_far = goes_on (from_le_bytes w32) 4 c.loop-done.list.items c.push.new.self.items c.args.count c.loop-done._done c.loop-done.rest.now c.split_at.result.1.now c.number_of.result _ c.loop-done-test.true c.split_at.ensures.back c.number_of.ensures.first c.in_ok-push.ensures.items c.loop-done.invariant.so_far;
}

pub returns-clause-items : goal.returns-clause-items
returns-clause-items c = is_done (from_le_bytes w32) 4 c.loop-done.list.items c.args.count c.loop-done._done c.loop-done.rest.now _ c.loop-done-test.false c.loop-done.invariant.so_far
