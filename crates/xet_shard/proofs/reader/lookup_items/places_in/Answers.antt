use Rattle.std.proofs.Common.{◌∙◌, ap, arith}
use Rattle.xet_shard_format.specs.Lookups.{flat_places}
use Rattle.xet_shard.proofs.ItemLists.{no_more, one_more, places_next, places_none}
use Rattle.xet_shard_format.specs.theorems.Places.{flat_push}
use Rattle.xet_shard.proofs.reader.lookup_items.places_in.Goals as goal

pub loop-done-preserved : goal.loop-done-preserved
loop-done-preserved c =
    let found = c.loop-done.found.items in
    record {
      room = omega (arith, c.loop-done.invariant.room, c.split_at.ensures.back_len);
      so_far = one_more (flat_places found) (flat_places c.push.new.self.items) _ _ _ _ (ap flat_places c.in_ok-push.ensures.items ∙ flat_push found (c.word.result, (c.half_word.result, c.half_word-in-loop-done.result)))
          (places_next c.args.count c.loop-done._done c.loop-done.rest.now c.split_at.result.1.now c.word.result c.half_word.result c.half_word-in-loop-done.result c.loop-done-test.true c.split_at.ensures.back c.word.ensures c.half_word.ensures c.half_word-in-loop-done.ensures)
          c.loop-done.invariant.so_far;
    }

pub returns : goal.returns
returns c = no_more (flat_places c.loop-done.found.items) _ _ (places_none c.args.count c.loop-done._done c.loop-done.rest.now c.loop-done-test.false) c.loop-done.invariant.so_far
