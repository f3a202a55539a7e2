use Rattle.std.proofs.Common.{length, refl, arith}
use Rattle.std.proofs.lemmas.Option.{slice_get_read}
use Rattle.xet_dedup_queries.proofs.Changed.{covers_more}
use Rattle.xet_dedup_queries.proofs.passing.cover.Goals as goal

pub loop-i-preserved : goal.loop-i-preserved
loop-i-preserved c =
    let read = slice_get_read c.loop-i.places (length c.loop-i.places) c.loop-i.i c.index-places-i.result refl (omega arith) c.index-places-i.is in
    rw c.covered.ensures (covers_more c.args.start c.loop-i.i c.args.places.now c.loop-i.places c.index-places-i.result (omega arith) read c.loop-i.invariant)
