use Rattle.std.proofs.Common.{length, refl}
use Rattle.std.proofs.lemmas.Option.{slice_get_read}
use Rattle.xet_dedup_tests.specs.Listing.{listing}
use Rattle.xet_dedup_tests.proofs.finding.find_run.Goals as goal

pub returns-in-Some : goal.returns-in-Some
returns-in-Some c =
    let here = slice_get_read c.args.xorbs.now (length c.args.xorbs.now) c.loop-at.at c.index-xorbs-at.result refl c.loop-at-test.true c.index-xorbs-at.is in
    c.in-Some.ensures (listing c.args.xorbs.now) (c.if-is_first.ensures refl c.index-xorbs-at.result here)
