use Rattle.std.proofs.Common.{◌∙◌, length, refl, sym}
use Rattle.std.proofs.lemmas.Option.{slice_get_read}
use Rattle.xet_dedup_tests.proofs.Listings.{listing-read}
use Rattle.xet_dedup_tests.proofs.finding.index_of.Goals as goal

pub returns-then-eq-clause-some : goal.returns-then-eq-clause-some
returns-then-eq-clause-some c =
    let here = slice_get_read c.args.xorbs.now (length c.args.xorbs.now) c.loop-at.at c.index-xorbs-at.result refl c.loop-at-test.true c.index-xorbs-at.is in
    (c.index-xorbs-at.result, here, sym c.loop-at.invariant ∙ listing-read c.args.xorbs.now c.loop-at.at c.index-xorbs-at.result c.args.hash.now c.loop-at-test.true c.index-xorbs-at.is (sym c.eq.ensures ∙ c.if-eq.true))
