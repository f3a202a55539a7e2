use Rattle.std.proofs.Common.{◌≡◌, drop}
use Rattle.xet_dedup_tests.specs.Listing.{listing}
use Rattle.xet_dedup_tests.proofs.finding.index_of.Given as goal

abbrev pub invariant-loop-at : goal.invariant-loop-at
invariant-loop-at l = listing (drop l.at l.xorbs) l.hash ≡ listing l.xorbs l.hash
