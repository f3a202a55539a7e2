use Rattle.xet_dedup_tests.specs.Filing.{IsFiling}
use Rattle.xet_dedup_tests.proofs.tests.filing.place_all.Given as goal

abbrev pub invariant-loop-part : goal.invariant-loop-part
invariant-loop-part l =
    (goal.iterator-loop-part).can_next l.part-iterator
    × (goal.iterator-loop-part).is_finite l.part-iterator
    × IsFiling l.limits l.deduper.whole l.deduper.start.value l.deduper.interface l.deduper.plan
