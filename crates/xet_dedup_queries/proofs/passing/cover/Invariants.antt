use Rattle.xet_dedup_queries.specs.Passing.{Covers}
use Rattle.xet_dedup_queries.proofs.passing.cover.Given as goal

abbrev pub invariant-loop-i : goal.invariant-loop-i
invariant-loop-i l = Covers l.start l.i l.initial.places l.places
