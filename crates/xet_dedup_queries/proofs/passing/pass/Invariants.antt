use Rattle.std.proofs.Common.{◌≡◌, length, ◌-◌}
use Rattle.xet_dedup_queries.specs.Asking.{AddsQueries}
use Rattle.xet_dedup_queries.specs.Interface.{Extends}
use Rattle.xet_dedup_queries.specs.Passing.{Began, IsPassing}
use Rattle.xet_dedup_queries.proofs.passing.pass.Given as goal

abbrev pub invariant-loop-progress : goal.invariant-loop-progress
invariant-loop-progress g l =
    let I = g.I.DeduplicationDataInterface in
    record {
      passing : (began : Began) → IsPassing (I.lists l.fn.interface) (I.stands l.fn.interface) l.round l.hashes began (I.calls l.fn.interface) (I.acts l.fn.interface) l.initial.places 0 0 0
          → IsPassing (I.lists l.interface) (I.stands l.interface) l.round l.hashes began (I.calls l.interface) (I.acts l.interface) l.places l.progress.at l.progress.chunks l.progress.bytes;
      extends : Extends I.lists I.stands I.refused I.cut_limits l.fn.interface l.interface;
      prefix : AddsQueries (I.calls l.fn.interface) (I.calls l.interface);
      passed : I.failed l.interface ≡ I.failed l.fn.interface;
    }

abbrev pub decreases-loop-progress : goal.decreases-loop-progress
decreases-loop-progress g l = length l.hashes - l.progress.at
