use Rattle.std.proofs.Common.{◌≡◌, None, length}
use Rattle.std.specs.List.{AllByRecursion}
use Rattle.xet_store.proofs.store.opening.none_flushed.Given as goal

abbrev pub invariant-shards : goal.invariant-shards
invariant-shards l = record { count : length l.flushed.items ≡ l.counter; none : AllByRecursion (λ f. f ≡ None) l.flushed.items }
