use Rattle.std.proofs.Common.{◌≡◌}
use Rattle.xet_shard.specs.Held.{nothing}
use Rattle.xet_manager_tests.proofs.tests.filling_tests.fill_ten.Given as goal

-- Nothing is pending between two fills.
abbrev pub invariant-loop-round : goal.invariant-loop-round
invariant-loop-round l = l.manager.pending ≡ nothing
