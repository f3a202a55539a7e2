-- The calls that a store in memory logged. The history entry of a call is its index in the log.
use Rattle.std.specs.Prelude.{ℕ, suc, List, [], ◌∷◌}
use Rattle.xet_choices.specs.Calls.{Call}
use Rattle.xet_choices.specs.Calls.Call.{Asked as AskedCall, Registered as RegisteredCall}
use Rattle.xet_dedup_tests.specs.declared.list_store.LoggedCall.{LoggedCall}
use Rattle.xet_dedup_tests.specs.declared.list_store.LoggedCall.TheVariants.{Asked, Registered}

-- the call that is logged at an index
abbrev pub call_at : ℕ → LoggedCall → Call
call_at entry (Asked hashes reply) = AskedCall entry hashes reply
call_at entry (Registered leaves next) = RegisteredCall leaves next

-- the calls of a log that begins with this index
abbrev pub calls_from : ℕ → List LoggedCall → List Call
calls_from entry [] = []
calls_from entry (c ∷ cs) = call_at entry c ∷ calls_from (suc entry) cs
