use Rattle.std.proofs.Common.{◌∙◌, ◌++◌, ◌∷◌, [], ℕ, List, ap}
use Rattle.xet_choices.specs.Calls.Call.{Registered as RegisteredCall}
use Rattle.xet_dedup_tests.specs.Logged.{calls_from}
use Rattle.xet_dedup_tests.proofs.Logs.{logged}
use Rattle.xet_dedup_tests.proofs.list_store.ListStore.log_registration.Goals as goal

pub returns-clause-logged : goal.returns-clause-logged
returns-clause-logged c =
    let calls = calls_from 0 c.args.self.now.log.items in
    rw c.in_ok-push.ensures.items
    (logged c.args.self.now.log.items _
    ∙ ap (λ (leaves : List (List ℕ × ℕ)). calls ++ RegisteredCall leaves c.from_vec-2.result ∷ []) c.from_vec.ensures
    ∙ ap (λ (next : List (List ℕ × ℕ)). calls ++ RegisteredCall c.args.leaves.items next ∷ []) (c.from_vec-2.ensures ∙ c.in_ok-next.ensures.items))
