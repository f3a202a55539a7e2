use Rattle.std.proofs.Common.{◌∙◌, ◌++◌, ◌∷◌, [], ℕ, List, ap, length, sym}
use Rattle.xet_choices.specs.Calls.{Call}
use Rattle.xet_choices.specs.Calls.Call.{Asked as AskedCall}
use Rattle.xet_dedup_tests.specs.Logged.{calls_from}
use Rattle.xet_dedup_tests.proofs.Logs.{asked_one, logged}
use Rattle.xet_dedup_tests.proofs.list_store.ListStore.log_query.Goals as goal

pub returns-clause-logged : goal.returns-clause-logged
returns-clause-logged c =
    let calls = calls_from 0 c.args.self.now.log.items in
    let entry = length c.args.self.now.log.items in
    let stated = c.from_vec.ensures ∙ c.in_ok-hashes.ensures.items ∙ c.logged_hashes.ensures in
    rw c.in_ok-push.ensures.items
    (logged c.args.self.now.log.items _
    ∙ ap (λ (hashes : List (List ℕ)). calls ++ AskedCall entry hashes c.args.reply ∷ []) stated
    ∙ ap (λ (l : List Call). calls ++ l) (sym (asked_one c.args.hashes.now entry c.args.reply c.requires)))
