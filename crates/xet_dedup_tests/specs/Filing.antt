-- A file that is being deduplicated against a store in memory.
use Rattle.std.specs.Prelude.{◌≡◌, Bool, true}
use Rattle.xet_cut.specs.declared.limits.LimitSettings.{LimitSettings}
use Rattle.xet_dedup.specs.Deduping.{IsDeduped}
use Rattle.xet_dedup_tests.specs.declared.list_store.ListStore.{ListStore}
use Rattle.xet_dedup_tests.specs.Listing.{listing}
use Rattle.xet_dedup_tests.specs.Logged.{calls_from}
use Rattle.xet_file_plan.specs.Moves.{PlanState}

-- Each batch so far was placed, and the plan is right by the calls of the store since the start.
pub record IsFiling (limits : LimitSettings) (is_whole : Bool) (start store : ListStore) (p : PlanState) : Type 0 where
  pub whole : is_whole ≡ true
  pub settings : p.settings ≡ limits
  pub plan : IsDeduped (listing store.xorbs.items) (λ _ _. Unit {0}) (calls_from 0 start.log.items) (calls_from 0 store.log.items) store.cut_limits p
