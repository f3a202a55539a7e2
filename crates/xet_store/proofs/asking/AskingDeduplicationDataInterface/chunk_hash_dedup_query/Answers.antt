use Rattle.xet_store.specs.declared.asking.Asking.{Asking}
use Rattle.xet_store.proofs.Listing.{extends_by}
use Rattle.xet_store.proofs.Refused.{query_failed, query_kept, query_refused}
use Rattle.xet_store.proofs.Replies.{asked_reply, asking_query, found_reply}
use Rattle.xet_store.proofs.asking.AskingDeduplicationDataInterface.chunk_hash_dedup_query.Goals as goal

pub returns-in-Ok-clause-found : goal.returns-in-Ok-clause-found
returns-in-Ok-clause-found g c = found_reply _ _ _ _ c.in-Ok.ensures.saw _ c.own_run-found.ensures

pub returns-in-Ok-clause-asked : goal.returns-in-Ok-clause-asked
returns-in-Ok-clause-asked g c = asked_reply _ _ _ _ c.in-Ok.ensures.saw _ c.own_run-found.ensures c.recall_invariant.ensures

pub returns-in-Ok-clause-extends : goal.returns-in-Ok-clause-extends
returns-in-Ok-clause-extends g c = extends_by (λ (a : Asking g.row.S.Denot). g.S.Stepping.holder a.steps) _ _ (asking_query _ _ _ _ c.in-Ok.ensures.saw)

pub returns-in-Err-clause-kept : goal.returns-in-Err-clause-kept
returns-in-Err-clause-kept g c = query_kept _ _ _ c.in-Err.ensures.refused

pub returns-in-Err-clause-refused : goal.returns-in-Err-clause-refused
returns-in-Err-clause-refused g c = query_refused _ _ _ c.in-Err.ensures.refused

pub returns-in-Err-clause-extends : goal.returns-in-Err-clause-extends
returns-in-Err-clause-extends g c = extends_by (λ (a : Asking g.row.S.Denot). g.S.Stepping.holder a.steps) _ _ (query_failed _ _ _ c.in-Err.ensures.refused)
