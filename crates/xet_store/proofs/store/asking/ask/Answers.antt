use Rattle.std.proofs.Common.{◌∙◌, sym}
use Rattle.xet_store.proofs.Answering.{has_unchanged}
use Rattle.xet_store.proofs.Querying.{fails_all, finds_all, finds_pending, finds_usable, same_count, unchanged_then}
use Rattle.xet_store.proofs.store.asking.ask.Goals as goal

pub returns-in-Ok-clause-found : goal.returns-in-Ok-clause-found
returns-in-Ok-clause-found g c =
    finds_all _ c.register_rest.new.store c.in-Ok.ensures.unchanged c.register_rest.new.registry c.args.hashes.now c.find_run.result c.in-Ok.ensures.registry
    (c.in-Ok.ensures.all ∙ sym (same_count _ _ c.in-Ok.ensures.unchanged)) c.find_run.ensures.found

pub returns-in-Ok-clause-pending : goal.returns-in-Ok-clause-pending
returns-in-Ok-clause-pending g c = finds_pending _ _ c.in-Ok.ensures.unchanged c.args.hashes.now c.find_run.result c.find_run.new.self c.find_run.ensures.pending

pub returns-in-Ok-clause-lies : goal.returns-in-Ok-clause-lies
returns-in-Ok-clause-lies g c = finds_usable _ _ c.in-Ok.ensures.unchanged c.args.hashes.now c.find_run.result c.find_run.ensures.lies

pub returns-in-Ok-clause-refused : goal.returns-in-Ok-clause-refused
returns-in-Ok-clause-refused g c = fails_all _ _ c.in-Ok.ensures.unchanged c.register_rest.new.registry _ c.find_run.result c.in-Ok.ensures.registry c.find_run.ensures.refused

pub returns-in-Ok-clause-unchanged : goal.returns-in-Ok-clause-unchanged
returns-in-Ok-clause-unchanged g c = unchanged_then _ _ _ c.in-Ok.ensures.unchanged c.find_run.ensures.unchanged

pub returns-in-Ok-clause-registry : goal.returns-in-Ok-clause-registry
returns-in-Ok-clause-registry g c = has_unchanged _ _ _ c.find_run.ensures.unchanged c.in-Ok.ensures.registry
