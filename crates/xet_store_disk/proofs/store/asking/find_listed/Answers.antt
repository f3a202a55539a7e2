use Rattle.std.proofs.Common.{◌∙◌, Some, subst, sym}
use Rattle.xet_hash.specs.declared.error.StoreError.{StoreError}
use Rattle.xet_shard_lookup.specs.Found.{found}
use Rattle.xet_store_disk.specs.Asking.{IsAskingError}
use Rattle.xet_store_disk.specs.internal.Asking.{IsPlainRun}
use Rattle.xet_store_disk.proofs.Asking.{if_err_then, query_refused, unlisted_hidden}
use Rattle.xet_store_disk.proofs.Runs.{found_run_is, given_is, listed_is, run_found_is, same_then}
use Rattle.xet_store_disk.proofs.store.asking.find_listed.Goals as goal

pub returns-in-Ok-None-clause-found : goal.returns-in-Ok-None-clause-found
returns-in-Ok-None-clause-found g c = λ told shards is holds. sym c.in-Ok-None.field-0-is ∙ given_is _ _ (c.in-Ok-None.ensures.found told shards is holds)

pub returns-in-Ok-Some-clause-found : goal.returns-in-Ok-Some-clause-found
returns-in-Ok-Some-clause-found g c = λ told shards is holds. same_then c.if_usable.result _ _ (sym c.in-Ok-Some.field-0-is ∙ given_is _ _ (c.in-Ok-Some.ensures.found told shards is holds)) c.if_usable.ensures.same

pub returns-in-Ok-Some-clause-empty : goal.returns-in-Ok-Some-clause-empty
returns-in-Ok-Some-clause-empty g c = λ none. absurd (cc (c.in-Ok-Some.ensures.empty none).0)

pub returns-in-Ok-Some-clause-pending : goal.returns-in-Ok-Some-clause-pending
returns-in-Ok-Some-clause-pending g c = λ run held lies.
    let e = c.in-Ok-Some.ensures.pending run held in
    (listed_is c.if_usable.result (c.in-Ok-Some.count, c.in-Ok-Some.segment) run (IsPlainRun c.args.xorbs.now.entries c.args.query.now) (found_run_is _ _ c.in-Ok-Some.field-0-is e.0) c.if_usable.ensures.same c.if_usable.ensures.refused lies, e.1)

pub returns-in-Ok-Some-clause-refused : goal.returns-in-Ok-Some-clause-refused
returns-in-Ok-Some-clause-refused g c = λ shards is finds.
    let tells = g.D.Disk.tells c.args.disk.now in
    if_err_then c.if_usable.result (λ e r. subst (λ (x : StoreError). IsAskingError tells (g.D.Disk.faults c.args.disk.now) (g.D.Disk.faults c.find_run.new.disk) x) (sym r.0)
    (unlisted_hidden tells (c.in-Ok-Some.count, c.in-Ok-Some.segment) (IsPlainRun c.args.xorbs.now.entries c.args.query.now) (found (g.D.Disk.files c.args.disk.now) c.args.pending.now shards c.args.query.now) (λ told. (finds told).lies)
    (λ told. run_found_is _ _ _ c.in-Ok-Some.field-0-is (c.in-Ok-Some.ensures.found told shards is (finds told).holds)) r.1)) c.if_usable.ensures.refused

pub returns-in-Err-clause-empty : goal.returns-in-Err-clause-empty
returns-in-Err-clause-empty g c = λ none. absurd (cc (c.in-Err.ensures.empty none).0)

pub returns-in-Err-clause-pending : goal.returns-in-Err-clause-pending
returns-in-Err-clause-pending g c = λ run held lies. absurd (cc (c.in-Err.ensures.pending run held).0)

pub returns-in-Err-clause-refused : goal.returns-in-Err-clause-refused
returns-in-Err-clause-refused g c = λ shards is finds.
    let tells = g.D.Disk.tells c.args.disk.now in
    subst (λ (x : StoreError). IsAskingError tells (g.D.Disk.faults c.args.disk.now) (g.D.Disk.faults c.find_run.new.disk) x) (sym c.asking_error.ensures)
    (query_refused tells (g.D.Disk.faults c.args.disk.now) (g.D.Disk.faults c.find_run.new.disk) (found (g.D.Disk.files c.args.disk.now) c.args.pending.now shards c.args.query.now) c.in-Err.error
    (λ told. c.in-Err.ensures.found told shards is (finds told).holds) c.in-Err.ensures.reason)
