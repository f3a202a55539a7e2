use Rattle.xet_shard_lookup.proofs.Asking.{no_run_of_none}
use Rattle.std.proofs.Common.{Ok, Option, ap, inl, sym}
use Rattle.xet_shard_lookup.proofs.Asking.{begins_with, found_empty, found_pending, found_registered}
use Rattle.xet_shard.specs.theorems.RunForm.{held_run_form}
use Rattle.xet_shard_lookup.specs.Found.{Run}
use Rattle.xet_shard_lookup.proofs.queries.find_run.Goals as goal

pub returns-in-Some-clause-found : goal.returns-in-Some-clause-found
returns-in-Some-clause-found g c told shards held holds =
    ap (λ (r : Option Run). Ok r) (found_pending (g.D.Disk.files c.args.disk.now) c.args.pending.now shards c.args.query.now c.in-Some.run' (sym c.in-Some.ensures))

pub returns-in-Some-first-clause-found : goal.returns-in-Some-first-clause-found
returns-in-Some-first-clause-found g c told shards held holds =
    let (hs, eq) = begins_with c.args.query.now c.in-Some-first.first.now (sym c.in-Some-first.ensures.value) in
    rw (found_registered (g.D.Disk.files c.args.disk.now) c.args.pending.now shards c.args.query.now c.in-Some-first.first.now hs (sym c.in-None.ensures) eq)
    (c.find_registered.ensures.found told shards held holds)

pub returns-in-None-first-clause-found : goal.returns-in-None-first-clause-found
returns-in-None-first-clause-found g c told shards held holds =
    ap (λ (r : Option Run). Ok r) (found_empty (g.D.Disk.files c.args.disk.now) c.args.pending.now shards c.args.query.now (sym c.in-None-first.ensures.value))

pub returns-in-Some-clause-there : goal.returns-in-Some-clause-there
returns-in-Some-clause-there g c told = inl (sym c.in-Some.ensures)

pub returns-in-Some-first-clause-there : goal.returns-in-Some-first-clause-there
returns-in-Some-first-clause-there g c told = c.find_registered.ensures.there told c.args.pending.now

pub returns-in-Some-clause-empty : goal.returns-in-Some-clause-empty
returns-in-Some-clause-empty g c = λ empty. absurd (no_run_of_none _ c.args.query.now c.in-Some.run' empty c.in-Some.ensures)

pub returns-in-Some-clause-shape : goal.returns-in-Some-clause-shape
returns-in-Some-clause-shape g c = held_run_form c.args.pending.now.blocks c.args.query.now c.in-Some.run' (sym c.in-Some.ensures)
