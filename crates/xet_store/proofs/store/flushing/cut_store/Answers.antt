use Rattle.std.proofs.Common.{◌≡◌, ◌∙◌, [], true, is_ok, refl, rules, sym}
use Rattle.xet_store.proofs.Going.{due_some, goes_cut, goes_uncut}
use Rattle.xet_store.proofs.Moving.{steps_cut, steps_uncut}
use Rattle.xet_store.specs.Recorded.{core_of}
use Rattle.xet_store.proofs.store.flushing.cut_store.Goals as goal

pub returns-then-not-is_due-clause-steps : goal.returns-then-not-is_due-clause-steps
returns-then-not-is_due-clause-steps g c = λ files.
    steps_uncut (λ g'. g'.value) files c.args.store.now c.args.store.now c.args.flushed.now.items c.args.flushed.now.items c.args.history.now.items c.args.history.now.items c.args.pass c.args.bytes
    c.is_due.result c.is_due.ensures c.if-not-is_due.true

pub returns-in-Ok-clause-steps : goal.returns-in-Ok-clause-steps
returns-in-Ok-clause-steps g c = λ files.
    steps_cut (λ g'. g'.value) files c.args.store.now c.flush_store.new.store c.args.flushed.now.items c.flush_store.new.flushed.items c.args.history.now.items c.flush_store.new.history.items c.args.pass c.args.bytes
    c.is_due.result c.is_due.ensures c.if-not-is_due.false (c.in-Ok.ensures.steps files)

pub returns-in-Err-clause-due : goal.returns-in-Err-clause-due
returns-in-Err-clause-due g c = λ core same. sym (c.is_due.ensures core same) ∙ c.if-not-is_due.false

pub returns-then-not-is_due-clause-goes : goal.returns-then-not-is_due-clause-goes
returns-then-not-is_due-clause-goes g c = λ told settled. goes_uncut c.args.store.now c.args.bytes _ (sym (c.is_due.ensures (core_of (record { store = c.args.store.now; shards = []; history = [] })) refl) ∙ c.if-not-is_due.true) settled

pub returns-in-Ok-clause-goes : goal.returns-in-Ok-clause-goes
returns-in-Ok-clause-goes g c = λ told settled.
    let due = sym (c.is_due.ensures (core_of (record { store = c.args.store.now; shards = []; history = [] })) refl) ∙ c.if-not-is_due.false in
    let done : is_ok c.flush_store.result ≡ true = search rules in
    goes_cut c.args.store.now c.args.bytes c.flush_store.new.store.files c.flush_store.result _ due (λ ok. done) (c.flush_store.ensures.goes (due_some c.args.store.now c.args.bytes due) told settled)

pub returns-in-Err-clause-goes : goal.returns-in-Err-clause-goes
returns-in-Err-clause-goes g c = λ told settled.
    let due = sym (c.is_due.ensures (core_of (record { store = c.args.store.now; shards = []; history = [] })) refl) ∙ c.if-not-is_due.false in
    goes_cut c.args.store.now c.args.bytes c.flush_store.new.store.files c.flush_store.result _ due (λ ok. absurd (cc ok)) (c.flush_store.ensures.goes (due_some c.args.store.now c.args.bytes due) told settled)
