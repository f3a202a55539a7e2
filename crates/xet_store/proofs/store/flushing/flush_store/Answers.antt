use Rattle.std.proofs.Common.{◌∙◌, [], map, option_map, refl, ap, subst, sym}
use Rattle.xet_history.specs.History.{flush_entries}
use Rattle.xet_store_disk.specs.Store.{State}
use Rattle.xet_store.specs.Recorded.{core_of, recorded_state}
use Rattle.xet_store.specs.Steps.{Steps}
use Rattle.xet_store.specs.theorems.Changing.{changes_same}
use Rattle.xet_store.proofs.Changing.{changes_unflushed}
use Rattle.xet_store.proofs.Moving.{flush_idle, steps_fault, steps_idle, steps_pushed}
use Rattle.xet_store.proofs.Full.{faults_full}
use Rattle.xet_store.proofs.store.flushing.flush_store.Goals as goal

pub returns-in-Ok-Some-clause-steps : goal.returns-in-Ok-Some-clause-steps
returns-in-Ok-Some-clause-steps g c = λ files.
    steps_pushed (λ g'. g'.value) files c.args.store.now c.flush.new.self c.in-Ok-Some.field-0 c.in-Ok-Some.shard c.in-Ok-Some.field-0-is c.in-Ok-Some.ensures.keeps c.in-Ok-Some.ensures.flushed c.in-Ok-Some.ensures.none
    _ _ _ _ _ _ c.requires.count c.push_reserved.ensures.items (c.of-pending.ensures ∙ c.pending.ensures) (rw c.in-Ok-Some.field-0-is at c.push_reserved-in-Ok-Some.ensures.items)

pub returns-in-Ok-None-clause-steps : goal.returns-in-Ok-None-clause-steps
returns-in-Ok-None-clause-steps g c = λ files.
    let kept = map (option_map (λ g'. g'.value)) c.args.flushed.now.items in
    let before = recorded_state c.args.store.now files kept c.args.history.now.items in
    let none = c.in-Ok-None.ensures.none.0 c.in-Ok-None.field-0-is in
    record {
      steps = subst (λ (s : State). Steps before (recorded_state s files kept c.args.history.now.items) (flush_entries c.args.pass (core_of before))) (sym (c.in-Ok-None.ensures.idle none).1) (steps_idle before c.args.pass none);
      changes = changes_same [] before (recorded_state c.flush.new.self files kept c.args.history.now.items) (flush_entries c.args.pass (core_of before)) (ap (λ (s : State). s.files) (c.in-Ok-None.ensures.idle none).1);
      few = λ some. absurd (some (flush_idle before c.args.pass none));
    }

pub returns-in-Err-clause-fault : goal.returns-in-Err-clause-fault
returns-in-Err-clause-fault g c = λ files.
    let u = c.in-Err.ensures.refused in
    record {
      steps = steps_fault files c.args.store.now c.flush.new.self (map (option_map (λ g'. g'.value)) c.args.flushed.now.items) c.args.history.now.items c.in-Err.ensures.keeps u.pending u.registered u.xorbs u.records c.args.pass c.args.kind c.in-Err.error
          c.note_fault.new.history.items c.note_fault.ensures.noted;
      changes = changes_unflushed _ _ u;
      reason = c.in-Err.ensures.reason;
      full = λ full. let f = c.in-Err.ensures.full full in faults_full files c.args.store.now c.flush.new.self _ _ c.args.pass c.args.kind c.in-Err.error (cc f.0) f.1 c.note_fault.ensures.noted;
    }

pub returns-in-Ok-None-clause-idle : goal.returns-in-Ok-None-clause-idle
returns-in-Ok-None-clause-idle g c = λ none. ((c.in-Ok-None.ensures.idle none).1, refl, refl)

pub returns-in-Ok-Some-clause-idle : goal.returns-in-Ok-Some-clause-idle
returns-in-Ok-Some-clause-idle g c = λ none.
    let bad = sym c.in-Ok-Some.field-0-is ∙ c.in-Ok-Some.ensures.none.1 none in
    absurd (cc bad)

pub returns-in-Err-clause-idle : goal.returns-in-Err-clause-idle
returns-in-Err-clause-idle g c = λ none.
    let bad = (c.in-Err.ensures.idle none).0 in
    absurd (cc bad)
