use Rattle.std.proofs.Common.{inr}
use Rattle.std.proofs.lemmas.Result.{IfErr-weaker}
use Rattle.xet_history.specs.History.{register_cut, register_entries}
use Rattle.xet_history.specs.declared.entry.StepKind.TheVariants.{Register}
use Rattle.xet_store.specs.Recorded.{core_of}
use Rattle.xet_store.specs.Steps.{IsFullError, Refuses}
use Rattle.xet_xorb.specs.Raw.{raw_leaves}
use Rattle.xet_store.proofs.Crashing.{crash_step}
use Rattle.xet_store.proofs.Full.{full_refused, register_begins}
use Rattle.xet_store.proofs.store.Store.register_xorb.Goals as goal

pub returns-clause-crash : goal.returns-clause-crash
returns-clause-crash g c = crash_step c.args.self.now c.register_xorb_by.new.self c.recall_sound.ensures _ _ _ _ c.register_xorb_by.result c.register_xorb_by.ensures.steps c.register_xorb_by.ensures.refused

pub returns-clause-full : goal.returns-clause-full
returns-clause-full g c = λ full due.
    let old = c.args.self.now in
    let new = c.register_xorb_by.new.self in
    let target = old.store.limits.shard_target in
    let leaves = raw_leaves c.args.xorb in
    let next = c.args.next.now in
    full_refused c.register_xorb_by.result old new 0 (register_entries 0 (core_of old) target leaves next) (IsFullError old new) c.recall_invariant.ensures.shards full (register_begins 0 (core_of old) target leaves next due) c.register_xorb_by.ensures.steps
    (IfErr-weaker c.register_xorb_by.result (Refuses 0 Register (register_cut 0 (core_of old) target leaves) old new) (IsFullError old new) (λ e r. r.full full (inr due)) c.register_xorb_by.ensures.refused)
