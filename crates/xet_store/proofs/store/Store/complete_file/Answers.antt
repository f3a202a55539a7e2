use Rattle.std.proofs.Common.{◌⊎◌}
use Rattle.std.proofs.lemmas.Result.{IfErr-weaker}
use Rattle.xet_history.specs.History.{complete_cut, complete_entries}
use Rattle.xet_history.specs.declared.entry.StepKind.TheVariants.{Complete}
use Rattle.xet_store.specs.Recorded.{core_of}
use Rattle.xet_store.specs.Steps.{IsFullError, IsOtherFile, Refuses}
use Rattle.xet_store.proofs.Crashing.{crash_completing}
use Rattle.xet_store.proofs.Full.{complete_begins, full_refused, other_or_full}
use Rattle.xet_store.proofs.store.Store.complete_file.Goals as goal

pub returns-clause-crash : goal.returns-clause-crash
returns-clause-crash g c = crash_completing c.args.self.now c.complete_file_by.new.self c.recall_sound.ensures _ _ _ _ c.args.file c.complete_file_by.result c.complete_file_by.ensures.steps c.complete_file_by.ensures.refused

pub returns-clause-full : goal.returns-clause-full
returns-clause-full g c = λ full due.
    let old = c.args.self.now in
    let new = c.complete_file_by.new.self in
    let file = c.args.file in
    let target = old.store.limits.shard_target in
    full_refused c.complete_file_by.result old new 0 (complete_entries 0 (core_of old) target file) (λ e. IsOtherFile old new file e ⊎ IsFullError old new e) c.recall_invariant.ensures.shards full (complete_begins 0 (core_of old) target file due) c.complete_file_by.ensures.steps
    (IfErr-weaker c.complete_file_by.result (λ e. IsOtherFile old new file e ⊎ Refuses 0 Complete (complete_cut 0 (core_of old) target file) old new e) (λ e. IsOtherFile old new file e ⊎ IsFullError old new e) (λ e r. other_or_full old new file (complete_cut 0 (core_of old) target file) e full due r) c.complete_file_by.ensures.refused)
