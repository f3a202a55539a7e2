use Rattle.std.proofs.Common.{List, Result, string_bytes, subst, ℕ}
use Rattle.std.proofs.lemmas.Result.{IfOk-weaker, on_err_weaker}
use Rattle.std.specs.Prelude.{OnErr}
use Rattle.xet_hash.specs.declared.error.StoreError.{StoreError}
use Rattle.xet_shard_directory.specs.Answers.{GivesUnlessDisk}
use Rattle.xet_shard_directory.specs.Writing.{MayAddShard}
use Rattle.xet_shard_flush.specs.Importing.{Imports, KeepsFiles, flush_check, flushed_bytes}
use Rattle.xet_shard_flush.proofs.Registered.{imports_over, same_check}
use Rattle.xet_shard_flush.proofs.flush.flush_prepared.Goals as goal

pub returns-in-Ok-clause-flushed : goal.returns-in-Ok-clause-flushed
returns-in-Ok-clause-flushed g c =
    let files = g.D.Disk.files in
    let tells = g.D.Disk.tells c.args.disk.now in
    let due = c.in-Ok.ensures.due in
    let bytes = flushed_bytes c.args.pending.now c.args.moment in
    IfOk-weaker c.write_due.result _ _
    (λ path i. imports_over tells c.args.cap (files c.args.disk.now) (files c.write_due.new.disk) c.args.folder.now bytes (string_bytes path) c.args.registry.now c.due_shard.new.registry c.write_due.new.registry c.in-Ok.ensures.kept
    (subst (λ (b : List ℕ). Imports tells c.args.cap (files c.args.disk.now) (files c.write_due.new.disk) c.args.folder.now b c.due_shard.new.registry c.write_due.new.registry (string_bytes path)) due.bytes i))
    (c.write_due.ensures.flushed c.args.folder.now due.path)

pub returns-in-Ok-clause-checked : goal.returns-in-Ok-clause-checked
returns-in-Ok-clause-checked g c =
    let due = c.in-Ok.ensures.due in
    let bytes = flushed_bytes c.args.pending.now c.args.moment in
    subst (λ (x : Result (Unit {0}) StoreError). GivesUnlessDisk (λ _. tt) c.write_due.result x) (same_check bytes c.args.registry.now c.due_shard.new.registry c.in-Ok.ensures.files c.in-Ok.ensures.hashes)
    (subst (λ (b : List ℕ). GivesUnlessDisk (λ _. tt) c.write_due.result (flush_check b c.due_shard.new.registry)) due.bytes c.write_due.ensures.checked)

pub returns-in-Ok-clause-kept : goal.returns-in-Ok-clause-kept
returns-in-Ok-clause-kept g c = on_err_weaker c.write_due.result (λ kept shards r. kept shards (c.in-Ok.ensures.kept shards r)) c.write_due.ensures.kept

pub returns-in-Ok-clause-refused : goal.returns-in-Ok-clause-refused
returns-in-Ok-clause-refused g c = λ told.
    let files = g.D.Disk.files in
    let due = c.in-Ok.ensures.due in
    subst (λ (b : List ℕ). OnErr c.write_due.result (MayAddShard (files c.args.disk.now) (files c.write_due.new.disk) c.args.folder.now b)) due.bytes (c.write_due.ensures.refused told c.args.folder.now due.path)

pub returns-in-Ok-clause-safe : goal.returns-in-Ok-clause-safe
returns-in-Ok-clause-safe g c = λ told.
    let files = g.D.Disk.files in
    let due = c.in-Ok.ensures.due in
    subst (KeepsFiles (files c.args.disk.now) (files c.write_due.new.disk) c.args.folder.now (flushed_bytes c.args.pending.now c.args.moment)) c.in-Ok.ensures.files
    (subst (λ (b : List ℕ). KeepsFiles (files c.args.disk.now) (files c.write_due.new.disk) c.args.folder.now b c.due_shard.new.registry.files) due.bytes (c.write_due.ensures.safe told c.args.folder.now due.path))
