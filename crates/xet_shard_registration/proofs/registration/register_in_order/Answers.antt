use Rattle.std.proofs.Common.{◌∙◌, ◌++◌, Bor, List, [], Err, append_assoc, arith, map, refl, subst, sym}
use Rattle.std.proofs.lemmas.List.{append-nil}
use Rattle.xet_base.specs.theorems.Exits.{on_exit}
use Rattle.xet_hash.specs.declared.error.StoreError.{StoreError}
use Rattle.xet_io.specs.Disk.{Files}
use Rattle.xet_shard.specs.Union.{ShardRecords}
use Rattle.xet_shard_directory.specs.Answers.{GivesUnlessDisk}
use Rattle.xet_shard_directory.specs.declared.shard_file.MDBShardFile.{MDBShardFile}
use Rattle.xet_shard_registry.specs.Collections.{IsRegistryOf}
use Rattle.xet_shard_registry.specs.Registered.{Registered}
use Rattle.xet_shard_registration.specs.Registering.{AddsFirst, IsFullIfTooLarge, Stops, registered_one}
use Rattle.xet_shard_registration.specs.internal.Steps.{RegistersOne}
use Rattle.xet_shard_registration.proofs.Due.{adds_end, adds_front, adds_more, adds_none}
use Rattle.xet_shard_registration.proofs.Growing.{grows_both, grows_none}
use Rattle.xet_shard_registration.proofs.InOrder.{registers_end, registers_more, registers_none, registers_stop}
use Rattle.xet_shard_registration.proofs.registration.register_in_order.Goals as goal

abbrev lent : Bor MDBShardFile → MDBShardFile
lent a = a.now

pub loop-file-init : goal.loop-file-init
loop-file-init g c = record {
  registered = λ told shards records held. registers_none c.args.cap (g.D.Disk.files c.args.disk.now) records shards c.args.registry.now held;
  due = adds_none c.args.registry.now;
  grows = λ shards held. ([], subst (λ (l : List Registered). IsRegistryOf l c.args.registry.now) (sym (append-nil shards)) held);
  enters = grows_none c.args.cap c.args.registry.now;
  few = λ below. below;
  frame = record { same = refl; tells = refl; later = omega arith };
}

pub loop-file-preserved : goal.loop-file-preserved
loop-file-preserved g c =
    let i = c.loop-file.invariant in
    let done = c.in_ok-register_one.ensures in
    let files = g.D.Disk.files c.args.disk.now in
    let before = c.loop-file.registry in
    let after = c.register_one.new.registry in
    let file = c.file-item.result in
    record {
      registered = λ told shards records held.
          registers_more c.args.cap files records lent shards c.args.files.now c.loop-file.file-index file before after c.loop-file-test.true c.file-item.is (i.registered told shards records held)
          (λ registered at. subst (λ (fs : Files). RegistersOne c.args.cap fs records registered file.now after) i.frame.same (done.registered (i.frame.tells ∙ told) registered records at));
      grows = λ shards held.
          let more = i.grows shards held in
          let next = done.grows (shards ++ more.0) more.1 in
          (more.0 ++ next.0, subst (λ (l : List Registered). IsRegistryOf l after) (append_assoc shards more.0 next.0) next.1);
      enters = grows_both c.args.cap c.args.registry.now before after i.enters done.enters;
      few = λ below. done.few (i.few below);
      due = adds_more lent c.args.files.now c.loop-file.file-index file c.args.registry.now before after c.loop-file-test.true c.file-item.is i.due done.due;
      frame = record { same = done.frame.same ∙ i.frame.same; tells = done.frame.tells ∙ i.frame.tells; later = omega (arith, i.frame.later, done.frame.later) };
    }

pub returns-in_err-register_one-clause-stopped : goal.returns-in_err-register_one-clause-stopped
returns-in_err-register_one-clause-stopped g c = λ told.
    let i = c.loop-file.invariant in
    let done = c.in_err-register_one.ensures in
    let files = g.D.Disk.files c.args.disk.now in
    let before = c.loop-file.registry in
    let after = c.register_one.new.registry in
    let file = c.file-item.result in
    let e = c.in_err-register_one.field-0.0 in
    on_exit c.from_residual.result e
    (λ (d : StoreError). (shards : List Registered) (records : MDBShardFile → ShardRecords) → IsRegistryOf shards c.args.registry.now → Stops c.args.cap files records shards (map lent c.args.files.now) after d)
    c.from_residual.ensures.1
    (λ shards records held.
    registers_stop c.args.cap files records lent shards c.args.files.now c.loop-file.file-index file before after c.loop-file-test.true c.file-item.is (i.registered told shards records held) e done.kept
    (λ registered at.
    subst (λ (fs : Files). GivesUnlessDisk (λ (x : List Registered). x) (Err e) (registered_one c.args.cap fs records registered file.now)) i.frame.same (done.refused (i.frame.tells ∙ told) registered records at)))

pub returns-in_err-register_one-clause-front : goal.returns-in_err-register_one-clause-front
returns-in_err-register_one-clause-front g c =
    on_exit c.from_residual.result c.in_err-register_one.field-0.0 (λ (d : StoreError). AddsFirst (map lent c.args.files.now) c.args.registry.now c.register_one.new.registry)
    c.from_residual.ensures.1
    (adds_front lent c.args.files.now c.loop-file.file-index c.args.registry.now c.loop-file.registry c.register_one.new.registry c.loop-file.invariant.due c.in_err-register_one.ensures.same)

pub returns-clause-due : goal.returns-clause-due
returns-clause-due g c = adds_end lent c.args.files.now c.loop-file.file-index c.args.registry.now c.loop-file.registry (omega arith) c.loop-file.invariant.due

pub returns-clause-registered : goal.returns-clause-registered
returns-clause-registered g c = λ told shards records held.
    registers_end c.args.cap (g.D.Disk.files c.args.disk.now) records lent shards c.args.files.now c.loop-file.file-index c.loop-file.registry (omega arith) (c.loop-file.invariant.registered told shards records held)

pub returns-in_err-register_one-clause-enters : goal.returns-in_err-register_one-clause-enters
returns-in_err-register_one-clause-enters g c = grows_both c.args.cap c.args.registry.now c.loop-file.registry c.register_one.new.registry c.loop-file.invariant.enters c.in_err-register_one.ensures.enters

pub returns-in_err-register_one-clause-few : goal.returns-in_err-register_one-clause-few
returns-in_err-register_one-clause-few g c = λ below. c.in_err-register_one.ensures.few (c.loop-file.invariant.few below)

pub returns-in_err-register_one-clause-full : goal.returns-in_err-register_one-clause-full
returns-in_err-register_one-clause-full g c =
    on_exit c.from_residual.result c.in_err-register_one.field-0.0 (IsFullIfTooLarge c.register_one.new.registry) c.from_residual.ensures.1 c.in_err-register_one.ensures.full
