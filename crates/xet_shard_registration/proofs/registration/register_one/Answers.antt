use Rattle.std.proofs.Common.{◌≡◌, ◌∙◌, Ok, ap, arith, false, length, sym, true}
use Rattle.xet_shard_registration.proofs.Due.{adds_known, adds_none}
use Rattle.xet_shard_registration.proofs.Growing.{grows_none, new_few, new_enters, no_large_read}
use Rattle.xet_shard_registration.proofs.InOrder.{few_by, many_by, new_grows, new_refused, new_registered, one_known, one_many, registered_by}
use Rattle.xet_shard_registration.specs.Registering.{items_in}
use Rattle.xet_shard_registration.proofs.registration.register_one.Goals as goal

pub returns-then-contains-clause-registered : goal.returns-then-contains-clause-registered
returns-then-contains-clause-registered g c = λ told shards records held.
    let known = registered_by shards c.args.registry.now c.args.file.now.shard_hash c.contains.result true held c.contains.ensures c.if-contains.true in
    record { registered = shards; one = one_known c.args.cap (g.D.Disk.files c.args.disk.now) records shards c.args.file.now known; tables = held }

pub returns-then-files-ge-MAX_SHARDS-clause-refused : goal.returns-then-files-ge-MAX_SHARDS-clause-refused
returns-then-files-ge-MAX_SHARDS-clause-refused g c = λ told shards records held.
    let other = registered_by shards c.args.registry.now c.args.file.now.shard_hash c.contains.result false held c.contains.ensures c.if-contains.false in
    let many = many_by shards c.args.registry.now c.files.result.now held c.files.ensures c.if-files-ge-MAX_SHARDS.true in
    one_many c.args.cap (g.D.Disk.files c.args.disk.now) records shards c.args.file.now other many

pub returns-else-files-ge-MAX_SHARDS-clause-registered : goal.returns-else-files-ge-MAX_SHARDS-clause-registered
returns-else-files-ge-MAX_SHARDS-clause-registered g c = λ told.
    new_registered c.args.cap (g.D.Disk.files c.args.disk.now) c.args.file.now c.args.registry.now c.register_new.new.registry
    (λ shards held. registered_by shards c.args.registry.now c.args.file.now.shard_hash c.contains.result false held c.contains.ensures c.if-contains.false)
    (λ shards held. few_by shards c.args.registry.now c.files.result.now held c.files.ensures c.if-files-ge-MAX_SHARDS.false)
    (g.D.Disk.tells c.args.disk.now ≡ true) c.register_new.result c.register_new.ensures.registered told

pub returns-else-files-ge-MAX_SHARDS-clause-refused : goal.returns-else-files-ge-MAX_SHARDS-clause-refused
returns-else-files-ge-MAX_SHARDS-clause-refused g c = λ told.
    new_refused c.args.cap (g.D.Disk.files c.args.disk.now) c.args.file.now c.args.registry.now c.register_new.new.registry
    (λ shards held. registered_by shards c.args.registry.now c.args.file.now.shard_hash c.contains.result false held c.contains.ensures c.if-contains.false)
    (λ shards held. few_by shards c.args.registry.now c.files.result.now held c.files.ensures c.if-files-ge-MAX_SHARDS.false)
    c.register_new.result (c.register_new.ensures.refused told)

pub returns-else-files-ge-MAX_SHARDS-clause-grows : goal.returns-else-files-ge-MAX_SHARDS-clause-grows
returns-else-files-ge-MAX_SHARDS-clause-grows g c =
    new_grows c.args.cap (g.D.Disk.files c.args.disk.now) c.args.file.now c.args.registry.now c.register_new.new.registry
    (g.D.Disk.tells c.args.disk.now ≡ true) c.register_new.result c.register_new.ensures.registered c.register_new.ensures.kept

pub returns-then-contains-clause-due : goal.returns-then-contains-clause-due
returns-then-contains-clause-due g c = adds_known c.args.file.now c.args.registry.now (sym c.contains.ensures ∙ c.if-contains.true)

pub returns-then-files-ge-MAX_SHARDS-clause-same : goal.returns-then-files-ge-MAX_SHARDS-clause-same
returns-then-files-ge-MAX_SHARDS-clause-same g c = adds_none c.args.registry.now

pub returns-else-files-ge-MAX_SHARDS-clause-enters : goal.returns-else-files-ge-MAX_SHARDS-clause-enters
returns-else-files-ge-MAX_SHARDS-clause-enters g c =
    new_enters c.args.registry.now c.register_new.new.registry c.args.file.now c.register_new.result c.register_new.ensures.files c.register_new.ensures.same c.args.cap
    (λ items. g.D.Disk.tells c.args.disk.now ≡ true → items_in (g.D.Disk.files c.args.disk.now) c.args.file.now ≡ Ok items) c.register_new.ensures.registered c.register_new.ensures.kept

pub returns-then-contains-clause-enters : goal.returns-then-contains-clause-enters
returns-then-contains-clause-enters g c = grows_none c.args.cap c.args.registry.now

pub returns-then-files-ge-MAX_SHARDS-clause-enters : goal.returns-then-files-ge-MAX_SHARDS-clause-enters
returns-then-files-ge-MAX_SHARDS-clause-enters g c = grows_none c.args.cap c.args.registry.now

pub returns-else-files-ge-MAX_SHARDS-clause-few : goal.returns-else-files-ge-MAX_SHARDS-clause-few
returns-else-files-ge-MAX_SHARDS-clause-few g c = λ below.
    new_few c.args.registry.now c.register_new.new.registry c.args.file.now c.register_new.result c.register_new.ensures.files c.register_new.ensures.same
    (omega (arith, ap length c.files.ensures, c.if-files-ge-MAX_SHARDS.false))

pub returns-then-files-ge-MAX_SHARDS-clause-full : goal.returns-then-files-ge-MAX_SHARDS-clause-full
returns-then-files-ge-MAX_SHARDS-clause-full g c = λ same. omega (arith, ap length c.files.ensures, c.if-files-ge-MAX_SHARDS.true)

pub returns-else-files-ge-MAX_SHARDS-clause-full : goal.returns-else-files-ge-MAX_SHARDS-clause-full
returns-else-files-ge-MAX_SHARDS-clause-full g c =
    no_large_read (g.D.Disk.faults c.args.disk.now) (g.D.Disk.faults c.register_new.new.disk) c.register_new.new.registry c.register_new.result c.register_new.ensures.reason
