use Rattle.std.proofs.Common.{◌≡◌, ◌∙◌, List, nat_eq, false, string_bytes, subst, ℕ}
use Rattle.std.specs.Cmp.Lexicographic.{pointwise}
use Rattle.std.specs.List.{list_any}
use Rattle.xet_hash.specs.Merkle.{chunk_hash}
use Rattle.xet_shard_format.specs.Lookups.{flat_places}
use Rattle.xet_shard_flush.proofs.Registered.{imports_new}
use Rattle.xet_shard_flush.proofs.registering.write_new.Goals as goal

pub register-requires-clause-new : goal.register-requires-clause-new
register-requires-clause-new g c = rw c.in-Ok.ensures.hash c.requires.room.new

pub returns-in-Ok-register-clause-imported : goal.returns-in-Ok-register-clause-imported
returns-in-Ok-register-clause-imported g c = λ folder named.
    let files = g.D.Disk.files in
    let bytes = c.args.bytes.now in
    let t = c.args.registry.now in
    let absent : list_any (pointwise nat_eq (chunk_hash bytes)) t.hashes ≡ false =
    subst (λ (h : List ℕ). list_any (pointwise nat_eq h) t.hashes ≡ false) c.requires.file.hash c.requires.room.new in
    imports_new (g.D.Disk.tells c.args.disk.now) c.args.cap (files c.args.disk.now) (files c.write_free.new.disk) folder bytes (string_bytes c.in-Ok.path) (c.in-Ok.ensures.path ∙ named)
    t c.register.new.self (flat_places c.args.items.now) c.args.file.info absent c.requires.file.info c.requires.read c.in-Ok.written (c.in-Ok.ensures.written folder named) c.in-Ok-register.ensures.registered
