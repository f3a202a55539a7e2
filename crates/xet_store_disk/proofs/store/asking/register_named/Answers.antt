use Rattle.std.proofs.Common.{◌≡◌, ℕ, List, false, nat_eq, subst, sym}
use Rattle.std.specs.Cmp.Lexicographic.{pointwise}
use Rattle.std.specs.List.{list_any}
use Rattle.xet_store_disk.proofs.Asking.{adds_file, load_refused, loaded_refused, named_hash}
use Rattle.xet_store_disk.proofs.store.asking.register_named.Goals as goal

pub register_loaded-requires-clause-new : goal.register_loaded-requires-clause-new
register_loaded-requires-clause-new g c =
    let e = c.in-Ok.ensures in
    subst (λ (h : List ℕ). list_any (pointwise nat_eq h) c.args.registry.now.hashes ≡ false) (sym (named_hash c.args.path.now c.args.hash.now c.in-Ok.file.shard_hash c.requires.hash e.value.0 c.requires.named e.value.1)) c.requires.new

pub returns-in-Ok-clause-registered : goal.returns-in-Ok-clause-registered
returns-in-Ok-clause-registered g c =
    let e = c.in-Ok.ensures in
    adds_file c.register_loaded.result c.args.cap (g.D.Disk.tells c.args.disk.now) (g.D.Disk.tells c.load_from_file.new.disk) (g.D.Disk.files c.args.disk.now) (g.D.Disk.files c.load_from_file.new.disk) c.args.hash.now c.args.path.now c.in-Ok.file c.args.registry.now
    c.register_loaded.new.registry e.frame.tells e.frame.same (named_hash c.args.path.now c.args.hash.now c.in-Ok.file.shard_hash c.requires.hash e.value.0 c.requires.named e.value.1) e.value.2
    (λ told. e.named told c.args.hash.now c.requires.hash c.requires.named) c.register_loaded.ensures.registered

pub returns-in-Ok-clause-refused : goal.returns-in-Ok-clause-refused
returns-in-Ok-clause-refused g c = λ encoded.
    let e = c.in-Ok.ensures in
    loaded_refused c.register_loaded.result c.parts_are_read.ensures.info c.parts_are_read.ensures.chunk_lookup (g.D.Disk.tells c.args.disk.now) (g.D.Disk.tells c.load_from_file.new.disk) (g.D.Disk.files c.args.disk.now) (g.D.Disk.files c.load_from_file.new.disk)
    c.args.hash.now c.args.path.now c.in-Ok.file (g.D.Disk.faults c.args.disk.now) (g.D.Disk.faults c.load_from_file.new.disk) (g.D.Disk.faults c.register_loaded.new.disk) e.frame.tells e.frame.same encoded (λ told. e.named told c.args.hash.now c.requires.hash c.requires.named)
    c.register_loaded.ensures.refused c.register_loaded.ensures.reason e.frame.later

pub returns-in-Err-clause-refused : goal.returns-in-Err-clause-refused
returns-in-Err-clause-refused g c = λ encoded.
    load_refused c.parts_are_read.ensures.info (g.D.Disk.tells c.args.disk.now) (g.D.Disk.files c.args.disk.now) c.args.hash.now c.args.path.now (g.D.Disk.faults c.args.disk.now) (g.D.Disk.faults c.load_from_file.new.disk) c.in-Err.error encoded
    (λ told. c.in-Err.ensures.named told c.args.hash.now c.requires.hash c.requires.named) c.in-Err.ensures.reason
