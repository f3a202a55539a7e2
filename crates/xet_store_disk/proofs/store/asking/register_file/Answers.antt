use Rattle.std.proofs.Common.{◌≡◌, ◌∙◌, ℕ, List, IfErr, OnOk, ap, subst, true}
use Rattle.xet_shard_directory.specs.Values.{last_part}
use Rattle.xet_shard_file.specs.Names.{shard_path}
use Rattle.xet_store_disk.specs.Asking.{IsAskingError}
use Rattle.xet_store_disk.specs.internal.Asking.{AddsFile, IsEncoded}
use Rattle.xet_store_disk.proofs.ShardPaths.{last_of_shard_path}
use Rattle.xet_store_disk.proofs.store.asking.register_file.Goals as goal

pub register_at-requires-clause-named : goal.register_at-requires-clause-named
register_at-requires-clause-named g c = ap last_part (c.as_str.ensures.value ∙ c.in-Ok.ensures.path) ∙ last_of_shard_path c.args.folder.now c.args.hash.now

pub returns-in-Ok-clause-registered : goal.returns-in-Ok-clause-registered
returns-in-Ok-clause-registered g c =
    let path : c.as_str.result.now ≡ shard_path c.args.folder.now c.args.hash.now = c.as_str.ensures.value ∙ c.in-Ok.ensures.path in
    subst (λ (p : List ℕ). OnOk c.register_at.result (AddsFile c.args.cap (g.D.Disk.tells c.args.disk.now) (g.D.Disk.files c.args.disk.now) c.args.hash.now p c.args.registry.now c.register_at.new.registry)) path c.register_at.ensures.registered

pub returns-in-Ok-clause-refused : goal.returns-in-Ok-clause-refused
returns-in-Ok-clause-refused g c =
    let path : c.as_str.result.now ≡ shard_path c.args.folder.now c.args.hash.now = c.as_str.ensures.value ∙ c.in-Ok.ensures.path in
    let tells = g.D.Disk.tells c.args.disk.now in
    subst (λ (p : List ℕ). (tells ≡ true → IsEncoded (g.D.Disk.files c.args.disk.now) p) → IfErr c.register_at.result (IsAskingError tells (g.D.Disk.faults c.args.disk.now) (g.D.Disk.faults c.register_at.new.disk))) path c.register_at.ensures.refused
