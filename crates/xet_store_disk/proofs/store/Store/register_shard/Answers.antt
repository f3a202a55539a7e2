use Rattle.std.proofs.Common.{◌≡◌, ◌<◌, ℕ, List, IfErr, OnOk, Some, length, slice_get, ap, subst, sym}
use Rattle.xet_shard_file.specs.Names.{shard_path}
use Rattle.xet_store_disk.specs.Asking.{IsAskingError, RegistersShard}
use Rattle.xet_store_disk.specs.Store.{State}
use Rattle.xet_store_disk.specs.internal.Asking.{AddsFile, IsEncoded}
use Rattle.xet_store_disk.proofs.Asking.{among_at, encoded, on_ok_then, registers_shard}
use Rattle.xet_store_disk.proofs.Reading.{sound_read}
use Rattle.xet_store_disk.proofs.store.Store.register_shard.Goals as goal

pub shard_at-hash-requires : goal.shard_at-hash-requires
shard_at-hash-requires g c = subst (λ (l : List (List ℕ)). c.args.number < length l) (sym c.deref.ensures.value) (subst (λ (s : State). c.args.number < length s.shards) (sym c.self.view_is) c.requires.number)

pub register_file-requires-clause-new : goal.register_file-requires-clause-new
register_file-requires-clause-new g c =
    let at : slice_get c.self.inside.shards.items c.args.number ≡ Some c.shard_at-hash.result = subst (λ (l : List (List ℕ)). slice_get l c.args.number ≡ Some c.shard_at-hash.result) c.deref.ensures.value c.shard_at-hash.ensures in
    c.requires.new c.shard_at-hash.result (subst (λ (s : State). slice_get s.shards c.args.number ≡ Some c.shard_at-hash.result) c.self.view_is at)

pub invariant_of-self : goal.invariant_of-self
invariant_of-self g c = sound_read _ _ _ _ c.self.invariant c.register_file.ensures.frame.tells c.register_file.ensures.frame.same

pub returns-clause-registered : goal.returns-clause-registered
returns-clause-registered g c =
    let hash = c.shard_at-hash.result in
    let at : slice_get c.self.inside.shards.items c.args.number ≡ Some hash = subst (λ (l : List (List ℕ)). slice_get l c.args.number ≡ Some hash) c.deref.ensures.value c.shard_at-hash.ensures in
    let adds : OnOk c.register_file.result (AddsFile c.index_cap-cap.result (g.D.Disk.tells c.self.inside.disk) (g.D.Disk.files c.self.inside.disk) hash (shard_path c.self.inside.folder hash) c.args.registry.now c.register_file.new.registry) =
    subst (λ (f : List ℕ). OnOk c.register_file.result (AddsFile c.index_cap-cap.result (g.D.Disk.tells c.self.inside.disk) (g.D.Disk.files c.self.inside.disk) hash (shard_path f hash) c.args.registry.now c.register_file.new.registry)) c.as_str-folder.ensures
    c.register_file.ensures.registered in
    subst (λ (s : State). OnOk c.register_file.result (RegistersShard s c.args.number c.args.registry.now c.register_file.new.registry)) c.self.view_is
    (on_ok_then c.register_file.result
    (registers_shard _ c.self.invariant c.parts_are_read.ensures.info c.parts_are_read.ensures.chunk_lookup c.args.number hash at c.args.registry.now c.register_file.new.registry c.index_cap-cap.result c.index_cap-cap.ensures) adds)

pub returns-clause-refused : goal.returns-clause-refused
returns-clause-refused g c =
    let hash = c.shard_at-hash.result in
    let at : slice_get c.self.inside.shards.items c.args.number ≡ Some hash = subst (λ (l : List (List ℕ)). slice_get l c.args.number ≡ Some hash) c.deref.ensures.value c.shard_at-hash.ensures in
    subst (λ (s : State). IfErr c.register_file.result (IsAskingError s.tells s.faults (g.D.Disk.faults c.register_file.new.disk))) c.self.view_is
    (c.register_file.ensures.refused (λ told.
    subst (λ (f : List ℕ). IsEncoded (g.D.Disk.files c.self.inside.disk) (shard_path f hash)) (sym c.as_str-folder.ensures) (encoded _ c.self.invariant told hash (among_at c.self.inside.shards.items c.args.number hash at))))
