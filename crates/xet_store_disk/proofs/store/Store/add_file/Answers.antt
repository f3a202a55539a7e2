use Rattle.std.proofs.Common.{◌≡◌, ◌∙◌, ◌<◌, ◌^◌, length, true, refl, sym, ap, subst, rules, arith}
use Rattle.xet_shard_format.specs.declared.record.MDBFileInfo.{MDBFileInfo}
use Rattle.xet_shard.specs.Held.{held, with_last}
use Rattle.xet_shard_format.specs.Records.{IsFile, file_record_hash, file_section}
use Rattle.xet_folder.specs.Xorbs.{FileRecords, found}
use Rattle.xet_folder.specs.theorems.Tables.{found_here}
use Rattle.xet_store_disk.specs.Store.{IsNewFile, State}
use Rattle.xet_store_disk.specs.theorems.Keeping.{keeps_nothing}
use Rattle.xet_store_disk.proofs.Pending.{few_files}
use Rattle.xet_store_disk.proofs.Recording.{adds_at, keeps_recorded_at, record_kept, recorded_tables, sound_recorded_at}
use Rattle.xet_store_disk.proofs.Rows.{absent_at, recorded_at}
use Rattle.xet_store_disk.specs.theorems.Rows.{is_some_found}
use Rattle.xet_store_disk.specs.theorems.Staying.{keeps_unchanged}
use Rattle.xet_store_disk.proofs.store.Store.add_file.Goals as goal

pub returns-then-contains_key-clause-keeps : goal.returns-then-contains_key-clause-keeps
returns-then-contains_key-clause-keeps g c = keeps_nothing c.args.self.now

pub returns-then-eq-clause-keeps : goal.returns-then-eq-clause-keeps
returns-then-eq-clause-keeps g c = keeps_nothing c.args.self.now

pub returns-in_err-copy-clause-keeps : goal.returns-in_err-copy-clause-keeps
returns-in_err-copy-clause-keeps g c = keeps_nothing c.args.self.now

pub returns-in_err-recorded-clause-keeps : goal.returns-in_err-recorded-clause-keeps
returns-in_err-recorded-clause-keeps g c = keeps_nothing c.args.self.now

pub returns-in_err-reserve-clause-keeps : goal.returns-in_err-reserve-clause-keeps
returns-in_err-reserve-clause-keeps g c = keeps_unchanged _ _ c.self.invariant c.self.view_is refl c.reserve.ensures.entries refl refl

pub add_file_reconstruction_info-requires-clause-form : goal.add_file_reconstruction_info-requires-clause-form
add_file_reconstruction_info-requires-clause-form g c = subst IsFile (sym c.in_ok-copy.ensures.copy) c.requires.form

pub add_file_reconstruction_info-requires-clause-few : goal.add_file_reconstruction_info-requires-clause-few
add_file_reconstruction_info-requires-clause-few g c =
    let fits : c.has_room.result ≡ true = search rules in
    subst (λ (f : MDBFileInfo). length (file_section (with_last file_record_hash c.self.inside.pending.files f)) < 2 ^ 32) (sym c.in_ok-copy.ensures.copy)
    (few_files c.self.inside.pending c.args.file c.requires.form (omega (arith, c.has_room.ensures.0 fits, c.from.ensures)))

pub returns-in_err-add_file_reconstruction_info-clause-keeps : goal.returns-in_err-add_file_reconstruction_info-clause-keeps
returns-in_err-add_file_reconstruction_info-clause-keeps g c =
    keeps_unchanged _ _ c.self.invariant c.self.view_is refl c.reserve.ensures.entries refl c.in_err-add_file_reconstruction_info.ensures.kept

pub invariant_of-self-2 : goal.invariant_of-self-2
invariant_of-self-2 g c =
    let none = absent_at c.self.inside.records _ _ c.hash-hash.ensures (sym c.if-contains_key.false ∙ c.contains_key.ensures) in
    let more = recorded_at c.self.inside.records _ _ c.reserve.new.self.entries _ _ c.args.file c.hash-hash.ensures c.in_ok-recorded.ensures.file none c.reserve.ensures.entries c.in_ok-insert.ensures.entries in
    sound_recorded_at _ c.args.file c.self.invariant none more (c.in_ok-add_file_reconstruction_info.ensures.added ∙ ap (λ (f : MDBFileInfo). held c.self.inside.pending.blocks (with_last file_record_hash c.self.inside.pending.files f)) c.in_ok-copy.ensures.copy) (subst (λ (s : State). IsNewFile s.xorbs c.args.file) (sym c.self.view_is) c.requires) c.recall_invariant.ensures

pub returns-clause-keeps : goal.returns-clause-keeps
returns-clause-keeps g c =
    let none = absent_at c.self.inside.records _ _ c.hash-hash.ensures (sym c.if-contains_key.false ∙ c.contains_key.ensures) in
    let more = recorded_at c.self.inside.records _ _ c.reserve.new.self.entries _ _ c.args.file c.hash-hash.ensures c.in_ok-recorded.ensures.file none c.reserve.ensures.entries c.in_ok-insert.ensures.entries in
    keeps_recorded_at _ c.args.file c.self.invariant none more (c.in_ok-add_file_reconstruction_info.ensures.added ∙ ap (λ (f : MDBFileInfo). held c.self.inside.pending.blocks (with_last file_record_hash c.self.inside.pending.files f)) c.in_ok-copy.ensures.copy) _ c.self.view_is

pub returns-clause-there : goal.returns-clause-there
returns-clause-there g c =
    let none = absent_at c.self.inside.records _ _ c.hash-hash.ensures (sym c.if-contains_key.false ∙ c.contains_key.ensures) in
    let more = recorded_at c.self.inside.records _ _ c.reserve.new.self.entries _ _ c.args.file c.hash-hash.ensures c.in_ok-recorded.ensures.file none c.reserve.ensures.entries c.in_ok-insert.ensures.entries in
    is_some_found c.insert.new.self.entries (file_record_hash c.args.file) c.args.file (ap (λ (rows : FileRecords). found rows (file_record_hash c.args.file)) more ∙ found_here c.self.inside.records.entries (file_record_hash c.args.file) c.args.file none)

pub returns-clause-adds : goal.returns-clause-adds
returns-clause-adds g c =
    let none = absent_at c.self.inside.records _ _ c.hash-hash.ensures (sym c.if-contains_key.false ∙ c.contains_key.ensures) in
    let more = recorded_at c.self.inside.records _ _ c.reserve.new.self.entries _ _ c.args.file c.hash-hash.ensures c.in_ok-recorded.ensures.file none c.reserve.ensures.entries c.in_ok-insert.ensures.entries in
    adds_at _ c.args.file c.self.invariant none more (c.in_ok-add_file_reconstruction_info.ensures.added ∙ ap (λ (f : MDBFileInfo). held c.self.inside.pending.blocks (with_last file_record_hash c.self.inside.pending.files f)) c.in_ok-copy.ensures.copy) _ c.self.view_is

pub returns-then-contains_key-clause-stores : goal.returns-then-contains_key-clause-stores
returns-then-contains_key-clause-stores g c =
    record_kept _ _ c.self.invariant c.self.view_is c.args.file c.hash-hash.result c.hash-hash.ensures (sym c.contains_key.ensures ∙ c.if-contains_key.true)

pub returns-clause-stores : goal.returns-clause-stores
returns-clause-stores g c =
    let none = absent_at c.self.inside.records _ _ c.hash-hash.ensures (sym c.if-contains_key.false ∙ c.contains_key.ensures) in
    let more = recorded_at c.self.inside.records _ _ c.reserve.new.self.entries _ _ c.args.file c.hash-hash.ensures c.in_ok-recorded.ensures.file none c.reserve.ensures.entries c.in_ok-insert.ensures.entries in
    recorded_tables _ c.args.file c.self.invariant none more (c.in_ok-add_file_reconstruction_info.ensures.added ∙ ap (λ (f : MDBFileInfo). held c.self.inside.pending.blocks (with_last file_record_hash c.self.inside.pending.files f)) c.in_ok-copy.ensures.copy) _ c.self.view_is
