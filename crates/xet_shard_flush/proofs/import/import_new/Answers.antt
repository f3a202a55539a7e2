use Rattle.std.proofs.Common.{◌≡◌, ◌∙◌, ◌-◌, ◌^◌, Ok, ap, length, nat_le, string_bytes, subst, sym}
use Rattle.std.proofs.lemmas.Result.{IfOk-weaker, on_err_weaker}
use Rattle.xet_hash.specs.declared.error.StoreError.TheVariants.{TooLarge}
use Rattle.xet_hash.specs.declared.error.What.TheVariants.{Shards}
use Rattle.xet_shard.specs.Sections.{chunk_lookup_in}
use Rattle.xet_shard.specs.declared.info.MDBShardInfo.{MDBShardInfo}
use Rattle.xet_shard_directory.specs.Writing.{path_of}
use Rattle.xet_shard_file.specs.Names.{shard_path}
use Rattle.xet_shard_flush.specs.Importing.{KeepsFiles}
use Rattle.xet_shard_format.specs.Lookups.{flat_places}
use Rattle.xet_shard_flush.proofs.Registered.{imports_over, read_of}
use Rattle.xet_shard_flush.proofs.import.import_new.Goals as goal

pub write_new-requires-clause-file : goal.write_new-requires-clause-file
write_new-requires-clause-file g c =
    let file = c.in_ok-file.ensures in
    record { hash = file.parts.0 ∙ c.requires.hash; info = c.requires.info ∙ ap (λ (i : MDBShardInfo). Ok i) (sym file.parts.1); name = file.names.0; temp = file.names.1 }

pub write_new-requires-clause-read : goal.write_new-requires-clause-read
write_new-requires-clause-read g c =
    let bytes = c.args.bytes.now in
    let read : chunk_lookup_in c.args.info.metadata bytes ≡ Ok (flat_places c.in_ok-items.items.items) =
    read_of (TooLarge Shards) (nat_le (2 ^ 32 - 1) (length c.args.registry.now.files)) (chunk_lookup_in c.args.info.metadata bytes) (flat_places c.in_ok-items.items.items) c.in_ok-items.ensures.exact in
    rw (c.in_ok-file.ensures.parts.1, c.deref-2.ensures.value) read

pub write_new-requires-clause-room : goal.write_new-requires-clause-room
write_new-requires-clause-room g c = record {
  few = rw c.reserve.ensures.files c.in_ok-items.ensures.few;
  new = rw (c.reserve.ensures.hashes, c.in_ok-file.ensures.parts.0) c.requires.new;
}

pub returns-clause-imported : goal.returns-clause-imported
returns-clause-imported g c =
    let files = g.D.Disk.files in
    let folder = c.args.folder.now in
    let named : c.in_ok-file.file.path ≡ path_of folder c.args.bytes.now = c.in_ok-file.ensures.path ∙ ap (shard_path folder) c.requires.hash in
    IfOk-weaker c.write_new.result _ _
    (λ path i. imports_over (g.D.Disk.tells c.args.disk.now) c.args.cap (files c.args.disk.now) (files c.write_new.new.disk) folder c.args.bytes.now (string_bytes path) c.args.registry.now c.reserve.new.self c.write_new.new.registry c.reserve.ensures.kept i)
    (c.write_new.ensures.imported folder named)

pub returns-clause-kept : goal.returns-clause-kept
returns-clause-kept g c = on_err_weaker c.write_new.result (λ kept shards r. kept shards (c.reserve.ensures.kept shards r)) c.write_new.ensures.kept

pub returns-clause-refused : goal.returns-clause-refused
returns-clause-refused g c = λ told.
    c.write_new.ensures.refused told c.args.folder.now (c.in_ok-file.ensures.path ∙ ap (shard_path c.args.folder.now) c.requires.hash)

pub returns-clause-safe : goal.returns-clause-safe
returns-clause-safe g c = λ told.
    let files = g.D.Disk.files in
    let folder = c.args.folder.now in
    subst (KeepsFiles (files c.args.disk.now) (files c.write_new.new.disk) folder c.args.bytes.now) c.reserve.ensures.files
    (c.write_new.ensures.safe told folder (c.in_ok-file.ensures.path ∙ ap (shard_path folder) c.requires.hash))
