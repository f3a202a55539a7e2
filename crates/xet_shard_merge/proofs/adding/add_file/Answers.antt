use Rattle.std.proofs.Common.{◌≡◌, ◌∙◌, ◌+◌, ◌*◌, ◌^◌, ◌<◌, ℕ, List, None, OnOk, length, ap, sym, subst, arith}
use Rattle.xet_shard.specs.Held.{held, held_size, record_of}
use Rattle.xet_shard_format.specs.Records.{file_record_hash}
use Rattle.xet_shard_format.specs.declared.record.MDBFileInfo.{MDBFileInfo}
use Rattle.xet_shard_merge.proofs.EachOnce.{both_new, few_with_file, none_of}
use Rattle.xet_shard_merge.proofs.adding.add_file.Goals as goal

pub add_file_reconstruction_info-requires-clause-few : goal.add_file_reconstruction_info-requires-clause-few
add_file_reconstruction_info-requires-clause-few c =
    let none : record_of file_record_hash (file_record_hash c.args.file) c.args.shard.now.files ≡ None =
    ap (λ (h : List ℕ). record_of file_record_hash h c.args.shard.now.files) (sym c.hash.ensures) ∙ none_of c.file_info.result _ (sym c.if-is_some.false ∙ c.is_some.ensures) c.file_info.ensures in
    let room : held_size c.args.shard.now + 96 * length c.args.file.segments < 48 * 2 ^ 32 =
    omega (arith, c.if-saturating_add-ge-MAX_SIZE.false, c.saturating_add.ensures, c.saturating_mul.ensures, c.shard_file_size.ensures, ap length c.as_slice.ensures) in
    few_with_file c.args.shard.now c.args.file c.requires.form none room

pub returns-clause-added : goal.returns-clause-added
returns-clause-added c =
    let none : record_of file_record_hash (file_record_hash c.args.file) c.args.shard.now.files ≡ None =
    ap (λ (h : List ℕ). record_of file_record_hash h c.args.shard.now.files) (sym c.hash.ensures) ∙ none_of c.file_info.result _ (sym c.if-is_some.false ∙ c.is_some.ensures) c.file_info.ensures in
    subst (λ (bs : List MDBFileInfo). OnOk c.add_file_reconstruction_info.result (c.add_file_reconstruction_info.new.self ≡ held c.args.shard.now.blocks bs)) (sym (both_new file_record_hash c.args.shard.now.files c.args.file none)) c.add_file_reconstruction_info.ensures.added
