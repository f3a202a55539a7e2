use Rattle.std.proofs.Common.{◌≡◌, ◌∙◌, ℕ, Bor, List, None, Some, ap, option_map, refl, sym}
use Rattle.xet_shard.specs.Held.{record_of}
use Rattle.xet_shard_format.specs.Records.{file_record_hash}
use Rattle.xet_shard_format.specs.declared.record.MDBFileInfo.{MDBFileInfo}
use Rattle.xet_shard_merge.proofs.EachOnce.{agrees_equal, agrees_missing, equal_agreed}
use Rattle.xet_shard_merge.proofs.adding.file_agrees.Goals as goal

pub returns-in-Some : goal.returns-in-Some
returns-in-Some c =
    let found : record_of file_record_hash (file_record_hash c.args.file.now) c.args.shard.now.files ≡ Some c.in-Some.other.now =
    ap (λ (h : List ℕ). record_of file_record_hash h c.args.shard.now.files) (sym c.hash.ensures) ∙ sym c.file_info.ensures ∙ ap (option_map (λ (b : Bor MDBFileInfo). b.now)) c.in-Some.is in (
      λ yes. agrees_equal file_record_hash c.args.shard.now.files c.in-Some.other.now c.args.file.now c.recall_invariant.ensures.files_differ found (c.same.ensures.0 yes),
      λ agrees. c.same.ensures.1 (equal_agreed file_record_hash c.args.shard.now.files c.in-Some.other.now c.args.file.now found agrees),
    )

pub returns-in-None : goal.returns-in-None
returns-in-None c =
    let none : record_of file_record_hash (file_record_hash c.args.file.now) c.args.shard.now.files ≡ None =
    ap (λ (h : List ℕ). record_of file_record_hash h c.args.shard.now.files) (sym c.hash.ensures) ∙ sym c.file_info.ensures ∙ ap (option_map (λ (b : Bor MDBFileInfo). b.now)) c.in-None.is in
    (λ _. agrees_missing file_record_hash c.args.shard.now.files c.args.file.now none, λ _. refl)
