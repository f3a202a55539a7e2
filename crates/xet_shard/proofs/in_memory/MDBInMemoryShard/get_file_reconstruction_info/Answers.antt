use Rattle.std.proofs.Common.{◌≡◌, ◌∙◌, None, Some, ap, subst}
use Rattle.xet_shard_format.specs.declared.record.MDBFileInfo.{MDBFileInfo}
use Rattle.xet_shard.specs.Held.{Held, record_of}
use Rattle.xet_shard_format.specs.Records.{file_record_hash}
use Rattle.xet_shard.proofs.Holding.{record_found}
use Rattle.xet_shard.proofs.in_memory.MDBInMemoryShard.get_file_reconstruction_info.Goals as goal

pub returns-in_ok-copy-in-Some-clause-file : goal.returns-in_ok-copy-in-Some-clause-file
returns-in_ok-copy-in-Some-clause-file c =
    subst (λ (h : Held). Some c.in_ok-copy-in-Some.field-0 ≡ record_of file_record_hash c.args.hash.now h.files) c.self.view_is
    (ap (λ (f : MDBFileInfo). Some f) c.in_ok-copy-in-Some.ensures.copy ∙ c.in-Some.ensures.value ∙ record_found file_record_hash c.args.hash.now c.self.inside.files.entries c.self.invariant.1)

pub returns-in-None-clause-file : goal.returns-in-None-clause-file
returns-in-None-clause-file c =
    subst (λ (h : Held). None ≡ record_of file_record_hash c.args.hash.now h.files) c.self.view_is
    (c.in-None.ensures.value ∙ record_found file_record_hash c.args.hash.now c.self.inside.files.entries c.self.invariant.1)
