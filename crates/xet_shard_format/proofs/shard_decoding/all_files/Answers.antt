use Rattle.std.proofs.Common.{arith}
use Rattle.std.proofs.lemmas.List.{length-drop}
use Rattle.xet_shard_format.specs.Records.{IsFile, file_record_hash, file_head, file_rest}
use Rattle.xet_shard_format.specs.Encoding.{materialized}
use Rattle.xet_shard_format.specs.Reading.{file_record_at}
use Rattle.xet_shard_format.specs.theorems.Bytes.{IsBytes-drop}
use Rattle.xet_shard_format.specs.theorems.Finding.{given_few, given_total}
use Rattle.xet_shard_format.specs.theorems.Fitting.{materialized_below}
use Rattle.xet_shard_format.specs.theorems.SectionLaws.{files_reading}
use Rattle.xet_shard_format.proofs.shard_decoding.all_files.Goals as goal

pub returns-clause-few : goal.returns-clause-few
returns-clause-few c = given_few (λ v. v.items) c.records_at.result file_record_at file_record_hash file_head file_rest IsFile files_reading _ _ c.requires.few_files c.records_at.ensures

pub returns-clause-total : goal.returns-clause-total
returns-clause-total c =
    given_total (λ v. v.items) c.records_at.result file_record_at file_record_hash file_head file_rest IsFile files_reading _ _ c.requires.few_files c.records_at.ensures materialized materialized_below
    (IsBytes-drop c.args.f.now.file_info_offset c.args.bytes.now (λ i. omega (arith, c.type_inv.bytes i))) (omega (arith, length-drop c.args.f.now.file_info_offset c.args.bytes.now, c.requires.xorbs, c.requires.file_lookup, c.requires.xorb_lookup, c.requires.chunk_lookup, c.requires.footer, c.requires.end))
