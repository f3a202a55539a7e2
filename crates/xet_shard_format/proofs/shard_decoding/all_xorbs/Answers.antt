use Rattle.std.proofs.Common.{arith}
use Rattle.std.proofs.lemmas.List.{length-drop}
use Rattle.xet_shard_format.specs.Records.{IsXorb, xorb_record_hash, xorb_head, xorb_rest}
use Rattle.xet_shard_format.specs.Encoding.{stored}
use Rattle.xet_shard_format.specs.Reading.{xorb_at}
use Rattle.xet_shard_format.specs.theorems.Bytes.{IsBytes-drop}
use Rattle.xet_shard_format.specs.theorems.Finding.{given_few, given_total}
use Rattle.xet_shard_format.specs.theorems.Fitting.{stored_below}
use Rattle.xet_shard_format.specs.theorems.SectionLaws.{xorbs_reading}
use Rattle.xet_shard_format.proofs.shard_decoding.all_xorbs.Goals as goal

pub returns-clause-few : goal.returns-clause-few
returns-clause-few c = given_few (λ v. v.items) c.records_at.result xorb_at xorb_record_hash xorb_head xorb_rest IsXorb xorbs_reading _ _ c.requires.few_xorbs c.records_at.ensures

pub returns-clause-total : goal.returns-clause-total
returns-clause-total c =
    given_total (λ v. v.items) c.records_at.result xorb_at xorb_record_hash xorb_head xorb_rest IsXorb xorbs_reading _ _ c.requires.few_xorbs c.records_at.ensures stored stored_below
    (IsBytes-drop c.args.f.now.xorb_info_offset c.args.bytes.now (λ i. omega (arith, c.type_inv.bytes i))) (omega (arith, length-drop c.args.f.now.xorb_info_offset c.args.bytes.now, c.requires.file_lookup, c.requires.xorb_lookup, c.requires.chunk_lookup, c.requires.footer, c.requires.end))
