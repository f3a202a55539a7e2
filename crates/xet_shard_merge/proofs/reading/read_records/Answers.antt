use Rattle.std.specs.Prelude.{Vec}
use Rattle.std.specs.Global.{Global}
use Rattle.std.proofs.Common.{◌∙◌, ap}
use Rattle.xet_io.specs.Disk.{Files, file_at}
use Rattle.xet_shard.specs.Union.{ShardRecords}
use Rattle.xet_shard_format.specs.Records.{IsFile, IsXorb, file_record_hash, xorb_record_hash}
use Rattle.xet_shard_format.specs.declared.record.MDBFileInfo.{MDBFileInfo}
use Rattle.xet_shard_format.specs.declared.record.MDBXorbInfo.{MDBXorbInfo}
use Rattle.xet_shard_merge.proofs.EachOnce.{own_of_records}
use Rattle.xet_shard_merge.proofs.ThroughDisk.{records_are, records_end, records_fail}
use Rattle.xet_shard_merge.proofs.reading.read_records.Goals as goal

abbrev records_of : Vec MDBXorbInfo Global × Vec MDBFileInfo Global → ShardRecords
records_of x = (x.0.items, x.1.items)

pub returns-in-Ok-read_blocks-clause-exact : goal.returns-in-Ok-read_blocks-clause-exact
returns-in-Ok-read_blocks-clause-exact g c = λ tells f there.
    let frame = c.in-Ok.ensures.frame in
    records_are c.args.shard.now.shard.metadata f.bytes c.in-Ok.files.items c.in-Ok-read_blocks.blocks.items (c.in-Ok.ensures.exact tells f there)
    (c.in-Ok-read_blocks.ensures.exact (frame.tells ∙ tells) f (ap (λ (fs : Files). file_at fs c.args.shard.now.path) frame.same ∙ there))

pub returns-in-Ok-read_blocks-clause-form : goal.returns-in-Ok-read_blocks-clause-form
returns-in-Ok-read_blocks-clause-form g c = record {
  blocks = own_of_records xorb_record_hash IsXorb c.in-Ok-read_blocks.blocks.items c.in-Ok-read_blocks.ensures.form;
  files = own_of_records file_record_hash IsFile c.in-Ok.files.items c.in-Ok.ensures.form;
}

pub returns-in-Err-read_blocks-clause-exact : goal.returns-in-Err-read_blocks-clause-exact
returns-in-Err-read_blocks-clause-exact g c = λ tells f there.
    let frame = c.in-Ok.ensures.frame in
    records_end c.args.shard.now.shard.metadata f.bytes (λ (v : Vec MDBXorbInfo Global). v.items) records_of c.in-Err-read_blocks.error c.in-Ok.files.items (c.in-Ok.ensures.exact tells f there)
    (c.in-Err-read_blocks.ensures.exact (frame.tells ∙ tells) f (ap (λ (fs : Files). file_at fs c.args.shard.now.path) frame.same ∙ there))

pub returns-in-Err-clause-exact : goal.returns-in-Err-clause-exact
returns-in-Err-clause-exact g c = λ tells f there.
    records_fail c.args.shard.now.shard.metadata f.bytes (λ (v : Vec MDBFileInfo Global). v.items) records_of c.in-Err.error (c.in-Err.ensures.exact tells f there)
