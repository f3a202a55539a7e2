use Rattle.std.specs.Prelude.{Vec}
use Rattle.std.specs.Global.{Global}
use Rattle.std.proofs.Common.{◌≡◌, ◌∙◌, ap}
use Rattle.xet_io.specs.Disk.{Files, file_at}
use Rattle.xet_shard.specs.Union.{ShardRecords, records_in}
use Rattle.xet_shard_format.specs.declared.record.MDBFileInfo.{MDBFileInfo}
use Rattle.xet_shard_format.specs.declared.record.MDBXorbInfo.{MDBXorbInfo}
use Rattle.xet_shard_merge.proofs.ThroughDisk.{unreadable}
use Rattle.xet_shard_merge.proofs.reading.read_offered.Goals as goal

abbrev records_of : Vec MDBXorbInfo Global × Vec MDBFileInfo Global → ShardRecords
records_of x = (x.0.items, x.1.items)

pub returns-in-Err-read_records-clause-refused : goal.returns-in-Err-read_records-clause-refused
returns-in-Err-read_records-clause-refused g c = λ tells f there.
    let frame = c.in-Ok.ensures.frame in
    let at : file_at (g.D.Disk.files c.file_length.new.disk) c.args.shard.now.path ≡ _ = ap (λ (fs : Files). file_at fs c.args.shard.now.path) frame.same ∙ there in
    unreadable c.args.skip_on_error records_of _ _ c.in-Err-read_records.error c.unless_skipped.result (records_in c.args.shard.now.shard.metadata f.bytes)
    c.unless_skipped.ensures (c.in-Err-read_records.ensures.exact (frame.tells ∙ tells) f at) c.in-Err-read_records.ensures.reason
