use Rattle.std.proofs.Common.{◌≡◌, ◌∙◌, ◌⊎◌, ℕ, List, Result, Err, ap, subst, sym}
use Rattle.std.specs.Prelude.{IfErr}
use Rattle.xet_codec.specs.FileReader.{bytes_of}
use Rattle.xet_codec.specs.Stops.{StopsReading, StopsWriting}
use Rattle.xet_hash.specs.declared.error.StoreError.{StoreError}
use Rattle.xet_restore.specs.Errors.{IsStop}
use Rattle.xet_restore.specs.Reading.{ReadsRun}
use Rattle.xet_restore.proofs.ThroughDisk.{bytes_there, unread_of_disk}
use Rattle.xet_shard_format.specs.declared.record.FileDataSequenceEntry.{FileDataSequenceEntry as Segment}
use Rattle.xet_restore.proofs.restored.copy_in_file.Goals as goal

pub returns-clause-unread : goal.returns-clause-unread
returns-clause-unread g c = λ told bytes there.
    let files = g.D.Disk.files in
    let s : Segment = c.args.segment.now in
    let answer = c.copy_run-answer.result in
    let d = c.copy_run-answer.ensures in
    let short = c.was_out_of_memory.result in
    let disk = c.new-reader.ensures.now in
    let read : bytes_of (files c.new-reader.result.disk.now) c.new-reader.result.name.now ≡ bytes =
    ap (λ d. bytes_of (files d) c.new-reader.result.name.now) disk ∙ ap (bytes_of (files c.args.disk.now)) c.new-reader.ensures.name ∙ bytes_there (files c.args.disk.now) c.args.name.now bytes there in
    let refused : IfErr answer (λ e. ReadsRun bytes s (Err e) ⊎ (StopsReading e ⊎ StopsWriting e)) =
    subst (λ (b : List ℕ). IfErr answer (λ e. ReadsRun b s (Err e) ⊎ (StopsReading e ⊎ StopsWriting e))) read (d.refused (ap g.D.Disk.tells disk ∙ told)) in
    subst (λ (r : Result (Unit {0}) StoreError). IfErr r (λ e. ReadsRun bytes s (Err e) ⊎ IsStop e)) (sym c.of_disk.ensures)
    (unread_of_disk (λ e. ReadsRun bytes s (Err e)) short answer d.kinds refused)
