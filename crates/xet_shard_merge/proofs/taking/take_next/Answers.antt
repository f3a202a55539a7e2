use Rattle.std.specs.Prelude.{Vec}
use Rattle.std.specs.Global.{Global}
use Rattle.std.proofs.Common.{◌∙◌, ◌∷◌, ℕ, Option, length, option_map, Err, Result, refl, sym, subst, inl}
use Rattle.std.proofs.lemmas.Bool.{true≢false}
use Rattle.std.proofs.lemmas.Result.{IfErr-weaker}
use Rattle.xet_codec.specs.Stops.{HasDiskReason}
use Rattle.xet_hash.specs.declared.error.StoreError.{StoreError}
use Rattle.xet_io.specs.Disk.{Files}
use Rattle.xet_shard.specs.Union.{ShardRecords, records_in}
use Rattle.xet_shard_format.specs.declared.record.MDBFileInfo.{MDBFileInfo}
use Rattle.xet_shard_format.specs.declared.record.MDBXorbInfo.{MDBXorbInfo}
use Rattle.xet_shard_merge.specs.Groups.{Offered}
use Rattle.xet_shard_merge.specs.internal.Keeping.{IsOffer, IsUnreadable, Preserves}
use Rattle.xet_shard_merge.specs.internal.Progressing.{Went, offer, offered_of}
use Rattle.xet_shard_merge.proofs.Offering.{disk_unreadable, file_now, offer_now, records_now, unread_now}
use Rattle.xet_shard_merge.proofs.Stepping.{skipped}
use Rattle.xet_shard_merge.proofs.Due.{unchanged_writes}
use Rattle.xet_shard_merge.proofs.taking.take_next.Goals as goal

abbrev Found : Type 0
Found = ℕ × (Vec MDBXorbInfo Global × Vec MDBFileInfo Global)

abbrev records_of : Found → ℕ × ShardRecords
records_of x = (x.0, (x.1.0.items, x.1.1.items))

pub returns-in-Ok-Some-clause-went : goal.returns-in-Ok-Some-clause-went
returns-in-Ok-Some-clause-went g c = λ tells start all rest is w.
    let now = g.D.Disk.files c.args.disk.now in
    let frame = c.in-Ok-Some.ensures.frame in
    let file = file_now start now c.args.shard is w.keeps in
    let records : ShardRecords = (c.in-Ok-Some.records.0.items, c.in-Ok-Some.records.1.items) in
    let read = subst (λ (found : Option Found). IsOffer c.args.skip_on_error (option_map records_of found) (length file.0.bytes) (records_in c.args.shard.shard.metadata file.0.bytes)) c.in-Ok-Some.field-0-is (c.in-Ok-Some.ensures.offer tells file.0 file.1) in
    let same = offer_now start now c.args.shard is w.keeps c.in-Ok-Some.length records read.0 read.1 in
    c.take_read.ensures.went (frame.tells ∙ tells) start c.args.skip_on_error all rest is
    (subst (λ (fs : Files). Went start fs c.args.target.now c.args.limit c.args.skip_on_error all (offer c.args.shard c.in-Ok-Some.length records ∷ rest) c.args.progress.now) (sym frame.same)
    (subst (λ (o : Offered). Went start now c.args.target.now c.args.limit c.args.skip_on_error all (o ∷ rest) c.args.progress.now) same w))

pub returns-in-Ok-Some-clause-refused : goal.returns-in-Ok-Some-clause-refused
returns-in-Ok-Some-clause-refused g c = λ tells start is keeps intact.
    let frame = c.in-Ok-Some.ensures.frame in
    let faults = g.D.Disk.faults in
    IfErr-weaker c.take_read.result (HasDiskReason (faults c.read_offered.new.disk) (faults c.take_read.new.disk)) (IsUnreadable c.args.skip_on_error (offered_of start c.args.shard).records)
    (disk_unreadable c.args.skip_on_error (offered_of start c.args.shard).records _ _)
    (c.take_read.ensures.intact (frame.tells ∙ tells) start (subst (Preserves start) (sym frame.same) keeps) intact)

pub returns-in-Ok-None-clause-went : goal.returns-in-Ok-None-clause-went
returns-in-Ok-None-clause-went g c = λ tells start all rest is w.
    let now = g.D.Disk.files c.args.disk.now in
    let frame = c.in-Ok-None.ensures.frame in
    let file = file_now start now c.args.shard is w.keeps in
    let read = subst (λ (found : Option Found). IsOffer c.args.skip_on_error (option_map records_of found) (length file.0.bytes) (records_in c.args.shard.shard.metadata file.0.bytes)) c.in-Ok-None.field-0-is (c.in-Ok-None.ensures.offer tells file.0 file.1) in
    let missing : Offered = record { file = c.args.shard; length = length file.0.bytes; records = Err read.1.0 } in
    let same = unread_now start now c.args.shard is w.keeps read.1.0 read.1.1 in
    let went = subst (λ (o : Offered). Went start now c.args.target.now c.args.limit c.args.skip_on_error all (o ∷ rest) c.args.progress.now) same w in
    skipped start (g.D.Disk.files c.read_offered.new.disk) c.args.target.now c.args.limit c.args.skip_on_error all missing rest (λ e. absurd (true≢false (sym read.0 ∙ e)))
    c.args.progress.now c.skip.new.self c.skip.result (inl (read.1.0, refl)) c.skip.ensures.skipped
    (subst (λ (fs : Files). Went start fs c.args.target.now c.args.limit c.args.skip_on_error all (missing ∷ rest) c.args.progress.now) (sym frame.same) went)

pub returns-in-Err-clause-refused : goal.returns-in-Err-clause-refused
returns-in-Err-clause-refused g c = λ tells start is keeps intact.
    let now = g.D.Disk.files c.args.disk.now in
    let file = file_now start now c.args.shard is keeps in
    subst (λ (read : Result ShardRecords StoreError). IsUnreadable c.args.skip_on_error read c.in-Err.error) (sym (records_now start now c.args.shard is keeps))
    (c.in-Err.ensures.refused tells file.0 file.1)

pub returns-in-Ok-Some-clause-writes : goal.returns-in-Ok-Some-clause-writes
returns-in-Ok-Some-clause-writes g c = λ tells start all rest is w.
    let now = g.D.Disk.files c.args.disk.now in
    let frame = c.in-Ok-Some.ensures.frame in
    let file = file_now start now c.args.shard is w.keeps in
    let records : ShardRecords = (c.in-Ok-Some.records.0.items, c.in-Ok-Some.records.1.items) in
    let read = subst (λ (found : Option Found). IsOffer c.args.skip_on_error (option_map records_of found) (length file.0.bytes) (records_in c.args.shard.shard.metadata file.0.bytes)) c.in-Ok-Some.field-0-is (c.in-Ok-Some.ensures.offer tells file.0 file.1) in
    let same = offer_now start now c.args.shard is w.keeps c.in-Ok-Some.length records read.0 read.1 in
    c.take_read.ensures.writes (frame.tells ∙ tells) start c.args.skip_on_error all rest is
    (subst (λ (fs : Files). Went start fs c.args.target.now c.args.limit c.args.skip_on_error all (offer c.args.shard c.in-Ok-Some.length records ∷ rest) c.args.progress.now) (sym frame.same)
    (subst (λ (o : Offered). Went start now c.args.target.now c.args.limit c.args.skip_on_error all (o ∷ rest) c.args.progress.now) same w))

pub returns-in-Ok-None-clause-writes : goal.returns-in-Ok-None-clause-writes
returns-in-Ok-None-clause-writes g c = λ tells start all rest is w.
    unchanged_writes start (g.D.Disk.files c.args.disk.now) c.args.target.now c.args.limit c.args.skip_on_error all (offered_of start c.args.shard ∷ rest) c.args.progress.now w
    (g.D.Disk.files c.read_offered.new.disk) c.in-Ok-None.ensures.frame.same

pub returns-in-Err-clause-writes : goal.returns-in-Err-clause-writes
returns-in-Err-clause-writes g c = λ tells start all rest is w.
    unchanged_writes start (g.D.Disk.files c.args.disk.now) c.args.target.now c.args.limit c.args.skip_on_error all (offered_of start c.args.shard ∷ rest) c.args.progress.now w
    (g.D.Disk.files c.read_offered.new.disk) c.in-Err.ensures.frame.same
