use Rattle.std.proofs.Common.{◌∷◌, refl, subst}
use Rattle.xet_shard.specs.Union.{ShardRecords}
use Rattle.xet_shard_merge.specs.Groups.{Offered}
use Rattle.xet_shard_merge.specs.internal.Progressing.{HasFate, offer}
use Rattle.xet_shard_merge.proofs.Stepping.{entered, followed, skipped, started}
use Rattle.xet_shard_merge.proofs.Due.{follow_writes, start_writes, went_writes}
use Rattle.xet_shard_merge.proofs.taking.take_read.Goals as goal

pub returns-in-Skipped-clause-went : goal.returns-in-Skipped-clause-went
returns-in-Skipped-clause-went g c = λ tells start skip all rest whole w.
    let records : ShardRecords = (c.args.records.0.items, c.args.records.1.items) in
    let o : Offered = offer c.args.shard c.args.length records in
    skipped start (g.D.Disk.files c.args.disk.now) c.args.target.now c.args.limit skip all o rest (λ _. refl) c.args.progress.now c.skip.new.self c.skip.result
    (subst (HasFate c.args.limit c.args.progress.now.open o records) c.in-Skipped.is c.fate_of.ensures) c.skip.ensures.skipped w

pub returns-in-Enters-clause-went : goal.returns-in-Enters-clause-went
returns-in-Enters-clause-went g c = λ tells start skip all rest whole w.
    let records : ShardRecords = (c.args.records.0.items, c.args.records.1.items) in
    let o : Offered = offer c.args.shard c.args.length records in
    entered start (g.D.Disk.files c.args.disk.now) c.args.target.now c.args.limit skip all o rest (λ _. refl) records whole c.args.progress.now c.join.new.self c.join.result
    (subst (HasFate c.args.limit c.args.progress.now.open o records) c.in-Enters.is c.fate_of.ensures) c.join.ensures.joined w

pub returns-in-Starts-clause-went : goal.returns-in-Starts-clause-went
returns-in-Starts-clause-went g c = λ tells start skip all rest whole w.
    let records : ShardRecords = (c.args.records.0.items, c.args.records.1.items) in
    let o : Offered = offer c.args.shard c.args.length records in
    started start (g.D.Disk.files c.args.disk.now) c.args.target.now c.args.limit skip all o rest (λ _. refl) records whole c.args.progress.now c.begin_next.new.progress
    (g.D.Disk.files c.begin_next.new.disk) c.begin_next.result
    (subst (HasFate c.args.limit c.args.progress.now.open o records) c.in-Starts.is c.fate_of.ensures) (c.begin_next.ensures.begun tells) w

pub returns-in-Follows-clause-went : goal.returns-in-Follows-clause-went
returns-in-Follows-clause-went g c = λ tells start skip all rest whole w.
    let records : ShardRecords = (c.args.records.0.items, c.args.records.1.items) in
    let o : Offered = offer c.args.shard c.args.length records in
    followed start (g.D.Disk.files c.args.disk.now) c.args.target.now c.args.limit skip all o rest (λ _. refl) records whole c.args.progress.now c.begin_next-in-Follows.new.progress
    (g.D.Disk.files c.begin_next-in-Follows.new.disk) c.begin_next-in-Follows.result
    (subst (HasFate c.args.limit c.args.progress.now.open o records) c.in-Follows.is c.fate_of.ensures) (c.begin_next-in-Follows.ensures.begun tells)
    (c.begin_next-in-Follows.ensures.keeps tells) w

pub returns-in-Skipped-clause-writes : goal.returns-in-Skipped-clause-writes
returns-in-Skipped-clause-writes g c = λ tells start skip all rest whole w.
    let records : ShardRecords = (c.args.records.0.items, c.args.records.1.items) in
    let o : Offered = offer c.args.shard c.args.length records in
    let files = g.D.Disk.files in
    went_writes start (files c.args.disk.now) c.args.target.now c.args.limit skip all (o ∷ rest) c.args.progress.now w

pub returns-in-Enters-clause-writes : goal.returns-in-Enters-clause-writes
returns-in-Enters-clause-writes g c = λ tells start skip all rest whole w.
    let records : ShardRecords = (c.args.records.0.items, c.args.records.1.items) in
    let o : Offered = offer c.args.shard c.args.length records in
    let files = g.D.Disk.files in
    went_writes start (files c.args.disk.now) c.args.target.now c.args.limit skip all (o ∷ rest) c.args.progress.now w

pub returns-in-Starts-clause-writes : goal.returns-in-Starts-clause-writes
returns-in-Starts-clause-writes g c = λ tells start skip all rest whole w.
    let records : ShardRecords = (c.args.records.0.items, c.args.records.1.items) in
    let o : Offered = offer c.args.shard c.args.length records in
    let files = g.D.Disk.files in
    start_writes start (files c.args.disk.now) (files c.begin_next.new.disk) c.args.target.now c.args.limit skip all o rest c.args.progress.now w (c.begin_next.ensures.writes tells) records
    (subst (HasFate c.args.limit c.args.progress.now.open o records) c.in-Starts.is c.fate_of.ensures)

pub returns-in-Follows-clause-writes : goal.returns-in-Follows-clause-writes
returns-in-Follows-clause-writes g c = λ tells start skip all rest whole w.
    let records : ShardRecords = (c.args.records.0.items, c.args.records.1.items) in
    let o : Offered = offer c.args.shard c.args.length records in
    let files = g.D.Disk.files in
    let ends = subst (HasFate c.args.limit c.args.progress.now.open o records) c.in-Follows.is c.fate_of.ensures in
    follow_writes start (files c.args.disk.now) (files c.begin_next-in-Follows.new.disk) c.args.target.now c.args.limit skip all o rest c.args.progress.now w
    (c.begin_next-in-Follows.ensures.writes tells) ends.0 records ends.1
