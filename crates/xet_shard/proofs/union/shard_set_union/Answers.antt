use Rattle.std.proofs.lemmas.Result.{err_from_is_err_and}
use Rattle.xet_shard.specs.Union.{ShardRecords, both_in}
use Rattle.xet_shard.proofs.ErrorKinds.{export_union, reading_export, encoding_union, writing_export}
use Rattle.xet_shard.proofs.Uniting.{not_united, union_prefix}
use Rattle.xet_shard.proofs.union.shard_set_union.Goals as goal

pub returns-in_err-encoding-clause-refused : goal.returns-in_err-encoding-clause-refused
returns-in_err-encoding-clause-refused g c = λ told also.
    let both : ShardRecords × ShardRecords = ((c.in_ok-ours.ours.0.items, c.in_ok-ours.ours.1.items), (c.in_ok-ours.theirs.0.items, c.in_ok-ours.theirs.1.items)) in
    let p = err_from_is_err_and c.from_residual-in_err-encoding.result c.from_residual-in_err-encoding.ensures.1 in
    rw (p.1, p.2)
    (not_united c.args.first.now.metadata c.args.second.now.metadata (both_in c.args.first.now.metadata (g.R.ReadAt.bytes c.args.reader.now) c.args.second.now.metadata (g.Q.ReadAt.bytes c.args.other.now)) both c.in_err-encoding.field-0.0
    (c.in_ok-ours.ensures.exact told also) c.in_err-encoding.ensures.refused)

pub returns-in_err-write_bytes-clause-prefix : goal.returns-in_err-write_bytes-clause-prefix
returns-in_err-write_bytes-clause-prefix g c = λ told also wrote.
    let both : ShardRecords × ShardRecords = ((c.in_ok-ours.ours.0.items, c.in_ok-ours.ours.1.items), (c.in_ok-ours.theirs.0.items, c.in_ok-ours.theirs.1.items)) in
    let p = err_from_is_err_and c.from_residual-in_err-write_bytes.result c.from_residual-in_err-write_bytes.ensures.1 in
    rw p.1
    (union_prefix (both_in c.args.first.now.metadata (g.R.ReadAt.bytes c.args.reader.now) c.args.second.now.metadata (g.Q.ReadAt.bytes c.args.other.now)) both c.args.first.now.metadata.shard_creation_timestamp c.args.second.now.metadata.shard_creation_timestamp
    c.in_ok-encoding.info c.in_ok-encoding.encoding.items c.deref.result.now (g.W.Sink.written c.args.sink.now) (g.W.Sink.written c.write_bytes.new.sink) (c.in_ok-ours.ensures.exact told also) c.in_ok-encoding.ensures.encoding c.deref.ensures.value (c.in_err-write_bytes.ensures.prefix wrote))

pub returns-in_err-ours-clause-errors : goal.returns-in_err-ours-clause-errors
returns-in_err-ours-clause-errors g c =
    let p = err_from_is_err_and c.from_residual.result c.from_residual.ensures.1 in
    let e = c.in_err-ours.field-0.0 in
    rw (p.1, p.2) (export_union e (reading_export e c.in_err-ours.ensures.errors))

pub returns-in_err-encoding-clause-errors : goal.returns-in_err-encoding-clause-errors
returns-in_err-encoding-clause-errors g c =
    let both : ShardRecords × ShardRecords = ((c.in_ok-ours.ours.0.items, c.in_ok-ours.ours.1.items), (c.in_ok-ours.theirs.0.items, c.in_ok-ours.theirs.1.items)) in
    let p = err_from_is_err_and c.from_residual-in_err-encoding.result c.from_residual-in_err-encoding.ensures.1 in
    rw (p.1, p.2) (encoding_union both c.args.first.now.metadata.shard_creation_timestamp c.args.second.now.metadata.shard_creation_timestamp c.in_err-encoding.field-0.0 c.in_err-encoding.ensures.refused)

pub returns-in_err-write_bytes-clause-errors : goal.returns-in_err-write_bytes-clause-errors
returns-in_err-write_bytes-clause-errors g c =
    let p = err_from_is_err_and c.from_residual-in_err-write_bytes.result c.from_residual-in_err-write_bytes.ensures.1 in
    let e = c.in_err-write_bytes.field-0.0 in
    rw (p.1, p.2) (export_union e (writing_export e c.in_err-write_bytes.ensures.errors))
