use Rattle.xet_shard_merge.proofs.Placing.{added_writes}
use Rattle.xet_shard_merge.proofs.Preserved.{added_preserves, added_results, added_stands}
use Rattle.xet_shard_merge.proofs.writing.write_new.Goals as goal

pub returns-clause-stands : goal.returns-clause-stands
returns-clause-stands g c = λ tells.
    let files = g.D.Disk.files in
    added_stands (files c.args.disk.now) (files c.add_shard_file.new.disk) c.args.target.now c.args.bytes.now c.add_shard_file.result (c.add_shard_file.ensures.added tells)

pub returns-clause-adds : goal.returns-clause-adds
returns-clause-adds g c = λ tells.
    let files = g.D.Disk.files in
    added_results (files c.args.disk.now) (files c.add_shard_file.new.disk) c.args.target.now c.args.bytes.now c.add_shard_file.result (c.add_shard_file.ensures.added tells)

pub returns-clause-keeps : goal.returns-clause-keeps
returns-clause-keeps g c = λ tells.
    let files = g.D.Disk.files in
    let call = c.add_shard_file.ensures in
    added_preserves (files c.args.disk.now) (files c.add_shard_file.new.disk) c.args.target.now c.args.bytes.now c.add_shard_file.result (call.added tells) (call.refused tells) (call.kept tells)

pub returns-clause-writes : goal.returns-clause-writes
returns-clause-writes g c = λ tells.
    let files = g.D.Disk.files in
    let call = c.add_shard_file.ensures in
    added_writes (files c.args.disk.now) (files c.add_shard_file.new.disk) c.args.target.now c.args.bytes.now c.add_shard_file.result (call.added tells) (call.refused tells)
