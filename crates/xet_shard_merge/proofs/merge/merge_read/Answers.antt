use Rattle.std.proofs.Common.{map}
use Rattle.xet_shard_merge.specs.internal.Progressing.{offered_of}
use Rattle.xet_shard_merge.proofs.Merged.{merged_if, none_went, short_of_memory}
use Rattle.xet_shard_merge.proofs.merge.merge_read.Goals as goal

pub returns-in-Ok-clause-merged : goal.returns-in-Ok-clause-merged
returns-in-Ok-clause-merged g c = λ tells intact.
    let files = g.D.Disk.files c.args.disk.now in
    let all = map (offered_of files) c.args.shards.items in
    let new = c.new-progress.ensures in
    let p = c.take_all.new.progress in
    let made = c.result_of.ensures in
    let went = none_went files c.args.target.now c.args.limit c.args.skip_on_error all c.new-progress.result new.open new.taken new.merged new.skipped in
    merged_if files (g.D.Disk.files c.take_all.new.disk) c.args.target.now c.args.limit c.args.skip_on_error all p c.result_of.result (c.in-Ok.ensures.ended tells files all intact went) made.merged made.obsolete made.skipped

pub returns-in-Ok-clause-refused : goal.returns-in-Ok-clause-refused
returns-in-Ok-clause-refused g c = λ tells intact.
    short_of_memory c.args.skip_on_error (map (offered_of (g.D.Disk.files c.args.disk.now)) c.args.shards.items) c.result_of.result c.result_of.ensures.memory

pub returns-in-Err-clause-refused : goal.returns-in-Err-clause-refused
returns-in-Err-clause-refused g c = λ tells intact.
    let files = g.D.Disk.files c.args.disk.now in
    let all = map (offered_of files) c.args.shards.items in
    let new = c.new-progress.ensures in
    c.in-Err.ensures.refused tells files all intact (none_went files c.args.target.now c.args.limit c.args.skip_on_error all c.new-progress.result new.open new.taken new.merged new.skipped)

pub returns-in-Ok-clause-writes : goal.returns-in-Ok-clause-writes
returns-in-Ok-clause-writes g c = λ tells intact.
    let files = g.D.Disk.files c.args.disk.now in
    let all = map (offered_of files) c.args.shards.items in
    let new = c.new-progress.ensures in
    c.in-Ok.ensures.writes tells files all intact (none_went files c.args.target.now c.args.limit c.args.skip_on_error all c.new-progress.result new.open new.taken new.merged new.skipped)

pub returns-in-Err-clause-writes : goal.returns-in-Err-clause-writes
returns-in-Err-clause-writes g c = λ tells intact.
    let files = g.D.Disk.files c.args.disk.now in
    let all = map (offered_of files) c.args.shards.items in
    let new = c.new-progress.ensures in
    c.in-Err.ensures.writes tells files all intact (none_went files c.args.target.now c.args.limit c.args.skip_on_error all c.new-progress.result new.open new.taken new.merged new.skipped)
