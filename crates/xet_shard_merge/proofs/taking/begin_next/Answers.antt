use Rattle.xet_shard_merge.proofs.Stepping.{begun, open_later}
use Rattle.xet_shard_merge.proofs.taking.begin_next.Goals as goal

pub returns-in-Ok-clause-begun : goal.returns-in-Ok-clause-begun
returns-in-Ok-clause-begun g c = λ tells.
    begun (g.D.Disk.files c.args.disk.now) (g.D.Disk.files c.close.new.disk) c.args.target.now c.args.progress.now c.close.new.self _ c.begin.result c.begin.new.self
    (c.in-Ok.ensures.closed tells) c.begin.ensures.begun

pub returns-in-Err-clause-intact : goal.returns-in-Err-clause-intact
returns-in-Err-clause-intact g c = λ tells start keeps intact.
    c.in-Err.ensures.intact tells (open_later start (g.D.Disk.files c.args.disk.now) keeps c.args.progress.now.open intact)
