use Rattle.std.proofs.Common.{◌≡◌, Some, refl, subst, sym}
use Rattle.xet_shard_merge.specs.internal.Keeping.{WritesIfOpen}
use Rattle.xet_shard_merge.proofs.Due.{closed}
use Rattle.xet_shard_merge.proofs.progress.Progress.close.Goals as goal

pub returns-in-Ok-clause-closed : goal.returns-in-Ok-clause-closed
returns-in-Ok-clause-closed g c = λ tells.
    let files = g.D.Disk.files in
    let opened : c.args.self.now.open ≡ Some c.in-Some.group = sym c.in-Some.ensures.value in
    closed (files c.args.disk.now) (files c.write_result.new.disk) c.args.target.now c.args.self.now (record c.args.self.now { «open» = c.take.new.self }) c.add.new.self c.in-Some.group c.in-Ok.result c.add.result opened
    (c.in-Ok.ensures.result tells) (c.in-Ok.ensures.adds tells) (c.write_result.ensures.writes tells) c.add.ensures.added c.take.ensures.after refl refl refl

pub returns-in-Err-clause-writes : goal.returns-in-Err-clause-writes
returns-in-Err-clause-writes g c = λ tells.
    let files = g.D.Disk.files in
    let opened : c.args.self.now.open ≡ Some c.in-Some.group = sym c.in-Some.ensures.value in
    subst (WritesIfOpen (files c.args.disk.now) (files c.write_result.new.disk) c.args.target.now) (sym opened) (c.write_result.ensures.writes tells)
