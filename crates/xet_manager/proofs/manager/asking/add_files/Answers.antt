use Rattle.std.proofs.Common.{◌∙◌, arith, refl}
use Rattle.xet_manager.proofs.Listing.{added_more, added_none, fails_at}
use Rattle.xet_base.specs.theorems.Exits.{on_exit}
use Rattle.xet_hash.specs.declared.error.StoreError.TheVariants.{OutOfMemory}
use Rattle.xet_manager.specs.Manager.{FailsAt}
use Rattle.xet_manager.proofs.manager.asking.add_files.Goals as goal

pub loop-shard-init : goal.loop-shard-init
loop-shard-init g c = record {
  added = λ told. added_none (g.D.Disk.files c.args.disk.now) c.args.infos.now.items;
  frame = record { same = refl; tells = refl; later = omega arith };
}

pub loop-shard-preserved : goal.loop-shard-preserved
loop-shard-preserved g c =
    let i = c.loop-shard.invariant in
    let done = c.in_ok-found.ensures in
    let files = g.D.Disk.files c.args.disk.now in
    record {
      added = λ told.
          added_more files c.args.shards.now c.args.infos.now.items c.loop-shard.infos.items c.loop-shard.shard-index c.shard-item.result c.loop-shard-test.true c.shard-item.is (i.added told) c.in_ok-found.found.items c.append.new.self.items
          (rw i.frame.same at done.exact (i.frame.tells ∙ told)) c.in_ok-append.ensures.items;
      frame = record { same = done.frame.same ∙ i.frame.same; tells = done.frame.tells ∙ i.frame.tells; later = omega (arith, i.frame.later, done.frame.later) };
    }

pub returns-in_err-found-clause-failed : goal.returns-in_err-found-clause-failed
returns-in_err-found-clause-failed g c = λ told.
    let i = c.loop-shard.invariant in
    let files = g.D.Disk.files c.args.disk.now in
    let e = c.in_err-found.field-0.0 in
    on_exit c.from_residual.result e (FailsAt files c.args.shards.now) c.from_residual.ensures.1
    (fails_at files c.args.shards.now c.args.infos.now.items c.loop-shard.infos.items c.loop-shard.shard-index c.shard-item.result e c.loop-shard-test.true c.shard-item.is (i.added told)
    (rw i.frame.same at c.in_err-found.ensures.exact (i.frame.tells ∙ told)))

pub returns-in_err-append-clause-failed : goal.returns-in_err-append-clause-failed
returns-in_err-append-clause-failed g c = λ told.
    let files = g.D.Disk.files c.args.disk.now in
    on_exit c.from_residual-in_err-append.result OutOfMemory (FailsAt files c.args.shards.now) c.from_residual-in_err-append.ensures.1
    (fails_at files c.args.shards.now c.args.infos.now.items c.loop-shard.infos.items c.loop-shard.shard-index c.shard-item.result OutOfMemory c.loop-shard-test.true c.shard-item.is (c.loop-shard.invariant.added told) tt)
