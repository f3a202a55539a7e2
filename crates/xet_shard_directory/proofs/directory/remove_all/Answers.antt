use Rattle.std.proofs.Common.{◌≡◌, ◌⊎◌, ◌∙◌, List, ℕ, refl, subst, sym, arith}
use Rattle.xet_io.specs.Disk.{removed}
use Rattle.xet_shard_directory.proofs.Removed.{removed_more, removed_none, removed_some}
use Rattle.xet_shard_directory.proofs.directory.remove_all.Goals as goal

pub loop-shard-init : goal.loop-shard-init
loop-shard-init g c = record {
  removed = λ told. sym (removed_none (g.D.Disk.files c.args.disk.now));
  tells = refl;
  later = omega arith;
}

pub loop-shard-preserved : goal.loop-shard-preserved
loop-shard-preserved g c =
    let i = c.loop-shard.invariant in
    let done = c.in_default.ensures in
    let here = g.D.Disk.files c.loop-shard.disk in
    let new = g.D.Disk.files c.remove.new.self in
    record {
      removed = λ told.
          removed_more (g.D.Disk.files c.args.disk.now) c.args.shards.now c.loop-shard.shard-index c.shard-item.result here new c.loop-shard-test.true c.shard-item.is (i.removed told)
          (subst (λ (p : List ℕ). new ≡ removed here p) c.as_str.ensures (done.told (i.tells ∙ told)).1);
      tells = done.tells ∙ i.tells;
      later = omega (arith, done.cause.later, i.later);
    }

pub returns-in-Err-clause-kept : goal.returns-in-Err-clause-kept
returns-in-Err-clause-kept g c = λ told.
    let i = c.loop-shard.invariant in
    let here = g.D.Disk.files c.loop-shard.disk in
    let new = g.D.Disk.files c.remove.new.self in
    removed_some (g.D.Disk.files c.args.disk.now) c.args.shards.now c.loop-shard.shard-index c.shard-item.result here new c.loop-shard-test.true c.shard-item.is (i.removed told)
    (subst (λ (p : List ℕ). (new ≡ here) ⊎ (new ≡ removed here p)) c.as_str.ensures (c.in-Err.ensures.told (i.tells ∙ told)))
