use Rattle.std.proofs.Common.{◌∙◌, List, ℕ, arith, refl, subst, true}
use Rattle.xet_base.specs.theorems.Exits.{on_exit}
use Rattle.xet_hash.specs.declared.error.StoreError.TheVariants.{OutOfMemory}
use Rattle.xet_io.specs.Disk.{Files}
use Rattle.xet_shard_directory.specs.Directories.{IsUnloaded}
use Rattle.xet_shard_registration.specs.Refreshing.{IsUnloadedAmong, LoadsValid}
use Rattle.xet_shard_registration.proofs.LoadedPaths.{loaded_more, loaded_none, loading_error, unloaded_at}
use Rattle.xet_shard_registration.proofs.refreshing.add_paths.Goals as goal

pub loop-path-init : goal.loop-path-init
loop-path-init g c = record {
  loaded = λ told. loaded_none (g.D.Disk.files c.args.disk.now) c.args.now c.args.loaded.now.items;
  frame = record { same = refl; tells = refl; later = omega arith };
}

pub returns-in_err-found-clause-refused : goal.returns-in_err-found-clause-refused
returns-in_err-found-clause-refused g c = λ told.
    let i = c.loop-path.invariant in
    let files = g.D.Disk.files c.args.disk.now in
    let here = g.D.Disk.files c.loop-path.disk in
    let path = c.path-item.result in
    let e = c.in_err-found.field-0.0 in
    let refused : IsUnloaded files path true e =
    subst (λ (fs : Files). IsUnloaded fs path true e) i.frame.same (subst (λ (p : List ℕ). IsUnloaded here p true e) c.as_str.ensures (c.in_err-found.ensures.refused (i.frame.tells ∙ told))) in
    on_exit c.from_residual.result e (IsUnloadedAmong files c.args.now c.args.paths.now) c.from_residual.ensures.1
    (unloaded_at files c.args.now c.args.paths.now c.args.loaded.now.items c.loop-path.loaded.items c.loop-path.path-index path c.loop-path-test.true c.path-item.is (i.loaded told) e refused (loading_error _ _ e c.in_err-found.ensures.reason))

pub returns-in_err-append-clause-refused : goal.returns-in_err-append-clause-refused
returns-in_err-append-clause-refused g c = λ told.
    let files = g.D.Disk.files c.args.disk.now in
    on_exit c.from_residual-in_err-append.result OutOfMemory (IsUnloadedAmong files c.args.now c.args.paths.now) c.from_residual-in_err-append.ensures.1
    (unloaded_at files c.args.now c.args.paths.now c.args.loaded.now.items c.loop-path.loaded.items c.loop-path.path-index c.path-item.result c.loop-path-test.true c.path-item.is (c.loop-path.invariant.loaded told) OutOfMemory tt tt)

pub loop-path-preserved : goal.loop-path-preserved
loop-path-preserved g c =
    let i = c.loop-path.invariant in
    let done = c.in_ok-found.ensures in
    let files = g.D.Disk.files c.args.disk.now in
    let here = g.D.Disk.files c.loop-path.disk in
    let path = c.path-item.result in
    let found = c.in_ok-found.found.items in
    record {
      loaded = λ told.
          let valid : LoadsValid files c.args.now path found =
          subst (λ (fs : Files). LoadsValid fs c.args.now path found) i.frame.same (subst (λ (p : List ℕ). LoadsValid here c.args.now p found) c.as_str.ensures (done.told (i.frame.tells ∙ told))) in
          loaded_more files c.args.now c.args.paths.now c.args.loaded.now.items c.loop-path.loaded.items c.loop-path.path-index path c.loop-path-test.true c.path-item.is (i.loaded told) found c.append.new.self.items valid
          c.in_ok-append.ensures.items;
      frame = record { same = done.frame.same ∙ i.frame.same; tells = done.frame.tells ∙ i.frame.tells; later = omega (arith, i.frame.later, done.frame.later) };
    }
