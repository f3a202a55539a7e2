use Rattle.std.specs.Prelude.{Vec}
use Rattle.std.specs.Global.{Global}
use Rattle.std.proofs.Common.{◌≡◌, ◌∙◌, ◌<◌, ◌≤◌, ◌^◌, ℕ, Bool, List, IfOk, OnErr, Result, Ok, Err, inl, inr, take, sym, subst, arith}
use Rattle.xet_hash.specs.declared.error.StoreError.{StoreError}
use Rattle.xet_io.specs.Disk.{Files}
use Rattle.xet_shard_directory.specs.Directories.{all_removed, paths}
use Rattle.xet_shard_directory.specs.declared.shard_file.MDBShardFile.{MDBShardFile}
use Rattle.xet_shard_merge.specs.Contents.{ListSame, ListsMore}
use Rattle.xet_shard_merge.specs.Merging.{Consolidates, KeptOrConsolidated, MergesWithin}
use Rattle.xet_shard_merge.specs.declared.merge.ShardMergeResult.{ShardMergeResult}
use Rattle.xet_shard_merge.proofs.Among.{among_take}
use Rattle.xet_shard_merge.proofs.Consolidated.{kept_more, kept_same, removed_more, removed_same}
use Rattle.xet_shard_merge.proofs.Listing.{PartsAreRead}
use Rattle.xet_shard_merge.proofs.consolidation.consolidate_shards_in_directory.Goals as goal

module _ (old between new : Files) (folder : List ℕ) (max_size : ℕ) (skip : Bool) (now : ℕ) (m : ShardMergeResult) (merges : MergesWithin old between folder max_size skip now m) where
  consolidated : (result : Result (Vec MDBShardFile Global) StoreError) → IfOk result (λ rs. rs.items ≡ m.merged_shards.items) → IfOk result (λ rs. new ≡ all_removed between (paths m.obsolete_shards.items))
      → IfOk result (λ rs. Consolidates old new folder max_size skip now rs.items)
  consolidated (Ok rs) merged removed = record { between = between; merge = m; merges = merges; removes = removed; merged = merged }
  consolidated (Err e) merged removed = tt

  kept : (result : Result (Vec MDBShardFile Global) StoreError) → OnErr result ((n : ℕ) × (new ≡ all_removed between (take n (paths m.obsolete_shards.items))))
      → OnErr result (KeptOrConsolidated old new folder max_size skip now)
  kept (Ok rs) some = tt
  kept (Err e) (n, some) = inr (between, m, n, merges, some)

  -- the same is listed, however many were removed
  listed : PartsAreRead → now < 2 ^ 64 → (result : Result (Vec MDBShardFile Global) StoreError) → IfOk result (λ rs. new ≡ all_removed between (paths m.obsolete_shards.items))
      → OnErr result ((n : ℕ) × (new ≡ all_removed between (take n (paths m.obsolete_shards.items)))) → ListSame old new folder now
  listed parts below (Ok rs) all some =
      subst (λ (fs : Files). ListSame old fs folder now) (sym all) (removed_same parts folder max_size now old between skip m merges (paths m.obsolete_shards.items) (λ name a. a) below)
  listed parts below (Err e) all (n, some) =
      subst (λ (fs : Files). ListSame old fs folder now) (sym some)
      (removed_same parts folder max_size now old between skip m merges (take n (paths m.obsolete_shards.items)) (λ name a. among_take n (paths m.obsolete_shards.items) name a) below)

  lasts : PartsAreRead → (result : Result (Vec MDBShardFile Global) StoreError) → IfOk result (λ rs. new ≡ all_removed between (paths m.obsolete_shards.items))
      → OnErr result ((n : ℕ) × (new ≡ all_removed between (take n (paths m.obsolete_shards.items)))) → (time : ℕ) → now ≤ time → time < 2 ^ 64 → ListsMore old new folder time
  lasts parts (Ok rs) all some time later below =
      subst (λ (fs : Files). ListsMore old fs folder time) (sym all)
      (removed_more parts folder max_size now old between skip m merges (paths m.obsolete_shards.items) (λ name a. a) time later below)
  lasts parts (Err e) all (n, some) time later below =
      subst (λ (fs : Files). ListsMore old fs folder time) (sym some)
      (removed_more parts folder max_size now old between skip m merges (take n (paths m.obsolete_shards.items)) (λ name a. among_take n (paths m.obsolete_shards.items) name a) time later below)

pub returns-in-Ok-clause-consolidated : goal.returns-in-Ok-clause-consolidated
returns-in-Ok-clause-consolidated g c = λ tells.
    let files = g.D.Disk.files in
    let merge = c.in-Ok.ensures in
    consolidated (files c.args.disk.now) (files c.merge_shards.new.disk) (files c.remove_obsolete.new.disk) c.args.dir.now c.args.max_size c.args.skip_on_error c.args.now c.in-Ok.merge
    (record { merges = merge.merged tells; keeps = merge.keeps tells; adds = merge.adds tells; writes = merge.writes tells }) c.remove_obsolete.result c.remove_obsolete.ensures.merged (c.remove_obsolete.ensures.removed (merge.frame.tells ∙ tells))

pub returns-in-Ok-clause-kept : goal.returns-in-Ok-clause-kept
returns-in-Ok-clause-kept g c = λ tells.
    let files = g.D.Disk.files in
    let merge = c.in-Ok.ensures in
    kept (files c.args.disk.now) (files c.merge_shards.new.disk) (files c.remove_obsolete.new.disk) c.args.dir.now c.args.max_size c.args.skip_on_error c.args.now c.in-Ok.merge
    (record { merges = merge.merged tells; keeps = merge.keeps tells; adds = merge.adds tells; writes = merge.writes tells }) c.remove_obsolete.result (c.remove_obsolete.ensures.kept (merge.frame.tells ∙ tells))

pub returns-in-Err-clause-kept : goal.returns-in-Err-clause-kept
returns-in-Err-clause-kept g c = λ tells. inl (c.in-Err.ensures.keeps tells, c.in-Err.ensures.writes tells)

pub returns-in-Ok-clause-listed : goal.returns-in-Ok-clause-listed
returns-in-Ok-clause-listed g c = λ tells.
    let files = g.D.Disk.files in
    let merge = c.in-Ok.ensures in
    let parts : PartsAreRead = record { info = c.parts_are_read.ensures.info; files = c.parts_are_read.ensures.files; blocks = c.parts_are_read.ensures.blocks } in
    listed (files c.args.disk.now) (files c.merge_shards.new.disk) (files c.remove_obsolete.new.disk) c.args.dir.now c.args.max_size c.args.skip_on_error c.args.now c.in-Ok.merge
    (record { merges = merge.merged tells; keeps = merge.keeps tells; adds = merge.adds tells; writes = merge.writes tells }) parts (omega arith) c.remove_obsolete.result
    (c.remove_obsolete.ensures.removed (merge.frame.tells ∙ tells)) (c.remove_obsolete.ensures.kept (merge.frame.tells ∙ tells))

pub returns-in-Err-clause-listed : goal.returns-in-Err-clause-listed
returns-in-Err-clause-listed g c = λ tells.
    let files = g.D.Disk.files in
    let parts : PartsAreRead = record { info = c.parts_are_read.ensures.info; files = c.parts_are_read.ensures.files; blocks = c.parts_are_read.ensures.blocks } in
    kept_same parts c.args.dir.now c.args.max_size c.args.now (files c.args.disk.now) (files c.merge_shards.new.disk) c.args.skip_on_error (c.in-Err.ensures.keeps tells) (c.in-Err.ensures.writes tells)

pub returns-in-Ok-clause-lasts : goal.returns-in-Ok-clause-lasts
returns-in-Ok-clause-lasts g c = λ tells time later below.
    let files = g.D.Disk.files in
    let merge = c.in-Ok.ensures in
    let parts : PartsAreRead = record { info = c.parts_are_read.ensures.info; files = c.parts_are_read.ensures.files; blocks = c.parts_are_read.ensures.blocks } in
    lasts (files c.args.disk.now) (files c.merge_shards.new.disk) (files c.remove_obsolete.new.disk) c.args.dir.now c.args.max_size c.args.skip_on_error c.args.now c.in-Ok.merge
    (record { merges = merge.merged tells; keeps = merge.keeps tells; adds = merge.adds tells; writes = merge.writes tells }) parts c.remove_obsolete.result
    (c.remove_obsolete.ensures.removed (merge.frame.tells ∙ tells)) (c.remove_obsolete.ensures.kept (merge.frame.tells ∙ tells)) time later below

pub returns-in-Err-clause-lasts : goal.returns-in-Err-clause-lasts
returns-in-Err-clause-lasts g c = λ tells time later below.
    let files = g.D.Disk.files in
    let parts : PartsAreRead = record { info = c.parts_are_read.ensures.info; files = c.parts_are_read.ensures.files; blocks = c.parts_are_read.ensures.blocks } in
    kept_more parts c.args.dir.now c.args.max_size c.args.now (files c.args.disk.now) (files c.merge_shards.new.disk) (c.in-Err.ensures.keeps tells) time
