use Rattle.std.proofs.Common.{◌∙◌, ap, map, IfErr, IfOk, inl, subst, sym}
use Rattle.std.proofs.lemmas.Result.{IfErr-weaker, IfOk-weaker}
use Rattle.std.specs.List.{All}
use Rattle.xet_io.specs.Disk.{Files, file_at}
use Rattle.xet_shard_merge.specs.Merging.{AddsResults, IsUnmerged, Merges}
use Rattle.xet_shard_merge.specs.internal.Keeping.{IsIntact, Preserves}
use Rattle.xet_shard_merge.specs.internal.Order.{MergedAll}
use Rattle.xet_shard_merge.specs.internal.Progressing.{IsUnmergedOf, WritesOfAll, offered_of}
use Rattle.xet_shard_merge.proofs.Loading.{all_intact, offers}
use Rattle.xet_shard_merge.proofs.Merged.{may_merge, merges, unloaded, unmerged}
use Rattle.xet_shard_merge.proofs.merge.merge_shards.Goals as goal

pub returns-in-Ok-clause-merged : goal.returns-in-Ok-clause-merged
returns-in-Ok-clause-merged g c = λ tells.
    let files = g.D.Disk.files in
    let old = files c.args.disk.now in
    let new = files c.merge_read.new.disk in
    let loaded = c.in-Ok.ensures in
    let frame = loaded.frame in
    let told = loaded.told tells in
    let sorted = c.in_merge_order-shards.result.items in
    let is = offers old c.args.source.now c.args.now told.0 c.in-Ok.read.items sorted told.1 told.2 (loaded.each tells) (loaded.order tells) c.in_merge_order-shards.ensures.permutation c.in_merge_order-shards.ensures.sorted in
    let whole = all_intact old c.args.source.now c.args.now told.0 c.in-Ok.read.items sorted told.1 told.2 (loaded.each tells) (loaded.order tells) c.in_merge_order-shards.ensures.permutation c.in_merge_order-shards.ensures.sorted in
    let made = c.merge_read.ensures.merged (frame.tells ∙ tells) (subst (λ (fs : Files). All (IsIntact fs) sorted) (sym frame.same) whole) in
    IfOk-weaker c.merge_read.result (MergedAll old new c.args.target.now c.min-limit.result c.args.skip_on_error (map (offered_of old) sorted)) (Merges old new c.args.source.now c.args.target.now c.args.max_size c.args.skip_on_error c.args.now)
    (λ r m. merges old new c.args.source.now c.args.target.now c.args.max_size c.min-limit.result c.args.skip_on_error c.args.now (map (offered_of old) sorted) r c.min-limit.ensures is m)
    (subst (λ (fs : Files). IfOk c.merge_read.result (MergedAll fs new c.args.target.now c.min-limit.result c.args.skip_on_error (map (offered_of fs) sorted))) frame.same made)

pub returns-in-Ok-clause-keeps : goal.returns-in-Ok-clause-keeps
returns-in-Ok-clause-keeps g c = λ tells.
    let files = g.D.Disk.files in
    let frame = c.in-Ok.ensures.frame in
    (subst (λ (fs : Files). Preserves fs (files c.merge_read.new.disk)) frame.same (c.merge_read.ensures.keeps (frame.tells ∙ tells))).files

pub returns-in-Ok-clause-adds : goal.returns-in-Ok-clause-adds
returns-in-Ok-clause-adds g c = λ tells.
    let files = g.D.Disk.files in
    let old = files c.args.disk.now in
    let new = files c.merge_read.new.disk in
    let loaded = c.in-Ok.ensures in
    let frame = loaded.frame in
    let told = loaded.told tells in
    let sorted = c.in_merge_order-shards.result.items in
    let whole = all_intact old c.args.source.now c.args.now told.0 c.in-Ok.read.items sorted told.1 told.2 (loaded.each tells) (loaded.order tells) c.in_merge_order-shards.ensures.permutation c.in_merge_order-shards.ensures.sorted in
    let made = c.merge_read.ensures.merged (frame.tells ∙ tells) (subst (λ (fs : Files). All (IsIntact fs) sorted) (sym frame.same) whole) in
    IfOk-weaker c.merge_read.result (MergedAll old new c.args.target.now c.min-limit.result c.args.skip_on_error (map (offered_of old) sorted)) (λ r. AddsResults old new r.merged_shards.items) (λ r m. m.adds)
    (subst (λ (fs : Files). IfOk c.merge_read.result (MergedAll fs new c.args.target.now c.min-limit.result c.args.skip_on_error (map (offered_of fs) sorted))) frame.same made)

pub returns-in-Ok-clause-refused : goal.returns-in-Ok-clause-refused
returns-in-Ok-clause-refused g c = λ tells.
    let files = g.D.Disk.files in
    let old = files c.args.disk.now in
    let loaded = c.in-Ok.ensures in
    let frame = loaded.frame in
    let told = loaded.told tells in
    let sorted = c.in_merge_order-shards.result.items in
    let is = offers old c.args.source.now c.args.now told.0 c.in-Ok.read.items sorted told.1 told.2 (loaded.each tells) (loaded.order tells) c.in_merge_order-shards.ensures.permutation c.in_merge_order-shards.ensures.sorted in
    let whole = all_intact old c.args.source.now c.args.now told.0 c.in-Ok.read.items sorted told.1 told.2 (loaded.each tells) (loaded.order tells) c.in_merge_order-shards.ensures.permutation c.in_merge_order-shards.ensures.sorted in
    let failed = c.merge_read.ensures.refused (frame.tells ∙ tells) (subst (λ (fs : Files). All (IsIntact fs) sorted) (sym frame.same) whole) in
    IfErr-weaker c.merge_read.result (IsUnmergedOf c.args.skip_on_error (map (offered_of old) sorted)) (IsUnmerged old c.args.source.now c.args.skip_on_error c.args.now)
    (unmerged old c.args.source.now c.args.skip_on_error c.args.now (map (offered_of old) sorted) is)
    (subst (λ (fs : Files). IfErr c.merge_read.result (IsUnmergedOf c.args.skip_on_error (map (offered_of fs) sorted))) frame.same failed)

pub returns-in-Err-clause-refused : goal.returns-in-Err-clause-refused
returns-in-Err-clause-refused g c = λ tells. unloaded (g.D.Disk.files c.args.disk.now) c.args.source.now c.args.skip_on_error c.args.now c.in-Err.error (c.in-Err.ensures.refused tells)

pub returns-in-Err-clause-keeps : goal.returns-in-Err-clause-keeps
returns-in-Err-clause-keeps g c = λ tells name f plain there.
    ap (λ (fs : Files). file_at fs name) c.in-Err.ensures.frame.same ∙ there

pub returns-in-Ok-clause-writes : goal.returns-in-Ok-clause-writes
returns-in-Ok-clause-writes g c = λ tells.
    let files = g.D.Disk.files in
    let old = files c.args.disk.now in
    let new = files c.merge_read.new.disk in
    let loaded = c.in-Ok.ensures in
    let frame = loaded.frame in
    let told = loaded.told tells in
    let sorted = c.in_merge_order-shards.result.items in
    let is = offers old c.args.source.now c.args.now told.0 c.in-Ok.read.items sorted told.1 told.2 (loaded.each tells) (loaded.order tells) c.in_merge_order-shards.ensures.permutation c.in_merge_order-shards.ensures.sorted in
    let whole = all_intact old c.args.source.now c.args.now told.0 c.in-Ok.read.items sorted told.1 told.2 (loaded.each tells) (loaded.order tells) c.in_merge_order-shards.ensures.permutation c.in_merge_order-shards.ensures.sorted in
    let writes = c.merge_read.ensures.writes (frame.tells ∙ tells) (subst (λ (fs : Files). All (IsIntact fs) sorted) (sym frame.same) whole) in
    may_merge old new c.args.source.now c.args.target.now c.args.max_size c.min-limit.result c.args.skip_on_error c.args.now (map (offered_of old) sorted) c.min-limit.ensures is
    (subst (λ (fs : Files). WritesOfAll fs new c.args.target.now c.min-limit.result c.args.skip_on_error (map (offered_of fs) sorted)) frame.same writes)

pub returns-in-Err-clause-writes : goal.returns-in-Err-clause-writes
returns-in-Err-clause-writes g c = λ tells. inl c.in-Err.ensures.frame.same
