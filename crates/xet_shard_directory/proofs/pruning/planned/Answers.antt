use Rattle.std.proofs.Common.{◌≡◌, ◌++◌, ◌∙◌, List, ap, subst, sym}
use Rattle.std.proofs.lemmas.List.Kept.{AllPairs-filter}
use Rattle.std.proofs.lemmas.Result.{IfOk-weaker}
use Rattle.std.specs.List.{AllPairs}
use Rattle.xet_shard_directory.specs.Directories.{IsBeforeByPath, Prunes, is_loaded}
use Rattle.xet_shard_directory.specs.declared.pruning.Plan.{Plan}
use Rattle.xet_shard_directory.specs.declared.shard_file.MDBShardFile.{MDBShardFile}
use Rattle.xet_shard_directory.specs.internal.Folders.{Plans}
use Rattle.xet_shard_directory.proofs.pruning.planned.Goals as goal

pub returns : goal.returns
returns c = λ up.
    let read = c.args.read.items in
    let limit = c.args.prune_to in
    let parted = c.in_ok-parted.parted in
    let kept = c.in_ok-parted.ensures.kept in
    let loaded = is_loaded c.args.load_expired c.args.now in
    IfOk-weaker c.prune.result (λ (after : Plan). (pruned : List MDBShardFile) × Prunes limit parted.kept.items after.kept.items pruned × (after.removed.items ≡ parted.removed.items ++ pruned))
    (λ (after : Plan). Plans c.args.load_expired c.args.prune_expired limit c.args.buffer c.args.now read after.kept.items after.removed.items)
    (λ after (pruned, prunes, removed). (
      pruned,
      subst (λ (xs : List MDBShardFile). Prunes limit xs after.kept.items pruned) kept prunes,
      removed ∙ ap (λ (xs : List MDBShardFile). xs ++ pruned) c.in_ok-parted.ensures.removed,
    ))
    (c.prune.ensures (subst (AllPairs IsBeforeByPath) (sym kept) (AllPairs-filter IsBeforeByPath loaded read up)))
