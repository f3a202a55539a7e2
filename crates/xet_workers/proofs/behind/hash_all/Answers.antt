use Rattle.std.proofs.Common.{◌++◌, ℕ, List, append_assoc, subst, sym, take}
use Rattle.std.specs.List.{concat}
use Rattle.xet_clean.specs.Policies.{HasBytes}
use Rattle.xet_workers.proofs.Hashing.{concat_more}
use Rattle.xet_workers.proofs.behind.hash_all.Goals as goal

pub loop-block-preserved : goal.loop-block-preserved
loop-block-preserved c = λ before has.
    let i = c.loop-block.block-index in
    let blocks = c.args.blocks.now in
    let now = c.update.new.self in
    let done = concat (take i blocks) in
    subst (λ (bytes : List ℕ). HasBytes now (before ++ bytes)) (sym (concat_more blocks i c.block-item.result c.loop-block-test.true c.block-item.is))
    (subst (HasBytes now) (append_assoc before done c.block-item.result)
    (subst (λ (bytes : List ℕ). HasBytes now ((before ++ done) ++ bytes)) c.as_slice.ensures (c.update.ensures (before ++ done) (c.loop-block.invariant before has))))
