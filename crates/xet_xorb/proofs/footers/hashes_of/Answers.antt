use Rattle.std.proofs.Common.{◌∙◌, List, ap, map, ℕ}
use Rattle.std.proofs.lemmas.List.{take_all}
use Rattle.xet_xorb.proofs.Mapped.{one_mapped}
use Rattle.xet_xorb.proofs.footers.hashes_of.Goals as goal

abbrev hash_in : List ℕ × ℕ → List ℕ
hash_in m = m.0

pub loop-leaf-preserved : goal.loop-leaf-preserved
loop-leaf-preserved c =
    one_mapped hash_in c.args.leaves.now c.loop-leaf.leaf-index c.leaf-item.result c.loop-leaf.hashes.items c.push.new.self.items c.loop-leaf-test.true c.leaf-item.is c.in_ok-push.ensures.items c.loop-leaf.invariant

pub returns-clause-hashes : goal.returns-clause-hashes
returns-clause-hashes c = c.loop-leaf.invariant ∙ ap (map hash_in) (take_all c.loop-leaf.leaf-index c.args.leaves.now c.loop-leaf-test.false)
