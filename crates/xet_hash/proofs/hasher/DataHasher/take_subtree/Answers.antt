use Rattle.xet_hash.proofs.Hashing.{Absorbs_taken}
use Rattle.xet_hash.proofs.hasher.DataHasher.take_subtree.Goals as goal

pub returns-clause-message : goal.returns-clause-message
returns-clause-message c = λ key flags m held.
    let pushed = c.push_value.ensures in
    Absorbs_taken c.args.self.now _ key flags c.args.level m c.args.bytes.now c.full_subtree-value.result c.requires.empty c.requires.whole c.full_subtree-value.ensures
    pushed.stack pushed.mode.0 pushed.mode.1 pushed.count pushed.chunk held
