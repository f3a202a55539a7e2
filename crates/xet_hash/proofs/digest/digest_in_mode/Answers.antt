use Rattle.std.proofs.Common.{ℕ, List, ◌∙◌, ap, arith}
use Rattle.std.proofs.Math.Pow.{pow_mono}
use Rattle.xet_hash.proofs.Rows.{tree_at}
use Rattle.xet_hash.specs.Blake3.{output_bytes, root_node}
use Rattle.xet_hash.proofs.digest.digest_in_mode.Goals as goal

pub tree-root-requires-clause-index : goal.tree-root-requires-clause-index
tree-root-requires-clause-index c = omega (arith, pow_mono c.level_of.ensures.level)

pub returns : goal.returns
returns c =
    c.from_bytes.ensures ∙ c.bytes_of.ensures
    ∙ rw c.tree-root.ensures
    (ap (λ (h : List ℕ). output_bytes h 8)
    (tree_at c.args.key.now c.args.flags root_node 0 c.args.bytes.now c.level_of.result c.level_of.ensures.level c.level_of.ensures.fits))
