use Rattle.std.proofs.Common.{◌-◌, ◌∙◌, sym, arith}
use Rattle.xet_hash.proofs.Tree.{halves, subtree_chunk, subtree_small, subtree_split}
use Rattle.xet_hash.proofs.subtrees.+tree.Goals as goal

pub returns-then-level-eq0 : goal.returns-then-level-eq0
returns-then-level-eq0 t c = c.chunk.ensures ∙ sym (subtree_chunk _ _ _ _ _ c.args.level (omega arith))

pub tree-requires : goal.tree-requires
tree-requires t c =
    let two = halves c.args.level (c.args.level - 1) (omega arith) in (omega arith, (omega arith, (omega arith, omega arith)))

pub returns-then-bytes-half : goal.returns-then-bytes-half
returns-then-bytes-half t c = c.tree.ensures ∙ sym (subtree_small _ _ _ _ _ c.args.level _ (omega arith) (omega arith))

pub tree-right-requires : goal.tree-right-requires
tree-right-requires t c =
    let two = halves c.args.level (c.args.level - 1) (omega arith) in (omega arith, (omega arith, (omega arith, omega arith)))

pub returns : goal.returns
returns t c =
    let long = c.if-bytes-half.false in
    c.parent.ensures
    ∙ rw (c.full_subtree-left.ensures, c.tree-right.ensures, c.chunk_count.ensures, c.split_at.ensures.front, c.split_at.ensures.back, c.subtree_len-half.ensures)
    (sym (subtree_split c.args.key.now c.args.flags c.args.last c.args.index c.args.bytes.now c.args.level (c.args.level - 1) (omega arith) (omega arith)))
