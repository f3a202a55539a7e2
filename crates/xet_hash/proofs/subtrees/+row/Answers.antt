use Rattle.std.proofs.Common.{ℕ, ◌+◌, ◌-◌, ◌*◌, ◌∙◌, ap, arith, length, length-drop}
use Rattle.xet_hash.proofs.Rows.{chunk_is_subtree, parent_in_rest}
use Rattle.xet_hash.proofs.Tree.{halves}
use Rattle.xet_hash.proofs.Vectors.{up_to_last}
use Rattle.xet_hash.proofs.subtrees.+row.Goals as goal

pub returns-then-level-eq0 : goal.returns-then-level-eq0
returns-then-level-eq0 t c j h =
    chunk_is_subtree c.args.key.now c.args.flags c.args.bytes.now c.args.level _ _ _ (omega arith) (c.chunk_lanes.ensures j h)

pub split_at-requires : goal.split_at-requires
split_at-requires t c =
    let two = halves c.args.level (c.args.level - 1) (omega arith) in omega arith

pub row-left-requires : goal.row-left-requires
row-left-requires t c =
    let two = halves c.args.level (c.args.level - 1) (omega arith) in (omega arith, (omega arith, omega arith))

pub row-right-requires : goal.row-right-requires
row-right-requires t c =
    let two = halves c.args.level (c.args.level - 1) (omega arith) in
    let rest = ap length c.split_at.ensures.back ∙ length-drop c.subtree_len.result c.args.bytes.now in
    (omega arith, (omega arith, omega arith))

pub returns : goal.returns
returns t c j h =
    let apart = c.args.apart in
    let level = c.args.level in
    let below : ℕ = c.args.level - 1 in
    let two = halves level below (omega arith) in
    let last = up_to_last j (1024 * apart) h in
    parent_in_rest c.args.key.now c.args.flags c.args.bytes.now _ level below (c.args.index + j * apart) (j * (1024 * apart)) _ _ _ _ _
    (omega arith) c.split_at.ensures.back (omega arith) (omega arith) (omega arith) (c.row-left.ensures j h) (c.row-right.ensures j h) (c.parent_lanes.ensures j h)
