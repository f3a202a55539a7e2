use Rattle.std.proofs.Common.{ℕ, ◌+◌, ◌-◌, ◌*◌, ◌^◌, ◌∙◌, ap₂, refl, arith}
use Rattle.xet_hash.proofs.Rows.{AreSubtreeValues, eights, parent_of_pair, parents_of_pairs, whole_is_subtree}
use Rattle.xet_hash.proofs.Tree.{halves}
use Rattle.xet_hash.specs.Blake3.{parent_value, subtree_len}
use Rattle.xet_hash.proofs.subtrees.full_subtree.Goals as goal

pub row-eight-requires-clause-room : goal.row-eight-requires-clause-room
row-eight-requires-clause-room c =
    let eight = eights c.args.level (c.args.level - 3) (omega arith) in omega arith

pub row-eight-requires-clause-index : goal.row-eight-requires-clause-index
row-eight-requires-clause-index c =
    let eight = eights c.args.level (c.args.level - 3) (omega arith) in omega arith

pub returns : goal.returns
returns c =
    let key = c.args.key.now in
    let flags = c.args.flags in
    let b = c.args.bytes.now in
    let i = c.args.index in
    let level = c.args.level in
    let l0 : ℕ = c.args.level - 3 in
    let l1 : ℕ = l0 + 1 in
    let l2 : ℕ = l0 + 2 in
    let h1 = halves l1 l0 refl in
    let h2 = halves l2 l1 (omega arith) in
    let h3 = halves level l2 (omega arith) in
    let eight : AreSubtreeValues key flags b l0 i 8 c.row-eight.result = λ j h. rw c.chunk_count.ensures at (c.row-eight.ensures j h) in
    let four : AreSubtreeValues key flags b l1 i 4 c.parents_of_pairs-four.result =
    parents_of_pairs key flags b l1 l0 i 4 _ c.parents_of_pairs-four.result refl (omega arith) eight c.parents_of_pairs-four.ensures in
    let two : AreSubtreeValues key flags b l2 i 2 c.parents_of_pairs-two.result =
    parents_of_pairs key flags b l2 l1 i 2 _ c.parents_of_pairs-two.result (omega arith) (omega arith) four
    (λ k low. c.parents_of_pairs-two.ensures k (omega arith)) in
    whole_is_subtree key flags b level i _ (omega arith)
    (parent_of_pair key flags b level l2 (i + 0 * 2 ^ l2) (0 * subtree_len l2) (i + 1 * 2 ^ l2) (1 * subtree_len l2) i 0
    _ _ _ (omega arith) (omega arith) (omega arith) (omega arith) (omega arith) (omega arith) (two 0 (omega arith)) (two 1 (omega arith))
    (c.parent.ensures ∙ ap₂ (parent_value key flags 0) c.lane_value.ensures c.lane_value-2.ensures))
