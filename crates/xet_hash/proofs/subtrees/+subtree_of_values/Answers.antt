use Rattle.std.proofs.Common.{◌≡◌, ℕ, ◌-◌, ◌*◌, ◌∙◌, ap, sym, arith}
use Rattle.xet_hash.proofs.Rows.{values_of_rest, values_of_prefix, value_of_chunk}
use Rattle.xet_hash.proofs.Tree.{halves, subtree_chunk, subtree_small, subtree_split}
use Rattle.xet_hash.specs.Blake3.{chunk_value}
use Rattle.xet_hash.proofs.subtrees.+subtree_of_values.Goals as goal

pub returns-then-bytes-eq-CHUNK_LEN : goal.returns-then-bytes-eq-CHUNK_LEN
returns-then-bytes-eq-CHUNK_LEN t c =
    let inner : c.args.last ≡ 0 = omega arith in
    c.lane_value.ensures
    ∙ value_of_chunk c.args.values.now c.args.at c.args.key.now c.args.flags c.args.index c.args.bytes.now (omega arith) c.requires.values
    ∙ ap (λ (last : ℕ). chunk_value c.args.key.now c.args.flags last c.args.index c.args.bytes.now) (sym inner)
    ∙ sym (subtree_chunk c.args.key.now c.args.flags c.args.last c.args.index c.args.bytes.now c.args.level (omega arith))

pub returns-then-level-eq0 : goal.returns-then-level-eq0
returns-then-level-eq0 t c = c.chunk.ensures ∙ sym (subtree_chunk _ _ _ _ _ c.args.level (omega arith))

pub subtree_of_values-requires : goal.subtree_of_values-requires
subtree_of_values-requires t c =
    let two = halves c.args.level (c.args.level - 1) (omega arith) in
    (omega arith, (omega arith, (omega arith, (omega arith, (omega arith, c.requires.values)))))

pub returns-then-bytes-half : goal.returns-then-bytes-half
returns-then-bytes-half t c = c.subtree_of_values.ensures ∙ sym (subtree_small _ _ _ _ _ c.args.level _ (omega arith) (omega arith))

pub subtree_of_values-left-requires : goal.subtree_of_values-left-requires
subtree_of_values-left-requires t c =
    let two = halves c.args.level (c.args.level - 1) (omega arith) in (
      omega arith,
      (
        omega arith,
        (
          omega arith,
          (
            omega arith,
            (
              omega arith,
              values_of_prefix c.args.values.now c.args.at c.args.key.now c.args.flags c.args.index c.args.bytes.now c.split_at.result.0.now
                  c.subtree_len-half.result c.split_at.ensures.front c.requires.values,
            ),
          ),
        ),
      ),
    )

pub subtree_of_values-right-requires : goal.subtree_of_values-right-requires
subtree_of_values-right-requires t c =
    let two = halves c.args.level (c.args.level - 1) (omega arith) in
    let chunks : c.subtree_len-half.result ≡ 1024 * c.chunk_count-count.result = omega arith in (
      omega arith,
      (
        omega arith,
        (
          omega arith,
          (
            omega arith,
            (
              omega arith,
              values_of_rest c.args.values.now c.args.at c.args.key.now c.args.flags c.args.index c.args.bytes.now c.split_at.result.1.now
                  c.chunk_count-count.result c.subtree_len-half.result c.split_at.ensures.back chunks c.requires.values,
            ),
          ),
        ),
      ),
    )

pub returns : goal.returns
returns t c =
    let long = c.if-bytes-half.false in
    c.parent.ensures
    ∙ rw (c.subtree_of_values-left.ensures, c.subtree_of_values-right.ensures, c.chunk_count-count.ensures, c.split_at.ensures.front, c.split_at.ensures.back, c.subtree_len-half.ensures)
    (sym (subtree_split c.args.key.now c.args.flags c.args.last c.args.index c.args.bytes.now c.args.level (c.args.level - 1) (omega arith) (omega arith)))
