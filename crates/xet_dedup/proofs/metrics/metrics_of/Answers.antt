use Rattle.std.proofs.Common.{◌<◌, length, refl, ap, arith}
use Rattle.std.proofs.lemmas.List.{take_rest}
use Rattle.xet_hash.specs.Merkle.{total_len}
use Rattle.xet_dedup.proofs.Counting.{counted_end, counted_start, counted_step, has_room, total_len_drop, total_len_small}
use Rattle.xet_dedup.proofs.metrics.metrics_of.Goals as goal

pub run_bytes-run_bytes-requires : goal.run_bytes-run_bytes-requires
run_bytes-run_bytes-requires c =
    let leaves = c.args.leaves.now in
    let at = c.chunks.at in
    omega (arith, ap total_len (take_rest leaves at), total_len_drop leaves at, total_len_small leaves c.requires.small, c.requires.few)

pub count-requires : goal.count-requires
count-requires c =
    let leaves = c.args.leaves.now in
    let short = c.requires.few in
    has_room c.chunks.metrics leaves c.args.choices.now c.args.global_chunks c.args.global_bytes c.chunks.at _ c.index-leaves-at.result c.chunks-test.true refl
    (omega (arith, total_len_small leaves c.requires.small, short)) (omega (arith, short)) c.chunks.invariant

pub chunks-init : goal.chunks-init
chunks-init c = rw c.default.ensures (counted_start c.args.leaves.now c.args.choices.now c.args.global_chunks c.args.global_bytes)

pub chunks-preserved : goal.chunks-preserved
chunks-preserved c =
    let leaves = c.args.leaves.now in
    let choices = c.args.choices.now in
    let at = c.chunks.at in
    let here : at < length choices = omega (arith, c.requires.each, c.chunks-test.true) in
    rw c.count.ensures
    (counted_step c.chunks.metrics _ leaves _ choices at c.run_of.result c.run_bytes-run_bytes.result c.index-leaves-at.result _ c.chunks-test.true here (take_rest leaves at)
    c.run_of.ensures c.run_bytes-run_bytes.ensures c.chunks.invariant)

pub returns : goal.returns
returns c =
    counted_end c.chunks.metrics _ c.args.leaves.now c.args.choices.now c.chunks.at c.chunks-test.false (omega (arith, c.requires.each, c.chunks-test.false)) c.chunks.invariant
