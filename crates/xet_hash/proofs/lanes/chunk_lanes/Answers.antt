use Rattle.std.proofs.Common.{◌≡◌, ◌+◌, ◌*◌, ◌∙◌, arith, refl}
use Rattle.xet_hash.proofs.Vectors.{chunk_lane_next, chunk_lane_done, up_to_last}
use Rattle.xet_hash.specs.Blake3.{chunk_after}
use Rattle.xet_hash.proofs.lanes.chunk_lanes.Goals as goal

pub blocks-2-init : goal.blocks-2-init
unfolding chunk_after
blocks-2-init c = c.spread-h.ensures

pub blocks-2-preserved : goal.blocks-2-preserved
blocks-2-preserved c j h =
    chunk_lane_next c.args.key.now c.args.flags (c.args.index + j * c.args.apart) c.args.bytes.now (j * (1024 * c.args.apart)) c.blocks-2.n _ _ (omega arith)
    (c.blocks-2.invariant j h)
    (c.add_block.ensures j (c.args.index + j * c.args.apart) h (c.counters_low-low.ensures j h) (c.counters_high-high.ensures j h)
    ∙ rw c.start_flag.ensures refl)

pub returns : goal.returns
returns c j h =
    let done : c.blocks-2.n ≡ 15 = omega arith in
    let last = up_to_last j (1024 * c.args.apart) h in
    chunk_lane_done c.args.key.now c.args.flags (c.args.index + j * c.args.apart) c.args.bytes.now (j * (1024 * c.args.apart)) _ _ (omega arith)
    (rw done at (c.blocks-2.invariant j h))
    (c.add_block-2.ensures j (c.args.index + j * c.args.apart) h (c.counters_low-low.ensures j h) (c.counters_high-high.ensures j h))
