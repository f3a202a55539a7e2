use Rattle.std.proofs.Common.{◌∙◌, ◌+◌, ◌-◌, ap, arith}
use Rattle.xet_xorb_chunk.specs.Chunks.{total}
use Rattle.xet_open_block.proofs.Runs.{total-part}
use Rattle.xet_open_block.proofs.block.OpenBlock.bytes_of.Goals as goal

pub total_bytes-requires : goal.total_bytes-requires
total_bytes-requires c =
    omega (arith, total-part c.deref.result.now c.args.start (c.args.start + c.args.count - c.args.start), ap total c.deref.ensures.value, c.self.invariant.sum, c.self.invariant.small)

pub returns-clause-bound : goal.returns-clause-bound
returns-clause-bound c =
    omega (arith, c.total_bytes.ensures, total-part c.deref.result.now c.args.start (c.args.start + c.args.count - c.args.start), ap total (c.deref.ensures.value ∙ c.self.view_is))
