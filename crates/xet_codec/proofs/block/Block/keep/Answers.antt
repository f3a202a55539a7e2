use Rattle.xet_codec.proofs.Blocks.{kept_is}
use Rattle.std.proofs.Common.{◌-◌, arith}
use Rattle.xet_codec.proofs.block.Block.keep.Goals as goal

pub returns-clause-kept : goal.returns-clause-kept
returns-clause-kept c = λ bytes is.
    let b = c.args.self.now in
    kept_is b bytes _ c.args.at (c.len-len.result - (c.args.at - b.from)) _ is (record { from = omega arith; to = omega arith }) (omega arith) (omega (arith, b.bytes.ok.0)) c.copy_within.ensures.items
