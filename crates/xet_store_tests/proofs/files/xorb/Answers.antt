use Rattle.std.proofs.Common.{arith}
use Rattle.xet_store_tests.proofs.Xorbs.{new_xorb, parts}
use Rattle.xet_store_tests.proofs.files.xorb.Goals as goal

pub from_chunks-requires : goal.from_chunks-requires
from_chunks-requires c = parts c.chunks.result c.chunks.ensures

pub returns : goal.returns
returns c =
    new_xorb (c.args.limits.now.cut_bytes, c.args.limits.now.cut_chunks) c.in_ok-raw.raw c.chunks.result c.in_ok-vec.field-0.items c.chunks.ensures c.in_ok-raw.ensures.exact c.in_ok-raw.ensures.leaves
    (omega (arith, c.if-cut_bytes-lt7.false, c.cut_bytes.ensures.value)) (omega (arith, c.if-cut_chunks-lt2.false, c.cut_chunks.ensures.value))
