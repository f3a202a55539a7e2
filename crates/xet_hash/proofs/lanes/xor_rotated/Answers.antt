use Rattle.std.proofs.Common.{◌-◌, arith}
use Rattle.std.proofs.lemmas.Simd.{shifts_fit_splat}
use Rattle.xet_hash.proofs.Vectors.{shifts_rotate}
use Rattle.xet_hash.proofs.lanes.xor_rotated.Goals as goal

pub overflow_shr-result : goal.overflow_shr-result
overflow_shr-result c = shifts_fit_splat 32 _ 8 c.args.k (omega arith)

pub overflow_shl-result : goal.overflow_shl-result
overflow_shl-result c = shifts_fit_splat 32 _ 8 (32 - c.args.k) (omega arith)

pub returns : goal.returns
returns c j h = shifts_rotate 8 c.args.k c.args.a c.args.b j c.fits-a.0 c.fits-b.0 c.requires.0 c.requires.1 h
