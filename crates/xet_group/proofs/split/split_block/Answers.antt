use Rattle.std.proofs.Common.{◌*◌, ap, arith}
use Rattle.std.specs.Simd.Lanes.{put_chunk}
use Rattle.xet_group.proofs.Blocks.{block_lanes}
use Rattle.xet_group.proofs.split.split_block.Goals as goal

pub returns-clause-first : goal.returns-clause-first
returns-clause-first c = ap (put_chunk (4 * c.args.i) c.args.first.now) (block_lanes c.args.b.now c.args.i 0 (omega arith) c.requires.b)

pub returns-clause-second : goal.returns-clause-second
returns-clause-second c = ap (put_chunk (4 * c.args.i) c.args.second.now) (block_lanes c.args.b.now c.args.i 1 (omega arith) c.requires.b)

pub returns-clause-third : goal.returns-clause-third
returns-clause-third c = ap (put_chunk (4 * c.args.i) c.args.third.now) (block_lanes c.args.b.now c.args.i 2 (omega arith) c.requires.b)

pub returns-clause-fourth : goal.returns-clause-fourth
returns-clause-fourth c = ap (put_chunk (4 * c.args.i) c.args.fourth.now) (block_lanes c.args.b.now c.args.i 3 (omega arith) c.requires.b)
