use Rattle.std.proofs.Common.{arith}
use Rattle.std.proofs.lemmas.List.{get_or_append_left}
use Rattle.xet_hash.proofs.Vectors.{below_four}
use Rattle.xet_hash.proofs.lanes.even.Goals as goal

pub returns : goal.returns
returns c =
    below_four _ (get_or_append_left c.args.a c.args.a 0 0 (omega (arith, c.fits-a.0)))
    (get_or_append_left c.args.a c.args.a 0 2 (omega (arith, c.fits-a.0)))
    (get_or_append_left c.args.a c.args.a 0 4 (omega (arith, c.fits-a.0)))
    (get_or_append_left c.args.a c.args.a 0 6 (omega (arith, c.fits-a.0)))
