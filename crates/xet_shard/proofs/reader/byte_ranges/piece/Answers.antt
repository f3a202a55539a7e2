use Rattle.std.proofs.Common.{arith, rules}
use Rattle.xet_shard.proofs.Faulting.{piece_short}
use Rattle.xet_shard.proofs.reader.byte_ranges.piece.Goals as goal

pub returns-in-None-clause-told : goal.returns-in-None-clause-told
returns-in-None-clause-told g c = λ told.
    let past = c.in-None.ensures.none (search rules) in
    piece_short c.args.at _ (g.R.ReadAt.bytes c.args.reader.now) (omega (arith, c.in_ok-end.ensures.told told, past))
