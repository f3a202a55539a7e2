use Rattle.std.proofs.Common.{rules}
use Rattle.xet_base.specs.theorems.Exits.{exit_on}
use Rattle.xet_codec.proofs.buffer.Buffer.flush.Goals as goal

pub returns-in_err-write_piece-clause-prefix : goal.returns-in_err-write_piece-clause-prefix
returns-in_err-write_piece-clause-prefix g c = λ told.
    let f = c.in_err-write_piece.ensures.prefix told in
    exit_on _ c.from_residual.result c.from_residual.ensures.1 (record { count = f.0; written = search rules })
