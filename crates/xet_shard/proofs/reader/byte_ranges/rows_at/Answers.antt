use Rattle.std.proofs.Common.{subst, arith}
use Rattle.xet_codec.specs.Parsing.{GivesUnlessFault}
use Rattle.xet_shard.proofs.Faulting.{rows_few, rows_many}
use Rattle.xet_shard.proofs.reader.byte_ranges.rows_at.Goals as goal

pub returns-then-count-clause-told : goal.returns-then-count-clause-told
returns-then-count-clause-told g c = λ told. rows_many c.args.at c.args.count (g.R.ReadAt.bytes c.args.reader.now) (omega arith)

pub returns-clause-told : goal.returns-clause-told
returns-clause-told g c = λ told.
    subst (λ read. GivesUnlessFault (λ v. v.items) c.piece.result read) (rows_few c.args.at c.args.count (g.R.ReadAt.bytes c.args.reader.now) (omega arith)) (c.piece.ensures.told told)
