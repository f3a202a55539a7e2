use Rattle.std.proofs.Common.{slice_range}
use Rattle.xet_store.specs.theorems.Following.{asking_nothing}
use Rattle.xet_single_file.proofs.Piecewise.{few_before}
use Rattle.xet_single_file.proofs.pieces.add_piece.Goals as goal

pub returns-in-Err-clause-follows : goal.returns-in-Err-clause-follows
returns-in-Err-clause-follows g c = asking_nothing (g.S.Stepping.holder c.args.cleaner.now.deduper.interface.steps)

pub returns-in-Err-clause-few : goal.returns-in-Err-clause-few
returns-in-Err-clause-few g c = λ before cleaning. few_before _ _ _ _ _ _ _ _ cleaning (slice_range c.args.bytes.now c.args.from c.args.to)
