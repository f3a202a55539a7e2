use Rattle.xet_program.proofs.Opened.{on_ok_here}
use Rattle.xet_program.proofs.Reading.{ordered_of}
use Rattle.xet_program.proofs.read.read_range.Goals as goal

pub returns-in-Ok-clause-ordered : goal.returns-in-Ok-clause-ordered
returns-in-Ok-clause-ordered g c =
    on_ok_here c.in-Ok.is (ordered_of c.args.session.now c.args.hash.now c.args.from c.args.to c.read_range.result c.read_range.ensures.missing c.read_range.ensures.outside)
