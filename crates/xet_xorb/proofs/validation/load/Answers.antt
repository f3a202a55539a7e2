use Rattle.std.proofs.Common.{arith}
use Rattle.xet_xorb.proofs.Checked.{too_few}
use Rattle.xet_xorb.proofs.validation.load.Goals as goal

pub returns-in-Err-UnexpectedEof-clause-whole : goal.returns-in-Err-UnexpectedEof-clause-whole
returns-in-Err-UnexpectedEof-clause-whole g c = λ bytes sees room.
    let e = c.in-Err-UnexpectedEof in
    absurd (too_few bytes c.args.at c.args.count e.field-0 e.field-0-is (omega (arith, sees.all)) (e.ensures.refused bytes sees))
