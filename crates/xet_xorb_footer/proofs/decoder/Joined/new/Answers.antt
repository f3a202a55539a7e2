use Rattle.std.proofs.Common.{refl}
use Rattle.xet_xorb_footer.proofs.Joining.{starts}
use Rattle.xet_xorb_footer.proofs.decoder.Joined.new.Goals as goal

pub returns-clause-rest : goal.returns-clause-rest
returns-clause-rest c = starts _ refl c.of_either.ensures.rest
