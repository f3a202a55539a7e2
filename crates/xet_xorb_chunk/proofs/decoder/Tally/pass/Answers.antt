use Rattle.std.proofs.Common.{rules}
use Rattle.xet_xorb_chunk.proofs.Tallies.{counts_push}
use Rattle.xet_xorb_chunk.proofs.decoder.Tally.pass.Goals as goal

pub returns-clause-counts : goal.returns-clause-counts
returns-clause-counts g c = λ chunks counts. counts_push c.args.self.now _ chunks c.args.chunk.now c.in_ok-push.ensures.items (search rules) (search rules) counts
