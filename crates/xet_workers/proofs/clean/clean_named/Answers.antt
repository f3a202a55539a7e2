use Rattle.std.proofs.Common.{◌∙◌}
use Rattle.xet_workers.proofs.Outcomes.{unbegun_promises}
use Rattle.xet_workers.proofs.clean.clean_named.Goals as goal

pub returns-in-Err : goal.returns-in-Err
returns-in-Err g c =
    let refused = c.in-Err.ensures.err in
    unbegun_promises c.args.workers c.requires.workers.0 g.S.Source.tells g.S.Source.left g.S.Source.faults c.args.sources.now g.J.Naming.store c.in-Err.store (refused.0 ∙ c.requires.store) c.in-Err.error refused.1 c.recall_sound.ensures
