use Rattle.xet_locked_session.proofs.session.StoppingSession.abandon.Goals as goal

pub returns-clause-made : goal.returns-clause-made
returns-clause-made g c = c.abandon.ensures.made c.args.self.stops
