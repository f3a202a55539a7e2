use Rattle.xet_locked_session.proofs.session.StoppingSession.close_stopped.Goals as goal

pub returns-clause-going : goal.returns-clause-going
returns-clause-going g c = c.close_stopped.ensures.going c.args.self.stops

pub returns-clause-made : goal.returns-clause-made
returns-clause-made g c = c.close_stopped.ensures.made c.args.self.stops
