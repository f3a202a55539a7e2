use Rattle.xet_store.proofs.Returned.{complete_alone, complete_error, complete_refused, complete_seen, complete_stops}
use Rattle.xet_store.proofs.alone.AloneStepping.complete.Goals as goal

pub returns-then-self-clause-refused : goal.returns-then-self-clause-refused
returns-then-self-clause-refused g c = complete_refused _ _ _ _ c.self.view_is c.if-self.true c.args.file

pub invariant_of-self : goal.invariant_of-self
invariant_of-self g c = complete_alone _ _ _ _ _ c.self.view_is c.if-self.false c.self.invariant c.args.file c.in-Ok.ensures.steps c.requires.form c.in-Ok.ensures.can c.in-Ok.ensures.changes

pub invariant_of-self-in-Err : goal.invariant_of-self-in-Err
invariant_of-self-in-Err g c = complete_stops _ _ _ _ _ c.self.view_is c.if-self.false c.self.invariant c.args.file _ c.requires.form c.in-Err.ensures.tries c.in-Err.ensures.refused

pub returns-in-Ok-clause-saw : goal.returns-in-Ok-clause-saw
returns-in-Ok-clause-saw g c = complete_seen _ _ _ _ _ c.self.view_is c.if-self.false c.self.invariant c.args.file c.in-Ok.ensures.steps _ c.in-Ok.ensures.added c.in-Ok.ensures.can

pub returns-in-Err-clause-refused : goal.returns-in-Err-clause-refused
returns-in-Err-clause-refused g c = complete_error _ _ _ _ _ c.self.view_is c.if-self.false c.self.invariant c.args.file _ c.recall_invariant.ensures c.in-Err.ensures.refused
