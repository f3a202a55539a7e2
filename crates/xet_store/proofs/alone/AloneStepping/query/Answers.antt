use Rattle.xet_store.proofs.Returned.{query_alone, query_error, query_seen, query_stops}
use Rattle.xet_store.proofs.alone.AloneStepping.query.Goals as goal

pub invariant_of-self : goal.invariant_of-self
invariant_of-self g c = query_alone _ _ _ _ _ c.self.view_is c.if-self.false c.self.invariant c.args.hashes.now c.in-Ok.run' c.in-Ok.ensures.steps c.in-Ok.ensures.unchanged

pub invariant_of-self-in-Err : goal.invariant_of-self-in-Err
invariant_of-self-in-Err g c = query_stops _ _ _ _ _ c.self.view_is c.if-self.false c.self.invariant _ c.in-Err.ensures.refused c.in-Err.ensures.unchanged

pub returns-in-Ok-clause-saw : goal.returns-in-Ok-clause-saw
returns-in-Ok-clause-saw g c = query_seen _ _ _ _ _ c.self.view_is c.if-self.false c.self.invariant c.args.hashes.now c.in-Ok.run' c.in-Ok.ensures.steps c.in-Ok.ensures.lies c.in-Ok.ensures.pending c.in-Ok.ensures.found c.recall_sound.ensures c.recall_invariant.ensures

pub returns-in-Err-clause-refused : goal.returns-in-Err-clause-refused
returns-in-Err-clause-refused g c = query_error _ _ _ _ _ c.self.view_is c.if-self.false c.self.invariant _ c.in-Err.ensures.refused
