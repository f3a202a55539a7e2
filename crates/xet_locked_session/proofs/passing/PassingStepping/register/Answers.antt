use Rattle.xet_xorb.specs.Raw.{raw_leaves}
use Rattle.xet_locked_session.proofs.Returned.{register_error, register_kept, register_refused, register_seen, register_stops}
use Rattle.xet_locked_session.proofs.passing.PassingStepping.register.Goals as goal

pub returns-then-self-clause-refused : goal.returns-then-self-clause-refused
returns-then-self-clause-refused g c = register_refused _ _ _ _ c.self.view_is c.if-self.true (raw_leaves c.args.xorb)

pub invariant_of-self : goal.invariant_of-self
invariant_of-self g c = register_kept _ _ _ _ _ _ _ c.self.view_is c.if-self.false c.self.invariant c.recall_invariant.ensures.seen (raw_leaves c.args.xorb) c.args.next.now _ c.in-Ok.ensures.saw c.requires.due

pub invariant_of-self-in-Err : goal.invariant_of-self-in-Err
invariant_of-self-in-Err g c = register_stops _ _ _ _ _ _ _ c.self.view_is c.if-self.false c.self.invariant c.recall_invariant.ensures.seen (raw_leaves c.args.xorb) _ c.in-Err.ensures.refused

pub returns-in-Ok-clause-saw : goal.returns-in-Ok-clause-saw
returns-in-Ok-clause-saw g c = register_seen _ _ _ _ _ _ _ c.self.view_is c.if-self.false c.self.invariant c.recall_invariant.ensures.seen (raw_leaves c.args.xorb) c.args.next.now _ c.in-Ok.ensures.saw

pub returns-in-Err-clause-refused : goal.returns-in-Err-clause-refused
returns-in-Err-clause-refused g c = register_error _ _ _ _ _ _ _ c.self.view_is c.if-self.false c.self.invariant c.recall_invariant.ensures.seen (raw_leaves c.args.xorb) _ c.in-Err.ensures.refused
