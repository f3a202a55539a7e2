use Rattle.std.proofs.Common.{refl}
use Rattle.xet_xorb.specs.Raw.{raw_leaves}
use Rattle.xet_store.proofs.Returned.{register_alone, register_error, register_seen, register_stops}
use Rattle.xet_store.proofs.alone.AloneStepping.register.Goals as goal

pub invariant_of-self : goal.invariant_of-self
invariant_of-self g c = register_alone _ _ _ _ _ c.self.view_is c.if-self.false c.self.invariant (raw_leaves c.args.xorb) c.args.next.now c.in-Ok.ensures.steps (c.args.xorb, c.requires.new, refl) c.requires.due c.in-Ok.ensures.changes

pub invariant_of-self-in-Err : goal.invariant_of-self-in-Err
invariant_of-self-in-Err g c = register_stops _ _ _ _ _ c.self.view_is c.if-self.false c.self.invariant (raw_leaves c.args.xorb) _ c.in-Err.ensures.refused (c.args.xorb, c.requires.new, refl) c.args.next.now c.in-Err.ensures.tries

pub returns-in-Ok-clause-saw : goal.returns-in-Ok-clause-saw
returns-in-Ok-clause-saw g c = register_seen _ _ _ _ _ c.self.view_is c.if-self.false c.self.invariant (raw_leaves c.args.xorb) c.args.next.now c.in-Ok.ensures.steps _ c.in-Ok.ensures.added c.in-Ok.ensures.listed c.in-Ok.ensures.named

pub returns-in-Err-clause-refused : goal.returns-in-Err-clause-refused
returns-in-Err-clause-refused g c = register_error _ _ _ _ _ c.self.view_is c.if-self.false c.self.invariant (raw_leaves c.args.xorb) _ c.in-Err.ensures.refused c.recall_invariant.ensures
