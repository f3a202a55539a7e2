use Rattle.std.proofs.Common.{◌-◌, ℕ, ap}
use Rattle.xet_locked_session.proofs.Returned.{query_empty, query_error, query_latest, query_refused, query_seen_by, query_stops}
use Rattle.xet_locked_session.proofs.passing.PassingStepping.query.Goals.{else-not-is_empty, then-not-is_empty}
use Rattle.xet_locked_session.proofs.passing.PassingStepping.query.Goals as goal

pub returns-then-self-clause-refused : goal.returns-then-self-clause-refused
returns-then-self-clause-refused g c = query_refused _ _ _ _ c.self.view_is c.if-self.true

pub invariant_of-self : goal.invariant_of-self
invariant_of-self g c = query_latest _ _ _ _ _ _ _ c.self.view_is c.if-self.false c.self.invariant c.recall_invariant.ensures.seen c.args.hashes.now c.in-Ok.run' c.in-Ok.ensures.saw _ c.is_empty.ensures c.if-not-is_empty.true _ (ap (λ (n : ℕ). n - 1) c.seen.ensures)

pub invariant_of-self-else-not-is_empty : goal.invariant_of-self-else-not-is_empty
invariant_of-self-else-not-is_empty g c = query_empty _ _ _ _ _ _ _ c.self.view_is c.if-self.false c.self.invariant c.recall_invariant.ensures.seen c.args.hashes.now c.in-Ok.run' c.in-Ok.ensures.saw _ c.is_empty.ensures c.if-not-is_empty.false

pub invariant_of-self-in-Err : goal.invariant_of-self-in-Err
invariant_of-self-in-Err g c = query_stops _ _ _ _ _ _ _ c.self.view_is c.if-self.false c.self.invariant c.recall_invariant.ensures.seen _ c.in-Err.ensures.refused

pub returns-after-not-is_empty-clause-saw : goal.returns-after-not-is_empty-clause-saw
returns-after-not-is_empty-clause-saw g c = elim c.if-not-is_empty.branch [
  | then-not-is_empty w ↦ query_seen_by _ _ _ _ _ _ _ c.self.view_is c.if-self.false c.self.invariant c.recall_invariant.ensures.seen c.args.hashes.now c.in-Ok.run' c.in-Ok.ensures.saw c.if-not-is_empty.self w.self-is
  | else-not-is_empty w ↦ query_seen_by _ _ _ _ _ _ _ c.self.view_is c.if-self.false c.self.invariant c.recall_invariant.ensures.seen c.args.hashes.now c.in-Ok.run' c.in-Ok.ensures.saw c.if-not-is_empty.self w.self-is
]

pub returns-in-Err-clause-refused : goal.returns-in-Err-clause-refused
returns-in-Err-clause-refused g c = query_error _ _ _ _ _ _ _ c.self.view_is c.if-self.false c.self.invariant c.recall_invariant.ensures.seen _ c.in-Err.ensures.refused
