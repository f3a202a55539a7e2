use Rattle.std.proofs.Common.{◌++◌, ◌∷◌, ◌∙◌, [], ap, append_assoc, arith, map, Some, rules, sym, vec_capacity}
use Rattle.std.proofs.lemmas.Grind.{common_steps}
use Rattle.std.specs.Vec.Iter.{into_iter_items}
use Rattle.xet_workers.proofs.Leaving.{last_workings, next_error, next_pass, next_room, next_workings, none_missing}
use Rattle.xet_workers.proofs.seat.leave_seats.Goals as goal

pub loop-seat-preserved : goal.loop-seat-preserved
loop-seat-preserved g c =
    let so_far = c.loop-seat.invariant in
    let olds = into_iter_items c.loop-seat.seat-iterator in
    let news = into_iter_items c.next.new.self in
    let all = c.args.room.seats.items in
    let is = c.in-Some.ensures.steps.0 in
    let made = c.with_next-made.ensures in
    record {
      left = append_assoc c.loop-seat.yielded (c.in-Some.seat ∷ []) news ∙ ap (λ l. c.loop-seat.yielded ++ l) (sym is) ∙ so_far.left;
      passes = next_pass (λ s. s.pass) c.loop-seat.passes.items c.push_reserved.new.self.items c.in-Some.seat news olds all c.in-Some-pass.pass is c.in-Some-pass.is (search rules) so_far.passes;
      passes_room = grind (arith, common_steps);
      workings = next_workings (λ v. v.items) (λ v. vec_capacity v) (λ s. s.made) c.loop-seat.made c.with_next-made.result c.in-Some.seat news olds all is made.all so_far.workings;
      workings_room = next_room (λ v. v.items) (λ v. vec_capacity v) (λ s. s.made) c.loop-seat.made c.with_next-made.result c.in-Some.seat news olds all is made.all so_far.workings_room;
      error = next_error (λ v. v.items) (λ v. vec_capacity v) (λ s. s.made) c.loop-seat.made c.with_next-made.result c.in-Some.seat news olds all is made.all c.loop-seat.yielded so_far.left made.error so_far.error;
      counted = grind (arith, common_steps);
    }

pub returns-clause-workings : goal.returns-clause-workings
returns-clause-workings g c =
    last_workings (λ v. v.items) (λ s. s.made) c.loop-seat.made (into_iter_items c.loop-seat.seat-iterator) c.args.room.seats.items (omega (arith, c.loop-seat.invariant.counted, c.in-None.ensures.steps.0)) c.loop-seat.invariant.workings

pub unreachable-requires : goal.unreachable-requires
unreachable-requires g c =
    none_missing c.loop-seat.passes.items (map (λ s. s.pass) (into_iter_items c.next.new.self)) c.requires.there.0 c.in-Some.seat.pass c.in_default.is
    (ap (λ l. map Some c.loop-seat.passes.items ++ map (λ s. s.pass) l) (sym c.in-Some.ensures.steps.0) ∙ c.loop-seat.invariant.passes ∙ c.requires.there.1)
