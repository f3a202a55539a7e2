use Rattle.std.proofs.Common.{◌≡◌, ◌+◌, ◌≤◌, ◌++◌, Err, IfErr, IfOk, Ok, Some, length, map, vec_capacity, vec_len}
use Rattle.std.specs.Vec.Iter.{into_iter_items, into_iter_len}
use Rattle.xet_store_disk.specs.Separate.{Among}
use Rattle.xet_workers.proofs.seat.leave_seats.Given as goal

abbrev pub invariant-loop-seat : goal.invariant-loop-seat
invariant-loop-seat g l =
    record {
      left : l.yielded ++ into_iter_items l.seat-iterator ≡ l.fn.room.seats.items;
      passes : map (λ p. Some p) l.passes.items ++ map (λ s. s.pass) (into_iter_items l.seat-iterator) ≡ map (λ s. s.pass) l.fn.room.seats.items;
      passes_room : vec_len l.passes + length (into_iter_items l.seat-iterator) ≤ vec_capacity l.passes;
      workings : IfOk l.made (λ ws. map (λ w. Ok w) ws.items ++ map (λ s. s.made) (into_iter_items l.seat-iterator) ≡ map (λ s. s.made) l.fn.room.seats.items);
      workings_room : IfOk l.made (λ ws. length ws.items + length (into_iter_items l.seat-iterator) ≤ vec_capacity ws);
      error : IfErr l.made (λ e. Among (map (λ s. s.made) l.fn.room.seats.items) (Err e));
      counted : into_iter_len l.seat-iterator ≡ length (into_iter_items l.seat-iterator);
    }
