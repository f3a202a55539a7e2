use Rattle.std.proofs.Common.{◌≡◌, ◌+◌, ◌≤◌, ◌++◌, Some, length, map, vec_capacity, vec_len}
use Rattle.std.specs.Vec.Iter.{into_iter_items, into_iter_len}
use Rattle.xet_workers.proofs.seat.take_seats.Given as goal

abbrev pub invariant-loop-pass : goal.invariant-loop-pass
invariant-loop-pass g l =
    record {
      seated : map (λ s. s.pass) l.seats.items ++ map (λ p. Some p) (into_iter_items l.pass-iterator) ≡ map (λ p. Some p) l.fn.passes.items;
      room : vec_len l.seats + length (into_iter_items l.pass-iterator) ≤ vec_capacity l.seats;
      counted : into_iter_len l.pass-iterator ≡ length (into_iter_items l.pass-iterator);
    }
