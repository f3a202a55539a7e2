use Rattle.std.proofs.Common.{◌≡◌, ◌≤◌, ◌*◌, ◌-◌, ◌+◌, ◌++◌, length, vec_len}
use Rattle.xet_xorb_footer.specs.internal.Items.{numbers_in}
use Rattle.xet_xorb_footer.proofs.lists.push_numbers.Given as goal

abbrev pub invariant-loop-done : goal.invariant-loop-done
invariant-loop-done l = record {
  room : 4 * (l.count - l._done) ≤ length l.rest;
  bound : vec_len l.list ≤ vec_len l.fn.list + l._done;
  so_far : l.list.items ++ numbers_in (l.count - l._done) l.rest ≡ l.fn.list.items ++ numbers_in l.count l.field;
}
