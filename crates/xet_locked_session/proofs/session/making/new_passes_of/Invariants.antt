use Rattle.std.proofs.Common.{◌≡◌, ◌+◌, ◌-◌, ◌≤◌, vec_capacity, vec_len}
use Rattle.xet_locked_session.specs.Passes.{new_passes}
use Rattle.xet_locked_session.proofs.session.making.new_passes_of.Given as goal

abbrev pub invariant-numbers : goal.invariant-numbers
invariant-numbers g l = record {
  writer : l.writer ≡ l.fn.writer;
  rest : (l.rest.parts + l.i ≡ l.passes + 1) × (l.rest.amount ≡ 0);
  all : l.all.items ≡ new_passes g.J.Naming.store 1 l.i;
  room : vec_len l.all + (l.passes - l.i) ≤ vec_capacity l.all;
}
