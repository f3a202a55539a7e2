use Rattle.std.proofs.Common.{◌≡◌, ◌+◌, ◌++◌, List, length}
use Rattle.std.specs.List.{AllByRecursion}
use Rattle.xet_store.specs.Holders.{Holder}
use Rattle.xet_locked_session.specs.Passes.{own_numbers}
use Rattle.xet_locked_session.specs.internal.Returned.{IsReturned}
use Rattle.xet_locked_session.proofs.session.SharedStore.close_stopped.Given as goal

abbrev pub invariant-passes : goal.invariant-passes
invariant-passes g l = record {
  tables : (l.word ≡ g.J.Naming.table) × (l.writer.table ≡ g.J.Naming.table);
  history : l.store-inside.store.history ≡ g.J.Naming.store.history ++ l.writer.seen;
  book : l.book.total ≡ length l.writer.seen;
  back : List Holder;
  split : l.fn.passes.items ≡ l.left.items ++ back;
  rest : (l.rest.parts ≡ length back + 1) × (l.rest.amount ≡ length (own_numbers back));
  returned : AllByRecursion (IsReturned g.J.Naming.store (g.J.Naming.store.history ++ l.writer.seen)) back;
}

abbrev pub decreases-passes : goal.decreases-passes
decreases-passes g l = length l.left.items
