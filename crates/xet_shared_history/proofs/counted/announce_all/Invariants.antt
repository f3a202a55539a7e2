use Rattle.std.proofs.Common.{◌≡◌, ◌+◌, ◌≤◌, ◌++◌, length, vec_len, vec_capacity}
use Rattle.xet_shared_history.specs.Owned.{numbers_from}
use Rattle.xet_shared_history.proofs.counted.announce_all.Given as goal

abbrev pub invariant-entries : goal.invariant-entries
invariant-entries g l = record {
  table : l.writer.table ≡ l.fn.writer.table;
  seen : l.writer.seen ++ l.rest ≡ l.fn.writer.seen ++ l.entries;
  number : l.number + length l.rest ≡ l.from + length l.entries;
  count : (l.count ≡ length l.writer.seen) × (l.count + length l.rest ≡ l.fn.count + length l.entries);
  book : l.book.total + length l.rest ≡ l.fn.book.total + length l.entries;
  share : (l.share.parts ≡ l.fn.share.parts) × (l.share.amount + length l.rest ≡ l.fn.share.amount + length l.entries);
  own : l.own.items ++ numbers_from l.number (length l.rest) ≡ l.fn.own.items ++ numbers_from l.from (length l.entries);
  room : vec_len l.own + length l.rest ≤ vec_capacity l.own;
}

abbrev pub decreases-entries : goal.decreases-entries
decreases-entries g l = length l.rest
