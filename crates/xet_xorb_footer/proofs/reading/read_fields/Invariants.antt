use Rattle.std.proofs.Common.{◌≡◌, ◌≤◌, ◌+◌, ◌*◌, true, drop, length, ℕ}
use Rattle.xet_xorb_footer.specs.internal.Machine.{IsIncomplete}
use Rattle.xet_xorb_footer.specs.Reader.{bytes_left, footer_parts_of, rest_of}
use Rattle.xet_xorb_footer.specs.FooterEncoding.{max_chunks}
use Rattle.xet_xorb_footer.proofs.reading.read_fields.Given as goal

abbrev pub invariant-fields : goal.invariant-fields
invariant-fields g l = record {
  taken : g.R.Source.tells l.fn.source ≡ true → rest_of l.fn.reader (g.R.Source.left l.fn.source) ≡ rest_of l.reader (g.R.Source.left l.source);
  count : g.R.Source.tells l.fn.source ≡ true → length (g.R.Source.left l.fn.source) ≡ l.count + length (g.R.Source.left l.source);
  consumed : g.R.Source.tells l.fn.source ≡ true → (n : ℕ) × (g.R.Source.left l.source ≡ drop n (g.R.Source.left l.fn.source));
  settled : IsIncomplete l.reader.next (footer_parts_of l.reader);
  left : l.count + bytes_left l.reader ≤ 92 + 40 * max_chunks;
  tells : g.R.Source.tells l.source ≡ g.R.Source.tells l.fn.source;
  later : g.R.Source.faults l.fn.source ≤ g.R.Source.faults l.source;
}

abbrev pub decreases-fields : goal.decreases-fields
decreases-fields g l = bytes_left l.reader
