use Rattle.std.proofs.Common.{◌≡◌, ◌≤◌, drop, length, true}
use Rattle.xet_xorb_footer.specs.internal.Machine.{IsIncomplete}
use Rattle.xet_codec.specs.Blocks.{IsPart}
use Rattle.xet_xorb_footer.specs.Reader.{bytes_left, footer_parts_of, rest_of}
use Rattle.xet_xorb_footer.proofs.ends.read_fields_at.Given as goal
use Rattle.xet_io.specs.Lent.{IsSameLent}

abbrev pub invariant-fields : goal.invariant-fields
invariant-fields g l = record {
  taken : g.R.ReadAt.tells l.fn.reader ≡ true → l.end ≡ length (g.R.ReadAt.bytes l.fn.reader) → rest_of l.fn.footer (drop l.fn.at (g.R.ReadAt.bytes l.fn.reader)) ≡ rest_of l.footer (drop l.to (g.R.ReadAt.bytes l.fn.reader));
  part : g.R.ReadAt.tells l.fn.reader ≡ true → l.end ≡ length (g.R.ReadAt.bytes l.fn.reader) → IsPart l.block (g.R.ReadAt.bytes l.fn.reader);
  within : l.to ≤ l.end;
  settled : IsIncomplete l.footer.next (footer_parts_of l.footer);
  same : g.R.ReadAt.bytes l.reader ≡ g.R.ReadAt.bytes l.fn.reader;
  tells : g.R.ReadAt.tells l.reader ≡ g.R.ReadAt.tells l.fn.reader;
  later : g.R.ReadAt.faults l.fn.reader ≤ g.R.ReadAt.faults l.reader;
  lent : IsSameLent (g.R.ReadAt.lent l.fn.reader) (g.R.ReadAt.lent l.reader);
}

abbrev pub decreases-fields : goal.decreases-fields
decreases-fields g l = bytes_left l.footer
