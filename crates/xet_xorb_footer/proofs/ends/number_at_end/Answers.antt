use Rattle.std.proofs.Common.{◌∙◌, Ok, ap, arith, inl, sym}
use Rattle.xet_xorb_footer.specs.theorems.Endings.{footer_length_is}
use Rattle.xet_xorb_footer.proofs.Endings.{footer_length_short}
use Rattle.xet_xorb_footer.proofs.ends.number_at_end.Goals as goal

pub returns-then-len-lt-LENGTH_SIZE-clause-refused : goal.returns-then-len-lt-LENGTH_SIZE-clause-refused
returns-then-len-lt-LENGTH_SIZE-clause-refused g c = λ told len. inl (footer_length_short (g.R.ReadAt.bytes c.args.reader.now) (omega arith))

pub returns-clause-read : goal.returns-clause-read
returns-clause-read g c = λ told len.
    let bytes = g.R.ReadAt.bytes c.args.reader.now in
    let buf = c.read_exact.new.buf in
    footer_length_is c.args.len bytes buf len (omega arith) (c.in_ok-read_exact.ensures.told told (omega arith)) ∙ ap Ok (sym c.from_le_bytes.ensures)
