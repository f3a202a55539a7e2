use Rattle.std.proofs.Common.{◌≡◌, inl, length, rules}
use Rattle.xet_xorb_footer.specs.Reader.{bytes_wanted, footer_parts_of}
use Rattle.xet_xorb_footer.proofs.Consumed.{fills_prefix}
use Rattle.xet_xorb_footer.proofs.Shorts.{ended}
use Rattle.xet_xorb_footer.proofs.reading.read_field.Goals as goal

pub returns-then-count-wanted-clause-refused : goal.returns-then-count-wanted-clause-refused
returns-then-count-wanted-clause-refused g c = λ told.
    let r = c.args.reader.now in
    let len : length c.read_prefix.new.buf ≡ bytes_wanted r = search rules in
    inl (ended r.next (footer_parts_of r) c.in_ok-count.count c.read_prefix.new.buf _ _ len (search rules) (c.in_ok-count.ensures.told told))

pub returns-in_err-count-clause-consumed : goal.returns-in_err-count-clause-consumed
returns-in_err-count-clause-consumed g c = λ told. fills_prefix _ _ _ c.read_prefix.result (c.read_prefix.ensures.told told)

pub returns-then-count-wanted-clause-consumed : goal.returns-then-count-wanted-clause-consumed
returns-then-count-wanted-clause-consumed g c = λ told. fills_prefix _ _ _ c.read_prefix.result (c.read_prefix.ensures.told told)

pub returns-in_err-take-clause-consumed : goal.returns-in_err-take-clause-consumed
returns-in_err-take-clause-consumed g c = λ told. fills_prefix _ _ _ c.read_prefix.result (c.read_prefix.ensures.told told)

pub returns-clause-consumed : goal.returns-clause-consumed
returns-clause-consumed g c = λ told. fills_prefix _ _ _ c.read_prefix.result (c.read_prefix.ensures.told told)
