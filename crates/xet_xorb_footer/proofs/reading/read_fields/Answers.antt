use Rattle.std.proofs.Common.{◌≡◌, ◌∙◌, arith}
use Rattle.xet_xorb_footer.specs.Reader.{bytes_wanted, footer_parts_of}
use Rattle.xet_xorb_footer.proofs.Consumed.{prefix_then}
use Rattle.xet_xorb_footer.proofs.Known.{nothing_wanted}
use Rattle.xet_xorb_footer.proofs.Shorts.{whole}
use Rattle.xet_xorb_footer.proofs.reading.read_fields.Goals as goal

pub returns-clause-read : goal.returns-clause-read
returns-clause-read g c = λ told.
    let r = c.fields.reader in
    let none : bytes_wanted r ≡ 0 = omega arith in
    c.fields.invariant.taken told ∙ whole r.next (footer_parts_of r) _ (nothing_wanted r.next (footer_parts_of r) c.fields.invariant.settled none)

pub fields-preserved : goal.fields-preserved
fields-preserved g c =
    let i = c.fields.invariant in
    let next = c.in_ok-taken.ensures in
    record {
      taken = λ told. i.taken told ∙ next.taken (i.tells ∙ told);
      count = λ told. omega (arith, i.count told, next.count (i.tells ∙ told));
      consumed = λ told. prefix_then (g.R.Source.left c.args.source.now) (g.R.Source.left c.fields.source) (g.R.Source.left c.read_field.new.source) (i.consumed told) (next.consumed (i.tells ∙ told));
      settled = next.settled;
      left = omega (arith, i.left, next.left);
      tells = next.frame.tells ∙ i.tells;
      later = omega (arith, next.frame.later, i.later);
    }

pub returns-in_err-taken-clause-consumed : goal.returns-in_err-taken-clause-consumed
returns-in_err-taken-clause-consumed g c = λ told.
    let i = c.fields.invariant in
    prefix_then (g.R.Source.left c.args.source.now) (g.R.Source.left c.fields.source) (g.R.Source.left c.read_field.new.source) (i.consumed told) (c.in_err-taken.ensures.consumed (i.tells ∙ told))
