use Rattle.std.proofs.Common.{◌∙◌, refl, sym}
use Rattle.std.proofs.lemmas.Bool.{ne_eqb}
use Rattle.xet_xorb_footer.proofs.Joining.{all_read, length_read, length_stops}
use Rattle.xet_xorb_footer.proofs.decoder.Joined.take_length.Goals as goal

pub returns-then-number_of-self-clause-refused : goal.returns-then-number_of-self-clause-refused
returns-then-number_of-self-clause-refused c =
    let j = c.args.self.now in
    length_stops j c.args.field.now c.requires.ended (all_read j c.requires.ready c.requires.whole) c.requires.len
    (ne_eqb _ _ (λ e. c.if-number_of-self.true (c.number_of.ensures.whole c.requires.len ∙ e)))

pub returns-clause-read : goal.returns-clause-read
returns-clause-read c =
    let j = c.args.self.now in
    length_read j _ c.args.field.now c.requires.ended refl refl refl (all_read j c.requires.ready c.requires.whole) c.requires.len (sym (c.number_of.ensures.whole c.requires.len) ∙ c.if-number_of-self.false)
