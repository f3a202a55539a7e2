use Rattle.std.proofs.Common.{◌∙◌, Bool, ap, refl}
use Rattle.xet_xorb_footer.specs.internal.Joining.{Stops}
use Rattle.xet_xorb_footer.specs.Joining.{wanted_next}
use Rattle.xet_xorb_footer.specs.Reader.{bytes_wanted}
use Rattle.xet_base.specs.theorems.Exits.{exit_with}
use Rattle.xet_xorb_footer.proofs.Joining.{behind_stops, field_read, field_stops}
use Rattle.xet_xorb_footer.proofs.decoder.Joined.take.Goals as goal

pub returns-then-self-clause-refused : goal.returns-then-self-clause-refused
returns-then-self-clause-refused c =
    let j = c.args.self.now in
    behind_stops j c.args.field.now c.if-self.true (c.requires.len ∙ ap (λ (b : Bool). wanted_next b (bytes_wanted j.footer)) c.if-self.true)

pub returns-in_err-take-clause-refused : goal.returns-in_err-take-clause-refused
returns-in_err-take-clause-refused c =
    let j = c.args.self.now in
    exit_with (Stops j c.args.field.now) _ _ c.from_residual.ensures.1 (field_stops j c.args.field.now _ c.if-self.false c.in_err-take.ensures.refused)

pub returns-clause-read : goal.returns-clause-read
returns-clause-read c = field_read c.args.self.now _ c.args.field.now c.if-self.false c.if-self.false refl c.in_ok-take.ensures.taken
