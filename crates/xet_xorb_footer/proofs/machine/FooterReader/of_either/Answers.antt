use Rattle.std.proofs.Common.{◌∙◌, ap}
use Rattle.xet_xorb_footer.specs.declared.machine.Field.{Field}
use Rattle.xet_xorb_footer.specs.declared.machine.Field.TheVariants as fields
use Rattle.xet_xorb_footer.specs.Machine.{FooterParts, info_of_parts, rest}
use Rattle.xet_xorb_footer.specs.internal.Machine.{as_value}
use Rattle.xet_xorb_footer.specs.Reader.{footer_parts_of}
use Rattle.xet_xorb_footer.proofs.Starts.{starts_either}
use Rattle.xet_xorb_footer.proofs.machine.FooterReader.of_either.Goals as goal

pub returns-clause-rest : goal.returns-clause-rest
returns-clause-rest c = λ bytes.
    ap (λ (f : Field). as_value info_of_parts (rest f (footer_parts_of c.started.result) bytes)) c.started.ensures.next
    ∙ ap (λ (p : FooterParts). as_value info_of_parts (rest fields.Ident p bytes)) c.started.ensures.parts ∙ starts_either bytes
