use Rattle.std.proofs.Common.{◌∙◌, Ok, ap, sym}
use Rattle.std.proofs.lemmas.Bool.{not-false, not-true}
use Rattle.xet_xorb_footer.specs.declared.info.XorbObjectInfoV1.{XorbObjectInfoV1}
use Rattle.xet_xorb_footer.proofs.Decoding.{ends_short, ends_whole}
use Rattle.xet_xorb_footer.proofs.decoder.InfoDecoder.finish.Goals as goal

pub returns-then-not-self-clause-refused : goal.returns-then-not-self-clause-refused
returns-then-not-self-clause-refused c = λ bytes h. let d = c.args.self in ends_short d bytes (not-true d.joined.ended c.if-not-self.true) (d.ready c.requires) (d.short c.requires) h

pub returns-clause-read : goal.returns-clause-read
returns-clause-read c = λ bytes h.
    let d = c.args.self in
    ends_whole d bytes (not-false d.joined.ended c.if-not-self.false) (d.short c.requires) h ∙ ap (λ (i : XorbObjectInfoV1). Ok (i, d.joined.count)) (sym c.into_v1.ensures)
