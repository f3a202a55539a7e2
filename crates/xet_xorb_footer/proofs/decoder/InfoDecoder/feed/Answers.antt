use Rattle.xet_xorb_footer.specs.Decoder.{FailsPart}
use Rattle.xet_xorb_footer.proofs.Decoding.{refused_more}
use Rattle.xet_base.specs.theorems.Exits.{exit_with}
use Rattle.xet_xorb_footer.proofs.decoder.InfoDecoder.feed.Goals as goal

pub returns-in_err-absorb-clause-refused : goal.returns-in_err-absorb-clause-refused
returns-in_err-absorb-clause-refused c =
    let d = c.args.self.now in
    exit_with (FailsPart d c.args.piece.now) _ _ c.from_residual.ensures.1 (refused_more d c.args.piece.now _ c.in_err-absorb.ensures.stopped)
