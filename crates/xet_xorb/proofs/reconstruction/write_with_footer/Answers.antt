use Rattle.std.proofs.Common.{◌∙◌, ◌+◌, ◌++◌, List, ap, length, ℕ}
use Rattle.xet_xorb_footer.specs.FooterEncoding.{length_of, footer_bytes_v1}
use Rattle.xet_codec.specs.Numbers.{number}
use Rattle.xet_base.specs.theorems.Written.{prefix_of_first, written_then}
use Rattle.xet_xorb.proofs.reconstruction.write_with_footer.Goals as goal

pub returns-in_err-write_piece-clause-prefix : goal.returns-in_err-write_piece-clause-prefix
returns-in_err-write_piece-clause-prefix g c = λ told.
    let f = c.write_piece.ensures.prefix told in
    let m = prefix_of_first c.args.stored.now (footer_bytes_v1 c.args.footer ++ number (length_of c.args.footer)) f.0 in
    (m.0, f.1 ∙ ap (λ (x : List ℕ). g.W.Sink.written c.args.sink.now ++ x) m.1)

pub returns-in_err-object-clause-prefix : goal.returns-in_err-object-clause-prefix
returns-in_err-object-clause-prefix g c = λ told.
    let f = c.serialize_given_info.ensures.prefix (c.in_ok-write_piece.ensures.frame.tells ∙ told) in
    (length c.args.stored.now + f.0, written_then _ _ _ c.args.stored.now _ f.0 (c.in_ok-write_piece.ensures.whole told) f.1)

pub returns-clause-prefix : goal.returns-clause-prefix
returns-clause-prefix g c = λ told.
    let f = c.serialize_given_info.ensures.prefix (c.in_ok-write_piece.ensures.frame.tells ∙ told) in
    (length c.args.stored.now + f.0, written_then _ _ _ c.args.stored.now _ f.0 (c.in_ok-write_piece.ensures.whole told) f.1)
