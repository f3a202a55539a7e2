use Rattle.std.proofs.Common.{◌∙◌, ◌+◌, ◌++◌, List, ap, length, take, ℕ}
use Rattle.xet_xorb_footer.specs.FooterEncoding.{length_of, footer_bytes_v1}
use Rattle.xet_codec.specs.Numbers.{number}
use Rattle.xet_base.specs.theorems.Written.{prefix_of_first, written_then}
use Rattle.xet_xorb.proofs.object.XorbObject.serialize_given_info.Goals as goal

pub returns-in_err-count-clause-prefix : goal.returns-in_err-count-clause-prefix
returns-in_err-count-clause-prefix g c = λ told.
    let i = c.args.info in
    let f = c.in_err-count.ensures.prefix told in
    let m = prefix_of_first (footer_bytes_v1 i) (number (length_of i)) f.0 in
    (m.0, f.1 ∙ ap (λ (x : List ℕ). g.W.Sink.written c.args.sink.now ++ x) m.1)

pub returns-in_err-write_piece-clause-prefix : goal.returns-in_err-write_piece-clause-prefix
returns-in_err-write_piece-clause-prefix g c = λ told.
    let encoding : List ℕ = footer_bytes_v1 c.args.info in
    let f = c.write_piece.ensures.prefix (c.in_ok-count.ensures.frame.tells ∙ told) in
    let number_is = c.to_le_bytes.ensures ∙ ap number c.in_ok-count.ensures.length in
    (length encoding + f.0, written_then _ _ _ encoding c.to_le_bytes.result f.0 (c.in_ok-count.ensures.written told) f.1 ∙ ap (λ (x : List ℕ). g.W.Sink.written c.args.sink.now ++ take (length encoding + f.0) (encoding ++ x)) number_is)

pub returns-clause-prefix : goal.returns-clause-prefix
returns-clause-prefix g c = λ told.
    let encoding : List ℕ = footer_bytes_v1 c.args.info in
    let f = c.in_ok-write_piece.ensures.prefix (c.in_ok-count.ensures.frame.tells ∙ told) in
    let number_is = c.to_le_bytes.ensures ∙ ap number c.in_ok-count.ensures.length in
    (length encoding + f.0, written_then _ _ _ encoding c.to_le_bytes.result f.0 (c.in_ok-count.ensures.written told) f.1 ∙ ap (λ (x : List ℕ). g.W.Sink.written c.args.sink.now ++ take (length encoding + f.0) (encoding ++ x)) number_is)
