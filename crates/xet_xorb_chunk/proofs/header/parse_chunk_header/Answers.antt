use Rattle.std.proofs.Common.{◌∙◌, ap, arith, refl, sym}
use Rattle.std.proofs.lemmas.Result.{err_from_is_err_and}
use Rattle.xet_xorb_chunk.specs.Header.{Header}
use Rattle.xet_xorb_chunk.specs.theorems.Headers.{accepted, known, refused_ident, refused_plain, refused_scheme, refused_stored, refused_version, unknown}
use Rattle.xet_xorb_chunk.proofs.header.parse_chunk_header.Goals as goal

pub returns-then-is_footer_magic-clause-header : goal.returns-then-is_footer_magic-clause-header
returns-then-is_footer_magic-clause-header c = sym (refused_ident c.args.max_chunk c.args.bytes (sym c.is_footer_magic.ensures ∙ c.if-is_footer_magic.true))

pub returns-in_err-get_compression_scheme-clause-header : goal.returns-in_err-get_compression_scheme-clause-header
returns-in_err-get_compression_scheme-clause-header c =
    let p = err_from_is_err_and c.from_residual.result c.from_residual.ensures.1 in
    rw (p.1, p.2)
    (sym (refused_scheme c.args.max_chunk c.args.bytes c.header_of-header.result _ (sym c.is_footer_magic.ensures ∙ c.if-is_footer_magic.false) c.header_of-header.ensures
    (sym c.get_compression_scheme.ensures ∙ c.in_err-get_compression_scheme.was)))

pub returns-then-header-ne0-clause-header : goal.returns-then-header-ne0-clause-header
returns-then-header-ne0-clause-header c =
    sym (refused_version c.args.max_chunk c.args.bytes c.header_of-header.result _ (sym c.is_footer_magic.ensures ∙ c.if-is_footer_magic.false) c.header_of-header.ensures
    (sym c.get_compression_scheme.ensures ∙ c.in_ok-get_compression_scheme.was) (λ e. c.if-header-ne0.true (ap (λ (h : Header). h.version) c.header.view_is ∙ e)))

pub returns-then-header-max_chunk-clause-header : goal.returns-then-header-max_chunk-clause-header
returns-then-header-max_chunk-clause-header c =
    sym (refused_stored c.args.max_chunk c.args.bytes c.header_of-header.result _ (sym c.is_footer_magic.ensures ∙ c.if-is_footer_magic.false) c.header_of-header.ensures
    (sym c.get_compression_scheme.ensures ∙ c.in_ok-get_compression_scheme.was) (sym (ap (λ (h : Header). h.version) c.header.view_is) ∙ c.if-header-ne0.false) (omega (arith, ap (λ (h : Header). h.stored) c.header.view_is, ap (λ (h : Header). h.plain) c.header.view_is)))

pub returns-then-header-max_chunk-2-clause-header : goal.returns-then-header-max_chunk-2-clause-header
returns-then-header-max_chunk-2-clause-header c =
    sym (refused_plain c.args.max_chunk c.args.bytes c.header_of-header.result _ (sym c.is_footer_magic.ensures ∙ c.if-is_footer_magic.false) c.header_of-header.ensures
    (sym c.get_compression_scheme.ensures ∙ c.in_ok-get_compression_scheme.was) (sym (ap (λ (h : Header). h.version) c.header.view_is) ∙ c.if-header-ne0.false) (omega (arith, ap (λ (h : Header). h.stored) c.header.view_is, ap (λ (h : Header). h.plain) c.header.view_is)) (omega (arith, ap (λ (h : Header). h.stored) c.header.view_is, ap (λ (h : Header). h.plain) c.header.view_is)))

pub returns-clause-header : goal.returns-clause-header
returns-clause-header c =
    sym (accepted c.args.max_chunk c.args.bytes c.header_of-header.result (sym c.is_footer_magic.ensures ∙ c.if-is_footer_magic.false) c.header_of-header.ensures
    (known c.header_of-header.result.scheme _ (sym c.get_compression_scheme.ensures ∙ c.in_ok-get_compression_scheme.was)) (sym (ap (λ (h : Header). h.version) c.header.view_is) ∙ c.if-header-ne0.false) (omega (arith, ap (λ (h : Header). h.stored) c.header.view_is, ap (λ (h : Header). h.plain) c.header.view_is)) (omega (arith, ap (λ (h : Header). h.stored) c.header.view_is, ap (λ (h : Header). h.plain) c.header.view_is)))

pub returns-in_err-get_compression_scheme-clause-check : goal.returns-in_err-get_compression_scheme-clause-check
returns-in_err-get_compression_scheme-clause-check c =
    let p = err_from_is_err_and c.from_residual.result c.from_residual.ensures.1 in
    let e = unknown c.header_of-header.result.scheme _ (sym c.get_compression_scheme.ensures ∙ c.in_err-get_compression_scheme.was) in rw (p.1, p.2, e.1) refl
