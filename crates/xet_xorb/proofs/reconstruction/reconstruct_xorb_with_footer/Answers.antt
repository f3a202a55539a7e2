use Rattle.std.proofs.Common.{◌∙◌, ◌++◌, List, ap, inr, take, ℕ}
use Rattle.xet_hash.specs.Merkle.{xorb_hash}
use Rattle.xet_base.specs.theorems.Exits.{exit_on}
use Rattle.xet_xorb.specs.Building.{no_spare}
use Rattle.xet_xorb.specs.Footer.{footer_v1}
use Rattle.xet_xorb.proofs.Rebuilt.{object_is, rebuilt_is_xorb, encoding_is}
use Rattle.xet_xorb.proofs.reconstruction.reconstruct_xorb_with_footer.Goals as goal

pub returns-in_err-object-clause-prefix : goal.returns-in_err-object-clause-prefix
returns-in_err-object-clause-prefix g c = λ told.
    let before : List ℕ = g.W.Sink.written c.args.sink.now in
    let copied = c.in_ok-leaves.ensures.copied in
    let ms : List (List ℕ × ℕ) = c.in_ok-leaves.leaves.items in
    let digest = c.in_ok-hash.ensures.hash ∙ ap xorb_hash c.deref.ensures.value in
    let info = c.in_ok-footer.ensures.footer ∙ ap (λ (m : List (List ℕ × ℕ)). footer_v1 c.in_ok-hash.hash m no_spare) c.deref-2.ensures.value in
    let encoding = encoding_is c.args.max_chunk c.args.raw.now ms c.in_ok-leaves.end c.in_ok-hash.hash c.in_ok-footer.footer copied digest info in
    let f = c.write_with_footer.ensures.prefix told in
    exit_on _ _ c.from_residual-in_err-object.ensures.1
    (inr (copied.chunks, f.0, copied.copied, f.1 ∙ ap (λ (t : List ℕ). before ++ take f.0 t) encoding))

pub returns-clause-rebuilt : goal.returns-clause-rebuilt
returns-clause-rebuilt g c =
    let before : List ℕ = g.W.Sink.written c.args.sink.now in
    let copied = c.in_ok-leaves.ensures.copied in
    let ms : List (List ℕ × ℕ) = c.in_ok-leaves.leaves.items in
    let digest = c.in_ok-hash.ensures.hash ∙ ap xorb_hash c.deref.ensures.value in
    let info = c.in_ok-footer.ensures.footer ∙ ap (λ (m : List (List ℕ × ℕ)). footer_v1 c.in_ok-hash.hash m no_spare) c.deref-2.ensures.value in
    let encoding = encoding_is c.args.max_chunk c.args.raw.now ms c.in_ok-leaves.end c.in_ok-hash.hash c.in_ok-footer.footer copied digest info in (
      copied.chunks,
      copied.copied,
      object_is c.args.max_chunk c.args.raw.now ms c.in_ok-leaves.end c.in_ok-hash.hash c.in_ok-footer.footer copied c.in_ok-object.object digest info c.in_ok-object.ensures.object,
      digest ∙ ap xorb_hash copied.of_chunks,
      rebuilt_is_xorb copied.chunks ms copied.of_chunks c.in_ok-leaves.ensures.each,
      λ told. c.in_ok-object.ensures.written told ∙ ap (λ (t : List ℕ). before ++ t) encoding,
    )
