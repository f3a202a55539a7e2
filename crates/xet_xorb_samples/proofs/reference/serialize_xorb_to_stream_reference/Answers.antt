use Rattle.std.proofs.Common.{◌∙◌, ◌+◌, ◌*◌, ◌<◌, ◌≤◌, ◌^◌, ℕ, List, arith, length, subst, sym}
use Rattle.xet_hash.specs.Merkle.{total_len}
use Rattle.xet_xorb_footer.specs.FooterEncoding.{max_chunks}
use Rattle.xet_xorb.specs.Building.{no_spare}
use Rattle.xet_xorb.specs.Footer.{V1}
use Rattle.xet_xorb_samples.specs.Samples.{leaves_from, parts_from}
use Rattle.xet_xorb_samples.proofs.Boundaries.{few_leaves, fit_leaves, footer_is, footer_of_leaves, prefix_of_chunks, prefix_of_footer, object_is, encoded_bound, encoding_count, whole_prefix, whole_encoding}
use Rattle.xet_xorb_samples.proofs.reference.serialize_xorb_to_stream_reference.Goals as goal

pub new_footer-requires-clause-few : goal.new_footer-requires-clause-few
new_footer-requires-clause-few g c =
    subst (λ (x : List (List ℕ × ℕ)). length x ≤ max_chunks) (sym (c.deref.ensures.value ∙ c.in_ok-leaves.ensures.leaves)) (few_leaves c.args.bytes.now c.args.chunks.now c.requires)

pub new_footer-requires-clause-bound : goal.new_footer-requires-clause-bound
new_footer-requires-clause-bound g c =
    subst (λ (x : List (List ℕ × ℕ)). total_len x + 8 * length x < 2 ^ 32) (sym (c.deref.ensures.value ∙ c.in_ok-leaves.ensures.leaves)) (fit_leaves c.args.bytes.now c.args.chunks.now c.requires)

pub returns-in_err-start-clause-prefix : goal.returns-in_err-start-clause-prefix
returns-in_err-start-clause-prefix g c = λ told.
    let f = c.in_err-start.ensures.prefix told in
    prefix_of_chunks V1 c.args.hash.now (leaves_from 0 c.args.chunks.now) (parts_from 0 c.args.chunks.now c.args.bytes.now) no_spare _ _ f.0 f.1

pub returns-in_err-object-clause-prefix : goal.returns-in_err-object-clause-prefix
returns-in_err-object-clause-prefix g c = λ told.
    let hash = c.args.hash.now in
    let ms = leaves_from 0 c.args.chunks.now in
    let parts = parts_from 0 c.args.chunks.now c.args.bytes.now in
    let is = footer_of_leaves c.in_ok-info.info hash _ ms no_spare c.in_ok-info.ensures.footer (c.deref.ensures.value ∙ c.in_ok-leaves.ensures.leaves) in
    let f = c.in_err-object.ensures.prefix (c.in_ok-start.ensures.frame.tells ∙ told) in
    prefix_of_footer V1 hash ms parts no_spare _ _ _ _ f.0 (c.in_ok-start.ensures.written told) f.1 (footer_is c.in_ok-info.info hash ms no_spare is)

pub returns-clause-object : goal.returns-clause-object
returns-clause-object g c =
    let hash = c.args.hash.now in
    let ms = leaves_from 0 c.args.chunks.now in
    let is = footer_of_leaves c.in_ok-info.info hash _ ms no_spare c.in_ok-info.ensures.footer (c.deref.ensures.value ∙ c.in_ok-leaves.ensures.leaves) in
    object_is c.in_ok-info.info hash ms no_spare c.in_ok-object.object is c.in_ok-object.ensures.object

pub returns-clause-count : goal.returns-clause-count
returns-clause-count g c =
    let hash = c.args.hash.now in
    let ms = leaves_from 0 c.args.chunks.now in
    let parts = parts_from 0 c.args.chunks.now c.args.bytes.now in
    let is = footer_of_leaves c.in_ok-info.info hash _ ms no_spare c.in_ok-info.ensures.footer (c.deref.ensures.value ∙ c.in_ok-leaves.ensures.leaves) in
    encoding_count c.in_ok-info.info hash ms parts no_spare c.in_ok-start.start c.in_ok-object.footer is c.in_ok-start.ensures.count c.in_ok-object.ensures.bytes.0 c.in_ok-object.ensures.bytes.1

pub returns-clause-written : goal.returns-clause-written
returns-clause-written g c = λ told.
    let hash = c.args.hash.now in
    let ms = leaves_from 0 c.args.chunks.now in
    let parts = parts_from 0 c.args.chunks.now c.args.bytes.now in
    let is = footer_of_leaves c.in_ok-info.info hash _ ms no_spare c.in_ok-info.ensures.footer (c.deref.ensures.value ∙ c.in_ok-leaves.ensures.leaves) in
    let next = c.in_ok-object.ensures.written (c.in_ok-start.ensures.frame.tells ∙ told) in
    whole_encoding V1 hash ms parts no_spare _ _ _ _ (c.in_ok-start.ensures.written told) next (footer_is c.in_ok-info.info hash ms no_spare is)

pub returns-clause-prefix : goal.returns-clause-prefix
returns-clause-prefix g c = λ told. whole_prefix _ _ _ (returns-clause-written g c told)

pub overflow_add-result : goal.overflow_add-result
overflow_add-result g c =
    omega (
      arith,
      c.in_ok-start.ensures.count,
      encoded_bound 0 c.args.chunks.now c.args.bytes.now c.requires.parts,
      c.in_ok-object.ensures.bytes.0,
      c.in_ok-info.ensures.short.hashes,
      c.in_ok-info.ensures.short.stored,
      c.in_ok-info.ensures.short.plain,
    )
