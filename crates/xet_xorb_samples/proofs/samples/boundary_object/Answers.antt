use Rattle.std.proofs.Common.{◌∙◌, ◌+◌, ◌*◌, ◌<◌, ◌≤◌, ◌^◌, ℕ, List, arith, length, subst, sym}
use Rattle.xet_hash.specs.Merkle.{total_len}
use Rattle.xet_xorb_footer.specs.FooterEncoding.{max_chunks}
use Rattle.xet_xorb_samples.proofs.Boundaries.{few_leaves, fit_leaves}
use Rattle.xet_xorb_samples.proofs.samples.boundary_object.Goals as goal

pub xorb_hash-requires : goal.xorb_hash-requires
xorb_hash-requires c =
    let held = c.requires in
    let fits = fit_leaves held.0 c.args.boundaries.now held.1 in
    subst (λ (x : List (List ℕ × ℕ)). total_len x < 2 ^ 64) (sym (c.deref.ensures.value ∙ c.in_ok-leaves.ensures.leaves)) (omega (arith, fits))

pub new_footer-requires-clause-few : goal.new_footer-requires-clause-few
new_footer-requires-clause-few c =
    let held = c.requires in
    subst (λ (x : List (List ℕ × ℕ)). length x ≤ max_chunks) (sym (c.deref-2.ensures.value ∙ c.in_ok-leaves.ensures.leaves)) (few_leaves held.0 c.args.boundaries.now held.1)

pub new_footer-requires-clause-bound : goal.new_footer-requires-clause-bound
new_footer-requires-clause-bound c =
    let held = c.requires in
    subst (λ (x : List (List ℕ × ℕ)). total_len x + 8 * length x < 2 ^ 32) (sym (c.deref-2.ensures.value ∙ c.in_ok-leaves.ensures.leaves)) (fit_leaves held.0 c.args.boundaries.now held.1)
