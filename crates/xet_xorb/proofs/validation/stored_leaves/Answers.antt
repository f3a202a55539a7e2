use Rattle.std.proofs.Common.{◌∙◌, ◌≤◌, arith, List, refl, rules, ℕ}
use Rattle.xet_base.specs.theorems.Elements.{all_push}
use Rattle.xet_codec.specs.theorems.Seeing.{sees_on}
use Rattle.xet_xorb.proofs.Checked.{next_stands, one_more, total_more}
use Rattle.xet_xorb.proofs.validation.stored_leaves.Goals as goal

pub returns-in_default-clause-none : goal.returns-in_default-clause-none
returns-in_default-clause-none g c = λ bytes sees _ chunks a.
    let inv = c.chunks.invariant in
    let here = sees_on sees inv.tells inv.same (inv.part bytes sees) in
    let next = next_stands c.args.max_chunk c.chunks.at c.args.end bytes c.chunks.leaves.items chunks c.requires.max_chunk c.chunks-test.true (omega (arith, sees.all, c.requires.end)) (inv.found bytes sees) a in
    c.in_ok-leaf.ensures.none bytes here (rw c.in_default.is refl) next.0 next.1

pub chunks-preserved : goal.chunks-preserved
chunks-preserved g c =
    let inv = c.chunks.invariant in
    let ms = c.chunks.leaves.items in
    let m = c.in-Some.leaf in
    let items = c.in_ok-push.ensures.items in
    let kept = c.in_ok-leaf.ensures in record {
      size = rw items (omega (arith, total_more ms m, inv.size));
      fit = rw items (all_push (λ (x : List ℕ × ℕ). x.1 ≤ c.args.max_chunk) ms m inv.fit (rw c.in-Some.is at kept.fits));
      within = rw c.in-Some.is at kept.within;
      same = kept.frame.same ∙ inv.same;
      tells = kept.frame.tells ∙ inv.tells;
      cause = record { later = omega (arith, inv.cause.later, kept.frame.later); rose = λ x. absurd x };
      lent = search rules;
      part = λ bytes sees. rw c.in-Some.is at (kept.part bytes (sees_on sees inv.tells inv.same (inv.part bytes sees)));
      found = λ bytes sees.
          let at = rw c.in-Some.is at (kept.found bytes (sees_on sees inv.tells inv.same (inv.part bytes sees))) in
          rw items (one_more c.args.max_chunk c.chunks.at c.args.end bytes ms m at.0 (inv.found bytes sees) at.1 at.2);
    }
