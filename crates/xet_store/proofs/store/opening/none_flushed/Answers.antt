use Rattle.std.proofs.Common.{◌≡◌, ◌∙◌, ◌+◌, None, ap, length, refl, subst, sym}
use Rattle.std.proofs.lemmas.List.{length_push}
use Rattle.std.specs.List.{AllByRecursion}
use Rattle.xet_base.specs.theorems.Elements.{all_push}
use Rattle.xet_store.proofs.store.opening.none_flushed.Goals as goal

pub shards-preserved : goal.shards-preserved
shards-preserved c =
    let before = c.shards.flushed.items in
    let pushed = c.in_ok-push.ensures.items in
    record {
      count = ap length pushed ∙ length_push before None ∙ ap (λ n. n + 1) c.shards.invariant.count;
      none = subst (AllByRecursion (λ f. f ≡ None)) (sym pushed) (all_push (λ f. f ≡ None) before None c.shards.invariant.none refl);
    }
