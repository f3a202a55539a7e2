use Rattle.std.proofs.Common.{◌≡◌, ◌∙◌, ◌+◌, ◌++◌, ℕ, List, map, take, ap, arith, sym}
use Rattle.std.proofs.lemmas.List.{append-nil, map_more}
use Rattle.std.proofs.lemmas.List.Folds.{concat-append}
use Rattle.std.specs.List.{concat}
use Rattle.xet_hash.specs.Keys.{verification_key}
use Rattle.xet_hash.proofs.range.range_hash.Goals as goal

pub leaves-preserved : goal.leaves-preserved
leaves-preserved c =
    let i = c.leaves.hash-index in
    let leaves = c.args.leaves.now in
    let before : List (List ℕ) = map (λ m. m.0) (take i leaves) in
    let here = sym (c.as_bytes.ensures ∙ ap (λ (m : List ℕ × ℕ). m.0) c.leaves-item.is) in
    let joined : concat (map (λ m. m.0) (take (i + 1) leaves)) ≡ concat before ++ c.as_bytes.result.now =
    ap concat (map_more (λ (m : List ℕ × ℕ). m.0) leaves i c.leaves-item.result c.leaves-test.true) ∙ concat-append before _ ∙ ap (λ (bytes : List ℕ). concat before ++ bytes) (append-nil _ ∙ here) in
    record { len = omega arith; message = rw joined (c.update.ensures.message verification_key (concat before) c.leaves.invariant.message) }
