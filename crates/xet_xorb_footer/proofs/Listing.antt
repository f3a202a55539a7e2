-- The items of a list, one after the other.
use Rattle.std.proofs.Common.{◌≡◌, ◌∙◌, ℕ, suc, ◌+◌, ◌-◌, ◌≤◌, ◌<◌, List, [], ◌∷◌, ◌++◌, ap, append_assoc, arith, drop, sym, take}
use Rattle.std.proofs.lemmas.List.{append-nil}
use Rattle.xet_xorb_footer.specs.Items.{items_in}

items_next : {X : Type 0} (of : List ℕ → X) (size count i : ℕ) (rest behind : List ℕ) (x : X) → i < count → behind ≡ drop size rest → x ≡ of (take size rest)
    → items_in of size (count - i) rest ≡ x ∷ items_in of size (count - (i + 1)) behind
unfolding items_in
items_next of size count i rest behind x lt e is =
    let k : count - i ≡ suc (count - (i + 1)) = omega arith in
    ap (λ (n : ℕ). items_in of size n rest) k ∙ (λ j. sym is j ∷ items_in of size (count - (i + 1)) (sym e j))

pub goes_on : {X : Type 0} (of : List ℕ → X) (size : ℕ) (found found1 : List X) (count i : ℕ) (rest behind : List ℕ) (x : X) (total : List X) → i < count → behind ≡ drop size rest → x ≡ of (take size rest)
    → found1 ≡ found ++ x ∷ [] → found ++ items_in of size (count - i) rest ≡ total → found1 ++ items_in of size (count - (i + 1)) behind ≡ total
goes_on of size found found1 count i rest behind x total lt e is push so_far =
    ap (λ (xs : List _). xs ++ items_in of size (count - (i + 1)) behind) push ∙ append_assoc found (x ∷ []) (items_in of size (count - (i + 1)) behind)
    ∙ ap (λ (xs : List _). found ++ xs) (sym (items_next of size count i rest behind x lt e is)) ∙ so_far

pub is_done : {X : Type 0} (of : List ℕ → X) (size : ℕ) (found : List X) (count i : ℕ) (rest : List ℕ) (total : List X) → count ≤ i → found ++ items_in of size (count - i) rest ≡ total → found ≡ total
unfolding items_in
is_done of size found count i rest total le so_far =
    let k : count - i ≡ 0 = omega arith in
    sym (append-nil found) ∙ ap (λ (xs : List _). found ++ xs) (sym (ap (λ (n : ℕ). items_in of size n rest) k)) ∙ so_far
