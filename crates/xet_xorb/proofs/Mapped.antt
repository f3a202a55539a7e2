-- A list that a loop makes of another, item by item.
use Rattle.std.proofs.Common.{◌≡◌, ◌∙◌, ◌+◌, ◌<◌, ◌∷◌, ◌++◌, [], List, ap, get_or, length, map, sym, take, ℕ}
use Rattle.std.proofs.lemmas.List.{map_push, take_more}

pub one_mapped : {X Y : Type 0} (f : X → Y) (xs : List X) (i : ℕ) (x : X) (before now : List Y) → i < length xs → x ≡ get_or xs i x → now ≡ before ++ f x ∷ [] → before ≡ map f (take i xs) → now ≡ map f (take (i + 1) xs)
one_mapped {Y} f xs i x before now below is pushed so_far =
    pushed ∙ ap (λ (ys : List Y). ys ++ f x ∷ []) so_far
    ∙ sym (ap (map f) (take_more xs i x below) ∙ map_push f (take i xs) (get_or xs i x) ∙ ap (λ (y : _). map f (take i xs) ++ f y ∷ []) (sym is))
