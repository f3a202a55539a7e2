-- Words that begin with `-`.
use Rattle.std.proofs.Common.{◌≡◌, ap, refl, ℕ, Bool, List, [], ◌∷◌, map}
use Rattle.std.specs.List.{list_any}
use Rattle.std.specs.Prelude.{◌||◌}
use Rattle.xet_arguments.specs.Arguments.{is_option}

pub any_map : {X : Type 0} (f : X → List ℕ) (words : List X) → list_any (λ word. is_option (f word)) words ≡ list_any is_option (map f words)
any_map f [] = refl
any_map f (w ∷ ws) = ap (λ (t : Bool). is_option (f w) || t) (any_map f ws)
