-- Items of a list that are written one after the other.
use Rattle.std.proofs.Common.{◌≡◌, ◌∙◌, ℕ, ◌+◌, ◌*◌, ◌<◌, List, [], ◌++◌, ap, append_assoc, arith, drop, get_or, length, length-append, subst, sym, take}
use Rattle.std.proofs.lemmas.List.{flat_map_more, take-append-drop, take_more}
use Rattle.std.proofs.lemmas.List.Concat.{flat_map-append}
use Rattle.std.specs.List.{flat_map}
use Rattle.xet_codec.specs.Written.{WritesPrefix, Moves}
use Rattle.xet_codec.specs.theorems.Buffering.{pad, then, then_prefix}

joined_more : {X : Type 0} (f : X → List ℕ) (xs : List X) (i : ℕ) (d : X) (q : List ℕ) → i < length xs → q ≡ f (get_or xs i d) → flat_map f (take i xs) ++ q ≡ flat_map f (take (i + 1) xs)
joined_more f xs i d q lt is =
    ap (λ (t : List ℕ). flat_map f (take i xs) ++ t) is ∙ flat_map_more f [] (take i xs) (get_or xs i d) ∙ ap (flat_map f) (sym (take_more xs i d lt))

pub more : {X : Type 0} {w0 w1 w2 h1 h2 : List ℕ} (f : X → List ℕ) (h0 : List ℕ) (xs : List X) (i : ℕ) (d : X) (q : List ℕ) → i < length xs → q ≡ f (get_or xs i d)
    → Moves w0 w1 h1 (h0 ++ flat_map f (take i xs)) → Moves w1 w2 h2 (h1 ++ q) → Moves w0 w2 h2 (h0 ++ flat_map f (take (i + 1) xs))
more {X} {w0} {w1} {w2} {h1} {h2} f h0 xs i d q lt is a b =
    subst (λ (t : List ℕ). Moves w0 w2 h2 (h0 ++ t)) (joined_more f xs i d q lt is) (then h0 (flat_map f (take i xs)) q a b)

pub group_ends : {X : Type 0} {w0 w1 w2 h1 : List ℕ} (f : X → List ℕ) (h0 : List ℕ) (xs : List X) (i : ℕ) (d : X) (q : List ℕ) → i < length xs → q ≡ f (get_or xs i d)
    → Moves w0 w1 h1 (h0 ++ flat_map f (take i xs)) → WritesPrefix w1 w2 (h1 ++ q) → WritesPrefix w0 w2 (h0 ++ flat_map f xs)
group_ends {X} {w0} {w1} {w2} {h1} f h0 xs i d q lt is a b =
    let rest : List ℕ = flat_map f (drop (i + 1) xs) in
    let all : flat_map f (take (i + 1) xs) ++ rest ≡ flat_map f xs = sym (flat_map-append f (take (i + 1) xs) (drop (i + 1) xs)) ∙ ap (flat_map f) (take-append-drop (i + 1) xs) in
    let part = subst (λ (t : List ℕ). WritesPrefix w0 w2 (h0 ++ t)) (joined_more f xs i d q lt is) (then_prefix h0 (flat_map f (take i xs)) q a b) in
    subst (λ (t : List ℕ). WritesPrefix w0 w2 t) (append_assoc h0 (flat_map f (take (i + 1) xs)) rest ∙ ap (λ (t : List ℕ). h0 ++ t) all) (pad rest part)

-- so many bytes each
pub length_more : (size : ℕ) (xs : List (List ℕ)) (i : ℕ) (d q : List ℕ) → i < length xs → q ≡ get_or xs i d → length (flat_map (λ h. h) (take i xs)) ≡ size * i → length q ≡ size
    → length (flat_map (λ h. h) (take (i + 1) xs)) ≡ size * (i + 1)
length_more size xs i d q lt is e len =
    let all = joined_more (λ (h : List ℕ). h) xs i d q lt is in
    ap length (sym all) ∙ length-append (flat_map (λ h. h) (take i xs)) q ∙ omega arith
