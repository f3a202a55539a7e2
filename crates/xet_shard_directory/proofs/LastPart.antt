-- The last part of a path.
use Rattle.std.proofs.Common.{◌≡◌, ◌≢◌, ℕ, suc, ◌+◌, ◌<◌, ◌==◌, ◌&&◌, Bool, true, false, not, List, [], ◌∷◌, ◌++◌, length, get_or, take, drop, refl, sym, ap, ◌∙◌, arith, take-append-drop}
use Rattle.std.proofs.lemmas.Bool.Decides.{nat_tests}
use Rattle.std.proofs.lemmas.Str.Pattern.{NoCharPasses-char}
use Rattle.std.proofs.Math.Seq.{drop-cons}
use Rattle.std.specs.Str.{NoCharPasses}
use Rattle.xet_io.specs.Named.{is_plain}
use Rattle.xet_shard_directory.specs.Values.{last_part}

-- no byte is a slash
plain_of : (s : List ℕ) → ((i : ℕ) → i < length s → get_or s i 0 ≢ 47) → is_plain s ≡ true
plain_of [] h = refl
plain_of (b ∷ bs) h =
    let other : b ≢ 47 = h 0 (omega arith) in
    let here : (b == 47) ≡ false = grind (arith, nat_tests) in
    rw here (plain_of bs (λ i lt. h (suc i) (omega arith)))

last_of_plain : (s : List ℕ) → is_plain s ≡ true → last_part s ≡ s
unfolding last_part
last_of_plain [] h = refl
last_of_plain (b ∷ bs) h = rw h refl

and_false : (a b : Bool) → b ≡ false → (a && b) ≡ false
and_false true b h = h
and_false false b h = refl

-- a path with a slash in it is not plain
slash_within : (front name : List ℕ) → is_plain (front ++ 47 ∷ name) ≡ false
slash_within [] name = refl
slash_within (b ∷ front) name = and_false (not (b == 47)) (is_plain (front ++ 47 ∷ name)) (slash_within front name)

-- what follows the last slash
last_after_slash : (front name : List ℕ) → is_plain name ≡ true → last_part (front ++ 47 ∷ name) ≡ name
unfolding last_part
last_after_slash [] name h = last_of_plain name h
last_after_slash (b ∷ front) name h = rw (slash_within (b ∷ front) name) (last_after_slash front name h)

-- the text is all of the path, which has no slash
pub last_is_all : (path : List ℕ) → NoCharPasses (λ d. d == 47) path → path ≡ last_part path
last_is_all path none = sym (last_of_plain path (plain_of path (λ i lt. NoCharPasses-char 47 path i none (omega arith) lt)))

-- the text follows a slash, and has none
pub last_is_rest : (path name : List ℕ) (i j : ℕ) → j ≡ i + 1 → i < length path → get_or path i 0 ≡ 47 → name ≡ drop j path
    → NoCharPasses (λ d. d == 47) (drop j path) → name ≡ last_part path
last_is_rest path name i j ej lt slash en none =
    let plain : is_plain (drop j path) ≡ true = plain_of (drop j path) (λ k less. NoCharPasses-char 47 (drop j path) k none (omega arith) less) in
    let next : suc i ≡ j = omega arith in
    let split : path ≡ take i path ++ 47 ∷ drop j path =
    sym (take-append-drop i path) ∙ ap (λ (s : List ℕ). take i path ++ s) (drop-cons path i 0 lt ∙ rw (slash, next) refl) in
    en ∙ sym (ap last_part split ∙ last_after_slash (take i path) (drop j path) plain)
