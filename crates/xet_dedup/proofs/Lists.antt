-- Items of lists.
use Rattle.std.proofs.Common.{◌≡◌, ◌∙◌, ℕ, zero, suc, ◌+◌, ◌≤◌, ◌<◌, List, [], ◌∷◌, ◌++◌, length, map, take, drop, Some, option_map, refl, ap, subst, arith}
use Rattle.std.specs.List.{AllByRecursion}
use Rattle.std.specs.Prelude.{replicate, slice_get}
use Rattle.std.proofs.lemmas.Option.{slice_get-map}

pub item_at : {A : Type 0} (xs : List A) (i : ℕ) → i < length xs → (x : A) × (slice_get xs i ≡ Some x)
item_at [] i lt = absurd (omega arith)
item_at (x ∷ xs) zero lt = (x, refl)
item_at (x ∷ xs) (suc i) lt = item_at xs i (omega arith)

pub get_drop : {A : Type 0} (xs : List A) (n i : ℕ) → slice_get (drop n xs) i ≡ slice_get xs (n + i)
get_drop xs zero i = ap (slice_get xs) (omega arith)
get_drop [] (suc n) i = refl
get_drop (x ∷ xs) (suc n) i = let at : suc (n + i) ≡ suc n + i = omega arith in get_drop xs n i ∙ ap (slice_get (x ∷ xs)) at

-- the item of which another one was made
pub get_made : {A B : Type 0} (f : A → B) (xs : List A) (i : ℕ) (y : B) → slice_get (map f xs) i ≡ Some y → (x : A) × (slice_get xs i ≡ Some x) × (f x ≡ y)
get_made f [] i y e = absurd (cc e)
get_made f (x ∷ xs) zero y e = (x, refl, cc e)
get_made f (x ∷ xs) (suc i) y e = get_made f xs i y e

pub get_mapped : {A B : Type 0} (f : A → B) (xs : List A) (i : ℕ) (x : A) → slice_get xs i ≡ Some x → slice_get (map f xs) i ≡ Some (f x)
get_mapped f xs i x e = slice_get-map f xs i ∙ ap (option_map f) e

-- an item of the run of equal ones at the end of a list
pub get_run : {A : Type 0} (xs : List A) (n i : ℕ) (c : A) → length xs ≤ i → i < length xs + n → slice_get (xs ++ replicate n c) i ≡ Some c
get_run [] zero i c le lt = absurd (omega arith)
get_run [] (suc n) zero c le lt = refl
get_run [] (suc n) (suc i) c le lt = get_run [] n i c (omega arith) (omega arith)
get_run (x ∷ xs) n zero c le lt = absurd (omega arith)
get_run (x ∷ xs) n (suc i) c le lt = get_run xs n i c (omega arith) (omega arith)

pub get_repeated : {A : Type 0} (n i : ℕ) (c e : A) → slice_get (replicate n c) i ≡ Some e → c ≡ e
get_repeated zero i c e is = absurd (cc is)
get_repeated (suc n) zero c e is = cc is
get_repeated (suc n) (suc i) c e is = get_repeated n i c e is

pub get_first : {A : Type 0} (xs : List A) (n i : ℕ) → 0 < n → slice_get (take n (drop i xs)) 0 ≡ slice_get xs i
get_first [] zero i lt = absurd (omega arith)
get_first [] (suc n) zero lt = refl
get_first [] (suc n) (suc i) lt = refl
get_first (x ∷ xs) zero i lt = absurd (omega arith)
get_first (x ∷ xs) (suc n) zero lt = refl
get_first (x ∷ xs) (suc n) (suc i) lt = get_first xs (suc n) i lt

-- the items from one on
pub drop_here : {A : Type 0} (xs : List A) (i : ℕ) (x : A) → slice_get xs i ≡ Some x → drop i xs ≡ x ∷ drop (i + 1) xs
drop_here [] i x e = absurd (cc e)
drop_here (y ∷ xs) zero x e = let same : y ≡ x = cc e in ap (λ (z : _). z ∷ xs) same
drop_here {A} (y ∷ xs) (suc i) x e = let at : suc (i + 1) ≡ suc i + 1 = omega arith in drop_here xs i x e ∙ ap (λ (n : ℕ). x ∷ drop n (y ∷ xs)) at

pub all_at : {A : Type 0} (P : A → Type 0) (xs : List A) (i : ℕ) (x : A) → AllByRecursion P xs → slice_get xs i ≡ Some x → P x
all_at P [] i x all e = absurd (cc e)
all_at P (y ∷ xs) zero x all e = let same : y ≡ x = cc e in subst P same all.0
all_at P (y ∷ xs) (suc i) x all e = all_at P xs i x all.1 e
