-- Four lists woven into the one whose groups they are.
use Rattle.std.proofs.Common.{◌≡◌, ◌∙◌, ℕ, ◌+◌, ◌<◌, ◌≤◌, ◌/◌, ◌-◌, List, [], ◌∷◌, ◌++◌, length, get_or, map, take, drop, refl, sym, ap, subst, arith, add-zero, append_assoc, length-append}
use Rattle.std.proofs.lemmas.List.{drop-drop, drop_all, drop_more, drop_at, get_or-drop, length-drop, length-take, take-append-drop, take_at, take_rest}
use Rattle.xet_group.specs.Groups.{AreGroups, every_fourth, grouped, groups_of}
use Rattle.xet_group.proofs.Fourths.{AreNear, groups_lengths, groups_near}

-- one byte of each list in turn, as often as the last list has one, and then what is left
unfoldable pub woven : List ℕ → List ℕ → List ℕ → List ℕ → List ℕ
woven p q r [] = p ++ q ++ r
woven p q r (d ∷ s) = get_or p 0 0 ∷ get_or q 0 0 ∷ get_or r 0 0 ∷ d ∷ woven (drop 1 p) (drop 1 q) (drop 1 r) s

woven_parts : (p q r s : List ℕ) → AreNear p q r s
    → (every_fourth 0 (woven p q r s) ≡ p) × (every_fourth 1 (woven p q r s) ≡ q) × (every_fourth 2 (woven p q r s) ≡ r) × (every_fourth 3 (woven p q r s) ≡ s)
unfolding every_fourth woven
woven_parts [] [] [] [] h = (refl, refl, refl, refl)
woven_parts (a ∷ []) [] [] [] h = (refl, refl, refl, refl)
woven_parts (a ∷ []) (b ∷ []) [] [] h = (refl, refl, refl, refl)
woven_parts (a ∷ []) (b ∷ []) (c ∷ []) [] h = (refl, refl, refl, refl)
woven_parts (a ∷ p) (b ∷ q) (c ∷ r) (d ∷ s) h =
    let less : AreNear p q r s = record { third = omega (arith, h.third); second = omega (arith, h.second); first = omega (arith, h.first); near = omega (arith, h.near) } in
    let e = woven_parts p q r s less in
    (ap (λ (l : List ℕ). a ∷ l) e.0, ap (λ (l : List ℕ). b ∷ l) e.1, ap (λ (l : List ℕ). c ∷ l) e.2, ap (λ (l : List ℕ). d ∷ l) e.3)
woven_parts p q r s h = absurd (omega (arith, h.third, h.second, h.first, h.near))

-- near lists are the groups of what they are woven into
pub groups-woven : (p q r s : List ℕ) → AreNear p q r s → groups_of (woven p q r s) ≡ p ∷ q ∷ r ∷ s ∷ []
groups-woven p q r s h = let e = woven_parts p q r s h in λ i. e.0 i ∷ e.1 i ∷ e.2 i ∷ e.3 i ∷ []

woven-groups : (bytes : List ℕ) → woven (every_fourth 0 bytes) (every_fourth 1 bytes) (every_fourth 2 bytes) (every_fourth 3 bytes) ≡ bytes
unfolding every_fourth woven
woven-groups [] = refl
woven-groups (a ∷ []) = refl
woven-groups (a ∷ b ∷ []) = refl
woven-groups (a ∷ b ∷ c ∷ []) = refl
woven-groups (a ∷ b ∷ c ∷ d ∷ rest) = ap (λ (l : List ℕ). a ∷ b ∷ c ∷ d ∷ l) (woven-groups rest)

abbrev group_at : List (List ℕ) → ℕ → List ℕ
group_at groups n = get_or groups n []

-- the groups determine the bytes
pub same_groups : (one other : List ℕ) → groups_of one ≡ groups_of other → one ≡ other
same_groups one other e =
    sym (woven-groups one)
    ∙ ap (λ (g : List (List ℕ)). woven (group_at g 0) (group_at g 1) (group_at g 2) (group_at g 3)) e
    ∙ woven-groups other

-- what is joined of the groups
pub grouped_from : (bytes p q r s : List ℕ) → groups_of bytes ≡ p ∷ q ∷ r ∷ s ∷ [] → grouped bytes ≡ p ++ q ++ r ++ s
grouped_from bytes p q r s e =
    ap (λ (g : List (List ℕ)). group_at g 0 ++ group_at g 1 ++ group_at g 2 ++ group_at g 3) e

-- four lists are groups where they are near, and only there
pub groups_from_near : (p q r s : List ℕ) → AreNear p q r s → AreGroups (p ∷ q ∷ r ∷ s ∷ [])
groups_from_near p q r s h = (woven p q r s, sym (groups-woven p q r s h))

pub near_from_groups : (p q r s : List ℕ) → AreGroups (p ∷ q ∷ r ∷ s ∷ []) → AreNear p q r s
near_from_groups p q r s h =
    let P : List (List ℕ) → Type 0 = λ g. AreNear (group_at g 0) (group_at g 1) (group_at g 2) (group_at g 3) in
    subst P (sym h.1) (groups_near h.0)

same_parts : (s t u v : List ℕ) → length s ≡ length u → s ++ t ≡ u ++ v → (s ≡ u) × (t ≡ v)
same_parts s t u v l e = (
  sym (take_at s t (length s) refl) ∙ ap (take (length s)) e ∙ take_at u v (length s) (sym l),
  sym (drop_at s t (length s) refl) ∙ ap (drop (length s)) e ∙ drop_at u v (length s) (sym l),
)

length-grouped : (bytes : List ℕ) → length (grouped bytes) ≡ length bytes
length-grouped bytes = simp length-append (groups_lengths bytes)

-- the joined groups determine the bytes
pub same_grouped : (one other : List ℕ) → grouped one ≡ grouped other → one ≡ other
same_grouped one other e =
    let n : length one ≡ length other = sym (length-grouped one) ∙ ap length e ∙ length-grouped other in
    let x = groups_near one in
    let y = groups_near other in
    let p = every_fourth 0 one in
    let q = every_fourth 1 one in
    let r = every_fourth 2 one in
    let p' = every_fourth 0 other in
    let q' = every_fourth 1 other in
    let r' = every_fourth 2 other in
    let l0 : length p ≡ length p' = omega (arith, n, groups_lengths one, groups_lengths other, x.third, x.second, x.first, x.near, y.third, y.second, y.first, y.near) in
    let l1 : length q ≡ length q' = omega (arith, n, groups_lengths one, groups_lengths other, x.third, x.second, x.first, x.near, y.third, y.second, y.first, y.near) in
    let l2 : length r ≡ length r' = omega (arith, n, groups_lengths one, groups_lengths other, x.third, x.second, x.first, x.near, y.third, y.second, y.first, y.near) in
    let three = same_parts (p ++ q ++ r) _ (p' ++ q' ++ r') _ (simp length-append (omega (arith, l0, l1, l2))) e in
    let two = same_parts (p ++ q) _ (p' ++ q') _ (simp length-append (omega (arith, l0, l1))) three.0 in
    let one = same_parts p _ p' _ l0 two.0 in
    same_groups _ _ (λ i. one.0 i ∷ one.1 i ∷ two.1 i ∷ three.1 i ∷ [])

-- a list cut into four pieces
pub cut_joins : (k m n : ℕ) (b : List ℕ) → take k b ++ take m (drop k b) ++ take n (drop m (drop k b)) ++ drop n (drop m (drop k b)) ≡ b
cut_joins k m n b =
    append_assoc (take k b ++ take m (drop k b)) (take n (drop m (drop k b))) (drop n (drop m (drop k b)))
    ∙ ap (λ (l : List ℕ). take k b ++ take m (drop k b) ++ l) (take-append-drop n (drop m (drop k b)))
    ∙ append_assoc (take k b) (take m (drop k b)) (drop m (drop k b))
    ∙ ap (λ (l : List ℕ). take k b ++ l) (take-append-drop m (drop k b))
    ∙ take-append-drop k b

-- the pieces are near where the first three have the lengths of groups
pub cut_near : (k m n : ℕ) (b : List ℕ) → k ≡ (length b + 3 - 0) / 4 → m ≡ (length b + 3 - 1) / 4 → n ≡ (length b + 3 - 2) / 4
    → AreNear (take k b) (take m (drop k b)) (take n (drop m (drop k b))) (drop n (drop m (drop k b)))
cut_near k m n b ek em en = record {
  third = simp (length-take, length-drop) (omega arith);
  second = simp (length-take, length-drop) (omega arith);
  first = simp (length-take, length-drop) (omega arith);
  near = simp (length-take, length-drop) (omega arith);
}

-- every list is the joined groups of some bytes
pub some_grouped : (b : List ℕ) → (bytes : List ℕ) × (grouped bytes ≡ b)
some_grouped b =
    let k = (length b + 3 - 0) / 4 in
    let m = (length b + 3 - 1) / 4 in
    let n = (length b + 3 - 2) / 4 in
    let p = take k b in
    let q = take m (drop k b) in
    let r = take n (drop m (drop k b)) in
    let s = drop n (drop m (drop k b)) in
    (woven p q r s, grouped_from _ p q r s (groups-woven p q r s (cut_near k m n b refl refl refl)) ∙ cut_joins k m n b)

-- one byte of each list, and what is left of them
pub woven_step : (p q r s : List ℕ) (i : ℕ) → i < length s
    → woven (drop i p) (drop i q) (drop i r) (drop i s)
    ≡ (get_or p i 0 ∷ get_or q i 0 ∷ get_or r i 0 ∷ get_or s i 0 ∷ []) ++ woven (drop (i + 1) p) (drop (i + 1) q) (drop (i + 1) r) (drop (i + 1) s)
unfolding woven
woven_step p q r s i here = rw (drop_more s i 0 here) (simp (get_or-drop, drop-drop, add-zero) refl)

-- nothing is left of the last list
pub woven_end : (p q r s : List ℕ) (i : ℕ) → length s ≤ i → woven (drop i p) (drop i q) (drop i r) (drop i s) ≡ drop i p ++ drop i q ++ drop i r
unfolding woven
woven_end p q r s i past = rw (drop_all i s past) refl

-- one more part is written, where text ++ rest was kept
pub one_more : (out new part rest left whole : List ℕ) → new ≡ out ++ part → rest ≡ part ++ left → out ++ rest ≡ whole → new ++ left ≡ whole
one_more out new part rest left whole a b c =
    ap (λ (t : List ℕ). t ++ left) a ∙ append_assoc out part left ∙ ap (λ (t : List ℕ). out ++ t) (sym b) ∙ c

-- a list of four
pub map_four : {X Y : Type 0} (f : X → Y) (xs : List X) (a b c d : X) → 4 ≤ length xs → length xs < 5 → a ≡ get_or xs 0 a → b ≡ get_or xs 1 b → c ≡ get_or xs 2 c → d ≡ get_or xs 3 d
    → map f xs ≡ f a ∷ f b ∷ f c ∷ f d ∷ []
map_four f (x ∷ y ∷ z ∷ w ∷ []) a b c d least most ea eb ec ed = λ i. f (sym ea i) ∷ f (sym eb i) ∷ f (sym ec i) ∷ f (sym ed i) ∷ []
map_four f xs a b c d least most ea eb ec ed = absurd (omega (arith, least, most))

-- what is woven, and then what is left of the first three lists
pub all_written : (p q r s out two three four whole : List ℕ) (i : ℕ) → i ≡ length s
    → out ++ woven (drop i p) (drop i q) (drop i r) (drop i s) ≡ whole
    → two ≡ out ++ take (length p - length s) (drop (length s) p)
    → three ≡ two ++ take (length q - length s) (drop (length s) q)
    → four ≡ three ++ take (length r - length s) (drop (length s) r)
    → four ≡ whole
all_written p q r s out two three four whole i all kept second third fourth =
    let n = length s in
    let kept' : out ++ woven (drop n p) (drop n q) (drop n r) (drop n s) ≡ whole = rw all at kept in
    let end = ap (λ l. out ++ l) (woven_end p q r s n (omega arith)) in
    let joined : four ≡ out ++ (drop n p ++ drop n q ++ drop n r) =
    rw (fourth, third, second, take_rest p n, take_rest q n, take_rest r n) (simp append_assoc) in
    joined ∙ sym end ∙ kept'
