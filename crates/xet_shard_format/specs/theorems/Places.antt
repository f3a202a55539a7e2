-- The order of the items of the chunk lookup table is total; items that compare as equal are equal.
use Rattle.std.proofs.Common.{ap, ◌∙◌, ◌+◌, arith, get_or, ◌≡◌, ℕ, refl, sym, List, [], ◌∷◌, ◌++◌}
use Rattle.std.specs.List.Sorted.{IsSorted}
use Rattle.std.proofs.lemmas.List.{length-map, map-append}
use Rattle.std.proofs.Math.ListN.{get_or-map}
use Rattle.std.specs.Ordering.{is_lt, nat_cmp, ordering_then}
use Rattle.std.specs.declared.cmp.Ordering.{Ordering}
use Rattle.std.specs.declared.cmp.Ordering.TheVariants.{Less, Equal, Greater}
use Rattle.std.specs.Cmp.{IsTotalOrder}
use Rattle.std.proofs.lemmas.Cmp.{nat_cmp_total, on_total, ranked, then_total}
use Rattle.xet_shard_format.specs.Lookups.{flat_place, flat_places, place_cmp}

pub place_total : IsTotalOrder place_cmp
place_total = then_total (then_total (on_total (λ (p : ℕ × ℕ × ℕ). p.0) nat_cmp_total) (on_total (λ (p : ℕ × ℕ × ℕ). p.1) nat_cmp_total)) (on_total (λ (p : ℕ × ℕ × ℕ). p.2) nat_cmp_total)

both_tie : (o p : Ordering) → ordering_then o p ≡ Equal → (o ≡ Equal) × (p ≡ Equal)
both_tie Less p e = absurd cc
both_tie Equal p e = (refl, e)
both_tie Greater p e = absurd cc

pub place_exact : (a b : ℕ × ℕ × ℕ) → place_cmp a b ≡ Equal → a ≡ b
place_exact a b same =
    let two = both_tie (ordering_then (nat_cmp a.0 b.0) (nat_cmp a.1 b.1)) (nat_cmp a.2 b.2) same in
    let one = both_tie (nat_cmp a.0 b.0) (nat_cmp a.1 b.1) two.0 in
    λ i. (ranked a.0 b.0 Equal (sym one.0) i, ranked a.1 b.1 Equal (sym one.1) i, ranked a.2 b.2 Equal (sym two.1) i)

-- ---- places whose row and place in the xorb stand in a pair

pub flat_push : (found : List (ℕ × (ℕ × ℕ))) (p : ℕ × (ℕ × ℕ)) → flat_places (found ++ p ∷ []) ≡ flat_places found ++ flat_place p ∷ []
flat_push found p = map-append flat_place found (p ∷ [])

-- the order of pairs in pairs
abbrev pub pair_cmp : ℕ × (ℕ × ℕ) → ℕ × (ℕ × ℕ) → Ordering
pair_cmp x y = ordering_then (nat_cmp x.0 y.0) (ordering_then (nat_cmp x.1.0 y.1.0) (nat_cmp x.1.1 y.1.1))

pub then_regroups : (o p q : Ordering) → ordering_then (ordering_then o p) q ≡ ordering_then o (ordering_then p q)
then_regroups Less p q = refl
then_regroups Equal p q = refl
then_regroups Greater p q = refl

pub flat_sorted : (ys : List (ℕ × (ℕ × ℕ))) → IsSorted pair_cmp ys → IsSorted place_cmp (flat_places ys)
flat_sorted ys sorted = λ k d low high.
    let e : ℕ × (ℕ × ℕ) = (d.0, (d.1, d.2)) in
    let a = get_or ys (k + 1) e in
    let b = get_or ys k e in
    ap is_lt ((λ i. place_cmp (get_or-map flat_place ys (k + 1) e i) (get_or-map flat_place ys k e i)) ∙ then_regroups (nat_cmp a.0 b.0) (nat_cmp a.1.0 b.1.0) (nat_cmp a.1.1 b.1.1))
    ∙ sorted k e low (omega (arith, high, length-map ys flat_place))
