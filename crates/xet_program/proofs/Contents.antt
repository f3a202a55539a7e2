-- The contents of a folder at a time have one table of records.
use Rattle.std.proofs.Common.{◌≡◌, ◌⊎◌, ◌∙◌, inl, inr, ℕ, zero, suc, true, false, IsTrue, List, [], ◌∷◌, length, map, refl, sym, ap, subst, arith}
use Rattle.std.proofs.lemmas.List.{length-map}
use Rattle.std.specs.Cmp.Lexicographic.{nat_list_cmp_total, slice_cmp}
use Rattle.std.specs.List.{AllPairs, IsAmong, flat_map}
use Rattle.std.specs.Ordering.{is_lt, nat_cmp, ordering_reverse}
use Rattle.std.specs.declared.cmp.Ordering.{Ordering}
use Rattle.std.specs.declared.cmp.Ordering.TheVariants.{Less, Equal, Greater}
use Rattle.xet_io.specs.Disk.{Files}
use Rattle.xet_shard_format.specs.Names.{shard_name}
use Rattle.xet_shard_file.specs.Shards.{ComesBefore, IsThere, Registers, ShardFile, is_expired}
use Rattle.xet_folder.specs.Contents.{HasContents, HasTooMany, firsts, listed_in}
use Rattle.xet_folder.specs.declared.contents.Contents.{Contents}
use Rattle.xet_program.specs.Ending.{CanOpen}
use Rattle.xet_program.specs.Tasks.{store_folder}

less_once : (o p : Ordering) → o ≡ ordering_reverse p → IsTrue (is_lt o) → IsTrue (is_lt p) → ⊥
less_once o Less is h g = let bad : is_lt Greater ≡ true = subst (λ (x : Ordering). is_lt x ≡ true) is h in absurd (cc bad)
less_once o Equal is h g = absurd (cc g)
less_once o Greater is h g = absurd (cc g)

-- of two shards not each comes before the other
before_once : (a b : ShardFile) → ComesBefore a b → ComesBefore b a → ⊥
before_once a b (inl x) (inl y) = omega (arith, x, y)
before_once a b (inl x) (inr y) = omega (arith, x, y.0)
before_once a b (inr x) (inl y) = omega (arith, x.0, y)
before_once a b (inr x) (inr y) =
    less_once (slice_cmp nat_cmp (shard_name a.hash) (shard_name b.hash)) (slice_cmp nat_cmp (shard_name b.hash) (shard_name a.hash)) (nat_list_cmp_total.antisymm (shard_name a.hash) (shard_name b.hash)) x.1 y.1

-- ---- lists in order

first_or_later : (x : ShardFile) (xs : List ShardFile) (v : ShardFile) → IsAmong (x ∷ xs) v → (v ≡ x) ⊎ IsAmong xs v
first_or_later x xs v (zero, (below, is)) = inl is
first_or_later x xs v (suc i, (below, is)) = inr (i, (omega arith, is))

is_first : (x : ShardFile) (xs : List ShardFile) → IsAmong (x ∷ xs) x
is_first x xs = (0, (omega arith, refl))

is_later : (x : ShardFile) (xs : List ShardFile) (v : ShardFile) → IsAmong xs v → IsAmong (x ∷ xs) v
is_later x xs v (i, (below, is)) = (suc i, (omega arith, is))

before_later : (x : ShardFile) (xs : List ShardFile) (v : ShardFile) → AllPairs ComesBefore (x ∷ xs) → IsAmong xs v → ComesBefore x v
before_later x xs v pairs (i, (below, is)) = subst (ComesBefore x) (sym is) (pairs 0 (suc i) v (omega arith) (omega arith))

pairs_later : (x : ShardFile) (xs : List ShardFile) → AllPairs ComesBefore (x ∷ xs) → AllPairs ComesBefore xs
pairs_later x xs pairs = λ i j d before below. pairs (suc i) (suc j) d (omega arith) (omega arith)

among_rest : (x y : ShardFile) (xs ys : List ShardFile) → x ≡ y → AllPairs ComesBefore (x ∷ xs) → ((s : ShardFile) → IsAmong (x ∷ xs) s → IsAmong (y ∷ ys) s) → (s : ShardFile) → IsAmong xs s → IsAmong ys s
among_rest x y xs ys same pairs all s among = by_place (first_or_later y ys s (all s (is_later x xs s among)))
  where
    by_place : (s ≡ y) ⊎ IsAmong ys s → IsAmong ys s
    by_place (inl is) =
        let here : ComesBefore x x = subst (ComesBefore x) (is ∙ sym same) (before_later x xs s pairs among) in
        absurd (before_once x x here here)
    by_place (inr later) = later

-- lists of the same shards, each in order, are the same
same_shards : (xs ys : List ShardFile) → AllPairs ComesBefore xs → AllPairs ComesBefore ys → ((s : ShardFile) → IsAmong xs s → IsAmong ys s) → ((s : ShardFile) → IsAmong ys s → IsAmong xs s) → xs ≡ ys
same_shards [] [] p q f g = refl
same_shards [] (y ∷ ys) p q f g = let a = g y (is_first y ys) in absurd (omega (arith, a.1.0))
same_shards (x ∷ xs) [] p q f g = let a = f x (is_first x xs) in absurd (omega (arith, a.1.0))
same_shards (x ∷ xs) (y ∷ ys) p q f g =
    let same : x ≡ y = first (first_or_later y ys x (f x (is_first x xs))) (first_or_later x xs y (g y (is_first y ys))) in
    ap (λ (s : ShardFile). s ∷ xs) same
    ∙ ap (λ (ss : List ShardFile). y ∷ ss) (same_shards xs ys (pairs_later x xs p) (pairs_later y ys q) (among_rest x y xs ys same p f) (among_rest y x ys xs (sym same) q g))
  where
    first : (x ≡ y) ⊎ IsAmong ys x → (y ≡ x) ⊎ IsAmong xs y → x ≡ y
    first (inl is) b = is
    first (inr a) (inl is) = sym is
    first (inr a) (inr b) = absurd (before_once x y (before_later x xs y p b) (before_later y ys x q a))

-- ---- the shards of a folder

registers_among : (files : Files) (folder : List ℕ) (now : ℕ) (xs ys : List ShardFile) → Registers files folder now xs → Registers files folder now ys → (s : ShardFile) → IsAmong xs s → IsAmong ys s
registers_among files folder now xs ys a b s (i, (below, is)) =
    b.all s (subst (IsThere files folder) (sym is) (a.there i s below)) (subst (λ (t : ShardFile). is_expired now t.file.bytes ≡ false) (sym is) (a.valid i s below))

-- what is registered of a folder is what its contents are of
pub shards_once : (files : Files) (folder : List ℕ) (now : ℕ) (c : Contents) (xs : List ShardFile) → (has : HasContents files folder now c) → Registers files folder now xs → has.shards ≡ xs
shards_once files folder now c xs has r =
    let s = has.admits.registers in
    same_shards has.shards xs s.order r.order (registers_among files folder now has.shards xs s r) (registers_among files folder now xs has.shards r s)

pub records_once : (files : Files) (folder : List ℕ) (now : ℕ) (c d : Contents) → HasContents files folder now c → HasContents files folder now d → c.records ≡ d.records
records_once files folder now c d a b =
    let r = a.admits.registers in
    let s = b.admits.registers in
    let same : a.shards ≡ b.shards = same_shards a.shards b.shards r.order s.order (registers_among files folder now a.shards b.shards r s) (registers_among files folder now b.shards a.shards s r) in
    a.contents.records ∙ ap (λ (ss : List ShardFile). firsts (flat_map (λ f. listed_in f.file.bytes) ss)) same ∙ sym b.contents.records

-- a folder that can be opened has not too many shards
pub never_too_many : (X : Type 0) (files : Files) (now : ℕ) (c : Contents) → CanOpen files now c → HasTooMany files store_folder now → X
never_too_many X files now c can past =
    let same = shards_once files store_folder now c past.shards can.valid past.admits.registers in
    absurd (omega (arith, past.many, can.few, ap (λ (ss : List ShardFile). length ss) same, ap (λ (hs : List (List ℕ)). length hs) can.valid.contents.registered, length-map can.valid.shards (λ (f : ShardFile). f.hash)))
