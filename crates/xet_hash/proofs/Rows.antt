-- Rows of consecutive full subtrees, and how they are paired level by level.
use Rattle.std.proofs.Common.{◌≡◌, ℕ, suc, ◌+◌, ◌-◌, ◌*◌, ◌^◌, ◌<◌, ◌≤◌, List, ◌++◌, length, length-drop, take, drop, refl, sym, ap, ◌∙◌, arith}
use Rattle.std.proofs.lemmas.List.{drop-drop, length-take, take_all, take_at}
use Rattle.std.proofs.lemmas.Simd.{length-chunk}
use Rattle.std.proofs.Math.Nat.{add-mul, mul-add, mul_assoc}
use Rattle.std.proofs.lemmas.Nat.{mul-le}
use Rattle.std.proofs.Math.Seq.{take-add}
use Rattle.xet_hash.proofs.Tree.{halves, merged, subtree_chunk, subtree_fits}
use Rattle.xet_hash.proofs.Vectors.{slice_of_slice}
use Rattle.xet_hash.specs.internal.Lanes.{HasChunkValues, lane}
use Rattle.xet_hash.specs.Blake3.{chunk_value, parent_value, subtree, subtree_len, tree}

-- x is the chaining value of the full subtree of a level that begins at byte o of b, with chunk number i
abbrev pub IsSubtreeValue : List ℕ → ℕ → List ℕ → ℕ → ℕ → ℕ → List ℕ → Type 0
IsSubtreeValue key flags b level i o x = x ≡ subtree key flags 0 i (take (subtree_len level) (drop o b)) level

-- from the bytes after the first n to all bytes
pub in_rest : (key : List ℕ) (flags : ℕ) (b part : List ℕ) (n level i o : ℕ) (x : List ℕ) → part ≡ drop n b
    → IsSubtreeValue key flags part level i o x → IsSubtreeValue key flags b level i (n + o) x
in_rest key flags b part n level i o x ep s =
    s ∙ ap (λ (ys : List ℕ). subtree key flags 0 i (take (subtree_len level) ys) level) (ap (drop o) ep ∙ drop-drop o n b)

-- two consecutive subtrees have a parent; its chunk number and offset may be written in another way
pub parent_of_pair : (key : List ℕ) (flags : ℕ) (b : List ℕ) (level below i o i' o' j k : ℕ) (x l r : List ℕ) → level ≡ below + 1
    → i' ≡ i + 2 ^ below → o' ≡ o + subtree_len below → i ≡ j → o ≡ k → o + 2 * subtree_len below ≤ length b
    → IsSubtreeValue key flags b below i o l → IsSubtreeValue key flags b below i' o' r → x ≡ parent_value key flags 0 l r
    → IsSubtreeValue key flags b level j k x
parent_of_pair key flags b level below i o i' o' j k x l r el ei eo ej ek fits sl sr ex =
    let s : ℕ = subtree_len below in
    let p : List ℕ = take s (drop o b) in
    let q : List ℕ = take s (drop o' b) in
    let lp : length p ≡ s = length-chunk o s b (omega arith) in
    let lq : length q ≡ s = length-chunk o' s b (omega arith) in
    let two : subtree_len level ≡ s + s = omega (arith, halves level below el) in
    let whole : take (subtree_len level) (drop o b) ≡ p ++ q =
    rw two (take-add s s (drop o b) ∙ ap (λ (ys : List ℕ). p ++ take s ys) (drop-drop s o b ∙ rw eo refl)) in
    let next : suc below ≡ level = omega arith in
    let joined : x ≡ subtree key flags 0 i (p ++ q) (suc below) = ex ∙ rw (sl, sr, ei) (merged key flags i p q below lp lq) in
    let there : IsSubtreeValue key flags b level i o x = joined ∙ rw (whole, next) refl in
    there ∙ rw (ej, ek) refl

-- two consecutive subtrees, the second of which lies in the bytes after the first n, have a parent
pub parent_in_rest : (key : List ℕ) (flags : ℕ) (b back : List ℕ) (level below i o i' n : ℕ) (x l r : List ℕ) → level ≡ below + 1
    → back ≡ drop n b → n ≡ subtree_len below → i' ≡ i + 2 ^ below → o + 2 * subtree_len below ≤ length b
    → IsSubtreeValue key flags b below i o l → IsSubtreeValue key flags back below i' o r → x ≡ parent_value key flags 0 l r
    → IsSubtreeValue key flags b level i o x
parent_in_rest key flags b back level below i o i' n x l r el eb en ei fits sl sr ex =
    parent_of_pair key flags b level below i o i' (n + o) i o x l r el ei (omega arith) refl refl fits sl
    (in_rest key flags b back n below i' o r eb sr) ex

-- the lanes of v are the values of n consecutive subtrees of a level, the first of which begins with the bytes, with chunk number i
abbrev pub AreSubtreeValues : List ℕ → ℕ → List ℕ → ℕ → ℕ → ℕ → List (List ℕ) → Type 0
AreSubtreeValues key flags b level i n v =
    (j : ℕ) → j < n → IsSubtreeValue key flags b level (i + j * 2 ^ level) (j * subtree_len level) (lane j v)

-- place j of a level whose pieces are twice as long as x
even_place : (j x y : ℕ) → y ≡ x + x → j * y ≡ 2 * j * x
even_place j x y e = omega (arith, ap (λ (z : ℕ). j * z) e, mul-add j x x, mul_assoc 2 j x)

odd_place : (j x : ℕ) → (2 * j + 1) * x ≡ 2 * j * x + x
odd_place j x = omega (arith, add-mul (2 * j) 1 x)

-- the parents of 2 * n consecutive subtrees
pub parents_of_pairs : (key : List ℕ) (flags : ℕ) (b : List ℕ) (level below i n : ℕ) (v r : List (List ℕ)) → level ≡ below + 1
    → 2 * n * subtree_len below ≤ length b → AreSubtreeValues key flags b below i (2 * n) v
    → ((j : ℕ) → j < n → lane j r ≡ parent_value key flags 0 (lane (2 * j) v) (lane (2 * j + 1) v))
    → AreSubtreeValues key flags b level i n r
parents_of_pairs key flags b level below i n v r el fits values parents j h =
    let c : ℕ = 2 ^ below in
    let s : ℕ = subtree_len below in
    let two = halves level below el in
    let length_is : subtree_len level ≡ s + s = omega arith in
    let even_count = even_place j c (2 ^ level) two in
    let odd_count = odd_place j c in
    let even_length = even_place j s (subtree_len level) length_is in
    let odd_length = odd_place j s in
    let pair : (2 * j + 2) * s ≡ 2 * j * s + 2 * s = add-mul (2 * j) 2 s in
    let within : (2 * j + 2) * s ≤ 2 * n * s = mul-le (2 * j + 2) s (2 * n) s (omega arith) (omega arith) in
    parent_of_pair key flags b level below (i + 2 * j * c) (2 * j * s) (i + (2 * j + 1) * c) ((2 * j + 1) * s)
    (i + j * 2 ^ level) (j * subtree_len level) _ _ _ el (omega arith) (omega arith) (omega arith) (omega arith) (omega arith)
    (values (2 * j) (omega arith)) (values (2 * j + 1) (omega arith)) (parents j h)

-- a subtree three levels higher has eight times as many chunks
pub eights : (level below : ℕ) → level ≡ below + 3 → 2 ^ level ≡ 8 * 2 ^ below
eights level below e =
    omega (arith, halves level (below + 2) (omega arith), halves (below + 2) (below + 1) (omega arith), halves (below + 1) below refl)

-- a chunk is a subtree of level 0
pub chunk_is_subtree : (key : List ℕ) (flags : ℕ) (b : List ℕ) (level i o : ℕ) (x : List ℕ) → level ≡ 0
    → x ≡ chunk_value key flags 0 i (take 1024 (drop o b)) → IsSubtreeValue key flags b level i o x
chunk_is_subtree key flags b level i o x el ex =
    rw el (ex ∙ sym (subtree_chunk key flags 0 i (take 1024 (drop o b)) 0 refl))

-- the subtree of all bytes
pub whole_is_subtree : (key : List ℕ) (flags : ℕ) (b : List ℕ) (level i : ℕ) (x : List ℕ) → length b ≡ subtree_len level
    → IsSubtreeValue key flags b level i 0 x → x ≡ subtree key flags 0 i b level
whole_is_subtree key flags b level i x len s = s ∙ ap (λ (ys : List ℕ). subtree key flags 0 i ys level) (take_all (subtree_len level) b (omega arith))

-- the tree of a message is its subtree at any level with room for it
pub tree_at : (key : List ℕ) (flags last i : ℕ) (b : List ℕ) (level : ℕ) → level ≤ 54 → length b ≤ subtree_len level
    → subtree key flags last i b level ≡ tree key flags last i b
tree_at key flags last i b level low fits =
    let top : level + (54 - level) ≡ 54 = omega arith in
    sym (ap (subtree key flags last i b) (sym top) ∙ subtree_fits key flags last i b level (54 - level) fits)

-- a slice of a prefix
slice_of_prefix : (b : List ℕ) (i n m : ℕ) → i + n ≤ m → take n (drop i (take m b)) ≡ take n (drop i b)
slice_of_prefix b i n m fits =
    let start : 0 + i ≡ i = omega arith in slice_of_slice b 0 i n m fits ∙ rw start refl

-- the full chunks of a prefix
pub values_of_prefix : (v : List (List ℕ)) (at : ℕ) (key : List ℕ) (flags i : ℕ) (b part : List ℕ) (n : ℕ) → part ≡ take n b
    → HasChunkValues v at key flags i b → HasChunkValues v at key flags i part
values_of_prefix v at key flags i b part n ep holds j fits =
    let len = ap length ep ∙ length-take n b in
    let same : take 1024 (drop (1024 * j) part) ≡ take 1024 (drop (1024 * j) b) =
    ap (λ (ys : List ℕ). take 1024 (drop (1024 * j) ys)) ep ∙ slice_of_prefix b (1024 * j) 1024 n (omega arith) in
    holds j (omega arith) ∙ ap (chunk_value key flags 0 (i + j)) (sym same)

-- the full chunks after the first m
pub values_of_rest : (v : List (List ℕ)) (at : ℕ) (key : List ℕ) (flags i : ℕ) (b part : List ℕ) (m n : ℕ) → part ≡ drop n b → n ≡ 1024 * m
    → HasChunkValues v at key flags i b → HasChunkValues v (at + m) key flags (i + m) part
values_of_rest v at key flags i b part m n ep en holds j fits =
    let len = ap length ep ∙ length-drop n b in
    let place : at + m + j ≡ at + (m + j) = omega arith in
    let number : i + m + j ≡ i + (m + j) = omega arith in
    let offset : n + 1024 * j ≡ 1024 * (m + j) = omega arith in
    let same : take 1024 (drop (1024 * j) part) ≡ take 1024 (drop (1024 * (m + j)) b) =
    ap (λ (ys : List ℕ). take 1024 (drop (1024 * j) ys)) ep ∙ ap (take 1024) (drop-drop (1024 * j) n b ∙ ap (λ (k : ℕ). drop k b) offset) in
    rw (place, number, same) (holds (m + j) (omega arith))

-- a single full chunk
pub value_of_chunk : (v : List (List ℕ)) (at : ℕ) (key : List ℕ) (flags i : ℕ) (b : List ℕ) → length b ≡ 1024
    → HasChunkValues v at key flags i b → lane at v ≡ chunk_value key flags 0 i b
value_of_chunk v at key flags i b len holds =
    let place : at + 0 ≡ at = omega arith in
    let number : i + 0 ≡ i = omega arith in
    let all : take 1024 b ≡ b = take_all 1024 b (omega arith) in
    rw (place, number, all) at (holds 0 (omega arith))

-- the full chunks of bytes that were padded
pub values_of_padded : (v : List (List ℕ)) (key : List ℕ) (flags i : ℕ) (b padded : List ℕ) → length b ≤ 8192 → b ≡ take (length b) padded
    → ((j : ℕ) → j < 8 → lane j v ≡ chunk_value key flags 0 (i + j * 1) (take 1024 (drop (j * (1024 * 1)) padded))) → HasChunkValues v 0 key flags i b
values_of_padded v key flags i b padded fits front lanes j room =
    let place : 0 + j ≡ j = omega arith in
    let number : i + j * 1 ≡ i + j = omega arith in
    let offset : j * (1024 * 1) ≡ 1024 * j = omega arith in
    let same : take 1024 (drop (1024 * j) b) ≡ take 1024 (drop (1024 * j) padded) =
    ap (λ (ys : List ℕ). take 1024 (drop (1024 * j) ys)) front ∙ slice_of_prefix padded (1024 * j) 1024 (length b) room in
    rw (place, same) (rw (number, offset) at (lanes j (omega arith)))

-- the bytes are a prefix of the padded bytes
pub padded_prefix : (ys rest b : List ℕ) → ys ≡ b → b ≡ take (length b) (ys ++ rest)
padded_prefix ys rest b e = rw e (sym (take_at b rest (length b) refl))
