-- Records in rising order of hash.
use Rattle.std.proofs.Common.{◌≡◌, ◌≢◌, ◌∙◌, ℕ, zero, suc, ◌+◌, ◌<◌, ◌^◌, Bool, true, false, List, [], ◌∷◌, length, get_or, map, None, OnOk, Option, Result, Ok, Err, Some, refl, sym, ap, subst, arith}
use Rattle.std.proofs.lemmas.Bool.{true≢false}
use Rattle.std.proofs.lemmas.List.{length-append}
use Rattle.std.proofs.lemmas.List.Concat.{length-flat_map}
use Rattle.std.proofs.lemmas.List.Sums.{sum_by-cons}
use Rattle.std.specs.Cmp.{IsTotalOrder}
use Rattle.std.specs.Cmp.Lexicographic.{on_texts}
use Rattle.std.specs.List.{AllByRecursion, flat_map, sum_by}
use Rattle.std.specs.List.Sorted.{IsPermutation, IsSorted}
use Rattle.std.specs.Ordering.{is_lt, ordering_reverse}
use Rattle.std.specs.declared.cmp.Ordering.{Ordering}
use Rattle.std.specs.declared.cmp.Ordering.TheVariants.{Less, Equal, Greater}
use Rattle.xet_hash.specs.theorems.Ties.{hash_equal}
use Rattle.xet_hash.specs.Order.{flipped, hash_cmp}
use Rattle.xet_shard_format.specs.declared.record.MDBFileInfo.{MDBFileInfo}
use Rattle.xet_shard_format.specs.declared.record.MDBXorbInfo.{MDBXorbInfo}
use Rattle.xet_shard_format.specs.declared.row.Row.{Row}
use Rattle.xet_shard.specs.Held.{DifferBy, Held, IsHeld, by_hash, held_shard}
use Rattle.xet_hash.specs.Hash.{sentinel}
use Rattle.xet_shard_format.specs.Records.{AreRecords, IsFile, IsXorb, end_row, file_record_hash, file_rows, file_section, is_after, section, xorb_record_hash, xorb_rows, xorb_section}
use Rattle.xet_shard_format.specs.Sorted.{put_in, sorted}
use Rattle.xet_shard_format.specs.Encoding.{IsShard}
use Rattle.xet_shard_format.specs.theorems.Sorting.{sorted_apart}

pub hash_total : IsTotalOrder hash_cmp
hash_total = on_texts flipped

-- ---- the order of hashes

turned : (o p : Ordering) → p ≡ ordering_reverse o → is_lt o ≡ false → (o ≡ Equal → ⊥) → is_lt p ≡ true
turned Less p e less other = absurd (true≢false less)
turned Equal p e less other = absurd (other refl)
turned Greater p e less other = ap is_lt e

-- of two hashes that differ, one is less
pub other_less : (a b : List ℕ) → a ≢ b → is_lt (hash_cmp b a) ≡ false → is_lt (hash_cmp a b) ≡ true
other_less a b unequal less = turned (hash_cmp b a) (hash_cmp a b) (hash_total.antisymm a b) less (λ e. unequal (sym (hash_equal b a e)))

-- ---- what is put in

module _ {X : Type 0} (cmp : X → X → Ordering) where
  pub all_put : (P : X → Type 0) (x : X) (ys : List X) → P x → AllByRecursion P ys → AllByRecursion P (put_in cmp x ys)
  unfolding put_in
  all_put P x [] here all = (here, tt)
  all_put P x (y ∷ ys) here all =
      elim (is_lt (cmp y x)) as (λ (b : Bool). AllByRecursion P (elim b as (λ _. List X) [ true ↦ y ∷ put_in cmp x ys | false ↦ x ∷ y ∷ ys ])) [
        | true ↦ (all.0, all_put P x ys here all.1)
        | false ↦ (here, all)
      ]

  pub all_sorted : (P : X → Type 0) (xs : List X) → AllByRecursion P xs → AllByRecursion P (sorted cmp xs)
  unfolding sorted
  all_sorted P [] all = tt
  all_sorted P (x ∷ xs) all = all_put P x (sorted cmp xs) all.0 (all_sorted P xs all.1)

  sum_put : (f : X → ℕ) (x : X) (ys : List X) → sum_by f (put_in cmp x ys) ≡ f x + sum_by f ys
  unfolding put_in
  sum_put f x [] = sum_by-cons f x []
  sum_put f x (y ∷ ys) =
      let rest : sum_by f (put_in cmp x ys) ≡ f x + sum_by f ys = sum_put f x ys in
      let more : sum_by f (y ∷ put_in cmp x ys) ≡ f y + sum_by f (put_in cmp x ys) = sum_by-cons f y (put_in cmp x ys) in
      let old : sum_by f (y ∷ ys) ≡ f y + sum_by f ys = sum_by-cons f y ys in
      let there : sum_by f (y ∷ put_in cmp x ys) ≡ f x + sum_by f (y ∷ ys) = omega arith in
      elim (is_lt (cmp y x)) as (λ (b : Bool). sum_by f (elim b as (λ _. List X) [ true ↦ y ∷ put_in cmp x ys | false ↦ x ∷ y ∷ ys ]) ≡ f x + sum_by f (y ∷ ys)) [
        | true ↦ there
        | false ↦ sum_by-cons f x (y ∷ ys)
      ]

  sum_sorted : (f : X → ℕ) (xs : List X) → sum_by f (sorted cmp xs) ≡ sum_by f xs
  unfolding sorted
  sum_sorted f [] = refl
  sum_sorted f (x ∷ xs) = sum_put f x (sorted cmp xs) ∙ ap (λ (n : ℕ). f x + n) (sum_sorted f xs) ∙ sym (sum_by-cons f x xs)

  -- a section has as many rows in any order
  pub rows_sorted : (rows : X → List Row) (xs : List X) → length (section rows (sorted cmp xs)) ≡ length (section rows xs)
  rows_sorted rows xs =
      length-append (flat_map rows (sorted cmp xs)) (end_row ∷ [])
      ∙ ap (λ (n : ℕ). n + 1) (length-flat_map rows (sorted cmp xs) ∙ sum_sorted (λ x. length (rows x)) xs ∙ sym (length-flat_map rows xs))
      ∙ sym (length-append (flat_map rows xs) (end_row ∷ []))

-- ---- rising records

module _ {X : Type 0} (hash : X → List ℕ) (Form : X → Type 0) where
  abbrev by : X → X → Ordering
  by x y = hash_cmp (hash x) (hash y)

  put_rises : (last : Option (List ℕ)) (x : X) (ys : List X) → is_after last (hash x) ≡ true → hash x ≢ sentinel → Form x
      → AllByRecursion (λ y. hash x ≢ hash y) ys → AreRecords hash Form last ys → AreRecords hash Form last (put_in by x ys)
  unfolding put_in
  put_rises last x [] after here form differ rise = (after, here, form, tt)
  put_rises last x (y ∷ ys) after here form differ rise =
      at (is_lt (by y x)) refl (λ less. put_rises (Some (hash y)) x ys less here form differ.1 rise.3)
    where
      at : (b : Bool) → is_lt (by y x) ≡ b → (is_lt (by y x) ≡ true → AreRecords hash Form (Some (hash y)) (put_in by x ys))
          → AreRecords hash Form last (elim b as (λ _. List X) [ true ↦ y ∷ put_in by x ys | false ↦ x ∷ y ∷ ys ])
      at true e later = (rise.0, rise.1, rise.2, later e)
      at false e later = (after, here, form, (other_less (hash x) (hash y) differ.0 e, rise.1, rise.2, rise.3))

  pub rising : (xs : List X) → AllByRecursion (λ x. (hash x ≢ sentinel) × Form x) xs → DifferBy hash xs → AreRecords hash Form None (sorted by xs)
  unfolding sorted
  rising [] all differ = tt
  rising (x ∷ xs) all differ =
      put_rises None x (sorted by xs) refl all.0.0 all.0.1 (all_sorted by (λ y. hash x ≢ hash y) xs differ.0) (rising xs all.1 differ.1)

pub few_files_sorted : (files ordered : List MDBFileInfo) → ordered ≡ by_hash file_record_hash files → length (file_section files) < 2 ^ 32 → length (file_section ordered) < 2 ^ 32
few_files_sorted files ordered same few =
    let rows = ap (λ (fs : List MDBFileInfo). length (file_section fs)) same ∙ rows_sorted (λ x y. hash_cmp (file_record_hash x) (file_record_hash y)) file_rows files in
    subst (λ (n : ℕ). n < 2 ^ 32) (sym rows) few

pub few_blocks_sorted : (blocks ordered : List MDBXorbInfo) → ordered ≡ by_hash xorb_record_hash blocks → length (xorb_section blocks) < 2 ^ 32 → length (xorb_section ordered) < 2 ^ 32
few_blocks_sorted blocks ordered same few =
    let rows = ap (λ (bs : List MDBXorbInfo). length (xorb_section bs)) same ∙ rows_sorted (λ x y. hash_cmp (xorb_record_hash x) (xorb_record_hash y)) xorb_rows blocks in
    subst (λ (n : ℕ). n < 2 ^ 32) (sym rows) few

-- what is held is written as a shard
pub is_shard : (h : Held) (creation : ℕ) (expiry : Option ℕ) → IsHeld h → IsShard (held_shard h creation expiry)
is_shard h creation expiry is = record {
  files = rising file_record_hash IsFile h.files is.files is.files_differ;
  blocks = rising xorb_record_hash IsXorb h.blocks is.blocks is.blocks_differ;
  few_files = few_files_sorted h.files (by_hash file_record_hash h.files) refl is.few_files;
  few_blocks = few_blocks_sorted h.blocks (by_hash xorb_record_hash h.blocks) refl is.few_blocks;
}

pub on_ok : {T E P : Type 0} (r : Result T E) → P → OnOk r P
on_ok (Ok x) holds = holds
on_ok (Err e) holds = tt

-- ---- references that are sorted

module _ {B X : Type 0} (now : B → X) (cmp : X → X → Ordering) where
  map_put : (b : B) (bs : List B) → map now (put_in (λ x y. cmp (now x) (now y)) b bs) ≡ put_in cmp (now b) (map now bs)
  unfolding put_in
  map_put b [] = refl
  map_put b (c ∷ cs) =
      let rest = map_put b cs in
      elim (is_lt (cmp (now c) (now b))) as (λ (t : Bool). map now (elim t as (λ _. List B) [ true ↦ c ∷ put_in (λ x y. cmp (now x) (now y)) b cs | false ↦ b ∷ c ∷ cs ])
      ≡ elim t as (λ _. List X) [ true ↦ now c ∷ put_in cmp (now b) (map now cs) | false ↦ now b ∷ now c ∷ map now cs ]) [
        | true ↦ ap (λ (l : List X). now c ∷ l) rest
        | false ↦ refl
      ]

  map_sorted : (bs : List B) → map now (sorted (λ x y. cmp (now x) (now y)) bs) ≡ sorted cmp (map now bs)
  unfolding sorted
  map_sorted [] = refl
  map_sorted (b ∷ bs) = map_put b (sorted (λ x y. cmp (now x) (now y)) bs) ∙ ap (put_in cmp (now b)) (map_sorted bs)

module _ {B X : Type 0} (now : B → X) (hash : X → List ℕ) where
  differ_at : (h : List ℕ) (bs : List B) → AllByRecursion (λ y. h ≢ hash y) (map now bs) → (i : ℕ) (d : B) → i < length bs → h ≢ hash (now (get_or bs i d))
  differ_at h [] all i d below = absurd (omega arith)
  differ_at h (b ∷ bs) all zero d below = all.0
  differ_at h (b ∷ bs) all (suc i) d below = differ_at h bs all.1 i d (omega arith)

  -- elements of one hash are one
  apart : (bs : List B) → DifferBy hash (map now bs) → (i j : ℕ) (d : B) → i < length bs → j < length bs
      → hash_cmp (hash (now (get_or bs i d))) (hash (now (get_or bs j d))) ≡ Equal → i ≡ j
  apart [] differ i j d p q e = absurd (omega arith)
  apart (b ∷ bs) differ zero zero d p q e = refl
  apart (b ∷ bs) differ zero (suc j) d p q e = absurd (differ_at (hash (now b)) bs differ.0 j d (omega arith) (hash_equal _ _ e))
  apart (b ∷ bs) differ (suc i) zero d p q e = absurd (differ_at (hash (now b)) bs differ.0 i d (omega arith) (sym (hash_equal _ _ e)))
  apart (b ∷ bs) differ (suc i) (suc j) d p q e = ap suc (apart bs differ.1 i j d (omega arith) (omega arith) e)

  -- a sort of references by the hashes of what they lend
  pub lent_sorted : (bs ys : List B) (xs : List X) → map now bs ≡ xs → DifferBy hash xs → IsPermutation bs ys
      → IsSorted (λ x y. hash_cmp (hash (now x)) (hash (now y))) ys → map now ys ≡ by_hash hash xs
  lent_sorted bs ys xs same differ p s =
      let cmp : X → X → Ordering = λ x y. hash_cmp (hash x) (hash y) in
      ap (map now) (sorted_apart hash_cmp hash_total (λ (b : B). hash (now b)) bs ys (apart bs (subst (DifferBy hash) (sym same) differ)) p s)
      ∙ map_sorted now cmp bs ∙ ap (sorted cmp) same
