-- What parted entries registered, asked and recorded, pass after pass.
use Rattle.std.proofs.Common.{◌≡◌, ◌∙◌, ℕ, suc, List, [], ◌∷◌, ◌++◌, length, map, drop, refl, sym, ap, subst, arith}
use Rattle.std.specs.List.{AllByRecursion, flat_map, sum_by}
use Rattle.std.specs.List.Sorted.{IsPermutation}
use Rattle.std.proofs.lemmas.List.Sums.{sum_by-cons}
use Rattle.xet_choices.specs.Calls.{queries_of, registered_chunks}
use Rattle.xet_choices.specs.theorems.Calls.{queries_of-append, registered_chunks-append}
use Rattle.xet_clean.specs.Cleaning.{files_in}
use Rattle.xet_clean.specs.Closing.{recorded_in}
use Rattle.xet_history.specs.declared.entry.Entry.{Entry}
use Rattle.xet_history.specs.declared.entry.Entry.TheVariants.{Query, Register, Complete, Flush, Fault}
use Rattle.xet_shard_format.specs.declared.record.MDBFileInfo.{MDBFileInfo}
use Rattle.xet_store.specs.Holders.{Holder, call_at, calls_in, numbered}
use Rattle.xet_workers.specs.Cleaning.{made_by}
use Rattle.xet_workers.proofs.Parting.{Parted, flat_map_parted, sum_by_parted}

-- ---- by single entries

-- the chunks that an entry registered
abbrev pub registered_by : ℕ × Entry → ℕ
registered_by x = registered_chunks (call_at x.0 x.1)

-- 1 for a query, 0 for another entry
abbrev pub queries_by : ℕ × Entry → ℕ
queries_by x = queries_of (call_at x.0 x.1)

-- the file that an entry recorded, if it did
abbrev pub files_by : ℕ × Entry → List MDBFileInfo
files_by x = files_in (x.1 ∷ [])

pub registered_sum : (xs : List (ℕ × Entry)) → registered_chunks (calls_in xs) ≡ sum_by registered_by xs
registered_sum [] = refl
registered_sum (x ∷ xs) = omega (arith, registered_chunks-append (call_at x.0 x.1) (calls_in xs), registered_sum xs, sum_by-cons registered_by x xs)

pub queries_sum : (xs : List (ℕ × Entry)) → queries_of (calls_in xs) ≡ sum_by queries_by xs
queries_sum [] = refl
queries_sum (x ∷ xs) = omega (arith, queries_of-append (call_at x.0 x.1) (calls_in xs), queries_sum xs, sum_by-cons queries_by x xs)

pub length_sum : (xs : List (ℕ × Entry)) → length xs ≡ sum_by (λ x. 1) xs
length_sum [] = refl
length_sum (x ∷ xs) = omega (arith, length_sum xs, sum_by-cons (λ (y : ℕ × Entry). 1) x xs)

files_next : (e : Entry) (es : List Entry) → files_in (e ∷ es) ≡ files_in (e ∷ []) ++ files_in es
files_next (Query pass hashes reply) es = refl
files_next (Register pass chunks next added) es = refl
files_next (Complete pass file added) es = refl
files_next (Flush pass shard) es = refl
files_next (Fault pass kind) es = refl

pub recorded_each : (xs : List (ℕ × Entry)) → recorded_in xs ≡ flat_map files_by xs
recorded_each [] = refl
recorded_each (x ∷ xs) = files_next x.1 (map (λ p. p.1) xs) ∙ ap (λ (l : List MDBFileInfo). files_by x ++ l) (recorded_each xs)

-- numbered entries without their numbers
pub entries_numbered : (n : ℕ) (es : List Entry) → map (λ p. p.1) (numbered n es) ≡ es
entries_numbered n [] = refl
entries_numbered n (e ∷ es) = ap (λ (l : List Entry). e ∷ l) (entries_numbered (suc n) es)

-- ---- by passes

module _ {X : Type 0} where
  same_sums : (f g : X → ℕ) (xs : List X) → AllByRecursion (λ x. f x ≡ g x) xs → sum_by f xs ≡ sum_by g xs
  same_sums f g [] all = refl
  same_sums f g (x ∷ xs) all = omega (arith, sum_by-cons f x xs, sum_by-cons g x xs, all.0, same_sums f g xs all.1)

  same_lists : {Y : Type 0} (f g : X → List Y) (xs : List X) → AllByRecursion (λ x. f x ≡ g x) xs → flat_map f xs ≡ flat_map g xs
  same_lists f g [] all = refl
  same_lists {Y} f g (x ∷ xs) all = ap (λ (l : List Y). l ++ flat_map f xs) all.0 ∙ ap (λ (l : List Y). g x ++ l) (same_lists f g xs all.1)

module _ (xs : List (ℕ × Entry)) where
  same_own : {Y : Type 0} (f : List (ℕ × Entry) → Y) (passes : List Holder) → AllByRecursion (λ p. p.own ≡ made_by p.number xs) passes → AllByRecursion (λ p. f (made_by p.number xs) ≡ f p.own) passes
  same_own f [] own = tt
  same_own f (p ∷ ps) own = (sym (ap f own.0), same_own f ps own.1)

  module _ (passes : List Holder) (is : Parted passes xs) where
    -- what is a sum over entries
    sum_parted : (f : List (ℕ × Entry) → ℕ) (g : ℕ × Entry → ℕ) → ((l : List (ℕ × Entry)) → f l ≡ sum_by g l) → f xs ≡ sum_by (λ p. f p.own) passes
    sum_parted f g each =
        each xs
        ∙ sum_by_parted g passes xs is.differ is.all
        ∙ same_sums (λ p. sum_by g (made_by p.number xs)) (λ p. sum_by g p.own) passes (same_own (sum_by g) passes is.own)
        ∙ same_sums (λ p. sum_by g p.own) (λ p. f p.own) passes (all_back_each passes)
      where
        all_back_each : (ps : List Holder) → AllByRecursion (λ p. sum_by g p.own ≡ f p.own) ps
        all_back_each [] = tt
        all_back_each (p ∷ ps) = (sym (each p.own), all_back_each ps)

    pub registered_parted : registered_chunks (calls_in xs) ≡ sum_by (λ p. registered_chunks (calls_in p.own)) passes
    registered_parted = sum_parted (λ l. registered_chunks (calls_in l)) registered_by registered_sum

    pub queries_parted : queries_of (calls_in xs) ≡ sum_by (λ p. queries_of (calls_in p.own)) passes
    queries_parted = sum_parted (λ l. queries_of (calls_in l)) queries_by queries_sum

    pub length_parted : length xs ≡ sum_by (λ p. length p.own) passes
    length_parted = sum_parted (λ l. length l) (λ x. 1) length_sum

    pub recorded_parted : IsPermutation (recorded_in xs) (flat_map (λ p. recorded_in p.own) passes)
    recorded_parted =
        let whole : IsPermutation (flat_map files_by xs) (flat_map (λ p. flat_map files_by (made_by p.number xs)) passes) = flat_map_parted files_by passes xs is.differ is.all in
        let own : flat_map (λ p. flat_map files_by (made_by p.number xs)) passes ≡ flat_map (λ p. recorded_in p.own) passes =
        same_lists (λ (p : Holder). flat_map files_by (made_by p.number xs)) (λ p. flat_map files_by p.own) passes (same_own (flat_map files_by) passes is.own)
        ∙ same_lists (λ (p : Holder). flat_map files_by p.own) (λ p. recorded_in p.own) passes (each passes) in
        subst (λ (l : List MDBFileInfo). IsPermutation l (flat_map (λ p. recorded_in p.own) passes)) (sym (recorded_each xs)) (subst (IsPermutation (flat_map files_by xs)) own whole)
      where
        each : (ps : List Holder) → AllByRecursion (λ p. flat_map files_by p.own ≡ recorded_in p.own) ps
        each [] = tt
        each (p ∷ ps) = (sym (recorded_each p.own), each ps)

-- of the entries of a history from a number on
pub files_parted : (history : List Entry) (from : ℕ) (passes : List Holder) → Parted passes (numbered from (drop from history))
    → IsPermutation (files_in (drop from history)) (flat_map (λ p. recorded_in p.own) passes)
files_parted history from passes is =
    subst (λ (es : List Entry). IsPermutation (files_in es) (flat_map (λ p. recorded_in p.own) passes)) (entries_numbered from (drop from history)) (recorded_parted (numbered from (drop from history)) passes is)
