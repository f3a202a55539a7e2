-- Files that were removed, and those that were not.
use Rattle.std.proofs.Common.{◌≡◌, ◌≢◌, ◌∙◌, ◌⊎◌, inl, inr, ℕ, Bool, cond, List, [], ◌∷◌, None, Option, Some, refl, sym, ap, subst}
use Rattle.std.specs.Cmp.Lexicographic.{nat_list_cmp_total}
use Rattle.std.specs.FinMap.{get-remove}
use Rattle.xet_io.specs.Entries as now
use Rattle.std.specs.List.{IsAmong}
use Rattle.xet_io.specs.Disk.{File, Files, entry_at as get, file_at, file_of, removed}
use Rattle.xet_io.specs.theorems.Names.{either_name, get_kept, is_name_self}
use Rattle.xet_shard_directory.specs.Directories.{all_removed}
use Rattle.xet_shard_merge.proofs.Among.{among_cons, among_first, among_later, among_none}

module _ (files : Files) (n : List ℕ) where
  abbrev after : Option File → Files
  after found = record { entries = now.gone_if files.entries n found; past = files.entries ∷ files.past }

  removed_other : (name : List ℕ) → name ≢ n → get (removed files n) name ≡ get files name
  removed_other name other = by (file_at files n)
    where
      by : (found : Option File) → get (after found) name ≡ get files name
      by None = refl
      by (Some f) = get_kept files.entries n name other

  removed_here : file_at (removed files n) n ≡ None
  removed_here = by (file_at files n) refl
    where
      by : (found : Option File) → file_at files n ≡ found → file_at (after found) n ≡ None
      by None is = is
      by (Some f) is = ap file_of (get-remove nat_list_cmp_total files.entries n n ∙ ap (λ (b : Bool). cond b None (get files n)) (is_name_self n))

  still_absent : (name : List ℕ) → file_at files name ≡ None → file_at (removed files n) name ≡ None
  still_absent name absent = by (either_name name n)
    where
      by : (name ≡ n) ⊎ (name ≢ n) → file_at (removed files n) name ≡ None
      by (inl same) = subst (λ (x : List ℕ). file_at (removed files n) x ≡ None) (sym same) removed_here
      by (inr other) = ap file_of (removed_other name other) ∙ absent

all_absent : (files : Files) (ns : List (List ℕ)) (name : List ℕ) → file_at files name ≡ None → file_at (all_removed files ns) name ≡ None
unfolding all_removed
all_absent files [] name absent = absent
all_absent files (n ∷ ns) name absent = all_absent (removed files n) ns name (still_absent files n name absent)

-- a file that was removed is gone
pub gone : (files : Files) (ns : List (List ℕ)) (name : List ℕ) → IsAmong ns name → file_at (all_removed files ns) name ≡ None
unfolding all_removed
gone files [] name a = absurd (among_none name a)
gone files (n ∷ ns) name a = by (among_cons n ns name a) (λ later. gone (removed files n) ns name later)
  where
    by : (name ≡ n) ⊎ IsAmong ns name → (IsAmong ns name → file_at (all_removed (removed files n) ns) name ≡ None) → file_at (all_removed (removed files n) ns) name ≡ None
    by (inl same) rest = all_absent (removed files n) ns name (subst (λ (x : List ℕ). file_at (removed files n) x ≡ None) (sym same) (removed_here files n))
    by (inr later) rest = rest later

-- any other stays
pub spared : (files : Files) (ns : List (List ℕ)) (name : List ℕ) → (IsAmong ns name → ⊥) → get (all_removed files ns) name ≡ get files name
unfolding all_removed
spared files [] name none = refl
spared files (n ∷ ns) name none =
    spared (removed files n) ns name (λ a. none (among_later n ns name a)) ∙ removed_other files n name (λ same. none (subst (IsAmong (n ∷ ns)) (sym same) (among_first n ns)))

pub among_or_not : (ns : List (List ℕ)) (name : List ℕ) → IsAmong ns name ⊎ (IsAmong ns name → ⊥)
among_or_not [] name = inr (among_none name)
among_or_not (n ∷ ns) name = by (either_name name n) (among_or_not ns name)
  where
    by : (name ≡ n) ⊎ (name ≢ n) → IsAmong ns name ⊎ (IsAmong ns name → ⊥) → IsAmong (n ∷ ns) name ⊎ (IsAmong (n ∷ ns) name → ⊥)
    by (inl same) rest = inl (subst (IsAmong (n ∷ ns)) (sym same) (among_first n ns))
    by (inr other) (inl later) = inl (among_later n ns name later)
    by (inr other) (inr never) = inr (λ a. neither (among_cons n ns name a))
      where
        neither : (name ≡ n) ⊎ IsAmong ns name → ⊥
        neither (inl same) = other same
        neither (inr later) = never later
