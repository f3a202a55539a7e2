-- The shard files of a list that are due.
use Rattle.std.proofs.Common.{◌≡◌, ◌∙◌, true, false, List, [], ◌∷◌, ◌++◌, append_assoc, drop, inl, inr, length, map, take, Result, Ok, Err, refl, sym, ap, subst, ℕ, ◌+◌, ◌<◌, ◌≤◌, get_or}
use Rattle.std.proofs.lemmas.Bool.{cases_Bool}
use Rattle.std.proofs.lemmas.List.{append-nil, map-append, map_more, take-append-drop, take_all}
use Rattle.std.specs.Cmp.Lexicographic.{pointwise}
use Rattle.std.specs.List.{list_any}
use Rattle.std.specs.Prelude.{OnErr, OnOk, nat_eq}
use Rattle.xet_hash.specs.declared.error.StoreError.{StoreError}
use Rattle.xet_shard_directory.specs.declared.shard_file.MDBShardFile.{MDBShardFile}
use Rattle.xet_shard_registration.specs.Registering.{AddsDue, AddsFirst, due}
use Rattle.xet_shard_registry.specs.Collections.{IsRegistryOf, Tables}

abbrev hash_of : MDBShardFile → List ℕ
hash_of s = s.shard_hash

abbrev after : List (List ℕ) → List MDBShardFile → List (List ℕ)
after known ss = known ++ map hash_of (due known ss)

due_append : (known : List (List ℕ)) (xs ys : List MDBShardFile) → due known (xs ++ ys) ≡ due known xs ++ due (after known xs) ys
unfolding due
due_append known [] ys = ap (λ (k : List (List ℕ)). due k ys) (sym (append-nil known))
due_append known (x ∷ xs) ys = elim (cases_Bool (list_any (pointwise nat_eq x.shard_hash) known)) [
  | inl e ↦ rw e (due_append known xs ys)
  | inr e ↦
      let next : List (List ℕ) = known ++ x.shard_hash ∷ [] in
      rw e (ap (λ (l : List MDBShardFile). x ∷ l) (due_append next xs ys ∙ ap (λ (k : List (List ℕ)). due next xs ++ due k ys) (append_assoc known (x.shard_hash ∷ []) (map hash_of (due next xs)))))
]

pub adds_none : (t : Tables) → AddsDue [] t t
unfolding due
adds_none t = record { files = sym (append-nil t.files); hashes = sym (append-nil t.hashes) }

pub adds_both : (xs ys : List MDBShardFile) (a b c : Tables) → AddsDue xs a b → AddsDue ys b c → AddsDue (xs ++ ys) a c
adds_both xs ys a b c first next =
    let split : due a.hashes (xs ++ ys) ≡ due a.hashes xs ++ due b.hashes ys = due_append a.hashes xs ys ∙ ap (λ (k : List (List ℕ)). due a.hashes xs ++ due k ys) (sym first.hashes) in
    record {
      files = next.files ∙ ap (λ (l : List MDBShardFile). l ++ due b.hashes ys) first.files ∙ append_assoc a.files (due a.hashes xs) (due b.hashes ys) ∙ ap (λ (l : List MDBShardFile). a.files ++ l) (sym split);
      hashes = next.hashes ∙ ap (λ (l : List (List ℕ)). l ++ map hash_of (due b.hashes ys)) first.hashes ∙ append_assoc a.hashes (map hash_of (due a.hashes xs)) (map hash_of (due b.hashes ys))
          ∙ ap (λ (l : List (List ℕ)). a.hashes ++ l) (sym (map-append hash_of (due a.hashes xs) (due b.hashes ys)) ∙ ap (map hash_of) (sym split));
    }

-- a file whose hash is registered
pub adds_known : (s : MDBShardFile) (t : Tables) → list_any (pointwise nat_eq s.shard_hash) t.hashes ≡ true → AddsDue (s ∷ []) t t
unfolding due
adds_known s t known = record { files = rw known (sym (append-nil t.files)); hashes = rw known (sym (append-nil t.hashes)) }

-- a file whose hash is not
pub adds_new : (s : MDBShardFile) (t new : Tables) → list_any (pointwise nat_eq s.shard_hash) t.hashes ≡ false → new.files ≡ t.files ++ s ∷ [] → new.hashes ≡ t.hashes ++ s.shard_hash ∷ [] → AddsDue (s ∷ []) t new
unfolding due
adds_new s t new other files hashes = record { files = rw other files; hashes = rw other hashes }

-- nothing changed
pub adds_same : (t new : Tables) → new.files ≡ t.files → new.hashes ≡ t.hashes → AddsDue [] t new
unfolding due
adds_same t new files hashes = record { files = files ∙ sym (append-nil t.files); hashes = hashes ∙ sym (append-nil t.hashes) }

module _ {Y : Type 0} (view : Y → MDBShardFile) (ys : List Y) (i : ℕ) where
  pub adds_more : (y : Y) (old before new : Tables) → i < length ys → y ≡ get_or ys i y → AddsDue (map view (take i ys)) old before → AddsDue (view y ∷ []) before new → AddsDue (map view (take (i + 1) ys)) old new
  adds_more y old before new below is so_far next =
      let list : map view (take (i + 1) ys) ≡ map view (take i ys) ++ view y ∷ [] = map_more view ys i y below ∙ ap (λ (x : Y). map view (take i ys) ++ view x ∷ []) (sym is) in
      subst (λ (l : List MDBShardFile). AddsDue l old new) (sym list) (adds_both (map view (take i ys)) (view y ∷ []) old before new so_far next)

  pub adds_end : (old new : Tables) → length ys ≤ i → AddsDue (map view (take i ys)) old new → AddsDue (map view ys) old new
  adds_end old new end so_far = subst (λ (l : List Y). AddsDue (map view l) old new) (take_all i ys end) so_far

  pub adds_front : (old before new : Tables) → AddsDue (map view (take i ys)) old before → AddsDue [] before new → AddsFirst (map view ys) old new
  adds_front old before new so_far same = record {
    before = map view (take i ys);
    after = map view (drop i ys);
    parts = ap (map view) (sym (take-append-drop i ys)) ∙ map-append view (take i ys) (drop i ys);
    due = subst (λ (l : List MDBShardFile). AddsDue l old new) (append-nil (map view (take i ys))) (adds_both (map view (take i ys)) [] old before new so_far same);
  }

-- nothing was registered yet
pub adds_nothing : (ss : List MDBShardFile) (t : Tables) → AddsFirst ss t t
adds_nothing ss t = record { before = []; after = ss; parts = refl; due = adds_none t }

-- an empty registry
pub due_fresh : (ss : List MDBShardFile) (t new : Tables) → IsRegistryOf [] t → AddsDue ss t new → new.files ≡ due [] ss
due_fresh ss t new empty adds = adds.files ∙ ap (λ (l : List MDBShardFile). l ++ due t.hashes ss) empty.files ∙ ap (λ (k : List (List ℕ)). due k ss) empty.hashes

-- the result of registering one
pub adds_if_ok : (r : Result (Unit {0}) StoreError) (s copy : MDBShardFile) (t new : Tables) → copy ≡ s → list_any (pointwise nat_eq s.shard_hash) t.hashes ≡ false
    → OnOk r (new.files ≡ t.files ++ copy ∷ []) → OnOk r (new.hashes ≡ t.hashes ++ copy.shard_hash ∷ []) → OnOk r (AddsDue (s ∷ []) t new)
adds_if_ok (Ok x) s copy t new same other files hashes =
    adds_new s t new other (files ∙ ap (λ (c : MDBShardFile). t.files ++ c ∷ []) same) (hashes ∙ ap (λ (c : MDBShardFile). t.hashes ++ c.shard_hash ∷ []) same)
adds_if_ok (Err e) s copy t new same other files hashes = tt

pub files_if_ok : (r : Result (Unit {0}) StoreError) (s copy : MDBShardFile) (t new : Tables) → copy ≡ s → OnOk r (new.files ≡ t.files ++ copy ∷ []) → OnOk r (new.files ≡ t.files ++ s ∷ [])
files_if_ok (Ok x) s copy t new same files = files ∙ ap (λ (c : MDBShardFile). t.files ++ c ∷ []) same
files_if_ok (Err e) s copy t new same files = tt

pub adds_none_if_err : (r : Result (Unit {0}) StoreError) (t new : Tables) → OnErr r ((new.files ≡ t.files) × (new.hashes ≡ t.hashes)) → OnErr r (AddsDue [] t new)
adds_none_if_err (Ok x) t new same = tt
adds_none_if_err (Err e) t new same = adds_same t new same.0 same.1

pub none_if_err : (r : Result (Unit {0}) StoreError) (t : Tables) → OnErr r (AddsDue [] t t)
none_if_err (Ok x) t = tt
none_if_err (Err e) t = adds_none t
