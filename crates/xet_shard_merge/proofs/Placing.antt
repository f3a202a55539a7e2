-- Which names the results of a merge are written under.
use Rattle.std.proofs.Common.{◌≡◌, ◌≢◌, ◌∙◌, ◌⊎◌, ℕ, true, List, [], ◌∷◌, ◌++◌, Option, Some, option_map, Result, IfOk, OnErr, inl, inr, refl, sym, ap, subst, arith}
use Rattle.std.proofs.lemmas.List.{get_or_append_left, length-append}
use Rattle.std.proofs.lemmas.List.Quantifiers.{Any-push}
use Rattle.xet_io.specs.Disk.{entry_at as get}
use Rattle.std.specs.List.{All}
use Rattle.xet_hash.specs.declared.error.StoreError.{StoreError}
use Rattle.xet_io.specs.Disk.{Entry, Files, bytes_at, file_of}
use Rattle.xet_io.specs.theorems.Names.{either_name}
use Rattle.xet_shard_directory.specs.Writing.{AddsShard, MayAddShard, OthersStay, durable_at, path_of}
use Rattle.xet_shard_directory.specs.declared.shard_file.MDBShardFile.{MDBShardFile}
use Rattle.xet_shard_file.specs.Names.{temp_name}
use Rattle.xet_shard_merge.specs.Groups.{Group}
use Rattle.xet_shard_merge.specs.Merging.{IsDue, IsPlaced, WritesOnly}
use Rattle.xet_shard_merge.specs.internal.Grouping.{IsOnly}
use Rattle.xet_shard_merge.specs.internal.Keeping.{IsCopyDue, IsIntact, IsOneDue, IsOnlyDue, Preserves}
use Rattle.xet_shard_merge.proofs.Preserved.{IsHere, is_here, others_stay, same_bytes}

-- nothing was written
pub writes_nothing : (old new : Files) (folder : List ℕ) (Due : List ℕ → Type 0) → new ≡ old → WritesOnly old new folder Due
writes_nothing old new folder Due same name = inl (ap (λ (fs : Files). get fs name) same)

-- what is due by one rule is due by another
pub writes_also : (old new : Files) (folder : List ℕ) (Due Other : List ℕ → Type 0) → ((bytes : List ℕ) → Due bytes → Other bytes) → WritesOnly old new folder Due → WritesOnly old new folder Other
writes_also old new folder Due Other more writes name = by (writes name)
  where
    by : (get new name ≡ get old name) ⊎ ((bytes : List ℕ) × Due bytes × IsPlaced new folder bytes name) → (get new name ≡ get old name) ⊎ ((bytes : List ℕ) × Other bytes × IsPlaced new folder bytes name)
    by (inl same) = inl same
    by (inr (bytes, due, placed)) = inr (bytes, more bytes due, placed)

abbrev bytes_in : Option Entry → Option (List ℕ)
bytes_in e = option_map (λ f. f.bytes) (file_of e)

placed_still : (now after : Files) (folder bytes name : List ℕ) → get after name ≡ get now name → IsPlaced now folder bytes name → IsPlaced after folder bytes name
placed_still now after folder bytes name same (inl (at, there, durable)) = inl (at, ap bytes_in same ∙ there, ap (option_map (λ (e : Entry). e.durable)) same ∙ durable)
placed_still now after folder bytes name same (inr temp) = inr temp

-- one write after the other
pub writes_then : (start now after : Files) (folder : List ℕ) (Due : List ℕ → Type 0) → WritesOnly start now folder Due → WritesOnly now after folder Due → WritesOnly start after folder Due
writes_then start now after folder Due first then name = by (first name) (then name)
  where
    by : (get now name ≡ get start name) ⊎ ((bytes : List ℕ) × Due bytes × IsPlaced now folder bytes name) → (get after name ≡ get now name) ⊎ ((bytes : List ℕ) × Due bytes × IsPlaced after folder bytes name)
        → (get after name ≡ get start name) ⊎ ((bytes : List ℕ) × Due bytes × IsPlaced after folder bytes name)
    by a (inr placed) = inr placed
    by (inl before) (inl same) = inl (same ∙ before)
    by (inr (bytes, due, placed)) (inl same) = inr (bytes, due, placed_still now after folder bytes name same placed)

-- ---- the write of a shard file

module _ (old new : Files) (path bytes : List ℕ) (others : OthersStay old new path) where
  abbrev Placed : List ℕ → Type 0
  Placed name = ((name ≡ path) × (bytes_at new name ≡ Some bytes) × (durable_at new name ≡ Some true)) ⊎ (name ≡ temp_name path)

  placed : IsHere old new path bytes → (name : List ℕ) → (get new name ≡ get old name) ⊎ Placed name
  placed here name = by here (either_name name path) (either_name name (temp_name path))
    where
      by : IsHere old new path bytes → (name ≡ path) ⊎ (name ≢ path) → (name ≡ temp_name path) ⊎ (name ≢ temp_name path) → (get new name ≡ get old name) ⊎ Placed name
      by (inl stays) (inl same) t = inl (subst (λ (n : List ℕ). get new n ≡ get old n) (sym same) stays)
      by (inr (there, durable)) (inl same) t =
          inr (inl (same, subst (λ (n : List ℕ). bytes_at new n ≡ Some bytes) (sym same) there, subst (λ (n : List ℕ). durable_at new n ≡ Some true) (sym same) durable))
      by h (inr other) (inl temp) = inr (inr temp)
      by h (inr other) (inr also) = inl (others name other also)

module _ (old new : Files) (folder bytes : List ℕ) where
  pub added_writes : (result : Result MDBShardFile StoreError) → IfOk result (AddsShard old new folder bytes) → OnErr result (MayAddShard old new folder bytes) → WritesOnly old new folder (IsOnlyDue bytes)
  added_writes result added may name = by (placed old new (path_of folder bytes) bytes (others_stay old new folder bytes result added may) (is_here old new folder bytes result added may) name)
    where
      by : (get new name ≡ get old name) ⊎ IsPlaced new folder bytes name → (get new name ≡ get old name) ⊎ ((b : List ℕ) × IsOnlyDue bytes b × IsPlaced new folder b name)
      by (inl same) = inl same
      by (inr at) = inr (bytes, refl, at)

-- ---- groups

-- the result of a group of one is a copy
pub copy_is_due : (files : Files) (folder : List ℕ) (g : Group) (s : MDBShardFile) → IsOnly g.taken (Some s) → (bytes : List ℕ) → IsCopyDue files folder s bytes → IsDue files folder g bytes
copy_is_due files folder g s only bytes due = subst (λ (taken : List MDBShardFile). IsDue files folder (record g { taken = taken }) bytes) (sym only) due

module _ (start now : Files) (folder : List ℕ) (keeps : Preserves start now) where
  copy_due_at_start : (s : MDBShardFile) (bytes : List ℕ) → IsIntact start s → IsCopyDue now folder s bytes → IsCopyDue start folder s bytes
  copy_due_at_start s bytes is due =
      let later : bytes_at now s.path ≡ Some is.bytes = same_bytes start now keeps.files s.path is.bytes is.name is.there in
      let found : bytes_at now s.path ≡ Some bytes = due.1 in
      let same : is.bytes ≡ bytes = cc in
      (due.0, is.there ∙ ap (λ (b : List ℕ). Some b) same)

  pub due_at_start : (g : Group) (bytes : List ℕ) → All (IsIntact start) g.taken → IsDue now folder g bytes → IsDue start folder g bytes
  due_at_start g bytes = by g.taken
    where
      by : (taken : List MDBShardFile) → All (IsIntact start) taken → IsDue now folder (record g { taken = taken }) bytes → IsDue start folder (record g { taken = taken }) bytes
      by [] all h = h
      by (s ∷ []) all h = copy_due_at_start s bytes (all 0 s (omega arith)) h
      by (s ∷ t ∷ more) all h = h

module _ (files : Files) (folder : List ℕ) (bytes : List ℕ) where
  abbrev DueFor : Group → Type 0
  DueFor g = IsDue files folder g bytes

  pub one_left : (gs hs : List Group) → IsOneDue files folder gs bytes → IsOneDue files folder (gs ++ hs) bytes
  one_left gs hs (k, x, lt, at, here) = (k, x, omega (arith, lt, length-append gs hs), get_or_append_left gs hs x k lt ∙ at, here)

  pub one_last : (gs : List Group) (g : Group) → IsDue files folder g bytes → IsOneDue files folder (gs ++ g ∷ []) bytes
  one_last gs g due = Any-push DueFor gs g due

-- the groups so far, and one more that was closed or failed
module _ (start now after : Files) (folder : List ℕ) (keeps : Preserves start now) (gs : List Group) (g : Group) (intact : All (IsIntact start) g.taken)
    (so_far : WritesOnly start now folder (IsOneDue start folder gs)) where
  pub writes_more : WritesOnly now after folder (IsDue now folder g) → WritesOnly start after folder (IsOneDue start folder (gs ++ g ∷ []))
  writes_more last =
      writes_then start now after folder (IsOneDue start folder (gs ++ g ∷ []))
      (writes_also start now folder (IsOneDue start folder gs) (IsOneDue start folder (gs ++ g ∷ [])) (λ b due. one_left start folder b gs (g ∷ []) due) so_far)
      (writes_also now after folder (IsDue now folder g) (IsOneDue start folder (gs ++ g ∷ [])) (λ b due. one_last start folder b gs g (due_at_start start now folder keeps g b intact due)) last)
