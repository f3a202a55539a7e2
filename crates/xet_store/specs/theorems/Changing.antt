-- What calls change on the disk, one after the other.
use Rattle.std.proofs.Common.{◌≡◌, ◌≢◌, ◌∙◌, inl, inr, ℕ, Bool, true, false, List, [], ◌∷◌, ◌++◌, map, None, append_assoc, refl, sym, ap, subst}
use Rattle.std.proofs.lemmas.List.{append-nil}
use Rattle.std.specs.Prelude.{if◌then◌else◌}
use Rattle.xet_hash.specs.Merkle.{xorb_hash}
use Rattle.xet_history.specs.Core.{Core, is_new}
use Rattle.xet_history.specs.History.{cut_entries, register_entries}
use Rattle.xet_history.specs.declared.entry.Entry.{Entry}
use Rattle.xet_history.specs.declared.entry.Entry.TheVariants.{Register}
use Rattle.xet_shard_format.specs.RecordSizes.{xorb_record_size}
use Rattle.xet_xorb.specs.Raw.{xorb_record}
use Rattle.xet_io.specs.Disk.{Files, entry_at as get}
use Rattle.xet_shard_file.specs.Names.{temp_name}
use Rattle.xet_store_disk.specs.Cleaning.{SameEntry}
use Rattle.xet_store_disk.specs.Flushing.{KeepsOtherNames}
use Rattle.xet_store_disk.specs.Ranges.{IsUnchanged}
use Rattle.xet_store_disk.specs.Separate.{Among}
use Rattle.xet_store_disk.specs.Store.{State}
use Rattle.xet_store_disk.specs.theorems.Rows.{among_after, among_more}
use Rattle.xet_store_disk.specs.theorems.Staying.{hash_cases}
use Rattle.xet_store.specs.Changes.{ChangesFiles, IsChange, Tries, file_of, files_of}
use Rattle.xet_store.specs.Recorded.{RecordedState}
use Rattle.xet_store.specs.theorems.Sound.{among_map}

abbrev Names : Type 0
Names = List (List ℕ)

-- the files of entries that follow one another
pub files_append : (folder : List ℕ) (xs ys : List Entry) → files_of folder (xs ++ ys) ≡ files_of folder xs ++ files_of folder ys
files_append folder [] ys = refl
files_append folder (x ∷ xs) ys = ap (λ (l : Names). file_of folder x ++ l) (files_append folder xs ys) ∙ sym (append_assoc (file_of folder x) (files_of folder xs) (files_of folder ys))

-- names that are among others are so after the same was made of each
among_mapped : (f : List ℕ → List ℕ) (xs ys : Names) → ((x : List ℕ) → Among xs x → Among ys x) → (name : List ℕ) → Among (map f xs) name → Among (map f ys) name
among_mapped f [] ys more name a = absurd a
among_mapped f (x ∷ xs) ys more name (inl is) = subst (λ (n : List ℕ). Among (map f ys) n) is (among_map f ys x (more x (inl refl)))
among_mapped f (x ∷ xs) ys more name (inr a) = among_mapped f xs ys (λ y b. more y (inr b)) name a

module _ {put tried : Names} {old new : Files} {name : List ℕ} where
  -- whether the puts failed is left open
  change_tried : (tries : Names) → ((x : List ℕ) → Among put x → Among tries x) → ((x : List ℕ) → Among tried x → Among tries x) → IsChange put tried old new name → IsChange [] tries old new name
  change_tried tries p t (IsChange.same is) = IsChange.same is
  change_tried tries p t (IsChange.is_put a) = IsChange.is_tried (p name a)
  change_tried tries p t (IsChange.is_free a none) = IsChange.is_left (among_mapped temp_name put tries p name a)
  change_tried tries p t (IsChange.is_tried a) = IsChange.is_tried (t name a)
  change_tried tries p t (IsChange.is_left a) = IsChange.is_left (among_mapped temp_name tried tries t name a)

-- nothing has changed after it
change_still : (put tried puts tries : Names) (a b c : Files) (name : List ℕ) → SameEntry b c name → IsChange put tried a b name → IsChange (put ++ puts) (tried ++ tries) a c name
change_still put tried puts tries a b c name is (IsChange.same e) = IsChange.same (is ∙ e)
change_still put tried puts tries a b c name is (IsChange.is_put x) = IsChange.is_put (among_more put puts name x)
change_still put tried puts tries a b c name is (IsChange.is_free x none) = IsChange.is_free (among_mapped temp_name put (put ++ puts) (λ y z. among_more put puts y z) name x) (is ∙ none)
change_still put tried puts tries a b c name is (IsChange.is_tried x) = IsChange.is_tried (among_more tried tries name x)
change_still put tried puts tries a b c name is (IsChange.is_left x) = IsChange.is_left (among_mapped temp_name tried (tried ++ tries) (λ y z. among_more tried tries y z) name x)

-- one after the other
change_then : (put tried puts tries : Names) (a b c : Files) (name : List ℕ) → IsChange put tried a b name → IsChange puts tries b c name → IsChange (put ++ puts) (tried ++ tries) a c name
change_then put tried puts tries a b c name first (IsChange.same is) = change_still put tried puts tries a b c name is first
change_then put tried puts tries a b c name first (IsChange.is_put x) = IsChange.is_put (among_after put puts name x)
change_then put tried puts tries a b c name first (IsChange.is_free x none) = IsChange.is_free (among_mapped temp_name puts (put ++ puts) (λ y z. among_after put puts y z) name x) none
change_then put tried puts tries a b c name first (IsChange.is_tried x) = IsChange.is_tried (among_after tried tries name x)
change_then put tried puts tries a b c name first (IsChange.is_left x) = IsChange.is_left (among_mapped temp_name tries (tried ++ tries) (λ y z. among_after tried tries y z) name x)

-- a put of one file
pub change_put : (old new : Files) (path name : List ℕ) → KeepsOtherNames old new path → get new (temp_name path) ≡ None → IsChange (path ∷ []) [] old new name
change_put old new path name others temp =
    hash_cases name path (λ e. IsChange.is_put (inl (sym e)))
    (λ apart. hash_cases name (temp_name path) (λ e. IsChange.is_free (inl (sym e)) (ap (λ (n : List ℕ). get new n) e ∙ temp)) (λ differ. IsChange.same (others name apart differ)))

pub change_try : (old new : Files) (path name : List ℕ) → KeepsOtherNames old new path → IsChange [] (path ∷ []) old new name
change_try old new path name others =
    hash_cases name path (λ e. IsChange.is_tried (inl (sym e)))
    (λ apart. hash_cases name (temp_name path) (λ e. IsChange.is_left (inl (sym e))) (λ differ. IsChange.same (others name apart differ)))

-- no file has changed
pub changes_same : (tried : Names) (old new : RecordedState) (added : List Entry) → new.store.files ≡ old.store.files → ChangesFiles tried old new added
changes_same tried old new added same = record { changed = λ told name. IsChange.same (ap (λ (f : Files). get f name) same) }

pub changes_nothing : (tried : Names) (old new : RecordedState) (added : List Entry) → new ≡ old → ChangesFiles tried old new added
changes_nothing tried old new added same = changes_same tried old new added (ap (λ (s : RecordedState). s.store.files) same)

pub changes_unread : (old new : RecordedState) (added : List Entry) → IsUnchanged old.store new.store → ChangesFiles [] old new added
changes_unread old new added unchanged = changes_same [] old new added (ap (λ (s : State). s.files) unchanged.is)

-- two calls, one after the other
pub changes_then : (a b c : RecordedState) (tried tries : Names) (xs ys : List Entry) → b.store.tells ≡ a.store.tells → b.store.folder ≡ a.store.folder → ChangesFiles tried a b xs → ChangesFiles tries b c ys → ChangesFiles (tried ++ tries) a c (xs ++ ys)
changes_then a b c tried tries xs ys tells folder first second = record {
  changed = λ told name.
      let next : IsChange (files_of a.store.folder ys) tries b.store.files c.store.files name =
      subst (λ (f : List ℕ). IsChange (files_of f ys) tries b.store.files c.store.files name) folder (second.changed (tells ∙ told) name) in
      subst (λ (put : Names). IsChange put (tried ++ tries) a.store.files c.store.files name) (sym (files_append a.store.folder xs ys))
      (change_then (files_of a.store.folder xs) tried (files_of a.store.folder ys) tries a.store.files b.store.files c.store.files name (first.changed told name) next);
}

-- what a call has done that failed
pub tries_of : (old new : RecordedState) (tried : Names) (done entries : List Entry) → ((name : List ℕ) → Among (files_of old.store.folder done) name → Among (files_of old.store.folder entries) name)
    → ((name : List ℕ) → Among tried name → Among (files_of old.store.folder entries) name) → ChangesFiles tried old new done → Tries old new entries
tries_of old new tried done entries puts tries c = record { changed = λ told name. change_tried (files_of old.store.folder entries) puts tries (c.changed told name) }

-- with the entries of more steps, whose files may have changed too
pub changes_more : (old new : RecordedState) (tried : Names) (xs ys : List Entry) → ChangesFiles tried old new xs → ChangesFiles tried old new (xs ++ ys)
changes_more old new tried xs ys c = record {
  changed = λ told name.
      subst (λ (put : Names). IsChange put tried old.store.files new.store.files name) (sym (files_append old.store.folder xs ys))
      (subst (λ (t : Names). IsChange (files_of old.store.folder xs ++ files_of old.store.folder ys) t old.store.files new.store.files name) (append-nil tried)
      (change_still (files_of old.store.folder xs) tried (files_of old.store.folder ys) [] old.store.files new.store.files new.store.files name refl (c.changed told name)));
}

-- The file of a registration does not depend on the chunks that did not fit into the xorb.
pub files_of_register : (folder : List ℕ) (pass : ℕ) (c : Core) (target : ℕ) (leaves next other : List (List ℕ × ℕ)) → files_of folder (register_entries pass c target leaves next) ≡ files_of folder (register_entries pass c target leaves other)
files_of_register folder pass c target leaves next other = go (is_new c.xorbs (xorb_hash leaves))
  where
    cut : List Entry
    cut = cut_entries pass c target (xorb_record_size (xorb_record (xorb_hash leaves) leaves))

    entries : Bool → List (List ℕ × ℕ) → List Entry
    entries b more = if b then cut ++ Register pass leaves more true ∷ [] else Register pass leaves more false ∷ []

    go : (b : Bool) → files_of folder (entries b next) ≡ files_of folder (entries b other)
    go true = files_append folder cut (Register pass leaves next true ∷ []) ∙ sym (files_append folder cut (Register pass leaves other true ∷ []))
    go false = refl
