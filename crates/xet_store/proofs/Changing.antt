-- What the parts of a step change on the disk.
use Rattle.std.proofs.Common.{◌≡◌, ◌∙◌, inl, inr, ℕ, Bool, true, false, List, [], ◌∷◌, ◌++◌, None, sym, ap, subst}
use Rattle.std.specs.Prelude.{if◌then◌else◌}
use Rattle.std.proofs.lemmas.List.{append-nil}
use Rattle.xet_hash.specs.Merkle.{xorb_hash}
use Rattle.xet_folder.specs.Names.{xorb_path}
use Rattle.xet_folder.specs.Xorbs.{found}
use Rattle.xet_history.specs.Core.{has_pending, is_cut_due, pending_hash}
use Rattle.xet_history.specs.History.{complete_entries, cut_entries, flush_entries, register_entries}
use Rattle.xet_history.specs.declared.entry.Entry.{Entry}
use Rattle.xet_history.specs.declared.entry.Entry.TheVariants.{Complete, Flush, Register}
use Rattle.xet_history.specs.theorems.Staying.{Leaves, new_if_none}
use Rattle.xet_io.specs.Disk.{Files, entry_at as get}
use Rattle.xet_shard_file.specs.Names.{shard_path, temp_name}
use Rattle.xet_shard_format.specs.RecordSizes.{file_record_size, xorb_record_size}
use Rattle.xet_shard_format.specs.Records.{file_record_hash}
use Rattle.xet_shard_format.specs.declared.record.MDBFileInfo.{MDBFileInfo}
use Rattle.xet_store_disk.specs.Flushing.{IsFlushed, IsUnflushed, KeepsOtherNames}
use Rattle.xet_store_disk.specs.Separate.{Among}
use Rattle.xet_store_disk.specs.theorems.Rows.{among_after, among_more}
use Rattle.xet_xorb.specs.Raw.{xorb_record}
use Rattle.xet_store.specs.Changes.{ChangesFiles, IsChange, Tries, files_of}
use Rattle.xet_store.specs.Recorded.{RecordedState, core_of}
use Rattle.xet_store.specs.theorems.Changing.{change_put, change_try, changes_then, files_append, tries_of}

-- ---- flushes

-- the entries of a flush and of a cut
pub flush_is : (s : RecordedState) (pass : ℕ) → has_pending (core_of s) ≡ true → flush_entries pass (core_of s) ≡ Flush pass (pending_hash (core_of s)) ∷ []
flush_is s pass due = ap (λ (b : Bool). if b then Flush pass (pending_hash (core_of s)) ∷ [] else []) due

pub cut_is : (s : RecordedState) (pass target bytes : ℕ) → is_cut_due (core_of s) target bytes ≡ true → cut_entries pass (core_of s) target bytes ≡ Flush pass (pending_hash (core_of s)) ∷ []
cut_is s pass target bytes due = ap (λ (b : Bool). if b then Flush pass (pending_hash (core_of s)) ∷ [] else []) due

-- a flush
pub changes_flush : (old new : RecordedState) (h : List ℕ) (pass : ℕ) → has_pending (core_of old) ≡ true → IsFlushed old.store h new.store → ChangesFiles [] old new (flush_entries pass (core_of old))
changes_flush old new h pass due flush =
    let entries : flush_entries pass (core_of old) ≡ Flush pass h ∷ [] = flush_is old pass due ∙ ap (λ (x : List ℕ). Flush pass x ∷ []) (sym flush.hash) in
    subst (λ (es : List Entry). ChangesFiles [] old new es) (sym entries)
    (record { changed = λ told name. change_put old.store.files new.store.files (shard_path old.store.folder h) name (flush.others told) (flush.temp told) })

-- one that failed
pub changes_unflushed : (old new : RecordedState) → IsUnflushed old.store new.store → ChangesFiles (shard_path old.store.folder (pending_hash (core_of old)) ∷ []) old new []
changes_unflushed old new u = record { changed = λ told name. change_try old.store.files new.store.files (shard_path old.store.folder (pending_hash (core_of old))) name (u.others told) }

-- ---- a cut, and then what was asked for

module _ (a : RecordedState) (cut last entries : List Entry) (is : entries ≡ cut ++ last) where
  cut_in : (name : List ℕ) → Among (files_of a.store.folder cut) name → Among (files_of a.store.folder entries) name
  cut_in name x =
      subst (λ (es : List Entry). Among (files_of a.store.folder es) name) (sym is)
      (subst (λ (l : List (List ℕ)). Among l name) (sym (files_append a.store.folder cut last)) (among_more (files_of a.store.folder cut) (files_of a.store.folder last) name x))

  last_in : (name : List ℕ) → Among (files_of a.store.folder last) name → Among (files_of a.store.folder entries) name
  last_in name x =
      subst (λ (es : List Entry). Among (files_of a.store.folder es) name) (sym is)
      (subst (λ (l : List (List ℕ)). Among l name) (sym (files_append a.store.folder cut last)) (among_after (files_of a.store.folder cut) (files_of a.store.folder last) name x))

  -- the cut failed
  pub tries_cut : (t : RecordedState) (pass : ℕ) → cut ≡ Flush pass (pending_hash (core_of a)) ∷ [] → ChangesFiles (shard_path a.store.folder (pending_hash (core_of a)) ∷ []) a t [] → Tries a t entries
  tries_cut t pass due failed =
      tries_of a t (shard_path a.store.folder (pending_hash (core_of a)) ∷ []) [] entries (λ name x. absurd x)
      (λ name x. cut_in name (subst (λ (es : List Entry). Among (files_of a.store.folder es) name) (sym due) (among_more (shard_path a.store.folder (pending_hash (core_of a)) ∷ []) [] name x))) failed

  -- after it nothing more was done
  pub tries_after : (b c : RecordedState) → c.store.files ≡ b.store.files → ChangesFiles [] a b cut → Tries a c entries
  tries_after b c same first = record {
    changed = λ told name.
        let done : Tries a b entries = tries_of a b [] cut entries cut_in (λ n x. absurd x) first in
        subst (λ (f : Files). IsChange [] (files_of a.store.folder entries) a.store.files f name) (sym same) (done.changed told name);
  }

  -- after it a file was put, but for what failed
  pub tries_put : (b c : RecordedState) (path : List ℕ) → b.store.tells ≡ a.store.tells → b.store.folder ≡ a.store.folder → ChangesFiles [] a b cut → Among (files_of a.store.folder last) path
      → (b.store.tells ≡ true → KeepsOtherNames b.store.files c.store.files path) → Tries a c entries
  tries_put b c path tells folder first among others =
      let tried : ChangesFiles (path ∷ []) b c [] = record { changed = λ told name. change_try b.store.files c.store.files path name (others told) } in
      let both : ChangesFiles (path ∷ []) a c cut = subst (λ (es : List Entry). ChangesFiles (path ∷ []) a c es) (append-nil cut) (changes_then a b c [] (path ∷ []) cut [] tells folder first tried) in
      tries_of a c (path ∷ []) cut entries cut_in (λ name x. this name x) both
    where
      this : (name : List ℕ) → Among (path ∷ []) name → Among (files_of a.store.folder entries) name
      this name (inl e) = subst (λ (n : List ℕ). Among (files_of a.store.folder entries) n) e (last_in path among)
      this name (inr x) = absurd x

  -- both were completed
  pub changes_all : (b c : RecordedState) → b.store.tells ≡ a.store.tells → b.store.folder ≡ a.store.folder → ChangesFiles [] a b cut → ChangesFiles [] b c last → ChangesFiles [] a c entries
  changes_all b c tells folder first second = subst (λ (es : List Entry). ChangesFiles [] a c es) (sym is) (changes_then a b c [] [] cut last tells folder first second)

-- ---- the entries

pub registered_is : (a : RecordedState) (pass target bytes : ℕ) (leaves next : Leaves) → found a.store.xorbs (xorb_hash leaves) ≡ None → bytes ≡ xorb_record_size (xorb_record (xorb_hash leaves) leaves)
    → register_entries pass (core_of a) target leaves next ≡ cut_entries pass (core_of a) target bytes ++ Register pass leaves next true ∷ []
registered_is a pass target bytes leaves next none size =
    let size_is : ℕ = xorb_record_size (xorb_record (xorb_hash leaves) leaves) in
    let whole : List Entry = cut_entries pass (core_of a) target size_is ++ Register pass leaves next true ∷ [] in
    ap (λ (b : Bool). if b then whole else Register pass leaves next false ∷ []) (new_if_none a.store.xorbs (xorb_hash leaves) none)
    ∙ ap (λ (n : ℕ). cut_entries pass (core_of a) target n ++ Register pass leaves next true ∷ []) (sym size)

pub completed_is : (a : RecordedState) (pass target bytes : ℕ) (file : MDBFileInfo) → found a.store.records (file_record_hash file) ≡ None → bytes ≡ file_record_size file
    → complete_entries pass (core_of a) target file ≡ cut_entries pass (core_of a) target bytes ++ Complete pass file true ∷ []
completed_is a pass target bytes file none size =
    let whole : List Entry = cut_entries pass (core_of a) target (file_record_size file) ++ Complete pass file true ∷ [] in
    ap (λ (b : Bool). if b then whole else Complete pass file false ∷ []) (new_if_none a.store.records (file_record_hash file) none)
    ∙ ap (λ (n : ℕ). cut_entries pass (core_of a) target n ++ Complete pass file true ∷ []) (sym size)

-- ---- a xorb

-- It was put.
pub changes_xorb : (b c : RecordedState) (pass : ℕ) (leaves next : Leaves) (hash : List ℕ) → hash ≡ xorb_hash leaves → (b.store.tells ≡ true → KeepsOtherNames b.store.files c.store.files (xorb_path b.store.folder hash))
    → (b.store.tells ≡ true → get c.store.files (temp_name (xorb_path b.store.folder hash)) ≡ None) → ChangesFiles [] b c (Register pass leaves next true ∷ [])
changes_xorb b c pass leaves next hash named others temp = record {
  changed = λ told name.
      subst (λ (h : List ℕ). IsChange (xorb_path b.store.folder h ∷ []) [] b.store.files c.store.files name) named
      (change_put b.store.files c.store.files (xorb_path b.store.folder hash) name (others told) (temp told));
}
