-- The changes that a flush makes.
use Rattle.std.proofs.Common.{◌≡◌, ℕ, Bool, true, List, [], ◌∷◌, Result, sym, ◌∙◌, ap, subst}
use Rattle.std.specs.Prelude.{IsOk}
use Rattle.xet_io.specs.Disk.{Files}
use Rattle.xet_folder.specs.Admission.{shard_hash}
use Rattle.xet_io.specs.Entries.{bytes_at}
use Rattle.xet_io.specs.Images.{Passes}
use Rattle.xet_folder.specs.Changes.{Change, GoesBy, IsAfterSome}
use Rattle.xet_folder.specs.Names.{xorb_path}
use Rattle.xet_folder.specs.Changes.Change.{Puts}
use Rattle.xet_folder.specs.Puts.{IsSettled}
use Rattle.xet_folder.specs.theorems.Going.{goes_failed, goes_nowhere}
use Rattle.xet_shard_file.specs.Names.{shard_path}
use Rattle.xet_store_disk.specs.Flushing.{flush_changes, pending_bytes}
use Rattle.xet_store_disk.specs.Store.{State}
use Rattle.xet_store_disk.proofs.Flushing.{PutsShard, hash_here}

-- nothing was done
pub goes_idle : {T E : Type 0} (old new : Files) (folder : List ℕ) (changes : List Change) (r : Result T E) → (IsOk r → ⊥) → new ≡ old → IsSettled old.entries folder → GoesBy old new folder changes r
goes_idle old new folder changes r failed same settled = goes_failed folder old new [] changes r r failed (goes_nowhere folder old new r settled same)

module _ {s : State} {folder h encoding : List ℕ} {tells : Bool} {files : Files} {faults : ℕ} (p : PutsShard s folder h encoding tells files faults) where
  -- the shard was put, or its put failed
  pub goes_put : {A B T E : Type 0} (r : Result A B) (o : Result T E) → (IsOk o → IsOk r) → (t : State) → s ≡ t → t.tells ≡ true → IsSettled t.files.entries t.folder
      → (s.tells ≡ true → IsSettled s.files.entries folder → GoesBy s.files files folder (Puts (shard_path folder h) encoding ∷ []) r)
      → GoesBy t.files files t.folder (flush_changes t) o
  goes_put r o ok t e told settled goes =
      let told_here : s.tells ≡ true = subst (λ (x : State). x.tells ≡ true) (sym e) told in
      let settled_here : IsSettled s.files.entries s.folder = subst (λ (x : State). IsSettled x.files.entries x.folder) (sym e) settled in
      let g = goes told_here (subst (λ (f : List ℕ). IsSettled s.files.entries f) (sym p.same) settled_here) in
      let a : GoesBy s.files files s.folder (Puts (shard_path s.folder h) encoding ∷ []) r = subst (λ (f : List ℕ). GoesBy s.files files f (Puts (shard_path f h) encoding ∷ []) r) p.same g in
      let b : GoesBy s.files files s.folder (Puts (shard_path s.folder (shard_hash (pending_bytes s))) encoding ∷ []) r = subst (λ (k : List ℕ). GoesBy s.files files s.folder (Puts (shard_path s.folder k) encoding ∷ []) r) (hash_here p) a in
      let d : GoesBy s.files files s.folder (flush_changes s) r = subst (λ (b : List ℕ). GoesBy s.files files s.folder (Puts (shard_path s.folder (shard_hash (pending_bytes s))) b ∷ []) r) p.is b in
      subst (λ (x : State). GoesBy x.files files x.folder (flush_changes x) o) e (record { passes = d.passes; all = λ is. d.all (ok is) })

-- ---- a xorb

-- its file was put, under the names of a store
pub goes_xorb : {T E : Type 0} (s : State) (files : Files) (folder h encoding : List ℕ) (r : Result T E) → folder ≡ s.folder
    → (s.tells ≡ true → IsSettled s.files.entries folder → GoesBy s.files files folder (Puts (xorb_path folder h) encoding ∷ []) r)
    → (k bytes : List ℕ) → h ≡ k → encoding ≡ bytes → (t : State) → s ≡ t → t.tells ≡ true → IsSettled t.files.entries t.folder → GoesBy t.files files t.folder (Puts (xorb_path t.folder k) bytes ∷ []) r
goes_xorb s files folder h encoding r same goes k bytes hash is t e told settled =
    let told_here : s.tells ≡ true = subst (λ (x : State). x.tells ≡ true) (sym e) told in
    let settled_here : IsSettled s.files.entries s.folder = subst (λ (x : State). IsSettled x.files.entries x.folder) (sym e) settled in
    let a : GoesBy s.files files s.folder (Puts (xorb_path s.folder h) encoding ∷ []) r =
    subst (λ (f : List ℕ). GoesBy s.files files f (Puts (xorb_path f h) encoding ∷ []) r) same (goes told_here (subst (λ (f : List ℕ). IsSettled s.files.entries f) (sym same) settled_here)) in
    let b : GoesBy s.files files s.folder (Puts (xorb_path s.folder k) encoding ∷ []) r = subst (λ (x : List ℕ). GoesBy s.files files s.folder (Puts (xorb_path s.folder x) encoding ∷ []) r) hash a in
    let d : GoesBy s.files files s.folder (Puts (xorb_path s.folder k) bytes ∷ []) r = subst (λ (x : List ℕ). GoesBy s.files files s.folder (Puts (xorb_path s.folder k) x ∷ []) r) is b in
    subst (λ (x : State). GoesBy x.files files x.folder (Puts (xorb_path x.folder k) bytes ∷ []) r) e d

-- what comes after a call changes no file
pub goes_on : {T E U F : Type 0} (old mid new : Files) (folder : List ℕ) (changes : List Change) (r : Result T E) (o : Result U F) → (IsOk o → IsOk r) → new ≡ mid → GoesBy old mid folder changes r → GoesBy old new folder changes o
goes_on old mid new folder changes r o ok same g = record {
  passes = subst (λ (f : Files). Passes old f (IsAfterSome old.entries folder changes)) (sym same) g.passes;
  all = λ is name named. ap (λ (f : Files). bytes_at f.entries name) same ∙ g.all (ok is) name named;
}

-- what a put says of a xorb's file, by the names of a store
pub at_xorb : (P : Files → List ℕ → List ℕ → Type 0) (s : State) (folder h encoding : List ℕ) → folder ≡ s.folder → (s.tells ≡ true → P s.files (xorb_path folder h) encoding)
    → (k bytes : List ℕ) → h ≡ k → encoding ≡ bytes → (t : State) → s ≡ t → t.tells ≡ true → P t.files (xorb_path t.folder k) bytes
at_xorb P s folder h encoding same put k bytes hash is t e told =
    let told_here : s.tells ≡ true = subst (λ (x : State). x.tells ≡ true) (sym e) told in
    let a : P s.files (xorb_path s.folder h) encoding = subst (λ (f : List ℕ). P s.files (xorb_path f h) encoding) same (put told_here) in
    let b : P s.files (xorb_path s.folder k) bytes = subst (λ (x : List ℕ). P s.files (xorb_path s.folder k) x) is (subst (λ (x : List ℕ). P s.files (xorb_path s.folder x) encoding) hash a) in
    subst (λ (x : State). P x.files (xorb_path x.folder k) bytes) e b
