-- What was listed when a folder was opened is listed still.
use Rattle.std.proofs.Common.{◌≡◌, ◌⊎◌, inl, inr, ◌∙◌, ℕ, ◌≤◌, ◌++◌, length, arith, Bool, true, false, List, refl, subst, sym, ap}
use Rattle.std.proofs.lemmas.List.{length-append}
use Rattle.xet_io.specs.Disk.{entry_at as get}
use Rattle.xet_io.specs.Disk.{Files}
use Rattle.xet_folder.specs.Admission.{Admits}
use Rattle.xet_folder.specs.Contents.{HasContents, max_shards}
use Rattle.xet_folder.specs.Listed.{ResolvesTo, Lists}
use Rattle.xet_shard_file.specs.Names.{shard_path}
use Rattle.xet_folder.specs.Names.{IsForeign, xorb_path}
use Rattle.xet_shard_file.specs.Shards.{IsThere}
use Rattle.xet_cut.specs.declared.limits.LimitSettings.{LimitSettings}
use Rattle.xet_store_disk.specs.Cleaning.{HasShard, HasWholeShard, HasXorb, IsDurable, Keeps, SameEntry}
use Rattle.xet_store_disk.specs.Opening.{IsOpened, contents_of}
use Rattle.xet_store_disk.specs.Separate.{IsNamed}
use Rattle.xet_store_disk.specs.Store.{Sound, State}
use Rattle.xet_store_disk.specs.theorems.Sessions.{resolves_stay, listed_stay, named_newly, named_same, valid_stays}
use Rattle.xet_store.specs.Recorded.{IsRecorded, RecordedState}
use Rattle.xet_program.specs.Ending.{CanOpen}
use Rattle.xet_program.specs.Tasks.{store_folder}
use Rattle.xet_program.specs.Stored.{KeepsFolder, KeepsListed}

-- by a session
kept_by : (s t : State) → s.tells ≡ true → s.folder ≡ store_folder → HasContents s.files s.folder s.opened (contents_of s) → Keeps s t → KeepsListed s.opened s.files t.files
kept_by s t told folder contents keeps = record {
  listed = λ later since f l.
      subst (λ (x : List ℕ). Lists t.files x later f) folder (listed_stay s t told contents keeps later since f (subst (λ (x : List ℕ). Lists s.files x later f) (sym folder) l));
  resolves = λ later since f l chunks resolves. subst (λ (x : List ℕ). ResolvesTo t.files x f chunks) folder
      (resolves_stay s t told contents keeps later since f (subst (λ (x : List ℕ). Lists s.files x later f) (sym folder) l) chunks (subst (λ (x : List ℕ). ResolvesTo s.files x f chunks) (sym folder) resolves));
}

-- the contents of a folder by the names of the session that was opened over it
contents_then : (old : Files) (now : ℕ) (s : State) → s.files ≡ old → s.folder ≡ store_folder → s.opened ≡ now → HasContents old store_folder now (contents_of s) → HasContents s.files s.folder s.opened (contents_of s)
contents_then old now s files folder time contents =
    let of_files : HasContents s.files store_folder now (contents_of s) = subst (λ (x : Files). HasContents x store_folder now (contents_of s)) (sym files) contents in
    let of_folder : HasContents s.files s.folder now (contents_of s) = subst (λ (x : List ℕ). HasContents s.files x now (contents_of s)) (sym folder) of_files in
    subst (λ (x : ℕ). HasContents s.files s.folder x (contents_of s)) (sym time) of_folder

-- without pruning, the contents of a store are those of the disk that it was opened over
pub contents_before : (tells : Bool) (old : Files) (limits : LimitSettings) (now : ℕ) (s : State) → IsOpened tells false old store_folder limits now s
    → (tells ≡ true → HasContents s.files store_folder now (contents_of s)) → tells ≡ true → HasContents old store_folder now (contents_of s)
contents_before tells old limits now s opened contents told = subst (λ (x : Files). HasContents x store_folder now (contents_of s)) (opened.same_files refl) (contents told)

-- and it can be opened, if as few shards are registered at the end
pub opens_before : (tells : Bool) (old : Files) (limits : LimitSettings) (now : ℕ) (s : State) → IsOpened tells false old store_folder limits now s
    → (tells ≡ true → HasContents s.files store_folder now (contents_of s)) → length s.shards ≤ max_shards → tells ≡ true → CanOpen old now (contents_of s)
opens_before tells old limits now s opened contents few told = record { valid = contents_before tells old limits now s opened contents told; few = few }

-- no shard leaves a session, which has no more than can be registered
pub few_before : (s t : RecordedState) → Keeps s.store t.store → IsRecorded t → length s.store.shards ≤ max_shards
few_before s t keeps recorded =
    let same : length t.store.shards ≡ length (s.store.shards ++ keeps.shards.0) = ap length keeps.shards.1 in
    omega (arith, same, length-append s.store.shards keeps.shards.0, recorded.shards.few)

-- over the disk that it hands back
pub keeps_listed : (tells : Bool) (old new : Files) (limits : LimitSettings) (now : ℕ) (s t : State) → IsOpened tells false old store_folder limits now s
    → (tells ≡ true → HasContents old store_folder now (contents_of s)) → Keeps s t → new ≡ t.files → tells ≡ true → KeepsListed now old new
keeps_listed tells old new limits now s t opened contents keeps is told =
    let then = contents_then old now s (opened.same_files refl) opened.same_folder opened.time (contents told) in
    let kept : KeepsListed s.opened s.files t.files = kept_by s t (opened.same_tells ∙ told) opened.same_folder then keeps in
    let at : KeepsListed now s.files t.files = subst (λ (x : ℕ). KeepsListed x s.files t.files) opened.time kept in
    let from : KeepsListed now old t.files = subst (λ (x : Files). KeepsListed now x t.files) (opened.same_files refl) at in
    subst (λ (x : Files). KeepsListed now old x) (sym is) from

-- ---- the names of a store's files

-- as a session keeps them
keeps_names : (s t : State) → s.tells ≡ true → s.folder ≡ store_folder → HasContents s.files s.folder s.opened (contents_of s) → Keeps s t → Sound t → KeepsFolder s.opened s.files t.files
keeps_names s t told folder contents keeps sound =
    let after : t.folder ≡ store_folder = keeps.folder ∙ folder in record {
      xorbs = λ h is. xorb h (keeps.xorb_names told h is);
      shards = λ h is. shard h (keeps.shard_names told h is);
      valid = λ shard there v. subst (λ (x : List ℕ). SameEntry s.files t.files (shard_path x shard.hash)) folder
          (valid_stays s contents t told keeps shard (subst (λ (x : List ℕ). IsThere s.files x shard) (sym folder) there) v);
      named = λ h is. subst (λ (x : List ℕ). SameEntry s.files t.files (xorb_path x h)) folder
          (named_same s contents t told keeps h (subst (λ (x : List ℕ). IsNamed s.files x s.opened h) (sym folder) is));
      newly = λ h is. new h (named_newly s contents t told keeps sound h
          (subst (λ (n : ℕ). IsNamed t.files t.folder n h) (sym keeps.opened) (subst (λ (x : List ℕ). IsNamed t.files x s.opened h) (sym after) is)));
      admitted = λ was.
          let a = sound.admitted (keeps.tells ∙ told) in
          (a.shards, subst (λ (n : ℕ). Admits t.files store_folder n a.shards) keeps.opened (subst (λ (x : List ℕ). Admits t.files x t.opened a.shards) after a.admits));
    }
  where
    xorb : (h : List ℕ) → SameEntry s.files t.files (xorb_path s.folder h) ⊎ HasXorb t.files t.folder h → SameEntry s.files t.files (xorb_path store_folder h) ⊎ HasXorb t.files store_folder h
    xorb h (inl same) = inl (subst (λ (x : List ℕ). SameEntry s.files t.files (xorb_path x h)) folder same)
    xorb h (inr has) = inr (subst (λ (x : List ℕ). HasXorb t.files x h) (keeps.folder ∙ folder) has)

    new : (h : List ℕ) → IsNamed s.files s.folder s.opened h ⊎ IsDurable t.files (xorb_path s.folder h) → IsNamed s.files store_folder s.opened h ⊎ IsDurable t.files (xorb_path store_folder h)
    new h (inl is) = inl (subst (λ (x : List ℕ). IsNamed s.files x s.opened h) folder is)
    new h (inr is) = inr (subst (λ (x : List ℕ). IsDurable t.files (xorb_path x h)) folder is)

    shard : (h : List ℕ) → SameEntry s.files t.files (shard_path s.folder h) ⊎ HasWholeShard t h → SameEntry s.files t.files (shard_path store_folder h) ⊎ HasShard t.files store_folder h
    shard h (inl same) = inl (subst (λ (x : List ℕ). SameEntry s.files t.files (shard_path x h)) folder same)
    shard h (inr has) = inr (subst (λ (x : List ℕ). HasShard t.files x h) (keeps.folder ∙ folder) has.shard)

-- over the disk that it hands back
pub keeps_folder : (tells : Bool) (old new : Files) (limits : LimitSettings) (now : ℕ) (s t : State) → IsOpened tells false old store_folder limits now s
    → (tells ≡ true → HasContents old store_folder now (contents_of s)) → Keeps s t → Sound t → new ≡ t.files → tells ≡ true → KeepsFolder now old new
keeps_folder tells old new limits now s t opened contents keeps sound is told =
    let kept : KeepsFolder s.opened s.files t.files = keeps_names s t (opened.same_tells ∙ told) opened.same_folder (contents_then old now s (opened.same_files refl) opened.same_folder opened.time (contents told)) keeps sound in
    let at : KeepsFolder now s.files t.files = subst (λ (x : ℕ). KeepsFolder x s.files t.files) opened.time kept in
    let from : KeepsFolder now old t.files = subst (λ (x : Files). KeepsFolder now x t.files) (opened.same_files refl) at in
    subst (λ (x : Files). KeepsFolder now old x) (sym is) from

-- ---- other files

-- a file that is not the store's is as it was
pub foreign_same : (tells : Bool) (old new : Files) (limits : LimitSettings) (now : ℕ) (s t : State) → IsOpened tells false old store_folder limits now s → Keeps s t → new ≡ t.files → tells ≡ true
    → (name : List ℕ) → IsForeign store_folder name → get new name ≡ get old name
foreign_same tells old new limits now s t opened keeps is told name foreign =
    ap (λ (x : Files). get x name) is
    ∙ keeps.foreign (opened.same_tells ∙ told) name (subst (λ (f : List ℕ). IsForeign f name) (sym opened.same_folder) foreign)
    ∙ ap (λ (x : Files). get x name) (opened.same_files refl)
