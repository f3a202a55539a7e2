-- A xorb more.
use Rattle.std.proofs.Common.{◌≡◌, ◌≢◌, ◌⊎◌, inl, inr, Result, Ok, Err, OnErr, OnOk, ◌∙◌, ℕ, ◌≤◌, Bool, true, List, [], ◌∷◌, ◌++◌, Some, None, IsSome, refl, sym, ap, subst}
use Rattle.std.specs.List.{AllByRecursion}
use Rattle.xet_io.specs.Entries.{Entries}
use Rattle.xet_io.specs.Images.{Passes}
use Rattle.xet_io.specs.theorems.Passing.{passes_more}
use Rattle.xet_folder.specs.Puts.{IsPuttingXorb}
use Rattle.std.proofs.lemmas.Result.{on_ok_weaker}
use Rattle.std.proofs.lemmas.List.{append-nil}
use Rattle.xet_io.specs.Disk.{Files, bytes_at, entry_at as get}
use Rattle.xet_hash.specs.Merkle.{xorb_hash}
use Rattle.xet_shard_format.specs.declared.record.MDBFileInfo.{MDBFileInfo}
use Rattle.xet_shard.specs.Held.{Held, IsHeld, with_last}
use Rattle.xet_shard_format.specs.Records.{xorb_record_hash}
use Rattle.xet_shard.specs.theorems.Holding.{all_last}
use Rattle.xet_folder.specs.Admission.{block_leaves}
use Rattle.xet_folder.specs.Names.{IsForeign, xorb_path}
use Rattle.xet_shard_file.specs.Names.{IsHash, shard_path, temp_name}
use Rattle.xet_shard_file.specs.Puts.{IsKeptOrDone}
use Rattle.xet_folder.specs.Stored.{IsBacked}
use Rattle.xet_folder.specs.Xorbs.{IsListed, FileRecords, Xorbs, found}
use Rattle.xet_folder.specs.theorems.Tables.{found_either, found_here, found_kept}
use Rattle.xet_store_disk.specs.Cleaning.{HasXorb, IsDurable, Keeps, KeepsAt, SameEntry, files_at}
use Rattle.xet_store_disk.specs.DueXorb.{IsDueXorb, due_xorb}
use Rattle.xet_dedup.specs.Records.{xorb_record}
use Rattle.xet_folder.specs.Contents.{IsRecord}
use Rattle.xet_store_disk.specs.Store.{State, IsPendingFile, Sound}
use Rattle.xet_base.specs.theorems.Elements.{all_more}
use Rattle.xet_store_disk.proofs.Pending.{entries_leaves}
use Rattle.xet_store_disk.specs.theorems.Plans.{resolves_more}
use Rattle.xet_store_disk.proofs.Rows.{differ_more, found_more}
use Rattle.xet_store_disk.specs.theorems.Rows.{is_some_either}
use Rattle.xet_store_disk.specs.theorems.Staying.{Leaves, StateStays, admitted_stays, backed_still, changed, keeps_at, keeps_changed, keeps_refused, kept_or, found_nowhere, same_change, sound_refused, stays_xorb, keeps_xorb}

-- ---- what stands with more xorbs

module _ (old new : Xorbs) (more : (h : List ℕ) (ms : Leaves) → IsListed old h ms → IsListed new h ms) where
  pub records_more : (rs : FileRecords) → AllByRecursion (IsRecord old) rs → AllByRecursion (IsRecord new) rs
  records_more [] all = tt
  records_more (r ∷ rs) all = (
    record { named = all.0.named; leaves = all.0.leaves; resolves = resolves_more (IsListed old) (IsListed new) (λ (m : List ℕ × ℕ). m.1) more r.1.segments all.0.leaves all.0.resolves; hash = all.0.hash; some = all.0.some; bound = all.0.bound },
    records_more rs all.1,
  )

  pub files_more : (rs : FileRecords) (fs : List MDBFileInfo) → AllByRecursion (IsPendingFile old rs) fs → AllByRecursion (IsPendingFile new rs) fs
  files_more rs [] all = tt
  files_more rs (f ∷ fs) all = (
    record { recorded = all.0.recorded; leaves = all.0.leaves; resolves = resolves_more (IsListed old) (IsListed new) (λ (m : List ℕ × ℕ). m.1) more f.segments all.0.leaves all.0.resolves; form = all.0.form },
    files_more rs fs all.1,
  )

-- ---- the xorb is listed with its leaves, and its record is pending

module _ (s : State) (h : List ℕ) (leaves : Leaves) where
  abbrev listed_too : Xorbs
  listed_too = s.xorbs ++ (h, leaves) ∷ []

  abbrev pending_too : Held
  pending_too = record { blocks = with_last xorb_record_hash s.pending.blocks (xorb_record h leaves); files = s.pending.files }

  abbrev pub with_xorb : Bool → Files → ℕ → State
  with_xorb tells files faults = changed s tells files faults listed_too s.records s.shards pending_too

  stays_listed : (k : List ℕ) (ms : Leaves) → IsListed s.xorbs k ms → IsListed listed_too k ms
  stays_listed k ms l = found_kept s.xorbs ((h, leaves) ∷ []) k ms l

  pub listed_new : found s.xorbs h ≡ None → IsListed listed_too h leaves
  listed_new none = found_here s.xorbs h leaves none

  module _ (tells : Bool) (files : Files) (faults : ℕ) (stays : StateStays s tells files faults) where
    pub keeps_added : (s.tells ≡ true → IsDurable files (xorb_path s.folder h)) → Keeps s (with_xorb tells files faults)
    keeps_added durable = keeps_changed s tells files faults stays listed_too s.records [] s.shards [] pending_too stays_listed (λ told k none is. this told k none (is_some_either s.xorbs h k leaves is)) (λ told. tt) (sym (append-nil s.records)) (sym (append-nil s.shards))
      where
        this : s.tells ≡ true → (k : List ℕ) → found s.xorbs k ≡ None → IsSome (found s.xorbs k) ⊎ (h ≡ k) → IsDurable files (xorb_path s.folder k)
        this told k none (inl is) = found_nowhere (found s.xorbs k) none is
        this told k none (inr e) = subst (λ (x : List ℕ). IsDurable files (xorb_path s.folder x)) e (durable told)

    pub sound_added : Sound s → found s.xorbs h ≡ None → IsHash h → IsHeld pending_too → (s.tells ≡ true → IsBacked files s.folder h leaves)
        → (s.tells ≡ true → (k : List ℕ) → IsHash k → SameEntry s.files files (shard_path s.folder k)) → Sound (with_xorb tells files faults)
    sound_added sound none hash held here shards = record {
      backed = λ told k ms listed. back (sym stays.tells_same ∙ told) k ms (found_either s.xorbs h k leaves ms listed);
      recorded = records_more s.xorbs listed_too stays_listed s.records sound.recorded;
      kept = λ k f e. kept_or s tells files faults stays sound pending_too s.shards (λ x a. a) f (λ p. p) (sound.kept k f e);
      held = held;
      blocks = all_last (λ b. IsListed listed_too (xorb_record_hash b) (block_leaves b)) xorb_record_hash s.pending.blocks (xorb_record h leaves)
          (all_more (λ b. IsListed s.xorbs (xorb_record_hash b) (block_leaves b)) (λ b. IsListed listed_too (xorb_record_hash b) (block_leaves b)) s.pending.blocks
          (λ b l. stays_listed (xorb_record_hash b) (block_leaves b) l) sound.blocks)
          (listed_new none ∙ ap Some (sym (entries_leaves 0 leaves)));
      pending_files = files_more s.xorbs listed_too stays_listed s.records s.pending.files sound.pending_files;
      admitted = λ told. admitted_stays s tells files faults stays sound listed_too (λ k is. found_more s.xorbs ((h, leaves) ∷ []) k is) shards (sym stays.tells_same ∙ told);
      hashes = λ k is. hashed k (is_some_either s.xorbs h k leaves is);
      shards_hashes = sound.shards_hashes;
      xorbs_differ = differ_more s.xorbs h leaves none sound.xorbs_differ;
      records_differ = sound.records_differ;
    }
      where
        back : s.tells ≡ true → (k : List ℕ) (ms : Leaves) → (found s.xorbs k ≡ Some ms) ⊎ ((h ≡ k) × (leaves ≡ ms)) → IsBacked files s.folder k ms
        back told k ms (inl l) = backed_still s tells files faults stays sound told k ms l
        back told k ms (inr p) = subst (λ (x : List ℕ). IsBacked files s.folder x ms) p.0 (subst (λ (m : Leaves). IsBacked files s.folder h m) p.1 (here told))

        hashed : (k : List ℕ) → IsSome (found s.xorbs k) ⊎ (h ≡ k) → IsHash k
        hashed k (inl is) = sound.hashes k is
        hashed k (inr e) = subst IsHash e hash

-- the same of lists by other names
module _ (s : State) (h : List ℕ) (leaves : Leaves) (tells : Bool) (files : Files) (faults : ℕ) (stays : StateStays s tells files faults) (sound : Sound s) {xorbs : Xorbs} {pending : Held}
    (listed : xorbs ≡ s.xorbs ++ (h, leaves) ∷ []) (held : pending ≡ record { blocks = with_last xorb_record_hash s.pending.blocks (xorb_record h leaves); files = s.pending.files }) where
  same_added : with_xorb s h leaves tells files faults ≡ changed s tells files faults xorbs s.records s.shards pending
  same_added = same_change s tells files faults listed refl refl held

  pub keeps_added_at : (s.tells ≡ true → IsDurable files (xorb_path s.folder h)) → (t : State) → s ≡ t → Keeps t (changed s tells files faults xorbs s.records s.shards pending)
  keeps_added_at durable t e = keeps_at s t (changed s tells files faults xorbs s.records s.shards pending) e (subst (λ (n : State). Keeps s n) same_added (keeps_added s h leaves tells files faults stays durable))

  pub sound_added_at : found s.xorbs h ≡ None → IsHash h → IsHeld pending → (s.tells ≡ true → IsBacked files s.folder h leaves)
      → (s.tells ≡ true → (k : List ℕ) → IsHash k → SameEntry s.files files (shard_path s.folder k)) → Sound (changed s tells files faults xorbs s.records s.shards pending)
  sound_added_at none hash held_form here files_same = subst Sound same_added (sound_added s h leaves tells files faults stays sound none hash (subst IsHeld held held_form) here files_same)

-- what the store's table then lists
pub listed_at : (old new : Xorbs) (h : List ℕ) (ms : Leaves) → new ≡ old ++ (h, ms) ∷ [] → found old h ≡ None → IsListed new h ms
listed_at old new h ms more none = ap (λ (l : Xorbs). found l h) more ∙ found_here old h ms none

-- ---- a put of a xorb, in a folder by another name

-- What it shows of the disk, done or not.
pub record PutsXorb (s : State) (folder h encoding : List ℕ) (leaves : Leaves) (tells : Bool) (files : Files) (faults : ℕ) : Type 0 where
  pub sound : Sound s
  pub same : folder ≡ s.folder
  pub tells_same : tells ≡ s.tells
  pub later : s.faults ≤ faults
  pub none : found s.xorbs h ≡ None
  pub xorbs : s.tells ≡ true → (k : List ℕ) → IsHash k → k ≢ h → SameEntry s.files files (xorb_path folder k)
  pub shards : s.tells ≡ true → (k : List ℕ) → IsHash k → SameEntry s.files files (shard_path folder k)
  pub foreign : s.tells ≡ true → (name : List ℕ) → IsForeign folder name → SameEntry s.files files name
  pub passes : s.tells ≡ true → Passes s.files files (IsPuttingXorb s.files.entries folder h encoding)
  pub backs : (there : Files) → bytes_at there (xorb_path s.folder h) ≡ Some encoding → IsBacked there s.folder h leaves

-- It is shown by what is so of the xorb, and by the put's own clauses.
pub puts_due : {s : State} {folder h encoding : List ℕ} {leaves : Leaves} {tells : Bool} {files : Files} {faults : ℕ} → Sound s → folder ≡ s.folder → found s.xorbs h ≡ None
    → IsDueXorb (due_xorb h leaves encoding) → tells ≡ s.tells → s.faults ≤ faults
    → (s.tells ≡ true → (k : List ℕ) → IsHash k → k ≢ h → SameEntry s.files files (xorb_path folder k)) → (s.tells ≡ true → (k : List ℕ) → IsHash k → SameEntry s.files files (shard_path folder k))
    → (s.tells ≡ true → (name : List ℕ) → IsForeign folder name → SameEntry s.files files name)
    → (s.tells ≡ true → Passes s.files files (IsPuttingXorb s.files.entries folder h encoding)) → PutsXorb s folder h encoding leaves tells files faults
puts_due {s} {folder} {h} {encoding} {leaves} {tells} {files} {faults} sound same none due same_tells later xorbs shards foreign passes = record {
  sound = sound;
  same = same;
  tells_same = same_tells;
  later = later;
  none = none;
  xorbs = xorbs;
  shards = shards;
  foreign = foreign;
  passes = passes;
  backs = λ disk there. record {
    chunks = due.chunks;
    stored = record { bytes = encoding; there = there; encoding = due.encoded; readable = due.readable; hash = ap xorb_hash due.same ∙ due.hashed };
    same = due.same;
  };
}

module _ {s : State} {folder h encoding : List ℕ} {leaves : Leaves} {tells : Bool} {files : Files} {faults : ℕ} (p : PutsXorb s folder h encoding leaves tells files faults) where
  shards_here : s.tells ≡ true → (k : List ℕ) → IsHash k → SameEntry s.files files (shard_path s.folder k)
  shards_here told k is = subst (λ (f : List ℕ). SameEntry s.files files (shard_path f k)) p.same (p.shards told k is)

  -- at each moment
  keeps_each : (m : Entries) → IsPuttingXorb s.files.entries folder h encoding m → KeepsAt s m
  keeps_each m at = keeps_xorb s folder h m p.sound p.same p.none at.xorbs at.shards (go (subst (λ (f : List ℕ). IsKeptOrDone s.files (files_at m) (xorb_path f h) encoding) p.same at.here))
    where
      go : IsKeptOrDone s.files (files_at m) (xorb_path s.folder h) encoding → SameEntry s.files (files_at m) (xorb_path s.folder h) ⊎ HasXorb (files_at m) s.folder h
      go (inl e) = inl e
      go (inr done) = let b = p.backs (files_at m) done.there in inr (record { chunks = b.chunks; stored = b.stored; durable = done.durable })

  keeps_all : s.tells ≡ true → Passes s.files files (KeepsAt s)
  keeps_all told = passes_more (IsPuttingXorb s.files.entries folder h encoding) (KeepsAt s) s.files files keeps_each (p.passes told)

  -- it is as it was, or the whole xorb
  module _ (left : s.tells ≡ true → IsKeptOrDone s.files files (xorb_path folder h) encoding) where
    left_here : s.tells ≡ true → SameEntry s.files files (xorb_path s.folder h) ⊎ HasXorb files s.folder h
    left_here told = go (subst (λ (f : List ℕ). IsKeptOrDone s.files files (xorb_path f h) encoding) p.same (left told))
      where
        go : IsKeptOrDone s.files files (xorb_path s.folder h) encoding → SameEntry s.files files (xorb_path s.folder h) ⊎ HasXorb files s.folder h
        go (inl e) = inl e
        go (inr done) = let b = p.backs files done.there in inr (record { chunks = b.chunks; stored = b.stored; durable = done.durable })

    xorb_stays : StateStays s tells files faults
    xorb_stays = stays_xorb s folder h tells files faults p.sound p.same p.tells_same p.later p.none p.xorbs p.shards p.foreign left_here keeps_all

    -- after an error
    module _ {xorbs : Xorbs} {records : FileRecords} {shards : List (List ℕ)} {pending : Held} (ex : xorbs ≡ s.xorbs) (er : records ≡ s.records) (es : shards ≡ s.shards) (ep : pending ≡ s.pending) where
      pub unput_sound : Sound (changed s tells files faults xorbs records shards pending)
      unput_sound = sound_refused s tells files faults xorb_stays p.sound (admitted_stays s tells files faults xorb_stays p.sound s.xorbs (λ k is. is) shards_here) ex er es ep

      pub unput_keeps : (t : State) → s ≡ t → Keeps t (changed s tells files faults xorbs records shards pending)
      unput_keeps t e = keeps_refused s tells files faults xorb_stays p.sound t e ex er es ep

  -- done, under a hash by another name
  module _ {T E : Type 0} (k : List ℕ) (named : h ≡ k) (r : Result T E) where
    pub put_backed : OnOk r (bytes_at files (xorb_path folder h) ≡ Some encoding) → OnOk r (IsBacked files s.folder k leaves)
    put_backed there =
        on_ok_weaker r (λ (done : bytes_at files (xorb_path folder h) ≡ Some encoding). subst (λ (x : List ℕ). IsBacked files s.folder x leaves) named
        (p.backs files (subst (λ (f : List ℕ). bytes_at files (xorb_path f h) ≡ Some encoding) p.same done))) there

    pub put_durable : OnOk r (IsDurable files (xorb_path folder h)) → OnOk r (IsDurable files (xorb_path s.folder k))
    put_durable durable =
        on_ok_weaker r (λ (done : IsDurable files (xorb_path folder h)). subst (λ (x : List ℕ). IsDurable files (xorb_path s.folder x)) named
        (subst (λ (f : List ℕ). IsDurable files (xorb_path f h)) p.same done)) durable

-- a put is done, or leaves what is kept or done
pub put_left : {T E : Type 0} (old new : Files) (name encoding : List ℕ) (r : Result T E) → OnErr r (IsKeptOrDone old new name encoding) → OnOk r (bytes_at new name ≡ Some encoding)
    → OnOk r (IsDurable new name) → OnOk r (get new (temp_name name) ≡ None) → IsKeptOrDone old new name encoding
put_left old new name encoding (Ok x) refused there durable temp = inr (record { there = there; durable = durable; temp = temp })
put_left old new name encoding (Err e) refused there durable temp = refused
