-- What stays of a session when a file is written to its disk.
use Rattle.std.proofs.Common.{◌≡◌, ◌≢◌, ◌⊎◌, inl, inr, ◌∙◌, ℕ, ◌≤◌, Bool, true, false, List, [], ◌∷◌, ◌++◌, Option, Some, None, IsSome, nat_eq, refl, sym, ap, subst, arith, option_map}
use Rattle.std.proofs.lemmas.List.{append-nil}
use Rattle.std.specs.Cmp.Lexicographic.{bytes_decides, pointwise}
use Rattle.std.specs.List.{AllByRecursion, IsAmong}
use Rattle.xet_io.specs.Disk.{Entry, Files, File, bytes_at, entry_at, file_at, file_of}
use Rattle.xet_io.specs.Entries.{Entries}
use Rattle.xet_io.specs.Images.{Passes}
use Rattle.xet_io.specs.theorems.Passing.{passes_same}
use Rattle.xet_shard_format.specs.declared.record.MDBFileInfo.{MDBFileInfo}
use Rattle.xet_shard.specs.Held.{Held}
use Rattle.xet_folder.specs.Names.{IsForeign, xorb_path}
use Rattle.xet_shard_file.specs.Names.{IsHash, shard_path}
use Rattle.xet_folder.specs.Stored.{IsBacked}
use Rattle.xet_folder.specs.Xorbs.{IsListed, FileRecords, Xorbs, found}
use Rattle.xet_store_disk.specs.Cleaning.{HasShardAt, HasWholeShard, HasXorb, IsDurable, Keeps, KeepsAt, SameEntry, files_at}
use Rattle.xet_store_disk.specs.Separate.{Among}
use Rattle.xet_store_disk.specs.Store.{State, IsAdmitted, IsKept, Sound}
use Rattle.xet_store_disk.specs.theorems.Admitting.{admitted_still, backed_same}
use Rattle.xet_store_disk.specs.theorems.Rows.{apart_found, from_among, is_some_found, to_among}

abbrev pub Leaves : Type 0
Leaves = List (List ℕ × ℕ)

-- the state with another disk and other lists
abbrev pub changed : State → Bool → Files → ℕ → Xorbs → FileRecords → List (List ℕ) → Held → State
changed s tells files faults xorbs records shards pending = record {
  tells = tells;
  files = files;
  faults = faults;
  folder = s.folder;
  limits = s.limits;
  opened = s.opened;
  xorbs = xorbs;
  records = records;
  shards = shards;
  pending = pending;
}

pub same_change : (s : State) (tells : Bool) (files : Files) (faults : ℕ) {x1 x2 : Xorbs} {r1 r2 : FileRecords} {s1 s2 : List (List ℕ)} {p1 p2 : Held}
    → x2 ≡ x1 → r2 ≡ r1 → s2 ≡ s1 → p2 ≡ p1 → changed s tells files faults x1 r1 s1 p1 ≡ changed s tells files faults x2 r2 s2 p2
same_change s tells files faults x r h p = λ i. changed s tells files faults (sym x i) (sym r i) (sym h i) (sym p i)

-- what reads give of a name whose entry is the same
pub same_file_at : (old new : Files) (name : List ℕ) → SameEntry old new name → file_at new name ≡ file_at old name
same_file_at old new name same = ap file_of same

pub same_bytes_at : (old new : Files) (name : List ℕ) → SameEntry old new name → bytes_at new name ≡ bytes_at old name
same_bytes_at old new name same = ap (λ (o : Option Entry). option_map (λ (f : File). f.bytes) (file_of o)) same

-- A disk has what a store has put there still, and other files that are not a store's; under other names of xorbs and
-- shards it has what it had, or a xorb of that hash, or a whole shard, which a crash keeps.
pub record StateStays (s : State) (tells : Bool) (files : Files) (faults : ℕ) : Type 0 where
  pub tells_same : tells ≡ s.tells
  pub later : s.faults ≤ faults
  pub xorb_files : s.tells ≡ true → (h : List ℕ) → IsSome (found s.xorbs h) → SameEntry s.files files (xorb_path s.folder h)
  pub shard_files : s.tells ≡ true → AllByRecursion (λ h. SameEntry s.files files (shard_path s.folder h)) s.shards
  pub xorb_names : s.tells ≡ true → (h : List ℕ) → IsHash h → SameEntry s.files files (xorb_path s.folder h) ⊎ HasXorb files s.folder h
  pub shard_names : s.tells ≡ true → (h : List ℕ) → IsHash h
      → SameEntry s.files files (shard_path s.folder h) ⊎ HasWholeShard (changed s tells files faults s.xorbs s.records s.shards s.pending) h
  pub foreign : s.tells ≡ true → (name : List ℕ) → IsForeign s.folder name → SameEntry s.files files name
  pub passes : s.tells ≡ true → Passes s.files files (KeepsAt s)

all_stay : (P : List ℕ → Type 0) (shards : List (List ℕ)) → AllByRecursion IsHash shards → ((h : List ℕ) → IsHash h → Among shards h → P h) → AllByRecursion P shards
all_stay P [] hashes stay = tt
all_stay P (h ∷ hs) hashes stay = (stay h hashes.0 (inl refl), all_stay P hs hashes.1 (λ k is a. stay k is (inr a)))

pub all_among : {X : Type 0} (P : X → Type 0) (xs : List X) (x : X) → AllByRecursion P xs → Among xs x → P x
all_among P [] x all a = absurd a
all_among P (y ∷ xs) x all (inl is) = subst P is all.0
all_among P (y ∷ xs) x all (inr a) = all_among P xs x all.1 a

-- what there is now
pub keeps_now : (s : State) → KeepsAt s s.files.entries
keeps_now s = record {
  xorb_files = λ h is. refl;
  shard_files = same s.shards;
  xorb_names = λ h is. inl refl;
  shard_names = λ h is. inl refl;
}
  where
    same : (hs : List (List ℕ)) → AllByRecursion (λ h. SameEntry s.files (files_at s.files.entries) (shard_path s.folder h)) hs
    same [] = tt
    same (h ∷ hs) = (refl, same hs)

pub stays_same : (s : State) → StateStays s s.tells s.files s.faults
stays_same s = record {
  tells_same = refl;
  later = omega arith;
  xorb_files = λ told h is. refl;
  shard_files = λ told. same s.shards;
  xorb_names = λ told h is. inl refl;
  shard_names = λ told h is. inl refl;
  foreign = λ told name is. refl;
  passes = λ told. passes_same (KeepsAt s) s.files s.files refl (keeps_now s);
}
  where
    same : (hs : List (List ℕ)) → AllByRecursion (λ h. SameEntry s.files s.files (shard_path s.folder h)) hs
    same [] = tt
    same (h ∷ hs) = (refl, same hs)

-- by whether two hashes are one
pub hash_cases : {G : Type 0} (k h : List ℕ) → (k ≡ h → G) → (k ≢ h → G) → G
hash_cases {G} k h same apart = go (pointwise nat_eq k h) refl
  where
    go : (b : Bool) → pointwise nat_eq k h ≡ b → G
    go true e = same ((bytes_decides k h).0 e)
    go false e = apart (λ q. let t : pointwise nat_eq k h ≡ true = (bytes_decides k h).1 q in let bad : false ≡ true = sym e ∙ t in absurd (cc bad))

-- at a moment, in a folder by another name, where the xorb h, or the shard h, is put
module _ (s : State) (folder h : List ℕ) (entries : Entries) (sound : Sound s) (same : folder ≡ s.folder) where
  pub keeps_xorb : found s.xorbs h ≡ None
      → ((k : List ℕ) → IsHash k → k ≢ h → SameEntry s.files (files_at entries) (xorb_path folder k))
      → ((k : List ℕ) → IsHash k → SameEntry s.files (files_at entries) (shard_path folder k))
      → SameEntry s.files (files_at entries) (xorb_path s.folder h) ⊎ HasXorb (files_at entries) s.folder h → KeepsAt s entries
  keeps_xorb none xorbs shards here = record {
    xorb_files = λ k is. subst (λ (f : List ℕ). SameEntry s.files (files_at entries) (xorb_path f k)) same (xorbs k (sound.hashes k is) (apart_found s.xorbs h k none is));
    shard_files = all_stay (λ k. SameEntry s.files (files_at entries) (shard_path s.folder k)) s.shards sound.shards_hashes (λ k is a. subst (λ (f : List ℕ). SameEntry s.files (files_at entries) (shard_path f k)) same (shards k is));
    xorb_names = λ k is. hash_cases k h
        (λ e. subst (λ (x : List ℕ). SameEntry s.files (files_at entries) (xorb_path s.folder x) ⊎ HasXorb (files_at entries) s.folder x) (sym e) here)
        (λ apart. inl (subst (λ (f : List ℕ). SameEntry s.files (files_at entries) (xorb_path f k)) same (xorbs k is apart)));
    shard_names = λ k is. inl (subst (λ (f : List ℕ). SameEntry s.files (files_at entries) (shard_path f k)) same (shards k is));
  }

  pub keeps_shard : (Among s.shards h → ⊥)
      → ((k : List ℕ) → IsHash k → SameEntry s.files (files_at entries) (xorb_path folder k))
      → ((k : List ℕ) → IsHash k → k ≢ h → SameEntry s.files (files_at entries) (shard_path folder k))
      → SameEntry s.files (files_at entries) (shard_path s.folder h) ⊎ HasShardAt s entries h → KeepsAt s entries
  keeps_shard new xorbs shards here = record {
    xorb_files = λ k is. subst (λ (f : List ℕ). SameEntry s.files (files_at entries) (xorb_path f k)) same (xorbs k (sound.hashes k is));
    shard_files = all_stay (λ k. SameEntry s.files (files_at entries) (shard_path s.folder k)) s.shards sound.shards_hashes
        (λ k is a. subst (λ (f : List ℕ). SameEntry s.files (files_at entries) (shard_path f k)) same (shards k is (λ e. new (subst (λ (x : List ℕ). Among s.shards x) e a))));
    xorb_names = λ k is. inl (subst (λ (f : List ℕ). SameEntry s.files (files_at entries) (xorb_path f k)) same (xorbs k is));
    shard_names = λ k is. hash_cases k h
        (λ e. subst (λ (x : List ℕ). SameEntry s.files (files_at entries) (shard_path s.folder x) ⊎ HasShardAt s entries x) (sym e) here)
        (λ apart. inl (subst (λ (f : List ℕ). SameEntry s.files (files_at entries) (shard_path f k)) same (shards k is apart)));
  }

-- in a folder by another name, where the xorb h, or the shard h, is put
module _ (s : State) (folder h : List ℕ) (tells : Bool) (files : Files) (faults : ℕ) (sound : Sound s) (same : folder ≡ s.folder) (tells_same : tells ≡ s.tells) (later : s.faults ≤ faults) where
  pub stays_xorb : found s.xorbs h ≡ None
      → (s.tells ≡ true → (k : List ℕ) → IsHash k → k ≢ h → SameEntry s.files files (xorb_path folder k))
      → (s.tells ≡ true → (k : List ℕ) → IsHash k → SameEntry s.files files (shard_path folder k))
      → (s.tells ≡ true → (name : List ℕ) → IsForeign folder name → SameEntry s.files files name)
      → (s.tells ≡ true → SameEntry s.files files (xorb_path s.folder h) ⊎ HasXorb files s.folder h) → (s.tells ≡ true → Passes s.files files (KeepsAt s)) → StateStays s tells files faults
  stays_xorb none xorbs shards foreign here passes = record {
    tells_same = tells_same;
    later = later;
    xorb_files = λ told k is. subst (λ (f : List ℕ). SameEntry s.files files (xorb_path f k)) same (xorbs told k (sound.hashes k is) (apart_found s.xorbs h k none is));
    shard_files = λ told. all_stay (λ k. SameEntry s.files files (shard_path s.folder k)) s.shards sound.shards_hashes (λ k is a. subst (λ (f : List ℕ). SameEntry s.files files (shard_path f k)) same (shards told k is));
    xorb_names = λ told k is. hash_cases k h
        (λ e. subst (λ (x : List ℕ). SameEntry s.files files (xorb_path s.folder x) ⊎ HasXorb files s.folder x) (sym e) (here told))
        (λ apart. inl (subst (λ (f : List ℕ). SameEntry s.files files (xorb_path f k)) same (xorbs told k is apart)));
    shard_names = λ told k is. inl (subst (λ (f : List ℕ). SameEntry s.files files (shard_path f k)) same (shards told k is));
    foreign = λ told name is. foreign told name (subst (λ (f : List ℕ). IsForeign f name) (sym same) is);
    passes = passes;
  }

  pub stays_shard : (Among s.shards h → ⊥)
      → (s.tells ≡ true → (k : List ℕ) → IsHash k → SameEntry s.files files (xorb_path folder k))
      → (s.tells ≡ true → (k : List ℕ) → IsHash k → k ≢ h → SameEntry s.files files (shard_path folder k))
      → (s.tells ≡ true → (name : List ℕ) → IsForeign folder name → SameEntry s.files files name)
      → (s.tells ≡ true → SameEntry s.files files (shard_path s.folder h) ⊎ HasWholeShard (changed s tells files faults s.xorbs s.records s.shards s.pending) h) → (s.tells ≡ true → Passes s.files files (KeepsAt s)) → StateStays s tells files faults
  stays_shard new xorbs shards foreign here passes = record {
    tells_same = tells_same;
    later = later;
    xorb_files = λ told k is. subst (λ (f : List ℕ). SameEntry s.files files (xorb_path f k)) same (xorbs told k (sound.hashes k is));
    shard_files = λ told. all_stay (λ k. SameEntry s.files files (shard_path s.folder k)) s.shards sound.shards_hashes
        (λ k is a. subst (λ (f : List ℕ). SameEntry s.files files (shard_path f k)) same (shards told k is (λ e. new (subst (λ (x : List ℕ). Among s.shards x) e a))));
    xorb_names = λ told k is. inl (subst (λ (f : List ℕ). SameEntry s.files files (xorb_path f k)) same (xorbs told k is));
    shard_names = λ told k is. hash_cases k h
        (λ e. subst (λ (x : List ℕ). SameEntry s.files files (shard_path s.folder x) ⊎ HasWholeShard (changed s tells files faults s.xorbs s.records s.shards s.pending) x) (sym e) (here told))
        (λ apart. inl (subst (λ (f : List ℕ). SameEntry s.files files (shard_path f k)) same (shards told k is apart)));
    foreign = λ told name is. foreign told name (subst (λ (f : List ℕ). IsForeign f name) (sym same) is);
    passes = passes;
  }

-- a xorb is listed or it is not
pub found_nowhere : {G : Type 0} (xorbs : Option Leaves) → xorbs ≡ None → IsSome xorbs → G
found_nowhere None none is = absurd (cc is)
found_nowhere (Some m) none is = absurd (cc none)

-- ---- what then stands

module _ (s : State) (tells : Bool) (files : Files) (faults : ℕ) (stays : StateStays s tells files faults) where
  pub keeps_changed : (xorbs : Xorbs) (records added : FileRecords) (shards more : List (List ℕ)) (pending : Held) → ((h : List ℕ) (ms : Leaves) → IsListed s.xorbs h ms → IsListed xorbs h ms)
      → (s.tells ≡ true → (h : List ℕ) → found s.xorbs h ≡ None → IsSome (found xorbs h) → IsDurable files (xorb_path s.folder h))
      → (s.tells ≡ true → AllByRecursion (λ h. IsDurable files (shard_path s.folder h)) more)
      → records ≡ s.records ++ added → shards ≡ s.shards ++ more → Keeps s (changed s tells files faults xorbs records shards pending)
  keeps_changed xorbs records added shards more pending listed durable durable_shards recorded registered = record {
    tells = stays.tells_same;
    folder = refl;
    limits = refl;
    opened = refl;
    later = stays.later;
    xorbs = listed;
    records = (added, recorded);
    shards = (more, registered);
    xorb_files = stays.xorb_files;
    shard_files = stays.shard_files;
    listed_files = durable;
    registered_files = durable_shards;
    xorb_names = stays.xorb_names;
    shard_names = λ told h is. shard_name (stays.shard_names told h is);
    foreign = stays.foreign;
    passes = stays.passes;
  }
    where
      some : (x : List ℕ) (o : Option Leaves) → found s.xorbs x ≡ o → IsSome o → IsSome (found xorbs x)
      some x None e bad = absurd (cc bad)
      some x (Some m) e ok = is_some_found xorbs x m (listed x m e)

      shard_name : {h : List ℕ} → SameEntry s.files files (shard_path s.folder h) ⊎ HasWholeShard (changed s tells files faults s.xorbs s.records s.shards s.pending) h
          → SameEntry s.files files (shard_path s.folder h) ⊎ HasWholeShard (changed s tells files faults xorbs records shards pending) h
      shard_name (inl e) = inl e
      shard_name (inr w) = inr (record { shard = w.shard; listed = λ x of. some x (found s.xorbs x) refl (w.listed x of) })

  -- where only the disk has changed
  pub keeps_stays : Keeps s (changed s tells files faults s.xorbs s.records s.shards s.pending)
  keeps_stays = keeps_changed s.xorbs s.records [] s.shards [] s.pending (λ h ms l. l) (λ told h none is. found_nowhere (found s.xorbs h) none is) (λ told. tt) (sym (append-nil s.records)) (sym (append-nil s.shards))

  -- the bytes of a listed xorb
  pub xorb_same : s.tells ≡ true → (h : List ℕ) → IsSome (found s.xorbs h) → bytes_at files (xorb_path s.folder h) ≡ bytes_at s.files (xorb_path s.folder h)
  xorb_same told h is = same_bytes_at s.files files (xorb_path s.folder h) (stays.xorb_files told h is)

  module _ (sound : Sound s) where
    pub backed_still : s.tells ≡ true → (h : List ℕ) (ms : Leaves) → IsListed s.xorbs h ms → IsBacked files s.folder h ms
    backed_still told h ms listed = backed_same s.files files s.folder h ms (xorb_same told h (is_some_found s.xorbs h ms listed)) (sound.backed told h ms listed)

    -- what a registered shard keeps
    pub kept_still : (shards : List (List ℕ)) → ((h : List ℕ) → Among s.shards h → Among shards h) → (f : MDBFileInfo) → s.tells ≡ true
        → IsKept s.files s.folder s.opened s.shards f → IsKept files s.folder s.opened shards f
    kept_still shards more f told k =
        let l = k.lists in
        let here : Among s.shards l.shard.hash = to_among s.shards l.shard.hash k.registered in record {
          lists = record {
            shard = l.shard;
            there = record {
              named = l.there.named;
              there = same_file_at s.files files (shard_path s.folder l.shard.hash) (all_among (λ h. SameEntry s.files files (shard_path s.folder h)) s.shards l.shard.hash (stays.shard_files told) here) ∙ l.there.there;
            };
            valid = l.valid;
            parts = l.parts;
            read = l.read;
            among = l.among;
          };
          registered = from_among shards l.shard.hash (more l.shard.hash here);
        }

    -- What was kept is, where at least as much is pending.
    pub kept_or : (pending : Held) (shards : List (List ℕ)) → ((h : List ℕ) → Among s.shards h → Among shards h)
        → (f : MDBFileInfo) → (IsAmong s.pending.files f → IsAmong pending.files f)
        → IsAmong s.pending.files f ⊎ (s.tells ≡ true → IsKept s.files s.folder s.opened s.shards f)
        → IsAmong pending.files f ⊎ (tells ≡ true → IsKept files s.folder s.opened shards f)
    kept_or pending shards more f still (inl p) = inl (still p)
    kept_or pending shards more f still (inr k) =
        inr (λ told. let tells_before : s.tells ≡ true = sym stays.tells_same ∙ told in kept_still shards more f tells_before (k tells_before))

    -- the folder is admitted, where no shard's file has changed
    pub admitted_stays : (xorbs : Xorbs) → ((h : List ℕ) → IsSome (found s.xorbs h) → IsSome (found xorbs h))
        → (s.tells ≡ true → (h : List ℕ) → IsHash h → SameEntry s.files files (shard_path s.folder h)) → s.tells ≡ true → IsAdmitted files s.folder s.opened xorbs s.shards
    admitted_stays xorbs more shards told =
        admitted_still s.files files s.folder s.opened s.xorbs xorbs s.shards more (λ h is. xorb_same told h is) (sound.admitted told)
        (λ h is. same_file_at s.files files (shard_path s.folder h) (shards told h is))

    pub sound_stays : (s.tells ≡ true → IsAdmitted files s.folder s.opened s.xorbs s.shards) → Sound (changed s tells files faults s.xorbs s.records s.shards s.pending)
    sound_stays admitted = record {
      backed = λ told h ms l. backed_still (sym stays.tells_same ∙ told) h ms l;
      recorded = sound.recorded;
      kept = λ h f e. kept_or s.pending s.shards (λ k a. a) f (λ p. p) (sound.kept h f e);
      held = sound.held;
      blocks = sound.blocks;
      pending_files = sound.pending_files;
      admitted = λ told. admitted (sym stays.tells_same ∙ told);
      hashes = sound.hashes;
      shards_hashes = sound.shards_hashes;
      xorbs_differ = sound.xorbs_differ;
      records_differ = sound.records_differ;
    }

pub keeps_at : (s t n : State) → s ≡ t → Keeps s n → Keeps t n
keeps_at s t n e k = subst (λ (x : State). Keeps x n) e k

-- ---- the same of lists by other names

module _ (s : State) (tells : Bool) (files : Files) (faults : ℕ) (stays : StateStays s tells files faults) (sound : Sound s) {x : Xorbs} {r : FileRecords} {h : List (List ℕ)} {p : Held} where
  pub sound_refused : (s.tells ≡ true → IsAdmitted files s.folder s.opened s.xorbs s.shards) → x ≡ s.xorbs → r ≡ s.records → h ≡ s.shards → p ≡ s.pending → Sound (changed s tells files faults x r h p)
  sound_refused admitted ex er eh ep = subst Sound (same_change s tells files faults ex er eh ep) (sound_stays s tells files faults stays sound admitted)

  pub keeps_refused : (t : State) → s ≡ t → x ≡ s.xorbs → r ≡ s.records → h ≡ s.shards → p ≡ s.pending → Keeps t (changed s tells files faults x r h p)
  keeps_refused t e ex er eh ep = keeps_at s t (changed s tells files faults x r h p) e (subst (λ (n : State). Keeps s n) (same_change s tells files faults ex er eh ep) (keeps_stays s tells files faults stays))

pub keeps_unchanged : (s t : State) → Sound s → s ≡ t → {x : Xorbs} {r : FileRecords} {h : List (List ℕ)} {p : Held} → x ≡ s.xorbs → r ≡ s.records → h ≡ s.shards → p ≡ s.pending
    → Keeps t (changed s s.tells s.files s.faults x r h p)
keeps_unchanged s t sound e ex er eh ep = keeps_refused s s.tells s.files s.faults (stays_same s) sound t e ex er eh ep
