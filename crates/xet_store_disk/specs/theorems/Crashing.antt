-- A folder after a crash is valid, and lists what registered shards listed.
use Rattle.std.proofs.Common.{◌≡◌, ◌⊎◌, inl, inr, ◌∙◌, ℕ, ◌≤◌, ◌<◌, ◌^◌, Bool, true, false, List, [], ◌∷◌, Option, Some, None, IsSome, IfSome, Ok, option_map, refl, sym, ap, subst}
use Rattle.std.proofs.lemmas.List.Elements.{recursion_from_All}
use Rattle.std.specs.FinMap.{get}
use Rattle.std.specs.List.{All, AllByRecursion, Any, IsAmong}
use Rattle.xet_io.specs.Entries.{Entries}
use Rattle.xet_io.specs.Disk.{Entry, File, Files, bytes_at, file_at, file_of}
use Rattle.xet_io.specs.Images.{IsLeft, MayBeLeft, Survives}
use Rattle.xet_io.specs.theorems.Passing.{left_has}
use Rattle.xet_shard_format.specs.declared.record.MDBFileInfo.{MDBFileInfo}
use Rattle.xet_shard_file.specs.Names.{IsHash, shard_path}
use Rattle.xet_shard_file.specs.Shards.{IsThere, Registers, ShardFile, is_expired}
use Rattle.xet_shard_format.specs.Reading.{all_of}
use Rattle.xet_folder.specs.Admission.{ShardHolds, shard_hash}
use Rattle.xet_folder.specs.Checks.{OfBytes}
use Rattle.xet_folder.specs.Listed.{Lists}
use Rattle.xet_folder.specs.Names.{xorb_path}
use Rattle.xet_folder.specs.Puts.{IsSettled}
use Rattle.xet_folder.specs.Xorbs.{found}
use Rattle.xet_store_disk.specs.Cleaning.{HasShardAt, HasXorb, IsDurable, Keeps, KeepsAt, SameEntry, files_at}
use Rattle.xet_store_disk.specs.Crash.{CrashSafe, IsSafe}
use Rattle.xet_store_disk.specs.Flushing.{IsFlushed}
use Rattle.xet_store_disk.specs.Store.{Sound, State}
use Rattle.xet_store_disk.specs.theorems.Admitting.{holds_same, one_of}
use Rattle.xet_store_disk.specs.theorems.Rows.{to_among}
use Rattle.xet_store_disk.specs.theorems.Sessions.{valid_before}
use Rattle.xet_store_disk.specs.theorems.Staying.{all_among, same_bytes_at, same_file_at}

durable_some : (o : Option Entry) → option_map (λ (e : Entry). e.durable) o ≡ Some true → IfSome o (λ e. e.durable ≡ true)
durable_some None is = tt
durable_some (Some e) is = cc is

-- a name that is durable, or absent
survived : (o : Option Entry) (b : Option (List ℕ)) → IfSome o (λ e. e.durable ≡ true) → Survives o b → b ≡ option_map (λ (f : File). f.bytes) (file_of o)
survived None b durable survives = survives
survived (Some e) b durable survives = survives durable

-- the bytes of a file are those that are read
some_bytes : (o : Option File) (bytes : List ℕ) → option_map (λ (f : File). f.bytes) o ≡ Some bytes → (f : File) × (o ≡ Some f) × (f.bytes ≡ bytes)
some_bytes None bytes is = absurd (cc is)
some_bytes (Some f) bytes is = (f, refl, cc is)

-- what a shard's bytes say does not depend on the time of its file
holds_bytes : (files : Files) (folder h : List ℕ) (f g : File) → f.bytes ≡ g.bytes → ShardHolds files folder (record { hash = h; file = f }) → ShardHolds files folder (record { hash = h; file = g })
holds_bytes files folder h f g same s = record {
  parts = s.parts;
  read = subst (λ (b : List ℕ). all_of b ≡ Ok s.parts) same s.read;
  bytes = subst (λ (b : List ℕ). All (λ x. x < 256) b) same s.bytes;
  named = subst (λ (b : List ℕ). shard_hash b ≡ h) same s.named;
  blocks = s.blocks;
  files_hold = s.files_hold;
}

-- ---- the folder at a moment

module _ (m : Entries) (folder : List ℕ) (left : Files) (is_left : IsLeft m left) where
  durable_left : (name : List ℕ) → IfSome (get m name) (λ e. e.durable ≡ true) → bytes_at left name ≡ bytes_at (files_at m) name
  durable_left name durable = survived (get m name) (bytes_at left name) durable (is_left name)

  -- what is listed at the moment is listed after the crash
  pub lists_left : IsSettled m folder → (time : ℕ) (f : MDBFileInfo) → Lists (files_at m) folder time f → Lists left folder time f
  lists_left settled time f l =
      let path = shard_path folder l.shard.hash in
      let bytes : bytes_at left path ≡ Some l.shard.file.bytes = durable_left path (settled.shards l.shard.hash l.there.named) ∙ ap (option_map (λ (f : File). f.bytes)) l.there.there in
      let there = some_bytes (file_at left path) l.shard.file.bytes bytes in
      record {
        shard = record { hash = l.shard.hash; file = there.0 };
        there = record { named = l.there.named; there = there.1 };
        valid = ap (is_expired time) there.2 ∙ l.valid;
        parts = l.parts;
        read = ap all_of there.2 ∙ l.read;
        among = l.among;
      }

module _ (s : State) (m : Entries) (sound : Sound s) (told : s.tells ≡ true) (keeps : KeepsAt s m) (settled : IsSettled s.files.entries s.folder) where
  -- each name of the folder is durable at each moment
  pub settled_at : IsSettled m s.folder
  settled_at = record {
    xorbs = λ h is. xorb h is (keeps.xorb_names h is);
    shards = λ h is. shard h is (keeps.shard_names h is);
  }
    where
      xorb : (h : List ℕ) → IsHash h → SameEntry s.files (files_at m) (xorb_path s.folder h) ⊎ HasXorb (files_at m) s.folder h → IfSome (get m (xorb_path s.folder h)) (λ e. e.durable ≡ true)
      xorb h is (inl same) = subst (λ (o : Option Entry). IfSome o (λ e. e.durable ≡ true)) (sym same) (settled.xorbs h is)
      xorb h is (inr x) = durable_some (get m (xorb_path s.folder h)) x.durable

      shard : (h : List ℕ) → IsHash h → SameEntry s.files (files_at m) (shard_path s.folder h) ⊎ HasShardAt s m h → IfSome (get m (shard_path s.folder h)) (λ e. e.durable ≡ true)
      shard h is (inl same) = subst (λ (o : Option Entry). IfSome o (λ e. e.durable ≡ true)) (sym same) (settled.shards h is)
      shard h is (inr x) = durable_some (get m (shard_path s.folder h)) x.shard.durable

  module _ (left : Files) (is_left : IsLeft m left) where
    -- a listed xorb
    xorb_left : (h : List ℕ) → IsSome (found s.xorbs h) → bytes_at left (xorb_path s.folder h) ≡ bytes_at (files_at m) (xorb_path s.folder h)
    xorb_left h is = durable_left m s.folder left is_left (xorb_path s.folder h) (settled_at.xorbs h (sound.hashes h is))

    -- a shard that is there at a moment
    holds_there : (time : ℕ) → s.opened ≤ time → (h : List ℕ) → IsHash h → (f : File) → file_at (files_at m) (shard_path s.folder h) ≡ Some f → is_expired time f.bytes ≡ false
        → SameEntry s.files (files_at m) (shard_path s.folder h) ⊎ HasShardAt s m h → ShardHolds left s.folder (record { hash = h; file = f })
    holds_there time since h is f there valid (inl same) =
        let here : IsThere s.files s.folder (record { hash = h; file = f }) = record { named = is; there = sym (same_file_at s.files (files_at m) (shard_path s.folder h) same) ∙ there } in
        let a = sound.admitted told in
        let among = a.admits.registers.all (record { hash = h; file = f }) here (valid_before f.bytes s.opened time since valid) in
        holds_same s.files left s.folder (record { hash = h; file = f })
        (λ x of.
        let listed = a.named x (any_of a.shards x among of) in
        xorb_left x listed ∙ same_bytes_at s.files (files_at m) (xorb_path s.folder x) (keeps.xorb_files x listed))
        (one_of (ShardHolds s.files s.folder) a.shards (record { hash = h; file = f }) a.admits.hold (to_among a.shards (record { hash = h; file = f }) among))
      where
        any_of : (shards : List ShardFile) (x : List ℕ) → IsAmong shards (record { hash = h; file = f }) → OfBytes f.bytes x → Any (λ t. OfBytes t.file.bytes x) shards
        any_of shards x among of = (among.0, record { hash = h; file = f }, among.1.0, sym among.1.1, of)
    holds_there time since h is f there valid (inr w) =
        let same : f ≡ w.shard.file = let one : ◌≡◌ {A = Option File} (Some f) (Some w.shard.file) = sym there ∙ w.shard.there in cc one in
        holds_bytes left s.folder h w.shard.file f (ap (λ (g : File). g.bytes) (sym same))
        (holds_same (files_at m) left s.folder (record { hash = h; file = w.shard.file }) (λ x of. by x (w.named x of)) w.shard.holds)
      where
        by : (x : List ℕ) → IsSome (found s.xorbs x) ⊎ IsDurable (files_at m) (xorb_path s.folder x) → bytes_at left (xorb_path s.folder x) ≡ bytes_at (files_at m) (xorb_path s.folder x)
        by x (inl listed) = xorb_left x listed
        by x (inr durable) = durable_left m s.folder left is_left (xorb_path s.folder x) (durable_some (get m (xorb_path s.folder x)) durable)

    holds_left : (time : ℕ) → s.opened ≤ time → (t : ShardFile) → IsThere left s.folder t → is_expired time t.file.bytes ≡ false → ShardHolds left s.folder t
    holds_left time since t there valid =
        let path = shard_path s.folder t.hash in
        let bytes : bytes_at (files_at m) path ≡ Some t.file.bytes = sym (durable_left m s.folder left is_left path (settled_at.shards t.hash there.named)) ∙ ap (option_map (λ (f : File). f.bytes)) there.there in
        let f = some_bytes (file_at (files_at m) path) t.file.bytes bytes in
        holds_bytes left s.folder t.hash f.0 t.file f.2
        (holds_there time since t.hash there.named f.0 f.1 (ap (is_expired time) f.2 ∙ valid) (keeps.shard_names t.hash there.named))

    hold_all : (time : ℕ) → s.opened ≤ time → (ts : List ShardFile) → AllByRecursion (IsThere left s.folder) ts → AllByRecursion (λ t. is_expired time t.file.bytes ≡ false) ts → AllByRecursion (ShardHolds left s.folder) ts
    hold_all time since [] there valid = tt
    hold_all time since (t ∷ ts) there valid = (holds_left time since t there.0 valid.0, hold_all time since ts there.1 valid.1)

    pub safe_at : IsSafe s left
    safe_at = record {
      admits = λ time since shards registers. record {
        registers = registers;
        hold = hold_all time since shards (recursion_from_All (IsThere left s.folder) shards registers.there) (recursion_from_All (λ (t : ShardFile). is_expired time t.file.bytes ≡ false) shards registers.valid);
      };
      lists = λ time f l among.
          let same = all_among (λ h. SameEntry s.files (files_at m) (shard_path s.folder h)) s.shards l.shard.hash keeps.shard_files (to_among s.shards l.shard.hash among) in
          lists_left m s.folder left is_left settled_at time f (record {
            shard = l.shard;
            there = record { named = l.there.named; there = same_file_at s.files (files_at m) (shard_path s.folder l.shard.hash) same ∙ l.there.there };
            valid = l.valid;
            parts = l.parts;
            read = l.read;
            among = l.among;
          });
    }

-- ---- over calls

pub crash_safe : (old new : State) → Sound old → Keeps old new → CrashSafe old new
crash_safe old new sound keeps = λ told settled.
    let passes = keeps.passes told in record {
      safe = λ left may. let at = left_has (KeepsAt old) old.files new.files left passes may in safe_at old at.0 sound told at.1 settled left at.2;
      settled = subst (λ (f : List ℕ). IsSettled new.files.entries f) (sym keeps.folder) (settled_at old new.files.entries sound told passes.now settled);
    }

-- What was pending at a flush is listed after each crash from then on.
pub acknowledged : (old new : State) (h : List ℕ) → IsFlushed old h new → old.tells ≡ true → new.folder ≡ old.folder → IsSettled new.files.entries new.folder
    → (left : Files) → IsLeft new.files.entries left → (f : MDBFileInfo) → IsAmong old.pending.files f → (time : ℕ) → time < 2 ^ 64 → Lists left new.folder time f
acknowledged old new h flushed told same settled left is_left f among time below =
    let l = flushed.lasts told f among time below in
    lists_left new.files.entries new.folder left is_left settled time f (record {
      shard = l.shard;
      there = record { named = l.there.named; there = l.there.there };
      valid = l.valid;
      parts = l.parts;
      read = l.read;
      among = l.among;
    })
