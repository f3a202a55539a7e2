-- Steps of several callers, in any order.
use Rattle.std.specs.Prelude.{◌≡◌, ◌≢◌, ◌⊎◌, ℕ, Bool, true, false, List, [], ◌∷◌, ◌++◌, Any, Some, IsSome}
use Rattle.std.specs.List.{AllByRecursion}
use Rattle.xet_io.specs.Disk.{Files, bytes_at}
use Rattle.xet_hash.specs.Merkle.{chunk_hash, xorb_hash}
use Rattle.xet_shard_format.specs.Encoding.{Fits, IsShard, full_shard_bytes}
use Rattle.xet_shard_format.specs.Records.{file_record_hash}
use Rattle.xet_shard_format.specs.declared.record.MDBFileInfo.{MDBFileInfo}
use Rattle.xet_shard_file.specs.Names.{shard_path}
use Rattle.xet_folder.specs.Names.{xorb_path}
use Rattle.xet_folder.specs.Stored.{IsBacked}
use Rattle.xet_folder.specs.Xorbs.{found}
use Rattle.xet_history.specs.Core.{Core, has_pending, is_new, pending_hash, pending_shard}
use Rattle.xet_history.specs.Found.{found_run}
use Rattle.xet_history.specs.History.{after, reply_of}
use Rattle.xet_history.specs.Sound.{IsSound, Rebuilds}
use Rattle.xet_history.specs.declared.entry.Entry.{Entry}
use Rattle.xet_history.specs.declared.entry.Entry.TheVariants.{Query, Register, Complete, Flush}

-- A step that a caller makes: a query, the registration of a xorb with the chunks that did not fit into it, the recording
-- of a file, or a flush.
pub data Step : Type 0 where
  query : (hashes : List (List ℕ)) → Step
  register : (leaves next : List (List ℕ × ℕ)) → Step
  complete : (file : MDBFileInfo) → Step
  flush : Step

-- A step of a caller, and the files of the disk after it.
pub record Move : Type 0 where
  pub pass : ℕ
  pub step : Step
  pub files : Files

-- the entry of a step in a core, with its reply there
abbrev pub entry_of : ℕ → Core → Step → Entry
entry_of pass c (query hashes) = Query pass hashes (reply_of (found_run c hashes))
entry_of pass c (register leaves next) = Register pass leaves next (is_new c.xorbs (xorb_hash leaves))
entry_of pass c (complete file) = Complete pass file (is_new c.records (file_record_hash file))
entry_of pass c flush = Flush pass (pending_hash c)

abbrev pub entries_of : Core → List Move → List Entry
entries_of c [] = []
entries_of c (m ∷ ms) = let e = entry_of m.pass c m.step in e ∷ entries_of (after c e) ms

-- ---- what a step does to the files

abbrev pub SameBytes : Files → Files → List ℕ → Type 0
SameBytes old new name = bytes_at new name ≡ bytes_at old name

-- no file of a listed xorb has changed
abbrev pub KeepsXorbs : Files → Files → List ℕ → Core → Type 0
KeepsXorbs old new folder c = (h : List ℕ) → IsSome (found c.xorbs h) → SameBytes old new (xorb_path folder h)

-- no file of a registered shard has changed
abbrev pub KeepsShards : Files → Files → List ℕ → Core → Type 0
KeepsShards old new folder c = AllByRecursion (λ s. SameBytes old new (shard_path folder s.hash)) c.shards

-- The xorb of a chunk list is stored, and nothing that the core names has changed.
pub record BringsXorb (folder : List ℕ) (c : Core) (leaves : List (List ℕ × ℕ)) (old new : Files) : Type 0 where
  pub stored : IsBacked new folder (xorb_hash leaves) leaves
  pub xorbs : KeepsXorbs old new folder c
  pub shards : KeepsShards old new folder c

-- Something was pending, and its shard, which is well formed, is stored. Nothing else that the core names has changed.
pub record BringsShard (folder : List ℕ) (c : Core) (old new : Files) : Type 0 where
  pub some : has_pending c ≡ true
  pub form : IsShard (pending_shard c)
  pub fits : Fits (pending_shard c)
  pub stored : bytes_at new (shard_path folder (pending_hash c)) ≡ Some (full_shard_bytes (pending_shard c))
  pub xorbs : KeepsXorbs old new folder c
  pub shards : AllByRecursion (λ s. s.hash ≢ pending_hash c → SameBytes old new (shard_path folder s.hash)) c.shards

-- the registration of a new xorb brings its file, and that of a listed one nothing
abbrev pub BringsIfNew : Bool → List ℕ → Core → List (List ℕ × ℕ) → Files → Files → Type 0
BringsIfNew true folder c leaves old new = BringsXorb folder c leaves old new
BringsIfNew false folder c leaves old new = new ≡ old

-- The registration of a new xorb brings its file, and a flush that of its shard. Other steps change no file.
abbrev pub Brings : List ℕ → Core → Step → Files → Files → Type 0
Brings folder c (query hashes) old new = new ≡ old
Brings folder c (register leaves next) old new = BringsIfNew (is_new c.xorbs (xorb_hash leaves)) folder c leaves old new
Brings folder c (complete file) old new = new ≡ old
Brings folder c flush old new = BringsShard folder c old new

-- A caller may record a file if its record rebuilds it over the xorbs of a core that the caller has seen.
abbrev pub IsAllowed : List Core → Step → Type 0
IsAllowed seen (query hashes) = Unit {0}
IsAllowed seen (register leaves next) = Unit {0}
IsAllowed seen (complete file) = Any (λ c. Rebuilds c.xorbs file) seen
IsAllowed seen flush = Unit {0}

-- The moves are made one after another from a core on, over a folder. Each is allowed by some core up to it.
abbrev pub Run : List ℕ → List Core → Core → Files → List Move → Type 0
Run folder before c files [] = Unit {0}
Run folder before c files (m ∷ ms) =
    IsAllowed (before ++ c ∷ []) m.step × Brings folder c m.step files m.files × Run folder (before ++ c ∷ []) (after c (entry_of m.pass c m.step)) m.files ms

-- ---- what is believed of digests

abbrev pub is_flush : Step → Bool
is_flush (query hashes) = false
is_flush (register leaves next) = false
is_flush (complete file) = false
is_flush flush = true

-- the bytes of a shard that one of the moves writes
abbrev pub IsWritten : Core → List Move → List ℕ → Type 0
IsWritten c [] bytes = ⊥
IsWritten c (m ∷ ms) bytes = ((is_flush m.step ≡ true) × (bytes ≡ full_shard_bytes (pending_shard c))) ⊎ IsWritten (after c (entry_of m.pass c m.step)) ms bytes

-- the bytes of a shard that is registered at the start, or that one of the moves writes
abbrev pub IsMet : Files → List ℕ → Core → List Move → List ℕ → Type 0
IsMet files folder c moves bytes = Any (λ s. bytes_at files (shard_path folder s.hash) ≡ Some bytes) c.shards ⊎ IsWritten c moves bytes

-- Among the bytes of these shards, equal digests have equal contents.
abbrev pub AreApart : Files → List ℕ → Core → List Move → Type 0
AreApart files folder c moves =
    (x y : List ℕ) → IsMet files folder c moves x → IsMet files folder c moves y → chunk_hash x ≡ chunk_hash y → x ≡ y

-- ---- what is so at every point

-- the core is sound before each of the moves and after the last
abbrev pub StaysSound : List ℕ → Core → Files → List Move → Type 0
StaysSound folder c files [] = IsSound files folder c
StaysSound folder c files (m ∷ ms) = IsSound files folder c × StaysSound folder (after c (entry_of m.pass c m.step)) m.files ms
