-- No collisions among the data seen: the premise of clauses about contents.
use Rattle.std.specs.Prelude.{◌≡◌, ◌≢◌, ◌⊎◌, ℕ, ◌<◌, false, List, [], ◌∷◌, length, Some, IsSome}
use Rattle.xet_io.specs.Disk.{Files}
use Rattle.xet_hash.specs.Hash.{sentinel, zero_hash}
use Rattle.xet_hash.specs.Merkle.{chunk_hash, xorb_hash, file_hash, leaves_of}
use Rattle.xet_shard_format.specs.declared.record.MDBFileInfo.{MDBFileInfo}
use Rattle.xet_folder.specs.Checks.{OfBytes}
use Rattle.xet_folder.specs.Listed.{Lists}
use Rattle.xet_folder.specs.Plan.{Resolves}
use Rattle.xet_shard_file.specs.Shards.{IsThere, ShardFile, is_expired}
use Rattle.xet_folder.specs.Stored.{IsBacked, IsStored}
use Rattle.xet_folder.specs.Xorbs.{IsListed, found}
use Rattle.xet_store_disk.specs.Store.{State}

abbrev pub Among : {X : Type 0} → List X → X → Type 0
Among [] x = ⊥
Among (y ∷ ys) x = (y ≡ x) ⊎ Among ys x

-- Among what is seen (Met), equal digests have equal contents, and no digest is zero or the sentinel. This is
-- believed of BLAKE3 for all data that is ever seen, and cannot be proved.
pub record Apart {X : Type 0} (digest : X → List ℕ) (Met : X → Type 0) : Type 0 where
  pub same : (x y : X) → Met x → Met y → digest x ≡ digest y → x ≡ y
  pub not_zero : (x : X) → Met x → digest x ≢ zero_hash
  pub not_sentinel : (x : X) → Met x → digest x ≢ sentinel

-- a listed xorb is stored with these chunks
abbrev pub HasChunks : State → List ℕ → List (List ℕ) → Type 0
HasChunks s h chunks = IsSome (found s.xorbs h) × IsStored s.files s.folder h chunks

-- a chunk of a listed xorb, as it is stored, or of one of these files
abbrev pub MetChunk : State → List (List (List ℕ)) → List ℕ → Type 0
MetChunk s files b =
    ((h : List ℕ) × (c : List (List ℕ)) × HasChunks s h c × Among c b) ⊎ ((f : List (List ℕ)) × Among files f × Among f b)

-- an unexpired shard of a folder names the xorb h, at a time
abbrev pub IsNamed : Files → List ℕ → ℕ → List ℕ → Type 0
IsNamed disk folder now h = (shard : ShardFile) × IsThere disk folder shard × (is_expired now shard.file.bytes ≡ false) × OfBytes shard.file.bytes h

-- A chunk of a xorb that such a shard names, as it is stored, or of one of these files. What else is in the folder is not
-- seen.
abbrev pub MetStored : Files → List ℕ → ℕ → List (List (List ℕ)) → List ℕ → Type 0
MetStored disk folder now files b =
    ((h : List ℕ) × (c : List (List ℕ)) × IsNamed disk folder now h × IsStored disk folder h c × Among c b) ⊎ ((f : List (List ℕ)) × Among files f × Among f b)

-- the chunk list, as (hash, length) pairs, of a listed xorb
abbrev pub MetXorb : State → List (List ℕ × ℕ) → Type 0
MetXorb s leaves = (h : List ℕ) × IsListed s.xorbs h leaves

-- the chunk list of a recorded file, or of one of these files that is not empty
abbrev pub MetFile : State → List (List (List ℕ)) → List (List ℕ × ℕ) → Type 0
MetFile s files leaves =
    ((h : List ℕ) × (f : MDBFileInfo) × (found s.records h ≡ Some f) × Resolves (IsListed s.xorbs) (λ m. m.1) f.segments leaves)
    ⊎ ((f : List (List ℕ)) × Among files f × (0 < length f) × (leaves ≡ leaves_of f))

-- No collisions among the data seen in a session and in these files, each given as its chunks.
pub record Separate (s : State) (files : List (List (List ℕ))) : Type 0 where
  pub chunks : Apart chunk_hash (MetChunk s files)
  pub xorbs : Apart xorb_hash (MetXorb s)
  pub lists : Apart file_hash (MetFile s files)

-- the chunk list, not empty, of a file that a folder lists at a time, or of one of these files
abbrev pub MetListed : Files → List ℕ → ℕ → List (List (List ℕ)) → List (List ℕ × ℕ) → Type 0
MetListed disk folder now files leaves =
    ((f : MDBFileInfo) × Lists disk folder now f × Resolves (IsBacked disk folder) (λ m. m.1) f.segments leaves × (0 < length leaves))
    ⊎ ((f : List (List ℕ)) × Among files f × (0 < length f) × (leaves ≡ leaves_of f))

-- the chunk list of a xorb that an unexpired shard of a folder names, at a time
abbrev pub MetBacked : Files → List ℕ → ℕ → List (List ℕ × ℕ) → Type 0
MetBacked disk folder now leaves = (h : List ℕ) × IsNamed disk folder now h × IsBacked disk folder h leaves

-- No collisions among the data seen in a folder at a time and in these files, each given as its chunks.
pub record SeparateIn (disk : Files) (folder : List ℕ) (now : ℕ) (files : List (List (List ℕ))) : Type 0 where
  pub chunks : Apart chunk_hash (MetStored disk folder now files)
  pub xorbs : Apart xorb_hash (MetBacked disk folder now)
  pub lists : Apart file_hash (MetListed disk folder now files)
