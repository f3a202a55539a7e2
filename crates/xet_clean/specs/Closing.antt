-- The aggregate is registered, and its files are recorded.
use Rattle.std.specs.Prelude.{◌≡◌, ◌≢◌, ◌⊎◌, ◌≤◌, ℕ, Bool, true, false, List, [], ◌∷◌, length, map, take}
use Rattle.std.specs.List.{AllByRecursion, IsAmong}
use Rattle.xet_aggregate.specs.Aggregate.{Aggregate, Pending, empty, filled, fits, merged}
use Rattle.xet_choices.specs.Calls.{Call}
use Rattle.xet_choices.specs.Calls.Call.{Registered}
use Rattle.xet_dedup_queries.specs.Counting.{HasNext}
use Rattle.xet_hash.specs.Merkle.{xorb_hash}
use Rattle.xet_hash.specs.declared.error.StoreError.{StoreError}
use Rattle.xet_history.specs.declared.entry.Entry.{Entry}
use Rattle.xet_shard_format.specs.Records.{IsFile}
use Rattle.xet_shard_format.specs.declared.record.MDBFileInfo.{MDBFileInfo}
use Rattle.xet_xorb_chunk.specs.Chunks.{chunk_leaf}
use Rattle.xet_store.specs.Interface.{IsErrorSince}
use Rattle.xet_store.specs.Holders.{Follows, Holder, calls_in}
use Rattle.xet_clean.specs.Cleaning.{files_in}
use Rattle.xet_store.specs.Stepping.{SawComplete, SawOther, SawRegister}

-- each waiting record has the form of a file
abbrev pub HaveForm : List Pending → Type 0
HaveForm files = AllByRecursion (λ p. IsFile p.0) files

-- These files were recorded in turn.
abbrev pub Completes : List MDBFileInfo → Holder → Holder → Type 0
Completes [] old new = new ≡ old
Completes (f ∷ fs) old new = (mid : Holder) × (added : Bool) × SawComplete f old mid added × Completes fs mid new

-- Why these files were not recorded: a step failed, or memory is out; or one of them was rejected, whose plan does not resolve
-- to chunks that give its hashes.
abbrev pub IsClosingError : List MDBFileInfo → Holder → Holder → StoreError → Type 0
IsClosingError files old new e = ((file : MDBFileInfo) × IsAmong files file × (mid : Holder) × Follows old mid × SawOther file mid new e) ⊎ IsErrorSince old new e

-- the records of an aggregate's files, with the hash of its xorb in their open segments
abbrev pub filled_files : Aggregate → List MDBFileInfo
filled_files a = map (λ p. filled (xorb_hash (map chunk_leaf a.chunks)) p.0) a.files

-- The xorb of the chunks was registered, unless there are none.
abbrev pub RegistersChunks : Aggregate → List (List ℕ × ℕ) → Holder → Holder → Type 0
RegistersChunks a next old new = ((a.chunks ≡ []) × (new ≡ old)) ⊎ ((added : Bool) × (a.chunks ≢ []) × SawRegister (map chunk_leaf a.chunks) next old new added)

-- Then the files were recorded, with its hash in their open segments.
pub record Closes (a : Aggregate) (next : List (List ℕ × ℕ)) (old new : Holder) : Type 0 where
  pub mid : Holder
  pub registered : RegistersChunks a next old mid
  pub completed : Completes (filled_files a) mid new

-- the records of files that these own entries made, in order
abbrev pub recorded_in : List (ℕ × Entry) → List MDBFileInfo
recorded_in own = files_in (map (λ p. p.1) own)

-- Its own entries that were added record these files, in order, and no others.
pub record Records (files : List MDBFileInfo) (old new : Holder) : Type 0 where
  pub follows : Follows old new
  pub are : recorded_in follows.own ≡ files

-- They record the first of these files, in order, and no others; and the queries and registrations are such.
abbrev pub RecordsFirst : (List Call → Type 0) → List MDBFileInfo → Holder → Holder → Type 0
RecordsFirst Are files old new = (count : ℕ) × (r : Records (take count files) old new) × Are (calls_in r.follows.own)

-- any queries and registrations
abbrev pub AnyCalls : List Call → Type 0
AnyCalls calls = Unit {0}

-- There are none.
abbrev pub NoCalls : List Call → Type 0
NoCalls calls = calls ≡ []

-- No xorb was registered, or that of the chunks, which are not empty.
abbrev pub RegistersAtMost : Aggregate → List (List ℕ × ℕ) → List Call → Type 0
RegistersAtMost a next calls = (calls ≡ []) ⊎ ((a.chunks ≢ []) × (calls ≡ Registered (map chunk_leaf a.chunks) next ∷ []))

-- The same, with further chunks.
abbrev pub RegistersFull : Aggregate → List (List ℕ × ℕ) → List Call → Type 0
RegistersFull a next calls = RegistersAtMost a next calls × AllByRecursion HasNext calls

-- Why the aggregate was not closed: a step failed, or memory is out; or its xorb was registered, and one of its files was
-- rejected. The first of its files were recorded, and the queries and registrations are such.
abbrev pub IsUnclosed : (List Call → Type 0) → Aggregate → List (List ℕ × ℕ) → Holder → Holder → StoreError → Type 0
IsUnclosed Are a next old new e =
    RecordsFirst Are (filled_files a) old new
    × (((mid : Holder) × RegistersChunks a next old mid × IsClosingError (filled_files a) mid new e) ⊎ IsErrorSince old new e)

-- The chunks and files of `rest` joined the aggregate; if they did not fit, the aggregate was closed first, and they are in a
-- new one.
abbrev pub Joins : Holder → Holder → Aggregate → Aggregate → Aggregate → Type 0
Joins old new a rest joined =
    ((fits old.limits a rest ≡ true) × (new ≡ old) × (joined ≡ merged a rest))
    ⊎ ((fits old.limits a rest ≡ false) × Closes a (map chunk_leaf rest.chunks) old new × (joined ≡ merged empty rest))

-- It added at most so many own entries.
pub record IsAtMost (most : ℕ) (old new : Holder) : Type 0 where
  pub follows : Follows old new
  pub few : length follows.own ≤ most
