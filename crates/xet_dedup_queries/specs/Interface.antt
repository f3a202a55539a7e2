-- What the deduplication of a file knows of the store that it queries.
use Rattle.std.specs.Prelude.{◌≡◌, ◌≢◌, ◌<◌, ◌≤◌, ◌+◌, ◌-◌, ◌^◌, ◌∷◌, ℕ, List, [], length, take, drop, sum, Option, Some, None}
use Rattle.xet_choices.specs.Calls.{Call}
use Rattle.xet_choices.specs.Calls.Call.{Asked}
use Rattle.xet_hash.specs.Hash.{sentinel}
use Rattle.xet_shard_format.specs.declared.record.FileDataSequenceEntry.{FileDataSequenceEntry as Segment}

-- the number of chunks of a run
abbrev pub run_len : Segment → ℕ
run_len run = run.chunk_index_end - run.chunk_index_start

-- A run is one of a xorb whose chunks have these lengths, and states their bytes.
pub record LiesIn (listing : List ℕ → Option (List ℕ)) (run : Segment) : Type 0 where
  pub lengths : List ℕ
  pub listed : listing run.xorb_hash ≡ Some lengths
  pub some : run.chunk_index_start < run.chunk_index_end
  pub within : run.chunk_index_end ≤ length lengths
  pub bytes : run.unpacked_segment_bytes ≡ sum (take (run_len run) (drop run.chunk_index_start lengths))
  pub small : sum lengths < 2 ^ 32
  pub plain : run.xorb_flags ≡ 0
  pub named : run.xorb_hash ≢ sentinel

-- A query for these chunk hashes found this run of so many chunks.
pub record IsFoundRun (listing : List ℕ → Option (List ℕ)) (standing : List (List ℕ) → Segment → Type 0) (hashes : List (List ℕ)) (count : ℕ) (run : Segment) : Type 0 where
  pub some : 0 < count
  pub within : count ≤ length hashes
  pub counted : run_len run ≡ count
  pub lies : LiesIn listing run
  pub stands : standing (take count hashes) run

-- the number of chunks of the run that a query found, or 0
abbrev pub found_count : Option ℕ → ℕ
found_count None = 0
found_count (Some count) = count

-- What a query adds to the calls: the hashes of the run that it found, and its next hash if there is one. A query without
-- hashes adds nothing.
abbrev pub asked : ℕ → List (List ℕ) → Option ℕ → List Call
asked entry [] reply = []
asked entry (h ∷ hs) reply = Asked entry (take (found_count reply + 1) (h ∷ hs)) reply ∷ []

-- What no call takes back: xorbs and what stands in their runs stay, and the limits are the same. An error since the new
-- state is one since the old state.
pub record Extends {I E : Type 0} (listing : I → List ℕ → Option (List ℕ)) (standing : I → List (List ℕ) → Segment → Type 0) (refusing : I → I → E → Type 0) (limiting : I → ℕ × ℕ) (old new : I) : Type 0 where
  pub lists : (h lengths : List ℕ) → listing old h ≡ Some lengths → listing new h ≡ Some lengths
  pub stands : (hashes : List (List ℕ)) (run : Segment) → standing old hashes run → standing new hashes run
  pub earlier : (later : I) (e : E) → refusing new later e → refusing old later e
  pub limits : limiting new ≡ limiting old
