-- Where the chunks of a file lie by its segments.
use Rattle.std.specs.Prelude.{◌≡◌, ◌<◌, ◌≤◌, ℕ, true, List, [], ◌∷◌, ◌++◌, length, map, take, drop, Option, MatchBool}
use Rattle.xet_choices.specs.Choices.{hashes_of}
use Rattle.xet_dedup_queries.specs.Interface.{LiesIn, run_len}
use Rattle.xet_file_plan.specs.Moves.{block_run, extended, goes_on, is_open}
use Rattle.xet_shard_format.specs.declared.record.FileDataSequenceEntry.{FileDataSequenceEntry as Segment}
use Rattle.xet_xorb_chunk.specs.declared.chunk.Chunk.{Chunk}
use Rattle.xet_xorb_chunk.specs.Chunks.{chunk_leaf}

-- A segment is made of runs that stand, each of which goes on where the one before it ends. These are their hashes.
pub data IsMadeOf (standing : List (List ℕ) → Segment → Type 0) : Segment → List (List ℕ) → Type 0 where
  one : (run : Segment) (hashes : List (List ℕ)) → standing hashes run → IsMadeOf standing run hashes
  more : (s run : Segment) (before hashes : List (List ℕ)) → IsMadeOf standing s before → standing hashes run → goes_on s run ≡ true → IsMadeOf standing (extended s run) (before ++ hashes)

-- A segment of the open block: the block has chunks with these hashes there.
pub record LiesInBlock (block : List Chunk) (s : Segment) (hashes : List (List ℕ)) : Type 0 where
  pub within : s.chunk_index_end ≤ length block
  pub run : s ≡ block_run block s.chunk_index_start (run_len s)
  pub same : take (run_len s) (drop s.chunk_index_start (hashes_of (map chunk_leaf block))) ≡ hashes

-- A segment of a xorb.
pub record LiesInXorb (listing : List ℕ → Option (List ℕ)) (standing : List (List ℕ) → Segment → Type 0) (s : Segment) (hashes : List (List ℕ)) : Type 0 where
  pub lies : LiesIn listing s
  pub made : IsMadeOf standing s hashes

abbrev pub HasHashes : (List ℕ → Option (List ℕ)) → (List (List ℕ) → Segment → Type 0) → List Chunk → Segment → List (List ℕ) → Type 0
HasHashes listing standing block s hashes = MatchBool (is_open s) (LiesInBlock block s hashes) (LiesInXorb listing standing s hashes)

-- The segments, one after the other, have chunks with these hashes.
unfoldable pub ArePlaced : (List ℕ → Option (List ℕ)) → (List (List ℕ) → Segment → Type 0) → List Chunk → List Segment → List (List ℕ) → Type 0
ArePlaced listing standing block [] hashes = hashes ≡ []
ArePlaced listing standing block (s ∷ ss) hashes =
    (0 < run_len s) × (run_len s ≤ length hashes) × HasHashes listing standing block s (take (run_len s) hashes)
    × ArePlaced listing standing block ss (drop (run_len s) hashes)
