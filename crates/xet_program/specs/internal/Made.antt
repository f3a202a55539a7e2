-- Files of `make` that were stored in a session, for private functions.
use Rattle.std.specs.Prelude.{◌≡◌, ℕ, ◌+◌, ◌*◌, ◌≤◌, Bool, List, ◌++◌, length, IsSome}
use Rattle.std.specs.List.{AllByRecursion, sum_by}
use Rattle.xet_aggregate.specs.declared.metrics.DeduplicationMetrics.{DeduplicationMetrics}
use Rattle.xet_cut.specs.Chunking.{chunking}
use Rattle.xet_cut.specs.declared.limits.LimitSettings.{LimitSettings}
use Rattle.xet_folder.specs.Xorbs.{Xorbs}
use Rattle.xet_history.specs.declared.entry.Entry.{Entry}
use Rattle.xet_history.specs.declared.entry.Entry.TheVariants.{Query, Register, Complete, Flush, Fault}
use Rattle.xet_shard.specs.Held.{held_size}
use Rattle.xet_store_disk.specs.Cleaning.{EachTold}
use Rattle.xet_store_disk.specs.Store.{State, plan_of}
use Rattle.xet_program.specs.declared.make.ChunkCounts.{ChunkCounts}
use Rattle.xet_program.specs.Making.{both_files, chunk_count, chunks_line, made_text, with_byte_inserted, xorbs_line}
use Rattle.xet_program.specs.Report.{hash_of_file}

-- the most bytes that the records of a file of these bytes add to what is pending: its own record, and those of the xorbs in which
-- its new chunks are stored
abbrev pub max_pending : LimitSettings → List ℕ → ℕ
max_pending s bytes = 340 * length (chunking s bytes) + 228

-- What is pending and the records of these files come to no more than a shard's target. So no cut is due while they are stored.
abbrev pub FitsPending : State → List (List ℕ) → Type 0
FitsPending s files = held_size s.pending + sum_by (max_pending s.limits) files ≤ s.limits.shard_target

-- No more was added to what is pending than the records of these files.
abbrev pub Pends : List (List ℕ) → State → State → Type 0
Pends files old new = held_size new.pending ≤ held_size old.pending + sum_by (max_pending old.limits) files

-- The entry is that of no flush.
abbrev pub IsNoFlush : Entry → Type 0
IsNoFlush (Query pass hashes reply) = Unit {0}
IsNoFlush (Register pass chunks next added) = Unit {0}
IsNoFlush (Complete pass file added) = Unit {0}
IsNoFlush (Flush pass shard) = ⊥
IsNoFlush (Fault pass kind) = Unit {0}

-- Each source has a file: of an observable source, the bytes that it had left. The metrics count the chunks of these files, and
-- no more new ones.
pub record AreCounted {S : Type 0} (tells : S → Bool) (left : S → List ℕ) (s : LimitSettings) (sources : List S) (metrics : DeduplicationMetrics) : Type 0 where
  pub files : List (List ℕ)
  pub told : EachTold tells left (λ bytes file. file ≡ bytes) sources files
  pub total : metrics.total_chunks ≡ sum_by (λ f. length (chunking s f)) files
  pub few : metrics.new_chunks ≤ metrics.total_chunks

-- the lines of two files with these numbers of chunks, and of the number of xorbs
unfoldable pub counts_text : ChunkCounts → ChunkCounts → ℕ → List ℕ
counts_text first second xorbs = chunks_line first.all first.new ++ chunks_line second.all second.new ++ xorbs_line xorbs

-- a session has a plan for the file of these bytes
abbrev pub HasPlan : State → List ℕ → Type 0
HasPlan s bytes = IsSome (plan_of s.records (hash_of_file s.limits bytes))

-- A session came to list further xorbs, which have so many chunks at most.
pub record AddsXorbs (new_chunks : ℕ) (old new : State) : Type 0 where
  pub added : Xorbs
  pub is : new.xorbs ≡ old.xorbs ++ added
  pub few : sum_by (λ xorb. length xorb.1) added ≤ new_chunks

-- The text for a file of these bytes, whose chunks were counted, once the same with one byte inserted was stored in a session
-- with the default limits.
pub record IsInserted (bytes : List ℕ) (first : ChunkCounts) (old new : State) (text : List ℕ) : Type 0 where
  pub second : ChunkCounts
  pub is : text ≡ counts_text first second (length new.xorbs)
  pub all : second.all ≡ chunk_count (with_byte_inserted bytes)
  pub few : second.new ≤ second.all
  pub planned : HasPlan new (with_byte_inserted bytes)
  pub added : AddsXorbs second.new old new

-- The text for a file of these bytes that was stored in a session with the default limits, and then once more with one byte
-- inserted.
pub record IsMade (bytes : List ℕ) (old new : State) (text : List ℕ) : Type 0 where
  pub first : ℕ
  pub second : ℕ
  pub is : text ≡ made_text bytes first second (length new.xorbs)
  pub few : (first ≤ chunk_count bytes) × (second ≤ chunk_count (with_byte_inserted bytes))
  pub planned : AllByRecursion (HasPlan new) (both_files bytes)
  pub added : AddsXorbs (first + second) old new
