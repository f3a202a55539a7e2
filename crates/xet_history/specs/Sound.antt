-- When a core is sound: everything that it names is stored.
use Rattle.std.specs.Prelude.{◌≡◌, ◌≢◌, ◌⊎◌, ◌≤◌, ◌<◌, ◌^◌, ℕ, ◌+◌, List, length, map, Any, Some}
use Rattle.std.specs.List.{AllByRecursion}
use Rattle.xet_io.specs.Disk.{Files, bytes_at}
use Rattle.xet_hash.specs.Hash.{sentinel, zero_hash}
use Rattle.xet_hash.specs.Merkle.{chunk_hash, total_len}
use Rattle.xet_shard.specs.Queries.{kept_hash}
use Rattle.xet_shard_format.specs.Encoding.{IsShardEncoding}
use Rattle.xet_shard_format.specs.Records.{file_record_hash, xorb_record_hash}
use Rattle.xet_shard_format.specs.declared.record.FileDataSequenceEntry.{FileDataSequenceEntry as Segment}
use Rattle.xet_shard_format.specs.declared.record.MDBFileInfo.{MDBFileInfo}
use Rattle.xet_shard_format.specs.declared.record.MDBXorbInfo.{MDBXorbInfo}
use Rattle.xet_shard_file.specs.Names.{shard_path}
use Rattle.xet_folder.specs.Admission.{block_leaves}
use Rattle.xet_folder.specs.Contents.{IsRecord}
use Rattle.xet_folder.specs.Plan.{LiesIn, part}
use Rattle.xet_folder.specs.Xorbs.{AreBacked, IsListed, Xorbs}
use Rattle.xet_history.specs.Core.{Core, RegisteredShard}
use Rattle.xet_history.specs.Found.{key_of}

-- The record of a xorb in a shard of this key lists the hashes, under the key, and the lengths of a listed xorb's chunks.
pub record IsBlock (xorbs : Xorbs) (key : List ℕ) (b : MDBXorbInfo) : Type 0 where
  pub leaves : List (List ℕ × ℕ)
  pub listed : IsListed xorbs (xorb_record_hash b) leaves
  pub keyed : block_leaves b ≡ map (λ m. (kept_hash key m.0, m.1)) leaves

-- The run of a query, with the number of its chunks, is one of a listed xorb: its segment lies there, and names so many
-- chunks, at least one.
pub record IsListedRun (xorbs : Xorbs) (run : ℕ × Segment) : Type 0 where
  pub leaves : List (List ℕ × ℕ)
  pub listed : IsListed xorbs run.1.xorb_hash leaves
  pub lies : LiesIn (λ m. m.1) run.1 leaves
  pub count : run.1.chunk_index_end ≡ run.1.chunk_index_start + run.0

-- The run of a query may stand in a plan: it is one of a listed xorb of fewer than 2^32 bytes, whose hash is not the sentinel,
-- and of no more chunks than the query has hashes; its segment has no flags.
pub record IsUsableRun (xorbs : Xorbs) (query : List (List ℕ)) (run : ℕ × Segment) : Type 0 where
  pub lies : IsListedRun xorbs run
  pub within : run.0 ≤ length query
  pub small : total_len lies.leaves < 2 ^ 32
  pub plain : run.1.xorb_flags ≡ 0
  pub named : run.1.xorb_hash ≢ sentinel

-- zero, or the key of a registered shard
abbrev pub IsKey : Core → List ℕ → Type 0
IsKey c key = (key ≡ zero_hash) ⊎ Any (λ s. key_of s ≡ key) c.shards

-- Under the key of a registered shard, or under zero, which leaves each hash as it is, these hashes are those of the chunks
-- that a segment of a listed xorb names.
pub record IsStanding (c : Core) (hashes : List (List ℕ)) (segment : Segment) : Type 0 where
  pub leaves : List (List ℕ × ℕ)
  pub listed : IsListed c.xorbs segment.xorb_hash leaves
  pub key : List ℕ
  pub is_key : IsKey c key
  pub same : map (λ m. kept_hash key m.0) (part segment leaves) ≡ map (kept_hash key) hashes

-- Over the listed xorbs, the plan of a record resolves to chunks, at least one, which give its file hash.
abbrev pub Rebuilds : Xorbs → MDBFileInfo → Type 0
Rebuilds xorbs f = IsRecord xorbs (file_record_hash f, f)

-- The file of a registered shard is a well-formed encoding of its contents, under the name of its digest.
pub record IsShardFile (files : Files) (folder : List ℕ) (s : RegisteredShard) : Type 0 where
  pub bytes : List ℕ
  pub there : bytes_at files (shard_path folder s.hash) ≡ Some bytes
  pub named : chunk_hash bytes ≡ s.hash
  pub encoding : IsShardEncoding bytes s.contents

-- Each listed xorb is stored with its chunks. Each record, recorded, pending or in a registered shard, rebuilds its file,
-- and each block is that of a listed xorb. The file of each registered shard is there.
pub record IsSound (files : Files) (folder : List ℕ) (c : Core) : Type 0 where
  pub backed : AreBacked files folder c.xorbs
  pub recorded : AllByRecursion (IsRecord c.xorbs) c.records
  pub pending_files : AllByRecursion (Rebuilds c.xorbs) c.pending.files
  pub pending_blocks : AllByRecursion (IsBlock c.xorbs zero_hash) c.pending.blocks
  pub shard_files : AllByRecursion (λ s. AllByRecursion (Rebuilds c.xorbs) s.contents.files) c.shards
  pub shard_blocks : AllByRecursion (λ s. AllByRecursion (IsBlock c.xorbs s.contents.key) s.contents.blocks) c.shards
  pub stored : AllByRecursion (IsShardFile files folder) c.shards
