-- The exported shard: chunk hashes are keyed, and it has an expiry.
use Rattle.std.specs.Prelude.{◌≡◌, ℕ, ◌+◌, Bool, true, false, List, [], ◌++◌, map, min, take, Result, Ok, Err}
use Rattle.xet_hash.specs.Blake3.{keyed_digest}
use Rattle.xet_hash.specs.declared.error.Place.TheVariants.{Input, Output}
use Rattle.xet_hash.specs.declared.error.StoreError.{StoreError}
use Rattle.xet_hash.specs.declared.error.StoreError.TheVariants.{Io, MalformedData, OutOfMemory, UnexpectedEof}
use Rattle.xet_shard_format.specs.declared.header_footer.MDBShardFileFooter.{MDBShardFileFooter}
use Rattle.xet_shard_format.specs.declared.record.MDBFileInfo.{MDBFileInfo}
use Rattle.xet_shard_format.specs.declared.record.MDBXorbInfo.{MDBXorbInfo}
use Rattle.xet_shard_format.specs.declared.record.XorbChunkSequenceEntry.{XorbChunkSequenceEntry}
use Rattle.xet_shard.specs.Held.{never}
use Rattle.xet_shard_format.specs.Lookups.{Lookups}
use Rattle.xet_shard.specs.Sections.{blocks_in, files_in}
use Rattle.xet_shard_format.specs.Encoding.{Fits, IsShard, Shard, shard, shard_bytes}
use Rattle.xet_codec.specs.Parsing.{◌>>=◌}

abbrev pub keyed_chunk : List ℕ → XorbChunkSequenceEntry → XorbChunkSequenceEntry
keyed_chunk key c = record { chunk_hash = keyed_digest key c.chunk_hash; chunk_byte_range_start = c.chunk_byte_range_start; unpacked_segment_bytes = c.unpacked_segment_bytes }

-- the xorb with keyed chunk hashes
abbrev pub keyed_block : List ℕ → MDBXorbInfo → MDBXorbInfo
keyed_block key x = record { metadata = x.metadata; chunks = map (keyed_chunk key) x.chunks }

-- the files, if they are selected
abbrev pub files_wanted : Bool → MDBShardFileFooter → List ℕ → Result (List MDBFileInfo) StoreError
files_wanted true f bytes = files_in f bytes
files_wanted false f bytes = Ok []

-- The exported shard: with or without files, under a key, created at `now`, and valid for `valid_for` seconds
-- from then.
unfoldable pub exported : Bool → List ℕ → ℕ → ℕ → MDBShardFileFooter → List ℕ → Result Shard StoreError
exported with_files key valid_for now f bytes = do
  files ← files_wanted with_files f bytes
  blocks ← blocks_in f bytes
  Ok (shard (map (keyed_block key) blocks) files key now (min (now + valid_for) never))

-- The encoding of the shard, with these lookup tables, was written after the bytes that were there before.
pub record IsExport (lookups : Lookups) (read : Result Shard StoreError) (before : List ℕ) (after : List ℕ) : Type 0 where
  pub shard : Shard
  pub found : read ≡ Ok shard
  pub form : IsShard shard
  pub fits : Fits shard
  pub encoding : after ≡ before ++ shard_bytes lookups shard

-- After an error a prefix of it was written, and nothing if the shard's own bytes are malformed.
abbrev pub HasPrefix : Lookups → Result Shard StoreError → List ℕ → List ℕ → Type 0
HasPrefix lookups (Ok s) before after = (n : ℕ) × (after ≡ before ++ take n (shard_bytes lookups s))
HasPrefix lookups (Err e) before after = after ≡ before

-- the error of an export: out of memory, a failed reader or sink, or that of reading the shard's bytes
abbrev pub IsUnwritten : {X : Type 0} → Result X StoreError → StoreError → Type 0
IsUnwritten read OutOfMemory = Unit {0}
IsUnwritten read (Io Input) = Unit {0}
IsUnwritten read (Io Output) = Unit {0}
IsUnwritten read e = read ≡ Err e

-- the errors of an export: those of reading a shard, and a failed sink
abbrev pub IsExportError : StoreError → Type 0
IsExportError OutOfMemory = Unit {0}
IsExportError UnexpectedEof = Unit {0}
IsExportError (MalformedData reason) = Unit {0}
IsExportError (Io Input) = Unit {0}
IsExportError (Io Output) = Unit {0}
IsExportError e = ⊥
