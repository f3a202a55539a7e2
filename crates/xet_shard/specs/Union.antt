-- The union of two shards: the records of both, each hash once.
use Rattle.std.specs.Prelude.{◌≡◌, ◌≢◌, ◌⊎◌, ◌≤◌, ℕ, ◌^◌, List, ◌++◌, filter, is_none, length, max, take, Result, Ok, Err}
use Rattle.std.specs.List.{AllByRecursion}
use Rattle.xet_hash.specs.Hash.{zero_hash}
use Rattle.xet_hash.specs.declared.error.Place.TheVariants.{Input, Output}
use Rattle.xet_hash.specs.declared.error.StoreError.{StoreError}
use Rattle.xet_hash.specs.declared.error.Reason.TheVariants.{SectionPlace}
use Rattle.xet_hash.specs.declared.error.StoreError.TheVariants.{InvalidArguments, Io, OutOfMemory, MalformedData}
use Rattle.xet_shard_format.specs.declared.header_footer.MDBShardFileFooter.{MDBShardFileFooter}
use Rattle.xet_shard_format.specs.declared.record.MDBFileInfo.{MDBFileInfo}
use Rattle.xet_shard_format.specs.declared.record.MDBXorbInfo.{MDBXorbInfo}
use Rattle.xet_shard.specs.Export.{IsExportError}
use Rattle.xet_shard.specs.Held.{by_hash, never, record_of}
use Rattle.xet_shard_format.specs.Records.{file_record_hash, file_section, xorb_record_hash, xorb_section}
use Rattle.xet_shard.specs.Sections.{blocks_in, files_in}
use Rattle.xet_shard.specs.declared.info.MDBShardInfo.{MDBShardInfo}
use Rattle.xet_shard_format.specs.Lookups.{all_lookups}
use Rattle.xet_shard_format.specs.Encoding.{Fits, IsShard, Shard, footer_of, full_shard_bytes, header, shard}
use Rattle.xet_codec.specs.Parsing.{◌>>=◌}

-- the records of the first list, and those of the second whose hash the first does not have, in ascending
-- order
abbrev pub union : {X : Type 0} → (X → List ℕ) → List X → List X → List X
union hash xs ys = by_hash hash (xs ++ filter (λ y. is_none (record_of hash (hash y) xs)) ys)

-- records with the same hash in both lists are equal
abbrev pub Agree : {X : Type 0} → (X → List ℕ) → List X → List X → Type 0
Agree hash xs ys = AllByRecursion (λ x. AllByRecursion (λ y. hash x ≡ hash y → x ≡ y) ys) xs

-- the xorbs and the files of a shard
abbrev pub ShardRecords : Type 0
ShardRecords = List MDBXorbInfo × List MDBFileInfo

unfoldable pub records_in : MDBShardFileFooter → List ℕ → Result ShardRecords StoreError
records_in f bytes = do
  files ← files_in f bytes
  blocks ← blocks_in f bytes
  Ok (blocks, files)

-- the records of two shards, those of the first read first
unfoldable pub both_in : MDBShardFileFooter → List ℕ → MDBShardFileFooter → List ℕ → Result (ShardRecords × ShardRecords) StoreError
both_in f bytes g others = do
  x ← records_in f bytes
  y ← records_in g others
  Ok (x, y)

abbrev pub AgreeBoth : ShardRecords × ShardRecords → Type 0
AgreeBoth p = Agree xorb_record_hash p.0.0 p.1.0 × Agree file_record_hash p.0.1 p.1.1

-- The union of two shards: without a key and without an expiry, created at the later of two times.
abbrev pub union_shard : ShardRecords × ShardRecords → ℕ → ℕ → Shard
union_shard p creation other = shard (union xorb_record_hash p.0.0 p.1.0) (union file_record_hash p.0.1 p.1.1) zero_hash (max creation other) never

-- the shard is keyed
abbrev pub IsKeyed : MDBShardFileFooter → Type 0
IsKeyed f = f.chunk_hash_hmac_key ≢ zero_hash

-- one of the sections has 2 ^ 32 rows or more
abbrev pub HasTooManyRows : Shard → Type 0
HasTooManyRows s = (2 ^ 32 ≤ length (file_section s.files)) ⊎ (2 ^ 32 ≤ length (xorb_section s.blocks))

-- The encoding of the union was written after the bytes that were there before; `ends` are its header and
-- footer.
pub record IsUnion (read : Result (ShardRecords × ShardRecords) StoreError) (creation other : ℕ) (ends : MDBShardInfo) (before after : List ℕ) : Type 0 where
  pub both : ShardRecords × ShardRecords
  pub found : read ≡ Ok both
  pub agree : AgreeBoth both
  pub form : IsShard (union_shard both creation other)
  pub fits : Fits (union_shard both creation other)
  pub info : ends ≡ record { header = header; metadata = footer_of all_lookups (union_shard both creation other) }
  pub encoding : after ≡ before ++ full_shard_bytes (union_shard both creation other)

-- After an error nothing was written, or a prefix of the union's encoding.
abbrev pub HasUnionPrefix : Result (ShardRecords × ShardRecords) StoreError → ℕ → ℕ → List ℕ → List ℕ → Type 0
HasUnionPrefix read creation other before after =
    (after ≡ before)
    ⊎ ((both : ShardRecords × ShardRecords) × (n : ℕ) × (read ≡ Ok both) × AgreeBoth both × (after ≡ before ++ take n (full_shard_bytes (union_shard both creation other))))

-- the error of a union, and its cause
abbrev pub IsNoUnion : MDBShardFileFooter → MDBShardFileFooter → Result (ShardRecords × ShardRecords) StoreError → StoreError → Type 0
IsNoUnion f g read OutOfMemory = Unit {0}
IsNoUnion f g read (Io Input) = Unit {0}
IsNoUnion f g read (Io Output) = Unit {0}
IsNoUnion f g read InvalidArguments = IsKeyed f ⊎ IsKeyed g ⊎ ((both : ShardRecords × ShardRecords) × (read ≡ Ok both) × (AgreeBoth both → ⊥))
IsNoUnion f g read e =
    (read ≡ Err e)
    ⊎ ((e ≡ MalformedData SectionPlace) × (both : ShardRecords × ShardRecords) × (read ≡ Ok both) × AgreeBoth both × HasTooManyRows (union_shard both f.shard_creation_timestamp g.shard_creation_timestamp))

-- the errors of a union: those of an export, and `InvalidArguments`
abbrev pub IsUnionError : StoreError → Type 0
IsUnionError InvalidArguments = Unit {0}
IsUnionError e = IsExportError e
