-- The records of a shard file, which are added to those of a group.
use Rattle.std.specs.Prelude.{◌≡◌, ◌≢◌, ℕ, List, [], ◌∷◌, Option, Some, None}
use Rattle.std.specs.List.{AllByRecursion}
use Rattle.xet_hash.specs.Hash.{sentinel}
use Rattle.xet_shard.specs.Held.{DifferBy}
use Rattle.xet_shard.specs.Union.{ShardRecords}
use Rattle.xet_shard_directory.specs.declared.shard_file.MDBShardFile.{MDBShardFile}
use Rattle.xet_shard_format.specs.Records.{IsFile, IsXorb, file_record_hash, xorb_record_hash}

-- each record is well formed, and has a hash of its own, which is not the sentinel
pub record AreOwn {X : Type 0} (hash : X → List ℕ) (Form : X → Type 0) (xs : List X) : Type 0 where
  pub each : AllByRecursion (λ x. (hash x ≢ sentinel) × Form x) xs
  pub differ : DifferBy hash xs

pub record IsRead (p : ShardRecords) : Type 0 where
  pub blocks : AreOwn xorb_record_hash IsXorb p.0
  pub files : AreOwn file_record_hash IsFile p.1

-- a record of the same hash is equal
abbrev pub IsSameIf : {X : Type 0} → (X → List ℕ) → List X → X → Type 0
IsSameIf hash xs y = AllByRecursion (λ x. hash x ≡ hash y → x ≡ y) xs

-- the one shard of a list; none if there are several
abbrev pub IsOnly : List MDBShardFile → Option MDBShardFile → Type 0
IsOnly taken (Some s) = taken ≡ s ∷ []
IsOnly taken None = (s : MDBShardFile) × (t : MDBShardFile) × (more : List MDBShardFile) × (taken ≡ s ∷ t ∷ more)
