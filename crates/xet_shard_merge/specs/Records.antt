-- What the groups of a merge have of the shards that are offered.
use Rattle.std.specs.Prelude.{◌≡◌, ◌⊎◌, List}
use Rattle.std.specs.List.{IsAmong}
use Rattle.xet_shard.specs.Union.{ShardRecords}
use Rattle.xet_shard_directory.specs.declared.shard_file.MDBShardFile.{MDBShardFile}
use Rattle.xet_shard_format.specs.declared.record.MDBFileInfo.{MDBFileInfo}
use Rattle.xet_shard_format.specs.declared.record.MDBXorbInfo.{MDBXorbInfo}
use Rattle.xet_shard_merge.specs.Groups.{Group, IsPlain, Offered}

-- A group took this shard, whose records were read: it has all of them.
pub record IsTakenInto (o : Offered) (records : ShardRecords) (g : Group) : Type 0 where
  pub plain : IsPlain o records
  pub taken : IsAmong g.taken o.file
  pub xorbs : (x : MDBXorbInfo) → IsAmong records.0 x → IsAmong g.records.blocks x
  pub files : (f : MDBFileInfo) → IsAmong records.1 f → IsAmong g.records.files f

-- one of the groups took it
abbrev pub IsTakenIn : List Group → Offered → ShardRecords → Type 0
IsTakenIn groups o records = (g : Group) × IsAmong groups g × IsTakenInto o records g

-- The shard is skipped, or one of the groups took it.
abbrev pub IsTakenOrSkipped : List Group → List MDBShardFile → Offered → Type 0
IsTakenOrSkipped groups skipped o = IsAmong skipped o.file ⊎ ((records : ShardRecords) × IsTakenIn groups o records)

-- Each shard that a group took was offered, and each xorb and file of the group is one of a shard that it took.
pub record HasRecordsOf (offered : List Offered) (g : Group) : Type 0 where
  pub taken : (s : MDBShardFile) → IsAmong g.taken s → (o : Offered) × (records : ShardRecords) × IsAmong offered o × (s ≡ o.file) × IsTakenInto o records g
  pub xorbs : (x : MDBXorbInfo) → IsAmong g.records.blocks x → (o : Offered) × (records : ShardRecords) × IsAmong offered o × IsTakenInto o records g × IsAmong records.0 x
  pub files : (f : MDBFileInfo) → IsAmong g.records.files f → (o : Offered) × (records : ShardRecords) × IsAmong offered o × IsTakenInto o records g × IsAmong records.1 f
