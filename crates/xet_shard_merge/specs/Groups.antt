-- Merge groups: which shards of a directory become one.
use Rattle.std.specs.List.{IsAmong}
use Rattle.std.specs.Prelude.{◌≡◌, ◌⊎◌, ◌+◌, ◌≤◌, ℕ, List, [], ◌∷◌, ◌++◌, filter, is_none, max, Option, Some, None, Result, Ok, Err}
use Rattle.xet_hash.specs.declared.error.StoreError.{StoreError}
use Rattle.xet_shard.specs.Held.{Held, held, held_size, record_of}
use Rattle.xet_shard.specs.Union.{Agree, IsKeyed, ShardRecords}
use Rattle.xet_shard_directory.specs.declared.shard_file.MDBShardFile.{MDBShardFile}
use Rattle.xet_shard_format.specs.Records.{file_record_hash, xorb_record_hash}

-- a shard that is offered: the value of its file, the length of the file, and what is read of it
pub record Offered : Type 0 where
  pub file : MDBShardFile
  pub length : ℕ
  pub records : Result ShardRecords StoreError

-- this shard is one of those that are offered
abbrev pub IsOffered : List Offered → MDBShardFile → Type 0
IsOffered offered s = (o : Offered) × IsAmong offered o × (s ≡ o.file)

-- A group: the shards that were taken, in order, their records together, the length of the shard that has them, and the
-- latest of their creation times.
pub record Group : Type 0 where
  pub taken : List MDBShardFile
  pub records : Held
  pub length : ℕ
  pub creation : ℕ

abbrev pub created : MDBShardFile → ℕ
created s = s.shard.metadata.shard_creation_timestamp

-- the group of one shard, whose length is that of its file
abbrev pub alone : MDBShardFile → ℕ → ShardRecords → Group
alone s length records = record { taken = s ∷ []; records = held records.0 records.1; length = length; creation = created s }

-- the records of both lists, each hash once
abbrev pub both : {X : Type 0} → (X → List ℕ) → List X → List X → List X
both hash xs ys = xs ++ filter (λ y. is_none (record_of hash (hash y) xs)) ys

abbrev pub with_records : Held → ShardRecords → Held
with_records h records = held (both xorb_record_hash h.blocks records.0) (both file_record_hash h.files records.1)

-- the group with one more shard
abbrev pub joined : Group → MDBShardFile → ShardRecords → Group
joined g s records = record {
  taken = g.taken ++ s ∷ [];
  records = with_records g.records records;
  length = held_size (with_records g.records records);
  creation = max g.creation (created s);
}

-- records with the same hash in both are equal
abbrev pub Agrees : Held → ShardRecords → Type 0
Agrees h records = Agree xorb_record_hash h.blocks records.0 × Agree file_record_hash h.files records.1

-- A header and a footer are 248 bytes, and two shards that are joined have them once.
abbrev pub Fits : ℕ → Group → Offered → Type 0
Fits target g o = g.length + o.length ≤ target + 248

-- The groups took no other shards than these.
abbrev pub AreTakenFrom : List Offered → List Group → Type 0
AreTakenFrom offered groups = (g : Group) → IsAmong groups g → (s : MDBShardFile) → IsAmong g.taken s → IsOffered offered s

-- ---- the rules

-- it can be read, and its chunk hashes are not keyed
abbrev pub IsPlain : Offered → ShardRecords → Type 0
IsPlain o records = (o.records ≡ Ok records) × (IsKeyed o.file.shard.metadata → ⊥)

-- A shard is skipped that can't be read, that is keyed, or that fits but disagrees with the open group.
pub record Disagrees (target : ℕ) (current : Option Group) (o : Offered) : Type 0 where
  pub group : Group
  pub records : ShardRecords
  pub is_open : current ≡ Some group
  pub plain : IsPlain o records
  pub fits : Fits target group o
  pub differs : Agrees group.records records → ⊥

abbrev pub IsSkipped : ℕ → Option Group → Offered → Type 0
IsSkipped target current o = ((e : StoreError) × (o.records ≡ Err e)) ⊎ IsKeyed o.file.shard.metadata ⊎ Disagrees target current o

-- If no group is open, a shard begins one.
pub record Begins (current : Option Group) (o : Offered) (records : ShardRecords) : Type 0 where
  pub is_open : current ≡ None
  pub plain : IsPlain o records

-- A shard that does not fit ends the open group, and begins the next.
pub record Ends (target : ℕ) (current : Option Group) (o : Offered) (group : Group) (records : ShardRecords) : Type 0 where
  pub is_open : current ≡ Some group
  pub plain : IsPlain o records
  pub long : Fits target group o → ⊥

-- Any other joins the open group.
pub record Joins (target : ℕ) (current : Option Group) (o : Offered) (group : Group) (records : ShardRecords) : Type 0 where
  pub is_open : current ≡ Some group
  pub plain : IsPlain o records
  pub fits : Fits target group o
  pub agrees : Agrees group.records records

abbrev pub if_open : Option Group → List Group
if_open None = []
if_open (Some g) = g ∷ []

-- The shards go through the rules one after the other. `current` is the group that is open before them, if there is one;
-- `groups` are that one, as it becomes, and those that follow it; `skipped` are the shards in none.
unfoldable pub Groups : ℕ → Option Group → List Offered → List Group → List MDBShardFile → Type 0
Groups target current [] groups skipped = (groups ≡ if_open current) × (skipped ≡ [])
Groups target current (o ∷ os) groups skipped =
    (IsSkipped target current o × ((rest : List MDBShardFile) × (skipped ≡ o.file ∷ rest) × Groups target current os groups rest))
    ⊎ ((records : ShardRecords) × Begins current o records × Groups target (Some (alone o.file o.length records)) os groups skipped)
    ⊎ ((g : Group) × (records : ShardRecords) × (rest : List Group) × Ends target current o g records × (groups ≡ g ∷ rest)
    × Groups target (Some (alone o.file o.length records)) os rest skipped)
    ⊎ ((g : Group) × (records : ShardRecords) × Joins target current o g records × Groups target (Some (joined g o.file records)) os groups skipped)
