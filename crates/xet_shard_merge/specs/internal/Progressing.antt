-- The steps of a merge of shards.
use Rattle.std.specs.Prelude.{◌≡◌, ◌≤◌, ◌+◌, ℕ, Bool, false, length, List, [], ◌∷◌, ◌++◌, flat_map, All, Any, Option, Some, None, Ok, Err, IsOk}
use Rattle.std.specs.List.{AllByRecursion}
use Rattle.xet_hash.specs.declared.error.Place.TheVariants.{Disk}
use Rattle.xet_hash.specs.declared.error.StoreError.{StoreError}
use Rattle.xet_hash.specs.declared.error.StoreError.TheVariants.{FileNotFound, Io, MalformedData, OutOfMemory, UnexpectedEof}
use Rattle.xet_io.specs.Disk.{Files, bytes_at}
use Rattle.xet_shard.specs.Union.{ShardRecords, records_in}
use Rattle.xet_shard_directory.specs.declared.shard_file.MDBShardFile.{MDBShardFile}
use Rattle.xet_shard_merge.specs.Groups.{Agrees, AreTakenFrom, Begins, Ends, Group, Groups, IsSkipped, Joins, Offered, if_open, joined}
use Rattle.xet_shard_merge.specs.Merging.{AddsResults, AreResults, IsDue, IsResult, WritesFirst, WritesOnly}
use Rattle.xet_shard_merge.specs.internal.Keeping.{IsIntact, IsOneDue, Preserves}
use Rattle.xet_shard_merge.specs.declared.progress.Fate.{Fate}
use Rattle.xet_shard_merge.specs.declared.progress.Fate.TheVariants.{Enters, Follows, Skipped, Starts}
use Rattle.xet_shard_merge.specs.declared.progress.Progress.{Progress}

-- the lists are the same, and a group is open or none
pub record NowOpenIs (old : Progress) (current : Option Group) (new : Progress) : Type 0 where
  pub open_is : new.open ≡ current
  pub taken : new.taken.items ≡ old.taken.items
  pub merged : new.merged.items ≡ old.merged.items
  pub skipped : new.skipped.items ≡ old.skipped.items

abbrev pub NowOpen : Progress → Group → Progress → Type 0
NowOpen old g new = NowOpenIs old (Some g) new

-- a shard was skipped
pub record NowSkipped (old : Progress) (s : MDBShardFile) (new : Progress) : Type 0 where
  pub open_is : new.open ≡ old.open
  pub taken : new.taken.items ≡ old.taken.items
  pub merged : new.merged.items ≡ old.merged.items
  pub skipped : new.skipped.items ≡ old.skipped.items ++ s ∷ []

-- a shard joined the open group
pub record IsJoined (old : Progress) (s : MDBShardFile) (records : ShardRecords) (new : Progress) : Type 0 where
  pub group : Group
  pub was : old.open ≡ Some group
  pub now : NowOpen old (joined group s records) new

-- a group that is closed was added, with its result
pub record HasAdded (old : Progress) (g : Group) (r : MDBShardFile) (new : Progress) : Type 0 where
  pub open_is : new.open ≡ old.open
  pub taken : new.taken.items ≡ old.taken.items ++ g.taken
  pub merged : new.merged.items ≡ old.merged.items ++ r ∷ []
  pub skipped : new.skipped.items ≡ old.skipped.items

-- The open group was closed: its result was written.
pub record ClosesGroup (before after : Files) (folder : List ℕ) (old : Progress) (g : Group) (new : Progress) : Type 0 where
  pub result : MDBShardFile
  pub is_result : IsResult before after folder g result
  pub adds : AddsResults before after (result ∷ [])
  pub writes : WritesOnly before after folder (IsDue before folder g)
  pub open_is : new.open ≡ None
  pub taken : new.taken.items ≡ old.taken.items ++ g.taken
  pub merged : new.merged.items ≡ old.merged.items ++ result ∷ []
  pub skipped : new.skipped.items ≡ old.skipped.items

abbrev pub ClosesIf : Files → Files → List ℕ → Progress → Option Group → Progress → Type 0
ClosesIf before after folder old None new = (after ≡ before) × NowOpenIs old None new
ClosesIf before after folder old (Some g) new = ClosesGroup before after folder old g new

abbrev pub Closes : Files → Files → List ℕ → Progress → Progress → Type 0
Closes before after folder old new = ClosesIf before after folder old old.open new

-- the shards of the open group are intact
abbrev pub IsIntactIfOpen : Files → Option Group → Type 0
IsIntactIfOpen files None = Unit {0}
IsIntactIfOpen files (Some g) = All (IsIntact files) g.taken

-- ---- one shard after the other

-- what becomes of a shard that was read
abbrev pub HasFate : ℕ → Option Group → Offered → ShardRecords → Fate → Type 0
HasFate limit current o records Skipped = IsSkipped limit current o
HasFate limit current o records Starts = Begins current o records
HasFate limit current o records Follows = (g : Group) × Ends limit current o g records
HasFate limit current o records Enters = (g : Group) × Joins limit current o g records

-- the same if this group is open, and the shard is not keyed
abbrev pub HasFateIn : ℕ → Group → ℕ → ShardRecords → Fate → Type 0
HasFateIn limit g n records Skipped = (g.length + n ≤ limit + 248) × (Agrees g.records records → ⊥)
HasFateIn limit g n records Starts = ⊥
HasFateIn limit g n records Follows = g.length + n ≤ limit + 248 → ⊥
HasFateIn limit g n records Enters = (g.length + n ≤ limit + 248) × Agrees g.records records

-- After the closed groups come those of the shards that are left.
pub record Follow (limit : ℕ) (rest : List Offered) (p : Progress) (closed gs : List Group) : Type 0 where
  pub more : List Group
  pub skipped : List MDBShardFile
  pub first : gs ≡ closed ++ more
  pub grouped : Groups limit p.open rest more skipped

-- The shards before `rest` were read, unless errors are skipped, and the groups so far took no others.
pub record Passed (skip : Bool) (all rest : List Offered) (closed : List Group) (current : Option Group) : Type 0 where
  pub before : List Offered
  pub parts : all ≡ before ++ rest
  pub strict : skip ≡ false → All (λ o. IsOk o.records) before
  pub inside : AreTakenFrom before closed
  pub opened : AreTakenFrom before (if_open current)

-- The shards before `rest` were taken or skipped: whatever groups follow, these are the first ones of all.
pub record Went (start now : Files) (folder : List ℕ) (limit : ℕ) (skip : Bool) (all rest : List Offered) (p : Progress) : Type 0 where
  pub closed : List Group
  pub on : (gs : List Group) (ss : List MDBShardFile) → Groups limit p.open rest gs ss → Groups limit None all (closed ++ gs) (p.skipped.items ++ ss)
  pub first : (gs : List Group) (ss : List MDBShardFile) → Groups limit None all gs ss → Follow limit rest p closed gs
  pub results : AreResults start now folder closed p.merged.items
  pub taken : p.taken.items ≡ flat_map (λ g. g.taken) closed
  pub adds : AddsResults start now p.merged.items
  pub writes : WritesOnly start now folder (IsOneDue start folder closed)
  pub keeps : Preserves start now
  pub intact : IsIntactIfOpen start p.open
  pub passed : Passed skip all rest closed p.open
  pub reads : skip ≡ false → AllByRecursion (λ o. IsOk o.records) rest → AllByRecursion (λ o. IsOk o.records) all

-- All shards went, and no group is open.
pub record Ended (start now : Files) (folder : List ℕ) (limit : ℕ) (skip : Bool) (all : List Offered) (p : Progress) : Type 0 where
  pub groups : List Group
  pub grouped : Groups limit None all groups p.skipped.items
  pub results : AreResults start now folder groups p.merged.items
  pub taken : p.taken.items ≡ flat_map (λ g. g.taken) groups
  pub adds : AddsResults start now p.merged.items
  pub reads : skip ≡ false → AllByRecursion (λ o. IsOk o.records) all

abbrev pub offered_in : MDBShardFile → Option (List ℕ) → Offered
offered_in s None = record { file = s; length = 0; records = Err FileNotFound }
offered_in s (Some bytes) = record { file = s; length = length bytes; records = records_in s.shard.metadata bytes }

-- What was written is due for the first groups of all shards, whatever these are.
abbrev pub WritesOfAll : Files → Files → List ℕ → ℕ → Bool → List Offered → Type 0
WritesOfAll start now folder limit skip all = (gs : List Group) (ss : List MDBShardFile) → Groups limit None all gs ss → WritesFirst start now folder skip all gs

-- a shard as it is offered
abbrev pub offered_of : Files → MDBShardFile → Offered
offered_of files s = offered_in s (bytes_at files s.path)

abbrev pub offer : MDBShardFile → ℕ → ShardRecords → Offered
offer s n records = record { file = s; length = n; records = Ok records }

-- why a merge failed, unless the disk failed or memory was out: one of the shards can't be read
abbrev pub IsUnmergedOf : Bool → List Offered → StoreError → Type 0
IsUnmergedOf skip offered (Io Disk) = Unit {0}
IsUnmergedOf skip offered OutOfMemory = Unit {0}
IsUnmergedOf skip offered UnexpectedEof = (skip ≡ false) × Any (λ o. o.records ≡ Err UnexpectedEof) offered
IsUnmergedOf skip offered (MalformedData reason) = (skip ≡ false) × Any (λ o. o.records ≡ Err (MalformedData reason)) offered
IsUnmergedOf skip offered e = ⊥
