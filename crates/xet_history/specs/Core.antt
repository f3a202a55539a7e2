-- The core of a store, as lists, and what each step makes of it.
use Rattle.std.specs.Prelude.{ℕ, ◌+◌, nat_lt, Bool, not, ◌&&◌, List, [], ◌∷◌, ◌++◌, length, None, is_some, if◌then◌else◌}
use Rattle.xet_hash.specs.Merkle.{chunk_hash, xorb_hash}
use Rattle.xet_shard.specs.Held.{Held, held, held_shard, held_size, nothing, with_last}
use Rattle.xet_shard_format.specs.Encoding.{Shard, full_shard_bytes}
use Rattle.xet_shard_format.specs.Records.{file_record_hash, xorb_record_hash}
use Rattle.xet_shard_format.specs.declared.record.MDBFileInfo.{MDBFileInfo}
use Rattle.xet_xorb.specs.Raw.{xorb_record}
use Rattle.xet_folder.specs.Xorbs.{FileRecords, Xorbs, found}

-- a registered shard: its hash, and its contents when it was registered
pub record RegisteredShard : Type 0 where
  pub hash : List ℕ
  pub contents : Shard

-- What a store lists, has recorded, has pending and has registered: each xorb under its hash, with the hashes and lengths
-- of its chunks; the records of files, in order of recording; the records that are in no registered shard yet; and the
-- registered shards, in order. No step changes the time of opening and the number of words from which on the chunks of a
-- shard are not indexed.
pub record Core : Type 0 where
  pub xorbs : Xorbs
  pub records : FileRecords
  pub pending : Held
  pub shards : List RegisteredShard
  pub opened : ℕ
  pub index_cap : ℕ

abbrev pub has_pending : Core → Bool
has_pending c = nat_lt 0 (length c.pending.blocks + length c.pending.files)

-- whether what is pending is written before a record of this many bytes is added: something is pending, and its shard
-- would be longer than the target
abbrev pub is_cut_due : Core → ℕ → ℕ → Bool
is_cut_due c target bytes = has_pending c && nat_lt target (held_size c.pending + bytes)

-- whether no row of a table has this hash
abbrev pub is_new : {X : Type 0} → List (List ℕ × X) → List ℕ → Bool
is_new rows h = not (is_some (found rows h))

-- ---- the steps

-- the core with the xorb of this chunk list, unless one of its hash is listed: it is listed, and its record is pending
abbrev pub registered : Core → List (List ℕ × ℕ) → Core
registered c leaves =
    let h = xorb_hash leaves in
    if is_new c.xorbs h then record c { xorbs = c.xorbs ++ (h, leaves) ∷ []; pending = held (with_last xorb_record_hash c.pending.blocks (xorb_record h leaves)) c.pending.files }
    else c

-- the core with this record, unless its file is recorded: it is recorded and pending
abbrev pub completed : Core → MDBFileInfo → Core
completed c file =
    let h = file_record_hash file in
    if is_new c.records h then record c { records = c.records ++ (h, file) ∷ []; pending = held c.pending.blocks (with_last file_record_hash c.pending.files file) }
    else c

-- the shard of what is pending, created at the time of opening and without expiry, and its hash
abbrev pub pending_shard : Core → Shard
pending_shard c = held_shard c.pending c.opened None

abbrev pub pending_hash : Core → List ℕ
pending_hash c = chunk_hash (full_shard_bytes (pending_shard c))

-- the core in which what was pending is the last registered shard
abbrev pub flushed : Core → Core
flushed c = record c { pending = nothing; shards = c.shards ++ (record { hash = pending_hash c; contents = pending_shard c }) ∷ [] }
