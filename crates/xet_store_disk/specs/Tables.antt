-- The tables of a session: what it lists, has recorded and has pending; and what a file adds to them.
use Rattle.std.specs.Prelude.{ℕ, List, [], ◌∷◌, ◌++◌, is_some, if◌then◌else◌}
use Rattle.xet_shard_format.specs.declared.record.MDBFileInfo.{MDBFileInfo}
use Rattle.xet_shard.specs.Held.{Held, held, with_last}
use Rattle.xet_shard_format.specs.Records.{file_record_hash, xorb_record_hash}
use Rattle.xet_folder.specs.Xorbs.{FileRecords, Xorbs, found}
use Rattle.xet_dedup.specs.Records.{xorb_record}
use Rattle.xet_store_disk.specs.Store.{State}

pub record Tables : Type 0 where
  pub xorbs : Xorbs
  pub records : FileRecords
  pub pending : Held

abbrev pub tables : Xorbs → FileRecords → Held → Tables
tables xorbs records pending = record { xorbs = xorbs; records = records; pending = pending }

abbrev pub tables_of : State → Tables
tables_of s = tables s.xorbs s.records s.pending

-- the tables with one more xorb, unless one of its hash is listed: it is listed, and its record is pending
abbrev pub with_leaves : Tables → List ℕ → List (List ℕ × ℕ) → Tables
with_leaves t h leaves =
    if is_some (found t.xorbs h) then t
    else tables (t.xorbs ++ (h, leaves) ∷ []) t.records (held (with_last xorb_record_hash t.pending.blocks (xorb_record h leaves)) t.pending.files)

-- the tables with one more record, unless its file is recorded: it is recorded and pending
abbrev pub with_record : Tables → MDBFileInfo → Tables
with_record t f =
    if is_some (found t.records (file_record_hash f)) then t
    else tables t.xorbs (t.records ++ (file_record_hash f, f) ∷ []) (held t.pending.blocks (with_last file_record_hash t.pending.files f))
