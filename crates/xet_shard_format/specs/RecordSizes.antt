-- The bytes that a record adds to a shard.
use Rattle.std.specs.Prelude.{ℕ, ◌+◌, ◌*◌, length}
use Rattle.xet_shard_format.specs.declared.record.MDBFileInfo.{MDBFileInfo}
use Rattle.xet_shard_format.specs.declared.record.MDBXorbInfo.{MDBXorbInfo}
use Rattle.xet_shard_format.specs.Records.{file_rows, xorb_rows}

-- rows of 48 bytes, and items of 12 or 16 bytes in the lookup tables
abbrev pub file_record_size : MDBFileInfo → ℕ
file_record_size f = 48 * length (file_rows f) + 12

abbrev pub xorb_record_size : MDBXorbInfo → ℕ
xorb_record_size x = 48 * length (xorb_rows x) + 12 + 16 * length x.chunks
