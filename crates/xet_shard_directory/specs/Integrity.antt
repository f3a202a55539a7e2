-- The checks of a shard file: its hash, its name, its sections and its lookup tables.
use Rattle.std.specs.Prelude.{ℕ, nat_eq, List, Option, Some, None, Result, Ok, Err, if◌then◌else◌}
use Rattle.std.specs.Cmp.Lexicographic.{pointwise}
use Rattle.xet_hash.specs.Merkle.{chunk_hash}
use Rattle.xet_hash.specs.declared.error.Reason.{Reason}
use Rattle.xet_hash.specs.declared.error.Reason.TheVariants.{ShardHash, ShardName, Totals}
use Rattle.xet_hash.specs.declared.error.StoreError.{StoreError}
use Rattle.xet_hash.specs.declared.error.StoreError.TheVariants.{MalformedData}
use Rattle.xet_shard_directory.specs.Values.{last_part}
use Rattle.xet_shard_format.specs.Names.{shard_name}
use Rattle.xet_shard_format.specs.Reading.{all_of}

-- The check that an error of reading a shard tells of; the totals in its footer are not checked. Bytes that end inside a
-- field fail no check: that is an error.
abbrev pub failed_by : StoreError → Result (Option Reason) StoreError
failed_by (MalformedData Totals) = Ok None
failed_by (MalformedData reason) = Ok (Some reason)
failed_by e = Err e

-- the first check that fails
abbrev pub failed_check : {X : Type 0} → Result X StoreError → Result (Option Reason) StoreError
failed_check (Ok x) = Ok None
failed_check (Err e) = failed_by e

-- the first check that fails of the file at a path that has these bytes
unfoldable pub integrity : List ℕ → List ℕ → List ℕ → Result (Option Reason) StoreError
integrity hash path bytes =
    if pointwise nat_eq (chunk_hash bytes) hash then (if pointwise nat_eq (last_part path) (shard_name hash) then failed_check (all_of bytes) else Ok (Some ShardName))
    else Ok (Some ShardHash)
