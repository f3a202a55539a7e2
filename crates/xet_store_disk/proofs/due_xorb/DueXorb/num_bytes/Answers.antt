use Rattle.std.proofs.Common.{◌≡◌, ◌<◌, ◌^◌, sym, subst, arith}
use Rattle.std.proofs.lemmas.List.{length-map}
use Rattle.xet_dedup.specs.Records.{entries_from, xorb_record}
use Rattle.xet_shard_format.specs.declared.record.MDBXorbInfo.{MDBXorbInfo}
use Rattle.xet_shard_format.specs.RecordSizes.{xorb_record_size}
use Rattle.xet_shard_format.specs.Records.{chunk_row}
use Rattle.xet_store_disk.specs.DueXorb.{DueXorbValue, IsDueXorb}
use Rattle.xet_store_disk.proofs.Pending.{entries_count}
use Rattle.xet_store_disk.proofs.due_xorb.DueXorb.num_bytes.Goals as goal

-- a record of at most 65536 chunks is short
size_fits : (d : DueXorbValue) (block : MDBXorbInfo) → IsDueXorb d → block ≡ xorb_record d.hash d.leaves → xorb_record_size block < 2 ^ 64
size_fits d block due same =
    subst (λ (b : MDBXorbInfo). xorb_record_size b < 2 ^ 64) (sym same) (let few = due.few in omega (arith, length-map (entries_from 0 d.leaves) chunk_row, entries_count 0 d.leaves, few))

pub num_bytes-requires : goal.num_bytes-requires
num_bytes-requires c = size_fits _ c.self.inside.block c.self.invariant.0 c.self.invariant.1
