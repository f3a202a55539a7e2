use Rattle.std.proofs.Common.{◌≡◌, ◌+◌, ◌-◌, ◌≤◌, drop, map, take}
use Rattle.xet_xorb_chunk.specs.Chunks.{bytes_of_chunk, total}
use Rattle.xet_dedup.specs.Packing.{fitting, pack_len}
use Rattle.xet_dedup.proofs.packing.pack_len.Given as goal

abbrev pub invariant-chunks : goal.invariant-chunks
invariant-chunks l = record {
  within : l.count ≤ l.max_count;
  value : l.count + fitting l.room (l.limits.cut_chunks - l.count) (map bytes_of_chunk (drop l.count l.chunks)) ≡ pack_len l.limits (map bytes_of_chunk l.chunks);
  bytes : total (take l.count l.chunks) + l.room ≡ l.limits.cut_bytes;
}

abbrev pub decreases-chunks : goal.decreases-chunks
decreases-chunks l = l.max_count - l.count
