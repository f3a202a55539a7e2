use Rattle.std.proofs.Common.{◌≡◌, ◌++◌, ◌+◌, drop}
use Rattle.xet_shard_format.specs.Boundaries.{boundaries_from}
use Rattle.xet_shard_format.specs.Records.{chunk_bytes}
use Rattle.xet_shard_format.proofs.record.MDBXorbInfo.chunks_and_boundaries.Given as goal

abbrev pub invariant-loop-chunk : goal.invariant-loop-chunk
invariant-loop-chunk l = record {
  ends : l.found.items ++ boundaries_from l.end (drop l.chunk-index l.chunks) ≡ boundaries_from 0 l.chunks;
  bytes : l.end + chunk_bytes (drop l.chunk-index l.chunks) ≡ chunk_bytes l.chunks;
}
