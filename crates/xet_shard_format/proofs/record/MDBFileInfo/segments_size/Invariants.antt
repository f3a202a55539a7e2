use Rattle.std.proofs.Common.{◌≡◌, ◌*◌, ◌≤◌, ◌^◌, take}
use Rattle.xet_shard_format.specs.Records.{segment_bytes}
use Rattle.xet_shard_format.proofs.record.MDBFileInfo.segments_size.Given as goal

abbrev pub invariant-loop-segment : goal.invariant-loop-segment
invariant-loop-segment l = record {
  total : l.total ≡ segment_bytes (take l.segment-index l.segment-items);
  small : l.total ≤ 2 ^ 32 * l.segment-index;
}
