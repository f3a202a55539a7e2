use Rattle.std.proofs.Common.{◌≡◌, filter, take}
use Rattle.xet_shard_format.specs.Records.{segment_bytes}
use Rattle.xet_aggregate.specs.Aggregate.{is_open}
use Rattle.xet_aggregate.proofs.segments.open_bytes.Given as goal

abbrev pub invariant-loop-segment : goal.invariant-loop-segment
invariant-loop-segment l = l.bytes ≡ segment_bytes (filter is_open (take l.segment-index l.segments))
