use Rattle.std.proofs.Common.{◌≡◌, ◌+◌, drop}
use Rattle.xet_shard_format.specs.Records.{segment_bytes}
use Rattle.xet_shard_format.proofs.lookup.file_bytes.Given as goal

abbrev pub invariant-loop-segment : goal.invariant-loop-segment
invariant-loop-segment l = l.total + segment_bytes (drop l.segment-index l.segment-items) ≡ segment_bytes l.segment-items
