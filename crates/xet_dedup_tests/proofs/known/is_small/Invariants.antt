use Rattle.std.proofs.Common.{◌≡◌, ◌+◌, ◌<◌, ◌≤◌, ◌^◌, drop}
use Rattle.xet_hash.specs.Merkle.{total_len}
use Rattle.xet_dedup_tests.proofs.known.is_small.Given as goal

abbrev pub invariant-loop-bytes : goal.invariant-loop-bytes
invariant-loop-bytes l = (l.total ≤ l.limit) × (l.limit < 2 ^ 32) × (l.total + total_len (drop l.bytes-index l.leaves) ≡ total_len l.leaves)
