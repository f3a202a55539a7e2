use Rattle.std.proofs.Common.{◌≡◌, ◌+◌, length}
use Rattle.xet_hash.specs.Hasher.{hashed_len}
use Rattle.xet_bench.proofs.digests.by_pieces.Given as goal

abbrev pub invariant-pieces : goal.invariant-pieces
invariant-pieces l = hashed_len l.hasher + length l.rest ≡ length l.file

abbrev pub decreases-pieces : goal.decreases-pieces
decreases-pieces l = length l.rest
