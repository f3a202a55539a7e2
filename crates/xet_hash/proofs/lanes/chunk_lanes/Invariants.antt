use Rattle.std.proofs.Common.{◌≡◌, ℕ, ◌+◌, ◌*◌, ◌<◌, take, drop}
use Rattle.xet_hash.specs.Blake3.{chunk_after}
use Rattle.xet_hash.specs.internal.Lanes.{lane}
use Rattle.xet_hash.proofs.lanes.chunk_lanes.Given as goal

abbrev pub invariant-blocks-2 : goal.invariant-blocks-2
invariant-blocks-2 l = (j : ℕ) → j < 8 → lane j l.h ≡ chunk_after l.key l.flags (l.index + j * l.apart) (take 1024 (drop (j * (1024 * l.apart)) l.bytes)) l.n
