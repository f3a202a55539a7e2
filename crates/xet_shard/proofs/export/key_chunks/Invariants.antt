use Rattle.std.proofs.Common.{◌≡◌}
use Rattle.xet_shard.specs.Export.{keyed_chunk}
use Rattle.xet_shard.proofs.Keying.{changed}
use Rattle.xet_shard.proofs.export.key_chunks.Given as goal

abbrev pub invariant-loop-chunk : goal.invariant-loop-chunk
invariant-loop-chunk l = l.chunks ≡ changed (keyed_chunk l.key) l.chunk-index l.fn.chunks
