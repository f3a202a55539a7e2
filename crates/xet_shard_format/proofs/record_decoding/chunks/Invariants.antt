use Rattle.std.proofs.Common.{◌≡◌, ◌-◌}
use Rattle.xet_shard_format.specs.Reading.{chunks_at}
use Rattle.xet_shard_format.proofs.Chunks.{chunks_before}
use Rattle.xet_shard_format.proofs.record_decoding.chunks.Given as goal

abbrev pub invariant-loop-done : goal.invariant-loop-done
invariant-loop-done l = chunks_before l.found.items (chunks_at (l.count - l._done) l.at l.rows) ≡ chunks_at l.count 0 l.fn.rows
