use Rattle.std.proofs.Common.{◌≡◌, ◌-◌}
use Rattle.xet_shard_format.specs.Reading.{times_rows}
use Rattle.xet_shard_format.proofs.Loops.{with_prefix}
use Rattle.xet_shard_format.proofs.record_decoding.entries.Given as goal

abbrev pub invariant-loop-done : goal.invariant-loop-done
invariant-loop-done g l = with_prefix l.found.items (times_rows g.E.FromRow.read_at (l.count - l._done) l.rows) ≡ times_rows g.E.FromRow.read_at l.count l.fn.rows
