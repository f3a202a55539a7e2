use Rattle.std.proofs.Common.{◌≡◌, ◌-◌, None}
use Rattle.xet_shard_format.specs.Reading.{section_at}
use Rattle.xet_shard_format.proofs.Sections.{records_before}
use Rattle.xet_shard_format.proofs.record_decoding.records.Given as goal

abbrev pub invariant-loop-done : goal.invariant-loop-done
invariant-loop-done g l = records_before l.found.items (section_at g.R.Record.record_at g.R.Record.hash_of (l.count - l._done) l.last l.rows) ≡ section_at g.R.Record.record_at g.R.Record.hash_of l.count None l.fn.rows
