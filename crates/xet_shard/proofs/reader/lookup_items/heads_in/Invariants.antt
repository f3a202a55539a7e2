use Rattle.std.proofs.Common.{◌≡◌, ◌≤◌, ◌*◌, ◌-◌, ◌++◌, length}
use Rattle.xet_shard.specs.Sections.{heads_in}
use Rattle.xet_shard.proofs.reader.lookup_items.heads_in.Given as goal

abbrev pub invariant-loop-done : goal.invariant-loop-done
invariant-loop-done l = record {
  room : 12 * (l.count - l._done) ≤ length l.rest;
  so_far : l.found.items ++ heads_in (l.count - l._done) l.rest ≡ heads_in l.count l.bytes;
}
