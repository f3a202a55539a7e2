use Rattle.std.proofs.Common.{◌≡◌, ◌≤◌, ◌*◌, ◌-◌, ◌++◌, length}
use Rattle.xet_shard_format.specs.Lookups.{flat_places}
use Rattle.xet_shard.specs.Sections.{places_in}
use Rattle.xet_shard.proofs.reader.lookup_items.places_in.Given as goal

abbrev pub invariant-loop-done : goal.invariant-loop-done
invariant-loop-done l = record {
  room : 16 * (l.count - l._done) ≤ length l.rest;
  so_far : flat_places l.found.items ++ places_in (l.count - l._done) l.rest ≡ places_in l.count l.bytes;
}
