use Rattle.std.proofs.Common.{◌≡◌, ◌+◌, ◌<◌, ◌^◌, filter, length, map}
use Rattle.std.specs.Map.Iter.{deref}
use Rattle.xet_shard.specs.LastPlaces.{HasPlaces}
use Rattle.xet_shard_format.specs.Records.{xorb_record_hash, xorb_section}
use Rattle.xet_shard.specs.theorems.Holding.{is_other}
use Rattle.xet_shard.proofs.in_memory.places.note_all.Given as goal

abbrev pub invariant-loop-other : goal.invariant-loop-other
invariant-loop-other l = record {
  places : HasPlaces l.found.entries (filter (is_other xorb_record_hash l.hash) (map deref l.yielded));
  count : l.index ≡ length (filter (is_other xorb_record_hash l.hash) (map deref l.yielded));
  few : l.index + length (xorb_section (filter (is_other xorb_record_hash l.hash) l.other-iterator)) < 2 ^ 32;
}
