-- The map from chunk hashes to their last positions in a shard in memory, for private functions.
use Rattle.std.specs.Prelude.{ℕ, List, Option, Some, None}
use Rattle.xet_shard_format.specs.declared.record.XorbChunkSequenceEntry.{XorbChunkSequenceEntry}
use Rattle.xet_shard.specs.Runs.{digests, last_place}

-- the entry of a chunk hash after the chunks of the xorb with this index were added
unfoldable pub noted : ℕ → List XorbChunkSequenceEntry → List ℕ → Option (ℕ × ℕ) → Option (ℕ × ℕ)
noted index chunks h before = elim (last_place h (digests chunks)) [ Some i ↦ Some (index, i) | None ↦ before ]
