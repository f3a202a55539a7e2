-- When segments can be moved.
use Rattle.std.specs.Prelude.{◌≡◌, ℕ, ◌+◌, ◌^◌, ◌<◌, true}
use Rattle.xet_shard_format.specs.declared.record.FileDataSequenceEntry.{FileDataSequenceEntry as Segment}
use Rattle.xet_aggregate.specs.Aggregate.{is_open}

-- If the segment is open, its indices stay below 2^32 when it moves n chunks up.
abbrev pub CanShift : ℕ → Segment → Type 0
CanShift n s = is_open s ≡ true → (s.chunk_index_start + n < 2 ^ 32) × (s.chunk_index_end + n < 2 ^ 32)
