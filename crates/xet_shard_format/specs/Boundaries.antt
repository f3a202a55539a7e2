-- Uncompressed boundary offsets of a xorb's chunks.
use Rattle.std.specs.Prelude.{ℕ, ◌+◌, List, [], ◌∷◌}
use Rattle.xet_shard_format.specs.declared.record.XorbChunkSequenceEntry.{XorbChunkSequenceEntry}

-- each chunk's hash, and the uncompressed offset at which it ends, if the first chunk starts at offset `at`
abbrev pub boundaries_from : ℕ → List XorbChunkSequenceEntry → List (List ℕ × ℕ)
boundaries_from at [] = []
boundaries_from at (c ∷ cs) = (c.chunk_hash, at + c.unpacked_segment_bytes) ∷ boundaries_from (at + c.unpacked_segment_bytes) cs
