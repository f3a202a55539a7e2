-- Runs: consecutive chunks of a xorb whose hashes are the first of a query.
use Rattle.std.specs.Prelude.{ℕ, suc, ◌+◌, ◌-◌, ◌==◌, nat_eq, nat_le, List, [], ◌∷◌, map, take, drop, Option, Some, None, Result, Ok, if◌then◌else◌, option_and_then, option_map}
use Rattle.std.specs.Cmp.Lexicographic.{pointwise}
use Rattle.xet_hash.specs.declared.error.Reason.TheVariants.{SectionEntry}
use Rattle.xet_hash.specs.declared.error.StoreError.{StoreError}
use Rattle.xet_shard_format.specs.declared.record.FileDataSequenceEntry.{FileDataSequenceEntry}
use Rattle.xet_shard_format.specs.declared.record.MDBXorbInfo.{MDBXorbInfo}
use Rattle.xet_shard_format.specs.declared.record.XorbChunkSequenceEntry.{XorbChunkSequenceEntry}
use Rattle.xet_shard_format.specs.declared.row.Row.{Row}
use Rattle.xet_codec.specs.Parsing.{◌>>=◌, wants}
use Rattle.xet_shard_format.specs.Reading.{chunk_in, has_rows}
use Rattle.xet_shard_format.specs.Records.{chunk_bytes, xorb_record_hash}

-- the length of the common prefix of two lists of hashes
unfoldable pub agreeing : List (List ℕ) → List (List ℕ) → ℕ
agreeing [] others = 0
agreeing (h ∷ hs) [] = 0
agreeing (h ∷ hs) (o ∷ os) = if pointwise nat_eq h o then suc (agreeing hs os) else 0

abbrev pub digests : List XorbChunkSequenceEntry → List (List ℕ)
digests chunks = map (λ c. c.chunk_hash) chunks

-- the segment of `count` chunks of a xorb from index `place` on
abbrev pub run_segment : MDBXorbInfo → ℕ → ℕ → FileDataSequenceEntry
run_segment block place count = record {
  xorb_hash = xorb_record_hash block;
  xorb_flags = 0;
  unpacked_segment_bytes = chunk_bytes (take count (drop place block.chunks));
  chunk_index_start = place;
  chunk_index_end = place + count;
}

-- The run of a query at index `place` of a xorb. It ends at the first hash that differs, at the xorb's end or
-- at the query's. None if it has no chunk.
unfoldable pub run_at : List (List ℕ) → MDBXorbInfo → ℕ → Option (ℕ × FileDataSequenceEntry)
run_at query block place =
    let count = agreeing query (digests (drop place block.chunks)) in
    if count == 0 then None else Some (count, run_segment block place count)

-- where the chunk in a row ends; it must start at `at`, and not pass `end`, the end of its xorb
unfoldable pub end_of_chunk : Row → ℕ → ℕ → Result ℕ StoreError
end_of_chunk r at end = do
  _ ← chunk_in r at
  _ ← wants (nat_le (r.a + r.b) end) SectionEntry
  Ok (r.a + r.b)

-- How many first hashes of a query are those of the chunks in these rows, and where the last of these chunks
-- ends. The first chunk must start at `at`. The first row whose hash differs ends the run; neither the rest
-- of this row nor any row after it is checked.
unfoldable pub agreed : List (List ℕ) → ℕ → ℕ → List Row → Result (ℕ × ℕ) StoreError
agreed [] end at rows = Ok (0, at)
agreed (h ∷ hs) end at [] = Ok (0, at)
agreed (h ∷ hs) end at (r ∷ rows) = if pointwise nat_eq h r.hash then (end_of_chunk r at end >>= λ to. agreed hs end to rows >>= λ n. Ok (suc n.0, n.1)) else Ok (0, at)

-- the segment of `count` chunks of the xorb with this header, from index `place` on
abbrev pub head_segment : Row → ℕ → ℕ → ℕ → FileDataSequenceEntry
head_segment head place count bytes = record {
  xorb_hash = head.hash;
  xorb_flags = 0;
  unpacked_segment_bytes = bytes;
  chunk_index_start = place;
  chunk_index_end = place + count;
}

-- the run of a query at index `place` of a xorb, from its header and its chunk rows from there on
unfoldable pub run_of : List (List ℕ) → ℕ → Row → List Row → Result (Option (ℕ × FileDataSequenceEntry)) StoreError
run_of query place head [] = Ok None
run_of query place head (r ∷ rows) = agreed query head.c r.a (r ∷ rows) >>= λ n. Ok (if n.0 == 0 then None else Some (n.0, head_segment head place n.0 (n.1 - r.a)))

-- The same from all rows after the header. Only the number of the rows before `place` is checked.
unfoldable pub run_after : List (List ℕ) → ℕ → Row → List Row → Result (Option (ℕ × FileDataSequenceEntry)) StoreError
run_after query place head rows = do
  _ ← has_rows head.b rows
  _ ← wants (head.a == 0) SectionEntry
  _ ← wants (head.d == 0) SectionEntry
  run_of query place head (take (head.b - place) (drop place rows))

-- the last index of a hash
unfoldable pub last_place : List ℕ → List (List ℕ) → Option ℕ
last_place h [] = None
last_place h (x ∷ xs) = elim (last_place h xs) [ Some i ↦ Some (suc i) | None ↦ if pointwise nat_eq x h then Some 0 else None ]

-- the last xorb that has a chunk hash, and its last index there
unfoldable pub last_chunk : List ℕ → List MDBXorbInfo → Option (MDBXorbInfo × ℕ)
last_chunk h [] = None
last_chunk h (b ∷ bs) = elim (last_chunk h bs) [ Some found ↦ Some found | None ↦ option_map (λ i. (b, i)) (last_place h (digests b.chunks)) ]

-- The run of a query at the last chunk with its first hash.
unfoldable pub held_run : List MDBXorbInfo → List (List ℕ) → Option (ℕ × FileDataSequenceEntry)
held_run blocks [] = None
held_run blocks (h ∷ hs) = option_and_then (λ found. run_at (h ∷ hs) found.0 found.1) (last_chunk h blocks)
