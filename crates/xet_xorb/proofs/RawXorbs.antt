-- Raw xorbs: their parts have the lengths that are listed.
use Rattle.std.proofs.Common.{◌≡◌, ◌∙◌, ◌∷◌, [], ap, length, List, map, ℕ, ◌+◌, refl, sym, subst}
use Rattle.xet_shard_format.specs.declared.record.XorbChunkSequenceEntry.{XorbChunkSequenceEntry}
use Rattle.xet_xorb_chunk.specs.declared.chunk.Chunk.{Chunk}
use Rattle.xet_xorb_chunk.specs.Chunks.{bytes_of_chunk, chunk_leaf}
use Rattle.xet_xorb.specs.declared.raw.RawXorbData.{RawXorbData}
use Rattle.xet_xorb.specs.Raw.{ArePartsOfXorb, IsRaw, entries_from}

abbrev lengths_of : List XorbChunkSequenceEntry → List ℕ
lengths_of entries = map (λ (c : XorbChunkSequenceEntry). c.unpacked_segment_bytes) entries

listed_from : (at : ℕ) (chunks : List Chunk) → map length (map bytes_of_chunk chunks) ≡ lengths_of (entries_from at (map chunk_leaf chunks))
listed_from at [] = refl
listed_from at (c ∷ cs) = ap (λ (x : List ℕ). length c.bytes ∷ x) (listed_from (at + length c.bytes) cs)

-- the raw xorb of chunks is one
pub raw_from : (chunks : List Chunk) (x : RawXorbData) → ArePartsOfXorb (map bytes_of_chunk chunks) → x.parts ≡ map bytes_of_chunk chunks → x.xorb_info.chunks ≡ entries_from 0 (map chunk_leaf chunks) → IsRaw x
raw_from chunks x are parts entries =
    record {
      parts = subst (λ (p : List (List ℕ)). ArePartsOfXorb p) (sym parts) are;
      listed = ap (map length) parts ∙ listed_from 0 chunks ∙ ap lengths_of (sym entries);
    }

-- entries list the leaves of which they are
leaves_from : (at : ℕ) (ms : List (List ℕ × ℕ)) → map (λ (c : XorbChunkSequenceEntry). (c.chunk_hash, c.unpacked_segment_bytes)) (entries_from at ms) ≡ ms
leaves_from at [] = refl
leaves_from at (m ∷ ms) = ap (λ (l : List (List ℕ × ℕ)). m ∷ l) (leaves_from (at + m.1) ms)

pub leaves_listed : (entries : List XorbChunkSequenceEntry) (ms : List (List ℕ × ℕ)) → entries ≡ entries_from 0 ms
    → map (λ (c : XorbChunkSequenceEntry). (c.chunk_hash, c.unpacked_segment_bytes)) entries ≡ ms
leaves_listed entries ms are = ap (map (λ (c : XorbChunkSequenceEntry). (c.chunk_hash, c.unpacked_segment_bytes))) are ∙ leaves_from 0 ms
