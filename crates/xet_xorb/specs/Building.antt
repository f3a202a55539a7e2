-- Construction of xorbs, and footers that are added to stored chunks.
use Rattle.std.specs.Prelude.{◌≡◌, ◌≢◌, ◌⊎◌, ℕ, ◌+◌, ◌<◌, ◌≤◌, ◌^◌, Bool, true, false, List, [], ◌++◌, length, replicate, take, Option, Some, None, Ok, Err}
use Rattle.std.specs.List.{flat_map, sum_by}
use Rattle.xet_hash.specs.Merkle.{leaves_of, xorb_hash}
use Rattle.xet_hash.specs.declared.error.Reason.TheVariants.{ChunkCount}
use Rattle.xet_hash.specs.declared.error.StoreError.{StoreError}
use Rattle.xet_hash.specs.declared.error.StoreError.TheVariants.{ChunkHeaderParse, MalformedData}
use Rattle.xet_xorb_footer.specs.FooterEncoding.{max_chunks}
use Rattle.xet_codec.specs.Numbers.{number}
use Rattle.xet_xorb_chunk.specs.Checks.{IsCheck}
use Rattle.xet_codec.specs.Stops.{StopsWriting}
use Rattle.xet_xorb_chunk.specs.Passing.{Begins}
use Rattle.xet_xorb_chunk.specs.ChunkEncoding.{encoded_chunk}
use Rattle.xet_xorb_chunk.specs.Stream.{IsStream}
use Rattle.xet_xorb.specs.declared.building.SerializedXorbObject.{SerializedXorbObject}
use Rattle.xet_xorb.specs.declared.object.XorbObject.{XorbObject}
use Rattle.xet_xorb.specs.declared.raw.RawXorbData.{RawXorbData}
use Rattle.xet_xorb.specs.Footer.{V1, footer_len, xorb_footer_bytes}
use Rattle.xet_xorb.specs.Object.{object_of}
use Rattle.xet_xorb.specs.Raw.{raw_leaves}
use Rattle.xet_xorb.specs.Xorb.{IsXorbEncoding, xorb_bytes}

-- The spare bytes of a new footer: zeros.
abbrev pub no_spare : List ℕ
no_spare = replicate 16 0

-- What follows the stored chunks: a footer of version 1 and its length, or nothing.
abbrev pub ending : Bool → List ℕ → List (List ℕ × ℕ) → List ℕ
ending true hash ms = xorb_footer_bytes V1 hash ms no_spare ++ number (footer_len V1 (length ms))
ending false hash ms = []

abbrev pub start_of_footer : Bool → List (List ℕ) → Option ℕ
start_of_footer true parts = Some (length (flat_map encoded_chunk parts))
start_of_footer false parts = None

-- The encoded xorb with this hash, these (hash, length) pairs and these parts, with or without a footer.
abbrev pub built : List ℕ → List (List ℕ × ℕ) → List (List ℕ) → Bool → SerializedXorbObject
built hash ms parts footer = record {
  serialized_data = flat_map encoded_chunk parts ++ ending footer hash ms;
  hash = hash;
  raw_num_bytes = sum_by length parts;
  num_chunks = length parts;
  footer_start = start_of_footer footer parts;
}

-- The encoding of a raw xorb.
abbrev pub built_of : RawXorbData → Bool → SerializedXorbObject
built_of x footer = built x.xorb_info.metadata.xorb_hash (raw_leaves x) x.parts footer

-- ---- Footers for stored chunks

-- `raw` is these stored chunks, up to its end or to a footer, and a footer can list them.
pub record AreCopied (max_chunk : ℕ) (raw : List ℕ) (chunks : List (List ℕ)) : Type 0 where
  pub stream : IsStream max_chunk raw chunks (Ok tt) ⊎ IsStream max_chunk raw chunks (Err ChunkHeaderParse)
  pub few : length chunks ≤ max_chunks

-- The xorb of these chunks, and its footer with its length.
abbrev pub encoding_of : List (List ℕ) → List ℕ
encoding_of chunks = xorb_bytes V1 (xorb_hash (leaves_of chunks)) (leaves_of chunks) chunks no_spare

abbrev pub object_for : List (List ℕ) → XorbObject
object_for chunks = object_of V1 (xorb_hash (leaves_of chunks)) (leaves_of chunks) no_spare

-- The xorb of the chunks was written, and its footer and its hash were returned. It is well formed if there
-- is a chunk and it has fewer than 2 ^ 32 bytes.
abbrev pub Rebuilds : ℕ → List ℕ → Type 0 → List ℕ → List ℕ → XorbObject × List ℕ → Type 0
Rebuilds max_chunk raw told before now made =
    (chunks : List (List ℕ)) × AreCopied max_chunk raw chunks × (made.0 ≡ object_for chunks) × (made.1 ≡ xorb_hash (leaves_of chunks))
    × (0 < length chunks → length (encoding_of chunks) < 2 ^ 32 → IsXorbEncoding (encoding_of chunks) chunks)
    × (told → now ≡ before ++ encoding_of chunks)

-- The first check of the stored chunks that fails, after no more chunks than a footer can list. A footer is
-- no failure.
pub record FailsCheck (max_chunk : ℕ) (raw : List ℕ) (e : StoreError) : Type 0 where
  pub chunks : List (List ℕ)
  pub stream : IsStream max_chunk raw chunks (Err e)
  pub few : length chunks ≤ max_chunks
  pub failure : e ≢ ChunkHeaderParse

-- There is one whole chunk more than a footer can list.
pub record HasTooManyChunks (max_chunk : ℕ) (raw : List ℕ) : Type 0 where
  pub chunks : List (List ℕ)
  pub whole : Begins max_chunk 0 raw chunks
  pub count : length chunks ≡ 1 + max_chunks

-- Errors of adding a footer: the first check that fails, too many chunks, a failure of the sink, or out of
-- memory.
abbrev pub IsNoRebuild : ℕ → List ℕ → StoreError → Type 0
IsNoRebuild max_chunk raw e = FailsCheck max_chunk raw e ⊎ ((e ≡ MalformedData ChunkCount) × HasTooManyChunks max_chunk raw) ⊎ StopsWriting e

-- A check of the stored chunks failed, or that of their number.
abbrev pub IsRebuildCheck : StoreError → Type 0
IsRebuildCheck e = IsCheck e ⊎ (e ≡ MalformedData ChunkCount)

-- Nothing was written, or a prefix of the xorb.
abbrev pub RebuildsPrefix : ℕ → List ℕ → List ℕ → List ℕ → Type 0
RebuildsPrefix max_chunk raw before now =
    (now ≡ before) ⊎ ((chunks : List (List ℕ)) × (n : ℕ) × AreCopied max_chunk raw chunks × (now ≡ before ++ take n (encoding_of chunks)))
