-- Xorbs of random chunks, and xorbs that are written from their parts.
use Rattle.std.specs.Prelude.{◌≡◌, ℕ, ◌+◌, ◌-◌, ◌*◌, ◌<◌, ◌≤◌, ◌^◌, List, [], ◌∷◌, ◌++◌, codes, decimal, length, pos, ◌+ℤ◌, slice_range}
use Rattle.std.specs.List.{AllByRecursion, concat, flat_map}
use Rattle.rand.specs.Draw.{Gives}
use Rattle.rand.specs.Uniform.{DrawsBetween, canon}
use Rattle.rand_core.specs.Stream.{Stream, fill_bytes, next_u32}
use Rattle.xet_hash.specs.Merkle.{chunk_hash}
use Rattle.xet_xorb_chunk.specs.ChunkEncoding.{encoded_chunk}
use Rattle.xet_xorb.specs.declared.building.SerializedXorbObject.{SerializedXorbObject}
use Rattle.xet_xorb.specs.declared.object.XorbObject.{XorbObject}
use Rattle.xet_xorb_samples.specs.declared.samples.ChunkSize.{ChunkSize}
use Rattle.xet_xorb_samples.specs.declared.samples.ChunkSize.TheVariants.{Fixed, Random}
use Rattle.xet_xorb.specs.Building.{object_for}
use Rattle.xet_xorb.specs.Raw.{ArePartsOfXorb}

-- ---- Random chunks

abbrev pub HasSize : ChunkSize → ℕ → Type 0
HasSize (Random min max) n = (min ≤ n) × (n ≤ max)
HasSize (Fixed size) n = n ≡ size

abbrev pub IsOrdered : ChunkSize → Type 0
IsOrdered (Random min max) = min ≤ max
IsOrdered (Fixed size) = Unit {0}

abbrev pub max_size : ChunkSize → ℕ
max_size (Random min max) = max
max_size (Fixed size) = size

-- `[a, b]`, or the number alone.
abbrev pub size_text : ChunkSize → List ℕ
size_text (Random min max) = codes "[" ++ decimal min ++ codes ", " ++ decimal max ++ codes "]"
size_text (Fixed size) = decimal size

-- A xorb may have `n` chunks of this size.
pub record FitXorb (n : ℕ) (size : ChunkSize) : Type 0 where
  pub ordered : IsOrdered size
  pub count : n ≤ 65536
  pub small : max_size size < 2 ^ 24
  pub total : n * max_size size ≤ 2 ^ 30

-- The length of one chunk that a generator's stream gives, and the stream that is left: a uniform number of
-- the range. A fixed length draws nothing.
abbrev pub DrawsSize : ChunkSize → Stream → ℕ → Stream → Type 0
DrawsSize (Random min max) before n after = DrawsBetween pos (2 ^ 32) (Gives next_u32) (canon (2 ^ 32) next_u32) (pos min) (pos max +ℤ pos 1) before n after
DrawsSize (Fixed size) before n after = (n ≡ size) × (after ≡ before)

-- One chunk is drawn: its length, and then its bytes.
pub record DrawsChunk (size : ChunkSize) (before : Stream) (chunk : List ℕ) (after : Stream) : Type 0 where
  pub sized : Stream
  pub length_drawn : DrawsSize size before (length chunk) sized
  pub bytes_drawn : (chunk, after) ≡ fill_bytes (length chunk) sized

-- The chunks are drawn one after another.
abbrev pub DrawsChunks : ChunkSize → Stream → List (List ℕ) → Stream → Type 0
DrawsChunks size before [] after = after ≡ before
DrawsChunks size before (c ∷ cs) after = (between : Stream) × DrawsChunk size before c between × DrawsChunks size between cs after

-- `n` chunks of this size are drawn from the stream `before`, and the stream `after` is left.
pub record AreSamples (n : ℕ) (size : ChunkSize) (before : Stream) (chunks : List (List ℕ)) (after : Stream) : Type 0 where
  pub count : length chunks ≡ n
  pub sizes : AllByRecursion (λ c. HasSize size (length c)) chunks
  pub drawn : DrawsChunks size before chunks after

-- The hash of each chunk, and its end offset among the uncompressed bytes, if the first starts at `at`.
abbrev pub chunk_boundaries : ℕ → List (List ℕ) → List (List ℕ × ℕ)
chunk_boundaries at [] = []
chunk_boundaries at (c ∷ cs) = (chunk_hash c, at + length c) ∷ chunk_boundaries (at + length c) cs

-- A sample: the footer, with its length, of the xorb of `n` drawn chunks, the stored chunks, their
-- uncompressed bytes, and their hashes and end offsets.
pub record IsSampleOf (n : ℕ) (size : ChunkSize) (before after : Stream) (object : XorbObject) (stored plain : List ℕ) (boundaries : List (List ℕ × ℕ)) : Type 0 where
  pub chunks : List (List ℕ)
  pub samples : AreSamples n size before chunks after
  pub of_chunks : object ≡ object_for chunks
  pub encoded : stored ≡ flat_map encoded_chunk chunks
  pub joined : plain ≡ concat chunks
  pub cut : boundaries ≡ chunk_boundaries 0 chunks

-- ---- Xorbs from their parts

-- The parts of `bytes` up to each end offset, the first from offset `at` on.
abbrev pub parts_from : ℕ → List (List ℕ × ℕ) → List ℕ → List (List ℕ)
parts_from at [] bytes = []
parts_from at (c ∷ cs) bytes = slice_range bytes at c.1 ∷ parts_from c.1 cs bytes

-- The (hash, length) pair of each part.
abbrev pub leaves_from : ℕ → List (List ℕ × ℕ) → List (List ℕ × ℕ)
leaves_from at [] = []
leaves_from at (c ∷ cs) = (c.0, c.1 - at) ∷ leaves_from c.1 cs

-- The offsets do not fall, and none passes `len`.
abbrev pub Rise : ℕ → List (List ℕ × ℕ) → ℕ → Type 0
Rise at [] len = at ≤ len
Rise at (c ∷ cs) len = (at ≤ c.1) × Rise c.1 cs len

-- The offsets divide `bytes` into chunks within the limits of a xorb.
pub record AreBoundaries (bytes : List ℕ) (boundaries : List (List ℕ × ℕ)) : Type 0 where
  pub rise : Rise 0 boundaries (length bytes)
  pub parts : ArePartsOfXorb (parts_from 0 boundaries bytes)

-- Two built xorbs have the same bytes, uncompressed length and number of chunks.
pub record AreAlike (s t : SerializedXorbObject) : Type 0 where
  pub bytes : s.serialized_data ≡ t.serialized_data
  pub plain : s.raw_num_bytes ≡ t.raw_num_bytes
  pub count : s.num_chunks ≡ t.num_chunks
