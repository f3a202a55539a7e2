-- Xorbs of random chunks, and xorbs that are written from their parts, for private functions.
use Rattle.std.specs.Prelude.{◌≡◌, ℕ, ◌-◌, List, map}
use Rattle.rand_core.specs.Stream.{Stream}
use Rattle.xet_xorb_chunk.specs.declared.chunk.Chunk.{Chunk}
use Rattle.xet_xorb_chunk.specs.Chunks.{chunk_of}
use Rattle.xet_xorb_samples.specs.declared.samples.ChunkSize.{ChunkSize}
use Rattle.xet_hash.specs.Merkle.{xorb_hash}
use Rattle.xet_xorb.specs.Building.{no_spare}
use Rattle.xet_xorb.specs.Footer.{V1}
use Rattle.xet_xorb.specs.Object.{object_of}
use Rattle.xet_xorb.specs.declared.object.XorbObject.{XorbObject}
use Rattle.xet_xorb_samples.specs.Samples.{AreSamples, Rise, leaves_from}

-- The same as chunks in memory, which carry their own hashes.
abbrev pub AreSampleChunks : ℕ → ChunkSize → Stream → List Chunk → Stream → Type 0
AreSampleChunks n size before chunks after = (bytes : List (List ℕ)) × AreSamples n size before bytes after × (chunks ≡ map chunk_of bytes)

-- The footer, with its length, of chunks that are given by their hashes and end offsets, under the hash of these.
abbrev pub object_of_boundaries : List (List ℕ × ℕ) → XorbObject
object_of_boundaries boundaries = object_of V1 (xorb_hash (leaves_from 0 boundaries)) (leaves_from 0 boundaries) no_spare

-- The offsets do not fall.
abbrev pub DoRise : List (List ℕ × ℕ) → Type 0
DoRise boundaries = (len : ℕ) × Rise 0 boundaries len
