-- The parts of a xorb that validation checks.
use Rattle.std.specs.Prelude.{◌≡◌, ℕ, ◌+◌, ◌*◌, ◌^◌, ◌<◌, ◌≤◌, List, ◌∷◌, ◌++◌, length, take, drop}
use Rattle.std.specs.List.{AllByRecursion, flat_map}
use Rattle.xet_hash.specs.Merkle.{leaves_of, total_len}
use Rattle.xet_codec.specs.Numbers.{number}
use Rattle.xet_xorb_footer.specs.FooterEncoding.{max_chunks}
use Rattle.xet_xorb_chunk.specs.ChunkEncoding.{le24, encoded_chunk}
use Rattle.xet_xorb.specs.declared.object.XorbObject.{XorbObject}
use Rattle.xet_xorb.specs.Footer.{Version, footer_len, xorb_footer_bytes}
use Rattle.xet_xorb.specs.Object.{object_of}

-- The header of a stored chunk of `n` bytes.
abbrev pub encoded_header : ℕ → List ℕ
encoded_header n = 0 ∷ le24 n ++ 0 ∷ le24 n

-- A chunk of at most `max_chunk` bytes is stored at offset `at`, and ends at offset `end` or before.
pub record IsStoredAt (max_chunk : ℕ) (bytes : List ℕ) (at end : ℕ) (chunk : List ℕ) : Type 0 where
  pub fits : length chunk ≤ max_chunk
  pub within : at + (8 + length chunk) ≤ end
  pub stored : take (8 + length chunk) (drop at bytes) ≡ encoded_chunk chunk

-- `bytes` is these stored chunks, each of at most `max_chunk` bytes.
pub record AreChunks (max_chunk : ℕ) (bytes : List ℕ) (chunks : List (List ℕ)) : Type 0 where
  pub fit : AllByRecursion (λ b. length b ≤ max_chunk) chunks
  pub stored : bytes ≡ flat_map encoded_chunk chunks

-- `bytes` is stored chunks with these (hash, length) pairs.
pub record HaveLeaves (max_chunk : ℕ) (bytes : List ℕ) (ms : List (List ℕ × ℕ)) : Type 0 where
  pub chunks : List (List ℕ)
  pub are : AreChunks max_chunk bytes chunks
  pub leaves : ms ≡ leaves_of chunks

-- What follows the stored chunks: the footer of the pairs `ms`, and its length.
abbrev pub footer_with_length : Version → List ℕ → List (List ℕ × ℕ) → List ℕ → List ℕ
footer_with_length version hash ms spare = xorb_footer_bytes version hash ms spare ++ number (footer_len version (length ms))

-- `bytes` is such an ending, with any spare bytes, and `object` is its footer with its length.
pub record IsEnding (hash : List ℕ) (ms : List (List ℕ × ℕ)) (bytes : List ℕ) (object : XorbObject) : Type 0 where
  pub version : Version
  pub spare : List ℕ
  pub spare_len : length spare ≡ 16
  pub encoded : bytes ≡ footer_with_length version hash ms spare
  pub listed : object ≡ object_of version hash ms spare

-- A footer of these (hash, length) pairs fits: so many chunks may be listed, and the boundary offsets are below 2 ^ 32.
pub record FitsFooter (leaves : List (List ℕ × ℕ)) : Type 0 where
  pub few : length leaves ≤ max_chunks
  pub bound : total_len leaves + 8 * length leaves < 2 ^ 32
