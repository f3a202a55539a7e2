-- The encoding of a xorb.
use Rattle.std.specs.Prelude.{◌≡◌, ℕ, ◌<◌, ◌^◌, List, ◌++◌, length}
use Rattle.std.specs.List.{AllByRecursion, flat_map}
use Rattle.xet_hash.specs.Merkle.{leaves_of, xorb_hash}
use Rattle.xet_codec.specs.Numbers.{number}
use Rattle.xet_xorb_chunk.specs.ChunkEncoding.{encoded_chunk}
use Rattle.xet_xorb.specs.Footer.{Version, footer_len, xorb_footer_bytes}

-- A xorb with this hash: the stored chunks, the footer of the pairs `ms`, and the length of the footer.
unfoldable pub xorb_bytes : Version → List ℕ → List (List ℕ × ℕ) → List (List ℕ) → List ℕ → List ℕ
xorb_bytes version hash ms chunks spare =
    flat_map encoded_chunk chunks ++ (xorb_footer_bytes version hash ms spare ++ number (footer_len version (length ms)))

-- `bytes` is a well-formed xorb of these chunks. There is at least one chunk, each has fewer than 2 ^ 24
-- bytes, and the xorb has fewer than 2 ^ 32. The hashes in the footer are those of the chunks. The footer has
-- either version, and any 16 spare bytes.
pub record IsXorbEncoding (bytes : List ℕ) (chunks : List (List ℕ)) : Type 0 where
  pub some : 0 < length chunks
  pub small : AllByRecursion (λ b. length b < 2 ^ 24) chunks
  pub bound : length bytes < 2 ^ 32
  pub version : Version
  pub spare : List ℕ
  pub spare_len : length spare ≡ 16
  pub encoded : bytes ≡ xorb_bytes version (xorb_hash (leaves_of chunks)) (leaves_of chunks) chunks spare
