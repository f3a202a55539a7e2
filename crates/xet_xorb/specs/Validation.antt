-- Bytes that are valid as a xorb of a given hash.
use Rattle.std.specs.Prelude.{◌≡◌, ℕ, ◌+◌, ◌*◌, ◌<◌, ◌≤◌, ◌^◌, List, length}
use Rattle.std.specs.List.{AllByRecursion}
use Rattle.xet_hash.specs.Merkle.{leaves_of, total_len, xorb_hash}
use Rattle.xet_xorb.specs.declared.object.XorbObject.{XorbObject}
use Rattle.xet_xorb.specs.Footer.{Version}
use Rattle.xet_xorb.specs.Object.{object_of}
use Rattle.xet_xorb.specs.Xorb.{IsXorbEncoding}

-- `bytes` is a xorb of these chunks, each of at most `max_chunk` bytes, with this hash.
pub record IsXorbOf (max_chunk : ℕ) (hash bytes : List ℕ) (chunks : List (List ℕ)) : Type 0 where
  pub encoding : IsXorbEncoding bytes chunks
  pub fit : AllByRecursion (λ b. length b ≤ max_chunk) chunks
  pub hashed : xorb_hash (leaves_of chunks) ≡ hash

-- The same, and `object` is its footer with its length.
pub record IsValid (max_chunk : ℕ) (hash bytes : List ℕ) (chunks : List (List ℕ)) (object : XorbObject) : Type 0 where
  pub xorb : IsXorbOf max_chunk hash bytes chunks
  pub listed : object ≡ object_of xorb.encoding.version hash (leaves_of chunks) xorb.encoding.spare

-- `object` is the footer, with its length, that a xorb with this hash has: of one or more (hash, length) pairs,
-- whose xorb hash is this hash, each of at most `max_chunk` bytes. The stored chunks, headers included, have fewer
-- than 2 ^ 32 bytes. That these chunks are stored is not said.
pub record IsFooterOf (max_chunk : ℕ) (hash : List ℕ) (object : XorbObject) : Type 0 where
  pub version : Version
  pub leaves : List (List ℕ × ℕ)
  pub spare : List ℕ
  pub listed : object ≡ object_of version hash leaves spare
  pub some : 0 < length leaves
  pub hashed : xorb_hash leaves ≡ hash
  pub fit : AllByRecursion (λ m. m.1 ≤ max_chunk) leaves
  pub spare_len : length spare ≡ 16
  pub bound : total_len leaves + 8 * length leaves < 2 ^ 32
