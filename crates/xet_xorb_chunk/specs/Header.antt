-- Chunk headers: the eight bytes before the body of each stored chunk. Numbers are little-endian.
use Rattle.std.specs.Prelude.{ℕ, ◌*◌, ◌==◌, ◌||◌, nat_eq, nat_le, Bool, List, [], ◌∷◌, ◌++◌, take, drop, codes, Result, Ok, Err, if◌then◌else◌, slice_index}
use Rattle.std.specs.Cmp.Lexicographic.{pointwise}
use Rattle.std.specs.Int.{w32, from_le_bytes}
use Rattle.xet_hash.specs.declared.error.StoreError.{StoreError}
use Rattle.xet_hash.specs.declared.error.StoreError.TheVariants.{ChunkHeaderParse, MalformedData}
use Rattle.xet_hash.specs.declared.error.Reason.TheVariants.{HeaderVersion, PlainLength, Scheme, StoredLength}
use Rattle.xet_xorb_chunk.specs.ChunkEncoding.{le24}

-- The fields of a header: version, compressed length, number of the scheme, uncompressed length.
pub record Header : Type 0 where
  pub version : ℕ
  pub stored : ℕ
  pub scheme : ℕ
  pub plain : ℕ

-- The number in the three bytes from offset `at` on.
abbrev pub le24_at : ℕ → List ℕ → ℕ
le24_at at bytes = from_le_bytes w32 (take 3 (drop at bytes) ++ 0 ∷ [])

-- The fields of eight bytes, without any check.
abbrev pub header_of : List ℕ → Header
header_of bytes = record {
  version = slice_index bytes 0;
  stored = le24_at 1 bytes;
  scheme = slice_index bytes 4;
  plain = le24_at 5 bytes;
}

-- The encoding of a header, eight bytes.
abbrev pub header_bytes : Header → List ℕ
header_bytes h = h.version ∷ le24 h.stored ++ h.scheme ∷ le24 h.plain

abbrev pub is_scheme : ℕ → Bool
is_scheme n = (n == 0) || (n == 1) || (n == 2) || (n == 99)

-- A check: the next result if it holds, otherwise its error.
abbrev pub checked_then : {X : Type 0} → Bool → StoreError → Result X StoreError → Result X StoreError
checked_then holds error next = if holds then next else Err error

abbrev pub is_footer_magic : List ℕ → Bool
is_footer_magic bytes = pointwise nat_eq (take 7 bytes) (codes "XETBLOB")

-- Parses eight bytes as the header of a chunk of at most `max_chunk` bytes; the error is that of the first check
-- that fails. The bytes must not begin with the magic of a footer, the scheme must be known, the version 0,
-- the uncompressed length at most `max_chunk`, and the compressed length at most twice that.
unfoldable pub header_at : ℕ → List ℕ → Result Header StoreError
header_at max_chunk bytes =
    if is_footer_magic bytes then Err ChunkHeaderParse
    else checked_then (is_scheme (header_of bytes).scheme) (MalformedData Scheme)
    (checked_then ((header_of bytes).version == 0) (MalformedData HeaderVersion)
    (checked_then (nat_le (header_of bytes).stored (2 * max_chunk)) (MalformedData StoredLength)
    (checked_then (nat_le (header_of bytes).plain max_chunk) (MalformedData PlainLength)
    (Ok (header_of bytes)))))
