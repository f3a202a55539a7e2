-- Reading a footer: its checks in the order of the bytes, with the error of the first that fails.
use Rattle.std.specs.Prelude.{ℕ, ◌+◌, ◌*◌, ◌==◌, nat_eq, nat_le, List, [], ◌∷◌, Ok, if◌then◌else◌}
use Rattle.std.specs.Cmp.Lexicographic.{pointwise}
use Rattle.xet_hash.specs.declared.error.Reason.{Reason}
use Rattle.xet_hash.specs.declared.error.Reason.TheVariants.{BoundariesIdent, BoundariesVersion, BoundaryOffset, ChunkCount, CountMismatch, HashesIdent, HashesOffset, HashesVersion, Ident, Version}
use Rattle.xet_xorb_footer.specs.declared.info.XorbObjectInfoV0.{XorbObjectInfoV0}
use Rattle.xet_xorb_footer.specs.declared.info.XorbObjectInfoV1.{XorbObjectInfoV1}
use Rattle.xet_xorb_footer.specs.FooterEncoding.{boundaries_magic, footer_magic, hashes_magic, max_chunks, of_v0}
use Rattle.xet_codec.specs.Parsing.{Parsed, next_bytes, number_at, times, wants, ◌>>=◌}

-- The magic of a footer or of a section, which must be `ident`.
unfoldable pub magic_at : List ℕ → Reason → List ℕ → Parsed (Unit {0})
magic_at ident reason bytes = do
  x ← next_bytes 7 bytes
  _ ← wants (pointwise nat_eq x.0 ident) reason
  Ok (tt, x.1)

-- A byte that must be `version`.
unfoldable pub version_at : ℕ → Reason → List ℕ → Parsed (Unit {0})
version_at version reason bytes = do
  x ← next_bytes 1 bytes
  _ ← wants (pointwise nat_eq x.0 (version ∷ [])) reason
  Ok (tt, x.1)

-- A number that must be `n`.
unfoldable pub number_is : ℕ → Reason → List ℕ → Parsed (Unit {0})
number_is n reason bytes = do
  x ← number_at bytes
  _ ← wants (x.0 == n) reason
  Ok (tt, x.1)

-- The number of chunks, at most `max_chunks`.
unfoldable pub count_at : List ℕ → Parsed ℕ
count_at bytes = do
  x ← number_at bytes
  _ ← wants (nat_le x.0 max_chunks) ChunkCount
  Ok x

-- What follows the magic and the version in a footer of version 0.
unfoldable pub rest_v0 : List ℕ → Parsed XorbObjectInfoV0
rest_v0 bytes = do
  hash ← next_bytes 32 bytes
  n ← count_at hash.1
  ends ← times number_at n.0 n.1
  hashes ← times (next_bytes 32) n.0 ends.1
  spare ← next_bytes 16 hashes.1
  Ok (record { ident = footer_magic; version = 0; xorb_hash = hash.0; num_chunks = n.0; chunk_boundary_offsets = ends.0; chunk_hashes = hashes.0; spare = spare.0 }, spare.1)

-- The same in a footer of version 1.
unfoldable pub rest_v1 : List ℕ → Parsed XorbObjectInfoV1
rest_v1 bytes = do
  hash ← next_bytes 32 bytes
  section ← magic_at hashes_magic HashesIdent hash.1
  version ← version_at 0 HashesVersion section.1
  n ← count_at version.1
  hashes ← times (next_bytes 32) n.0 n.1
  section ← magic_at boundaries_magic BoundariesIdent hashes.1
  version ← version_at 1 BoundariesVersion section.1
  again ← number_is n.0 CountMismatch version.1
  ends ← times number_at n.0 again.1
  plain ← times number_at n.0 ends.1
  again ← number_is n.0 CountMismatch plain.1
  place ← number_is (52 + 40 * n.0) HashesOffset again.1
  place ← number_is (40 + 8 * n.0) BoundaryOffset place.1
  spare ← next_bytes 16 place.1
  Ok (
    record {
      ident = footer_magic;
      version = 1;
      xorb_hash = hash.0;
      ident_hash_section = hashes_magic;
      hashes_version = 0;
      chunk_hashes = hashes.0;
      ident_boundary_section = boundaries_magic;
      boundaries_version = 1;
      chunk_boundary_offsets = ends.0;
      unpacked_chunk_offsets = plain.0;
      num_chunks = n.0;
      hashes_section_offset_from_end = 52 + 40 * n.0;
      boundary_section_offset_from_end = 40 + 8 * n.0;
      spare = spare.0;
    },
    spare.1,
  )

-- The magic, and the version as one byte.
unfoldable pub version_of : List ℕ → Parsed (List ℕ)
version_of bytes = do
  x ← magic_at footer_magic Ident bytes
  next_bytes 1 x.1

-- A footer of version 0.
unfoldable pub footer_v0 : List ℕ → Parsed XorbObjectInfoV0
footer_v0 bytes = do
  version ← version_of bytes
  _ ← wants (pointwise nat_eq version.0 (0 ∷ [])) Version
  rest_v0 version.1

-- A footer of either version, as one of version 1.
unfoldable pub footer_at : List ℕ → Parsed XorbObjectInfoV1
footer_at bytes = do
  version ← version_of bytes
  if pointwise nat_eq version.0 (1 ∷ []) then rest_v1 version.1 else (wants (pointwise nat_eq version.0 (0 ∷ [])) Version >>= λ _. rest_v0 version.1 >>= λ x. Ok (of_v0 x.0, x.1))
