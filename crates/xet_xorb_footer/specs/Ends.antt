-- The footer at the end of a xorb, and its boundary section read alone.
use Rattle.std.specs.Prelude.{ℕ, ◌+◌, ◌-◌, ◌*◌, ◌==◌, nat_le, List, length, drop, take, Result, Ok}
use Rattle.std.specs.Int.{w32, from_le_bytes}
use Rattle.xet_hash.specs.declared.error.Reason.TheVariants.{BoundariesIdent, BoundariesVersion, BoundaryOffset, CountMismatch, InfoLength, TrailingBytes}
use Rattle.xet_hash.specs.declared.error.StoreError.{StoreError}
use Rattle.xet_xorb_footer.specs.declared.info.XorbObjectInfoV1.{XorbObjectInfoV1}
use Rattle.xet_codec.specs.Parsing.{◌>>=◌, Parsed, next_bytes, number_at, times, wants, reaches}
use Rattle.xet_xorb_footer.specs.Reading.{count_at, footer_at, magic_at, number_is, version_at}
use Rattle.xet_xorb_footer.specs.FooterEncoding.{boundaries_magic, empty_v1}

-- The number in the four bytes that start `n` bytes before the end.
abbrev pub number_before : ℕ → List ℕ → ℕ
number_before n bytes = from_le_bytes w32 (take 4 (drop (length bytes - n) bytes))

-- The length of the footer, in the last four bytes.
unfoldable pub footer_length : List ℕ → Result ℕ StoreError
footer_length bytes = reaches (nat_le 4 (length bytes)) >>= λ _. Ok (number_before 4 bytes)

-- The footer before the last four bytes, which hold its length, and that length.
unfoldable pub last_footer : List ℕ → Result (XorbObjectInfoV1 × ℕ) StoreError
last_footer bytes = do
  n ← footer_length bytes
  _ ← reaches (nat_le (n + 4) (length bytes))
  x ← footer_at (drop (length bytes - (n + 4)) bytes)
  _ ← wants (length x.1 == 4) InfoLength
  Ok (x.0, n)

-- The same of bytes that are a footer, its length in four bytes, and nothing else.
unfoldable pub whole_footer : List ℕ → Result (XorbObjectInfoV1 × ℕ) StoreError
whole_footer bytes = do
  x ← footer_at bytes
  n ← number_at x.1
  _ ← wants (n.0 == length bytes - length x.1) InfoLength
  _ ← wants (length n.1 == 0) TrailingBytes
  Ok (x.0, n.0)

-- The boundary section of a footer of version 1 and what follows it, as a footer without hashes.
unfoldable pub boundaries : List ℕ → Parsed XorbObjectInfoV1
boundaries bytes = do
  section ← magic_at boundaries_magic BoundariesIdent bytes
  version ← version_at 1 BoundariesVersion section.1
  n ← count_at version.1
  ends ← times number_at n.0 n.1
  plain ← times number_at n.0 ends.1
  again ← number_is n.0 CountMismatch plain.1
  hashes ← number_at again.1
  place ← number_is (40 + 8 * n.0) BoundaryOffset hashes.1
  spare ← next_bytes 16 place.1
  Ok (
    record empty_v1 {
      chunk_boundary_offsets = ends.0;
      unpacked_chunk_offsets = plain.0;
      num_chunks = n.0;
      hashes_section_offset_from_end = hashes.0;
      boundary_section_offset_from_end = 40 + 8 * n.0;
      spare = spare.0;
    },
    spare.1,
  )

-- The same of the footer before the last four bytes. The number that starts 24 bytes before the end gives the
-- section's offset, in bytes before these four.
unfoldable pub last_boundaries : List ℕ → Parsed XorbObjectInfoV1
last_boundaries bytes = do
  _ ← reaches (nat_le 24 (length bytes))
  _ ← reaches (nat_le (number_before 24 bytes + 4) (length bytes))
  boundaries (drop (length bytes - (number_before 24 bytes + 4)) bytes)
