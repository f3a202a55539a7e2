-- The parts of a boundary section, as they are read at an offset.
use Rattle.std.specs.Prelude.{ℕ, ◌+◌, ◌*◌, nat_eq, List, Ok}
use Rattle.std.specs.Cmp.Lexicographic.{pointwise}
use Rattle.xet_hash.specs.declared.error.Reason.{Reason}
use Rattle.xet_hash.specs.declared.error.Reason.TheVariants.{BoundariesIdent, BoundariesVersion, BoundaryOffset, CountMismatch}
use Rattle.xet_codec.specs.Parsing.{Parsed, next_bytes, number_at, times, wants, ◌>>=◌}
use Rattle.xet_xorb_footer.specs.Reading.{count_at, magic_at, number_is, version_at}
use Rattle.xet_xorb_footer.specs.FooterEncoding.{boundaries_magic}

-- `n` bytes that must be `wanted`.
unfoldable pub checked_at : ℕ → List ℕ → Reason → List ℕ → Parsed (Unit {0})
checked_at n wanted reason bytes = do
  x ← next_bytes n bytes
  _ ← wants (pointwise nat_eq x.0 wanted) reason
  Ok (tt, x.1)

-- Magic, version and number of chunks.
unfoldable pub head_at : List ℕ → Parsed ℕ
head_at bytes = do
  section ← magic_at boundaries_magic BoundariesIdent bytes
  version ← version_at 1 BoundariesVersion section.1
  count_at version.1

-- The boundary offsets and the uncompressed boundary offsets of `n` chunks.
unfoldable pub lists_at : ℕ → List ℕ → Parsed (List ℕ × List ℕ)
lists_at n bytes = do
  ends ← times number_at n bytes
  plain ← times number_at n ends.1
  Ok ((ends.0, plain.0), plain.1)

-- What follows the section of `n` chunks: the offset of the hash section, and the spare bytes.
unfoldable pub tail_at : ℕ → List ℕ → Parsed (ℕ × List ℕ)
tail_at n bytes = do
  again ← number_is n CountMismatch bytes
  hashes ← number_at again.1
  place ← number_is (40 + 8 * n) BoundaryOffset hashes.1
  spare ← next_bytes 16 place.1
  Ok ((hashes.0, spare.0), spare.1)
