-- Reading a footer field by field: the next field, its size, the state after it, and all that follows.
use Rattle.std.specs.Prelude.{ℕ, ◌+◌, ◌-◌, ◌*◌, min, nat_eq, Bool, true, false, ◌&&◌, List, [], ◌∷◌, ◌++◌, length, Ok, if◌then◌else◌}
use Rattle.std.specs.Cmp.Lexicographic.{pointwise}
use Rattle.xet_hash.specs.declared.error.Reason.TheVariants as reasons
use Rattle.xet_xorb_footer.specs.declared.info.XorbObjectInfoV0.{XorbObjectInfoV0}
use Rattle.xet_xorb_footer.specs.declared.info.XorbObjectInfoV1.{XorbObjectInfoV1}
use Rattle.xet_xorb_footer.specs.declared.machine.Field.{Field}
use Rattle.xet_xorb_footer.specs.declared.machine.Field.TheVariants as fields
use Rattle.xet_codec.specs.Parsing.{◌>>=◌, Parsed, next_bytes, number_at, times, wants}
use Rattle.xet_xorb_footer.specs.Reading.{count_at, magic_at, number_is, version_at}
use Rattle.xet_xorb_footer.specs.FooterEncoding.{boundaries_magic, empty_v1, footer_magic, hashes_magic, max_chunks, of_v0}

-- The fields read so far, and whether version 1 is accepted.
pub record FooterParts : Type 0 where
  pub either : Bool
  pub is_v1 : Bool
  pub hash : List ℕ
  pub count : ℕ
  pub hashes : List (List ℕ)
  pub ends : List ℕ
  pub plain : List ℕ
  pub spare : List ℕ

-- The footers with these fields.
abbrev pub info_v0 : FooterParts → XorbObjectInfoV0
info_v0 p = record { ident = footer_magic; version = 0; xorb_hash = p.hash; num_chunks = p.count; chunk_boundary_offsets = p.ends; chunk_hashes = p.hashes; spare = p.spare }

abbrev pub info_v1 : FooterParts → XorbObjectInfoV1
info_v1 p = record empty_v1 {
  xorb_hash = p.hash;
  chunk_hashes = p.hashes;
  chunk_boundary_offsets = p.ends;
  unpacked_chunk_offsets = p.plain;
  num_chunks = p.count;
  hashes_section_offset_from_end = 52 + 40 * p.count;
  boundary_section_offset_from_end = 40 + 8 * p.count;
  spare = p.spare;
}

abbrev pub info_of_parts : FooterParts → XorbObjectInfoV1
info_of_parts p = if p.is_v1 then info_v1 p else of_v0 (info_v0 p)

-- ---- Fields

-- Number of items in the next field of a list that has the items `xs` so far: at most 64.
abbrev pub block_of : {X : Type 0} → FooterParts → List X → ℕ
block_of p xs = min 64 (p.count - length xs)

-- Size of a field, in bytes.
abbrev pub wanted_of : Field → FooterParts → ℕ
wanted_of fields.Ident p = 7
wanted_of fields.Version p = 1
wanted_of fields.Hash p = 32
wanted_of fields.HashesIdent p = 7
wanted_of fields.HashesVersion p = 1
wanted_of fields.Count p = 4
wanted_of fields.Hashes p = 32 * block_of p p.hashes
wanted_of fields.BoundariesIdent p = 7
wanted_of fields.BoundariesVersion p = 1
wanted_of fields.CountAgain p = 4
wanted_of fields.Ends p = 4 * block_of p p.ends
wanted_of fields.PlainEnds p = 4 * block_of p p.plain
wanted_of fields.CountLast p = 4
wanted_of fields.HashesOffset p = 4
wanted_of fields.BoundaryOffset p = 4
wanted_of fields.Spare p = 16
wanted_of fields.Done p = 0

-- ---- One field

-- ---- All fields from one on

unfoldable pub rest_spare : FooterParts → List ℕ → Parsed FooterParts
rest_spare p bytes = next_bytes 16 bytes >>= λ x. Ok (record p { spare = x.0 }, x.1)

-- Version 0.
unfoldable pub rest_hashes_v0 : FooterParts → List ℕ → Parsed FooterParts
rest_hashes_v0 p bytes = times (next_bytes 32) (p.count - length p.hashes) bytes >>= λ x. rest_spare (record p { hashes = p.hashes ++ x.0 }) x.1

unfoldable pub rest_ends_v0 : FooterParts → List ℕ → Parsed FooterParts
rest_ends_v0 p bytes = times number_at (p.count - length p.ends) bytes >>= λ x. rest_hashes_v0 (record p { ends = p.ends ++ x.0 }) x.1

-- Version 1.
unfoldable pub rest_boundary_offset : FooterParts → List ℕ → Parsed FooterParts
rest_boundary_offset p bytes = number_is (40 + 8 * p.count) reasons.BoundaryOffset bytes >>= λ x. rest_spare p x.1

unfoldable pub rest_hashes_offset : FooterParts → List ℕ → Parsed FooterParts
rest_hashes_offset p bytes = number_is (52 + 40 * p.count) reasons.HashesOffset bytes >>= λ x. rest_boundary_offset p x.1

unfoldable pub rest_count_last : FooterParts → List ℕ → Parsed FooterParts
rest_count_last p bytes = number_is p.count reasons.CountMismatch bytes >>= λ x. rest_hashes_offset p x.1

unfoldable pub rest_plain : FooterParts → List ℕ → Parsed FooterParts
rest_plain p bytes = times number_at (p.count - length p.plain) bytes >>= λ x. rest_count_last (record p { plain = p.plain ++ x.0 }) x.1

unfoldable pub rest_ends_v1 : FooterParts → List ℕ → Parsed FooterParts
rest_ends_v1 p bytes = times number_at (p.count - length p.ends) bytes >>= λ x. rest_plain (record p { ends = p.ends ++ x.0 }) x.1

abbrev pub rest_ends : FooterParts → List ℕ → Parsed FooterParts
rest_ends p bytes = if p.is_v1 then rest_ends_v1 p bytes else rest_ends_v0 p bytes

unfoldable pub rest_count_again : FooterParts → List ℕ → Parsed FooterParts
rest_count_again p bytes = number_is p.count reasons.CountMismatch bytes >>= λ x. rest_ends p x.1

unfoldable pub rest_boundaries_version : FooterParts → List ℕ → Parsed FooterParts
rest_boundaries_version p bytes = version_at 1 reasons.BoundariesVersion bytes >>= λ x. rest_count_again p x.1

unfoldable pub rest_boundaries_magic : FooterParts → List ℕ → Parsed FooterParts
rest_boundaries_magic p bytes = magic_at boundaries_magic reasons.BoundariesIdent bytes >>= λ x. rest_boundaries_version p x.1

unfoldable pub rest_hashes_v1 : FooterParts → List ℕ → Parsed FooterParts
rest_hashes_v1 p bytes = times (next_bytes 32) (p.count - length p.hashes) bytes >>= λ x. rest_boundaries_magic (record p { hashes = p.hashes ++ x.0 }) x.1

-- Either version.
abbrev pub rest_hashes : FooterParts → List ℕ → Parsed FooterParts
rest_hashes p bytes = if p.is_v1 then rest_hashes_v1 p bytes else rest_hashes_v0 p bytes

abbrev pub rest_lists : FooterParts → List ℕ → Parsed FooterParts
rest_lists p bytes = if p.is_v1 then rest_hashes_v1 p bytes else rest_ends_v0 p bytes

unfoldable pub rest_count : FooterParts → List ℕ → Parsed FooterParts
rest_count p bytes = count_at bytes >>= λ x. rest_lists (record p { count = x.0 }) x.1

unfoldable pub rest_hashes_version : FooterParts → List ℕ → Parsed FooterParts
rest_hashes_version p bytes = version_at 0 reasons.HashesVersion bytes >>= λ x. rest_count p x.1

unfoldable pub rest_hashes_magic : FooterParts → List ℕ → Parsed FooterParts
rest_hashes_magic p bytes = magic_at hashes_magic reasons.HashesIdent bytes >>= λ x. rest_hashes_version p x.1

abbrev pub rest_after_hash : FooterParts → List ℕ → Parsed FooterParts
rest_after_hash p bytes = if p.is_v1 then rest_hashes_magic p bytes else rest_count p bytes

unfoldable pub rest_hash : FooterParts → List ℕ → Parsed FooterParts
rest_hash p bytes = next_bytes 32 bytes >>= λ x. rest_after_hash (record p { hash = x.0 }) x.1

abbrev pub rest_after_version : FooterParts → List ℕ → List ℕ → Parsed FooterParts
rest_after_version p version bytes = if p.either && pointwise nat_eq version (1 ∷ []) then rest_hash (record p { is_v1 = true }) bytes else (wants (pointwise nat_eq version (0 ∷ [])) reasons.Version >>= λ _. rest_hash (record p { is_v1 = false }) bytes)

unfoldable pub rest_version : FooterParts → List ℕ → Parsed FooterParts
rest_version p bytes = next_bytes 1 bytes >>= λ x. rest_after_version p x.0 x.1

unfoldable pub rest_magic : FooterParts → List ℕ → Parsed FooterParts
rest_magic p bytes = magic_at footer_magic reasons.Ident bytes >>= λ x. rest_version p x.1

-- What reading gives from a field on.
unfoldable pub rest : Field → FooterParts → List ℕ → Parsed FooterParts
rest fields.Ident p bytes = rest_magic p bytes
rest fields.Version p bytes = rest_version p bytes
rest fields.Hash p bytes = rest_hash p bytes
rest fields.HashesIdent p bytes = rest_hashes_magic p bytes
rest fields.HashesVersion p bytes = rest_hashes_version p bytes
rest fields.Count p bytes = rest_count p bytes
rest fields.Hashes p bytes = rest_hashes p bytes
rest fields.BoundariesIdent p bytes = rest_boundaries_magic p bytes
rest fields.BoundariesVersion p bytes = rest_boundaries_version p bytes
rest fields.CountAgain p bytes = rest_count_again p bytes
rest fields.Ends p bytes = rest_ends p bytes
rest fields.PlainEnds p bytes = rest_plain p bytes
rest fields.CountLast p bytes = rest_count_last p bytes
rest fields.HashesOffset p bytes = rest_hashes_offset p bytes
rest fields.BoundaryOffset p bytes = rest_boundary_offset p bytes
rest fields.Spare p bytes = rest_spare p bytes
rest fields.Done p bytes = Ok (p, bytes)

-- ---- Number of bytes left

-- Maximum number of bytes after the boundary offsets.
abbrev pub room_behind_ends : FooterParts → ℕ
room_behind_ends p = if p.is_v1 then 28 + 4 * p.count else 16 + 32 * p.count

-- Maximum number of bytes from a field on.
abbrev pub room_of : Field → FooterParts → ℕ
room_of fields.Ident p = 92 + 40 * max_chunks
room_of fields.Version p = 85 + 40 * max_chunks
room_of fields.Hash p = 84 + 40 * max_chunks
room_of fields.HashesIdent p = 52 + 40 * max_chunks
room_of fields.HashesVersion p = 45 + 40 * max_chunks
room_of fields.Count p = 44 + 40 * max_chunks
room_of fields.Hashes p = (if p.is_v1 then 40 + 8 * p.count else 16) + 32 * (p.count - length p.hashes)
room_of fields.BoundariesIdent p = 12 + room_behind_ends p + 4 * p.count
room_of fields.BoundariesVersion p = 5 + room_behind_ends p + 4 * p.count
room_of fields.CountAgain p = 4 + room_behind_ends p + 4 * p.count
room_of fields.Ends p = room_behind_ends p + 4 * (p.count - length p.ends)
room_of fields.PlainEnds p = 28 + 4 * (p.count - length p.plain)
room_of fields.CountLast p = 28
room_of fields.HashesOffset p = 24
room_of fields.BoundaryOffset p = 20
room_of fields.Spare p = 16
room_of fields.Done p = 0
