-- Theorems about footers: round trips and lengths.
use Rattle.std.specs.Prelude.{◌≡◌, ◌<◌, ◌≤◌, ℕ, ◌+◌, ◌*◌, ◌^◌, List, ◌++◌, length, Ok}
use Rattle.std.specs.List.{AllByRecursion}
use Rattle.xet_xorb_footer.specs.declared.info.XorbObjectInfoV0.{XorbObjectInfoV0}
use Rattle.xet_xorb_footer.specs.declared.info.XorbObjectInfoV1.{XorbObjectInfoV1}
use Rattle.xet_xorb_footer.specs.Ends.{last_footer}
use Rattle.xet_xorb_footer.specs.Reading.{footer_at}
use Rattle.xet_xorb_footer.specs.FooterEncoding.{HasLists, boundaries_magic, footer_magic, hashes_magic, max_chunks, of_v0, footer_bytes_v0, footer_bytes_v1}
use Rattle.xet_codec.specs.Numbers.{number}

-- A well-formed footer of version 1.
pub record IsStandard (i : XorbObjectInfoV1) : Type 0 where
  pub ident : i.ident ≡ footer_magic
  pub version : i.version ≡ 1
  pub hash : length i.xorb_hash ≡ 32
  pub hashes_magic : i.ident_hash_section ≡ hashes_magic
  pub hashes_version : i.hashes_version ≡ 0
  pub boundaries_magic : i.ident_boundary_section ≡ boundaries_magic
  pub boundaries_version : i.boundaries_version ≡ 1
  pub few : i.num_chunks ≤ max_chunks
  pub lists : HasLists i
  pub whole_hashes : AllByRecursion (λ h. length h ≡ 32) i.chunk_hashes
  pub small_stored : AllByRecursion (λ n. n < 2 ^ 32) i.chunk_boundary_offsets
  pub small_plain : AllByRecursion (λ n. n < 2 ^ 32) i.unpacked_chunk_offsets
  pub hashes_offset : i.hashes_section_offset_from_end ≡ 52 + 40 * i.num_chunks
  pub boundary_offset : i.boundary_section_offset_from_end ≡ 40 + 8 * i.num_chunks
  pub spare : length i.spare ≡ 16

abbrev pub WrittenIsRead : Type 0
WrittenIsRead = (i : XorbObjectInfoV1) (more : List ℕ) → IsStandard i → footer_at (footer_bytes_v1 i ++ more) ≡ Ok (i, more)

abbrev pub LengthIsKnown : Type 0
LengthIsKnown = (i : XorbObjectInfoV1) → IsStandard i → length (footer_bytes_v1 i) ≡ 92 + 40 * i.num_chunks

-- A footer that is followed by its length, at the end of other bytes.
abbrev pub LastIsRead : Type 0
LastIsRead = (i : XorbObjectInfoV1) (prefix : List ℕ) → IsStandard i → last_footer (prefix ++ (footer_bytes_v1 i ++ number (92 + 40 * i.num_chunks))) ≡ Ok (i, 92 + 40 * i.num_chunks)

-- ---- Version 0

-- A well-formed footer of version 0.
pub record IsStandardV0 (i : XorbObjectInfoV0) : Type 0 where
  pub ident : i.ident ≡ footer_magic
  pub version : i.version ≡ 0
  pub hash : length i.xorb_hash ≡ 32
  pub few : i.num_chunks ≤ max_chunks
  pub hashes : length i.chunk_hashes ≡ i.num_chunks
  pub stored : length i.chunk_boundary_offsets ≡ i.num_chunks
  pub whole_hashes : AllByRecursion (λ h. length h ≡ 32) i.chunk_hashes
  pub small_stored : AllByRecursion (λ n. n < 2 ^ 32) i.chunk_boundary_offsets
  pub spare : length i.spare ≡ 16

abbrev pub WrittenIsReadV0 : Type 0
WrittenIsReadV0 = (i : XorbObjectInfoV0) (more : List ℕ) → IsStandardV0 i → footer_at (footer_bytes_v0 i ++ more) ≡ Ok (of_v0 i, more)

abbrev pub LengthIsKnownV0 : Type 0
LengthIsKnownV0 = (i : XorbObjectInfoV0) → IsStandardV0 i → length (footer_bytes_v0 i) ≡ 60 + 36 * i.num_chunks

abbrev pub LastIsReadV0 : Type 0
LastIsReadV0 = (i : XorbObjectInfoV0) (prefix : List ℕ) → IsStandardV0 i → last_footer (prefix ++ (footer_bytes_v0 i ++ number (60 + 36 * i.num_chunks))) ≡ Ok (of_v0 i, 60 + 36 * i.num_chunks)
