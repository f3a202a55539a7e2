-- Lengths of encoded footers.
use Rattle.std.proofs.Common.{◌≡◌, ℕ, ◌*◌, List, [], ◌∷◌, arith, length, length-append, refl}
use Rattle.xet_xorb_footer.specs.declared.info.XorbObjectInfoV0.{XorbObjectInfoV0}
use Rattle.xet_xorb_footer.specs.declared.info.XorbObjectInfoV1.{XorbObjectInfoV1}
use Rattle.xet_codec.specs.Numbers.{joined, numbers}
use Rattle.xet_xorb_footer.specs.FooterEncoding.{length_of, length_of_v0, footer_bytes_v0, footer_bytes_v1}

pub length_numbers : (ns : List ℕ) → length (numbers ns) ≡ 4 * length ns
length_numbers [] = refl
length_numbers (n ∷ ns) = omega (arith, length_numbers ns)

pub length_v0 : (i : XorbObjectInfoV0) → length i.ident ≡ 7 → length i.xorb_hash ≡ 32 → length (joined i.chunk_hashes) ≡ 32 * length i.chunk_hashes → length i.spare ≡ 16 → length (footer_bytes_v0 i) ≡ length_of_v0 i
unfolding footer_bytes_v0
length_v0 i ident hash hashes spare = simp length-append (omega (arith, length_numbers i.chunk_boundary_offsets))

pub length_v1 : (i : XorbObjectInfoV1) → length i.ident ≡ 7 → length i.xorb_hash ≡ 32 → length i.ident_hash_section ≡ 7 → length (joined i.chunk_hashes) ≡ 32 * length i.chunk_hashes → length i.ident_boundary_section ≡ 7
    → length i.spare ≡ 16 → length (footer_bytes_v1 i) ≡ length_of i
unfolding footer_bytes_v1
length_v1 i ident hash hashes_magic hashes boundaries_magic spare = simp length-append (omega (arith, length_numbers i.chunk_boundary_offsets, length_numbers i.unpacked_chunk_offsets))
