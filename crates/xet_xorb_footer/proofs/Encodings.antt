-- The texts of footers, by the pieces that are written.
use Rattle.std.proofs.Common.{◌≡◌, ◌∙◌, ℕ, List, [], ◌∷◌, ◌++◌, ap, append_assoc}
use Rattle.std.proofs.lemmas.List.{append-nil}
use Rattle.xet_xorb_footer.specs.declared.info.XorbObjectInfoV0.{XorbObjectInfoV0}
use Rattle.xet_xorb_footer.specs.declared.info.XorbObjectInfoV1.{XorbObjectInfoV1}
use Rattle.xet_xorb_footer.proofs.Puts.{Begins}
use Rattle.xet_codec.specs.Numbers.{joined, number, numbers}
use Rattle.xet_xorb_footer.specs.FooterEncoding.{footer_bytes_v0, footer_bytes_v1}

-- ---- version 0

abbrev pub head_v0 : XorbObjectInfoV0 → List ℕ → List ℕ → List ℕ
head_v0 i hash count = i.ident ++ ((i.version ∷ []) ++ (hash ++ (count ++ [])))

abbrev pub begun_v0 : XorbObjectInfoV0 → List ℕ
begun_v0 i = head_v0 i i.xorb_hash (number i.num_chunks)

pub is_begun_v0 : (i : XorbObjectInfoV0) {hash count : List ℕ} → hash ≡ i.xorb_hash → count ≡ number i.num_chunks → head_v0 i hash count ≡ begun_v0 i
is_begun_v0 i {hash} {count} is_hash is_count = ap (λ (x : List ℕ). head_v0 i x count) is_hash ∙ ap (λ (x : List ℕ). head_v0 i i.xorb_hash x) is_count

pub encoded_v0 : (i : XorbObjectInfoV0) → ((begun_v0 i ++ numbers i.chunk_boundary_offsets) ++ joined i.chunk_hashes) ++ i.spare ≡ footer_bytes_v0 i
unfolding footer_bytes_v0
encoded_v0 i = simp (append_assoc, append-nil)

pub begins_v0 : (i : XorbObjectInfoV0) → Begins ((begun_v0 i ++ numbers i.chunk_boundary_offsets) ++ joined i.chunk_hashes) (footer_bytes_v0 i)
begins_v0 i = (i.spare, encoded_v0 i)

-- ---- version 1

abbrev pub head_v1 : XorbObjectInfoV1 → List ℕ → List ℕ → List ℕ
head_v1 i hash count = i.ident ++ ((i.version ∷ []) ++ (hash ++ (i.ident_hash_section ++ ((i.hashes_version ∷ []) ++ (count ++ [])))))

abbrev pub middle_v1 : XorbObjectInfoV1 → List ℕ → List ℕ
middle_v1 i count = i.ident_boundary_section ++ ((i.boundaries_version ∷ []) ++ (count ++ []))

abbrev pub end_v1 : XorbObjectInfoV1 → List ℕ → List ℕ → List ℕ → List ℕ
end_v1 i count hashes boundaries = count ++ (hashes ++ (boundaries ++ (i.spare ++ [])))

abbrev pub begun_v1 : XorbObjectInfoV1 → List ℕ
begun_v1 i = head_v1 i i.xorb_hash (number i.num_chunks)

abbrev pub ended_v1 : XorbObjectInfoV1 → List ℕ
ended_v1 i = end_v1 i (number i.num_chunks) (number i.hashes_section_offset_from_end) (number i.boundary_section_offset_from_end)

pub is_begun_v1 : (i : XorbObjectInfoV1) {hash count : List ℕ} → hash ≡ i.xorb_hash → count ≡ number i.num_chunks → head_v1 i hash count ≡ begun_v1 i
is_begun_v1 i {hash} {count} is_hash is_count = ap (λ (x : List ℕ). head_v1 i x count) is_hash ∙ ap (λ (x : List ℕ). head_v1 i i.xorb_hash x) is_count

pub is_ended_v1 : (i : XorbObjectInfoV1) {count hashes_at boundaries_at : List ℕ} → count ≡ number i.num_chunks → hashes_at ≡ number i.hashes_section_offset_from_end → boundaries_at ≡ number i.boundary_section_offset_from_end
    → end_v1 i count hashes_at boundaries_at ≡ ended_v1 i
is_ended_v1 i is_count is_hashes_at is_boundaries_at = cc

abbrev pub before_v1 : XorbObjectInfoV1 → List ℕ
before_v1 i = (((begun_v1 i ++ joined i.chunk_hashes) ++ middle_v1 i (number i.num_chunks)) ++ numbers i.chunk_boundary_offsets) ++ numbers i.unpacked_chunk_offsets

pub encoded_v1 : (i : XorbObjectInfoV1) → before_v1 i ++ ended_v1 i ≡ footer_bytes_v1 i
unfolding footer_bytes_v1
encoded_v1 i = simp (append_assoc, append-nil)

pub begins_v1 : (i : XorbObjectInfoV1) → Begins (before_v1 i) (footer_bytes_v1 i)
begins_v1 i = (ended_v1 i, encoded_v1 i)
