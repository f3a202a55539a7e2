-- The two chunks, and the xorb of them.
use Rattle.std.proofs.Common.{◌≡◌, ◌∙◌, ◌<◌, ◌≤◌, ℕ, List, [], ◌∷◌, length, map, refl, sym, ap, subst, arith}
use Rattle.std.specs.List.{sum_by}
use Rattle.xet_dedup_queries.specs.Registering.{IsNewXorb}
use Rattle.xet_hash.specs.Merkle.{total_len}
use Rattle.xet_xorb.specs.Raw.{ArePartsOfXorb, raw_leaves, raw_of}
use Rattle.xet_xorb.specs.declared.raw.RawXorbData.{RawXorbData}
use Rattle.xet_xorb_chunk.specs.Chunks.{bytes_of_chunk, chunk_leaf, chunk_of}
use Rattle.xet_xorb_chunk.specs.declared.chunk.Chunk.{Chunk}

abbrev two : List Chunk
two = chunk_of (97 ∷ 98 ∷ 99 ∷ []) ∷ chunk_of (100 ∷ 101 ∷ 102 ∷ 103 ∷ []) ∷ []

pub parts : (chunks : List Chunk) → chunks ≡ two → ArePartsOfXorb (map bytes_of_chunk chunks)
parts chunks are =
    subst (λ (cs : List Chunk). ArePartsOfXorb (map bytes_of_chunk cs)) (sym are)
    (record { count = omega arith; small = (omega arith, (omega arith, tt)); total = omega arith })

pub total_small : (leaves : List (List ℕ × ℕ)) (chunks : List Chunk) → leaves ≡ map chunk_leaf chunks → chunks ≡ two → total_len leaves < 18446744073709551616
total_small leaves chunks made are = subst (λ (ls : List (List ℕ × ℕ)). total_len ls < 18446744073709551616) (sym (made ∙ ap (map chunk_leaf) are)) (omega arith)

pub new_xorb : (limits : ℕ × ℕ) (raw : RawXorbData) (chunks : List Chunk) (boundaries : List ℕ) → chunks ≡ two → raw ≡ raw_of chunks boundaries → raw_leaves raw ≡ map chunk_leaf chunks → 7 ≤ limits.0 → 2 ≤ limits.1
    → IsNewXorb limits raw
new_xorb limits raw chunks boundaries are made leaves bytes count = record {
  chunks = two;
  boundaries = boundaries;
  made = made ∙ ap (λ (cs : List Chunk). raw_of cs boundaries) are;
  some = λ none. absurd (cc none);
  hashed = (refl, (refl, tt));
  small = (omega arith, (omega arith, tt));
  bytes = subst (λ (ls : List (List ℕ × ℕ)). total_len ls ≤ limits.0) (sym (leaves ∙ ap (map chunk_leaf) are)) (omega (arith, bytes));
  count = count;
}
