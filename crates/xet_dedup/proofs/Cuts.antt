-- The open block makes a new xorb.
use Rattle.std.proofs.Common.{◌≡◌, ◌≢◌, ◌∙◌, ℕ, ◌≤◌, ◌<◌, ◌^◌, List, [], ◌∷◌, length, map, refl, ap, arith}
use Rattle.std.specs.List.{AllByRecursion}
use Rattle.std.proofs.lemmas.List.Sums.{sum_by-cons}
use Rattle.xet_cut.specs.Limits.{AreInRange}
use Rattle.xet_cut.specs.declared.limits.LimitSettings.{LimitSettings}
use Rattle.xet_dedup_queries.specs.Registering.{IsNewXorb, max_chunk_len}
use Rattle.xet_file_plan.specs.Kept.{IsBlockWithin}
use Rattle.xet_file_plan.specs.Plan.{IsStorable}
use Rattle.xet_hash.specs.Merkle.{chunk_hash, total_len}
use Rattle.xet_xorb.specs.Raw.{raw_leaves, raw_of}
use Rattle.xet_xorb.specs.declared.raw.RawXorbData.{RawXorbData}
use Rattle.xet_xorb_chunk.specs.declared.chunk.Chunk.{Chunk}
use Rattle.xet_xorb_chunk.specs.Chunks.{chunk_leaf, total}

-- bytes of chunks and of their leaves
pub bytes_of_leaves : (chunks : List Chunk) → total_len (map chunk_leaf chunks) ≡ total chunks
bytes_of_leaves [] = refl
bytes_of_leaves (c ∷ chunks) =
    omega (arith, bytes_of_leaves chunks, sum_by-cons (λ (m : List ℕ × ℕ). m.1) (chunk_leaf c) (map chunk_leaf chunks), sum_by-cons (λ (d : Chunk). length d.bytes) c chunks)

hashed : (chunks : List Chunk) → AllByRecursion IsStorable chunks → AllByRecursion (λ c. c.hash ≡ chunk_hash c.bytes) chunks
hashed [] all = tt
hashed (c ∷ chunks) all = (all.0.hashed, hashed chunks all.1)

small : (chunks : List Chunk) → AllByRecursion IsStorable chunks → AllByRecursion (λ c. length c.bytes ≤ max_chunk_len) chunks
small [] all = tt
small (c ∷ chunks) all = (all.0.small, small chunks all.1)

module _ (settings : LimitSettings) (block : List Chunk) (within : IsBlockWithin settings block) (x : RawXorbData) (made : x ≡ raw_of block (0 ∷ [])) (leaves : raw_leaves x ≡ map chunk_leaf block) where
  bytes : total_len (raw_leaves x) ≡ total block
  bytes = ap total_len leaves ∙ bytes_of_leaves block

  pub block_is_new_xorb : block ≢ [] → AllByRecursion IsStorable block → IsNewXorb (settings.cut_bytes, settings.cut_chunks) x
  block_is_new_xorb some storable = record {
    chunks = block;
    boundaries = 0 ∷ [];
    made = made;
    some = some;
    hashed = hashed block storable;
    small = small block storable;
    bytes = omega (arith, bytes, within.bytes);
    count = within.count;
  }

  pub block_bytes_small : AreInRange settings → total_len (raw_leaves x) < 2 ^ 32
  block_bytes_small range = omega (arith, bytes, within.bytes, range.cut_bytes_to)
