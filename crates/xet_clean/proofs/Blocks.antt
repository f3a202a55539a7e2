-- The open block of a plan is within the limits of a xorb.
use Rattle.std.proofs.Common.{◌≡◌, ℕ, ◌+◌, ◌≤◌, Bool, true, false, if◌then◌else◌, List, [], ◌∷◌, ◌++◌, length, map, take, Option, refl, sym, subst, leb-true, arith, length-append}
use Rattle.std.specs.Prelude.{nat_le}
use Rattle.std.specs.List.{AllByRecursion}
use Rattle.std.proofs.lemmas.Bool.{and_parts}
use Rattle.std.proofs.lemmas.List.{length-map}
use Rattle.std.proofs.lemmas.List.Sums.{sum_by-cons, sum_by_push}
use Rattle.xet_base.specs.theorems.Elements.{all_more}
use Rattle.xet_choices.specs.Calls.{Call}
use Rattle.xet_choices.specs.Choices.{block_of, fits, is_reused, packed}
use Rattle.xet_choices.specs.declared.choice.Choice.{Choice}
use Rattle.xet_cut.specs.Limits.{AreInRange}
use Rattle.xet_cut.specs.declared.limits.LimitSettings.{LimitSettings}
use Rattle.xet_dedup_queries.specs.Registering.{max_chunk_len}
use Rattle.xet_file_plan.specs.Moves.{PlanState}
use Rattle.xet_file_plan.specs.Plan.{IsPlan, IsStorable}
use Rattle.xet_hash.specs.Merkle.{chunk_hash, total_len}
use Rattle.xet_shard_format.specs.declared.record.FileDataSequenceEntry.{FileDataSequenceEntry as Segment}
use Rattle.xet_xorb_chunk.specs.Chunks.{chunk_leaf, total}
use Rattle.xet_xorb_chunk.specs.declared.chunk.Chunk.{Chunk}
use Rattle.xet_clean.specs.Planning.{IsWithin}
use Rattle.xet_clean.proofs.Splitting.{Leaf}

-- a block of leaves within the limits
abbrev IsPacked : LimitSettings → List Leaf → Type 0
IsPacked s block = (total_len block ≤ s.cut_bytes) × (length block ≤ s.cut_chunks)

packed_within : (s : LimitSettings) (block : List Leaf) (leaf : Leaf) → IsPacked s block → leaf.1 ≤ s.cut_bytes → 1 ≤ s.cut_chunks → IsPacked s (packed s block leaf)
unfolding packed
packed_within s block leaf is small some = by_test (fits s block leaf.1) refl
  where
    by_test : (b : Bool) → fits s block leaf.1 ≡ b → IsPacked s (if b then block ++ leaf ∷ [] else leaf ∷ [])
    by_test true fit =
        let parts = and_parts (nat_le (total_len block + leaf.1) s.cut_bytes) (nat_le (length block + 1) s.cut_chunks) fit in (
          omega (arith, leb-true (total_len block + leaf.1) s.cut_bytes parts.0, sum_by_push (λ (m : Leaf). m.1) block leaf),
          omega (arith, leb-true (length block + 1) s.cut_chunks parts.1, length-append block (leaf ∷ [])),
        )
    by_test false fit = (omega (arith, small, sum_by-cons (λ (m : Leaf). m.1) leaf []), omega (arith, some))

block_of_within : (s : LimitSettings) (block leaves : List Leaf) (choices : List Choice) → IsPacked s block → AllByRecursion (λ (leaf : Leaf). leaf.1 ≤ s.cut_bytes) leaves → 1 ≤ s.cut_chunks
    → IsPacked s (block_of s block leaves choices)
unfolding block_of
block_of_within s block leaves [] is small some = is
block_of_within s block [] (c ∷ cs) is small some = is
block_of_within s block (leaf ∷ leaves) (c ∷ cs) is small some =
    block_of_within s (if is_reused c then block else packed s block leaf) leaves cs (by_choice (is_reused c)) small.1 some
  where
    by_choice : (b : Bool) → IsPacked s (if b then block else packed s block leaf)
    by_choice true = is
    by_choice false = packed_within s block leaf is small.0 some

total_leaves : (block : List Chunk) → total block ≡ total_len (map chunk_leaf block)
total_leaves [] = refl
total_leaves (c ∷ cs) =
    omega (arith, sum_by-cons (λ (d : Chunk). length d.bytes) c cs, sum_by-cons (λ (m : Leaf). m.1) (chunk_leaf c) (map chunk_leaf cs), total_leaves cs)

-- The open block of a right plan is, if no chunk is longer than a xorb.
pub plan_within : (listing : List ℕ → Option (List ℕ)) (standing : List (List ℕ) → Segment → Type 0) (calls : List Call) (p : PlanState) → AreInRange p.settings
    → AllByRecursion (λ (leaf : Leaf). leaf.1 ≤ p.settings.cut_bytes) p.leaves → IsPlan listing standing calls p.leaves p → IsWithin p.settings p.block
plan_within listing standing calls p range small plan =
    let s : LimitSettings = p.settings in
    let nothing : IsPacked s [] = (omega arith, omega arith) in
    let is : IsPacked s (block_of s [] p.leaves (take (length p.choices) p.choices)) = block_of_within s [] p.leaves (take (length p.choices) p.choices) nothing small range.cut_chunks_from in
    let here : IsPacked s (map chunk_leaf p.block) = subst (IsPacked s) (sym plan.block) is in
    record {
      within = record {
        bytes = omega (arith, here.0, total_leaves p.block);
        count = omega (arith, here.1, length-map p.block chunk_leaf);
        small = all_more IsStorable (λ (c : Chunk). length c.bytes ≤ max_chunk_len) p.block (λ c is. is.small) plan.storable;
      };
      hashed = all_more IsStorable (λ (c : Chunk). c.hash ≡ chunk_hash c.bytes) p.block (λ c is. is.hashed) plan.storable;
    }
