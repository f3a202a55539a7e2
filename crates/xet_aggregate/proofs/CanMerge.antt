-- The indices of an aggregate stay small when its chunks come after others.
use Rattle.std.proofs.Common.{◌≡◌, ℕ, ◌+◌, ◌^◌, ◌<◌, ◌≤◌, true, List, length, arith, sym, subst}
use Rattle.std.specs.List.{AllByRecursion}
use Rattle.xet_base.specs.theorems.Elements.{all_more}
use Rattle.xet_shard_format.specs.declared.record.FileDataSequenceEntry.{FileDataSequenceEntry as Segment}
use Rattle.xet_xorb_chunk.specs.declared.chunk.Chunk.{Chunk}
use Rattle.xet_aggregate.specs.Aggregate.{HasRunsOf, IsRunOf, Pending, is_open}
use Rattle.xet_aggregate.specs.internal.Shifting.{CanShift}

segment_can_shift : (n : ℕ) (chunks : List Chunk) (s : Segment) → n + length chunks < 2 ^ 32 → (is_open s ≡ true → IsRunOf chunks s) → CanShift n s
segment_can_shift n chunks s few run = λ opened.
    (let r : IsRunOf chunks s = run opened in omega (arith, r.ordered, r.within), let r : IsRunOf chunks s = run opened in omega (arith, r.within))

-- open segments are runs of the chunks, so they can move
pub can_shift : (n : ℕ) (chunks : List Chunk) (files now : List Pending) → now ≡ files → n + length chunks < 2 ^ 32 → AllByRecursion (λ p. HasRunsOf chunks p.0.segments) files
    → AllByRecursion (λ p. AllByRecursion (CanShift n) p.0.segments) now
can_shift n chunks files now same few runs =
    subst (λ (ps : List Pending). AllByRecursion (λ p. AllByRecursion (CanShift n) p.0.segments) ps) (sym same)
    (all_more (λ p. HasRunsOf chunks p.0.segments) (λ p. AllByRecursion (CanShift n) p.0.segments) files
    (λ p runs. all_more (λ s. is_open s ≡ true → IsRunOf chunks s) (CanShift n) p.0.segments (λ s. segment_can_shift n chunks s few) runs) runs)

-- boundaries are at most the number of chunks, so they can move
pub small_boundaries : (n count : ℕ) (boundaries now : List ℕ) → now ≡ boundaries → n + count < 2 ^ 32 → AllByRecursion (λ k. k ≤ count) boundaries → AllByRecursion (λ k. k + n < 2 ^ 64) now
small_boundaries n count boundaries now same few within =
    subst (λ (ks : List ℕ). AllByRecursion (λ k. k + n < 2 ^ 64) ks) (sym same)
    (all_more (λ k. k ≤ count) (λ k. k + n < 2 ^ 64) boundaries (λ k le. omega arith) within)
