-- The metrics of a file, and those of its batches.
use Rattle.std.proofs.Common.{◌≡◌, ◌∙◌, ℕ, ◌+◌, ◌-◌, ◌^◌, ◌<◌, List, [], ◌∷◌, ◌++◌, length, min, sym, ap, arith, length-append}
use Rattle.std.proofs.lemmas.List.{take_all}
use Rattle.std.proofs.lemmas.List.Sums.{sum_by-append}
use Rattle.xet_aggregate.specs.Metrics.{AreCounts, added}
use Rattle.xet_aggregate.specs.declared.metrics.DeduplicationMetrics.{DeduplicationMetrics}
use Rattle.xet_choices.specs.Choices.{new_chunks}
use Rattle.xet_choices.specs.Sums.{RunsEnd, prevented_bytes, prevented_chunks}
use Rattle.xet_choices.specs.declared.choice.Choice.{Choice}
use Rattle.xet_choices.specs.theorems.Sums.{bytes_in_all, chunks_in_all, deduped_bytes_both, deduped_chunks-append, new_bytes_both, prevented_bytes_both, prevented_chunks-append}
use Rattle.xet_dedup.specs.Deduping.{metrics_of, metrics_of_both}
use Rattle.xet_hash.specs.Merkle.{total_len}

-- each chunk was stored or found
pub all_chunks : (leaves : List (List ℕ × ℕ)) (choices : List Choice) (k n : ℕ) → length choices ≡ length leaves
    → (metrics_of leaves choices k n).total_chunks ≡ (metrics_of leaves choices k n).deduped_chunks + (metrics_of leaves choices k n).new_chunks
all_chunks leaves choices k n each = sym (chunks_in_all choices ∙ each)

pub all_bytes : (leaves : List (List ℕ × ℕ)) (choices : List Choice) (k n : ℕ) → length choices ≡ length leaves
    → (metrics_of leaves choices k n).total_bytes ≡ (metrics_of leaves choices k n).deduped_bytes + (metrics_of leaves choices k n).new_bytes
all_bytes leaves choices k n each = sym (bytes_in_all leaves choices ∙ ap total_len (take_all (length choices) leaves (omega (arith, each))))

-- a sum of two that stop
min_both : (a b top : ℕ) {all : ℕ} → all ≡ a + b → min all top ≡ min (min a top + min b top) top
min_both a b top e = omega (arith, e)

-- the metrics of two batches
new_chunks-append : (xs ys : List Choice) → new_chunks (xs ++ ys) ≡ new_chunks xs + new_chunks ys
new_chunks-append [] ys = omega arith
new_chunks-append (c ∷ xs) ys = omega (arith, new_chunks-append xs ys)

pub of_both : (leaves more : List (List ℕ × ℕ)) (choices next : List Choice) (j k m n : ℕ) → length choices ≡ length leaves → RunsEnd leaves choices
    → metrics_of (leaves ++ more) (choices ++ next) (min (j + m) (2 ^ 64 - 1)) (min (k + n) (2 ^ 64 - 1)) ≡ metrics_of_both (metrics_of leaves choices j k) (metrics_of more next m n)
of_both leaves more choices next j k m n each ends =
    λ i. record {
      total_bytes = sum_by-append (λ (l : List ℕ × ℕ). l.1) leaves more i;
      deduped_bytes = deduped_bytes_both leaves more choices next each i;
      new_bytes = new_bytes_both leaves more choices next each i;
      deduped_bytes_by_global_dedup = min (k + n) (2 ^ 64 - 1);
      defrag_prevented_dedup_bytes = min_both (prevented_bytes leaves choices) (prevented_bytes more next) (2 ^ 64 - 1) (prevented_bytes_both leaves more choices next each ends) i;
      total_chunks = length-append leaves more i;
      deduped_chunks = deduped_chunks-append choices next i;
      new_chunks = new_chunks-append choices next i;
      deduped_chunks_by_global_dedup = min (j + m) (2 ^ 64 - 1);
      defrag_prevented_dedup_chunks = min_both (prevented_chunks choices) (prevented_chunks next) (2 ^ 64 - 1) (prevented_chunks-append choices next) i;
      xorb_bytes_uploaded = nothing i;
      shard_bytes_uploaded = nothing i;
      total_bytes_uploaded = nothing i;
    }
  where
    nothing : 0 ≡ 0 + 0
    nothing = omega arith

-- sums that fit do not stop
min_fits : (a : ℕ) → a < 2 ^ 64 → min a (2 ^ 64 - 1) ≡ a
min_fits a fits = omega (arith, fits)

pub both_fit : (a b : DeduplicationMetrics) → AreCounts (added a b) → metrics_of_both a b ≡ added a b
both_fit a b fit =
    λ i. record (added a b) {
      deduped_bytes_by_global_dedup = min_fits (a.deduped_bytes_by_global_dedup + b.deduped_bytes_by_global_dedup) fit.deduped_bytes_by_global_dedup i;
      defrag_prevented_dedup_bytes = min_fits (a.defrag_prevented_dedup_bytes + b.defrag_prevented_dedup_bytes) fit.defrag_prevented_dedup_bytes i;
      deduped_chunks_by_global_dedup = min_fits (a.deduped_chunks_by_global_dedup + b.deduped_chunks_by_global_dedup) fit.deduped_chunks_by_global_dedup i;
      defrag_prevented_dedup_chunks = min_fits (a.defrag_prevented_dedup_chunks + b.defrag_prevented_dedup_chunks) fit.defrag_prevented_dedup_chunks i;
    }
