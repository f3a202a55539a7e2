-- The sums of the metrics of files, which have room.
use Rattle.std.proofs.Common.{◌≡◌, ◌∙◌, ℕ, zero, suc, ◌+◌, ◌-◌, ◌^◌, ◌<◌, ◌≤◌, List, [], ◌∷◌, ◌++◌, length, map, min, take, refl, sym, ap, subst, add_assoc, arith}
use Rattle.std.proofs.lemmas.List.{length-map, length-take, take_all}
use Rattle.std.proofs.lemmas.List.Sums.{sum_by-cons}
use Rattle.std.specs.List.{AllByRecursion}
use Rattle.xet_aggregate.specs.Metrics.{zeros}
use Rattle.xet_aggregate.specs.declared.metrics.DeduplicationMetrics.{DeduplicationMetrics}
use Rattle.xet_base.specs.Pieces.{pieces_after}
use Rattle.xet_choices.specs.declared.choice.Choice.{Choice}
use Rattle.xet_choices.specs.theorems.Sums.{bytes_in_all, chunks_in_all}
use Rattle.xet_cut.specs.Chunking.{chunking, first_chunk_len}
use Rattle.xet_cut.specs.Limits.{AreInRange}
use Rattle.xet_cut.specs.declared.limits.LimitSettings.{LimitSettings}
use Rattle.xet_dedup.specs.Deduping.{metrics_of, metrics_of_both}
use Rattle.xet_hash.specs.Merkle.{leaf_of, leaves_of, total_len}
use Rattle.xet_store.specs.Holders.{Holder}
use Rattle.xet_clean.specs.Cleaning.{metrics_sum}
use Rattle.xet_clean.specs.Files.{leaves_in}
use Rattle.xet_clean.specs.Planning.{IsPlanned}
use Rattle.xet_clean.specs.internal.Sums.{AreSmall, HasRoom}
use Rattle.xet_clean.specs.Working.{Planned, WasPlanned}
use Rattle.xet_clean.specs.theorems.Keeping.{limits_follow}

-- ---- sums in either order

min_assoc : (a b c top : ℕ) → min (a + min (b + c) top) top ≡ min (min (a + b) top + c) top
min_assoc a b c top = omega arith

both_assoc : (a b c : DeduplicationMetrics) → metrics_of_both a (metrics_of_both b c) ≡ metrics_of_both (metrics_of_both a b) c
both_assoc a b c = λ i. record {
  total_bytes = sym (add_assoc a.total_bytes b.total_bytes c.total_bytes) i;
  deduped_bytes = sym (add_assoc a.deduped_bytes b.deduped_bytes c.deduped_bytes) i;
  new_bytes = sym (add_assoc a.new_bytes b.new_bytes c.new_bytes) i;
  deduped_bytes_by_global_dedup = min_assoc a.deduped_bytes_by_global_dedup b.deduped_bytes_by_global_dedup c.deduped_bytes_by_global_dedup (2 ^ 64 - 1) i;
  defrag_prevented_dedup_bytes = min_assoc a.defrag_prevented_dedup_bytes b.defrag_prevented_dedup_bytes c.defrag_prevented_dedup_bytes (2 ^ 64 - 1) i;
  total_chunks = sym (add_assoc a.total_chunks b.total_chunks c.total_chunks) i;
  deduped_chunks = sym (add_assoc a.deduped_chunks b.deduped_chunks c.deduped_chunks) i;
  new_chunks = sym (add_assoc a.new_chunks b.new_chunks c.new_chunks) i;
  deduped_chunks_by_global_dedup = min_assoc a.deduped_chunks_by_global_dedup b.deduped_chunks_by_global_dedup c.deduped_chunks_by_global_dedup (2 ^ 64 - 1) i;
  defrag_prevented_dedup_chunks = min_assoc a.defrag_prevented_dedup_chunks b.defrag_prevented_dedup_chunks c.defrag_prevented_dedup_chunks (2 ^ 64 - 1) i;
  xorb_bytes_uploaded = sym (add_assoc a.xorb_bytes_uploaded b.xorb_bytes_uploaded c.xorb_bytes_uploaded) i;
  shard_bytes_uploaded = sym (add_assoc a.shard_bytes_uploaded b.shard_bytes_uploaded c.shard_bytes_uploaded) i;
  total_bytes_uploaded = sym (add_assoc a.total_bytes_uploaded b.total_bytes_uploaded c.total_bytes_uploaded) i;
}

zero_swap : (k : ℕ) → k + 0 ≡ 0 + k
zero_swap k = omega arith

min_swap : (k top : ℕ) → min (k + 0) top ≡ min (0 + k) top
min_swap k top = omega arith

both_zeros : (a : DeduplicationMetrics) → metrics_of_both a zeros ≡ metrics_of_both zeros a
both_zeros a = λ i. record {
  total_bytes = zero_swap a.total_bytes i;
  deduped_bytes = zero_swap a.deduped_bytes i;
  new_bytes = zero_swap a.new_bytes i;
  deduped_bytes_by_global_dedup = min_swap a.deduped_bytes_by_global_dedup (2 ^ 64 - 1) i;
  defrag_prevented_dedup_bytes = min_swap a.defrag_prevented_dedup_bytes (2 ^ 64 - 1) i;
  total_chunks = zero_swap a.total_chunks i;
  deduped_chunks = zero_swap a.deduped_chunks i;
  new_chunks = zero_swap a.new_chunks i;
  deduped_chunks_by_global_dedup = min_swap a.deduped_chunks_by_global_dedup (2 ^ 64 - 1) i;
  defrag_prevented_dedup_chunks = min_swap a.defrag_prevented_dedup_chunks (2 ^ 64 - 1) i;
  xorb_bytes_uploaded = zero_swap a.xorb_bytes_uploaded i;
  shard_bytes_uploaded = zero_swap a.shard_bytes_uploaded i;
  total_bytes_uploaded = zero_swap a.total_bytes_uploaded i;
}

none_min : (top : ℕ) → min (0 + 0) top ≡ 0
none_min top = omega arith

both_none : metrics_of_both zeros zeros ≡ zeros
both_none = λ i. record zeros {
  deduped_bytes_by_global_dedup = none_min (2 ^ 64 - 1) i;
  defrag_prevented_dedup_bytes = none_min (2 ^ 64 - 1) i;
  deduped_chunks_by_global_dedup = none_min (2 ^ 64 - 1) i;
  defrag_prevented_dedup_chunks = none_min (2 ^ 64 - 1) i;
}

none_more : (k : ℕ) → 0 + k ≡ k
none_more k = omega arith

min_again : (k top : ℕ) → min (0 + min k top) top ≡ min k top
min_again k top = omega arith

-- a sum stays as it is with nothing more
both_again : (a b : DeduplicationMetrics) → metrics_of_both zeros (metrics_of_both a b) ≡ metrics_of_both a b
both_again a b = λ i. record {
  total_bytes = none_more (a.total_bytes + b.total_bytes) i;
  deduped_bytes = none_more (a.deduped_bytes + b.deduped_bytes) i;
  new_bytes = none_more (a.new_bytes + b.new_bytes) i;
  deduped_bytes_by_global_dedup = min_again (a.deduped_bytes_by_global_dedup + b.deduped_bytes_by_global_dedup) (2 ^ 64 - 1) i;
  defrag_prevented_dedup_bytes = min_again (a.defrag_prevented_dedup_bytes + b.defrag_prevented_dedup_bytes) (2 ^ 64 - 1) i;
  total_chunks = none_more (a.total_chunks + b.total_chunks) i;
  deduped_chunks = none_more (a.deduped_chunks + b.deduped_chunks) i;
  new_chunks = none_more (a.new_chunks + b.new_chunks) i;
  deduped_chunks_by_global_dedup = min_again (a.deduped_chunks_by_global_dedup + b.deduped_chunks_by_global_dedup) (2 ^ 64 - 1) i;
  defrag_prevented_dedup_chunks = min_again (a.defrag_prevented_dedup_chunks + b.defrag_prevented_dedup_chunks) (2 ^ 64 - 1) i;
  xorb_bytes_uploaded = none_more (a.xorb_bytes_uploaded + b.xorb_bytes_uploaded) i;
  shard_bytes_uploaded = none_more (a.shard_bytes_uploaded + b.shard_bytes_uploaded) i;
  total_bytes_uploaded = none_more (a.total_bytes_uploaded + b.total_bytes_uploaded) i;
}

pub sum_again : (s : LimitSettings) (fs : List (List ℕ)) (cs : List (List Choice)) → metrics_of_both zeros (metrics_sum s fs cs) ≡ metrics_sum s fs cs
sum_again s [] cs = both_none
sum_again s (f ∷ fs) [] = both_none
sum_again s (f ∷ fs) (c ∷ cs) = both_again (metrics_of (leaves_in s f) c 0 0) (metrics_sum s fs cs)

-- more files
pub sum_append : (s : LimitSettings) (fs gs : List (List ℕ)) (cs ds : List (List Choice)) → length cs ≡ length fs
    → metrics_sum s (fs ++ gs) (cs ++ ds) ≡ metrics_of_both (metrics_sum s fs cs) (metrics_sum s gs ds)
sum_append s [] gs [] ds same = sym (sum_again s gs ds)
sum_append s [] gs (c ∷ cs) ds same = absurd (omega (arith, same))
sum_append s (f ∷ fs) gs [] ds same = absurd (omega (arith, same))
sum_append s (f ∷ fs) gs (c ∷ cs) ds same =
    ap (metrics_of_both (metrics_of (leaves_in s f) c 0 0)) (sum_append s fs gs cs ds (omega (arith, same)))
    ∙ both_assoc (metrics_of (leaves_in s f) c 0 0) (metrics_sum s fs cs) (metrics_sum s gs ds)

-- one more file
pub sum_push : (s : LimitSettings) (fs : List (List ℕ)) (cs : List (List Choice)) (f : List ℕ) (c : List Choice) → length cs ≡ length fs
    → metrics_sum s (fs ++ f ∷ []) (cs ++ c ∷ []) ≡ metrics_of_both (metrics_sum s fs cs) (metrics_of (leaves_in s f) c 0 0)
sum_push s fs cs f c same =
    let sum : DeduplicationMetrics = metrics_sum s fs cs in
    let its : DeduplicationMetrics = metrics_of (leaves_in s f) c 0 0 in
    sum_append s fs (f ∷ []) cs (c ∷ []) same ∙ both_assoc sum its zeros ∙ both_zeros (metrics_of_both sum its) ∙ both_again sum its

-- ---- the chunks of a file have no more bytes than it, and there are no more of them than bytes

few_pieces : (len : List ℕ → ℕ) (k : ℕ) (xs : List ℕ) → length (pieces_after len k xs) ≤ length xs
unfolding pieces_after
few_pieces len k [] = omega arith
few_pieces len zero (x ∷ xs) = omega (arith, few_pieces len (len (x ∷ xs) - 1) xs)
few_pieces len (suc k) (x ∷ xs) = omega (arith, few_pieces len k xs)

short_pieces : (len : List ℕ → ℕ) (k : ℕ) (xs : List ℕ) → total_len (leaves_of (pieces_after len k xs)) ≤ length xs - k
unfolding pieces_after
short_pieces len k [] = omega arith
short_pieces len zero (x ∷ xs) =
    let n : ℕ = len (x ∷ xs) in
    let rest : List (List ℕ) = pieces_after len (n - 1) xs in
    omega (
      arith,
      sum_by-cons (λ (m : List ℕ × ℕ). m.1) (leaf_of (take n (x ∷ xs))) (leaves_of rest),
      length-take n (x ∷ xs),
      short_pieces len (n - 1) xs,
    )
short_pieces len (suc k) (x ∷ xs) = omega (arith, short_pieces len k xs)

few_leaves : (s : LimitSettings) (bytes : List ℕ) → length (leaves_in s bytes) ≤ length bytes
few_leaves s bytes = omega (arith, length-map (chunking s bytes) leaf_of, few_pieces (first_chunk_len s) 0 bytes)

short_leaves : (s : LimitSettings) (bytes : List ℕ) → total_len (leaves_in s bytes) ≤ length bytes
short_leaves s bytes = omega (arith, short_pieces (first_chunk_len s) 0 bytes)

-- a file of no bytes has no chunks
pub no_leaves : (s : LimitSettings) (bytes : List ℕ) → length bytes ≡ 0 → length (leaves_in s bytes) ≡ 0
no_leaves s bytes none = omega (arith, few_leaves s bytes, none)

-- ---- room

limit_42 : 2 ^ 42 ≡ 4398046511104
limit_42 = refl

limit_20 : 2 ^ 20 ≡ 1048576
limit_20 = refl

limit_64 : 2 ^ 64 ≡ 18446744073709551616
limit_64 = refl

pub small_zeros : AreSmall zeros 0
small_zeros = record {
  total_bytes = omega arith;
  deduped_bytes = omega arith;
  new_bytes = omega arith;
  total_chunks = omega arith;
  deduped_chunks = omega arith;
  new_chunks = omega arith;
  xorb_bytes_uploaded = refl;
  shard_bytes_uploaded = refl;
  total_bytes_uploaded = refl;
}

pub small_both : (a b : DeduplicationMetrics) (m n : ℕ) → AreSmall a m → AreSmall b n → AreSmall (metrics_of_both a b) (m + n)
small_both a b m n x y = record {
  total_bytes = omega (arith, x.total_bytes, y.total_bytes);
  deduped_bytes = omega (arith, x.deduped_bytes, y.deduped_bytes);
  new_bytes = omega (arith, x.new_bytes, y.new_bytes);
  total_chunks = omega (arith, x.total_chunks, y.total_chunks);
  deduped_chunks = omega (arith, x.deduped_chunks, y.deduped_chunks);
  new_chunks = omega (arith, x.new_chunks, y.new_chunks);
  xorb_bytes_uploaded = omega (arith, x.xorb_bytes_uploaded, y.xorb_bytes_uploaded);
  shard_bytes_uploaded = omega (arith, x.shard_bytes_uploaded, y.shard_bytes_uploaded);
  total_bytes_uploaded = omega (arith, x.total_bytes_uploaded, y.total_bytes_uploaded);
}

small_file : (s : LimitSettings) (bytes : List ℕ) (choices : List Choice) → AreInRange s → length bytes ≤ s.max_source_bytes → length choices ≡ length (leaves_in s bytes) → AreSmall (metrics_of (leaves_in s bytes) choices 0 0) 1
small_file s bytes choices range short each =
    let few = few_leaves s bytes in
    let len = short_leaves s bytes in
    let chunks = chunks_in_all choices in
    let all : total_len (take (length choices) (leaves_in s bytes)) ≡ total_len (leaves_in s bytes) = ap total_len (take_all (length choices) (leaves_in s bytes) (omega (arith, each))) in
    let sums = bytes_in_all (leaves_in s bytes) choices in
    let to = range.source_to in
    record {
      total_bytes = omega (arith, len, short, to, limit_42);
      deduped_bytes = omega (arith, len, short, to, limit_42, all, sums);
      new_bytes = omega (arith, len, short, to, limit_42, all, sums);
      total_chunks = omega (arith, few, short, to, limit_42);
      deduped_chunks = omega (arith, few, short, to, limit_42, chunks, each);
      new_chunks = omega (arith, few, short, to, limit_42, chunks, each);
      xorb_bytes_uploaded = refl;
      shard_bytes_uploaded = refl;
      total_bytes_uploaded = refl;
    }

-- a choice for each chunk
pub one_each : (first now : Holder) (f : Planned) → IsPlanned first now f.bytes f.plan → length f.plan.choices ≡ length (leaves_in now.limits f.bytes)
one_each first now f is = is.deduped.plan.plan.one_each ∙ ap length is.leaves

pub small_planned : (first now : Holder) (f : Planned) → AreInRange now.limits → IsPlanned first now f.bytes f.plan → AreSmall (metrics_of (leaves_in now.limits f.bytes) f.plan.choices 0 0) 1
small_planned first now f range is = small_file now.limits f.bytes f.plan.choices range is.short (one_each first now f is)

pub small_sum : (start now : Holder) (files : List Planned) → AreInRange now.limits → AllByRecursion (WasPlanned start now) files
    → AreSmall (metrics_sum now.limits (map (λ f. f.bytes) files) (map (λ f. f.plan.choices) files)) (length files)
small_sum start now [] range all = small_zeros
small_sum start now (f ∷ fs) range all =
    let same : now.limits ≡ all.0.last.limits = limits_follow all.0.last now all.0.to in
    let one : 1 + length fs ≡ suc (length fs) = omega arith in
    subst (AreSmall (metrics_sum now.limits (map (λ g. g.bytes) (f ∷ fs)) (map (λ g. g.plan.choices) (f ∷ fs)))) one
    (small_both (metrics_of (leaves_in now.limits f.bytes) f.plan.choices 0 0) (metrics_sum now.limits (map (λ g. g.bytes) fs) (map (λ g. g.plan.choices) fs)) 1 (length fs)
    (subst (λ (s : LimitSettings). AreSmall (metrics_of (leaves_in s f.bytes) f.plan.choices 0 0) 1) (sym same)
    (small_planned all.0.first all.0.last f (subst AreInRange same range) all.0.planned))
    (small_sum start now fs range all.1))

pub small_room : (a b : DeduplicationMetrics) (m n : ℕ) → m + n ≤ 2 ^ 20 → AreSmall a m → AreSmall b n → HasRoom a b
small_room a b m n few x y = record {
  total_bytes = omega (arith, few, limit_20, limit_64, x.total_bytes, y.total_bytes);
  deduped_bytes = omega (arith, few, limit_20, limit_64, x.deduped_bytes, y.deduped_bytes);
  new_bytes = omega (arith, few, limit_20, limit_64, x.new_bytes, y.new_bytes);
  total_chunks = omega (arith, few, limit_20, limit_64, x.total_chunks, y.total_chunks);
  deduped_chunks = omega (arith, few, limit_20, limit_64, x.deduped_chunks, y.deduped_chunks);
  new_chunks = omega (arith, few, limit_20, limit_64, x.new_chunks, y.new_chunks);
  xorb_bytes_uploaded = omega (arith, limit_64, x.xorb_bytes_uploaded, y.xorb_bytes_uploaded);
  shard_bytes_uploaded = omega (arith, limit_64, x.shard_bytes_uploaded, y.shard_bytes_uploaded);
  total_bytes_uploaded = omega (arith, limit_64, x.total_bytes_uploaded, y.total_bytes_uploaded);
}

-- the sums have room for one more file
pub sums_have_room : (start first now : Holder) (files : List Planned) (f : Planned) (m : DeduplicationMetrics) → AreInRange now.limits → first.limits ≡ now.limits → length files < 2 ^ 20
    → AllByRecursion (WasPlanned start first) files → m ≡ metrics_sum first.limits (map (λ g. g.bytes) files) (map (λ g. g.plan.choices) files) → IsPlanned first now f.bytes f.plan
    → HasRoom m (metrics_of (leaves_in now.limits f.bytes) f.plan.choices 0 0)
sums_have_room start first now files f m range same few all is planned =
    subst (λ (k : DeduplicationMetrics). HasRoom k (metrics_of (leaves_in now.limits f.bytes) f.plan.choices 0 0)) (sym is)
    (small_room (metrics_sum first.limits (map (λ g. g.bytes) files) (map (λ g. g.plan.choices) files)) (metrics_of (leaves_in now.limits f.bytes) f.plan.choices 0 0) (length files) 1 (omega (arith, few))
    (small_sum start first files (subst AreInRange (sym same) range) all) (small_planned first now f range planned))
