-- The metrics of a file's choices, counted chunk by chunk.
use Rattle.std.proofs.Common.{◌≡◌, ◌∙◌, ℕ, ◌+◌, ◌-◌, ◌*◌, ◌^◌, ◌<◌, ◌≤◌, Bool, true, false, if◌then◌else◌, List, [], ◌∷◌, length, take, drop, get_or, min, refl, sym, ap, subst, arith, length-drop}
use Rattle.std.specs.List.{AllByRecursion}
use Rattle.std.proofs.lemmas.List.{drop_all, drop_more}
use Rattle.std.proofs.lemmas.List.Sums.{sum_by-cons, sum_by-take-drop}
use Rattle.xet_aggregate.specs.declared.metrics.DeduplicationMetrics.{DeduplicationMetrics}
use Rattle.xet_choices.specs.declared.choice.Choice.{Choice}
use Rattle.xet_choices.specs.Choices.{is_reused, new_chunks}
use Rattle.xet_choices.specs.Sums.{deduped_bytes, deduped_chunks, new_bytes, prevented_bytes, prevented_chunks, run_of}
use Rattle.xet_dedup.specs.Deduping.{metrics_of}
use Rattle.xet_dedup.specs.internal.Counting.{HasRoom, IsCounted, counted}
use Rattle.xet_dedup_queries.specs.Registering.{max_chunk_len}
use Rattle.xet_hash.specs.Merkle.{total_len}

-- ---- sums that stop

-- a sum that stopped may go on
min_again : (a b c top : ℕ) {all : ℕ} → min (a + (b + c)) top ≡ all → min (min (a + b) top + c) top ≡ all
min_again a b c top e = omega (arith, e)

min_le : (a top : ℕ) → min a top ≤ top
min_le a top = omega arith

min_small : (a top : ℕ) {all : ℕ} → a ≤ top → min (a + 0) top ≡ all → a ≡ all
min_small a top le e = omega (arith, le, e)

-- ---- one chunk more

part_step : (b : Bool) (d n t k : ℕ) → d + n ≡ t → (d + (if b then k else 0)) + (n + (if b then 0 else k)) ≡ t + k
part_step true d n t k e = omega (arith, e)
part_step false d n t k e = omega (arith, e)

counted_cons : (m all : DeduplicationMetrics) (leaf : List ℕ × ℕ) (leaves : List (List ℕ × ℕ)) (c : Choice) (choices : List Choice)
    → IsCounted m (leaf ∷ leaves) (c ∷ choices) all → IsCounted (counted m leaf.1 c (total_len (take (run_of c) (leaf ∷ leaves)))) leaves choices all
counted_cons m all leaf leaves c choices is =
    let cons = sum_by-cons (λ (l : List ℕ × ℕ). l.1) leaf leaves in
    record {
      total_bytes = omega (arith, is.total_bytes, cons);
      deduped_bytes = omega (arith, is.deduped_bytes);
      new_bytes = omega (arith, is.new_bytes);
      bytes = part_step (is_reused c) m.deduped_bytes m.new_bytes m.total_bytes leaf.1 is.bytes;
      prevented_bytes = min_again m.defrag_prevented_dedup_bytes (total_len (take (run_of c) (leaf ∷ leaves))) (prevented_bytes leaves choices) (2 ^ 64 - 1) is.prevented_bytes;
      capped_bytes = min_le (m.defrag_prevented_dedup_bytes + total_len (take (run_of c) (leaf ∷ leaves))) (2 ^ 64 - 1);
      total_chunks = omega (arith, is.total_chunks);
      deduped_chunks = omega (arith, is.deduped_chunks);
      new_chunks = omega (arith, is.new_chunks);
      chunks = part_step (is_reused c) m.deduped_chunks m.new_chunks m.total_chunks 1 is.chunks;
      prevented_chunks = min_again m.defrag_prevented_dedup_chunks (run_of c) (prevented_chunks choices) (2 ^ 64 - 1) is.prevented_chunks;
      capped_chunks = min_le (m.defrag_prevented_dedup_chunks + run_of c) (2 ^ 64 - 1);
      global_bytes = is.global_bytes;
      global_chunks = is.global_chunks;
      xorb_bytes_uploaded = is.xorb_bytes_uploaded;
      shard_bytes_uploaded = is.shard_bytes_uploaded;
      total_bytes_uploaded = is.total_bytes_uploaded;
    }

-- the chunk at index `at` is counted, with the run of so many chunks that was rejected there
pub counted_step : (m all : DeduplicationMetrics) (leaves rest : List (List ℕ × ℕ)) (choices : List Choice) (at run run_bytes : ℕ) (leaf : List ℕ × ℕ) (c : Choice)
    → at < length leaves → at < length choices → rest ≡ drop at leaves → run ≡ run_of (get_or choices at c) → run_bytes ≡ total_len (take run rest)
    → IsCounted m (drop at leaves) (drop at choices) all
    → IsCounted (counted m (get_or leaves at leaf).1 (get_or choices at c) run_bytes) (drop (at + 1) leaves) (drop (at + 1) choices) all
counted_step m all leaves rest choices at run run_bytes leaf c here here' from same bytes is =
    let l : List ℕ × ℕ = get_or leaves at leaf in
    let d : Choice = get_or choices at c in
    let front : drop at leaves ≡ l ∷ drop (at + 1) leaves = drop_more leaves at leaf here in
    let next : drop at choices ≡ d ∷ drop (at + 1) choices = drop_more choices at c here' in
    let before = subst (λ (x : List (List ℕ × ℕ)). IsCounted m x (d ∷ drop (at + 1) choices) all) front (subst (λ (x : List Choice). IsCounted m (drop at leaves) x all) next is) in
    let counts : run_bytes ≡ total_len (take (run_of d) (l ∷ drop (at + 1) leaves)) =
    bytes ∙ ap (λ (n : ℕ). total_len (take n rest)) same ∙ ap (λ (x : List (List ℕ × ℕ)). total_len (take (run_of d) x)) (from ∙ front) in
    subst (λ (r : ℕ). IsCounted (counted m l.1 d r) (drop (at + 1) leaves) (drop (at + 1) choices) all) (sym counts)
    (counted_cons m all l (drop (at + 1) leaves) d (drop (at + 1) choices) before)

-- ---- room

-- chunks that are not too long have not too many bytes
pub total_len_small : (leaves : List (List ℕ × ℕ)) → AllByRecursion (λ leaf. leaf.1 ≤ max_chunk_len) leaves → total_len leaves ≤ length leaves * max_chunk_len
total_len_small [] small = omega arith
total_len_small (leaf ∷ leaves) small = omega (arith, small.0, total_len_small leaves small.1, sum_by-cons (λ (l : List ℕ × ℕ). l.1) leaf leaves)

pub total_len_drop : (leaves : List (List ℕ × ℕ)) (at : ℕ) → total_len (drop at leaves) ≤ total_len leaves
total_len_drop leaves at = omega (arith, sum_by-take-drop (λ (l : List ℕ × ℕ). l.1) leaves at)

pub total_len_take : (leaves : List (List ℕ × ℕ)) (count : ℕ) → total_len (take count leaves) ≤ total_len leaves
total_len_take leaves count = omega (arith, sum_by-take-drop (λ (l : List ℕ × ℕ). l.1) leaves count)

pub has_room : (m : DeduplicationMetrics) (leaves : List (List ℕ × ℕ)) (choices : List Choice) (global_chunks global_bytes at bytes : ℕ) (leaf : List ℕ × ℕ)
    → at < length leaves → bytes ≡ (get_or leaves at leaf).1 → total_len leaves < 2 ^ 64 → length leaves < 2 ^ 64
    → IsCounted m (drop at leaves) (drop at choices) (metrics_of leaves choices global_chunks global_bytes) → HasRoom m bytes
has_room m leaves choices global_chunks global_bytes at bytes leaf here same few short is =
    let front : drop at leaves ≡ get_or leaves at leaf ∷ drop (at + 1) leaves = drop_more leaves at leaf here in
    let cons = ap total_len front ∙ sum_by-cons (λ (l : List ℕ × ℕ). l.1) (get_or leaves at leaf) (drop (at + 1) leaves) in
    record {
      total_bytes = omega (arith, is.total_bytes, cons, same, few);
      bytes = is.bytes;
      total_chunks = omega (arith, is.total_chunks, length-drop at leaves, here, short);
      chunks = is.chunks;
    }

-- ---- the beginning and the end

nothing_before : (n : ℕ) → 0 + n ≡ n
nothing_before n = omega arith

nothing_after : (n : ℕ) {m : ℕ} → n + 0 ≡ m → n ≡ m
nothing_after n e = omega (arith, e)

pub counted_start : (leaves : List (List ℕ × ℕ)) (choices : List Choice) (global_chunks global_bytes : ℕ)
    → IsCounted (record {
      total_bytes = 0;
      deduped_bytes = 0;
      new_bytes = 0;
      deduped_bytes_by_global_dedup = global_bytes;
      defrag_prevented_dedup_bytes = 0;
      total_chunks = 0;
      deduped_chunks = 0;
      new_chunks = 0;
      deduped_chunks_by_global_dedup = global_chunks;
      defrag_prevented_dedup_chunks = 0;
      xorb_bytes_uploaded = 0;
      shard_bytes_uploaded = 0;
      total_bytes_uploaded = 0;
    }) leaves choices (metrics_of leaves choices global_chunks global_bytes)
counted_start leaves choices global_chunks global_bytes = record {
  total_bytes = nothing_before (total_len leaves);
  deduped_bytes = nothing_before (deduped_bytes leaves choices);
  new_bytes = nothing_before (new_bytes leaves choices);
  bytes = nothing_before 0;
  prevented_bytes = ap (λ (n : ℕ). min n (2 ^ 64 - 1)) (nothing_before (prevented_bytes leaves choices));
  capped_bytes = omega arith;
  total_chunks = nothing_before (length leaves);
  deduped_chunks = nothing_before (deduped_chunks choices);
  new_chunks = nothing_before (new_chunks choices);
  chunks = nothing_before 0;
  prevented_chunks = ap (λ (n : ℕ). min n (2 ^ 64 - 1)) (nothing_before (prevented_chunks choices));
  capped_chunks = omega arith;
  global_bytes = refl;
  global_chunks = refl;
  xorb_bytes_uploaded = refl;
  shard_bytes_uploaded = refl;
  total_bytes_uploaded = refl;
}

-- metrics whose counts are equal are equal
counted_nil : (m all : DeduplicationMetrics) → IsCounted m [] [] all → m ≡ all
counted_nil m all is =
    λ i. record {
      total_bytes = nothing_after m.total_bytes is.total_bytes i;
      deduped_bytes = nothing_after m.deduped_bytes is.deduped_bytes i;
      new_bytes = nothing_after m.new_bytes is.new_bytes i;
      deduped_bytes_by_global_dedup = is.global_bytes i;
      defrag_prevented_dedup_bytes = min_small m.defrag_prevented_dedup_bytes (2 ^ 64 - 1) is.capped_bytes is.prevented_bytes i;
      total_chunks = nothing_after m.total_chunks is.total_chunks i;
      deduped_chunks = nothing_after m.deduped_chunks is.deduped_chunks i;
      new_chunks = nothing_after m.new_chunks is.new_chunks i;
      deduped_chunks_by_global_dedup = is.global_chunks i;
      defrag_prevented_dedup_chunks = min_small m.defrag_prevented_dedup_chunks (2 ^ 64 - 1) is.capped_chunks is.prevented_chunks i;
      xorb_bytes_uploaded = is.xorb_bytes_uploaded i;
      shard_bytes_uploaded = is.shard_bytes_uploaded i;
      total_bytes_uploaded = is.total_bytes_uploaded i;
    }

pub counted_end : (m all : DeduplicationMetrics) (leaves : List (List ℕ × ℕ)) (choices : List Choice) (at : ℕ) → length leaves ≤ at → length choices ≤ at
    → IsCounted m (drop at leaves) (drop at choices) all → m ≡ all
counted_end m all leaves choices at past past' is =
    counted_nil m all (subst (λ (l : List (List ℕ × ℕ)). IsCounted m l [] all) (drop_all at leaves past) (subst (λ (l : List Choice). IsCounted m (drop at leaves) l all) (drop_all at choices past') is))
