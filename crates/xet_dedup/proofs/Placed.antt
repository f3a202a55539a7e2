-- A batch is looked up and placed: the walk over it begins and ends with a plan that is right.
use Rattle.std.proofs.Common.{◌≡◌, ◌∙◌, ◌≤◌, ℕ, List, [], ◌∷◌, ◌++◌, length, map, drop, Option, Some, refl, sym, ap, subst, arith}
use Rattle.std.proofs.lemmas.List.{append-nil, append_cancel_left, drop_all, length-map}
use Rattle.xet_choices.specs.Calls.{Call, registered_chunks}
use Rattle.xet_choices.specs.Choices.{hashes_of}
use Rattle.std.specs.List.{AllByRecursion}
use Rattle.xet_cut.specs.Limits.{AreInRange}
use Rattle.xet_dedup_queries.specs.Registering.{max_chunk_len}
use Rattle.xet_xorb_chunk.specs.declared.chunk.Chunk.{Chunk}
use Rattle.xet_dedup.specs.Deduping.{IsChunk}
use Rattle.xet_cut.specs.declared.limits.LimitSettings.{LimitSettings}
use Rattle.xet_dedup_queries.specs.Asking.{AddsQueries}
use Rattle.xet_dedup_queries.specs.Places.{ArePlaces}
use Rattle.xet_dedup_queries.specs.declared.places.Place.{Place}
use Rattle.xet_dedup_queries.specs.theorems.Queries.{registered_chunks-queries}
use Rattle.xet_file_plan.specs.Moves.{PlanState}
use Rattle.xet_file_plan.specs.Plan.{IsPlanSince}
use Rattle.xet_file_plan.specs.theorems.Since.{plan_since_stays}
use Rattle.xet_shard_format.specs.declared.record.FileDataSequenceEntry.{FileDataSequenceEntry as Segment}
use Rattle.xet_xorb_chunk.specs.Chunks.{chunk_leaf}
use Rattle.xet_dedup.specs.declared.walk.Batch.{Batch}
use Rattle.xet_dedup.specs.internal.Batches.{Walks}
use Rattle.xet_dedup.specs.internal.Joining.{IsBatch}
use Rattle.xet_dedup.specs.internal.Walking.{IsWalking}
use Rattle.xet_dedup.proofs.Begins.{walk_begins, walk_ends}

-- calls that are queries register nothing
queries_alone : (old new added : List Call) → AddsQueries old new → new ≡ old ++ added → registered_chunks added ≡ 0
queries_alone old new added q e = ap registered_chunks (append_cancel_left old added q.added (sym e ∙ q.calls)) ∙ registered_chunks-queries q.added q.queries

module _ {I : Type 0} (listing : I → List ℕ → Option (List ℕ)) (standing : I → List (List ℕ) → Segment → Type 0) (calling : I → List Call) where
  pub batch_begins : (start old new : I) (leaves : List (List ℕ × ℕ)) (hashes : List (List ℕ)) (places : List Place) (base : ℕ) (p : PlanState)
      → ((h lengths : List ℕ) → listing old h ≡ Some lengths → listing new h ≡ Some lengths) → ((hashes : List (List ℕ)) (run : Segment) → standing old hashes run → standing new hashes run)
      → IsPlanSince (listing old) (standing old) (calling start) (calling old) p.leaves p
      → AddsQueries (calling old) (calling new)
      → (added : List Call) × (calling new ≡ calling old ++ added) × ArePlaces (listing new) (standing new) (calling old) added hashes places
      → hashes ≡ hashes_of leaves → base ≡ length p.leaves
      → IsWalking (listing new) (standing new) (calling start) (calling new) (p.leaves ++ leaves) hashes places base 0 p
  batch_begins start old new leaves hashes places base p lists stands plan adds found same counted =
      subst (λ (n : ℕ). IsWalking (listing new) (standing new) (calling start) (calling new) (p.leaves ++ leaves) hashes places n 0 p) (sym counted)
      (walk_begins (listing old) (listing new) (standing old) (standing new) lists stands (calling start) (calling old) (calling new) found.0 p plan found.1
      (queries_alone (calling old) (calling new) found.0 adds found.1) leaves hashes same places found.2)

  pub batch_ends : (start now : I) (settings : LimitSettings) (b : Batch) (q : PlanState) → IsBatch settings b → Walks listing standing calling start now b (length b.chunks.now) q
      → IsPlanSince (listing now) (standing now) (calling start) (calling now) q.leaves q
  batch_ends start now settings b q batch w =
      let all : drop (length b.chunks.now) b.leaves.now ≡ [] = drop_all (length b.chunks.now) b.leaves.now (omega (arith, ap length batch.leaves, length-map b.chunks.now chunk_leaf)) in
      walk_ends (listing now) (standing now) (calling start) (calling now) b.hashes.now b.places.now b.base (length b.chunks.now) q
      (subst (λ (l : List (List ℕ × ℕ)). IsWalking (listing now) (standing now) (calling start) (calling now) (q.leaves ++ l) b.hashes.now b.places.now b.base (length b.chunks.now) q) all w)

  -- A call that asks and registers nothing leaves the plan right.
  pub plan_kept : (start old new : I) (q : PlanState)
      → ((h lengths : List ℕ) → listing old h ≡ Some lengths → listing new h ≡ Some lengths) → ((hashes : List (List ℕ)) (run : Segment) → standing old hashes run → standing new hashes run)
      → calling new ≡ calling old
      → IsPlanSince (listing old) (standing old) (calling start) (calling old) q.leaves q → IsPlanSince (listing new) (standing new) (calling start) (calling new) q.leaves q
  plan_kept start old new q lists stands same plan =
      plan_since_stays (listing old) (listing new) (standing old) (standing new) (calling start) (calling old) (calling new) [] q.leaves q.leaves [] q lists stands plan
      (same ∙ sym (append-nil (calling old))) refl (sym (append-nil q.leaves))

-- The chunks of a batch are no longer than a header can state.
batch_small : (settings : LimitSettings) (chunks : List Chunk) → AreInRange settings → AllByRecursion (IsChunk settings) chunks → AllByRecursion (λ leaf. leaf.1 ≤ max_chunk_len) (map chunk_leaf chunks)
batch_small settings [] range all = tt
batch_small settings (c ∷ chunks) range all = (omega (arith, all.0.small, range.maximum_to), batch_small settings chunks range all.1)

all_both : (xs ys : List (List ℕ × ℕ)) → AllByRecursion (λ leaf. leaf.1 ≤ max_chunk_len) xs → AllByRecursion (λ leaf. leaf.1 ≤ max_chunk_len) ys → AllByRecursion (λ leaf. leaf.1 ≤ max_chunk_len) (xs ++ ys)
all_both [] ys all more = more
all_both (x ∷ xs) ys all more = (all.0, all_both xs ys all.1 more)

pub leaves_small : (settings : LimitSettings) (chunks : List Chunk) (old new batch : List (List ℕ × ℕ)) → AreInRange settings → AllByRecursion (IsChunk settings) chunks → batch ≡ map chunk_leaf chunks
    → AllByRecursion (λ leaf. leaf.1 ≤ max_chunk_len) old → new ≡ old ++ batch → AllByRecursion (λ leaf. leaf.1 ≤ max_chunk_len) new
leaves_small settings chunks old new batch range all is small grown =
    subst (AllByRecursion (λ leaf. leaf.1 ≤ max_chunk_len)) (sym (grown ∙ ap (λ (l : List (List ℕ × ℕ)). old ++ l) is)) (all_both old (map chunk_leaf chunks) small (batch_small settings chunks range all))
