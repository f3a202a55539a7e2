-- How many history entries batches make at most, if each chunk has at most one query.
use Rattle.std.proofs.Common.{◌≡◌, ◌∙◌, ℕ, ◌+◌, ◌*◌, ◌≤◌, ◌<◌, Bool, zero, suc, List, [], ◌++◌, append_assoc, length, length-append, Option, sym, ap, arith}
use Rattle.std.specs.List.{AllByRecursion}
use Rattle.std.proofs.lemmas.List.{append-nil, length-map}
use Rattle.xet_base.specs.theorems.Elements.{all_both}
use Rattle.xet_choices.specs.Calls.{Call, queries_of}
use Rattle.xet_choices.specs.theorems.Calls.{queries_of-append}
use Rattle.xet_cut.specs.Limits.{AreInRange}
use Rattle.xet_dedup_queries.specs.Acts.{Act}
use Rattle.xet_dedup_queries.specs.Counting.{HasNext, entries_at_most, registered_leaves}
use Rattle.xet_dedup_queries.specs.theorems.Counting.{begins_itself, entries_at_most-append, first_registered-begins, lands_in-append, registered_leaves-append}
use Rattle.xet_file_plan.specs.Moves.{PlanState}
use Rattle.xet_shard_format.specs.declared.record.FileDataSequenceEntry.{FileDataSequenceEntry as Segment}
use Rattle.xet_xorb_chunk.specs.declared.chunk.Chunk.{Chunk}
use Rattle.xet_xorb_chunk.specs.Chunks.{chunk_leaf}
use Rattle.xet_dedup.specs.Adding.{AddsCalls, StopsCalls}
use Rattle.xet_dedup.specs.Adding.IsSomeOf.{nothing}
use Rattle.xet_dedup.specs.Deduping.{IsChunk}
use Rattle.xet_dedup.specs.Placing.{IsPlaced, StopsBatch}
use Rattle.xet_dedup.specs.theorems.Adding.{placed_calls, stopped_calls}
use Rattle.xet_dedup.specs.theorems.Parts.{some_both}

-- ---- batches that follow one another

-- no batch adds nothing
pub adds_none : (before : List (List ℕ × ℕ)) (calls : List Call) → AddsCalls before before [] calls calls
adds_none before calls = record {
  added = [];
  grown = sym (append-nil calls);
  asked = omega arith;
  nexts = tt;
  stored = [];
  some = nothing;
  kept = sym (append-nil before);
  opens = begins_itself before;
  lands = tt;
  each = omega arith;
  few = omega arith;
  room = λ lt. absurd (omega (arith, lt));
}

-- Room for two entries of a step that fails after two batches: after the second, or after the first if the second has no chunks.
both_have_room : (one two queries again block mid leaves more : ℕ) → one + 2 * mid ≤ queries + 2 * (block + leaves) → (0 < leaves → one + 2 ≤ queries + 2 * (block + leaves))
    → two ≤ again + 2 * more → (0 < more → two + 2 ≤ again + 2 * (mid + more)) → 0 < leaves + more → (one + two) + 2 ≤ (queries + again) + 2 * (block + (leaves + more))
both_have_room one two queries again block mid leaves zero few first each second some = omega (arith, first (omega (arith, some)), each)
both_have_room one two queries again block mid leaves (suc more) few first each second some = omega (arith, few, second (omega arith))

module _ (before mid leaves more : List (List ℕ × ℕ)) (old now new : List Call) (first : AddsCalls before mid leaves old now) where
  -- what two batches add, the second after the first,
  pub adds_both : (after : List (List ℕ × ℕ)) → AddsCalls mid after more now new → AddsCalls before after (leaves ++ more) old new
  adds_both after second =
      let entries = entries_at_most-append first.added second.added in
      let queries = queries_of-append first.added second.added in
      let count = length-append leaves more in
      record {
        added = first.added ++ second.added;
        grown = second.grown ∙ ap (λ (cs : List Call). cs ++ second.added) first.grown ∙ append_assoc old first.added second.added;
        asked = omega (arith, queries, count, first.asked, second.asked);
        nexts = all_both HasNext first.added second.added first.nexts second.nexts;
        stored = first.stored ++ second.stored;
        some = some_both first.stored leaves second.stored more first.some second.some;
        kept =
            ap (λ (l : List (List ℕ × ℕ)). l ++ after) (registered_leaves-append first.added second.added)
            ∙ append_assoc (registered_leaves first.added) (registered_leaves second.added) after
            ∙ ap (λ (l : List (List ℕ × ℕ)). registered_leaves first.added ++ l) second.kept
            ∙ sym (append_assoc (registered_leaves first.added) mid second.stored)
            ∙ ap (λ (l : List (List ℕ × ℕ)). l ++ second.stored) first.kept
            ∙ append_assoc before first.stored second.stored;
        opens = first_registered-begins first.added second.added mid after before first.opens second.opens;
        lands = lands_in-append first.added second.added mid after first.lands second.lands second.opens;
        each = omega (arith, entries, queries, count, first.each, second.each);
        few = omega (arith, entries, queries, count, first.few, second.few);
        room = λ some.
            omega (
              arith,
              entries,
              queries,
              count,
              both_have_room (entries_at_most first.added) (entries_at_most second.added) (queries_of first.added) (queries_of second.added) (length before) (length mid) (length leaves) (length more) first.few first.room second.each second.room (omega (arith, some, count)),
            );
      }

  -- and where the second stopped
  pub adds_then_stops : StopsCalls mid more now new → StopsCalls before (leaves ++ more) old new
  adds_then_stops second =
      let entries = entries_at_most-append first.added second.added in
      let queries = queries_of-append first.added second.added in
      let count = length-append leaves more in
      record {
        added = first.added ++ second.added;
        grown = second.grown ∙ ap (λ (cs : List Call). cs ++ second.added) first.grown ∙ append_assoc old first.added second.added;
        asked = omega (arith, queries, count, first.asked, second.asked);
        nexts = all_both HasNext first.added second.added first.nexts second.nexts;
        stored = first.stored ++ second.stored;
        some = some_both first.stored leaves second.stored more first.some second.some;
        left = second.left;
        kept =
            ap (λ (l : List (List ℕ × ℕ)). l ++ second.left) (registered_leaves-append first.added second.added)
            ∙ append_assoc (registered_leaves first.added) (registered_leaves second.added) second.left
            ∙ ap (λ (l : List (List ℕ × ℕ)). registered_leaves first.added ++ l) second.kept
            ∙ sym (append_assoc (registered_leaves first.added) mid second.stored)
            ∙ ap (λ (l : List (List ℕ × ℕ)). l ++ second.stored) first.kept
            ∙ append_assoc before first.stored second.stored;
        each = omega (arith, entries, queries, count, first.each, second.each);
        room = λ some.
            omega (
              arith,
              entries,
              queries,
              count,
              both_have_room (entries_at_most first.added) (entries_at_most second.added) (queries_of first.added) (queries_of second.added) (length before) (length mid) (length leaves) (length more) first.few first.room second.each second.room (omega (arith, some, count)),
            );
      }

-- ---- entries

module _ {I : Type 0} (listing : I → List ℕ → Option (List ℕ)) (standing : I → List (List ℕ) → Segment → Type 0) (calling : I → List Call) (acting : I → List Act) (file_id : ℕ) (chunks : List Chunk) (old : I) (p : PlanState) (new : I)
    (range : AreInRange p.settings) (are : AllByRecursion (IsChunk p.settings) chunks) (once : queries_of (calling new) ≤ queries_of (calling old) + length chunks) where
  few_queries : (added : List Call) → calling new ≡ calling old ++ added → queries_of added ≤ length chunks
  few_queries added grown = omega (arith, once, ap queries_of grown, queries_of-append (calling old) added)

  -- The entries of a batch that was placed are at most three for each of its chunks and two for each of the open block before,
  -- less two for each of the open block after.
  pub placed_few : (q : PlanState) (global_chunks global_bytes : ℕ) → IsPlaced listing standing calling acting file_id chunks old p new q global_chunks global_bytes
      → (added : List Call) × (calling new ≡ calling old ++ added) × (entries_at_most added ≤ 3 * length chunks) × (entries_at_most added + 2 * length q.block ≤ 3 * length chunks + 2 * length p.block)
  placed_few q global_chunks global_bytes is =
      let adds = placed_calls listing standing calling acting file_id chunks old p new q global_chunks global_bytes range are is in
      let queries = few_queries adds.added adds.grown in
      let count = length-map chunks chunk_leaf in (
        adds.added,
        adds.grown,
        omega (arith, adds.each, queries, count),
        omega (arith, adds.few, queries, count, length-map p.block chunk_leaf, length-map q.block chunk_leaf),
      )

  -- Those of a batch that was not placed are at most three for each of its chunks, and each registration was made because a
  -- chunk did not fit. If it has chunks, these entries and two more of the step that failed are at most three for each chunk,
  -- and two for each of the open block before.
  pub stopped_few : (is_global : Bool) → StopsBatch is_global listing standing calling acting file_id chunks old p new
      → (added : List Call) × (calling new ≡ calling old ++ added) × (entries_at_most added ≤ 3 * length chunks) × AllByRecursion HasNext added
      × (0 < length chunks → entries_at_most added + 2 ≤ 3 * length chunks + 2 * length p.block)
  stopped_few is_global stops =
      let adds = stopped_calls listing standing calling acting file_id chunks old p is_global new range are stops in
      let queries = few_queries adds.added adds.grown in
      let count = length-map chunks chunk_leaf in (
        adds.added,
        adds.grown,
        omega (arith, adds.each, queries, count),
        adds.nexts,
        λ some. omega (arith, adds.room (omega (arith, some, count)), queries, count, length-map p.block chunk_leaf),
      )
