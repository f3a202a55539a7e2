-- The open block with the record of a file: it can be a xorb, and the open segments of the record are runs of it.
use Rattle.std.proofs.Common.{◌≡◌, ◌∙◌, MatchBool, ℕ, ◌+◌, ◌^◌, ◌<◌, ◌≤◌, Bool, true, false, List, [], ◌∷◌, length, map, take, drop, Option, refl, sym, ap, subst, arith}
use Rattle.std.specs.List.{AllByRecursion, sum_by}
use Rattle.std.proofs.lemmas.List.{length-map}
use Rattle.std.proofs.lemmas.List.Sums.{sum_by-cons}
use Rattle.xet_aggregate.specs.Aggregate.{Aggregate, HasRunsOf, IsAggregate, IsRunOf, first_boundary, single}
use Rattle.xet_cut.specs.Limits.{AreInRange}
use Rattle.xet_cut.specs.declared.limits.LimitSettings.{LimitSettings}
use Rattle.xet_dedup_queries.specs.Interface.{run_len}
use Rattle.xet_dedup_queries.specs.Registering.{max_chunk_len}
use Rattle.xet_file_plan.specs.Moves.{is_open}
use Rattle.xet_file_plan.specs.Placed.{ArePlaced, LiesInBlock, LiesInXorb}
use Rattle.xet_shard_format.specs.declared.record.FileDataSequenceEntry.{FileDataSequenceEntry as Segment}
use Rattle.xet_shard_format.specs.declared.record.MDBFileInfo.{MDBFileInfo}
use Rattle.xet_xorb.specs.Raw.{ArePartsOfXorb}
use Rattle.xet_xorb_chunk.specs.Chunks.{bytes_of_chunk, total}
use Rattle.xet_xorb_chunk.specs.declared.chunk.Chunk.{Chunk}

-- ---- the open block can be a xorb

parts_small : (chunks : List Chunk) → AllByRecursion (λ c. length c.bytes ≤ max_chunk_len) chunks → AllByRecursion (λ p. length p < 2 ^ 24) (map bytes_of_chunk chunks)
parts_small [] small = tt
parts_small (c ∷ cs) small = (omega (arith, small.0), parts_small cs small.1)

total-parts : (chunks : List Chunk) → sum_by length (map bytes_of_chunk chunks) ≡ total chunks
total-parts [] = refl
total-parts (c ∷ cs) =
    sum_by-cons length c.bytes (map bytes_of_chunk cs) ∙ ap (λ (n : ℕ). length c.bytes + n) (total-parts cs) ∙ sym (sum_by-cons (λ (k : Chunk). length k.bytes) c cs)

parts_of_block : (settings : LimitSettings) (block : List Chunk) → AreInRange settings → total block ≤ settings.cut_bytes → length block ≤ settings.cut_chunks
    → AllByRecursion (λ c. length c.bytes ≤ max_chunk_len) block → ArePartsOfXorb (map bytes_of_chunk block)
parts_of_block settings block range bytes count small = record {
  count = omega (arith, length-map block bytes_of_chunk, count, range.cut_chunks_to);
  small = parts_small block small;
  total = omega (arith, total-parts block, bytes, range.cut_bytes_to);
}

boundaries_within : (block : List Chunk) → AllByRecursion (λ k. k ≤ length block) (first_boundary block)
boundaries_within [] = tt
boundaries_within (c ∷ cs) = (omega arith, tt)

-- ---- its open segments are runs of it

run_in_block : (block : List Chunk) (s : Segment) (hashes : List (List ℕ)) → LiesInBlock block s hashes → IsRunOf block s
run_in_block block s hashes lies =
    let end : s.chunk_index_end ≡ s.chunk_index_start + run_len s = ap (λ (t : Segment). t.chunk_index_end) lies.run in
    record {
      ordered = omega (arith, end);
      within = lies.within;
      bytes = ap (λ (t : Segment). t.unpacked_segment_bytes) lies.run;
    }

module _ (listing : List ℕ → Option (List ℕ)) (standing : List (List ℕ) → Segment → Type 0) (block : List Chunk) where
  lies_in_block : (s : Segment) (hashes : List (List ℕ)) (b : Bool) → b ≡ true → MatchBool b (LiesInBlock block s hashes) (LiesInXorb listing standing s hashes) → LiesInBlock block s hashes
  lies_in_block s hashes true is has = has
  lies_in_block s hashes false is has = absurd (cc is)

  runs_placed : (ss : List Segment) (hashes : List (List ℕ)) → ArePlaced listing standing block ss hashes → HasRunsOf block ss
  unfolding ArePlaced
  runs_placed [] hashes placed = tt
  runs_placed (s ∷ ss) hashes placed = (
    λ is. run_in_block block s (take (run_len s) hashes) (lies_in_block s (take (run_len s) hashes) (is_open s) is placed.2),
    runs_placed ss (drop (run_len s) hashes) placed.3,
  )

  -- the chunks of the open block with the record of a file whose segments are placed
  pub aggregate_of_plan : (settings : LimitSettings) (a : Aggregate) (chunks : List Chunk) (file : MDBFileInfo) (indices : List ℕ) (id : ℕ) (segments : List Segment) (hashes : List (List ℕ))
      → AreInRange settings → total block ≤ settings.cut_bytes → length block ≤ settings.cut_chunks → AllByRecursion (λ c. length c.bytes ≤ max_chunk_len) block
      → ArePlaced listing standing block segments hashes → chunks ≡ block → file.segments ≡ segments
      → a ≡ single chunks file indices id → IsAggregate a
  aggregate_of_plan settings a chunks file indices id segments hashes range bytes count small placed same same' is = subst IsAggregate (sym is) (record {
    parts = subst (λ (b : List Chunk). ArePartsOfXorb (map bytes_of_chunk b)) (sym same) (parts_of_block settings block range bytes count small);
    boundaries = boundaries_within chunks;
    runs = (subst (λ (b : List Chunk). HasRunsOf b file.segments) (sym same) (subst (HasRunsOf block) (sym same') (runs_placed segments hashes placed)), tt);
  })
