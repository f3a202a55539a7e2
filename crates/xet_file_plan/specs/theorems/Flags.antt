-- The segments of a plan have no flags.
use Rattle.std.proofs.Common.{◌≡◌, MatchBool, ℕ, Bool, true, false, List, [], ◌∷◌, take, drop, Option, ap}
use Rattle.std.specs.List.{AllByRecursion}
use Rattle.xet_choices.specs.Calls.{Call}
use Rattle.xet_dedup_queries.specs.Interface.{run_len}
use Rattle.xet_shard_format.specs.declared.record.FileDataSequenceEntry.{FileDataSequenceEntry as Segment}
use Rattle.xet_xorb_chunk.specs.declared.chunk.Chunk.{Chunk}
use Rattle.xet_file_plan.specs.Moves.{PlanState, is_open}
use Rattle.xet_file_plan.specs.Placed.{ArePlaced, HasHashes, LiesInBlock, LiesInXorb}
use Rattle.xet_file_plan.specs.Plan.{IsPlan, IsPlanSince}

module _ (listing : List ℕ → Option (List ℕ)) (standing : List (List ℕ) → Segment → Type 0) where
  -- a segment that lies in the block or in a xorb has none
  plain_segment : (block : List Chunk) (s : Segment) (hashes : List (List ℕ)) → HasHashes listing standing block s hashes → s.xorb_flags ≡ 0
  plain_segment block s hashes has = by (is_open s) has
    where
      by : (b : Bool) → MatchBool b (LiesInBlock block s hashes) (LiesInXorb listing standing s hashes) → s.xorb_flags ≡ 0
      by true lies = ap (λ (t : Segment). t.xorb_flags) lies.run
      by false lies = lies.lies.plain

  -- Segments that are placed have no flags,
  pub placed_plain : (block : List Chunk) (segments : List Segment) (hashes : List (List ℕ)) → ArePlaced listing standing block segments hashes → AllByRecursion (λ s. s.xorb_flags ≡ 0) segments
  unfolding ArePlaced
  placed_plain block [] hashes placed = tt
  placed_plain block (s ∷ ss) hashes placed =
      (plain_segment block s (take (run_len s) hashes) placed.2, placed_plain block ss (drop (run_len s) hashes) placed.3)

  -- so those of a plan that is right have none.
  pub plan_plain : (calls : List Call) (leaves : List (List ℕ × ℕ)) (p : PlanState) → IsPlan listing standing calls leaves p → AllByRecursion (λ s. s.xorb_flags ≡ 0) p.segments
  plan_plain calls leaves p plan = placed_plain p.block p.segments _ plan.placed

  pub plan_since_plain : (before calls : List Call) (leaves : List (List ℕ × ℕ)) (p : PlanState) → IsPlanSince listing standing before calls leaves p → AllByRecursion (λ s. s.xorb_flags ≡ 0) p.segments
  plan_since_plain before calls leaves p plan = plan_plain plan.since leaves p plan.plan
