-- Plans of a file whose deduplication began after some calls.
use Rattle.std.proofs.Common.{◌≡◌, ◌≢◌, ◌⊎◌, inl, inr, ◌∙◌, ℕ, zero, suc, ◌+◌, ◌<◌, ◌^◌, true, false, List, [], ◌∷◌, ◌++◌, length, map, Option, Some, refl, sym, ap}
use Rattle.std.specs.Prelude.{replicate, slice_get}
use Rattle.std.proofs.lemmas.List.{append-nil, append_assoc, append_cancel_left}
use Rattle.xet_choices.specs.declared.choice.Choice.{Choice}
use Rattle.xet_choices.specs.declared.choice.Choice.TheVariants.{Reused, NoPlace}
use Rattle.xet_choices.specs.Calls.{Call, IsAskedIn, registered_chunks}
use Rattle.xet_choices.specs.Calls.Call.{Registered}
use Rattle.xet_choices.specs.Choices.{IsFound, TrueAt, fits, hashes_of, is_reused}
use Rattle.xet_cut.specs.declared.limits.LimitSettings.{LimitSettings}
use Rattle.xet_dedup_queries.specs.Interface.{run_len}
use Rattle.xet_dedup_queries.specs.Registering.{EachPartStands}
use Rattle.xet_fragmentation.specs.Fragmentation.{is_allowed}
use Rattle.xet_hash.specs.Hash.{sentinel}
use Rattle.xet_hash.specs.Merkle.{total_len}
use Rattle.xet_shard_format.specs.declared.record.FileDataSequenceEntry.{FileDataSequenceEntry as Segment}
use Rattle.xet_xorb.specs.Raw.{raw_leaves, raw_of}
use Rattle.xet_xorb.specs.declared.raw.RawXorbData.{RawXorbData}
use Rattle.xet_xorb_chunk.specs.declared.chunk.Chunk.{Chunk}
use Rattle.xet_xorb_chunk.specs.Chunks.{chunk_leaf}
use Rattle.xet_file_plan.specs.Moves.{PlanState, closed, continues, empty_plan, joined, last_index, stored, with_run}
use Rattle.xet_file_plan.specs.Placed.{HasHashes}
use Rattle.xet_file_plan.specs.Plan.{IsPlanSince, IsStorable, setting_of}
use Rattle.xet_file_plan.specs.theorems.Plans.{empty_is_plan, get_either, get_reused, joined_is_plan, plan_stays, some_same}
use Rattle.xet_file_plan.specs.theorems.Storing.{IsLatest, guard_after, stored_after_in_new_block_is_plan, stored_after_is_plan}

-- The entries of queries that found nothing, by these choices, are above those of the earlier calls.
abbrev pub AreLater : List Call → List Choice → Type 0
AreLater before choices = (i m n : ℕ) (h : List ℕ) (reply : Option ℕ) → slice_get choices i ≡ Some (NoPlace m) → IsAskedIn before n h reply → n < m

-- The entry of a query that found nothing is, if it is the reason of a choice.
abbrev pub IsLater : List Call → Choice → Type 0
IsLater before c = (m n : ℕ) (h : List ℕ) (reply : Option ℕ) → c ≡ NoPlace m → IsAskedIn before n h reply → n < m

-- a run adds no such entry
later_run : (before : List Call) (choices : List Choice) (k segment : ℕ) → AreLater before choices → AreLater before (choices ++ replicate k (Reused segment))
later_run before choices k segment later i m n h reply e is = elim (get_either choices (replicate k (Reused segment)) i (NoPlace m) e) [
  | inl old ↦ later i m n h reply old is
  | inr new ↦ (let r = get_reused k segment (NoPlace m) new.0 new.2 in absurd (cc r))
]

-- and a chunk that is stored at most its own
later_push : (before : List Call) (choices : List Choice) (c : Choice) → AreLater before choices → IsLater before c → AreLater before (choices ++ c ∷ [])
later_push before choices c later last i m n h reply e is = by (get_either choices (c ∷ []) i (NoPlace m) e)
  where
    by : ((slice_get choices i ≡ Some (NoPlace m)) ⊎ ((k : ℕ) × (i ≡ length choices + k) × (slice_get (c ∷ []) k ≡ Some (NoPlace m)))) → n < m
    by (inl old) = later i m n h reply old is
    by (inr (zero, at, new)) = last m n h reply (some_same c (NoPlace m) new) is
    by (inr (suc k, at, new)) = absurd (cc new)

-- The calls since then are those after the earlier ones.
pub calls_since : (listing : List ℕ → Option (List ℕ)) (standing : List (List ℕ) → Segment → Type 0) (before calls later : List Call) (leaves : List (List ℕ × ℕ)) (p : PlanState)
    → (plan : IsPlanSince listing standing before calls leaves p) → calls ≡ before ++ later → plan.since ≡ later
calls_since listing standing before calls later leaves p plan e = append_cancel_left before plan.since later (sym plan.added ∙ e)

pub empty_since : (listing : List ℕ → Option (List ℕ)) (standing : List (List ℕ) → Segment → Type 0) (before : List Call) (leaves : List (List ℕ × ℕ)) (settings : LimitSettings)
    → IsPlanSince listing standing before before leaves (empty_plan settings)
empty_since listing standing before leaves settings = record {
  since = [];
  added = sym (append-nil before);
  plan = empty_is_plan listing standing leaves settings;
  later = λ i m n h reply e is. absurd (cc e);
}

pub plan_since_stays : (listing listing' : List ℕ → Option (List ℕ)) (standing standing' : List (List ℕ) → Segment → Type 0) (before calls calls' added : List Call)
    (leaves leaves' more : List (List ℕ × ℕ)) (p : PlanState)
    → ((h lengths : List ℕ) → listing h ≡ Some lengths → listing' h ≡ Some lengths)
    → ((hashes : List (List ℕ)) (run : Segment) → standing hashes run → standing' hashes run)
    → IsPlanSince listing standing before calls leaves p
    → calls' ≡ calls ++ added
    → registered_chunks added ≡ 0
    → leaves' ≡ leaves ++ more
    → IsPlanSince listing' standing' before calls' leaves' p
plan_since_stays listing listing' standing standing' before calls calls' added leaves leaves' more p lists stands plan further none after = record {
  since = plan.since ++ added;
  added = further ∙ ap (λ (cs : List Call). cs ++ added) plan.added ∙ append_assoc before plan.since added;
  plan = plan_stays listing listing' standing standing' plan.since (plan.since ++ added) added leaves leaves' more p lists stands plan.plan refl none after;
  later = plan.later;
}

pub joined_since : (listing : List ℕ → Option (List ℕ)) (standing : List (List ℕ) → Segment → Type 0) (before calls : List Call) (leaves : List (List ℕ × ℕ)) (p : PlanState) (run : Segment)
    (first : List ℕ × ℕ) (ls more : List (List ℕ × ℕ)) (plan : IsPlanSince listing standing before calls leaves p)
    → leaves ≡ p.leaves ++ (ls ++ more)
    → slice_get ls 0 ≡ Some first
    → run_len run ≡ length ls
    → IsFound (setting_of p plan.since leaves) (length p.leaves) first.0 (length ls)
    → (continues p.segments run ≡ true) ⊎ (is_allowed p.guard (length ls) ≡ true)
    → HasHashes listing standing p.block run (hashes_of ls)
    → IsPlanSince listing standing before calls leaves (joined p run ls)
joined_since listing standing before calls leaves p run first ls more plan at begins counted found allowed has = record {
  since = plan.since;
  added = plan.added;
  plan = joined_is_plan listing standing plan.since leaves p run first ls more plan.plan at begins counted found allowed has;
  later = later_run before p.choices (length ls) (last_index (with_run p.segments run)) plan.later;
}

pub stored_since : (listing : List ℕ → Option (List ℕ)) (standing : List (List ℕ) → Segment → Type 0) (before calls : List Call) (leaves : List (List ℕ × ℕ)) (p : PlanState)
    (chunk : Chunk) (more : List (List ℕ × ℕ)) (c : Choice) (plan : IsPlanSince listing standing before calls leaves p)
    → leaves ≡ p.leaves ++ (chunk_leaf chunk ∷ more)
    → IsStorable chunk
    → fits p.settings (map chunk_leaf p.block) (length chunk.bytes) ≡ true
    → is_reused c ≡ false
    → TrueAt (setting_of p plan.since leaves) (length p.leaves) chunk.hash c
    → IsLatest p.choices c
    → IsLater before c
    → IsPlanSince listing standing before calls leaves (stored (record p { guard = guard_after p.guard c }) chunk c)
stored_since listing standing before calls leaves p chunk more c plan at storable fit new is latest later = record {
  since = plan.since;
  added = plan.added;
  plan = stored_after_is_plan listing standing plan.since leaves p chunk more c plan.plan at storable fit new is latest;
  later = later_push before p.choices c plan.later later;
}

pub stored_in_new_block_since : (listing listing' : List ℕ → Option (List ℕ)) (standing standing' : List (List ℕ) → Segment → Type 0) (before calls calls' : List Call) (leaves : List (List ℕ × ℕ))
    (p : PlanState) (chunk : Chunk) (more : List (List ℕ × ℕ)) (c : Choice) (x : RawXorbData) (boundaries : List ℕ) (next : List (List ℕ × ℕ))
    → ((h lengths : List ℕ) → listing h ≡ Some lengths → listing' h ≡ Some lengths)
    → ((hashes : List (List ℕ)) (run : Segment) → standing hashes run → standing' hashes run)
    → (plan : IsPlanSince listing standing before calls leaves p)
    → leaves ≡ p.leaves ++ (chunk_leaf chunk ∷ more)
    → IsStorable chunk
    → fits p.settings (map chunk_leaf p.block) (length chunk.bytes) ≡ false
    → is_reused c ≡ false
    → TrueAt (setting_of p plan.since leaves) (length p.leaves) chunk.hash c
    → IsLatest p.choices c
    → IsLater before c
    → x ≡ raw_of p.block boundaries
    → x.xorb_info.metadata.xorb_hash ≢ sentinel
    → listing' x.xorb_info.metadata.xorb_hash ≡ Some (map (λ m. m.1) (raw_leaves x))
    → EachPartStands standing' x
    → total_len (raw_leaves x) < 2 ^ 32
    → calls' ≡ calls ++ Registered (raw_leaves x) next ∷ []
    → IsPlanSince listing' standing' before calls' leaves (stored (record (closed p x.xorb_info.metadata.xorb_hash) { guard = guard_after p.guard c }) chunk c)
stored_in_new_block_since listing listing' standing standing' before calls calls' leaves p chunk more c x boundaries next lists stands plan at storable unfit new is latest later made named listed parts small further = record {
  since = plan.since ++ Registered (raw_leaves x) next ∷ [];
  added = further ∙ ap (λ (cs : List Call). cs ++ Registered (raw_leaves x) next ∷ []) plan.added ∙ append_assoc before plan.since (Registered (raw_leaves x) next ∷ []);
  plan =
      stored_after_in_new_block_is_plan listing listing' standing standing' plan.since leaves p chunk more c x boundaries next lists stands plan.plan at storable unfit new is latest made named listed parts small;
  later = later_push before p.choices c plan.later later;
}
