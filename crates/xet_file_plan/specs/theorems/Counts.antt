-- The numbers of chunks of the segments after a run joined.
use Rattle.std.proofs.Common.{◌≡◌, ◌∙◌, ℕ, ◌+◌, ◌-◌, ◌<◌, Bool, true, false, List, [], ◌∷◌, ◌++◌, length, refl, sym, ap, subst, arith, length-append}
use Rattle.std.proofs.lemmas.List.{map-append}
use Rattle.xet_choices.specs.Ranges.{Grown, HaveChunks, count_at, seg_of, starts, total}
use Rattle.xet_choices.specs.theorems.Ranges.{count_last, grown_by, grown_last, seg_last, starts_last, starts_new, total-append}
use Rattle.xet_cut.specs.declared.limits.LimitSettings.{LimitSettings}
use Rattle.xet_choices.specs.Choices.{guard_of}
use Rattle.xet_choices.specs.theorems.Guard.{guard_with_longer_range, guard_with_range}
use Rattle.xet_fragmentation.specs.Fragmentation.{with_longer_range, with_range}
use Rattle.xet_dedup_queries.specs.Interface.{run_len}
use Rattle.xet_shard_format.specs.declared.record.FileDataSequenceEntry.{FileDataSequenceEntry as Segment}
use Rattle.xet_file_plan.specs.Moves.{continues, counts_of, extended, goes_on, with_run}
use Rattle.xet_file_plan.specs.theorems.Joining.{goes_on_there, with_run_begins, with_run_continues}

have_chunks_push : (cs : List ℕ) (c : ℕ) → HaveChunks cs → 0 < c → HaveChunks (cs ++ c ∷ [])
have_chunks_push [] c some pos = (pos, tt)
have_chunks_push (d ∷ cs) c some pos = (some.0, have_chunks_push cs c some.1 pos)

have_chunks_last : (cs : List ℕ) (c : ℕ) → HaveChunks (cs ++ c ∷ []) → HaveChunks cs × (0 < c)
have_chunks_last [] c some = (tt, some.0)
have_chunks_last (d ∷ cs) c some = let r = have_chunks_last cs c some.1 in ((some.0, r.0), r.1)

-- What a run of k chunks that joins does to the numbers of chunks of the segments. Its chunks lie in the last one.
pub record CountsJoin (counts joined : List ℕ) (k : ℕ) : Type 0 where
  pub grown : Grown counts joined
  pub sums : total joined ≡ total counts + k
  pub some : HaveChunks joined
  pub last : (i : ℕ) → i < k → seg_of joined (total counts + i) ≡ length joined - 1
  pub first : (i : ℕ) → i < k → starts joined (total counts + i) ≡ true → i ≡ 0

-- a new segment
counts_push : (cs : List ℕ) (k : ℕ) → HaveChunks cs → 0 < k → CountsJoin cs (cs ++ k ∷ []) k
counts_push cs k some pos = record {
  grown = grown_by cs k;
  sums = (let t = total-append cs (k ∷ []) in omega (arith, t));
  some = have_chunks_push cs k some pos;
  last = λ i lt. seg_last cs k i lt ∙ (let l = length-append cs (k ∷ []) in omega (arith, l));
  first = λ i lt is. starts_last cs k i lt is;
}

-- a longer last one
counts_longer : (cs : List ℕ) (c k : ℕ) → HaveChunks (cs ++ c ∷ []) → CountsJoin (cs ++ c ∷ []) (cs ++ (c + k) ∷ []) k
counts_longer cs c k some =
    let r = have_chunks_last cs c some in
    let t = total-append cs (c ∷ []) in
    let at : (i : ℕ) → total (cs ++ c ∷ []) + i ≡ total cs + (c + i) = λ i. omega (arith, t) in
    record {
      grown = grown_last cs c k;
      sums = (let u = total-append cs ((c + k) ∷ []) in omega (arith, t, u));
      some = have_chunks_push cs (c + k) r.0 (omega (arith, r.1));
      last = λ i lt. ap (seg_of (cs ++ (c + k) ∷ [])) (at i) ∙ seg_last cs (c + k) (c + i) (omega (arith, lt)) ∙ (let l = length-append cs ((c + k) ∷ []) in omega (arith, l));
      first = λ i lt is. (let z = starts_last cs (c + k) (c + i) (omega (arith, lt)) (subst (λ (j : ℕ). starts (cs ++ (c + k) ∷ []) j ≡ true) (at i) is) in omega (arith, z, r.1));
    }

-- no chunk of it begins a segment
none_begins : (cs : List ℕ) (c k i : ℕ) → 0 < c → i < k → starts (cs ++ (c + k) ∷ []) (total (cs ++ c ∷ []) + i) ≡ false
none_begins cs c k i pos lt = by (starts (cs ++ (c + k) ∷ []) (total (cs ++ c ∷ []) + i)) refl
  where
    by : (b : Bool) → starts (cs ++ (c + k) ∷ []) (total (cs ++ c ∷ []) + i) ≡ b → b ≡ false
    by false e = refl
    by true e =
        let t = total-append cs (c ∷ []) in
        let at : total (cs ++ c ∷ []) + i ≡ total cs + (c + i) = omega (arith, t) in
        let z = starts_last cs (c + k) (c + i) (omega (arith, lt)) (subst (λ (j : ℕ). starts (cs ++ (c + k) ∷ []) j ≡ true) at e) in
        absurd (omega (arith, z, pos))

-- ---- for a run

-- a segment that was made longer has the chunks of both
pub run_len_extended : (s run : Segment) → goes_on s run ≡ true → 0 < run_len s → 0 < run_len run → run_len (extended s run) ≡ run_len s + run_len run
run_len_extended s run goes pos some = let there = goes_on_there s run goes in omega (arith, there.1, pos, some)

module _ (segments : List Segment) (run : Segment) (chunks : HaveChunks (counts_of segments)) (some : 0 < run_len run) where
  -- the numbers before and after a run that continues the last segment
  longer : continues segments run ≡ true
      → (cs : List ℕ) × (c : ℕ) × (counts_of segments ≡ cs ++ c ∷ []) × (counts_of (with_run segments run) ≡ cs ++ (c + run_len run) ∷ []) × (0 < c)
  longer is =
      let r = with_run_continues segments run is in
      let before : counts_of segments ≡ counts_of r.0 ++ run_len r.1 ∷ [] = ap counts_of r.2 ∙ map-append run_len r.0 (r.1 ∷ []) in
      let pos = (have_chunks_last (counts_of r.0) (run_len r.1) (subst HaveChunks before chunks)).1 in (
        counts_of r.0,
        run_len r.1,
        before,
        ap counts_of r.4 ∙ map-append run_len r.0 (extended r.1 run ∷ []) ∙ ap (λ (n : ℕ). counts_of r.0 ++ n ∷ []) (run_len_extended r.1 run r.3 pos some),
        pos,
      )

  -- and before and after another one
  pub counts_begin : continues segments run ≡ false → counts_of (with_run segments run) ≡ counts_of segments ++ run_len run ∷ []
  counts_begin is = ap counts_of (with_run_begins segments run is) ∙ map-append run_len segments (run ∷ [])

  pub counts_join : CountsJoin (counts_of segments) (counts_of (with_run segments run)) (run_len run)
  counts_join = by (continues segments run) refl
    where
      by : (b : Bool) → continues segments run ≡ b → CountsJoin (counts_of segments) (counts_of (with_run segments run)) (run_len run)
      by true e =
          let r = longer e in
          let joins = counts_longer r.0 r.1 (run_len run) (subst HaveChunks r.2 chunks) in
          subst (λ (cs : List ℕ). CountsJoin cs (counts_of (with_run segments run)) (run_len run)) (sym r.2)
          (subst (λ (ds : List ℕ). CountsJoin (r.0 ++ r.1 ∷ []) ds (run_len run)) (sym r.3) joins)
      by false e = subst (λ (ds : List ℕ). CountsJoin (counts_of segments) ds (run_len run)) (sym (counts_begin e)) (counts_push (counts_of segments) (run_len run) chunks some)

  -- no chunk of a run that continues the last segment begins one
  pub starts_none : continues segments run ≡ true → (i : ℕ) → i < run_len run → starts (counts_of (with_run segments run)) (total (counts_of segments) + i) ≡ false
  starts_none is i lt =
      let r = longer is in
      (λ j. starts (r.3 j) (total (r.2 j) + i)) ∙ none_begins r.0 r.1 (run_len run) i r.4 lt

  -- the first chunk of another one does
  pub starts_first : continues segments run ≡ false → starts (counts_of (with_run segments run)) (total (counts_of segments)) ≡ true
  starts_first is = ap (λ (ds : List ℕ). starts ds (total (counts_of segments))) (counts_begin is) ∙ starts_new (counts_of segments) (run_len run) chunks

  -- and its segment has all of them
  pub count_first : continues segments run ≡ false → count_at (counts_of (with_run segments run)) (length (counts_of (with_run segments run)) - 1) ≡ run_len run
  count_first is =
      let counts : List ℕ = counts_of segments in
      let len = length-append counts (run_len run ∷ []) in
      let last : length (counts ++ run_len run ∷ []) - 1 ≡ length counts = omega (arith, len) in
      ap (λ (ds : List ℕ). count_at ds (length ds - 1)) (counts_begin is) ∙ ap (count_at (counts ++ run_len run ∷ [])) last ∙ count_last counts (run_len run)

  -- ---- the guard

  pub guard_longer : (settings : LimitSettings) (low : Bool) → continues segments run ≡ true
      → with_longer_range (guard_of settings (counts_of segments) low) (run_len run) ≡ guard_of settings (counts_of (with_run segments run)) low
  guard_longer settings low is =
      let r = longer is in
      ap (λ (cs : List ℕ). with_longer_range (guard_of settings cs low) (run_len run)) r.2
      ∙ guard_with_longer_range settings r.0 r.1 low (run_len run)
      ∙ ap (λ (cs : List ℕ). guard_of settings cs low) (sym r.3)

  pub guard_begins : (settings : LimitSettings) (low : Bool) → continues segments run ≡ false
      → with_range (guard_of settings (counts_of segments) low) (run_len run) ≡ guard_of settings (counts_of (with_run segments run)) low
  guard_begins settings low is =
      guard_with_range settings (counts_of segments) low (run_len run) ∙ ap (λ (cs : List ℕ). guard_of settings cs low) (sym (counts_begin is))
