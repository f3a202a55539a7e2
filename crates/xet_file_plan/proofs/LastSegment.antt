-- A run joins the segments: what it does to the last one, and to the list.
use Rattle.std.proofs.Common.{◌≡◌, ◌∙◌, ℕ, zero, suc, ◌+◌, ◌≤◌, if◌then◌else◌, Bool, true, false, List, [], ◌∷◌, ◌++◌, get_or, length, set, refl, sym, ap, arith}
use Rattle.xet_shard_format.specs.declared.record.FileDataSequenceEntry.{FileDataSequenceEntry as Segment}
use Rattle.xet_file_plan.specs.Kept.{joined_bytes}
use Rattle.xet_file_plan.specs.Moves.{continues, extended, goes_on, with_run}

-- ---- by the last segment

pub continues_none : (segments : List Segment) (run : Segment) → length segments ≤ 0 → continues segments run ≡ false
unfolding continues
continues_none [] run len = refl
continues_none (s ∷ ss) run len = absurd (omega arith)

pub continues_last : (segments : List Segment) (s run : Segment) (i : ℕ) → length segments ≡ i + 1 → s ≡ get_or segments i s → continues segments run ≡ goes_on s run
unfolding continues
continues_last [] s run i len is = absurd (omega arith)
continues_last (t ∷ []) s run zero len is = ap (λ (u : Segment). goes_on u run) (sym is)
continues_last (t ∷ []) s run (suc i) len is = absurd (omega arith)
continues_last (t ∷ u ∷ ss) s run zero len is = absurd (omega arith)
continues_last (t ∷ u ∷ ss) s run (suc i) len is = continues_last (u ∷ ss) s run i (omega arith) is

pub joined_bytes_last : (segments : List Segment) (s run : Segment) (i : ℕ) → length segments ≡ i + 1 → s ≡ get_or segments i s → goes_on s run ≡ true
    → joined_bytes segments run ≡ s.unpacked_segment_bytes + run.unpacked_segment_bytes
unfolding joined_bytes
joined_bytes_last [] s run i len is goes = absurd (omega arith)
joined_bytes_last (t ∷ []) s run zero len is goes =
    ap (λ (u : Segment). if goes_on u run then u.unpacked_segment_bytes + run.unpacked_segment_bytes else run.unpacked_segment_bytes) (sym is)
    ∙ ap (λ (b : Bool). if b then s.unpacked_segment_bytes + run.unpacked_segment_bytes else run.unpacked_segment_bytes) goes
joined_bytes_last (t ∷ []) s run (suc i) len is goes = absurd (omega arith)
joined_bytes_last (t ∷ u ∷ ss) s run zero len is goes = absurd (omega arith)
joined_bytes_last (t ∷ u ∷ ss) s run (suc i) len is goes = joined_bytes_last (u ∷ ss) s run i (omega arith) is goes

-- a run that goes on there makes it longer
pub with_run_last : (segments : List Segment) (s run : Segment) (i : ℕ) → length segments ≡ i + 1 → s ≡ get_or segments i s → goes_on s run ≡ true
    → set segments i (extended s run) ≡ with_run segments run
unfolding with_run
with_run_last [] s run i len is goes = absurd (omega arith)
with_run_last (t ∷ []) s run zero len is goes =
    sym (
    ap (λ (u : Segment). if goes_on u run then extended u run ∷ [] else u ∷ run ∷ []) (sym is)
    ∙ ap (λ (b : Bool). if b then extended s run ∷ [] else s ∷ run ∷ []) goes
    )
with_run_last (t ∷ []) s run (suc i) len is goes = absurd (omega arith)
with_run_last (t ∷ u ∷ ss) s run zero len is goes = absurd (omega arith)
with_run_last (t ∷ u ∷ ss) s run (suc i) len is goes = ap (λ (us : List Segment). t ∷ us) (with_run_last (u ∷ ss) s run i (omega arith) is goes)

-- and another one comes after it
pub with_run_begins : (segments : List Segment) (run : Segment) → continues segments run ≡ false → with_run segments run ≡ segments ++ run ∷ []
unfolding continues with_run
with_run_begins [] run is = refl
with_run_begins (s ∷ []) run is = rw is refl
with_run_begins (s ∷ t ∷ ss) run is = ap (λ (l : List Segment). s ∷ l) (with_run_begins (t ∷ ss) run is)
