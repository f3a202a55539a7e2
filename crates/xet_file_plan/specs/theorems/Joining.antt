-- A run joins some segments: it makes the last one longer, or comes after it.
use Rattle.std.proofs.Common.{◌≡◌, ◌∙◌, ℕ, ◌&&◌, Bool, true, false, List, [], ◌∷◌, ◌++◌, refl, ap, arith, nat_eq}
use Rattle.std.specs.Cmp.Lexicographic.{bytes_decides, pointwise}
use Rattle.std.proofs.lemmas.Bool.Decides.{nat_tests}
use Rattle.xet_shard_format.specs.declared.record.FileDataSequenceEntry.{FileDataSequenceEntry as Segment}
use Rattle.xet_file_plan.specs.Moves.{continues, extended, goes_on, with_run}

both : (a b : Bool) → (a && b) ≡ true → (a ≡ true) × (b ≡ true)
both true b e = (refl, e)
both false b e = absurd (cc e)

same_number : (m n : ℕ) → nat_eq m n ≡ true → m ≡ n
same_number m n e = grind (arith, nat_tests)

-- a run that goes on lies in the same xorb, from where the segment ends
pub goes_on_there : (s run : Segment) → goes_on s run ≡ true → (s.xorb_hash ≡ run.xorb_hash) × (s.chunk_index_end ≡ run.chunk_index_start)
goes_on_there s run e =
    let r = both (pointwise nat_eq s.xorb_hash run.xorb_hash) (nat_eq s.chunk_index_end run.chunk_index_start) e in
    ((bytes_decides s.xorb_hash run.xorb_hash).0 r.0, same_number s.chunk_index_end run.chunk_index_start r.1)

-- and the other way round
pub goes_on_from : (s run : Segment) → s.xorb_hash ≡ run.xorb_hash → s.chunk_index_end ≡ run.chunk_index_start → goes_on s run ≡ true
goes_on_from s run e f =
    ap (λ (b : Bool). b && nat_eq s.chunk_index_end run.chunk_index_start) ((bytes_decides s.xorb_hash run.xorb_hash).1 e) ∙ same_test s.chunk_index_end run.chunk_index_start f
  where
    same_test : (m n : ℕ) → m ≡ n → nat_eq m n ≡ true
    same_test m n e = grind (arith, nat_tests)

-- a run that continues the last segment makes it longer
pub with_run_continues : (segments : List Segment) (run : Segment) → continues segments run ≡ true
    → (ss : List Segment) × (s : Segment) × (segments ≡ ss ++ s ∷ []) × (goes_on s run ≡ true) × (with_run segments run ≡ ss ++ extended s run ∷ [])
unfolding continues with_run
with_run_continues [] run is = absurd (cc is)
with_run_continues (s ∷ []) run is = ([], s, refl, is, rw is refl)
with_run_continues (s ∷ t ∷ ss) run is =
    let r = with_run_continues (t ∷ ss) run is in
    (s ∷ r.0, r.1, ap (λ (l : List Segment). s ∷ l) r.2, r.3, ap (λ (l : List Segment). s ∷ l) r.4)

-- and another one comes after it
pub with_run_begins : (segments : List Segment) (run : Segment) → continues segments run ≡ false → with_run segments run ≡ segments ++ run ∷ []
unfolding continues with_run
with_run_begins [] run is = refl
with_run_begins (s ∷ []) run is = rw is refl
with_run_begins (s ∷ t ∷ ss) run is = ap (λ (l : List Segment). s ∷ l) (with_run_begins (t ∷ ss) run is)
