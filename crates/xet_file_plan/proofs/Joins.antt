-- A run that was found joins the plan.
use Rattle.std.proofs.Common.{◌≡◌, ◌∙◌, ℕ, ◌+◌, ◌-◌, if◌then◌else◌, Bool, true, false, List, ◌++◌, length, refl, sym, ap, take, arith}
use Rattle.std.specs.Prelude.{replicate}
use Rattle.std.proofs.lemmas.List.{take_all}
use Rattle.xet_choices.specs.declared.choice.Choice.{Choice}
use Rattle.xet_fragmentation.specs.Fragmentation.{Fragmentation, asked, is_allowed, with_longer_range, with_range}
use Rattle.xet_shard_format.specs.declared.record.FileDataSequenceEntry.{FileDataSequenceEntry as Segment}
use Rattle.xet_file_plan.specs.Moves.{PlanState, continues, joined_guard, rejected}

-- q is p, with another guard or the same
pub record SameButGuard (p q : PlanState) : Type 0 where
  pub settings : q.settings ≡ p.settings
  pub leaves : q.leaves ≡ p.leaves
  pub segments : q.segments ≡ p.segments
  pub block : q.block ≡ p.block
  pub choices : q.choices ≡ p.choices

module _ (p q : PlanState) (run : Segment) (k : ℕ) (may : Bool) (goes : continues p.segments run ≡ true → (may ≡ true) × (q ≡ p))
    (other : continues p.segments run ≡ false → (may ≡ is_allowed p.guard k) × (q ≡ rejected p k)) where
  -- asking the guard changes nothing but it
  pub asked_same : SameButGuard p q
  asked_same = by (continues p.segments run) refl
    where
      by : (b : Bool) → continues p.segments run ≡ b → SameButGuard p q
      by true e =
          let same = (goes e).1 in
          record { settings = λ i. (same i).settings; leaves = λ i. (same i).leaves; segments = λ i. (same i).segments; block = λ i. (same i).block; choices = λ i. (same i).choices }
      by false e =
          let same = (other e).1 in
          record { settings = λ i. (same i).settings; leaves = λ i. (same i).leaves; segments = λ i. (same i).segments; block = λ i. (same i).block; choices = λ i. (same i).choices }

  -- the guard once the run has joined
  pub guard_joined : (continued : Bool) (guard : Fragmentation) → continued ≡ continues p.segments run → (continued ≡ false → guard ≡ with_range q.guard k) → (continued ≡ true → guard ≡ with_longer_range q.guard k)
      → guard ≡ joined_guard p run k
  guard_joined true guard e begins longer =
      longer refl
      ∙ ap (λ (s : PlanState). with_longer_range s.guard k) (goes (sym e)).1
      ∙ ap (λ (b : Bool). if b then with_longer_range p.guard k else with_range (asked p.guard k) k) e
  guard_joined false guard e begins longer =
      begins refl
      ∙ ap (λ (s : PlanState). with_range s.guard k) (other (sym e)).1
      ∙ ap (λ (b : Bool). if b then with_longer_range p.guard k else with_range (asked p.guard k) k) e

-- so many more times the same choice
pub more_choices : (choices : List Choice) (choice : Choice) (m n k : ℕ) → m ≡ length choices → n ≡ m + k → take n choices ++ replicate (n - m) choice ≡ choices ++ replicate k choice
more_choices choices choice m n k len sum =
    let rest : n - m ≡ k = omega (arith, sum) in
    (λ i. take_all n choices (omega (arith, len, sum)) i ++ replicate (rest i) choice)
