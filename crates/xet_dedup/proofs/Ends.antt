-- Each run that was rejected ends within its batch.
use Rattle.std.proofs.Common.{◌≡◌, ◌⊎◌, inl, inr, ◌∙◌, ℕ, ◌+◌, ◌≤◌, List, [], ◌∷◌, ◌++◌, append_assoc, length, take, drop, refl, sym, ap, subst, arith, length-append}
use Rattle.std.specs.Prelude.{replicate}
use Rattle.std.proofs.Math.Seq.{drop-append_seam}
use Rattle.std.proofs.lemmas.List.{append-nil, length-drop, length-map, length-replicate, length-take-le}
use Rattle.xet_choices.specs.declared.choice.Choice.{Choice}
use Rattle.xet_choices.specs.declared.choice.Choice.TheVariants.{Reused}
use Rattle.xet_choices.specs.Choices.{hashes_of}
use Rattle.xet_choices.specs.Sums.{RunsEnd, run_of}
use Rattle.xet_choices.specs.theorems.Sums.{runs_end-append, runs_end_more, runs_end_run}
use Rattle.xet_dedup_queries.specs.declared.places.Place.{Place}
use Rattle.xet_file_plan.specs.Moves.{PlanState, last_index, with_run}
use Rattle.xet_shard_format.specs.declared.record.FileDataSequenceEntry.{FileDataSequenceEntry as Segment}
use Rattle.xet_dedup.specs.Placing.{HasNone, IsReason, IsRunAt, Joins, Rejects}
use Rattle.xet_dedup.specs.internal.Batches.{AddsChoices}
use Rattle.xet_dedup.specs.internal.Joining.{CanJoin}

-- ---- choices that are added

pub adds_none : (leaves : List (List ℕ × ℕ)) (choices : List Choice) → AddsChoices leaves choices choices 0
adds_none leaves choices = record { added = []; grown = sym (append-nil choices); each = refl; ends = tt }

pub adds_more : (leaves : List (List ℕ × ℕ)) (old mid new : List Choice) (at count : ℕ) → AddsChoices leaves old mid at → AddsChoices (drop at leaves) mid new count
    → AddsChoices leaves old new (at + count)
adds_more leaves old mid new at count a b = record {
  added = a.added ++ b.added;
  grown = b.grown ∙ ap (λ (cs : List Choice). cs ++ b.added) a.grown ∙ append_assoc old a.added b.added;
  each = omega (arith, length-append a.added b.added, a.each, b.each);
  ends = runs_end-append leaves a.added b.added a.ends (subst (λ (n : ℕ). RunsEnd (drop n leaves) b.added) (sym a.each) b.ends);
}

-- ---- batches that follow one another

pub ends_both : (leaves more : List (List ℕ × ℕ)) (choices next : List Choice) → length choices ≡ length leaves → RunsEnd leaves choices → RunsEnd more next
    → RunsEnd (leaves ++ more) (choices ++ next)
ends_both leaves more choices next each ends rest =
    let follows : drop (length choices) (leaves ++ more) ≡ more = ap (λ (n : ℕ). drop n (leaves ++ more)) each ∙ drop-append_seam leaves more in
    runs_end-append (leaves ++ more) choices next (runs_end_more leaves more choices (omega (arith, each)) ends) (subst (λ (ls : List (List ℕ × ℕ)). RunsEnd ls next) (sym follows) rest)

-- ---- a step

one_ends : (leaves : List (List ℕ × ℕ)) (c : Choice) → run_of c ≤ length leaves → RunsEnd leaves (c ∷ [])
one_ends [] c le = (le, tt)
one_ends (leaf ∷ leaves) c le = (le, tt)

module _ (p : PlanState) (leaves : List (List ℕ × ℕ)) (hashes : List (List ℕ)) (places : List Place) (base at : ℕ) (same : hashes ≡ hashes_of leaves) where
  -- as many hashes as leaves, from a place on
  length_rest : length (drop at hashes) ≡ length (drop at leaves)
  length_rest = omega (arith, length-drop at hashes, length-drop at leaves, ap length same, length-map leaves (λ (leaf : List ℕ × ℕ). leaf.0))

  run_ends : (count : ℕ) (run : Segment) → CanJoin p hashes places at → IsRunAt p hashes places at count run → count ≤ length (drop at hashes)
  run_ends count run can (inl kept) = let known = can.kept run kept.0.0 kept.0.1 in omega (arith, known.1, kept.1, length-drop at hashes)
  run_ends count run can (inr opened) = opened.1.few

  -- no run was rejected
  reason_ends : (c : Choice) → IsReason places base at c → run_of c ≤ 0
  reason_ends c (inl missed) = omega (arith, ap run_of missed.2)
  reason_ends c (inr covered) = omega (arith, ap run_of covered.2)

  choice_ends : (m : PlanState) (c : Choice) → CanJoin p hashes places at → Rejects p m hashes places at c ⊎ HasNone p m hashes places base at c → run_of c ≤ length (drop at leaves)
  choice_ends m c can (inl r) = omega (arith, ap run_of r.reason, run_ends r.count r.run can r.found, length_rest)
  choice_ends m c can (inr n) = omega (arith, reason_ends c n.reason)

  -- the choice of a chunk that is stored
  pub adds_stored : (m q : PlanState) (c : Choice) → CanJoin p hashes places at → Rejects p m hashes places at c ⊎ HasNone p m hashes places base at c
      → q.choices ≡ p.choices ++ c ∷ [] → AddsChoices (drop at leaves) p.choices q.choices 1
  adds_stored m q c can none grown = record { added = c ∷ []; grown = grown; each = refl; ends = one_ends (drop at leaves) c (choice_ends m c can none) }

  -- the choices of a run that joined
  pub adds_joined : (q : PlanState) (count : ℕ) → at + count ≤ length leaves → Joins p q leaves hashes places at count → AddsChoices (drop at leaves) p.choices q.choices count
  adds_joined q count within joins =
      let counted : length (take count (drop at leaves)) ≡ count = length-take-le count (drop at leaves) (omega (arith, within, length-drop at leaves)) in
      let segment : ℕ = last_index (with_run p.segments joins.run) in
      record {
        added = replicate (length (take count (drop at leaves))) (Reused segment);
        grown = ap (λ (m : PlanState). m.choices) joins.plan;
        each = length-replicate (length (take count (drop at leaves))) (Reused segment) ∙ counted;
        ends = runs_end_run (drop at leaves) (length (take count (drop at leaves))) segment;
      }
