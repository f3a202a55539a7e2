-- Plans, a segment more or less.
use Rattle.std.proofs.Common.{◌≡◌, ◌∙◌, ℕ, zero, suc, ◌<◌, List, [], ◌∷◌, ◌++◌, length, get_or, sym, ap, refl, subst, arith, append_assoc}
use Rattle.std.proofs.lemmas.List.{append-nil}
use Rattle.xet_shard_format.specs.declared.record.FileDataSequenceEntry.{FileDataSequenceEntry as Segment}
use Rattle.xet_folder.specs.Plan.{LiesIn, Resolves, part}

module _ {X : Type 0} (Has : List ℕ → List X → Type 0) (len : X → ℕ) where
  -- a plan and one segment more
  pub resolves_more : (segments : List Segment) (s : Segment) (out xs : List X) → Resolves Has len segments out → Has s.xorb_hash xs → LiesIn len s xs → Resolves Has len (segments ++ s ∷ []) (out ++ part s xs)
  resolves_more [] s out xs none has lies = subst (λ (l : List X). Resolves Has len (s ∷ []) (l ++ part s xs)) (sym none) (xs, [], has, lies, sym (append-nil (part s xs)), refl)
  resolves_more (t ∷ ts) s out xs (ys, rest, first, lies_first, parts, more) has lies =
      (ys, rest ++ part s xs, first, lies_first, ap (λ (l : List X). l ++ part s xs) parts ∙ append_assoc (part t ys) rest (part s xs), resolves_more ts s rest xs more has lies)

  -- each segment of a plan that resolves lies in its xorb
  pub each_lies : (segments : List Segment) (out : List X) (i : ℕ) (s : Segment) → Resolves Has len segments out → i < length segments → s ≡ get_or segments i s → (xs : List X) × Has s.xorb_hash xs × LiesIn len s xs
  each_lies [] out i s none below is = absurd (omega arith)
  each_lies (t ∷ ts) out zero s (xs, rest, has, lies, parts, more) below is =
      subst (λ (r : Segment). (xs : List X) × Has r.xorb_hash xs × LiesIn len r xs) (sym is) (xs, has, lies)
  each_lies (t ∷ ts) out (suc i) s (xs, rest, has, lies, parts, more) below is = each_lies ts rest i s more (omega arith) is
