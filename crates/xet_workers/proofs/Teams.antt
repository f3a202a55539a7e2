-- Workers over parts of sources that follow each other.
use Rattle.std.proofs.Common.{◌≡◌, ◌∙◌, ℕ, suc, ◌+◌, Bool, List, [], ◌∷◌, ◌++◌, length, map, append-nil, append_assoc, length-append, refl, sym, ap, subst, arith}
use Rattle.std.proofs.lemmas.List.{length-map, map-append}
use Rattle.std.specs.Prelude.{slice_index_or, slice_set}
use Rattle.xet_store.specs.Recorded.{RecordedState}
use Rattle.xet_store_disk.specs.Cleaning.{AreTaken, Later}
use Rattle.xet_workers.specs.Workers.{AreReady, HasEnded, HaveEnded, IsReady, SeatState}

module _ {S : Type 0} (tells : S → Bool) (left : S → List ℕ) (faults : S → ℕ) where
  -- ---- sources

  pub tell_both : (ss ts ss' ts' : List S) → map tells ts ≡ map tells ss → map tells ts' ≡ map tells ss' → map tells (ts ++ ts') ≡ map tells (ss ++ ss')
  tell_both ss ts ss' ts' one two =
      map-append tells ts ts' ∙ ap (λ (l : List Bool). l ++ map tells ts') one ∙ ap (λ (l : List Bool). map tells ss ++ l) two ∙ sym (map-append tells ss ss')

  pub taken_both : (ss ts ss' ts' : List S) → AreTaken tells left ss ts → AreTaken tells left ss' ts' → AreTaken tells left (ss ++ ss') (ts ++ ts')
  taken_both [] [] ss' ts' one two = two
  taken_both [] (t ∷ ts) ss' ts' one two = absurd one
  taken_both (s ∷ ss) [] ss' ts' one two = absurd one
  taken_both (s ∷ ss) (t ∷ ts) ss' ts' one two = (one.0, taken_both ss ts ss' ts' one.1 two)

  pub later_both : (ss ts ss' ts' : List S) → Later faults ss ts → Later faults ss' ts' → Later faults (ss ++ ss') (ts ++ ts')
  later_both [] [] ss' ts' one two = two
  later_both [] (t ∷ ts) ss' ts' one two = absurd one
  later_both (s ∷ ss) [] ss' ts' one two = absurd one
  later_both (s ∷ ss) (t ∷ ts) ss' ts' one two = (one.0, later_both ss ts ss' ts' one.1 two)

  module _ (store : RecordedState) where
    -- ---- seats

    ready_both : (number up : ℕ) (xs ys : List SeatState) → up ≡ number + length xs → AreReady store number (xs ++ ys) → AreReady store number xs × AreReady store up ys
    ready_both number up [] ys at ready = (tt, subst (λ (k : ℕ). AreReady store k ys) (omega (arith, at)) ready)
    ready_both number up (x ∷ xs) ys at ready =
        let rest = ready_both (suc number) up xs ys (omega (arith, at)) ready.1 in
        ((ready.0, rest.0), rest.1)

    -- the seats of two parts that follow each other
    pub ready_split : {X : Type 0} (f : X → SeatState) (zs xs ys : List X) (number up : ℕ) → zs ≡ xs ++ ys → up ≡ number + length xs → AreReady store number (map f zs) → AreReady store number (map f xs) × AreReady store up (map f ys)
    ready_split f zs xs ys number up is at ready =
        ready_both number up (map f xs) (map f ys) (omega (arith, at, length-map xs f)) (subst (AreReady store number) (ap (map f) is ∙ map-append f xs ys) ready)

    ended_both : (number up first next : ℕ) (ss ts ss' ts' : List S) (xs ys : List SeatState) → up ≡ number + length xs → next ≡ first + length ss → HaveEnded tells left faults store number first ss ts xs
        → HaveEnded tells left faults store up next ss' ts' ys → HaveEnded tells left faults store number first (ss ++ ss') (ts ++ ts') (xs ++ ys)
    ended_both number up first next ss ts ss' ts' [] ys at from one two =
        subst (λ (l : List S). HaveEnded tells left faults store number first (l ++ ss') (ts ++ ts') ys) (sym one.0)
        (subst (λ (l : List S). HaveEnded tells left faults store number first ss' (l ++ ts') ys) (sym one.1)
        (subst (λ (k : ℕ). HaveEnded tells left faults store k first ss' ts' ys) (omega (arith, at))
        (subst (λ (k : ℕ). HaveEnded tells left faults store up k ss' ts' ys) (omega (arith, from, ap length one.0)) two)))
    ended_both number up first next ss ts ss' ts' (x ∷ xs) ys at from one two = (
      one.0,
      one.1 ++ ss',
      one.2,
      one.3 ++ ts',
      ap (λ (l : List S). l ++ ss') one.4 ∙ append_assoc one.0 one.1 ss',
      ap (λ (l : List S). l ++ ts') one.5 ∙ append_assoc one.2 one.3 ts',
      one.6,
      ended_both (suc number) up (first + length one.0) next one.1 one.3 ss' ts' xs ys (omega (arith, at)) (omega (arith, from, ap length one.4, length-append one.0 one.1)) one.7 two,
    )

    pub ended_all : {X : Type 0} (f : X → SeatState) (zs xs ys : List X) (number up first next : ℕ) (ss ts ss' ts' : List S) → zs ≡ xs ++ ys → up ≡ number + length xs → next ≡ first + length ss
        → HaveEnded tells left faults store number first ss ts (map f xs) → HaveEnded tells left faults store up next ss' ts' (map f ys) → HaveEnded tells left faults store number first (ss ++ ss') (ts ++ ts') (map f zs)
    ended_all f zs xs ys number up first next ss ts ss' ts' is at from one two =
        subst (HaveEnded tells left faults store number first (ss ++ ss') (ts ++ ts')) (sym (ap (map f) is ∙ map-append f xs ys))
        (ended_both number up first next ss ts ss' ts' (map f xs) (map f ys) (omega (arith, at, length-map xs f)) from one two)

    -- one seat
    ended_one : (number first : ℕ) (ss ts : List S) (seat : SeatState) → HasEnded tells left faults store number first ss ts seat → HaveEnded tells left faults store number first ss ts (seat ∷ [])
    ended_one number first ss ts seat ended = (ss, [], ts, [], sym (append-nil ss), sym (append-nil ts), ended, (refl, refl))

    pub ready_first : {X : Type 0} (f : X → SeatState) (xs : List X) (number : ℕ) (d : X) → length xs ≡ 1 → AreReady store number (map f xs) → IsReady store number (f (slice_index_or xs 0 d))
    ready_first f [] number d one ready = absurd (omega (arith, one))
    ready_first f (x ∷ xs) number d one ready = ready.0

    pub ended_first : {X : Type 0} (f : X → SeatState) (xs : List X) (x : X) (number first : ℕ) (ss ts : List S) → length xs ≡ 1 → HasEnded tells left faults store number first ss ts (f x)
        → HaveEnded tells left faults store number first ss ts (map f (slice_set xs 0 x))
    ended_first f [] x number first ss ts one ended = absurd (omega (arith, one))
    ended_first f (y ∷ []) x number first ss ts one ended = ended_one number first ss ts (f x) ended
    ended_first f (y ∷ (z ∷ xs)) x number first ss ts one ended = absurd (omega (arith, one))
