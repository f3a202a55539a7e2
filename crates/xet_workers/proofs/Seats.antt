-- What lies in the seats of workers when all have ended.
use Rattle.std.proofs.Common.{◌≡◌, ◌≢◌, ◌∙◌, ℕ, suc, ◌+◌, ◌^◌, ◌≤◌, Bool, List, [], ◌∷◌, ◌++◌, append-nil, drop, length, map, take, refl, sym, ap, subst, arith, Option, Some, zero}
use Rattle.std.specs.Prelude.{Ok, Result}
use Rattle.std.specs.List.{AllByRecursion, sum_by}
use Rattle.std.proofs.lemmas.List.{drop_all, length-map, take_all}
use Rattle.std.proofs.lemmas.List.Sums.{sum_by-cons}
use Rattle.xet_base.specs.theorems.Elements.{all_more}
use Rattle.xet_clean.specs.Merging.{files_of}
use Rattle.xet_clean.specs.declared.working.Working.{Working}
use Rattle.xet_hash.specs.declared.error.StoreError.{StoreError}
use Rattle.xet_locked_session.specs.Passes.{NumbersDiffer, holder_of, new_passes}
use Rattle.xet_store.specs.Holders.{Holder}
use Rattle.xet_store.specs.Recorded.{RecordedState}
use Rattle.xet_workers.specs.Workers.{AreReady, EndsAs, HasWorked, HaveEnded, SeatState, Worked, worked}
use Rattle.xet_workers.specs.internal.Parts.{all_worked}
use Rattle.xet_workers.proofs.Numbered.{all_passed, passed_differ}
use Rattle.xet_workers.proofs.Made.{HasParts, HaveWorked, done_count, infos_count, parts_of}

-- what is in a vector after a slice of all of it was lent
pub after_lend : {X : Type 0} (ys xs : List X) (n : ℕ) → length ys ≡ length xs → n ≡ length xs → take n (ys ++ drop (length ys) xs) ≡ ys
after_lend {X} ys xs n count is =
    ap (λ (l : List X). take n (ys ++ l)) (drop_all (length ys) xs (omega (arith, count))) ∙ ap (take n) (append-nil ys) ∙ take_all n ys (omega (arith, count, is))

-- ---- passes, and what was made over them

pub same_count : {X Y Z : Type 0} (f : X → Z) (g : Y → Z) (xs : List X) (ys : List Y) → map f xs ≡ map g ys → length ys ≡ length xs
same_count f g xs ys same = sym (length-map ys g) ∙ sym (ap length same) ∙ length-map xs f

pub worked_passes : (hs : List Holder) (ws : List Working) → length ws ≡ length hs → map (λ w. w.pass) (all_worked hs ws) ≡ hs
worked_passes [] ws same = refl
worked_passes (h ∷ hs) [] same = absurd (omega (arith, same))
worked_passes (h ∷ hs) (w ∷ ws) same = ap (λ (l : List Holder). h ∷ l) (worked_passes hs ws (omega (arith, same)))

worked_infos : (hs : List Holder) (ws : List Working) → length ws ≡ length hs → sum_by (λ w. length w.cleaned.infos.items) ws ≡ sum_by (λ v. length v.infos) (all_worked hs ws)
worked_infos [] [] same = refl
worked_infos [] (w ∷ ws) same = absurd (omega (arith, same))
worked_infos (h ∷ hs) [] same = absurd (omega (arith, same))
worked_infos (h ∷ hs) (w ∷ ws) same =
    omega (
      arith,
      sum_by-cons (λ (v : Working). length v.cleaned.infos.items) w ws,
      sum_by-cons (λ (v : Worked). length v.infos) (worked h w) (all_worked hs ws),
      worked_infos hs ws (omega (arith, same)),
    )

-- ---- new passes

module _ (start : RecordedState) where
  new_count : (number n : ℕ) → length (new_passes start number n) ≡ n
  new_count number zero = refl
  new_count number (suc n) = ap suc (new_count (suc number) n)

  new_after : (number n : ℕ) → AllByRecursion (λ h. number ≤ h.number) (new_passes start number n)
  new_after number zero = tt
  new_after number (suc n) = (omega arith, all_more (λ (h : Holder). suc number ≤ h.number) (λ h. number ≤ h.number) (new_passes start (suc number) n) (λ h le. omega (arith, le)) (new_after (suc number) n))

  new_differ : (number n : ℕ) → NumbersDiffer (new_passes start number n)
  new_differ number zero = tt
  new_differ number (suc n) = (
    all_more (λ (h : Holder). suc number ≤ h.number) (λ h. h.number ≢ number) (new_passes start (suc number) n) (λ h le same. absurd (omega (arith, le, same))) (new_after (suc number) n),
    new_differ (suc number) n,
  )

  module _ (n : ℕ) (passes : List Holder) (are : passes ≡ new_passes start 1 n) where
    pub passes_new : length passes ≡ n
    passes_new = ap length are ∙ new_count 1 n

    pub passes_apart : NumbersDiffer passes
    passes_apart = subst NumbersDiffer (sym are) (new_differ 1 n)

-- ---- the seats, of what lies in each

module _ {X : Type 0} (p : X → Option Holder) (m : X → Result Working StoreError) where
  -- of new passes
  ready_new : (start : RecordedState) (number n : ℕ) (xs : List X) → map p xs ≡ map Some (new_passes start number n) → AreReady start number (map (λ x. record { pass = p x; made = m x }) xs)
  ready_new start number zero [] is = tt
  ready_new start number zero (x ∷ xs) is = absurd (cc is)
  ready_new start number (suc n) [] is = absurd (cc is)
  ready_new start number (suc n) (x ∷ xs) is = (
    record { pass = holder_of start number [] []; there = cc is; of = record { number = number; own = []; since = []; is = refl }; number = refl; none = refl },
    ready_new start (suc number) n xs (cc is),
  )

  module _ (start : RecordedState) (n : ℕ) (passes : List Holder) (are : passes ≡ new_passes start 1 n) (xs : List X) (is : map p xs ≡ map Some passes) where
    pub seats_new : length xs ≡ n
    seats_new = sym (same_count p Some xs passes is) ∙ passes_new start n passes are

    pub seats_ready : (ys : List X) → ys ≡ xs → AreReady start 1 (map (λ x. record { pass = p x; made = m x }) ys)
    seats_ready ys same = ready_new start 1 n ys (ap (map p) same ∙ is ∙ ap (map Some) are)

  module _ {S : Type 0} (tells : S → Bool) (left : S → List ℕ) (faults : S → ℕ) (store : RecordedState) where
    passes_there : (number first : ℕ) (sources now : List S) (xs : List X) → HaveEnded tells left faults store number first sources now (map (λ x. record { pass = p x; made = m x }) xs) → (ps : List Holder) × (map p xs ≡ map Some ps)
    passes_there number first sources now [] ended = ([], refl)
    passes_there number first sources now (x ∷ xs) (part, rest, part_now, rest_now, order, order_now, one, others) =
        let more = passes_there (suc number) (first + length part) rest rest_now xs others in
        (one.pass ∷ more.0, cc (one.there, more.1))

    -- the passes are back
    pub passes_back : (sources now : List S) (xs : List X) → HaveEnded tells left faults store 1 0 sources now (map (λ x. record { pass = p x; made = m x }) xs) → (zs : List X) → zs ≡ xs → (ps : List Holder) × (map p zs ≡ map Some ps)
    passes_back sources now xs ended zs same =
        let found = passes_there 1 0 sources now xs ended in
        (found.0, ap (map p) same ∙ found.1)

-- ---- the workers have ended

module _ {S : Type 0} (tells : S → Bool) (left : S → List ℕ) (faults : S → ℕ) (old : RecordedState) where
  -- all cleaned their parts
  ended_worked : (number first : ℕ) (sources now : List S) (seats : List SeatState) (passes : List Holder) (workings : List Working) → HaveEnded tells left faults old number first sources now seats → map (λ s. s.pass) seats ≡ map Some passes
      → map (λ s. s.made) seats ≡ map Ok workings → HaveWorked tells left faults old number sources now (all_worked passes workings)
  ended_worked number first sources now [] [] [] ended there made = ended
  ended_worked number first sources now [] [] (w ∷ ws) ended there made = absurd (cc made)
  ended_worked number first sources now [] (pass ∷ passes) ws ended there made = absurd (cc there)
  ended_worked number first sources now (seat ∷ seats) [] ws ended there made = absurd (cc there)
  ended_worked number first sources now (seat ∷ seats) (pass ∷ passes) [] ended there made = absurd (cc made)
  ended_worked number first sources now (seat ∷ seats) (pass ∷ passes) (w ∷ ws) (part, rest, part_now, rest_now, order, order_now, one, others) there made =
      let mine : one.pass ≡ pass = cc (one.there, there) in
      let well : seat.made ≡ Ok w = cc made in
      let more : map (λ (s : SeatState). s.pass) seats ≡ map Some passes = cc there in
      let rest_made : map (λ (s : SeatState). s.made) seats ≡ map Ok ws = cc made in (
        part,
        rest,
        part_now,
        rest_now,
        order,
        order_now,
        subst (λ (h : Holder). HasWorked tells left faults old number part part_now (worked h w)) mine (subst (EndsAs tells left faults old number first part part_now one.pass) well one.ended),
        ended_worked (suc number) (first + length part) rest rest_now seats passes ws others more rest_made,
      )

  module _ (ss ts : List S) (seats : List SeatState) (ended : HaveEnded tells left faults old 1 0 ss ts seats) (passes : List Holder) (there : map (λ s. s.pass) seats ≡ map Some passes) where
    pub seats_differ : NumbersDiffer passes
    seats_differ = passed_differ old 1 passes (all_passed tells left faults old 1 0 ss ts seats passes ended there)

    module _ (workings : List Working) (made : map (λ s. s.made) seats ≡ map Ok workings) where
      pub seats_parts : HasParts tells left faults old 1 ss ts (all_worked passes workings)
      seats_parts = parts_of tells left faults old 1 ss ts (all_worked passes workings) (ended_worked 1 0 ss ts seats passes workings ended there made)

      pub seats_count : length workings ≡ length passes
      seats_count = same_count (λ (s : SeatState). s.made) Ok seats workings made ∙ sym (same_count (λ (s : SeatState). s.pass) Some seats passes there)

      pub seats_few : length ss ≤ 2 ^ 20 → sum_by (λ w. length w.cleaned.infos.items) workings ≤ 2 ^ 20
      seats_few most =
          let ws : List Worked = all_worked passes workings in
          let has : HasParts tells left faults old 1 ss ts (all_worked passes workings) = seats_parts in
          omega (
            arith,
            most,
            worked_infos passes workings seats_count,
            infos_count old 1 ws has.parts has.are,
            done_count tells left faults old.store.limits.max_source_bytes ss ts (files_of has.parts) has.done,
          )
