-- The pass of a worker, before and after it made steps.
use Rattle.std.proofs.Common.{◌≡◌, ◌∙◌, ℕ, Bool, false, List, [], map, refl, sym, ap, subst, arith}
use Rattle.std.specs.Prelude.{Err, IfErr, Ok, Result}
use Rattle.xet_aggregate.specs.Aggregate.{Aggregate}
use Rattle.xet_aggregate.specs.declared.metrics.DeduplicationMetrics.{DeduplicationMetrics}
use Rattle.xet_choices.specs.declared.choice.Choice.{Choice}
use Rattle.xet_clean.specs.Sources.{HasCleaned, IsCutShort, IsLoopError}
use Rattle.xet_clean.specs.declared.policy.Sha256Policy.TheVariants.{Compute}
use Rattle.xet_clean.specs.theorems.Nexts.{closes_none}
use Rattle.xet_clean.specs.theorems.Turns.{taken_each, untouched}
use Rattle.xet_hash.specs.declared.error.StoreError.{StoreError}
use Rattle.xet_hash.specs.declared.error.StoreError.TheVariants.{OutOfMemory}
use Rattle.xet_locked_session.specs.Passes.{IsPassOf}
use Rattle.xet_locked_session.specs.Passing.{IsPassing, PassingState, passing_of}
use Rattle.xet_locked_session.specs.theorems.Starts.{same_start}
use Rattle.xet_store.specs.Holders.{Follows, Holder}
use Rattle.xet_store.specs.theorems.Following.{follows_nothing}
use Rattle.xet_store.specs.Recorded.{RecordedState}
use Rattle.xet_store_disk.specs.declared.info.XetFileInfo.{XetFileInfo}
use Rattle.xet_workers.specs.Workers.{HasPassed}

-- what contracts see of a pass that makes steps
abbrev pub holder_in : PassingState → Holder
holder_in s = passing_of s.start s.pass s.stopped

-- a pass has made steps, and may have stopped
abbrev pub MayHavePassed : RecordedState → Holder → Holder → (Bool → Type 0) → Type 0
MayHavePassed store begun pass P = (stopped : Bool) × HasPassed store begun.number begun pass stopped × P stopped

-- It did not clean the sources, and this is why.
abbrev pub IsRefused : {S : Type 0} → (S → Bool) → (S → List ℕ) → (S → ℕ) → List S → List S → Holder → Holder → StoreError → Bool → Type 0
IsRefused tells left faults ss ts begun pass e stopped =
    IsLoopError tells left faults ss ts (passing_of begun begun false) (passing_of begun pass stopped) e
    × IsCutShort [] Compute tells left ss ts (passing_of begun begun false) (passing_of begun pass stopped) e

pub err_and : {T E : Type 0} (r : Result T E) (P Q : E → Type 0) → IfErr r P → IfErr r Q → IfErr r (λ e. P e × Q e)
err_and (Ok x) P Q p q = tt
err_and (Err e) P Q p q = (p, q)

-- ---- no step was made

pub has_begun : (store : RecordedState) (given : PassingState) (begun pass : Holder) → given.start ≡ begun → given.pass ≡ begun → given.stopped ≡ false → pass ≡ given.pass
    → IsPassOf store begun → begun.own ≡ [] → IsPassing given.start given.pass given.stopped → HasPassed store begun.number begun pass false
has_begun store given begun pass start now going is of none passing =
    let same : pass ≡ begun = subst (λ (h : Holder). pass ≡ h) now is in
    let p = subst (λ (b : Bool). IsPassing begun begun b) going
    (subst (λ (h : Holder). IsPassing begun h given.stopped) now (subst (λ (h : Holder). IsPassing h given.pass given.stopped) start passing)) in
    subst (λ (h : Holder). HasPassed store begun.number begun h false) (sym same) (record { of = of; number = refl; none = none; passing = p; end = of })

-- nothing was taken of the sources
module _ {S : Type 0} (tells : S → Bool) (left : S → List ℕ) where
  unread : (ss : List S) (h : Holder) → IsCutShort [] Compute tells left ss ss h h OutOfMemory
  unfolding follows_nothing
  unread ss h = record {
    files = map (λ (s : S). []) ss;
    taken = taken_each tells left (λ s. 0) ss ss (map (λ (s : S). []) ss) (untouched tells left (λ s. 0) ss);
    done = 0;
    within = omega arith;
    failed = tt;
    read = record { read = tt; short = tt };
    untouched = refl;
    few = (follows_nothing h, omega arith);
    count = 0;
    recorded = omega arith;
    records = refl;
    registers = closes_none [] tt;
    own = λ every. tt;
  }

-- memory was out before that
module _ {S : Type 0} (tells : S → Bool) (left : S → List ℕ) (faults : S → ℕ) (ss : List S) where
  pub memory_before : (store : RecordedState) (given : PassingState) (begun pass : Holder) → given.start ≡ begun → given.pass ≡ begun → given.stopped ≡ false → pass ≡ given.pass
      → IsPassOf store begun → begun.own ≡ [] → IsPassing given.start given.pass given.stopped → (e : StoreError) → e ≡ OutOfMemory
      → MayHavePassed store begun pass (IsRefused tells left faults ss ss begun pass e)
  memory_before store given begun pass start now going is of none passing e out = (
    false,
    has_begun store given begun pass start now going is of none passing,
    (
      subst (IsLoopError tells left faults ss ss (passing_of begun begun false) (passing_of begun pass false)) (sym out) tt,
      subst (IsCutShort [] Compute tells left ss ss (passing_of begun begun false) (passing_of begun pass false)) (sym out)
          (subst (λ (h : Holder). IsCutShort [] Compute tells left ss ss (passing_of begun begun false) (passing_of begun h false) OutOfMemory) (sym (is ∙ now)) (unread tells left ss (passing_of begun begun false))),
    ),
  )

-- ---- steps were made: the state before the call and after it, and what is left of it then

module _ (store : RecordedState) (given asked after now : PassingState) (pass : Holder) (asked_is : asked ≡ given) (now_is : now ≡ after) (is : pass ≡ now.pass) (follows : Follows (holder_in asked) (holder_in after))
    (start : given.start ≡ given.pass) (going : given.stopped ≡ false) (none : given.pass.own ≡ []) (of : IsPassOf store given.pass) (passing : IsPassing now.start now.pass now.stopped) (now_of : IsPassOf store now.start)
    (end : IsPassOf store now.pass) where
  between : (P : Holder → Holder → Type 0) → P (holder_in asked) (holder_in after) → P (passing_of given.pass given.pass false) (holder_in now)
  between P p =
      subst (λ (b : Bool). P (passing_of given.pass given.pass b) (holder_in now)) going
      (subst (λ (h : Holder). P (passing_of h given.pass given.stopped) (holder_in now)) start
      (subst (λ (s : PassingState). P (holder_in s) (holder_in now)) asked_is (subst (λ (s : PassingState). P (holder_in asked) (holder_in s)) (sym now_is) p)))

  begun_same : now.start ≡ given.pass
  begun_same = same_start store given.pass now.start given.pass now.pass false now.stopped of now_of (between (λ x y. Follows x y) follows)

  has_passed : HasPassed store given.pass.number given.pass pass now.stopped
  has_passed =
      subst (λ (h : Holder). HasPassed store given.pass.number given.pass h now.stopped) (sym is)
      (record { of = of; number = refl; none = none; passing = subst (λ (h : Holder). IsPassing h now.pass now.stopped) begun_same passing; end = end })

  -- what holds of the two states holds of the passes
  moved : (P : Holder → Holder → Type 0) → P (holder_in asked) (holder_in after) → P (passing_of given.pass given.pass false) (passing_of given.pass pass now.stopped)
  moved P p =
      subst (λ (h : Holder). P (passing_of given.pass given.pass false) (passing_of given.pass h now.stopped)) (sym is)
      (subst (λ (h : Holder). P (passing_of given.pass given.pass false) (passing_of h now.pass now.stopped)) begun_same (between P p))

  module _ {S : Type 0} (tells : S → Bool) (left : S → List ℕ) (faults : S → ℕ) (ss ts : List S) where
    -- all sources were cleaned
    pub cleaned_by : (infos : List XetFileInfo) (choices : List (List Choice)) (metrics : DeduplicationMetrics) (a : Aggregate) → HasCleaned Compute tells left faults ss ts (holder_in asked) (holder_in after) infos choices metrics a
        → HasPassed store given.pass.number given.pass pass false × HasCleaned Compute tells left faults ss ts (passing_of given.pass given.pass false) (passing_of given.pass pass false) infos choices metrics a
    cleaned_by infos choices metrics a cleaned =
        let went : now.stopped ≡ false = ap (λ (s : PassingState). s.stopped) now_is ∙ cleaned.working.going in (
          subst (λ (b : Bool). HasPassed store given.pass.number given.pass pass b) went has_passed,
          subst (λ (b : Bool). HasCleaned Compute tells left faults ss ts (passing_of given.pass given.pass false) (passing_of given.pass pass b) infos choices metrics a) went
              (moved (λ x y. HasCleaned Compute tells left faults ss ts x y infos choices metrics a) cleaned),
        )

    -- they were not
    pub refused_by : (e : StoreError) → IsLoopError tells left faults ss ts (holder_in asked) (holder_in after) e × IsCutShort [] Compute tells left ss ts (holder_in asked) (holder_in after) e
        → MayHavePassed store given.pass pass (IsRefused tells left faults ss ts given.pass pass e)
    refused_by e why = (now.stopped, has_passed, (moved (λ x y. IsLoopError tells left faults ss ts x y e) why.0, moved (λ x y. IsCutShort [] Compute tells left ss ts x y e) why.1))
