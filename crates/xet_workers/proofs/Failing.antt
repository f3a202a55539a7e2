-- Workers of which one did not clean its part of the sources.
use Rattle.std.proofs.Common.{◌≡◌, ◌∙◌, inl, inr, ℕ, suc, ◌+◌, ◌≤◌, Bool, false, List, [], ◌∷◌, ◌++◌, append-nil, append_assoc, length, map, refl, sym, ap, subst, length-append, add-zero, arith, Some}
use Rattle.std.specs.Prelude.{Err, Ok, Result}
use Rattle.std.specs.List.{AllByRecursion}
use mathlib.Core.List.{IsPrefix}
use Rattle.xet_clean.specs.Sources.{IsLoopError}
use Rattle.xet_clean.specs.declared.working.Working.{Working}
use Rattle.xet_hash.specs.declared.error.StoreError.{StoreError}
use Rattle.xet_history.specs.declared.entry.Entry.{Entry}
use Rattle.xet_locked_session.specs.Passing.{passing_of}
use Rattle.xet_store.specs.Holders.{Holder, seen}
use Rattle.xet_store.specs.Recorded.{RecordedState}
use Rattle.xet_store_disk.specs.Separate.{Among}
use Rattle.xet_workers.specs.Workers.{EndsAs, HasEnded, HasPassed, HaveEnded, SeatState, later_source}
use Rattle.xet_workers.proofs.Bounds.{all_bounded, ended_few, taken_longer}

-- A worker failed with this error, after which its pass is this one: it did not clean its part of these sources. The error names
-- them from a number on.
pub record HasFailed {S : Type 0} (tells : S → Bool) (left : S → List ℕ) (faults : S → ℕ) (store : RecordedState) (first : ℕ) (sources now : List S) (error : StoreError) (pass : Holder) : Type 0 where
  pub before : List S
  pub part : List S
  pub after : List S
  pub order : sources ≡ before ++ (part ++ after)
  pub before_now : List S
  pub part_now : List S
  pub after_now : List S
  pub order_now : now ≡ before_now ++ (part_now ++ after_now)
  pub same : length before_now ≡ length before
  pub number : ℕ
  pub begun : Holder
  pub stopped : Bool
  pub passed : HasPassed store number begun pass stopped
  pub cause : StoreError
  pub named : error ≡ later_source (first + length before) cause
  pub why : IsLoopError tells left faults part part_now (passing_of begun begun false) (passing_of begun pass stopped) cause

-- The error is that of a worker, and the history begins with what its pass has seen.
pub record IsFailure {S : Type 0} (tells : S → Bool) (left : S → List ℕ) (faults : S → ℕ) (store : RecordedState) (history : List Entry) (first : ℕ) (sources now : List S) (error : StoreError) : Type 0 where
  pub pass : Holder
  pub seen : IsPrefix (seen pass) history
  pub failed : HasFailed tells left faults store first sources now error pass

module _ {S : Type 0} (tells : S → Bool) (left : S → List ℕ) (faults : S → ℕ) (store : RecordedState) where
  -- ---- of more sources

  failed_front : (first : ℕ) (ss ts ss' ts' : List S) (e : StoreError) (pass : Holder) → HasFailed tells left faults store first ss ts e pass → HasFailed tells left faults store first (ss ++ ss') (ts ++ ts') e pass
  failed_front first ss ts ss' ts' e pass is = record {
    before = is.before;
    part = is.part;
    after = is.after ++ ss';
    order = ap (λ (l : List S). l ++ ss') is.order ∙ append_assoc is.before (is.part ++ is.after) ss' ∙ ap (λ (l : List S). is.before ++ l) (append_assoc is.part is.after ss');
    before_now = is.before_now;
    part_now = is.part_now;
    after_now = is.after_now ++ ts';
    order_now = ap (λ (l : List S). l ++ ts') is.order_now ∙ append_assoc is.before_now (is.part_now ++ is.after_now) ts' ∙ ap (λ (l : List S). is.before_now ++ l) (append_assoc is.part_now is.after_now ts');
    same = is.same;
    number = is.number;
    begun = is.begun;
    stopped = is.stopped;
    passed = is.passed;
    cause = is.cause;
    named = is.named;
    why = is.why;
  }

  failed_back : (first up : ℕ) (ss ts ss' ts' : List S) (e : StoreError) (pass : Holder) → up ≡ first + length ss → length ts ≡ length ss → HasFailed tells left faults store up ss' ts' e pass
      → HasFailed tells left faults store first (ss ++ ss') (ts ++ ts') e pass
  failed_back first up ss ts ss' ts' e pass at count is = record {
    before = ss ++ is.before;
    part = is.part;
    after = is.after;
    order = ap (λ (l : List S). ss ++ l) is.order ∙ sym (append_assoc ss is.before (is.part ++ is.after));
    before_now = ts ++ is.before_now;
    part_now = is.part_now;
    after_now = is.after_now;
    order_now = ap (λ (l : List S). ts ++ l) is.order_now ∙ sym (append_assoc ts is.before_now (is.part_now ++ is.after_now));
    same = omega (arith, length-append ts is.before_now, length-append ss is.before, is.same, count);
    number = is.number;
    begun = is.begun;
    stopped = is.stopped;
    passed = is.passed;
    cause = is.cause;
    named = is.named ∙ ap (λ (k : ℕ). later_source k is.cause) (omega (arith, at, length-append ss is.before));
    why = is.why;
  }

  -- ---- of one seat

  seat_failed : (number first : ℕ) (ss ts : List S) (pass : Holder) (made : Result Working StoreError) (e : StoreError) → made ≡ Err e → EndsAs tells left faults store number first ss ts pass made
      → HasFailed tells left faults store first ss ts e pass
  seat_failed number first ss ts pass (Ok w) e is ended = absurd (cc is)
  seat_failed number first ss ts pass (Err d) e is (cause, named, stopped) =
      let same : e ≡ d = cc is in
      record {
        before = [];
        part = ss;
        after = [];
        order = sym (append-nil ss);
        before_now = [];
        part_now = ts;
        after_now = [];
        order_now = sym (append-nil ts);
        same = refl;
        number = number;
        begun = stopped.begun;
        stopped = stopped.stopped;
        passed = stopped.passed;
        cause = cause;
        named = same ∙ named ∙ ap (λ (k : ℕ). later_source k cause) (sym (add-zero first));
        why = stopped.why;
      }

  part_longer : (number first : ℕ) (ss ts : List S) (seat : SeatState) → HasEnded tells left faults store number first ss ts seat → length ss ≤ length ts
  part_longer number first ss ts seat is =
      let few = ended_few tells left faults store number first ss ts is.pass seat.made is.ended in
      taken_longer tells left ss ts few.files few.taken

  -- ---- of all seats

  pub ended_failed : (history : List Entry) (number first : ℕ) (sources now : List S) (seats : List SeatState) (passes : List Holder) → HaveEnded tells left faults store number first sources now seats → map (λ s. s.pass) seats ≡ map Some passes
      → length now ≡ length sources → AllByRecursion (λ p. IsPrefix (seen p) history) passes → (e : StoreError) → Among (map (λ s. s.made) seats) (Err e) → IsFailure tells left faults store history first sources now e
  ended_failed history number first sources now [] passes ended there same prefix e among = absurd among
  ended_failed history number first sources now (seat ∷ seats) [] ended there same prefix e among = absurd (cc there)
  ended_failed history number first sources now (seat ∷ seats) (pass ∷ passes) (part, rest, part_now, rest_now, order, order_now, one, others) there same prefix e (inl is) =
      let mine : one.pass ≡ pass = cc (one.there, there) in
      let failed : HasFailed tells left faults store first part part_now e pass =
      subst (λ (h : Holder). HasFailed tells left faults store first part part_now e h) mine (seat_failed number first part part_now one.pass seat.made e is one.ended) in
      record {
        pass = pass;
        seen = prefix.0;
        failed = subst (λ (ss : List S). HasFailed tells left faults store first ss now e pass) (sym order)
            (subst (λ (ts : List S). HasFailed tells left faults store first (part ++ rest) ts e pass) (sym order_now) (failed_front first part part_now rest rest_now e pass failed));
      }
  ended_failed history number first sources now (seat ∷ seats) (pass ∷ passes) (part, rest, part_now, rest_now, order, order_now, one, others) there same prefix e (inr is) =
      let more : map (λ (s : SeatState). s.pass) seats ≡ map Some passes = cc there in
      let all = all_bounded tells left faults store (suc number) (first + length part) rest rest_now seats passes others more in
      let whole : length sources ≡ length part + length rest = ap length order ∙ length-append part rest in
      let whole_now : length now ≡ length part_now + length rest_now = ap length order_now ∙ length-append part_now rest_now in
      let longer : length part ≤ length part_now = part_longer number first part part_now seat one in
      let longer_rest : length rest ≤ length rest_now = all.longer in
      let count : length part_now ≡ length part = omega (arith, whole, whole_now, longer, longer_rest, same) in
      let count_rest : length rest_now ≡ length rest = omega (arith, whole, whole_now, longer, longer_rest, same) in
      let by : IsFailure tells left faults store history (first + length part) rest rest_now e = ended_failed history (suc number) (first + length part) rest rest_now seats passes others more count_rest prefix.1 e is in
      record {
        pass = by.pass;
        seen = by.seen;
        failed = subst (λ (ss : List S). HasFailed tells left faults store first ss now e by.pass) (sym order)
            (subst (λ (ts : List S). HasFailed tells left faults store first (part ++ rest) ts e by.pass) (sym order_now) (failed_back first (first + length part) part part_now rest rest_now e by.pass refl count by.failed));
      }
