-- What workers made of consecutive parts of the sources, as parts that may be merged.
use Rattle.std.proofs.Common.{◌≡◌, ◌∙◌, ℕ, suc, Bool, false, List, [], ◌∷◌, ◌++◌, append_assoc, drop, length, refl, sym, ap, subst, length-append, arith}
use Rattle.std.proofs.lemmas.List.{append_cancel_left, drop_all, drop_at, length-map}
use Rattle.std.proofs.lemmas.List.Sums.{sum_by-cons}
use Rattle.std.specs.List.{AllByRecursion, sum_by}
use mathlib.Core.List.{IsPrefix}
use Rattle.xet_clean.specs.Merging.{HasSeen, MayMerge, MayMergeAll, Part, files_of}
use Rattle.xet_clean.specs.Policies.{info_by}
use Rattle.xet_clean.specs.Sources.{AreDone}
use Rattle.xet_clean.specs.Working.{Planned}
use Rattle.xet_clean.specs.declared.working.Working.{Working}
use Rattle.xet_history.specs.Core.{Core}
use Rattle.xet_history.specs.History.{after_all}
use Rattle.xet_history.specs.declared.entry.Entry.{Entry}
use Rattle.xet_history.specs.theorems.Joining.{after_all-append}
use Rattle.xet_locked_session.specs.Passes.{IsPassOf}
use Rattle.xet_locked_session.specs.Session.{IsSince}
use Rattle.xet_locked_session.specs.Passing.{IsPassing, passing_of}
use Rattle.xet_store.specs.Alone.{alone_of}
use Rattle.xet_store.specs.Holders.{Holder, core_at, seen}
use Rattle.xet_store.specs.Recorded.{RecordedState, core_of}
use Rattle.xet_workers.specs.Workers.{HasPassed, HasWorked, Worked, worked}
use Rattle.xet_workers.specs.internal.Parts.{ArePartsBy, IsPartBy, all_worked}

-- ---- sources that were read

module _ {S : Type 0} (tells : S → Bool) (left : S → List ℕ) (faults : S → ℕ) (most : ℕ) where
  done_both : (ss ts : List S) (fs : List Planned) (ss' ts' : List S) (fs' : List Planned) → AreDone tells left faults most ss ts fs → AreDone tells left faults most ss' ts' fs'
      → AreDone tells left faults most (ss ++ ss') (ts ++ ts') (fs ++ fs')
  done_both [] [] [] ss' ts' fs' are more = more
  done_both [] [] (f ∷ fs) ss' ts' fs' are more = absurd are
  done_both [] (t ∷ ts) fs ss' ts' fs' are more = absurd are
  done_both (s ∷ ss) [] fs ss' ts' fs' are more = absurd are
  done_both (s ∷ ss) (t ∷ ts) [] ss' ts' fs' are more = absurd are
  done_both (s ∷ ss) (t ∷ ts) (f ∷ fs) ss' ts' fs' are more = (are.0, done_both ss ts fs ss' ts' fs' are.1 more)

  pub done_count : (ss ts : List S) (fs : List Planned) → AreDone tells left faults most ss ts fs → length fs ≡ length ss
  done_count [] [] [] are = refl
  done_count [] [] (f ∷ fs) are = absurd are
  done_count [] (t ∷ ts) fs are = absurd are
  done_count (s ∷ ss) [] fs are = absurd are
  done_count (s ∷ ss) (t ∷ ts) [] are = absurd are
  done_count (s ∷ ss) (t ∷ ts) (f ∷ fs) are = ap suc (done_count ss ts fs are.1)

-- ---- the parts

-- Workers whose passes have consecutive numbers from this one on cleaned consecutive parts of the sources.
abbrev pub HaveWorked : {S : Type 0} → (S → Bool) → (S → List ℕ) → (S → ℕ) → RecordedState → ℕ → List S → List S → List Worked → Type 0
HaveWorked tells left faults store number sources now [] = (sources ≡ []) × (now ≡ [])
HaveWorked {S} tells left faults store number sources now (w ∷ ws) =
    (part rest part_now rest_now : List S) × (sources ≡ part ++ rest) × (now ≡ part_now ++ rest_now) × HasWorked tells left faults store number part part_now w
    × HaveWorked tells left faults store (suc number) rest rest_now ws

module _ {S : Type 0} (tells : S → Bool) (left : S → List ℕ) (faults : S → ℕ) (store : RecordedState) where
  abbrev most : ℕ
  most = store.store.limits.max_source_bytes

  -- Parts that may be merged, with the files of all sources.
  pub record HasParts (number : ℕ) (sources now : List S) (ws : List Worked) : Type 0 where
    pub parts : List Part
    pub are : ArePartsBy store number ws parts
    pub done : AreDone tells left faults store.store.limits.max_source_bytes sources now (files_of parts)

  part_of : (number : ℕ) (sources now : List S) (w : Worked) → HasWorked tells left faults store number sources now w → Part
  part_of number sources now w is = record {
    start = passing_of is.begun is.begun false;
    end = passing_of is.begun w.pass false;
    files = is.cleaned.files;
    infos = w.infos;
    choices = w.choices;
    metrics = w.metrics;
    left = w.left;
  }

  limit_is : (h : Holder) → IsPassOf store h → h.limits.max_source_bytes ≡ store.store.limits.max_source_bytes
  limit_is h of = ap (λ (x : Holder). x.limits.max_source_bytes) of.is

  pub parts_of : (number : ℕ) (sources now : List S) (ws : List Worked) → HaveWorked tells left faults store number sources now ws → HasParts number sources now ws
  unfolding part_of
  parts_of number sources now [] none = record {
    parts = [];
    are = tt;
    done = subst (λ (ss : List S). AreDone tells left faults store.store.limits.max_source_bytes ss now []) (sym none.0)
        (subst (λ (ts : List S). AreDone tells left faults store.store.limits.max_source_bytes [] ts []) (sym none.1) tt);
  }
  parts_of number sources now (w ∷ ws) (part, rest, part_now, rest_now, order, order_now, one, others) =
      let more : HasParts (suc number) rest rest_now ws = parts_of (suc number) rest rest_now ws others in
      let here : AreDone tells left faults store.store.limits.max_source_bytes part part_now one.cleaned.files =
      subst (λ (n : ℕ). AreDone tells left faults n part part_now one.cleaned.files) (limit_is one.begun one.passed.of) one.cleaned.are in
      record {
        parts = part_of number part part_now w one ∷ more.parts;
        are = (
          record {
            begun = one.begun;
            passed = one.passed;
            start = refl;
            end = refl;
            infos = refl;
            choices = refl;
            metrics = refl;
            left = refl;
            policies = one.cleaned.policies;
            working = one.cleaned.working;
          },
          more.are,
        );
        done = subst (λ (ss : List S). AreDone tells left faults store.store.limits.max_source_bytes ss now (one.cleaned.files ++ files_of more.parts)) (sym order)
            (subst (λ (ts : List S). AreDone tells left faults store.store.limits.max_source_bytes (part ++ rest) ts (one.cleaned.files ++ files_of more.parts)) (sym order_now)
            (done_both tells left faults store.store.limits.max_source_bytes part part_now one.cleaned.files rest rest_now (files_of more.parts) here more.done));
      }

-- the pointer records of all parts are as many as the files
pub infos_count : (store : RecordedState) (number : ℕ) (ws : List Worked) (ps : List Part) → ArePartsBy store number ws ps → sum_by (λ w. length w.infos) ws ≡ length (files_of ps)
infos_count store number [] [] are = refl
infos_count store number [] (p ∷ ps) are = absurd are
infos_count store number (w ∷ ws) [] are = absurd are
infos_count store number (w ∷ ws) (p ∷ ps) are =
    omega (
      arith,
      sum_by-cons (λ (v : Worked). length v.infos) w ws,
      infos_count store (suc number) ws ps are.1,
      length-append p.files (files_of ps),
      ap length are.0.infos,
      ap length are.0.working.pointers,
      length-map p.files (λ (f : Planned). info_by f.policy p.end.limits f.bytes),
    )

-- ---- who merges them has seen what their makers have

module _ (old mid : RecordedState) (since : IsSince old mid) where
  -- the core of a pass is that of what it has seen
  pass_core : (begun pass : Holder) → IsPassOf old begun → IsPassing begun pass false → core_at (passing_of begun pass false) ≡ after_all (core_of old) pass.since
  pass_core begun pass of passing =
      let more : List Entry = passing.follows.since in
      let seen_since : pass.since ≡ begun.since ++ passing.follows.since = ap (λ (h : Holder). h.since) passing.follows.is in
      let rest : drop (length begun.since) pass.since ≡ passing.follows.since =
      ap (drop (length begun.since)) seen_since ∙ drop_at begun.since passing.follows.since (length begun.since) refl in
      ap (after_all (after_all begun.base begun.since)) rest
      ∙ sym (after_all-append begun.base begun.since passing.follows.since)
      ∙ ap (after_all begun.base) (sym seen_since)
      ∙ ap (λ (c : Core). after_all c pass.since) (ap (λ (h : Holder). h.base) of.is)

  mid_core : core_at (alone_of mid mid false) ≡ core_of mid
  mid_core = ap (after_all (core_of mid)) (drop_all (length mid.history) mid.history (omega arith))

  pub has_seen : (number : ℕ) (begun pass : Holder) → HasPassed old number begun pass false → IsPrefix (seen pass) mid.history → HasSeen (passing_of begun pass false) (alone_of mid mid false)
  has_seen number begun pass passed prefix =
      let before : pass.before ≡ old.history = ap (λ (h : Holder). h.before) passed.end.is in
      let all : old.history ++ (pass.since ++ prefix.0) ≡ old.history ++ since.since =
      sym (append_assoc old.history pass.since prefix.0)
      ∙ ap (λ (b : List Entry). (b ++ pass.since) ++ prefix.0) (sym before)
      ∙ prefix.1
      ∙ since.steps.moves.history in
      let entries : pass.since ++ prefix.0 ≡ since.since = append_cancel_left old.history (pass.since ++ prefix.0) since.since all in
      record {
        more = prefix.0;
        tells = since.steps.keeps.tells ∙ sym (ap (λ (h : Holder). h.tells) passed.of.is);
        limits = since.steps.keeps.limits ∙ sym (ap (λ (h : Holder). h.limits) passed.of.is);
        core = mid_core
            ∙ since.steps.moves.leads
            ∙ ap (after_all (core_of old)) (sym entries)
            ∙ after_all-append (core_of old) pass.since prefix.0
            ∙ ap (λ (c : Core). after_all c prefix.0) (sym (pass_core begun pass passed.of passed.passing));
      }

  part_may : (number : ℕ) (w : Worked) (p : Part) → IsPartBy old number w p → IsPrefix (seen w.pass) mid.history → MayMerge (alone_of mid mid false) p
  part_may number w p is prefix = record {
    working = is.working;
    seen = subst (λ (h : Holder). HasSeen h (alone_of mid mid false)) (sym is.end) (has_seen number is.begun w.pass is.passed prefix);
  }

  pub may_merge_all : (number : ℕ) (passes : List Holder) (ws : List Working) (ps : List Part) → ArePartsBy old number (all_worked passes ws) ps → length ws ≡ length passes
      → AllByRecursion (λ p. IsPrefix (seen p) mid.history) passes → MayMergeAll (alone_of mid mid false) ps ws
  may_merge_all number [] [] [] are same all = tt
  may_merge_all number [] [] (p ∷ ps) are same all = absurd are
  may_merge_all number [] (w ∷ ws) ps are same all = absurd (omega (arith, same))
  may_merge_all number (h ∷ hs) [] ps are same all = absurd (omega (arith, same))
  may_merge_all number (h ∷ hs) (w ∷ ws) [] are same all = absurd are
  may_merge_all number (h ∷ hs) (w ∷ ws) (p ∷ ps) are same all = (
    (are.0.infos, are.0.choices, are.0.metrics, are.0.left),
    part_may number (worked h w) p are.0 all.0,
    may_merge_all (suc number) hs ws ps are.1 (omega (arith, same)) all.1,
  )
