-- What is promised of each way in which a session of workers ends.
use Rattle.std.proofs.Common.{◌≡◌, ◌∙◌, inl, inr, ℕ, zero, suc, ◌+◌, ◌^◌, ◌<◌, ◌≤◌, Bool, List, [], ◌∷◌, ◌++◌, length, map, append-nil, length-append, refl, sym, ap, subst, arith, Option, Some}
use Rattle.std.specs.Prelude.{Err, IfErr, IfOk, Ok, Result}
use Rattle.std.specs.List.{AllByRecursion, sum_by}
use Rattle.std.proofs.lemmas.Bool.Decides.{nat_tests}
use Rattle.std.proofs.lemmas.List.{length-map}
use Rattle.std.proofs.lemmas.Result.{IfErr-weaker, IfOk-weaker}
use Rattle.std.proofs.lemmas.Simd.{map-map}
use Rattle.xet_aggregate.specs.declared.metrics.DeduplicationMetrics.{DeduplicationMetrics}
use Rattle.xet_base.specs.theorems.Elements.{all_more}
use Rattle.xet_choices.specs.Calls.{Call}
use Rattle.xet_choices.specs.declared.choice.Choice.{Choice}
use Rattle.xet_clean.specs.Cleaning.{entries_since}
use Rattle.xet_clean.specs.Merging.{Part}
use Rattle.xet_clean.specs.declared.info.Cleaned.{Cleaned}
use Rattle.xet_clean.specs.declared.working.Working.{Working}
use Rattle.xet_cut.specs.declared.limits.LimitSettings.{LimitSettings}
use Rattle.xet_hash.specs.declared.error.StoreError.{StoreError}
use Rattle.xet_hash.specs.declared.error.StoreError.TheVariants.{OutOfMemory}
use Rattle.xet_history.specs.History.{pass_of}
use Rattle.xet_history.specs.declared.entry.Entry.{Entry}
use Rattle.xet_locked_session.specs.Passes.{NumbersDiffer, new_passes, own_numbers}
use Rattle.xet_locked_session.specs.Session.{IsSince}
use Rattle.xet_locked_session.specs.Shared.{StepsBy}
use Rattle.xet_shard_format.specs.declared.record.MDBFileInfo.{MDBFileInfo}
use Rattle.xet_shared_history.specs.Owned.{HasEachOnce, count_of, one_within}
use Rattle.xet_store.specs.Holders.{Holder}
use Rattle.xet_store.specs.Recorded.{IsRecorded, RecordedState}
use Rattle.xet_store.specs.theorems.Changing.{changes_nothing}
use Rattle.xet_store.specs.theorems.Joining.{steps_nothing}
use Rattle.xet_store_disk.specs.Cleaning.{AreTaken, Later}
use Rattle.xet_store_disk.specs.Separate.{Among}
use Rattle.xet_store_disk.specs.Store.{Sound}
use Rattle.xet_store_disk.specs.declared.info.XetFileInfo.{XetFileInfo}
use Rattle.xet_workers.specs.Cleaning.{AreChosenBy, IsBoundedBy, IsCleanedBy, calls_by}
use Rattle.xet_workers.specs.Workers.{HaveEnded, SeatState, Worked}
use Rattle.xet_workers.specs.internal.Ending.{HasMerged, IsLeft, IsLeftWith, IsUnended, Promises}
use Rattle.xet_workers.specs.internal.Parts.{ArePartsBy, all_worked}
use Rattle.xet_workers.proofs.Kept.{bounded_closed, bounded_unmerged, bounded_untouched}
use Rattle.xet_workers.proofs.Failing.{ended_failed}
use Rattle.xet_workers.proofs.Made.{HasParts}
use Rattle.xet_workers.proofs.Parts.{later_same, taken_same}
use Rattle.xet_workers.proofs.Promised.{ended_promises}
use Rattle.xet_workers.proofs.Refused.{failed_promises, left_promises, unended_promises}
use Rattle.xet_workers.proofs.Seats.{same_count, seats_count, seats_differ, seats_few, seats_parts, worked_passes}

-- ---- no step was made

since_nothing : (s : RecordedState) → IsSince s s
since_nothing s = record { since = []; steps = steps_nothing s; failures = omega arith }

left_unchanged : (s : RecordedState) → IsLeft s s
left_unchanged s = record { since = since_nothing s; made = inl (record { since = []; history = sym (append-nil s.history); made = record { steps = StepsBy.begins; changes = changes_nothing [] s s [] refl } }) }

-- the numbers of a new session's passes
none_own : (start : RecordedState) (number n : ℕ) → own_numbers (new_passes start number n) ≡ []
none_own start number zero = refl
none_own start number (suc n) = none_own start (suc number) n

one_there : (from to : ℕ) → from < to → 0 ≡ one_within from to from → ⊥
one_there from to less none = grind (arith, nat_tests)

-- no entry was added
same_history : (old new : RecordedState) (n : ℕ) (passes : List Holder) → passes ≡ new_passes old 1 n → IsSince old new → HasEachOnce (length old.history) (length new.history) (own_numbers passes) → new.history ≡ old.history
same_history old new n passes are since once = go since.since refl
  where
    none : 0 ≡ one_within (length old.history) (length new.history) (length old.history)
    none = subst (λ (ns : List ℕ). count_of (length old.history) ns ≡ one_within (length old.history) (length new.history) (length old.history)) (ap own_numbers are ∙ none_own old 1 n) (once (length old.history))

    go : (es : List Entry) → since.since ≡ es → new.history ≡ old.history
    go [] is = since.steps.moves.history ∙ ap (λ (es : List Entry). old.history ++ es) is ∙ append-nil old.history
    go (e ∷ es) is =
        let longer : length new.history ≡ length old.history + length (e ∷ es) =
        ap length since.steps.moves.history ∙ length-append old.history since.since ∙ ap (λ (l : List Entry). length old.history + length l) is in
        absurd (one_there (length old.history) (length new.history) (omega (arith, longer)) none)

module _ {S : Type 0} (workers : ℕ) (some : 1 ≤ workers) (tells : S → Bool) (left : S → List ℕ) (faults : S → ℕ) (ss : List S) where
  pub unbegun_promises : (old new : RecordedState) → new ≡ old → (e : StoreError) → e ≡ OutOfMemory → Sound new.store → Promises workers tells left faults ss ss old new (Err e)
  unbegun_promises old new is e out sound =
      subst (λ (x : StoreError). Promises workers tells left faults ss ss old new (Err x)) (sym out)
      (left_promises workers tells left faults ss ss old new (subst (IsLeft old) (sym is) (left_unchanged old)) sound refl (taken_same tells left faults ss) (later_same tells left faults ss)
      (bounded_untouched workers some tells left ss old new (subst (IsSince old) (sym is) (since_nothing old)) sound (ap (λ (s : RecordedState). s.history) is)))

  -- a session of new passes was closed
  pub closed_promises : (old new : RecordedState) (n : ℕ) (passes : List Holder) → passes ≡ new_passes old 1 n → IsLeft old new → HasEachOnce (length old.history) (length new.history) (own_numbers passes) → Sound new.store
      → Promises workers tells left faults ss ss old new (Err OutOfMemory)
  closed_promises old new n passes are is once sound =
      left_promises workers tells left faults ss ss old new is sound refl (taken_same tells left faults ss) (later_same tells left faults ss)
      (bounded_untouched workers some tells left ss old new is.since sound (same_history old new n passes are is.since once))

-- ---- fewer workers

module _ (few many : ℕ) (less : few ≤ many) where
  chosen_more : (s : LimitSettings) (calls : ℕ → List Call) (fs : List (List ℕ)) (cs : List (List Choice)) (rs : List MDBFileInfo) → AreChosenBy few s calls fs cs rs → AreChosenBy many s calls fs cs rs
  chosen_more s calls [] [] rs are = are
  chosen_more s calls [] (c ∷ cs) rs are = absurd are
  chosen_more s calls (f ∷ fs) [] rs are = absurd are
  chosen_more s calls ([] ∷ fs) (c ∷ cs) rs are = (are.0, chosen_more s calls fs cs rs are.1)
  chosen_more s calls ((b ∷ bs) ∷ fs) (c ∷ cs) [] are = absurd are
  chosen_more s calls ((b ∷ bs) ∷ fs) (c ∷ cs) (r ∷ rs) are = (
    record { pass = are.0.pass; from = are.0.from; to = omega (arith, less, are.0.to); choices = are.0.choices },
    chosen_more s calls fs cs rs are.1,
  )

  passes_more : (es : List Entry) → AllByRecursion (λ e. pass_of e ≤ few) es → AllByRecursion (λ e. pass_of e ≤ many) es
  passes_more es all = all_more (λ e. pass_of e ≤ few) (λ e. pass_of e ≤ many) es (λ e le. omega (arith, less, le)) all

  module _ {S : Type 0} (tells : S → Bool) (left : S → List ℕ) (faults : S → ℕ) (ss ts : List S) (old new : RecordedState) where
    cleaned_more : (infos : List XetFileInfo) (choices : List (List Choice)) (metrics : DeduplicationMetrics) → IsCleanedBy few tells left ss old new infos choices metrics → IsCleanedBy many tells left ss old new infos choices metrics
    cleaned_more infos choices metrics is = record {
      files = is.files;
      told = is.told;
      pointers = is.pointers;
      records = is.records;
      made = is.made;
      chosen = chosen_more old.store.limits (λ pass. calls_by pass old new) is.files choices is.records is.chosen;
      once = is.once;
      only = is.only;
      registered = is.registered;
      sums = is.sums;
      registers = is.registers;
      bound = is.bound;
      passes = passes_more (entries_since old new) is.passes;
    }

    cleaned_result : (r : Result Cleaned StoreError) → IfOk r (λ c. IsCleanedBy few tells left ss old new c.infos.items c.choices.items c.metrics) → IfOk r (λ c. IsCleanedBy many tells left ss old new c.infos.items c.choices.items c.metrics)
    cleaned_result (Ok c) is = cleaned_more c.infos.items c.choices.items c.metrics is
    cleaned_result (Err e) is = tt

    bounded_more : IsBoundedBy few tells left ss ts old new → IsBoundedBy many tells left ss ts old new
    bounded_more is = record {
      parts = is.parts;
      few = omega (arith, less, is.few);
      before = is.before;
      after = is.after;
      turns = is.turns;
      taken = is.taken;
      bound = is.bound;
      passes = passes_more (entries_since old new) is.passes;
      recorded = is.recorded;
      among = is.among;
      records = is.records;
      adds = is.adds;
      plans = is.plans;
      resolve = is.resolve;
      last = is.last;
      registers = is.registers;
      own = is.own;
    }

    bounded_result : (r : Result Cleaned StoreError) → IfErr r (λ e. IsBoundedBy few tells left ss ts old new) → IfErr r (λ e. IsBoundedBy many tells left ss ts old new)
    bounded_result (Ok c) is = tt
    bounded_result (Err e) is = bounded_more is

    pub promises_more : (r : Result Cleaned StoreError) → Promises few tells left faults ss ts old new r → Promises many tells left faults ss ts old new r
    promises_more r p = record {
      infos = p.infos;
      read = p.read;
      short = p.short;
      files = p.files;
      recorded = p.recorded;
      cleaned = cleaned_result r p.cleaned;
      keeps = p.keeps;
      steps = p.steps;
      adds = p.adds;
      tell = p.tell;
      taken = p.taken;
      later = p.later;
      reason = p.reason;
      bound = bounded_result r p.bound;
    }

-- ---- the workers have ended, and the session was closed

module _ {S : Type 0} (tells : S → Bool) (left : S → List ℕ) (faults : S → ℕ) (ss ts : List S) (old : RecordedState) (seats : List SeatState) (ended : HaveEnded tells left faults old 1 0 ss ts seats)
    (passes : List Holder) (there : map (λ s. s.pass) seats ≡ map Some passes) (new : RecordedState) (workers : ℕ) (some : 1 ≤ workers) (few : length seats ≤ workers) (sound : Sound new.store) (recorded : IsRecorded new)
    (tell : map tells ts ≡ map tells ss) (taken : AreTaken tells left ss ts) (later : Later faults ss ts) where
  passes_few : length passes ≤ workers
  passes_few = omega (arith, few, same_count (λ (s : SeatState). s.pass) Some seats passes there)

  closed_bound : IsLeftWith old new passes → IsBoundedBy workers tells left ss ts old new
  closed_bound is = bounded_closed workers some tells left faults ss ts old seats passes ended there few passes_few tell new is.is.since sound is.known is.seen is.own

  same_sources : length ts ≡ length ss
  same_sources = sym (length-map ts tells) ∙ ap length tell ∙ length-map ss tells

  -- one failed
  failed_outcome : (e : StoreError) → Among (map (λ s. s.made) seats) (Err e) → IsLeftWith old new passes → Promises workers tells left faults ss ts old new (Err e)
  failed_outcome e among is =
      failed_promises workers tells left faults ss ts old new is.is e (ended_failed tells left faults old new.history 1 0 ss ts seats passes ended there same_sources is.seen e among) sound recorded tell taken later (closed_bound is)

  -- all cleaned their parts
  module _ (workings : List Working) (made : map (λ s. s.made) seats ≡ map Ok workings) where
    abbrev ws : List Worked
    ws = all_worked passes workings

    has : HasParts tells left faults old 1 ss ts (all_worked passes workings)
    has = seats_parts tells left faults old ss ts seats ended passes there workings made

    passes_are : map (λ w. w.pass) (all_worked passes workings) ≡ passes
    passes_are = worked_passes passes workings (seats_count tells left faults old ss ts seats ended passes there workings made)

    merged_outcome : (c : Cleaned) → HasMerged old new passes has.parts c.infos.items c.choices.items c.metrics → Promises workers tells left faults ss ts old new (Ok c)
    merged_outcome c merged =
        ended_promises tells left faults ss ts old new ws has.parts has.are c
        (subst (λ (hs : List Holder). HasMerged old new hs has.parts c.infos.items c.choices.items c.metrics) (sym passes_are) merged) has.done workers
        (omega (arith, few, length-map ws (λ (w : Worked). w.pass), ap length passes_are, same_count (λ (s : SeatState). s.pass) Some seats passes there)) sound tell taken later

    unended_bound : (e : StoreError) → IsUnended old new passes has.parts workings e → IsBoundedBy workers tells left ss ts old new
    unended_bound e (inl n) =
        bounded_unmerged workers some tells left faults ss ts old new passes workings has.parts has.are has.done e n passes_are passes_few (seats_count tells left faults old ss ts seats ended passes there workings made) sound tell
    unended_bound e (inr out) = closed_bound out.1

    unmerged_outcome : (e : StoreError) → IsUnended old new passes has.parts workings e → Promises workers tells left faults ss ts old new (Err e)
    unmerged_outcome e unended =
        unended_promises workers tells left faults ss ts old new ws has.parts has.are has.done workings e
        (subst (λ (hs : List Holder). IsUnended old new hs has.parts workings e) (sym passes_are) unended) sound recorded tell taken later (unended_bound e unended)

  -- any of these
  seated_promises : {V : Type 0} (items : V → List Working) (made : Result V StoreError) → IfOk made (λ v. map (λ s. s.made) seats ≡ map Ok (items v)) → IfErr made (λ e. Among (map (λ s. s.made) seats) (Err e))
      → (r : Result Cleaned StoreError)
      → IfOk made (λ v. (ps : List Part) → ArePartsBy old 1 (all_worked passes (items v)) ps → IfOk r (λ c. HasMerged old new passes ps c.infos.items c.choices.items c.metrics))
      → IfOk made (λ v. (ps : List Part) → ArePartsBy old 1 (all_worked passes (items v)) ps → IfErr r (IsUnended old new passes ps (items v)))
      → IfErr made (λ e. (r ≡ Err e) × IsLeftWith old new passes) → Promises workers tells left faults ss ts old new r
  seated_promises items (Ok v) well error (Ok c) merged unmerged failed = merged_outcome (items v) well c (merged (has (items v) well).parts (has (items v) well).are)
  seated_promises items (Ok v) well error (Err e) merged unmerged failed = unmerged_outcome (items v) well e (unmerged (has (items v) well).parts (has (items v) well).are)
  seated_promises items (Err e) well error r merged unmerged failed = subst (Promises workers tells left faults ss ts old new) (sym failed.0) (failed_outcome e error failed.1)

-- ---- what was left in the seats

module _ {X S V : Type 0} (p : X → Option Holder) (m : X → Result Working StoreError) (tells : S → Bool) (left : S → List ℕ) (faults : S → ℕ) (ss ts : List S) (old : RecordedState) (xs zs : List X) (same : zs ≡ xs)
    (ended : HaveEnded tells left faults old 1 0 ss ts (map (λ x. record { pass = p x; made = m x }) xs)) (passes : List Holder) (back : map p zs ≡ map Some passes)
    (items : V → List Working) (made : Result V StoreError) (well : IfOk made (λ v. map m zs ≡ map Ok (items v))) where
  abbrev seats : List SeatState
  seats = map (λ x. record { pass = p x; made = m x }) xs

  there : map (λ (s : SeatState). s.pass) (map (λ x. record { pass = p x; made = m x }) xs) ≡ map Some passes
  there = map-map (λ (s : SeatState). s.pass) (λ x. record { pass = p x; made = m x }) xs ∙ ap (map p) (sym same) ∙ back

  made_is : map (λ (s : SeatState). s.made) (map (λ x. record { pass = p x; made = m x }) xs) ≡ map m zs
  made_is = map-map (λ (s : SeatState). s.made) (λ x. record { pass = p x; made = m x }) xs ∙ ap (map m) (sym same)

  all_made : IfOk made (λ v. map (λ (s : SeatState). s.made) (map (λ x. record { pass = p x; made = m x }) xs) ≡ map Ok (items v))
  all_made = IfOk-weaker made (λ v. map m zs ≡ map Ok (items v)) (λ v. map (λ (s : SeatState). s.made) seats ≡ map Ok (items v)) (λ v e. made_is ∙ e) well

  pub left_differ : NumbersDiffer passes
  left_differ = seats_differ tells left faults old ss ts seats ended passes there

  pub left_length : length passes ≡ length xs
  left_length = same_count p Some zs passes back ∙ ap length same

  -- the session is closed with these
  pub left_count : 1 ≤ length xs → length ss ≤ 2 ^ 20 → IfOk made (λ v. (0 < length (items v)) × (length (items v) ≡ length passes) × (sum_by (λ w. length w.cleaned.infos.items) (items v) ≤ 2 ^ 20))
  left_count some most =
      IfOk-weaker made (λ v. map (λ (s : SeatState). s.made) seats ≡ map Ok (items v))
      (λ v. (0 < length (items v)) × (length (items v) ≡ length passes) × (sum_by (λ (w : Working). length w.cleaned.infos.items) (items v) ≤ 2 ^ 20))
      (λ v e. (
        omega (arith, some, same_count (λ (s : SeatState). s.made) Ok seats (items v) e, length-map {B = SeatState} xs (λ x. record { pass = p x; made = m x })),
        seats_count tells left faults old ss ts seats ended passes there (items v) e,
        seats_few tells left faults old ss ts seats ended passes there (items v) e most,
      ))
      all_made

  pub left_parts : IfOk made (λ v. (ps : List Part) × ArePartsBy old 1 (all_worked passes (items v)) ps)
  left_parts =
      IfOk-weaker made (λ v. map (λ (s : SeatState). s.made) seats ≡ map Ok (items v)) (λ v. (ps : List Part) × ArePartsBy old 1 (all_worked passes (items v)) ps)
      (λ v e. let has = seats_parts tells left faults old ss ts seats ended passes there (items v) e in (has.parts, has.are)) all_made

  -- what is promised then
  pub left_ended : (new : RecordedState) (workers : ℕ) → 1 ≤ workers → length xs ≤ workers → Sound new.store → IsRecorded new → map tells ts ≡ map tells ss → AreTaken tells left ss ts → Later faults ss ts
      → IfErr made (λ e. Among (map m zs) (Err e)) → (r : Result Cleaned StoreError)
      → IfOk made (λ v. (ps : List Part) → ArePartsBy old 1 (all_worked passes (items v)) ps → IfOk r (λ c. HasMerged old new passes ps c.infos.items c.choices.items c.metrics))
      → IfOk made (λ v. (ps : List Part) → ArePartsBy old 1 (all_worked passes (items v)) ps → IfErr r (IsUnended old new passes ps (items v)))
      → IfErr made (λ e. (r ≡ Err e) × IsLeftWith old new passes) → Promises workers tells left faults ss ts old new r
  left_ended new workers some few sound recorded tell taken later error r merged unmerged failed =
      seated_promises tells left faults ss ts old seats ended passes there new workers some (omega (arith, few, length-map {B = SeatState} xs (λ x. record { pass = p x; made = m x }))) sound recorded tell taken later items made all_made
      (IfErr-weaker made (λ e. Among (map m zs) (Err e)) (λ e. Among (map (λ (s : SeatState). s.made) seats) (Err e)) (λ e a. subst (λ (l : List (Result Working StoreError)). Among l (Err e)) (sym made_is) a) error)
      r merged unmerged failed
