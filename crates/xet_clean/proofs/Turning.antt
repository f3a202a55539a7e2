-- One turn of the loop over the sources: a source is cleaned, and its file is kept.
use Rattle.std.proofs.Common.{Result, Ok, Err, IfOk, OnOk, ◌≡◌, ◌∙◌, ℕ, ◌+◌, ◌*◌, ◌^◌, ◌≤◌, ◌<◌, Bool, true, false, List, [], ◌∷◌, ◌++◌, length, map, get_or, set, sym, ap, subst, arith}
use Rattle.std.specs.Result.{IfErr, OnErr}
use Rattle.xet_aggregate.specs.Aggregate.{Aggregate, empty}
use Rattle.xet_aggregate.specs.Metrics.{zeros}
use Rattle.xet_aggregate.specs.declared.metrics.DeduplicationMetrics.{DeduplicationMetrics}
use Rattle.xet_choices.specs.declared.choice.Choice.{Choice}
use Rattle.xet_cut.specs.Limits.{AreInRange}
use Rattle.xet_cut.specs.declared.limits.LimitSettings.{LimitSettings}
use Rattle.xet_file_plan.specs.Moves.{PlanState}
use Rattle.xet_hash.specs.declared.error.StoreError.{StoreError}
use Rattle.xet_io.specs.Frame.{Stays}
use Rattle.xet_store_disk.specs.declared.info.XetFileInfo.{XetFileInfo}
use Rattle.xet_store.specs.Holders.{FollowsAsking, Holder, calls_in}
use Rattle.xet_xorb_chunk.specs.Chunks.{chunk_leaf}
use Rattle.xet_clean.specs.Planning.{IsFew, IsFinished, RegistersOnly}
use Rattle.xet_clean.specs.Closing.{Closes, IsAtMost, IsUnclosed, RegistersAtMost, RegistersFull}
use Rattle.xet_clean.specs.Sources.{AreRead, IsLoopError, IsShort, IsSourceError, Takes}
use Rattle.xet_clean.specs.Working.{EndsWith, IsAdded, IsWorking, Planned}
use Rattle.xet_clean.proofs.Looped.{ends_with, read_end}
use Rattle.xet_clean.proofs.Looping.{HasNext, IsLoop, IsStopped, has_next, loop_begins, loop_next, next_at, stopped_at_end, stopped_at_keep, stopped_at_source}
use Rattle.xet_clean.proofs.Reading.{takes_all}
use Rattle.xet_clean.specs.theorems.Nexts.{last_closes}
use Rattle.xet_clean.specs.theorems.Turns.{done_one, taken_from}
use Rattle.xet_clean.specs.declared.policy.Sha256Policy.{Sha256Policy}
use Rattle.xet_clean.specs.Policies.{sha256_by}

module _ {S F : Type 0} (tells : S → Bool) (left : S → List ℕ) (faults : S → ℕ) (policy : Sha256Policy) (info : F → XetFileInfo) (counts : F → DeduplicationMetrics) (chosen : F → List Choice) (remains : F → Aggregate) where
  -- What is known after source `n` was read and cleaned, with this result.
  pub record IsCleanedAt (n : ℕ) (s t : S) (h h' : Holder) (file : Result F StoreError) : Type 0 where
    pub finished : IfOk file (λ f. (bytes : List ℕ) × Takes true (tells s) (left s) (left t) bytes × IsFinished h h' n (sha256_by policy bytes) bytes (info f) (counts f) (chosen f) (remains f))
    pub few : OnErr file ((bytes : List ℕ) × Takes false (tells s) (left s) (left t) bytes × IsFew h h' bytes)
    pub own : OnErr file (tells s ≡ true → RegistersOnly h h' (left s))
    pub follows : FollowsAsking h h'
    pub frame : Stays tells faults s t
    pub refused : IfErr file (IsSourceError n (tells s) (left s) (faults s) (faults t) h h')

  -- What is known after its file was kept, with this result.
  pub record IsKeptAt {U : Type 0} (a : Aggregate) (h' last : Holder) (file : Result F StoreError) (r : Result U StoreError) : Type 0 where
    pub few : IsAtMost (2 * length a.chunks + 2 * length a.files) h' last
    pub refused : IfErr r (λ e. IfOk file (λ f. IsUnclosed (RegistersFull a (map chunk_leaf (remains f).chunks)) a (map chunk_leaf (remains f).chunks) h' last e))
    pub kept : IfErr file (λ e. (r ≡ Err e) × (last ≡ h'))

  module _ (sources now : List S) (n : ℕ) (start h : Holder) (infos : List XetFileInfo) (choices : List (List Choice)) (metrics : DeduplicationMetrics) (a : Aggregate)
      (l : IsLoop tells left faults policy sources now n start h infos choices metrics a) (below : n < length sources) where
    next : HasNext tells left faults policy sources now n start h infos choices metrics a l
    next = has_next tells left faults policy sources now n start h infos choices metrics a l below

    -- the source is the next one
    cleaned_next : (d t : S) (h' : Holder) (file : Result F StoreError) → IsCleanedAt n (get_or now n d) t h h' file → IsCleanedAt n next.source t h h' file
    cleaned_next d t h' file is = subst (λ (s : S). IsCleanedAt n s t h h' file) (next_at tells left faults policy sources now n start h infos choices metrics a l next d) is

    -- a file that may be added
    pub may_add : length sources ≤ 2 ^ 20 → AreInRange start.limits → (h' : Holder) → FollowsAsking h h' → (bytes : List ℕ) (i : XetFileInfo) (m : DeduplicationMetrics) (cs : List Choice) (rest : Aggregate) → IsFinished h h' n (sha256_by policy bytes) bytes i m cs rest
        → IsAdded start h h' l.files policy bytes n infos choices metrics a i m cs rest
    may_add count range h' asking bytes i m cs rest finished = record {
      working = l.working;
      finished = finished;
      few = omega (arith, count, below, l.count);
      range = subst AreInRange (sym (ap (λ (x : Holder). x.limits) asking.follows.is ∙ ap (λ (x : Holder). x.limits) l.working.follows.is)) range;
    }

    pub added_of : length sources ≤ 2 ^ 20 → AreInRange start.limits → (d t : S) (h' : Holder) (file : Result F StoreError) → IsCleanedAt n (get_or now n d) t h h' file
        → IfOk file (λ f. (from first : Holder) × (files : List Planned) × (policy : Sha256Policy) × (bytes : List ℕ) × (id : ℕ) × IsAdded from first h' files policy bytes id infos choices metrics a (info f) (counts f) (chosen f) (remains f))
    added_of count range d t h' (Ok f) is =
        let one = cleaned_next d t h' (Ok f) is in
        (start, h, l.files, policy, one.finished.0, n, may_add count range h' one.follows one.finished.0 (info f) (counts f) (chosen f) (remains f) one.finished.2)
    added_of count range d t h' (Err e) is = tt

    -- it was not cleaned, or not kept
    pub turn_stops : {U : Type 0} (d t : S) (h' last : Holder) (file : Result F StoreError) (r : Result U StoreError) (e : StoreError) → IsCleanedAt n (get_or now n d) t h h' file → IsKeptAt a h' last file r → r ≡ Err e
        → IsStopped tells left faults policy [] sources (set now n t) start last e
    turn_stops d t h' last (Ok f) (Ok u) e is kept same = absurd (cc same)
    turn_stops d t h' last (Ok f) (Err x) e is kept same =
        let one = cleaned_next d t h' (Ok f) is in
        let finished = one.finished.2 in
        subst (IsStopped tells left faults policy [] sources (set now n t) start last) (cc same)
        (stopped_at_keep tells left faults policy sources now n start h infos choices metrics a l next t h' last one.finished.0 finished.plan (taken_from tells left faults true next.source t one.finished.0 one.frame one.finished.1)
        (takes_all (tells next.source) (left next.source) (left t) one.finished.0 one.finished.1) finished.planned
        (map chunk_leaf (remains f).chunks) x kept.few kept.refused)
    turn_stops {U} d t h' last (Err x) r e is kept same =
        let one = cleaned_next d t h' (Err x) is in
        let both : ◌≡◌ {A = Result U StoreError} (Err x) (Err e) = sym kept.kept.0 ∙ same in
        let errors : x ≡ e = cc both in
        subst (λ (g : Holder). IsStopped tells left faults policy [] sources (set now n t) start g e) (sym kept.kept.1)
        (subst (IsStopped tells left faults policy [] sources (set now n t) start h') errors
        (stopped_at_source tells left faults policy sources now n start h infos choices metrics a l next t h' one.few.0 (taken_from tells left faults false next.source t one.few.0 one.frame one.few.1) x one.follows one.few.2 one.own one.refused))

    -- it was kept
    pub turn_goes_on : {U : Type 0} → length sources ≤ 2 ^ 20 → AreInRange start.limits → (d t : S) (h' last : Holder) (file : Result F StoreError) (r : Result U StoreError) (u : U)
        (infos' : List XetFileInfo) (choices' : List (List Choice)) (metrics' : DeduplicationMetrics) (a' : Aggregate) → IsCleanedAt n (get_or now n d) t h h' file → IsKeptAt a h' last file r → r ≡ Ok u
        → IfOk file (λ f. (from first : Holder) (files : List Planned) (policy : Sha256Policy) (bytes : List ℕ) (id : ℕ) → IsAdded from first h' files policy bytes id infos choices metrics a (info f) (counts f) (chosen f) (remains f)
        → OnOk r ((plan : PlanState) × IsWorking from last (files ++ (record { bytes = bytes; policy = policy; plan = plan }) ∷ []) infos' choices' metrics' a'))
        → IsLoop tells left faults policy sources (set now n t) (n + 1) start last infos' choices' metrics' a'
    turn_goes_on count range d t h' last (Ok f) (Ok v) u infos' choices' metrics' a' is kept same works =
        let one = cleaned_next d t h' (Ok f) is in
        let bytes : List ℕ = one.finished.0 in
        let finished = one.finished.2 in
        let work = works start h l.files policy one.finished.0 n (may_add count range h' one.follows one.finished.0 (info f) (counts f) (chosen f) (remains f) finished) in
        let limits_same : h'.limits ≡ start.limits = ap (λ (x : Holder). x.limits) one.follows.follows.is ∙ ap (λ (x : Holder). x.limits) l.working.follows.is in
        loop_next tells left faults policy sources now n start h infos choices metrics a l next t last one.finished.0 work.0 infos' choices' metrics' a'
        (done_one tells left faults start.limits.max_source_bytes next.source t one.finished.0 one.frame one.finished.1
        (omega (arith, finished.planned.short, ap (λ (s : LimitSettings). s.max_source_bytes) limits_same))) work.1
    turn_goes_on count range d t h' last (Ok f) (Err x) u infos' choices' metrics' a' is kept same works = absurd (cc same)
    turn_goes_on {U} count range d t h' last (Err x) r u infos' choices' metrics' a' is kept same works =
        let both : ◌≡◌ {A = Result U StoreError} (Err x) (Ok u) = sym kept.kept.0 ∙ same in absurd (cc both)

-- the loop begins where nothing was made yet
pub loop_begins_with : {S : Type 0} (tells : S → Bool) (left : S → List ℕ) (faults : S → ℕ) (policy : Sha256Policy) (sources : List S) (start : Holder) (infos : List XetFileInfo) (choices : List (List Choice)) (metrics : DeduplicationMetrics) (a : Aggregate)
    → start.stopped ≡ false → (infos ≡ []) × (choices ≡ []) × (metrics ≡ zeros) × (a ≡ empty) → IsLoop tells left faults policy sources sources 0 start start infos choices metrics a
loop_begins_with tells left faults policy sources start infos choices metrics a going nothing =
    subst (λ (i : List XetFileInfo). IsLoop tells left faults policy sources sources 0 start start i choices metrics a) (sym nothing.0)
    (subst (λ (cs : List (List Choice)). IsLoop tells left faults policy sources sources 0 start start [] cs metrics a) (sym nothing.1)
    (subst (λ (m : DeduplicationMetrics). IsLoop tells left faults policy sources sources 0 start start [] [] m a) (sym nothing.2)
    (subst (λ (b : Aggregate). IsLoop tells left faults policy sources sources 0 start start [] [] zeros b) (sym nothing.3)
    (loop_begins tells left faults policy sources start going))))

-- ---- the loop ends

module _ {S T : Type 0} (tells : S → Bool) (left : S → List ℕ) (faults : S → ℕ) (policy : Sha256Policy) (sources now : List S) (n : ℕ) (start h : Holder) (infos : List XetFileInfo) (choices : List (List Choice)) (metrics : DeduplicationMetrics) (a : Aggregate)
    (l : IsLoop tells left faults policy sources now n start h infos choices metrics a) (last : Holder) where
  pub end_ends : (info : T → List XetFileInfo) (chosen : T → List (List Choice)) (counts : T → DeduplicationMetrics) (r : Result T StoreError) (v : T) → n ≡ length sources → info v ≡ infos → chosen v ≡ choices → counts v ≡ metrics
      → IfOk r (λ t. (t ≡ v) × Closes a [] h last) → IfOk r (λ t. (files : List Planned) × EndsWith policy tells left sources start last files (info t) (chosen t) (counts t))
  end_ends info chosen counts (Ok t) v all i c m closed =
      let e : EndsWith policy tells left sources start last l.files infos choices metrics = ends_with tells left faults policy sources now n start h infos choices metrics a l all last closed.1 in (
        l.files,
        subst (λ (x : List XetFileInfo). EndsWith policy tells left sources start last l.files x (chosen t) (counts t)) (sym (ap info closed.0 ∙ i))
            (subst (λ (x : List (List Choice)). EndsWith policy tells left sources start last l.files infos x (counts t)) (sym (ap chosen closed.0 ∙ c))
            (subst (λ (x : DeduplicationMetrics). EndsWith policy tells left sources start last l.files infos choices x) (sym (ap counts closed.0 ∙ m)) e)),
      )
  end_ends info chosen counts (Err e) v all i c m closed = tt

  pub end_reads : (r : Result T StoreError) → n ≡ length sources → OnOk r (AreRead tells left start.limits.max_source_bytes sources now)
  end_reads (Ok t) all = read_end tells left faults policy sources now n start h infos choices metrics a l all
  end_reads (Err e) all = tt

  pub end_short : (r : Result T StoreError) → IsAtMost (2 * length a.chunks + 2 * length a.files) h last → IfErr r (IsUnclosed (RegistersAtMost a []) a [] h last) → IfErr r (IsShort policy tells left sources now start last)
  end_short (Ok t) few u = tt
  end_short (Err e) few u =
      ((last_closes a (calls_in u.0.1.follows.own) u.0.2).0, (stopped_at_end tells left faults policy sources now n start h infos choices metrics a l last e few u).short)

  pub end_reason : (r : Result T StoreError) → IsAtMost (2 * length a.chunks + 2 * length a.files) h last → IfErr r (IsUnclosed (RegistersAtMost a []) a [] h last) → IfErr r (IsLoopError tells left faults sources now start last)
  end_reason (Ok t) few u = tt
  end_reason (Err e) few u = (stopped_at_end tells left faults policy sources now n start h infos choices metrics a l last e few u).reason
