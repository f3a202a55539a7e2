-- The loop over the sources: what was made of the first, and what is known where it ends.
use Rattle.std.proofs.Common.{◌≡◌, ◌∙◌, inr, ℕ, suc, ◌+◌, ◌*◌, ◌≤◌, ◌<◌, Bool, true, false, List, [], ◌∷◌, ◌++◌, length, map, take, drop, get_or, set, refl, sym, ap, subst, append-nil, length-append, append_assoc, arith}
use Rattle.std.proofs.lemmas.List.{length-map, take_at}
use Rattle.std.proofs.lemmas.List.Sums.{sum_by-append, sum_by-cons}
use Rattle.std.specs.List.{AllByRecursion, flat_map, sum_by}
use Rattle.std.specs.Prelude.{Err, IsOkUnless, Ok, Result}
use Rattle.xet_aggregate.specs.Aggregate.{Aggregate, empty}
use Rattle.xet_aggregate.specs.Metrics.{zeros}
use Rattle.xet_aggregate.specs.declared.metrics.DeduplicationMetrics.{DeduplicationMetrics}
use Rattle.xet_base.specs.theorems.Elements.{all_back, all_both, all_more, all_prefix, all_push}
use Rattle.xet_choices.specs.Calls.{Call}
use Rattle.xet_choices.specs.declared.choice.Choice.{Choice}
use Rattle.xet_cut.specs.Chunking.{chunking}
use Rattle.xet_cut.specs.declared.limits.LimitSettings.{LimitSettings}
use Rattle.xet_dedup_queries.specs.Counting.{HasNext as Further, registered_leaves}
use Rattle.xet_file_plan.specs.Moves.{PlanState}
use Rattle.xet_hash.specs.Merkle.{leaf_of, leaves_of}
use Rattle.xet_hash.specs.declared.error.Place.TheVariants as place
use Rattle.xet_hash.specs.declared.error.Reason.TheVariants.{OtherFileHash}
use Rattle.xet_hash.specs.declared.error.StoreError.{StoreError}
use Rattle.xet_hash.specs.declared.error.StoreError.TheVariants.{Io, MalformedData, OutOfMemory, TooLarge}
use Rattle.xet_hash.specs.declared.error.What.TheVariants as what
use Rattle.xet_history.specs.declared.entry.Entry.{Entry}
use Rattle.xet_io.specs.Faults.{Rose}
use Rattle.xet_store_disk.specs.Cleaning.{AreTaken, FailedAt, IsLongAt, Later, RoseAt, chunkings}
use Rattle.xet_store_disk.specs.Separate.{Among}
use Rattle.xet_store_disk.specs.declared.info.XetFileInfo.{XetFileInfo}
use Rattle.xet_store.specs.Holders.{Follows, FollowsAsking, Holder, calls_in}
use Rattle.xet_store.specs.theorems.Following.{calls_in-append, follows_nothing, follows_then}
use Rattle.xet_xorb_chunk.specs.Chunks.{chunk_leaf}
use Rattle.xet_clean.specs.Files.{leaves_in}
use Rattle.xet_clean.specs.Planning.{IsFew, IsPlanned, IsWithin, RegistersOnly}
use Rattle.xet_clean.specs.Cleaning.{ClosesLast}
use Rattle.xet_clean.specs.Closing.{AnyCalls, IsAtMost, IsUnclosed, RegistersAtMost, RegistersFull, filled_files, recorded_in}
use Rattle.xet_clean.specs.Sources.{AreDone, AreRead, HasCleaned, IsCutShort, IsDone, IsTakenFrom, IsLoopError, IsSourceError, IsShort, IsUnclosedFor}
use Rattle.xet_clean.specs.Working.{IsWorking, Planned, WasPlanned, Waits}
use Rattle.xet_shard_format.specs.declared.record.MDBFileInfo.{MDBFileInfo}
use Rattle.xet_clean.specs.theorems.Adding.{asking_calls, first_weaker, none_recorded, recorded_in-append}
use Rattle.xet_clean.specs.theorems.Closing.{error_earlier}
use Rattle.xet_clean.specs.theorems.Hashes.{chunks_sum}
use Rattle.xet_clean.specs.theorems.Keeping.{seen_follows, waits_seen, was_planned_follows}
use Rattle.xet_clean.specs.theorems.Nexts.{closes_none, closes_then, last_closes, lands_nexts}
use Rattle.xet_clean.specs.theorems.Owning.{registers_at_most, registers_both}
use Rattle.xet_clean.proofs.Finishing.{planned_only}
use Rattle.xet_clean.proofs.Owned.{only_own, source_own, working_own}
use Rattle.xet_clean.proofs.Stopping.{HasRecorded, first_recorded}
use Rattle.xet_clean.specs.theorems.Turns.{AreFrom, at_length, drop_past, done_counts, done_push, done_read, done_told, from_then, later_all, long_at, rose_at, set_at_length, taken_all, taken_each, tell_all, untouched}
use Rattle.xet_clean.specs.declared.policy.Sha256Policy.{Sha256Policy}
use Rattle.xet_clean.proofs.Unclosed.{unclosed_since}
use Rattle.xet_clean.proofs.Beginning.{nothing_cleaned}

module _ {S : Type 0} (tells : S → Bool) (left : S → List ℕ) (faults : S → ℕ) (policy : Sha256Policy) where
  -- Of these sources the first were read to their ends, and this was made of them. The others are untouched.
  pub record IsLoop (sources now : List S) (n : ℕ) (start h : Holder) (infos : List XetFileInfo) (choices : List (List Choice)) (metrics : DeduplicationMetrics) (a : Aggregate) : Type 0 where
    pub done : List S
    pub made : List S
    pub rest : List S
    pub files : List Planned
    pub old_is : sources ≡ done ++ rest
    pub now_is : now ≡ made ++ rest
    pub are : AreDone tells left faults start.limits.max_source_bytes done made files
    pub count : length files ≡ n
    pub policies : AllByRecursion (λ f. f.policy ≡ policy) files
    pub working : IsWorking start h files infos choices metrics a

  pub loop_begins : (sources : List S) (start : Holder) → start.stopped ≡ false → IsLoop sources sources 0 start start [] [] zeros empty
  loop_begins sources start going =
      record { done = []; made = []; rest = sources; files = []; old_is = refl; now_is = refl; are = tt; count = refl; policies = tt; working = nothing_cleaned start going }

  -- where each was cleaned
  pub loop_of : (sources now : List S) (start h : Holder) (infos : List XetFileInfo) (choices : List (List Choice)) (metrics : DeduplicationMetrics) (a : Aggregate) → HasCleaned policy tells left faults sources now start h infos choices metrics a
      → IsLoop sources now (length sources) start h infos choices metrics a
  loop_of sources now start h infos choices metrics a c = record {
    done = sources;
    made = now;
    rest = [];
    files = c.files;
    old_is = sym (append-nil sources);
    now_is = sym (append-nil now);
    are = c.are;
    count = sym (done_counts tells left faults start.limits.max_source_bytes sources now c.files c.are).0;
    policies = c.policies;
    working = c.working;
  }

  -- Why the loop ended, and what is known then.
  pub record IsStopped (last : List (List ℕ × ℕ)) (sources now : List S) (start h : Holder) (e : StoreError) : Type 0 where
    pub follows : Follows start h
    pub short : IsCutShort last policy tells left sources now start h e
    pub tell : map tells now ≡ map tells sources
    pub taken : AreTaken tells left sources now
    pub later : Later faults sources now
    pub reason : IsLoopError tells left faults sources now start h e

  -- nothing was done, for want of memory
  pub stopped_before : (sources : List S) (start : Holder) → IsStopped [] sources sources start start OutOfMemory
  unfolding follows_nothing
  stopped_before sources start =
      let files : List (List ℕ) = map (λ (s : S). []) sources in
      let all = untouched tells left faults sources in
      record {
        follows = follows_nothing start;
        short = record {
          files = files;
          taken = taken_each tells left faults sources sources files all;
          done = 0;
          within = omega arith;
          failed = tt;
          read = record { read = tt; short = tt };
          untouched = refl;
          few = (follows_nothing start, omega arith);
          count = 0;
          recorded = omega arith;
          records = refl;
          registers = closes_none [] tt;
          own = λ all. tt;
        };
        tell = refl;
        taken = taken_all tells left faults sources sources files all;
        later = later_all tells left faults sources sources files all;
        reason = tt;
      }

  pub short_before : {T : Type 0} (sources : List S) (start : Holder) (r : Result T StoreError) (e : StoreError) → r ≡ Err e → IsOkUnless r OutOfMemory → IsShort policy tells left sources sources start start e
  short_before sources start (Ok x) e is memory = absurd (cc is)
  short_before sources start (Err x) e is memory =
      let same : x ≡ e = cc is in
      subst (IsShort policy tells left sources sources start start) (sym memory ∙ same) ([], (stopped_before sources start).short)

  module _ (sources now : List S) (n : ℕ) (start h : Holder) (infos : List XetFileInfo) (choices : List (List Choice)) (metrics : DeduplicationMetrics) (a : Aggregate)
      (l : IsLoop sources now n start h infos choices metrics a) where
    abbrev w : IsWorking start h l.files infos choices metrics a
    w = l.working

    counts : (length l.done ≡ n) × (length l.made ≡ n)
    counts = let c = done_counts tells left faults start.limits.max_source_bytes l.done l.made l.files l.are in (c.0 ∙ l.count, c.1 ∙ l.count)

    -- ---- what was recorded

    has_recorded : (bytes : List (List ℕ)) (own : List (ℕ × Entry)) (k : ℕ) → recorded_in own ≡ take k (filled_files a)
        → HasRecorded policy start.limits n (map (λ (f : Planned). f.bytes) l.files ++ bytes) (w.follows.own ++ own)
    has_recorded bytes own k is = first_recorded policy start h l.files infos choices metrics a w l.policies n l.count bytes own k is

    -- ---- the sources before this one, and after it

    read_first : (after tail : List S) → after ≡ l.made ++ tail → AreRead tells left start.limits.max_source_bytes (take n sources) (take n after)
    read_first after tail is =
        subst (λ (ts : List S). AreRead tells left start.limits.max_source_bytes (take n sources) ts) (sym (ap (take n) is ∙ take_at l.made tail n counts.1))
        (subst (λ (ss : List S). AreRead tells left start.limits.max_source_bytes ss l.made) (sym (ap (take n) l.old_is ∙ take_at l.done l.rest n counts.0))
        (done_read tells left faults start.limits.max_source_bytes l.done l.made l.files l.are))

    rest_after : (after tail : List S) → after ≡ l.made ++ tail → drop 1 tail ≡ drop 1 l.rest → drop (suc n) after ≡ drop (suc n) sources
    rest_after after tail is same =
        ap (drop (suc n)) is
        ∙ ap (λ (k : ℕ). drop (suc k) (l.made ++ tail)) (sym counts.1)
        ∙ drop_past l.made tail
        ∙ same
        ∙ sym (ap (drop (suc n)) l.old_is ∙ ap (λ (k : ℕ). drop (suc k) (l.done ++ l.rest)) (sym counts.0) ∙ drop_past l.done l.rest)

    within_all : n ≤ length sources
    within_all = omega (arith, counts.0, ap length l.old_is, length-append l.done l.rest)

    -- ---- the numbers of entries

    abbrev sum_for : List (List ℕ) → ℕ
    sum_for files = sum_by (λ f. length (chunking start.limits f)) files

    few_old : length w.follows.own + (2 * length a.chunks + 2 * length a.files) ≤ 3 * sum_for (map (λ (f : Planned). f.bytes) l.files) + 2 * length l.files
    few_old = omega (arith, w.bound, chunks_sum start h w.follows l.files w.planned)

    few_with : (bytes : List (List ℕ)) (most : ℕ) → most ≤ 3 * sum_for (map (λ (f : Planned). f.bytes) l.files) + 2 * length l.files + (3 * sum_for bytes + 2 * length bytes)
        → most ≤ 3 * sum_for (map (λ (f : Planned). f.bytes) l.files ++ bytes) + 2 * length (map (λ (f : Planned). f.bytes) l.files ++ bytes)
    few_with bytes most le =
        omega (
          arith,
          le,
          sum_by-append (λ (f : List ℕ). length (chunking start.limits f)) (map (λ (f : Planned). f.bytes) l.files) bytes,
          length-append (map (λ (f : Planned). f.bytes) l.files) bytes,
          length-map l.files (λ (f : Planned). f.bytes),
        )

    -- each registration had further chunks
    nexts_old : AllByRecursion Further (calls_in w.follows.own)
    nexts_old = lands_nexts (map chunk_leaf a.chunks) (calls_in w.follows.own) w.lands

    -- ---- which chunks were registered

    abbrev Of : List ℕ × ℕ → Type 0
    Of = Among (flat_map leaves_of (chunkings left start.limits sources))

    old_own : AllByRecursion (λ s. tells s ≡ true) sources → AllByRecursion Of (registered_leaves (calls_in w.follows.own) ++ map chunk_leaf a.chunks)
    old_own all = working_own tells left faults sources l.done l.made l.rest l.files start h infos choices metrics a w l.are l.old_is all

    old_calls : AllByRecursion (λ s. tells s ≡ true) sources → AllByRecursion Of (registered_leaves (calls_in w.follows.own))
    old_calls all = all_prefix Of (registered_leaves (calls_in w.follows.own)) (map chunk_leaf a.chunks) (old_own all)

    old_block : AllByRecursion (λ s. tells s ≡ true) sources → AllByRecursion Of (map chunk_leaf a.chunks)
    old_block all = all_back Of (registered_leaves (calls_in w.follows.own)) (map chunk_leaf a.chunks) (old_own all)

    -- which records waited
    unclosed_for : (Are : List Call → Type 0) (first last : Holder) (next_leaves : List (List ℕ × ℕ)) (e : StoreError) → Follows h first → IsUnclosed Are a next_leaves first last e → IsUnclosedFor tells left sources start last e
    unclosed_for Are first last next_leaves e later u =
        let limits_same : first.limits ≡ h.limits = ap (λ (x : Holder). x.limits) later.is in
        record {
          done = l.done;
          rest = l.rest;
          order = l.old_is;
          files = l.files;
          told = done_told tells left faults start.limits.max_source_bytes l.done l.made l.files l.are;
          before = first;
          follows = follows_then start h first w.follows later;
          planned = all_more (WasPlanned start h) (WasPlanned start first) l.files (was_planned_follows h first later start) w.planned;
          aggregate = a;
          parts = w.aggregate;
          within = subst (λ (s : LimitSettings). IsWithin s a.chunks) (sym limits_same) w.within;
          waits = all_more (λ p. Waits h a.chunks l.files p.0) (λ p. Waits first a.chunks l.files p.0) a.files (λ p waits. waits_seen h first (seen_follows h first later) a.chunks l.files p.0 waits) w.waits;
          next = next_leaves;
          refused = (first_weaker Are AnyCalls (filled_files a) first last (λ calls are. tt) u.0, u.1);
        }

    -- ---- the next source

    -- there is one
    pub record HasNext : Type 0 where
      pub source : S
      pub later : List S
      pub is : l.rest ≡ source ∷ later

    pub has_next : n < length sources → HasNext
    has_next below = go l.rest refl
      where
        go : (rest : List S) → l.rest ≡ rest → HasNext
        go [] e = absurd (omega (arith, below, ap length l.old_is, length-append l.done l.rest, ap length e, counts.0))
        go (s ∷ later) e = record { source = s; later = later; is = e }

    module _ (next : HasNext) where
      sources_are : sources ≡ l.done ++ next.source ∷ next.later
      sources_are = l.old_is ∙ ap (λ (r : List S). l.done ++ r) next.is

      now_are : now ≡ l.made ++ next.source ∷ next.later
      now_are = l.now_is ∙ ap (λ (r : List S). l.made ++ r) next.is

      pub next_at : (d : S) → get_or now n d ≡ next.source
      next_at d =
          ap (λ (r : List S). get_or r n d) now_are
          ∙ ap (λ (k : ℕ). get_or (l.made ++ next.source ∷ next.later) k d) (sym counts.1)
          ∙ at_length l.made next.source d next.later

      set_next : (t : S) → set now n t ≡ l.made ++ t ∷ next.later
      set_next t =
          ap (λ (r : List S). set r n t) now_are
          ∙ ap (λ (k : ℕ). set (l.made ++ next.source ∷ next.later) k t) (sym counts.1)
          ∙ set_at_length l.made next.source t next.later

      tells_next : AllByRecursion (λ s. tells s ≡ true) sources → tells next.source ≡ true
      tells_next all = (all_back (λ s. tells s ≡ true) l.done (next.source ∷ next.later) (subst (AllByRecursion (λ s. tells s ≡ true)) sources_are all)).0

      -- chunks of this one
      next_own : (leaves : List (List ℕ × ℕ)) → AllByRecursion (Among (leaves_in start.limits (left next.source))) leaves → AllByRecursion Of leaves
      next_own leaves all = source_own tells left faults sources start.limits l.done next.source next.later sources_are leaves all

      -- what was taken of all sources, if these bytes were of this one
      from_all : (t : S) (bytes : List ℕ) → IsTakenFrom tells left faults next.source t bytes
          → AreFrom tells left faults sources (set now n t) (map (λ (f : Planned). f.bytes) l.files ++ bytes ∷ map (λ (s : S). []) next.later)
      from_all t bytes from =
          subst (λ (ts : List S). AreFrom tells left faults sources ts (map (λ (f : Planned). f.bytes) l.files ++ bytes ∷ map (λ (s : S). []) next.later)) (sym (set_next t))
          (subst (λ (ss : List S). AreFrom tells left faults ss (l.made ++ t ∷ next.later) (map (λ (f : Planned). f.bytes) l.files ++ bytes ∷ map (λ (s : S). []) next.later)) (sym sources_are)
          (from_then tells left faults start.limits.max_source_bytes l.done l.made l.files (next.source ∷ next.later) (t ∷ next.later) (bytes ∷ map (λ (s : S). []) next.later) l.are
          (from, untouched tells left faults next.later)))

      -- ---- one file more

      pub loop_next : (t : S) (h' : Holder) (bytes : List ℕ) (plan : PlanState) (infos' : List XetFileInfo) (choices' : List (List Choice)) (metrics' : DeduplicationMetrics) (a' : Aggregate)
          → IsDone tells left faults start.limits.max_source_bytes next.source t bytes → IsWorking start h' (l.files ++ (record { bytes = bytes; policy = policy; plan = plan }) ∷ []) infos' choices' metrics' a'
          → IsLoop sources (set now n t) (n + 1) start h' infos' choices' metrics' a'
      loop_next t h' bytes plan infos' choices' metrics' a' one more =
          let f : Planned = record { bytes = bytes; policy = policy; plan = plan } in
          record {
            done = l.done ++ next.source ∷ [];
            made = l.made ++ t ∷ [];
            rest = next.later;
            files = l.files ++ f ∷ [];
            old_is = sources_are ∙ sym (append_assoc l.done (next.source ∷ []) next.later);
            now_is = set_next t ∙ sym (append_assoc l.made (t ∷ []) next.later);
            are = done_push tells left faults start.limits.max_source_bytes l.done l.made l.files next.source t f l.are one;
            count = omega (arith, length-append l.files (f ∷ []), l.count);
            policies = all_push (λ (g : Planned). g.policy ≡ policy) l.files f l.policies refl;
            working = more;
          }

      -- ---- the source was not cleaned

      module _ (t : S) (h' : Holder) (bytes : List ℕ) (from : IsTakenFrom tells left faults next.source t bytes) where
        abbrev after : List S
        after = set now n t

        abbrev all_bytes : List (List ℕ)
        all_bytes = map (λ (f : Planned). f.bytes) l.files ++ bytes ∷ map (λ (s : S). []) next.later

        -- the error names this source
        rose_here : (i : ℕ) → i ≡ n → Rose (faults next.source) (faults t) → RoseAt faults sources (set now n t) i
        rose_here i same rose =
            subst (RoseAt faults sources (set now n t)) (counts.0 ∙ sym same)
            (subst (λ (ts : List S). RoseAt faults sources ts (length l.done)) (sym (set_next t))
            (subst (λ (ss : List S). RoseAt faults ss (l.made ++ t ∷ next.later) (length l.done)) (sym sources_are)
            (rose_at tells left faults l.done l.made next.source t next.later next.later (counts.1 ∙ sym counts.0) rose)))

        long_here : (i : ℕ) → i ≡ n → (tells next.source ≡ true → start.limits.max_source_bytes < length (left next.source)) → IsLongAt tells left sources start.limits.max_source_bytes i
        long_here i same long =
            subst (IsLongAt tells left sources start.limits.max_source_bytes) (counts.0 ∙ sym same)
            (subst (λ (ss : List S). IsLongAt tells left ss start.limits.max_source_bytes (length l.done)) (sym sources_are)
            (long_at tells left faults l.done next.source next.later start.limits.max_source_bytes long))

        -- Its deduplication or its reading failed.
        source_reason : (e : StoreError) → FollowsAsking h h' → IsSourceError n (tells next.source) (left next.source) (faults next.source) (faults t) h h' e
            → IsLoopError tells left faults sources (set now n t) start h' e
        source_reason (Io (place.Source i)) asking is = (rose_here i is.0 is.1, is.2 ∙ w.going)
        source_reason (TooLarge (what.Source i)) asking is =
            (long_here i is.0 (subst (λ (s : LimitSettings). tells next.source ≡ true → s.max_source_bytes < length (left next.source)) (ap (λ (x : Holder). x.limits) w.follows.is) is.1), is.2 ∙ w.going)
        source_reason (MalformedData OtherFileHash) asking is =
            unclosed_for AnyCalls h h' [] (MalformedData OtherFileHash) (follows_nothing h)
            ((0, record { follows = asking.follows; are = none_recorded asking.follows.own asking.none }, tt), inr is)
        source_reason e asking is = error_earlier start h h' w.follows e is

        source_failed : (e : StoreError) → IsSourceError n (tells next.source) (left next.source) (faults next.source) (faults t) h h' e → FailedAt e n
        source_failed (Io (place.Source i)) is = is.0
        source_failed (TooLarge (what.Source i)) is = is.0
        source_failed e is = tt

        pub stopped_at_source : (e : StoreError) → (asking : FollowsAsking h h') → IsFew h h' bytes → (tells next.source ≡ true → RegistersOnly h h' (left next.source)) → IsSourceError n (tells next.source) (left next.source) (faults next.source) (faults t) h h' e
            → IsStopped [] sources (set now n t) start h' e
        unfolding follows_then
        stopped_at_source e asking few only is =
            let all = from_all t bytes from in
            let rest : List (List ℕ) = bytes ∷ map (λ (s : S). []) next.later in
            let recorded = has_recorded rest few.follows.follows.own 0 (none_recorded few.follows.follows.own few.follows.none) in
            let one : length few.follows.follows.own ≤ 3 * length (chunking start.limits bytes) =
            omega (
              arith,
              few.few,
              ap (λ (s : LimitSettings). length (chunking s bytes)) (ap (λ (x : Holder). x.limits) few.follows.follows.is ∙ ap (λ (x : Holder). x.limits) w.follows.is),
              length-map (chunking h'.limits bytes) leaf_of,
            ) in
            let limits_same : h'.limits ≡ start.limits = ap (λ (x : Holder). x.limits) few.follows.follows.is ∙ ap (λ (x : Holder). x.limits) w.follows.is in
            let its_own : AllByRecursion (λ s. tells s ≡ true) sources → AllByRecursion Of (registered_leaves (calls_in few.follows.follows.own)) = λ every. next_own (registered_leaves (calls_in few.follows.follows.own)) (only_own h h' few.follows.follows (left next.source) start.limits limits_same (only (tells_next every))) in
            record {
              follows = follows_then start h h' w.follows few.follows.follows;
              short = record {
                files = map (λ (f : Planned). f.bytes) l.files ++ rest;
                taken = taken_each tells left faults sources (set now n t) (map (λ (f : Planned). f.bytes) l.files ++ rest) all;
                few = (
                  follows_then start h h' w.follows few.follows.follows,
                  few_with rest (length (w.follows.own ++ few.follows.follows.own))
                      (omega (arith, few_old, one, length-append w.follows.own few.follows.follows.own, sum_by-cons (λ (f : List ℕ). length (chunking start.limits f)) bytes (map (λ (s : S). []) next.later))),
                );
                done = n;
                within = within_all;
                failed = source_failed e is;
                read = read_first (set now n t) (t ∷ next.later) (set_next t);
                untouched = rest_after (set now n t) (t ∷ next.later) (set_next t) (ap (drop 1) (sym next.is));
                count = recorded.count;
                recorded = recorded.few;
                records = recorded.are;
                registers = subst (ClosesLast []) (sym (calls_in-append w.follows.own few.follows.follows.own))
                    (closes_none (calls_in w.follows.own ++ calls_in few.follows.follows.own) (all_both Further (calls_in w.follows.own) (calls_in few.follows.follows.own) nexts_old few.nexts));
                own = λ every.
                    subst (λ (cs : List Call). AllByRecursion Of (registered_leaves cs)) (sym (calls_in-append w.follows.own few.follows.follows.own))
                    (registers_both Of (calls_in w.follows.own) (calls_in few.follows.follows.own) (old_calls every) (its_own every));
              };
              tell = tell_all tells left faults sources (set now n t) (map (λ (f : Planned). f.bytes) l.files ++ rest) all;
              taken = taken_all tells left faults sources (set now n t) (map (λ (f : Planned). f.bytes) l.files ++ rest) all;
              later = later_all tells left faults sources (set now n t) (map (λ (f : Planned). f.bytes) l.files ++ rest) all;
              reason = source_reason e asking is;
            }

    -- ---- the aggregate was not closed

    unclosed_reason : (Are : List Call → Type 0) (after : List S) (first last : Holder) (next_leaves : List (List ℕ × ℕ)) (e : StoreError) → Follows h first → IsUnclosed Are a next_leaves first last e
        → IsLoopError tells left faults sources after start last e
    unclosed_reason Are after first last next_leaves (MalformedData OtherFileHash) later u =
        unclosed_for Are first last next_leaves (MalformedData OtherFileHash) later u
    unclosed_reason Are after first last next_leaves (Io (place.Source i)) later u = absurd (unclosed_since Are a next_leaves start first last (Io (place.Source i)) (follows_then start h first w.follows later) (λ same. cc same) u)
    unclosed_reason Are after first last next_leaves (TooLarge (what.Source i)) later u = absurd (unclosed_since Are a next_leaves start first last (TooLarge (what.Source i)) (follows_then start h first w.follows later) (λ same. cc same) u)
    unclosed_reason Are after first last next_leaves e later u = unclosed_since Are a next_leaves start first last e (follows_then start h first w.follows later) (λ same. cc same) u

    -- such an error names no source
    unclosed_failed : (Are : List Call → Type 0) (first last : Holder) (next_leaves : List (List ℕ × ℕ)) (e : StoreError) → Follows h first → IsUnclosed Are a next_leaves first last e → FailedAt e n
    unclosed_failed Are first last next_leaves (Io (place.Source i)) later u = absurd (unclosed_since Are a next_leaves start first last (Io (place.Source i)) (follows_then start h first w.follows later) (λ same. cc same) u)
    unclosed_failed Are first last next_leaves (TooLarge (what.Source i)) later u = absurd (unclosed_since Are a next_leaves start first last (TooLarge (what.Source i)) (follows_then start h first w.follows later) (λ same. cc same) u)
    unclosed_failed Are first last next_leaves e later u = tt

    -- the file joined no aggregate
    pub stopped_at_keep : (next : HasNext) (t : S) (h' last : Holder) (bytes : List ℕ) (plan : PlanState) → IsTakenFrom tells left faults next.source t bytes → (tells next.source ≡ true → left next.source ≡ bytes) → IsPlanned h h' bytes plan
        → (next_leaves : List (List ℕ × ℕ)) (e : StoreError) → IsAtMost (2 * length a.chunks + 2 * length a.files) h' last → IsUnclosed (RegistersFull a next_leaves) a next_leaves h' last e → IsStopped [] sources (set now n t) start last e
    unfolding follows_then
    stopped_at_keep next t h' last bytes plan from ended planned next_leaves e few u =
        let all = from_all next t bytes from in
        let rest : List (List ℕ) = bytes ∷ map (λ (s : S). []) next.later in
        let files : List (List ℕ) = map (λ (f : Planned). f.bytes) l.files ++ rest in
        let p : Follows h h' = planned.follows.follows in
        let r : Follows h' last = u.0.1.follows in
        let whole : Follows start last = follows_then start h last w.follows (follows_then h h' last p r) in
        let recorded = has_recorded rest (p.own ++ r.own) u.0.0
        (recorded_in-append p.own r.own ∙ ap (λ (x : List MDBFileInfo). x ++ recorded_in r.own) (none_recorded p.own planned.follows.none) ∙ u.0.1.are) in
        let calls : calls_in (w.follows.own ++ (p.own ++ r.own)) ≡ calls_in w.follows.own ++ (calls_in p.own ++ calls_in r.own) =
        calls_in-append w.follows.own (p.own ++ r.own) ∙ ap (λ (l : List Call). calls_in w.follows.own ++ l) (calls_in-append p.own r.own) in
        let nexts_file : AllByRecursion Further (calls_in p.own) = subst (AllByRecursion Further) (sym (asking_calls h h' planned.follows)) planned.nexts in
        let limits_same : h'.limits ≡ start.limits = ap (λ (x : Holder). x.limits) p.is ∙ ap (λ (x : Holder). x.limits) w.follows.is in
        let file_own : AllByRecursion (λ s. tells s ≡ true) sources → AllByRecursion Of (registered_leaves (calls_in p.own)) =
        λ every.
        let only : RegistersOnly h h' (left next.source) = subst (RegistersOnly h h') (sym (ended (tells_next next every))) (planned_only h h' bytes plan planned) in
        next_own next (registered_leaves (calls_in p.own)) (only_own h h' p (left next.source) start.limits limits_same only) in
        let one : length p.own ≤ 3 * length (chunking start.limits bytes) =
        omega (arith, planned.few, ap length planned.leaves, ap (λ (s : LimitSettings). length (chunking s bytes)) limits_same, length-map (chunking h'.limits bytes) leaf_of) in
        let more : length r.own ≤ 2 * length a.chunks + 2 * length a.files =
        omega (
          arith,
          few.few,
          ap (λ (x : Holder). length x.own) r.is,
          ap (λ (x : Holder). length x.own) few.follows.is,
          length-append h'.own r.own,
          length-append h'.own few.follows.own,
        ) in
        record {
          follows = whole;
          short = record {
            files = files;
            taken = taken_each tells left faults sources (set now n t) files all;
            few = (
              whole,
              few_with rest (length (w.follows.own ++ (p.own ++ r.own)))
                  (omega (arith, few_old, one, more, length-append w.follows.own (p.own ++ r.own), length-append p.own r.own, sum_by-cons (λ (f : List ℕ). length (chunking start.limits f)) bytes (map (λ (s : S). []) next.later))),
            );
            done = n;
            within = within_all;
            failed = unclosed_failed (RegistersFull a next_leaves) h' last next_leaves e p u;
            read = read_first (set now n t) (t ∷ next.later) (set_next next t);
            untouched = rest_after (set now n t) (t ∷ next.later) (set_next next t) (ap (drop 1) (sym next.is));
            count = recorded.count;
            recorded = recorded.few;
            records = recorded.are;
            registers = subst (ClosesLast []) (sym calls)
                (closes_none (calls_in w.follows.own ++ (calls_in p.own ++ calls_in r.own))
                (all_both Further (calls_in w.follows.own) (calls_in p.own ++ calls_in r.own) nexts_old (all_both Further (calls_in p.own) (calls_in r.own) nexts_file u.0.2.1)));
            own = λ every.
                subst (λ (cs : List Call). AllByRecursion Of (registered_leaves cs)) (sym calls)
                (registers_both Of (calls_in w.follows.own) (calls_in p.own ++ calls_in r.own) (old_calls every)
                (registers_both Of (calls_in p.own) (calls_in r.own) (file_own every) (registers_at_most Of a next_leaves (calls_in r.own) u.0.2.0 (old_block every))));
          };
          tell = tell_all tells left faults sources (set now n t) files all;
          taken = taken_all tells left faults sources (set now n t) files all;
          later = later_all tells left faults sources (set now n t) files all;
          reason = unclosed_reason (RegistersFull a next_leaves) (set now n t) h' last next_leaves e p u;
        }

    -- what was taken of all sources where the loop ends
    pub from_end : AreFrom tells left faults sources now (map (λ (f : Planned). f.bytes) l.files ++ map (λ (s : S). []) l.rest)
    from_end =
        subst (λ (ts : List S). AreFrom tells left faults sources ts (map (λ (f : Planned). f.bytes) l.files ++ map (λ (s : S). []) l.rest)) (sym l.now_is)
        (subst (λ (ss : List S). AreFrom tells left faults ss (l.made ++ l.rest) (map (λ (f : Planned). f.bytes) l.files ++ map (λ (s : S). []) l.rest)) (sym l.old_is)
        (from_then tells left faults start.limits.max_source_bytes l.done l.made l.files l.rest l.rest (map (λ (s : S). []) l.rest) l.are (untouched tells left faults l.rest)))

    -- the last aggregate was not closed
    pub stopped_at_end : (last : Holder) (e : StoreError) → IsAtMost (2 * length a.chunks + 2 * length a.files) h last → (u : IsUnclosed (RegistersAtMost a []) a [] h last e)
        → IsStopped (last_closes a (calls_in u.0.1.follows.own) u.0.2).0 sources now start last e
    unfolding follows_then
    stopped_at_end last e few u =
        let rest : List (List ℕ) = map (λ (s : S). []) l.rest in
        let files : List (List ℕ) = map (λ (f : Planned). f.bytes) l.files ++ rest in
        let r : Follows h last = u.0.1.follows in
        let whole : Follows start last = follows_then start h last w.follows r in
        let recorded = has_recorded rest r.own u.0.0 u.0.1.are in
        let closing = last_closes a (calls_in u.0.1.follows.own) u.0.2 in
        let more : length r.own ≤ 2 * length a.chunks + 2 * length a.files =
        omega (arith, few.few, ap (λ (x : Holder). length x.own) r.is, ap (λ (x : Holder). length x.own) few.follows.is, length-append h.own r.own, length-append h.own few.follows.own) in
        record {
          follows = whole;
          short = record {
            files = files;
            taken = taken_each tells left faults sources now files from_end;
            few = (whole, few_with rest (length (w.follows.own ++ r.own)) (omega (arith, few_old, more, length-append w.follows.own r.own)));
            done = n;
            within = within_all;
            failed = unclosed_failed (RegistersAtMost a []) h last [] e (follows_nothing h) u;
            read = read_first now l.rest l.now_is;
            untouched = rest_after now l.rest l.now_is refl;
            count = recorded.count;
            recorded = recorded.few;
            records = recorded.are;
            registers = subst (ClosesLast closing.0) (sym (calls_in-append w.follows.own r.own)) (closes_then closing.0 (calls_in w.follows.own) (calls_in r.own) nexts_old closing.1);
            own = λ every.
                subst (λ (cs : List Call). AllByRecursion Of (registered_leaves cs)) (sym (calls_in-append w.follows.own r.own))
                (registers_both Of (calls_in w.follows.own) (calls_in r.own) (old_calls every) (registers_at_most Of a [] (calls_in r.own) u.0.2 (old_block every)));
          };
          tell = tell_all tells left faults sources now files from_end;
          taken = taken_all tells left faults sources now files from_end;
          later = later_all tells left faults sources now files from_end;
          reason = unclosed_reason (RegistersAtMost a []) now h last [] e (follows_nothing h) u;
        }
