-- What workers took of the sources before an error, and how many entries there are for that.
use Rattle.std.proofs.Common.{◌≡◌, ◌∙◌, inl, inr, ℕ, zero, suc, ◌+◌, ◌*◌, ◌≤◌, Bool, true, false, List, [], ◌∷◌, ◌++◌, Some, Result, Ok, Err, length, map, take, refl, sym, ap, subst, length-append, arith}
use Rattle.std.specs.List.{AllByRecursion, flat_map, sum_by}
use Rattle.std.proofs.lemmas.List.{drop_all, length-map, take_all}
use Rattle.std.proofs.lemmas.List.Sums.{sum_by-append, sum_by-cons}
use Rattle.xet_base.specs.theorems.Elements.{all_back, all_more, all_prefix}
use Rattle.xet_clean.specs.theorems.Adding.{among_left, among_right}
use Rattle.xet_clean.specs.theorems.Hashes.{all_leaves, chunks_sum}
use Rattle.xet_clean.specs.theorems.InOrder.{are_records}
use Rattle.xet_clean.specs.theorems.Nexts.{closes_nexts, lands_nexts}
use Rattle.xet_clean.specs.theorems.Owning.{left_after, left_first, planned_left}
use Rattle.xet_clean.specs.theorems.Recorded.{IsRecordAmong, each_record}
use Rattle.xet_clean.specs.theorems.Turns.{done_counts, done_read, done_told}
use Rattle.xet_clean.specs.Cleaning.{AreRecords, EachTaken}
use Rattle.xet_clean.specs.Closing.{recorded_in}
use Rattle.xet_clean.specs.Files.{leaves_in}
use Rattle.xet_clean.specs.Sources.{AreDone, AreRead}
use Rattle.xet_clean.specs.Working.{Planned}
use Rattle.xet_clean.specs.declared.policy.Sha256Policy.TheVariants.{Compute}
use Rattle.xet_clean.specs.declared.working.Working.{Working}
use Rattle.xet_cut.specs.Chunking.{chunking}
use Rattle.xet_cut.specs.declared.limits.LimitSettings.{LimitSettings}
use Rattle.xet_dedup_queries.specs.Counting.{HasNext, registered_leaves}
use Rattle.xet_hash.specs.Merkle.{leaves_of}
use Rattle.xet_hash.specs.declared.error.StoreError.{StoreError}
use Rattle.xet_history.specs.declared.entry.Entry.{Entry}
use Rattle.xet_locked_session.specs.Passing.{passing_of}
use Rattle.xet_shard_format.specs.declared.record.MDBFileInfo.{MDBFileInfo}
use Rattle.xet_store.specs.Holders.{Holder, calls_in}
use Rattle.xet_store.specs.Recorded.{RecordedState}
use Rattle.xet_store_disk.specs.Cleaning.{chunkings}
use Rattle.xet_store_disk.specs.Separate.{Among}
use Rattle.xet_store_disk.specs.theorems.Rows.{from_among, to_among}
use Rattle.xet_workers.specs.Cleaning.{IsReadInTurn, Turn, taken_files, whole_files}
use Rattle.xet_workers.specs.Workers.{EndsAs, HasStopped, HasWorked, HaveEnded, SeatState, Worked, worked}
use Rattle.xet_workers.proofs.Numbered.{passed_limits, passed_own}
use Rattle.xet_xorb_chunk.specs.Chunks.{chunk_leaf}

-- ---- what was taken of sources

module _ {S : Type 0} (tells : S → Bool) (left : S → List ℕ) where
  pub taken_longer : (ss ts : List S) (fs : List (List ℕ)) → EachTaken tells left ss ts fs → length ss ≤ length ts
  taken_longer [] ts fs taken = omega arith
  taken_longer (s ∷ ss) [] fs taken = absurd taken
  taken_longer (s ∷ ss) (t ∷ ts) [] taken = absurd taken
  taken_longer (s ∷ ss) (t ∷ ts) (f ∷ fs) taken = omega (arith, taken_longer ss ts fs taken.1)

  taken_both : (ss ts : List S) (fs : List (List ℕ)) (ss' ts' : List S) (fs' : List (List ℕ)) → length ts ≡ length ss → EachTaken tells left ss ts fs → EachTaken tells left ss' ts' fs'
      → EachTaken tells left (ss ++ ss') (ts ++ ts') (fs ++ fs')
  taken_both [] [] fs ss' ts' fs' same taken more = subst (λ (l : List (List ℕ)). EachTaken tells left ss' ts' (l ++ fs')) (sym taken) more
  taken_both [] (t ∷ ts) fs ss' ts' fs' same taken more = absurd (omega (arith, same))
  taken_both (s ∷ ss) [] fs ss' ts' fs' same taken more = absurd taken
  taken_both (s ∷ ss) (t ∷ ts) [] ss' ts' fs' same taken more = absurd taken
  taken_both (s ∷ ss) (t ∷ ts) (f ∷ fs) ss' ts' fs' same taken more = (taken.0, taken_both ss ts fs ss' ts' fs' (omega (arith, same)) taken.1 more)

  module _ (faults : S → ℕ) (most : ℕ) where
    -- of sources that were read to their ends
    pub done_taken : (ss ts : List S) (fs : List Planned) → AreDone tells left faults most ss ts fs → EachTaken tells left ss ts (map (λ f. f.bytes) fs)
    done_taken [] [] [] done = refl
    done_taken [] [] (f ∷ fs) done = absurd done
    done_taken [] (t ∷ ts) fs done = absurd done
    done_taken (s ∷ ss) [] fs done = absurd done
    done_taken (s ∷ ss) (t ∷ ts) [] done = absurd done
    done_taken (s ∷ ss) (t ∷ ts) (f ∷ fs) done = (done.0.from.taken, done_taken ss ts fs done.1)

    -- they were read in turn up to the last
    pub done_turn : (ss ts : List S) (fs : List Planned) → AreDone tells left faults most ss ts fs
        → IsReadInTurn tells left most (record { sources = ss; now = ts; files = map (λ f. f.bytes) fs; done = length ss })
    done_turn ss ts fs done =
        let counts = done_counts tells left faults most ss ts fs done in
        let enough : length ts ≤ length ss = omega (arith, counts.0, counts.1) in
        record {
          same = omega (arith, counts.0, counts.1);
          taken = done_taken ss ts fs done;
          within = omega arith;
          read = subst (λ (l : List S). AreRead tells left most l (take (length ss) ts)) (sym (take_all (length ss) ss (omega arith)))
              (subst (AreRead tells left most ss) (sym (take_all (length ss) ts enough)) (done_read tells left faults most ss ts fs done));
          untouched = drop_all (suc (length ss)) ts (omega (arith, enough)) ∙ sym (drop_all (suc (length ss)) ss (omega arith));
        }

-- ---- how many entries there are at most

-- for what was taken of some sources: three for each chunk, and two for each source
abbrev pub most_for : LimitSettings → List (List ℕ) → ℕ
most_for s files = 3 * sum_by (λ f. length (chunking s f)) files + 2 * length files

pub most_both : (s : LimitSettings) (fs gs : List (List ℕ)) → most_for s (fs ++ gs) ≡ most_for s fs + most_for s gs
most_both s fs gs = omega (arith, sum_by-append (λ f. length (chunking s f)) fs gs, length-append fs gs)

-- for what a worker leaves to be merged: two for each chunk, and two for each file
abbrev pub left_over : Result Working StoreError → ℕ
left_over (Ok w) = 2 * length w.aggregate.chunks + 2 * length w.aggregate.files
left_over (Err e) = 0

-- of all that cleaned their parts
pub all_over : (seats : List SeatState) (workings : List Working) → map (λ s. s.made) seats ≡ map Ok workings
    → sum_by (λ s. left_over s.made) seats ≡ sum_by (λ w. 2 * length w.aggregate.chunks + 2 * length w.aggregate.files) workings
all_over [] [] made = refl
all_over [] (w ∷ ws) made = absurd (cc made)
all_over (s ∷ ss) [] made = absurd (cc made)
all_over (s ∷ ss) (w ∷ ws) made =
    let first : s.made ≡ Ok w = cc made in
    let rest : map (λ (t : SeatState). t.made) ss ≡ map Ok ws = cc made in
    omega (
      arith,
      ap left_over first,
      all_over ss ws rest,
      sum_by-cons (λ (t : SeatState). left_over t.made) s ss,
      sum_by-cons (λ (v : Working). 2 * length v.aggregate.chunks + 2 * length v.aggregate.files) w ws,
    )

-- the own entries of passes, and those for what workers leave
abbrev pub entries_for : List Holder → List SeatState → ℕ
entries_for passes seats = sum_by (λ p. length p.own) passes + sum_by (λ s. left_over s.made) seats

-- ---- the part of one worker

-- The sources were read in turn; so many entries, with those for what is left over, are at most those for what was taken; they
-- record no other files than those read to their ends; and each registration had further chunks. If the sources are observable, the
-- xorbs have only chunks of what they had left.
pub record IsFewOf {S : Type 0} (tells : S → Bool) (left : S → List ℕ) (limits : LimitSettings) (own : List (ℕ × Entry)) (over : ℕ) (sources now : List S) : Type 0 where
  pub files : List (List ℕ)
  pub done : ℕ
  pub turn : length now ≡ length sources → IsReadInTurn tells left limits.max_source_bytes (record { sources = sources; now = now; files = files; done = done })
  pub taken : EachTaken tells left sources now files
  pub few : length own + over ≤ most_for limits files
  pub only : AllByRecursion (IsRecordAmong Compute limits (take done files)) (recorded_in own)
  pub nexts : AllByRecursion HasNext (calls_in own)
  pub of_sources : AllByRecursion (λ s. tells s ≡ true) sources → AllByRecursion (Among (flat_map leaves_of (chunkings left limits sources))) (registered_leaves (calls_in own))

among_more : {X : Type 0} (c d : ℕ) → c ≤ d → (xs : List X) (x : X) → Among (take c xs) x → Among (take d xs) x
among_more zero d le xs x a = absurd a
among_more (suc c) zero le xs x a = absurd (omega (arith, le))
among_more (suc c) (suc d) le [] x a = a
among_more (suc c) (suc d) le (y ∷ ys) x (inl e) = inl e
among_more (suc c) (suc d) le (y ∷ ys) x (inr a) = inr (among_more c d (omega (arith, le)) ys x a)

-- records of the first files, where more were read to their ends
more_among : (s : LimitSettings) (c d : ℕ) → c ≤ d → (files : List (List ℕ)) (r : MDBFileInfo) → IsRecordAmong Compute s (take c files) r → IsRecordAmong Compute s (take d files) r
more_among s c d le files r is = (is.0, from_among (take d files) is.0 (among_more c d le files is.0 (to_among (take c files) is.0 is.1)), is.2)

module _ {S : Type 0} (tells : S → Bool) (left : S → List ℕ) (faults : S → ℕ) (old : RecordedState) where
  -- it cleaned its sources
  worked_few : (number : ℕ) (ss ts : List S) (w : Worked) → HasWorked tells left faults old number ss ts w
      → IsFewOf tells left old.store.limits w.pass.own (2 * length w.left.chunks + 2 * length w.left.files) ss ts
  worked_few number ss ts w is =
      let start : Holder = passing_of is.begun is.begun false in
      let end : Holder = passing_of is.begun w.pass false in
      let files : List Planned = is.cleaned.files in
      let bytes : List (List ℕ) = map (λ (f : Planned). f.bytes) is.cleaned.files in
      let limits : is.begun.limits ≡ old.store.limits = passed_limits old number is.begun w.pass false is.passed in
      let done : AreDone tells left faults old.store.limits.max_source_bytes ss ts files = subst (λ (s : LimitSettings). AreDone tells left faults s.max_source_bytes ss ts files) limits is.cleaned.are in
      let own : is.cleaned.working.follows.own ≡ w.pass.own = passed_own old number is.begun w.pass false is.passed is.cleaned.working.follows in
      let recorded : List MDBFileInfo = recorded_in is.cleaned.working.follows.own in
      let waiting : List MDBFileInfo = map (λ p. p.0) w.left.files in
      let records : AreRecords Compute is.begun.limits bytes (recorded ++ waiting) =
      are_records Compute is.begun.limits files (recorded ++ waiting) (all_leaves start end is.cleaned.working.follows files is.cleaned.working.planned) is.cleaned.policies is.cleaned.working.records in
      let among : AllByRecursion (IsRecordAmong Compute is.begun.limits bytes) recorded =
      all_prefix (IsRecordAmong Compute is.begun.limits bytes) recorded waiting (each_record Compute is.begun.limits bytes (recorded ++ waiting) records) in
      let whole : take (length ss) bytes ≡ bytes = take_all (length ss) bytes (omega (arith, (done_counts tells left faults old.store.limits.max_source_bytes ss ts files done).0, length-map files (λ (f : Planned). f.bytes))) in
      record {
        files = bytes;
        done = length ss;
        turn = λ same. done_turn tells left faults old.store.limits.max_source_bytes ss ts files done;
        taken = done_taken tells left faults old.store.limits.max_source_bytes ss ts files done;
        few = subst (λ (s : LimitSettings). length w.pass.own + (2 * length w.left.chunks + 2 * length w.left.files) ≤ most_for s (map (λ (f : Planned). f.bytes) files)) limits
            (omega (arith, is.cleaned.working.bound, ap length own, chunks_sum start end is.cleaned.working.follows files is.cleaned.working.planned, length-map files (λ (f : Planned). f.bytes)));
        only = subst (λ (l : List (ℕ × Entry)). AllByRecursion (IsRecordAmong Compute old.store.limits (take (length ss) bytes)) (recorded_in l)) own
            (subst (λ (fs : List (List ℕ)). AllByRecursion (IsRecordAmong Compute old.store.limits fs) recorded) (sym whole)
            (subst (λ (s : LimitSettings). AllByRecursion (IsRecordAmong Compute s bytes) recorded) limits among));
        nexts = subst (λ (l : List (ℕ × Entry)). AllByRecursion HasNext (calls_in l)) own (lands_nexts (map chunk_leaf w.left.chunks) (calls_in is.cleaned.working.follows.own) is.cleaned.working.lands);
        of_sources = λ every.
            let leaves : AllByRecursion (λ f. f.plan.leaves ≡ leaves_in old.store.limits f.bytes) files =
            subst (λ (s : LimitSettings). AllByRecursion (λ (f : Planned). f.plan.leaves ≡ leaves_in s f.bytes) files) limits (all_leaves start end is.cleaned.working.follows files is.cleaned.working.planned) in
            let same : flat_map (λ f. f.plan.leaves) files ≡ flat_map leaves_of (chunkings left old.store.limits ss) =
            planned_left tells left old.store.limits ss files (done_told tells left faults old.store.limits.max_source_bytes ss ts files done) every leaves in
            subst (λ (l : List (ℕ × Entry)). AllByRecursion (Among (flat_map leaves_of (chunkings left old.store.limits ss))) (registered_leaves (calls_in l))) own
            (subst (λ (ls : List (List ℕ × ℕ)). AllByRecursion (Among ls) (registered_leaves (calls_in is.cleaned.working.follows.own))) same
            (all_prefix (Among (flat_map (λ (f : Planned). f.plan.leaves) files)) (registered_leaves (calls_in is.cleaned.working.follows.own)) (map chunk_leaf w.left.chunks) is.cleaned.working.own));
      }

  -- it stopped
  stopped_few : (number : ℕ) (ss ts : List S) (pass : Holder) (cause : StoreError) → HasStopped tells left faults old number ss ts pass cause → IsFewOf tells left old.store.limits pass.own 0 ss ts
  stopped_few number ss ts pass cause is =
      let limits : is.begun.limits ≡ old.store.limits = passed_limits old number is.begun pass is.stopped is.passed in
      let own : is.short.few.0.own ≡ pass.own = passed_own old number is.begun pass is.stopped is.passed is.short.few.0 in
      let recorded : List MDBFileInfo = recorded_in is.short.few.0.own in
      let first : List (List ℕ) = take is.short.count is.short.files in
      let among : AllByRecursion (IsRecordAmong Compute is.begun.limits (take is.short.done is.short.files)) recorded =
      all_more (IsRecordAmong Compute is.begun.limits first) (IsRecordAmong Compute is.begun.limits (take is.short.done is.short.files)) recorded
      (more_among is.begun.limits is.short.count is.short.done is.short.recorded is.short.files) (each_record Compute is.begun.limits first recorded is.short.records) in
      record {
        files = is.short.files;
        done = is.short.done;
        turn = λ same. record {
          same = same;
          taken = is.short.taken;
          within = is.short.within;
          read = subst (λ (s : LimitSettings). AreRead tells left s.max_source_bytes (take is.short.done ss) (take is.short.done ts)) limits is.short.read;
          untouched = is.short.untouched;
        };
        taken = is.short.taken;
        few = subst (λ (s : LimitSettings). length pass.own + 0 ≤ most_for s is.short.files) limits (omega (arith, is.short.few.1, ap length own));
        only = subst (λ (l : List (ℕ × Entry)). AllByRecursion (IsRecordAmong Compute old.store.limits (take is.short.done is.short.files)) (recorded_in l)) own
            (subst (λ (s : LimitSettings). AllByRecursion (IsRecordAmong Compute s (take is.short.done is.short.files)) recorded) limits among);
        nexts = subst (λ (l : List (ℕ × Entry)). AllByRecursion HasNext (calls_in l)) own (closes_nexts (calls_in is.short.few.0.own) is.short.registers);
        of_sources = λ every.
            subst (λ (l : List (ℕ × Entry)). AllByRecursion (Among (flat_map leaves_of (chunkings left old.store.limits ss))) (registered_leaves (calls_in l))) own
            (subst (λ (s : LimitSettings). AllByRecursion (Among (flat_map leaves_of (chunkings left s ss))) (registered_leaves (calls_in is.short.few.0.own))) limits (is.short.own every));
      }

  pub ended_few : (number first : ℕ) (ss ts : List S) (pass : Holder) (made : Result Working StoreError) → EndsAs tells left faults old number first ss ts pass made
      → IsFewOf tells left old.store.limits pass.own (left_over made) ss ts
  ended_few number first ss ts pass (Ok w) is = worked_few number ss ts (worked pass w) is
  ended_few number first ss ts pass (Err e) is = stopped_few number ss ts pass is.0 is.2

-- ---- the parts of all workers

-- The sources are in so many parts, each was read in turn, and so many entries are at most those for what was taken. The passes
-- record no other files than those read to their ends, and each registration had further chunks. If the sources are observable, the
-- xorbs have only chunks of what they had left.
pub record AreBounded {S : Type 0} (tells : S → Bool) (left : S → List ℕ) (limits : LimitSettings) (count entries : ℕ) (passes : List Holder) (sources now : List S) : Type 0 where
  pub parts : List (Turn S)
  pub counted : length parts ≡ count
  pub before : sources ≡ flat_map (λ t. t.sources) parts
  pub after : now ≡ flat_map (λ t. t.now) parts
  pub turns : length now ≡ length sources → AllByRecursion (IsReadInTurn tells left limits.max_source_bytes) parts
  pub longer : length sources ≤ length now
  pub taken : length now ≡ length sources → EachTaken tells left sources now (taken_files parts)
  pub few : entries ≤ most_for limits (taken_files parts)
  pub only : AllByRecursion (λ h. AllByRecursion (IsRecordAmong Compute limits (whole_files parts)) (recorded_in h.own)) passes
  pub nexts : AllByRecursion (λ h. AllByRecursion HasNext (calls_in h.own)) passes
  pub of_sources : AllByRecursion (λ s. tells s ≡ true) sources → AllByRecursion (λ h. AllByRecursion (Among (flat_map leaves_of (chunkings left limits sources))) (registered_leaves (calls_in h.own))) passes

module _ {S : Type 0} (tells : S → Bool) (left : S → List ℕ) (limits : LimitSettings) where
  bounded_none : AreBounded tells left limits 0 0 [] [] []
  bounded_none = record {
    parts = [];
    counted = refl;
    before = refl;
    after = refl;
    turns = λ same. tt;
    longer = omega arith;
    taken = λ same. refl;
    few = omega arith;
    only = tt;
    nexts = tt;
    of_sources = λ every. tt;
  }

  -- one part more
  bounded_next : (part part_now rest rest_now : List S) (pass : Holder) (passes : List Holder) (n k m : ℕ) → IsFewOf tells left limits pass.own n part part_now → AreBounded tells left limits k m passes rest rest_now
      → AreBounded tells left limits (suc k) (length pass.own + n + m) (pass ∷ passes) (part ++ rest) (part_now ++ rest_now)
  bounded_next part part_now rest rest_now pass passes n k m one more =
      let longer : length part ≤ length part_now = taken_longer tells left part part_now one.files one.taken in
      let whole : length (part ++ rest) ≡ length part + length rest = length-append part rest in
      let whole_now : length (part_now ++ rest_now) ≡ length part_now + length rest_now = length-append part_now rest_now in
      let first : List (List ℕ) = take one.done one.files in
      let others : List (List ℕ) = whole_files more.parts in
      record {
        parts = record { sources = part; now = part_now; files = one.files; done = one.done } ∷ more.parts;
        counted = ap suc more.counted;
        before = ap (λ (l : List S). part ++ l) more.before;
        after = ap (λ (l : List S). part_now ++ l) more.after;
        turns = λ same. (one.turn (omega (arith, same, longer, more.longer, whole, whole_now)), more.turns (omega (arith, same, longer, more.longer, whole, whole_now)));
        longer = omega (arith, longer, more.longer, whole, whole_now);
        taken = λ same.
            taken_both tells left part part_now one.files rest rest_now (taken_files more.parts) (omega (arith, same, longer, more.longer, whole, whole_now)) one.taken
            (more.taken (omega (arith, same, longer, more.longer, whole, whole_now)));
        few = omega (arith, one.few, more.few, most_both limits one.files (taken_files more.parts));
        only = (
          all_more (IsRecordAmong Compute limits first) (IsRecordAmong Compute limits (first ++ others)) (recorded_in pass.own) (λ r is. (is.0, among_left first others is.0 is.1, is.2)) one.only,
          all_more (λ (h : Holder). AllByRecursion (IsRecordAmong Compute limits others) (recorded_in h.own)) (λ (h : Holder). AllByRecursion (IsRecordAmong Compute limits (first ++ others)) (recorded_in h.own)) passes
              (λ h all. all_more (IsRecordAmong Compute limits others) (IsRecordAmong Compute limits (first ++ others)) (recorded_in h.own) (λ r is. (is.0, among_right first others is.0 is.1, is.2)) all) more.only,
        );
        nexts = (one.nexts, more.nexts);
        of_sources = λ every. (
          left_first tells left limits part rest (registered_leaves (calls_in pass.own)) (one.of_sources (all_prefix (λ s. tells s ≡ true) part rest every)),
          all_more (λ (h : Holder). AllByRecursion (Among (flat_map leaves_of (chunkings left limits rest))) (registered_leaves (calls_in h.own)))
              (λ (h : Holder). AllByRecursion (Among (flat_map leaves_of (chunkings left limits (part ++ rest)))) (registered_leaves (calls_in h.own))) passes
              (λ h all. left_after tells left limits part rest (registered_leaves (calls_in h.own)) all) (more.of_sources (all_back (λ s. tells s ≡ true) part rest every)),
        );
      }

module _ {S : Type 0} (tells : S → Bool) (left : S → List ℕ) (faults : S → ℕ) (old : RecordedState) where
  pub all_bounded : (number first : ℕ) (sources now : List S) (seats : List SeatState) (passes : List Holder) → HaveEnded tells left faults old number first sources now seats → map (λ s. s.pass) seats ≡ map Some passes
      → AreBounded tells left old.store.limits (length seats) (entries_for passes seats) passes sources now
  all_bounded number first sources now [] [] ended there =
      subst (λ (ss : List S). AreBounded tells left old.store.limits 0 0 [] ss now) (sym ended.0) (subst (AreBounded tells left old.store.limits 0 0 [] []) (sym ended.1) (bounded_none tells left old.store.limits))
  all_bounded number first sources now [] (pass ∷ passes) ended there = absurd (cc there)
  all_bounded number first sources now (seat ∷ seats) [] ended there = absurd (cc there)
  all_bounded number first sources now (seat ∷ seats) (pass ∷ passes) (part, rest, part_now, rest_now, order, order_now, one, others) there =
      let same : one.pass ≡ pass = cc (one.there, there) in
      let more : map (λ (s : SeatState). s.pass) seats ≡ map Some passes = cc there in
      let mine : ℕ = length pass.own + left_over seat.made in
      let theirs : ℕ = entries_for passes seats in
      let all : List Holder = pass ∷ passes in
      let few : IsFewOf tells left old.store.limits pass.own (left_over seat.made) part part_now =
      ended_few tells left faults old number first part part_now pass seat.made (subst (λ (h : Holder). EndsAs tells left faults old number first part part_now h seat.made) same one.ended) in
      let sums : mine + theirs ≡ entries_for (pass ∷ passes) (seat ∷ seats) =
      omega (arith, sum_by-cons (λ (p : Holder). length p.own) pass passes, sum_by-cons (λ (s : SeatState). left_over s.made) seat seats) in
      subst (λ (n : ℕ). AreBounded tells left old.store.limits (suc (length seats)) n all sources now) sums
      (subst (λ (ss : List S). AreBounded tells left old.store.limits (suc (length seats)) (mine + theirs) all ss now) (sym order)
      (subst (AreBounded tells left old.store.limits (suc (length seats)) (mine + theirs) all (part ++ rest)) (sym order_now)
      (bounded_next tells left old.store.limits part part_now rest rest_now pass passes (left_over seat.made) (length seats) theirs few
      (all_bounded (suc number) (first + length part) rest rest_now seats passes others more))))
