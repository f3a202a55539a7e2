-- What is promised of an error besides its reason: what was read, recorded and registered.
use Rattle.std.proofs.Common.{◌≡◌, ◌∙◌, ℕ, suc, ◌+◌, ◌*◌, ◌<◌, ◌≤◌, Bool, true, false, List, [], ◌∷◌, ◌++◌, Some, append-nil, drop, length, map, take, refl, sym, ap, subst, length-append, arith}
use Rattle.std.specs.List.{AllByRecursion, IsAmong, flat_map, sum_by}
use Rattle.std.specs.Prelude.{Any}
use Rattle.std.proofs.lemmas.List.{drop_all, drop_at, length-map, map-append, take_all}
use Rattle.std.proofs.lemmas.List.Concat.{flat_map-append}
use Rattle.std.proofs.lemmas.List.Sums.{sum_by-cons}
use mathlib.Core.List.{IsPrefix}
use Rattle.xet_aggregate.specs.Aggregate.{Aggregate}
use Rattle.xet_base.specs.theorems.Elements.{all_back, all_both, all_more, all_prefix}
use Rattle.xet_clean.specs.theorems.Adding.{among_left, among_right}
use Rattle.xet_clean.specs.theorems.Ending.{among_made}
use Rattle.xet_clean.specs.theorems.Hashes.{chunks_sum}
use Rattle.xet_clean.specs.theorems.InOrder.{are_records}
use Rattle.xet_clean.specs.theorems.Nexts.{closes_none, closes_then, lands_nexts}
use Rattle.xet_clean.specs.theorems.Owning.{entries_of, in_after, in_more, planned_left}
use Rattle.xet_clean.specs.theorems.Recorded.{HasRows, IsRecordAmong, RecordsHash, each_record, hash_of_file, only_files, record_files, rows_add, rows_after_all}
use Rattle.xet_clean.specs.theorems.Session.{own_since, plans_resolve, plans_since, records_since, taken_among}
use Rattle.xet_clean.specs.theorems.Turns.{done_counts, done_told, taken_each, untouched}
use Rattle.xet_clean.specs.Cleaning.{AreRecords, ClosesLast, EachTaken, IsRecordFor, RecordsFile, RegistersOf, calls_since, entries_since, files_in}
use Rattle.xet_clean.specs.Closing.{recorded_in}
use Rattle.xet_clean.specs.Files.{leaves_in}
use Rattle.xet_clean.specs.Merging.{Part, files_of}
use Rattle.xet_clean.specs.Policies.{sha256_by}
use Rattle.xet_clean.specs.Sources.{AreDone}
use Rattle.xet_clean.specs.Working.{IsRecordOf, Planned}
use Rattle.xet_clean.specs.declared.policy.Sha256Policy.TheVariants.{Compute}
use Rattle.xet_clean.specs.declared.working.Working.{Working}
use Rattle.xet_cut.specs.Chunking.{chunking}
use Rattle.xet_cut.specs.declared.limits.LimitSettings.{LimitSettings}
use Rattle.xet_dedup.specs.Records.{file_record}
use Rattle.xet_dedup_queries.specs.Counting.{HasNext, registered_leaves}
use Rattle.xet_hash.specs.Merkle.{leaves_of}
use Rattle.xet_hash.specs.declared.error.StoreError.{StoreError}
use Rattle.xet_history.specs.Core.{Core}
use Rattle.xet_history.specs.History.{after_all, pass_of}
use Rattle.xet_history.specs.declared.entry.Entry.{Entry}
use Rattle.xet_history.specs.declared.entry.Entry.TheVariants.{Complete, Fault, Flush, Query, Register}
use Rattle.xet_locked_session.specs.Passes.{IsSeen, own_numbers}
use Rattle.xet_locked_session.specs.Session.{IsSince}
use Rattle.xet_shard_format.specs.declared.record.MDBFileInfo.{MDBFileInfo}
use Rattle.xet_shared_history.specs.Owned.{HasEachOnce}
use Rattle.xet_store.specs.Alone.{alone_of}
use Rattle.xet_store.specs.Holders.{Follows, Holder, calls_in, numbered, seen}
use Rattle.xet_store.specs.Recorded.{RecordedState, core_of}
use Rattle.xet_store.specs.Steps.{Steps}
use Rattle.xet_store.specs.theorems.Following.{calls_in-append, length-numbered}
use Rattle.xet_store_disk.specs.Cleaning.{Adds, chunkings, info_of}
use Rattle.xet_store_disk.specs.Separate.{Among}
use Rattle.xet_store_disk.specs.Store.{Sound}
use Rattle.xet_store_disk.specs.theorems.Rows.{from_among, to_among}
use Rattle.xet_store_disk.specs.theorems.Staying.{all_among}
use Rattle.xet_workers.specs.Cleaning.{IsBoundedBy, IsReadInTurn, Turn, taken_files, whole_files}
use Rattle.xet_workers.specs.Workers.{HaveEnded, SeatState, Worked}
use Rattle.xet_workers.specs.internal.Ending.{HasNotMerged}
use Rattle.xet_workers.specs.internal.Parts.{ArePartsBy, IsPartBy, all_worked}
use Rattle.xet_workers.proofs.Bounds.{AreBounded, all_bounded, done_taken, done_turn, entries_for, most_both, most_for}
use Rattle.xet_workers.proofs.Ended.{both_since, last_since, numbered_all, steps_all}
use Rattle.xet_workers.proofs.Joined.{files_leaves, files_policies, own_is, part_leaves, parts_passed, passes_of, start_limits}
use Rattle.xet_workers.proofs.Numbered.{HavePassed, all_passed, passed_count}
use Rattle.xet_workers.proofs.Passed.{alone_of_pass}
use Rattle.xet_workers.proofs.Refusing.{among_after, among_first}
use Rattle.xet_workers.proofs.Since.{nexts_since, only_since, passes_since, registers_since}
use Rattle.xet_xorb_chunk.specs.Chunks.{chunk_leaf}

-- ---- the files that entries record

records_cons : (s : LimitSettings) (bytes : List ℕ) (files : List (List ℕ)) (r : MDBFileInfo) (rs : List MDBFileInfo) → 0 < length bytes → IsRecordFor Compute s bytes r → AreRecords Compute s files rs
    → AreRecords Compute s (bytes ∷ files) (r ∷ rs)
records_cons s [] files r rs some is are = absurd (omega (arith, some))
records_cons s (b ∷ bs) files r rs some is are = (is, are)

kept_files : (s : LimitSettings) (files : List (List ℕ)) (es : List Entry) → AllByRecursion (RecordsFile Compute s files) es → (kept : List (List ℕ)) × AllByRecursion (IsAmong files) kept × AreRecords Compute s kept (files_in es)
kept_files s files [] all = ([], tt, refl)
kept_files s files (Query pass hashes reply ∷ es) all = kept_files s files es all.1
kept_files s files (Register pass chunks next added ∷ es) all = kept_files s files es all.1
kept_files s files (Complete pass file added ∷ es) all =
    let rest = kept_files s files es all.1 in
    (all.0.0 ∷ rest.0, (all.0.1, rest.1), records_cons s all.0.0 rest.0 file (files_in es) all.0.2.some all.0.2 rest.2)
kept_files s files (Flush pass shard ∷ es) all = kept_files s files es all.1
kept_files s files (Fault pass kind ∷ es) all = kept_files s files es all.1

-- ---- the files of sources that were read to their ends are what these had left

module _ {S : Type 0} (tells : S → Bool) (left : S → List ℕ) (limits : LimitSettings) where
  tell_split : (xs ys xs' ys' : List S) → length xs' ≡ length xs → map tells (xs' ++ ys') ≡ map tells (xs ++ ys) → (map tells xs' ≡ map tells xs) × (map tells ys' ≡ map tells ys)
  tell_split [] ys [] ys' same tell = (refl, tell)
  tell_split [] ys (x' ∷ xs') ys' same tell = absurd (omega (arith, same))
  tell_split (x ∷ xs) ys [] ys' same tell = absurd (omega (arith, same))
  tell_split (x ∷ xs) ys (x' ∷ xs') ys' same tell =
      let first : tells x' ≡ tells x = cc tell in
      let rest : map tells (xs' ++ ys') ≡ map tells (xs ++ ys) = cc tell in
      let more = tell_split xs ys xs' ys' (omega (arith, same)) rest in
      ((λ i. first i ∷ more.0 i), more.1)

  whole_among : (most : ℕ) (ts : List (Turn S)) → AllByRecursion (IsReadInTurn tells left most) ts → AllByRecursion (λ s. tells s ≡ true) (flat_map (λ t. t.sources) ts)
      → map tells (flat_map (λ t. t.now) ts) ≡ map tells (flat_map (λ t. t.sources) ts)
      → AllByRecursion (λ f. Among (chunkings left limits (flat_map (λ t. t.sources) ts)) (chunking limits f)) (whole_files ts)
  whole_among most [] turns all tell = tt
  whole_among most (t ∷ ts) turns all tell =
      let rest : List S = flat_map (λ (u : Turn S). u.sources) ts in
      let rest_now : List S = flat_map (λ (u : Turn S). u.now) ts in
      let both = tell_split t.sources rest t.now rest_now turns.0.same tell in
      let is : List ℕ → Type 0 = λ f. Among (chunkings left limits (t.sources ++ rest)) (chunking limits f) in
      all_both is (take t.done t.files) (whole_files ts)
      (all_more (λ (f : List ℕ). Among (chunkings left limits t.sources) (chunking limits f)) is (take t.done t.files) (λ f a. among_first (λ (s : S). chunking limits (left s)) t.sources rest (chunking limits f) a)
      (taken_among tells left limits t.done t.done (omega arith) t.sources t.now t.files turns.0.taken (all_prefix (λ s. tells s ≡ true) t.sources rest all) both.0 turns.0.read.read))
      (all_more (λ (f : List ℕ). Among (chunkings left limits rest) (chunking limits f)) is (whole_files ts) (λ f a. among_after (λ (s : S). chunking limits (left s)) t.sources rest (chunking limits f) a)
      (whole_among most ts turns.1 (all_back (λ s. tells s ≡ true) t.sources rest all) both.1))

-- ---- all of it

module _ {S : Type 0} (workers : ℕ) (tells : S → Bool) (left : S → List ℕ) (sources now : List S) (old new : RecordedState) (sound : Sound new.store) (steps : Steps old new (entries_since old new)) (tell : map tells now ≡ map tells sources) where
  abbrev limits : LimitSettings
  limits = old.store.limits

  abbrev entries : List Entry
  entries = entries_since old new

  kept_adds : (files : List (List ℕ)) → AreRecords Compute old.store.limits files (files_in (entries_since old new)) → Adds old.store.records new.store.records (map (λ f. (info_of old.store.limits f).hash) files)
  kept_adds files are =
      let hashes : List (List ℕ) = map (λ (f : List ℕ). (info_of old.store.limits f).hash) files in
      let rows : HasRows hashes old.store.records (after_all (core_of old) entries).records =
      rows_after_all hashes (core_of old) entries (all_more (RecordsFile Compute limits files) (RecordsHash hashes) entries (hash_of_file Compute limits files) (only_files Compute limits files entries are)) in
      rows_add hashes old.store.records new.store.records (subst (λ (c : Core). HasRows hashes old.store.records c.records) (sym steps.moves.leads) rows) sound.records_differ

  pub bounded_by : (parts : List (Turn S)) → length parts ≤ workers → sources ≡ flat_map (λ t. t.sources) parts → now ≡ flat_map (λ t. t.now) parts → AllByRecursion (IsReadInTurn tells left old.store.limits.max_source_bytes) parts
      → EachTaken tells left sources now (taken_files parts) → length (entries_since old new) ≤ most_for old.store.limits (taken_files parts) → AllByRecursion (RecordsFile Compute old.store.limits (whole_files parts)) (entries_since old new)
      → AllByRecursion (λ e. pass_of e ≤ workers) (entries_since old new) → (last : List (List ℕ × ℕ)) → ClosesLast last (calls_since old new)
      → (AllByRecursion (λ s. tells s ≡ true) sources → AllByRecursion (RegistersOf (chunkings left old.store.limits sources)) (entries_since old new)) → IsBoundedBy workers tells left sources now old new
  bounded_by parts few before after turns taken bound only passes last registers own =
      let whole : List (List ℕ) = whole_files parts in
      let kept = kept_files limits whole entries only in
      let plans = plans_since Compute old new entries steps.moves.leads kept.0 kept.2 in
      let same : map tells (flat_map (λ (t : Turn S). t.now) parts) ≡ map tells (flat_map (λ (t : Turn S). t.sources) parts) = sym (ap (map tells) after) ∙ tell ∙ ap (map tells) before in
      let is : List ℕ → Type 0 = λ f. Among (chunkings left limits sources) (chunking limits f) in
      record {
        parts = parts;
        few = few;
        before = before;
        after = after;
        turns = turns;
        taken = taken;
        bound = bound;
        passes = passes;
        recorded = kept.0;
        among = kept.1;
        records = kept.2;
        adds = kept_adds kept.0 kept.2;
        plans = plans;
        resolve = λ told all separate.
            let each : AllByRecursion is whole =
            subst (λ (ss : List S). AllByRecursion (λ f. Among (chunkings left limits ss) (chunking limits f)) whole) (sym before)
            (whole_among tells left limits limits.max_source_bytes parts turns (subst (AllByRecursion (λ s. tells s ≡ true)) before all) same) in
            plans_resolve limits new (chunkings left limits sources) sound (steps.keeps.tells ∙ told) separate kept.0
            (all_more (IsAmong whole) is kept.0 (λ f a. all_among is whole f each (to_among whole f a)) kept.1) plans;
        last = last;
        registers = registers;
        own = own;
      }

-- ---- nothing was taken

since_steps : (old new : RecordedState) → IsSince old new → Steps old new (entries_since old new)
since_steps old new is =
    subst (Steps old new) (sym (ap (drop (length old.history)) is.steps.moves.history ∙ drop_at old.history is.since (length old.history) refl)) is.steps

module _ {S : Type 0} (workers : ℕ) (some : 1 ≤ workers) (tells : S → Bool) (left : S → List ℕ) where
  pub bounded_untouched : (sources : List S) (old new : RecordedState) → IsSince old new → Sound new.store → new.history ≡ old.history → IsBoundedBy workers tells left sources sources old new
  bounded_untouched sources old new since sound same =
      let files : List (List ℕ) = map (λ (s : S). []) sources in
      let taken : EachTaken tells left sources sources files = taken_each tells left (λ s. 0) sources sources files (untouched tells left (λ s. 0) sources) in
      let none : entries_since old new ≡ [] = ap (drop (length old.history)) same ∙ drop_all (length old.history) old.history (omega arith) in
      let turn : Turn S = record { sources = sources; now = sources; files = files; done = 0 } in
      bounded_by workers tells left sources sources old new sound (since_steps old new since) refl (turn ∷ []) (omega (arith, some)) (sym (append-nil sources)) (sym (append-nil sources))
      (record { same = refl; taken = taken; within = omega arith; read = record { read = tt; short = tt }; untouched = refl }, tt)
      (subst (EachTaken tells left sources sources) (sym (append-nil files)) taken)
      (omega (arith, ap length none))
      (subst (AllByRecursion (RecordsFile Compute old.store.limits [])) (sym none) tt) (subst (AllByRecursion (λ e. pass_of e ≤ workers)) (sym none) tt) []
      (subst (λ (es : List Entry). ClosesLast [] (calls_in (numbered (length old.history) es))) (sym none) (closes_none [] tt))
      (λ every. subst (AllByRecursion (RegistersOf (chunkings left old.store.limits sources))) (sym none) tt)

  -- ---- the workers have ended

  module _ (faults : S → ℕ) (sources now : List S) (old : RecordedState) (seats : List SeatState) (passes : List Holder) (ended : HaveEnded tells left faults old 1 0 sources now seats)
      (there : map (λ s. s.pass) seats ≡ map Some passes) (few : length seats ≤ workers) (count : length passes ≤ workers) (tell : map tells now ≡ map tells sources) where
    pub bounded_closed : (new : RecordedState) → IsSince old new → Sound new.store → AllByRecursion IsSeen passes → AllByRecursion (λ p. IsPrefix (seen p) new.history) passes
        → HasEachOnce (length old.history) (length new.history) (own_numbers passes) → IsBoundedBy workers tells left sources now old new
    bounded_closed new since sound known prefix once =
        let are : AreBounded tells left old.store.limits (length seats) (entries_for passes seats) passes sources now = all_bounded tells left faults old 1 0 sources now seats passes ended there in
        let passed : HavePassed old 1 passes = all_passed tells left faults old 1 0 sources now seats passes ended there in
        let same : length now ≡ length sources = sym (length-map now tells) ∙ ap length tell ∙ length-map sources tells in
        bounded_by workers tells left sources now old new sound (since_steps old new since) tell are.parts (omega (arith, are.counted, few)) are.before are.after (are.turns same) (are.taken same)
        (omega (arith, passed_count old new 1 passes passed known prefix once, are.few))
        (only_since old new passes passed known prefix once old.store.limits (whole_files are.parts) are.only) (passes_since old new passes passed known prefix once workers count) []
        (closes_none (calls_since old new) (nexts_since old new passes passed known prefix once are.nexts))
        (λ every. registers_since old new passes passed known prefix once (chunkings left old.store.limits sources) (are.of_sources every))

-- ---- all sources were cleaned, and then the parts were not merged

-- the bytes of the files of all parts
abbrev pub bytes_of : List Part → List (List ℕ)
bytes_of ps = map (λ f. f.bytes) (files_of ps)

module _ (old : RecordedState) where
  bytes_next : (p : Part) (ps : List Part) → bytes_of (p ∷ ps) ≡ map (λ f. f.bytes) p.files ++ bytes_of ps
  bytes_next p ps = map-append (λ (f : Planned). f.bytes) p.files (files_of ps)

  part_only : (n : ℕ) (w : Worked) (p : Part) → IsPartBy old n w p → AllByRecursion (IsRecordAmong Compute old.store.limits (map (λ f. f.bytes) p.files)) (recorded_in w.pass.own)
  part_only n w p is =
      let s : LimitSettings = old.store.limits in
      let bytes : List (List ℕ) = map (λ (f : Planned). f.bytes) p.files in
      let recorded : List MDBFileInfo = recorded_in is.working.follows.own in
      let waiting : List MDBFileInfo = map (λ q. q.0) p.left.files in
      subst (λ (l : List (ℕ × Entry)). AllByRecursion (IsRecordAmong Compute s bytes) (recorded_in l)) (own_is old n w p is)
      (all_prefix (IsRecordAmong Compute s bytes) recorded waiting
      (each_record Compute s bytes (recorded ++ waiting) (are_records Compute s p.files (recorded ++ waiting) (part_leaves old n w p is) is.policies is.working.records)))

  all_only : (n : ℕ) (ws : List Worked) (ps : List Part) → ArePartsBy old n ws ps → AllByRecursion (λ h. AllByRecursion (IsRecordAmong Compute old.store.limits (bytes_of ps)) (recorded_in h.own)) (passes_of ws)
  all_only n [] [] are = tt
  all_only n (w ∷ ws) (p ∷ ps) are =
      let s : LimitSettings = old.store.limits in
      let first : List (List ℕ) = map (λ (f : Planned). f.bytes) p.files in
      let rest : List (List ℕ) = bytes_of ps in
      subst (λ (files : List (List ℕ)). AllByRecursion (λ (h : Holder). AllByRecursion (IsRecordAmong Compute s files) (recorded_in h.own)) (passes_of (w ∷ ws))) (sym (bytes_next p ps)) (
        all_more (IsRecordAmong Compute s first) (IsRecordAmong Compute s (first ++ rest)) (recorded_in w.pass.own) (λ r is. (is.0, among_left first rest is.0 is.1, is.2)) (part_only n w p are.0),
        all_more (λ (h : Holder). AllByRecursion (IsRecordAmong Compute s rest) (recorded_in h.own)) (λ (h : Holder). AllByRecursion (IsRecordAmong Compute s (first ++ rest)) (recorded_in h.own)) (passes_of ws)
            (λ h all. all_more (IsRecordAmong Compute s rest) (IsRecordAmong Compute s (first ++ rest)) (recorded_in h.own) (λ r is. (is.0, among_right first rest is.0 is.1, is.2)) all) (all_only (suc n) ws ps are.1),
      )
  all_only n ws ps are = absurd are

  all_nexts : (n : ℕ) (ws : List Worked) (ps : List Part) → ArePartsBy old n ws ps → AllByRecursion (λ h. AllByRecursion HasNext (calls_in h.own)) (passes_of ws)
  all_nexts n [] [] are = tt
  all_nexts n (w ∷ ws) (p ∷ ps) are = (
    subst (λ (l : List (ℕ × Entry)). AllByRecursion HasNext (calls_in l)) (own_is old n w p are.0) (lands_nexts (map chunk_leaf p.left.chunks) (calls_in are.0.working.follows.own) are.0.working.lands),
    all_nexts (suc n) ws ps are.1,
  )
  all_nexts n ws ps are = absurd are

  -- the chunks that the passes registered are those of the files
  abbrev all_leaves_of : List Planned → List (List ℕ × ℕ)
  all_leaves_of fs = flat_map (λ (f : Planned). f.plan.leaves) fs

  all_owned : (n : ℕ) (ws : List Worked) (ps : List Part) → ArePartsBy old n ws ps
      → AllByRecursion (λ h. AllByRecursion (Among (flat_map (λ f. f.plan.leaves) (files_of ps))) (registered_leaves (calls_in h.own))) (passes_of ws)
  all_owned n [] [] are = tt
  all_owned n (w ∷ ws) (p ∷ ps) are =
      let first : List (List ℕ × ℕ) = all_leaves_of p.files in
      let rest : List (List ℕ × ℕ) = all_leaves_of (files_of ps) in
      let own : AllByRecursion (Among (all_leaves_of p.files)) (registered_leaves (calls_in w.pass.own)) =
      subst (λ (l : List (ℕ × Entry)). AllByRecursion (Among (all_leaves_of p.files)) (registered_leaves (calls_in l))) (own_is old n w p are.0)
      (all_prefix (Among first) (registered_leaves (calls_in are.0.working.follows.own)) (map chunk_leaf p.left.chunks) are.0.working.own) in
      subst (λ (ls : List (List ℕ × ℕ)). AllByRecursion (λ (h : Holder). AllByRecursion (Among ls) (registered_leaves (calls_in h.own))) (passes_of (w ∷ ws))) (sym (flat_map-append (λ (f : Planned). f.plan.leaves) p.files (files_of ps))) (
        in_more first rest (registered_leaves (calls_in w.pass.own)) own,
        all_more (λ (h : Holder). AllByRecursion (Among rest) (registered_leaves (calls_in h.own))) (λ (h : Holder). AllByRecursion (Among (first ++ rest)) (registered_leaves (calls_in h.own))) (passes_of ws)
            (λ h all. in_after first rest (registered_leaves (calls_in h.own)) all) (all_owned (suc n) ws ps are.1),
      )
  all_owned n ws ps are = absurd are

  part_most : (n : ℕ) (w : Worked) (p : Part) → IsPartBy old n w p → length w.pass.own + (2 * length p.left.chunks + 2 * length p.left.files) ≤ most_for old.store.limits (map (λ f. f.bytes) p.files)
  part_most n w p is =
      subst (λ (s : LimitSettings). length w.pass.own + (2 * length p.left.chunks + 2 * length p.left.files) ≤ most_for s (map (λ (f : Planned). f.bytes) p.files)) (start_limits old n w p is)
      (omega (arith, is.working.bound, ap length (own_is old n w p is), chunks_sum p.start p.end is.working.follows p.files is.working.planned, length-map p.files (λ (f : Planned). f.bytes)))

  all_most : (n : ℕ) (ws : List Worked) (ps : List Part) → ArePartsBy old n ws ps
      → sum_by (λ h. length h.own) (passes_of ws) + sum_by (λ p. 2 * length p.left.chunks + 2 * length p.left.files) ps ≤ most_for old.store.limits (bytes_of ps)
  all_most n [] [] are = omega arith
  all_most n (w ∷ ws) (p ∷ ps) are =
      subst (λ (files : List (List ℕ)). sum_by (λ (h : Holder). length h.own) (passes_of (w ∷ ws)) + sum_by (λ (q : Part). 2 * length q.left.chunks + 2 * length q.left.files) (p ∷ ps) ≤ most_for old.store.limits files) (sym (bytes_next p ps))
      (omega (
        arith,
        part_most n w p are.0,
        all_most (suc n) ws ps are.1,
        sum_by-cons (λ (h : Holder). length h.own) w.pass (passes_of ws),
        sum_by-cons (λ (q : Part). 2 * length q.left.chunks + 2 * length q.left.files) p ps,
        most_both old.store.limits (map (λ (f : Planned). f.bytes) p.files) (bytes_of ps),
      ))
  all_most n ws ps are = absurd are

  left_sum : (n : ℕ) (passes : List Holder) (workings : List Working) (ps : List Part) → ArePartsBy old n (all_worked passes workings) ps → length workings ≡ length passes
      → sum_by (λ w. 2 * length w.aggregate.chunks + 2 * length w.aggregate.files) workings ≡ sum_by (λ p. 2 * length p.left.chunks + 2 * length p.left.files) ps
  left_sum n [] [] [] are same = refl
  left_sum n [] [] (p ∷ ps) are same = absurd are
  left_sum n [] (w ∷ ws) ps are same = absurd (omega (arith, same))
  left_sum n (h ∷ hs) [] ps are same = absurd (omega (arith, same))
  left_sum n (h ∷ hs) (w ∷ ws) [] are same = absurd are
  left_sum n (h ∷ hs) (w ∷ ws) (p ∷ ps) are same =
      omega (
        arith,
        ap (λ (a : Aggregate). 2 * length a.chunks + 2 * length a.files) are.0.left,
        left_sum (suc n) hs ws ps are.1 (omega (arith, same)),
        sum_by-cons (λ (v : Working). 2 * length v.aggregate.chunks + 2 * length v.aggregate.files) w ws,
        sum_by-cons (λ (q : Part). 2 * length q.left.chunks + 2 * length q.left.files) p ps,
      )

-- the record of one of these files is that of its bytes
record_among : (s : LimitSettings) (files : List Planned) → AllByRecursion (λ f. f.plan.leaves ≡ leaves_in s f.bytes) files → AllByRecursion (λ f. f.policy ≡ Compute) files → (r : MDBFileInfo) → Any (λ f. IsRecordOf f r) files
    → IsRecordAmong Compute s (map (λ f. f.bytes) files) r
record_among s files leaves policies r any =
    let f : Planned = any.1 in
    let there : Among files f = to_among files f (any.0, (any.2, sym any.3)) in
    let is : IsRecordOf f r = any.4 in
    let of_leaves : f.plan.leaves ≡ leaves_in s f.bytes = all_among (λ (g : Planned). g.plan.leaves ≡ leaves_in s g.bytes) files f leaves there in
    let of_policy : f.policy ≡ Compute = all_among (λ (g : Planned). g.policy ≡ Compute) files f policies there in (
      f.bytes,
      from_among (map (λ (g : Planned). g.bytes) files) f.bytes (among_made (λ (g : Planned). g.bytes) files f there),
      record { some = is.some; segments = is.segments; is = is.is ∙ (λ i. file_record (of_leaves i) is.segments (sha256_by (of_policy i) f.bytes)) },
    )

module _ {S : Type 0} (workers : ℕ) (some : 1 ≤ workers) (tells : S → Bool) (left : S → List ℕ) (faults : S → ℕ) (sources now : List S) (old new : RecordedState) (passes : List Holder) (workings : List Working) (ps : List Part)
    (are : ArePartsBy old 1 (all_worked passes workings) ps) (done : AreDone tells left faults old.store.limits.max_source_bytes sources now (files_of ps)) (error : StoreError)
    (n : HasNotMerged old new passes ps workings error) (same_passes : passes_of (all_worked passes workings) ≡ passes) (count : length passes ≤ workers) (same_workings : length workings ≡ length passes)
    (sound : Sound new.store) (tell : map tells now ≡ map tells sources) where
  abbrev ws : List Worked
  ws = all_worked passes workings

  abbrev files : List (List ℕ)
  files = bytes_of ps

  abbrev all : Follows (alone_of n.mid n.mid false) (alone_of n.mid new n.refused.stopped)
  all = n.refused.refused.all

  passed : HavePassed old 1 passes
  passed = subst (HavePassed old 1) same_passes (parts_passed old 1 ws ps are)

  only_mid : AllByRecursion (RecordsFile Compute old.store.limits (bytes_of ps)) (entries_since old n.mid)
  only_mid =
      only_since old n.mid passes passed n.closed.known n.closed.seen n.closed.own old.store.limits files
      (subst (AllByRecursion (λ h. AllByRecursion (IsRecordAmong Compute old.store.limits files) (recorded_in h.own))) same_passes (all_only old 1 ws ps are))

  only_last : AllByRecursion (RecordsFile Compute old.store.limits (bytes_of ps)) (entries_since n.mid new)
  only_last =
      record_files Compute old.store.limits files (entries_since n.mid new)
      (subst (AllByRecursion (IsRecordAmong Compute old.store.limits files)) (records_since n.mid new n.refused.stopped all)
      (all_more (λ r. Any (λ f. IsRecordOf f r) (files_of ps)) (IsRecordAmong Compute old.store.limits files) (recorded_in all.own)
      (record_among old.store.limits (files_of ps) (files_leaves old 1 ws ps are) (files_policies old 1 ws ps are)) n.refused.refused.records))

  both : entries_since old new ≡ entries_since old n.mid ++ entries_since n.mid new
  both = both_since old n.mid new n.refused.stopped n.closed.since n.refused.alone

  own_last : n.refused.refused.all.own ≡ numbered (length n.mid.history) (entries_since n.mid new)
  own_last = own_since n.mid new n.refused.stopped all

  calls : calls_since old new ≡ calls_since old n.mid ++ calls_in n.refused.refused.all.own
  calls =
      ap calls_in (numbered_all old n.mid new n.refused.stopped n.closed.since n.refused.alone)
      ∙ calls_in-append (numbered (length old.history) (entries_since old n.mid)) (numbered (length n.mid.history) (entries_since n.mid new))
      ∙ ap (λ (l : List (ℕ × Entry)). calls_since old n.mid ++ calls_in l) (sym own_last)

  nexts_mid : AllByRecursion HasNext (calls_since old n.mid)
  nexts_mid =
      nexts_since old n.mid passes passed n.closed.known n.closed.seen n.closed.own (subst (AllByRecursion (λ h. AllByRecursion HasNext (calls_in h.own))) same_passes (all_nexts old 1 ws ps are))

  -- the chunks that were registered
  own_all : AllByRecursion (λ s. tells s ≡ true) sources → AllByRecursion (RegistersOf (chunkings left old.store.limits sources)) (entries_since old new)
  own_all every =
      let chunks : List (List (List ℕ)) = chunkings left old.store.limits sources in
      let same : flat_map (λ f. f.plan.leaves) (files_of ps) ≡ flat_map leaves_of (chunkings left old.store.limits sources) =
      planned_left tells left old.store.limits sources (files_of ps) (done_told tells left faults old.store.limits.max_source_bytes sources now (files_of ps) done) every (files_leaves old 1 ws ps are) in
      let mid : AllByRecursion (RegistersOf (chunkings left old.store.limits sources)) (entries_since old n.mid) =
      registers_since old n.mid passes passed n.closed.known n.closed.seen n.closed.own chunks
      (subst (AllByRecursion (λ (h : Holder). AllByRecursion (Among (flat_map leaves_of (chunkings left old.store.limits sources))) (registered_leaves (calls_in h.own)))) same_passes
      (subst (λ (ls : List (List ℕ × ℕ)). AllByRecursion (λ (h : Holder). AllByRecursion (Among ls) (registered_leaves (calls_in h.own))) (passes_of ws)) same (all_owned old 1 ws ps are))) in
      let last : AllByRecursion (RegistersOf (chunkings left old.store.limits sources)) (entries_since n.mid new) =
      entries_of chunks (length n.mid.history) (entries_since n.mid new)
      (subst (λ (l : List (ℕ × Entry)). AllByRecursion (Among (flat_map leaves_of (chunkings left old.store.limits sources))) (registered_leaves (calls_in l))) own_last
      (subst (λ (ls : List (List ℕ × ℕ)). AllByRecursion (Among ls) (registered_leaves (calls_in n.refused.refused.all.own))) same n.refused.refused.own)) in
      subst (AllByRecursion (RegistersOf (chunkings left old.store.limits sources))) (sym both) (all_both (RegistersOf chunks) (entries_since old n.mid) (entries_since n.mid new) mid last)

  passes_all : AllByRecursion (λ e. pass_of e ≤ workers) (entries_since old new)
  passes_all =
      subst (AllByRecursion (λ e. pass_of e ≤ workers)) (sym both)
      (all_both (λ e. pass_of e ≤ workers) (entries_since old n.mid) (entries_since n.mid new) (passes_since old n.mid passes passed n.closed.known n.closed.seen n.closed.own workers count)
      (subst (AllByRecursion (λ e. pass_of e ≤ workers)) (sym (last_since old n.mid new n.refused.stopped n.closed.since n.refused.alone))
      (all_more (λ e. pass_of e ≡ 0) (λ e. pass_of e ≤ workers) n.refused.alone.since (λ e is. omega (arith, is)) (alone_of_pass n.mid new n.refused.stopped n.refused.alone))))

  bound : length (entries_since old new) ≤ most_for old.store.limits (bytes_of ps)
  bound =
      let first : length (entries_since old n.mid) ≡ sum_by (λ h. length h.own) passes = passed_count old n.mid 1 passes passed n.closed.known n.closed.seen n.closed.own in
      let most = n.refused.few in
      let last : length most.follows.own ≡ length (entries_since n.mid new) =
      ap length (own_since n.mid new n.refused.stopped most.follows) ∙ length-numbered (length n.mid.history) (entries_since n.mid new) in
      let own : sum_by (λ h. length h.own) (passes_of ws) ≡ sum_by (λ h. length h.own) passes = ap (sum_by (λ (h : Holder). length h.own)) same_passes in
      omega (
        arith,
        ap length both,
        length-append (entries_since old n.mid) (entries_since n.mid new),
        first,
        last,
        most.few,
        own,
        left_sum old 1 passes workings ps are same_workings,
        all_most old 1 ws ps are,
      )

  pub bounded_unmerged : IsBoundedBy workers tells left sources now old new
  bounded_unmerged =
      let most : ℕ = old.store.limits.max_source_bytes in
      let turn : Turn S = record { sources = sources; now = now; files = files; done = length sources } in
      let taken : EachTaken tells left sources now files = done_taken tells left faults most sources now (files_of ps) done in
      let read : IsReadInTurn tells left most turn = done_turn tells left faults most sources now (files_of ps) done in
      let whole : take (length sources) files ++ [] ≡ files = append-nil (take (length sources) files) ∙ take_all (length sources) files (omega (arith, (done_counts tells left faults most sources now (files_of ps) done).0, length-map (files_of ps) (λ (f : Planned). f.bytes))) in
      bounded_by workers tells left sources now old new sound (steps_all old n.mid new n.refused.stopped n.closed.since n.refused.alone) tell (turn ∷ []) (omega (arith, some)) (sym (append-nil sources)) (sym (append-nil now)) (read, tt)
      (subst (EachTaken tells left sources now) (sym (append-nil files)) taken)
      (subst (λ (fs : List (List ℕ)). length (entries_since old new) ≤ most_for old.store.limits fs) (sym (append-nil files)) bound)
      (subst (λ (fs : List (List ℕ)). AllByRecursion (RecordsFile Compute old.store.limits fs) (entries_since old new)) (sym whole)
      (subst (AllByRecursion (RecordsFile Compute old.store.limits files)) (sym both) (all_both (RecordsFile Compute old.store.limits files) (entries_since old n.mid) (entries_since n.mid new) only_mid only_last)))
      passes_all n.refused.refused.last
      (subst (ClosesLast n.refused.refused.last) (sym calls) (closes_then n.refused.refused.last (calls_since old n.mid) (calls_in n.refused.refused.all.own) nexts_mid n.refused.refused.registers))
      own_all
