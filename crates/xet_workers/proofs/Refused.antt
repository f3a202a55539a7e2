-- All that is promised where workers did not clean all sources.
use Rattle.std.proofs.Common.{◌≡◌, ◌∙◌, ◌⊎◌, inl, inr, ℕ, ◌+◌, ◌≤◌, Bool, true, false, List, [], ◌++◌, length, map, Some, Err, sym, ap, subst, arith}
use Rattle.std.proofs.lemmas.Bool.{false≢true}
use Rattle.std.specs.Prelude.{Any}
use Rattle.std.specs.List.{AllByRecursion, IsAmong}
use mathlib.Core.List.{IsPrefix}
use Rattle.xet_base.specs.theorems.Elements.{all_back, all_prefix}
use Rattle.xet_clean.specs.Cleaning.{AreApartUnder, HasReason, NoneEnds, entries_since}
use Rattle.xet_clean.specs.Closing.{IsClosingError, RegistersChunks, filled_files}
use Rattle.xet_clean.specs.Files.{leaves_in}
use Rattle.xet_clean.specs.Merging.{IsUnmerged, Part, files_of}
use Rattle.xet_clean.specs.Sources.{AreDone, IsLoopError, IsUnclosedFor}
use Rattle.xet_clean.specs.Working.{Planned}
use Rattle.xet_clean.specs.declared.working.Working.{Working}
use Rattle.xet_clean.specs.theorems.Choosing.{unnumbered}
use Rattle.xet_clean.specs.theorems.Hashes.{all_leaves}
use Rattle.xet_clean.specs.theorems.Session.{core_is, since_is}
use Rattle.xet_clean.specs.theorems.Turns.{done_told}
use Rattle.xet_cut.specs.Chunking.{chunking}
use Rattle.xet_cut.specs.declared.limits.LimitSettings.{LimitSettings}
use Rattle.xet_hash.specs.declared.error.Place.TheVariants.{Disk, Source}
use Rattle.xet_hash.specs.declared.error.Reason.TheVariants.{OtherFileHash}
use Rattle.xet_hash.specs.declared.error.StoreError.{StoreError}
use Rattle.xet_hash.specs.declared.error.StoreError.TheVariants.{Io, MalformedData, OutOfMemory, TooLarge}
use Rattle.xet_hash.specs.declared.error.What.TheVariants as what
use Rattle.xet_history.specs.History.{after_all}
use Rattle.xet_history.specs.declared.entry.Entry.{Entry}
use Rattle.xet_history.specs.declared.entry.Entry.TheVariants.{Fault}
use Rattle.xet_io.specs.Faults.{Rose}
use Rattle.xet_locked_session.specs.Session.{fault_count}
use Rattle.xet_locked_session.specs.Passing.{passing_of}
use Rattle.xet_store.specs.Alone.{IsFault, alone_of}
use Rattle.xet_store.specs.Interface.{HasFault, IsErrorSince}
use Rattle.xet_store.specs.Holders.{Holder, core_at, numbered, seen}
use Rattle.xet_store.specs.Recorded.{IsRecorded, RecordedState, core_of}
use Rattle.xet_store_disk.specs.Cleaning.{AreTaken, IsLongAt, Keeps, Later, RoseAt, chunkings}
use Rattle.xet_store_disk.specs.Separate.{Among}
use Rattle.xet_store_disk.specs.Store.{Sound}
use Rattle.xet_store_disk.specs.theorems.Rows.{from_among, to_among}
use Rattle.xet_workers.specs.Cleaning.{GrowsBy, IsBoundedBy}
use Rattle.xet_workers.specs.Workers.{Worked, later_source}
use Rattle.xet_workers.specs.internal.Ending.{HasNotMerged, IsLeft, IsUnended, Promises}
use Rattle.xet_workers.specs.internal.Parts.{ArePartsBy}
use Rattle.xet_workers.proofs.Failing.{HasFailed, IsFailure}
use Rattle.xet_workers.proofs.Failures.{counted_fault}
use Rattle.xet_workers.proofs.Growing.{all_steps, grows_failed, grows_left, rose_left}
use Rattle.xet_workers.proofs.Joined.{files_leaves}
use Rattle.xet_workers.proofs.Reasons.{core_later, fault_since, full_later, long_after, long_first, rose_after, rose_first}
use Rattle.xet_workers.proofs.Refusing.{IsMetFile, among_after, among_first, among_told, met_each, none_unclosed}

-- what is promised of any error
refused_promises : {S : Type 0} (workers : ℕ) (tells : S → Bool) (left : S → List ℕ) (faults : S → ℕ) (sources now : List S) (old new : RecordedState) (e : StoreError) → Keeps old.store new.store → GrowsBy (Some e) old new
    → HasReason tells left faults sources now old new e → map tells now ≡ map tells sources → AreTaken tells left sources now → Later faults sources now → IsBoundedBy workers tells left sources now old new
    → Promises workers tells left faults sources now old new (Err e)
refused_promises workers tells left faults sources now old new e keeps grows reason tell taken later bound = record {
  infos = tt;
  read = tt;
  short = tt;
  files = λ observable all separate. tt;
  recorded = tt;
  cleaned = tt;
  keeps = keeps;
  steps = grows;
  adds = tt;
  tell = tell;
  taken = taken;
  later = later;
  reason = reason;
  bound = bound;
}

-- ---- memory is out

pub left_promises : {S : Type 0} (workers : ℕ) (tells : S → Bool) (left : S → List ℕ) (faults : S → ℕ) (sources now : List S) (old new : RecordedState) → IsLeft old new → Sound new.store → map tells now ≡ map tells sources
    → AreTaken tells left sources now → Later faults sources now → IsBoundedBy workers tells left sources now old new → Promises workers tells left faults sources now old new (Err OutOfMemory)
left_promises workers tells left faults sources now old new is sound tell taken later bound =
    refused_promises workers tells left faults sources now old new OutOfMemory is.since.steps.keeps (grows_left old new is OutOfMemory (λ e. absurd (cc e))) tt tell taken later bound

-- ---- a worker failed

module _ {S : Type 0} (tells : S → Bool) (left : S → List ℕ) (faults : S → ℕ) (sources now : List S) (old new : RecordedState) (pass : Holder) (is : IsLeft old new) (prefix : IsPrefix (seen pass) new.history)
    (sound : Sound new.store) (recorded : IsRecorded new) (error : StoreError) (f : HasFailed tells left faults old 0 sources now error pass) where
  limits_are : f.begun.limits ≡ old.store.limits
  limits_are = ap (λ (h : Holder). h.limits) f.passed.of.is

  tells_are : f.begun.tells ≡ old.store.tells
  tells_are = ap (λ (h : Holder). h.tells) f.passed.of.is

  -- a source of the part is one of all
  rose_in : (i : ℕ) → RoseAt faults f.part f.part_now i → RoseAt faults sources now (0 + length f.before + i)
  rose_in i rose =
      subst (λ (ss : List S). RoseAt faults ss now (0 + length f.before + i)) (sym f.order)
      (subst (λ (ts : List S). RoseAt faults (f.before ++ (f.part ++ f.after)) ts (0 + length f.before + i)) (sym f.order_now)
      (rose_after faults f.before f.before_now (f.part ++ f.after) (f.part_now ++ f.after_now) i (0 + length f.before + i) f.same (omega arith) (rose_first faults f.part f.part_now f.after f.after_now i rose)))

  long_in : (i : ℕ) → IsLongAt tells left f.part f.begun.limits.max_source_bytes i → IsLongAt tells left sources old.store.limits.max_source_bytes (0 + length f.before + i)
  long_in i long =
      subst (λ (l : LimitSettings). IsLongAt tells left sources l.max_source_bytes (0 + length f.before + i)) limits_are
      (subst (λ (ss : List S). IsLongAt tells left ss f.begun.limits.max_source_bytes (0 + length f.before + i)) (sym f.order)
      (long_after tells left f.begun.limits.max_source_bytes f.before (f.part ++ f.after) i (0 + length f.before + i) (omega arith) (long_first tells left f.begun.limits.max_source_bytes f.part f.after i long)))

  faults_are : HasFault (passing_of f.begun f.begun false) (passing_of f.begun pass f.stopped) → 1 ≤ fault_count is.since.since
  faults_are fault = fault_since old new is.since f.number f.begun pass f.stopped f.passed prefix fault

  -- no waiting record is refused
  none_refused : IsUnclosedFor tells left f.part (passing_of f.begun f.begun false) (passing_of f.begun pass f.stopped) (MalformedData OtherFileHash) → old.store.tells ≡ true → AllByRecursion (λ s. tells s ≡ true) sources
      → NoneEnds (chunkings left old.store.limits sources) → AreApartUnder new (chunkings left old.store.limits sources) → ⊥
  none_refused u told all none under =
      none_unclosed old.store.limits (chunkings left old.store.limits sources) new sound (is.since.steps.keeps.tells ∙ told) none under u.before (passing_of f.begun pass f.stopped) u.refused.0.1.follows
      (ap (λ (h : Holder). h.tells) u.follows.is ∙ tells_are ∙ told) prefix.0 (core_later old new is.since f.number f.begun pass f.stopped f.passed prefix) u.files met u.aggregate u.parts u.waits u.next u.refused
    where
      order : sources ≡ f.before ++ ((u.done ++ u.rest) ++ f.after)
      order = f.order ∙ ap (λ (ss : List S). f.before ++ (ss ++ f.after)) u.order

      all_done : AllByRecursion (λ s. tells s ≡ true) u.done
      all_done =
          all_prefix (λ s. tells s ≡ true) u.done u.rest (all_prefix (λ s. tells s ≡ true) (u.done ++ u.rest) f.after
          (all_back (λ s. tells s ≡ true) f.before ((u.done ++ u.rest) ++ f.after) (subst (AllByRecursion (λ s. tells s ≡ true)) order all)))

      among : (g : Planned) → Among u.files g → Among (chunkings left old.store.limits sources) (chunking old.store.limits g.bytes)
      among g a =
          let limits : LimitSettings = old.store.limits in
          let chunks : List (List ℕ) = chunking old.store.limits g.bytes in
          subst (λ (ss : List S). Among (chunkings left old.store.limits ss) (chunking old.store.limits g.bytes)) (sym order)
          (among_after (λ (s : S). chunking limits (left s)) f.before ((u.done ++ u.rest) ++ f.after) chunks
          (among_first (λ (s : S). chunking limits (left s)) (u.done ++ u.rest) f.after chunks
          (among_first (λ (s : S). chunking limits (left s)) u.done u.rest chunks (among_told tells left limits u.done u.files u.told all_done g a))))

      leaves : AllByRecursion (λ g. g.plan.leaves ≡ leaves_in old.store.limits g.bytes) u.files
      leaves =
          subst (λ (s : LimitSettings). AllByRecursion (λ (g : Planned). g.plan.leaves ≡ leaves_in s g.bytes) u.files) limits_are
          (all_leaves (passing_of f.begun f.begun false) u.before u.follows u.files u.planned)

      met : AllByRecursion (IsMetFile old.store.limits (chunkings left old.store.limits sources)) u.files
      met = met_each old.store.limits (chunkings left old.store.limits sources) u.files leaves among

  reason_of : (cause : StoreError) → IsLoopError tells left faults f.part f.part_now (passing_of f.begun f.begun false) (passing_of f.begun pass f.stopped) cause
      → HasReason tells left faults sources now old new (later_source (0 + length f.before) cause)
  reason_of (Io (Source i)) why = rose_in i why.0
  reason_of (Io Disk) why = rose_left old new is.since (counted_fault is.since.since (faults_are why))
  reason_of (TooLarge (what.Source i)) why = long_in i why.0
  reason_of (TooLarge what.Shards) why =
      full_later new (core_at (passing_of f.begun pass f.stopped)) prefix.0 recorded (core_later old new is.since f.number f.begun pass f.stopped f.passed prefix) why
  reason_of (MalformedData OtherFileHash) why = λ told all none under. none_refused why told all none under
  reason_of (MalformedData reason) why = λ told all none under. false≢true (sym why ∙ tells_are ∙ told)
  reason_of OutOfMemory why = tt
  reason_of e why = absurd why

  -- the error is that of the disk only if the pass has the entry of its failure
  disk_of : (cause : StoreError) → IsLoopError tells left faults f.part f.part_now (passing_of f.begun f.begun false) (passing_of f.begun pass f.stopped) cause
      → later_source (0 + length f.before) cause ≡ Io Disk → 1 ≤ fault_count is.since.since
  disk_of (Io (Source i)) why same = absurd (cc same)
  disk_of (Io Disk) why same = faults_are why
  disk_of (TooLarge (what.Source i)) why same = absurd (cc same)
  disk_of (TooLarge what.Shards) why same = absurd (cc same)
  disk_of (MalformedData reason) why same = absurd (cc same)
  disk_of OutOfMemory why same = absurd (cc same)
  disk_of e why same = absurd why

  failed_reason : HasReason tells left faults sources now old new error
  failed_reason = subst (HasReason tells left faults sources now old new) (sym f.named) (reason_of f.cause f.why)

  failed_grows : GrowsBy (Some error) old new
  failed_grows = grows_left old new is error (λ e. disk_of f.cause f.why (sym f.named ∙ e))

pub failed_promises : {S : Type 0} (workers : ℕ) (tells : S → Bool) (left : S → List ℕ) (faults : S → ℕ) (sources now : List S) (old new : RecordedState) → IsLeft old new → (error : StoreError)
    → IsFailure tells left faults old new.history 0 sources now error → Sound new.store → IsRecorded new → map tells now ≡ map tells sources → AreTaken tells left sources now → Later faults sources now
    → IsBoundedBy workers tells left sources now old new → Promises workers tells left faults sources now old new (Err error)
failed_promises workers tells left faults sources now old new is error why sound recorded tell taken later bound =
    refused_promises workers tells left faults sources now old new error is.since.steps.keeps (failed_grows tells left faults sources now old new why.pass is why.seen sound recorded error why.failed)
    (failed_reason tells left faults sources now old new why.pass is why.seen sound recorded error why.failed) tell taken later bound

-- ---- the parts were not merged

-- a step failed, or a file was refused
unclosed_cases : (mid new : RecordedState) (stopped : Bool) (ps : List Part) (e : StoreError) (m : IsUnmerged ps (alone_of mid mid false) (alone_of mid new stopped) e)
    → ((h : Holder) × IsErrorSince h (alone_of mid new stopped) e) ⊎ (e ≡ MalformedData OtherFileHash)
unclosed_cases mid new stopped ps e m = go m.refused.1
  where
    closing : (h : Holder) → IsClosingError (filled_files m.aggregate) h (alone_of mid new stopped) e → ((h : Holder) × IsErrorSince h (alone_of mid new stopped) e) ⊎ (e ≡ MalformedData OtherFileHash)
    closing h (inl refused) = inr refused.4.error
    closing h (inr is) = inl (h, is)

    go : ((h : Holder) × RegistersChunks m.aggregate m.next m.before h × IsClosingError (filled_files m.aggregate) h (alone_of mid new stopped) e) ⊎ IsErrorSince m.before (alone_of mid new stopped) e
        → ((h : Holder) × IsErrorSince h (alone_of mid new stopped) e) ⊎ (e ≡ MalformedData OtherFileHash)
    go (inl c) = closing c.0 c.2
    go (inr is) = inl (m.before, is)

module _ {S : Type 0} (tells : S → Bool) (left : S → List ℕ) (faults : S → ℕ) (sources now : List S) (old new : RecordedState) (ws : List Worked) (ps : List Part) (are : ArePartsBy old 1 ws ps)
    (done : AreDone tells left faults old.store.limits.max_source_bytes sources now (files_of ps)) (workings : List Working) (error : StoreError) (n : HasNotMerged old new (map (λ w. w.pass) ws) ps workings error) (sound : Sound new.store) (recorded : IsRecorded new) where
  keeps_all : Keeps old.store new.store
  keeps_all = (all_steps old n.mid new n.refused.stopped n.closed.since n.refused.alone).keeps

  -- the entry of the disk's failure
  fault_among : (h : Holder) → HasFault h (alone_of n.mid new n.refused.stopped) → Any IsFault n.refused.alone.since
  fault_among h f =
      let among : Among (entries_since n.mid new) (Fault 0 f.kind) =
      unnumbered (length n.mid.history) (entries_since n.mid new) f.number (Fault 0 f.kind) (to_among (numbered (length n.mid.history) (entries_since n.mid new)) (f.number, Fault 0 f.kind) f.among) in
      let there : IsAmong n.refused.alone.since (Fault 0 f.kind) =
      from_among n.refused.alone.since (Fault 0 f.kind) (subst (λ (es : List Entry). Among es (Fault 0 f.kind)) (since_is n.mid new n.refused.stopped n.refused.alone) among) in
      (there.0, Fault 0 f.kind, there.1.0, sym there.1.1, tt)

  rose_all : Any IsFault n.refused.alone.since → Rose old.store.faults new.store.faults
  rose_all any = omega (arith, n.refused.alone.rose any, n.closed.since.steps.keeps.later)

  core_last : core_of new ≡ after_all (core_at (alone_of n.mid new n.refused.stopped)) []
  core_last = core_is n.mid new n.refused.stopped n.refused.alone

  tells_mid : n.mid.store.tells ≡ old.store.tells
  tells_mid = n.closed.since.steps.keeps.tells

  -- no waiting record is refused
  unmerged_none : (u : IsUnmerged ps (alone_of n.mid n.mid false) (alone_of n.mid new n.refused.stopped) (MalformedData OtherFileHash)) → old.store.tells ≡ true → AllByRecursion (λ s. tells s ≡ true) sources
      → NoneEnds (chunkings left old.store.limits sources) → AreApartUnder new (chunkings left old.store.limits sources) → ⊥
  unmerged_none u told all none under =
      none_unclosed old.store.limits (chunkings left old.store.limits sources) new sound (keeps_all.tells ∙ told) none under u.before (alone_of n.mid new n.refused.stopped) u.refused.0.1.follows
      (ap (λ (h : Holder). h.tells) u.follows.is ∙ tells_mid ∙ told) [] core_last (files_of ps) met u.aggregate u.parts u.waits u.next u.refused
    where
      met : AllByRecursion (IsMetFile old.store.limits (chunkings left old.store.limits sources)) (files_of ps)
      met = met_each old.store.limits (chunkings left old.store.limits sources) (files_of ps) (files_leaves old 1 ws ps are)
          (among_told tells left old.store.limits sources (files_of ps) (done_told tells left faults old.store.limits.max_source_bytes sources now (files_of ps) done) all)

  reason_since : (e : StoreError) (h : Holder) → IsErrorSince h (alone_of n.mid new n.refused.stopped) e → HasReason tells left faults sources now old new e
  reason_since (Io Disk) h why = rose_all (fault_among h why)
  reason_since (TooLarge what.Shards) h why = full_later new (core_at (alone_of n.mid new n.refused.stopped)) [] recorded core_last why
  reason_since (MalformedData reason) h why = λ told all none under. false≢true (sym why ∙ tells_mid ∙ told)
  reason_since OutOfMemory h why = tt
  reason_since e h why = absurd why

  unmerged_reason : HasReason tells left faults sources now old new error
  unmerged_reason = go (unclosed_cases n.mid new n.refused.stopped ps error n.refused.refused)
    where
      go : ((h : Holder) × IsErrorSince h (alone_of n.mid new n.refused.stopped) error) ⊎ (error ≡ MalformedData OtherFileHash) → HasReason tells left faults sources now old new error
      go (inl since) = reason_since error since.0 since.1
      go (inr is) =
          let u : IsUnmerged ps (alone_of n.mid n.mid false) (alone_of n.mid new n.refused.stopped) (MalformedData OtherFileHash) =
          subst (λ (e : StoreError). IsUnmerged ps (alone_of n.mid n.mid false) (alone_of n.mid new n.refused.stopped) e) is n.refused.refused in
          subst (HasReason tells left faults sources now old new) (sym is) (λ told all none under. unmerged_none u told all none under)

  unmerged_disk : error ≡ Io Disk → Any IsFault n.refused.alone.since
  unmerged_disk is = go (unclosed_cases n.mid new n.refused.stopped ps error n.refused.refused)
    where
      go : ((h : Holder) × IsErrorSince h (alone_of n.mid new n.refused.stopped) error) ⊎ (error ≡ MalformedData OtherFileHash) → Any IsFault n.refused.alone.since
      go (inl since) = fault_among since.0 (subst (IsErrorSince since.0 (alone_of n.mid new n.refused.stopped)) is since.1)
      go (inr other) = absurd (cc (sym is ∙ other))

  unmerged_grows : GrowsBy (Some error) old new
  unmerged_grows = grows_failed old n.mid new n.refused.stopped n.closed.since n.refused.alone n.closed.made error unmerged_disk

pub unended_promises : {S : Type 0} (workers : ℕ) (tells : S → Bool) (left : S → List ℕ) (faults : S → ℕ) (sources now : List S) (old new : RecordedState) (ws : List Worked) (ps : List Part) → ArePartsBy old 1 ws ps
    → AreDone tells left faults old.store.limits.max_source_bytes sources now (files_of ps) → (workings : List Working) (e : StoreError) → IsUnended old new (map (λ w. w.pass) ws) ps workings e → Sound new.store → IsRecorded new
    → map tells now ≡ map tells sources → AreTaken tells left sources now → Later faults sources now → IsBoundedBy workers tells left sources now old new → Promises workers tells left faults sources now old new (Err e)
unended_promises workers tells left faults sources now old new ws ps are done workings e (inl n) sound recorded tell taken later bound =
    refused_promises workers tells left faults sources now old new e (keeps_all tells left faults sources now old new ws ps are done workings e n sound recorded)
    (unmerged_grows tells left faults sources now old new ws ps are done workings e n sound recorded) (unmerged_reason tells left faults sources now old new ws ps are done workings e n sound recorded) tell taken later bound
unended_promises workers tells left faults sources now old new ws ps are done workings e (inr out) sound recorded tell taken later bound =
    subst (λ (x : StoreError). Promises workers tells left faults sources now old new (Err x)) (sym out.0) (left_promises workers tells left faults sources now old new out.1.is sound tell taken later bound)
