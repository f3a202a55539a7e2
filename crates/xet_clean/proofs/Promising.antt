-- What `clean_files` promises, from what is known where the loop over the sources has ended.
use Rattle.std.proofs.Common.{Result, Ok, Err, IfOk, OnOk, ◌≡◌, ◌∙◌, ℕ, ◌≤◌, Bool, true, false, List, [], length, map, Some, IsSome, sym, ap, subst, arith}
use Rattle.std.proofs.lemmas.Bool.{false≢true}
use Rattle.std.proofs.lemmas.List.{length-map}
use Rattle.std.specs.Result.{IfErr, result_err}
use Rattle.std.specs.Prelude.{Any}
use Rattle.std.specs.List.{AllByRecursion, IsAmong}
use Rattle.xet_aggregate.specs.declared.metrics.DeduplicationMetrics.{DeduplicationMetrics}
use Rattle.xet_choices.specs.declared.choice.Choice.{Choice}
use Rattle.xet_folder.specs.Contents.{max_shards}
use Rattle.xet_hash.specs.declared.error.Place.TheVariants.{Disk, Source}
use Rattle.xet_hash.specs.declared.error.Reason.TheVariants.{OtherFileHash}
use Rattle.xet_hash.specs.declared.error.StoreError.{StoreError}
use Rattle.xet_hash.specs.declared.error.StoreError.TheVariants.{Io, MalformedData, OutOfMemory, TooLarge}
use Rattle.xet_hash.specs.declared.error.What.TheVariants as what
use Rattle.xet_history.specs.Core.{Core, RegisteredShard, has_pending}
use Rattle.xet_history.specs.declared.entry.Entry.{Entry}
use Rattle.xet_history.specs.declared.entry.Entry.TheVariants.{Fault}
use Rattle.xet_store.specs.Recorded.{IsRecorded, RecordedState, core_of}
use Rattle.xet_store_disk.specs.Cleaning.{Adds, EachTold, HasFile, Keeps, chunkings, info_of}
use Rattle.xet_store_disk.specs.Separate.{Among, Separate}
use Rattle.xet_store_disk.specs.Store.{Sound, plan_of}
use Rattle.xet_store_disk.specs.declared.info.XetFileInfo.{XetFileInfo}
use Rattle.xet_store_disk.specs.theorems.Files.{files_all, told_more}
use Rattle.xet_store_disk.specs.theorems.Rows.{from_among, to_among}
use Rattle.xet_store.specs.Alone.{AloneState, IsAlone, IsFault, alone_of}
use Rattle.xet_store.specs.Interface.{HasFault}
use Rattle.xet_store.specs.Holders.{Follows, Holder, core_at, numbered}
use Rattle.xet_clean.specs.Cleaning.{Grows, HasReason, IsBounded, IsCleaned, entries_since}
use Rattle.xet_clean.specs.Sources.{AreRead, IsLoopError, IsShort}
use Rattle.xet_clean.specs.Working.{EndsWith, Planned}
use Rattle.xet_clean.specs.theorems.Choosing.{unnumbered}
use Rattle.xet_clean.specs.theorems.Refusing.{none_refused}
use Rattle.xet_clean.specs.theorems.Session.{bounded_since, core_is, ended_adds, ended_cleaned, ended_grows, ended_infos, ended_recorded, grows_by, since_is, some_made}
use Rattle.xet_clean.specs.Policies.{info_by}
use Rattle.xet_clean.specs.declared.policy.Sha256Policy.{Sha256Policy}

-- ---- the result

module _ {S T : Type 0} (tells : S → Bool) (left : S → List ℕ) (faults : S → ℕ) (policy : Sha256Policy) (sources now : List S) (infos : T → List XetFileInfo) (choices : T → List (List Choice)) (metrics : T → DeduplicationMetrics) where
  -- what is known of a result where the loop has ended
  pub record IsResult (start last : Holder) (r : Result T StoreError) : Type 0 where
    pub ends : IfOk r (λ t. (files : List Planned) × EndsWith policy tells left sources start last files (infos t) (choices t) (metrics t))
    pub read : OnOk r (AreRead tells left start.limits.max_source_bytes sources now)
    pub short : IfErr r (IsShort policy tells left sources now start last)
    pub why : IfErr r (IsLoopError tells left faults sources now start last)

  -- all that is promised of it
  pub record Promises (old new : RecordedState) (r : Result T StoreError) : Type 0 where
    pub infos_are : IfOk r (λ t. EachTold tells left (λ bytes info. info ≡ info_by policy old.store.limits bytes) sources (infos t))
    pub read : OnOk r (AllByRecursion (λ s. tells s ≡ true → left s ≡ []) now)
    pub short : OnOk r (AllByRecursion (λ s. tells s ≡ true → length (left s) ≤ old.store.limits.max_source_bytes) sources)
    pub files : old.store.tells ≡ true → AllByRecursion (λ s. tells s ≡ true) sources → Separate new.store (chunkings left old.store.limits sources)
        → OnOk r (AllByRecursion (HasFile new.store) (chunkings left old.store.limits sources))
    pub plans : IfOk r (λ t. AllByRecursion (λ info. IsSome (plan_of new.store.records info.hash)) (infos t))
    pub cleaned : IfOk r (λ t. IsCleaned policy tells left sources old new (infos t) (choices t) (metrics t))
    pub keeps : Keeps old.store new.store
    pub steps : Grows (result_err r) old new
    pub adds : IfOk r (λ t. Adds old.store.records new.store.records (map (λ info. info.hash) (infos t)))
    pub bound : IfErr r (IsBounded policy tells left sources now old new)
    pub reason : IfErr r (HasReason tells left faults sources now old new)

module _ {S : Type 0} (tells : S → Bool) (left : S → List ℕ) (faults : S → ℕ) (sources now : List S) (old new : RecordedState) (stopped : Bool) (is : IsAlone old new stopped) (sound : Sound new.store)
    (recorded : IsRecorded new) where
  -- ---- errors

  -- the entry of the disk's failure
  fault_among : HasFault (alone_of old old false) (alone_of old new stopped) → Any IsFault is.since
  fault_among f =
      let e : Entry = Fault 0 f.kind in
      let among : Among (entries_since old new) (Fault 0 f.kind) =
      unnumbered (length old.history) (entries_since old new) f.number (Fault 0 f.kind) (to_among (numbered (length old.history) (entries_since old new)) (f.number, Fault 0 f.kind) f.among) in
      let there : IsAmong is.since (Fault 0 f.kind) = from_among is.since (Fault 0 f.kind) (subst (λ (es : List Entry). Among es (Fault 0 f.kind)) (since_is old new stopped is) among) in
      (there.0, Fault 0 f.kind, there.1.0, sym there.1.1, tt)

  -- no further shard can be registered
  shards_full : (max_shards ≤ length (core_at (alone_of old new stopped)).shards) × (has_pending (core_at (alone_of old new stopped)) ≡ true) → (max_shards ≤ length new.store.shards) × (has_pending (core_of new) ≡ true)
  shards_full full =
      let same = core_is old new stopped is in (
        omega (arith, full.0, ap (λ (c : Core). length c.shards) same, ap length recorded.shards.registered, length-map new.shards (λ (r : RegisteredShard). r.hash)),
        ap has_pending same ∙ full.1,
      )

  reason_of : (e : StoreError) → IsLoopError tells left faults sources now (alone_of old old false) (alone_of old new stopped) e → HasReason tells left faults sources now old new e
  reason_of (Io (Source i)) why = why.0
  reason_of (Io Disk) why = is.rose (fault_among why)
  reason_of (TooLarge (what.Source i)) why = why.0
  reason_of (TooLarge what.Shards) why = shards_full why
  reason_of (MalformedData OtherFileHash) why = λ told all none under. none_refused tells left sources old new stopped is sound told all none under why
  reason_of (MalformedData reason) why = λ told all none under. false≢true (sym why ∙ told)
  reason_of OutOfMemory why = tt
  reason_of e why = absurd why

  grows_of : (e : StoreError) → IsLoopError tells left faults sources now (alone_of old old false) (alone_of old new stopped) e → Grows (Some e) old new
  grows_of (Io (Source i)) why = grows_by old new stopped is (Some (Io (Source i))) (is.whole why.1)
  grows_of (Io Disk) why = grows_by old new stopped is (Some (Io Disk)) (is.disk (fault_among why)).1
  grows_of (TooLarge (what.Source i)) why = grows_by old new stopped is (Some (TooLarge (what.Source i))) (is.whole why.1)
  grows_of e why = grows_by old new stopped is (Some e) (some_made old new stopped is)

  pub promises : {T : Type 0} (policy : Sha256Policy) (infos : T → List XetFileInfo) (choices : T → List (List Choice)) (metrics : T → DeduplicationMetrics) (r : Result T StoreError)
      → IsResult tells left faults policy sources now infos choices metrics (alone_of old old false) (alone_of old new stopped) r → map tells now ≡ map tells sources → Promises tells left faults policy sources now infos choices metrics old new r
  promises policy infos choices metrics (Ok t) result tell =
      let files : List Planned = result.ends.0 in
      let told = ended_infos policy tells left sources old new stopped is files (infos t) (choices t) (metrics t) result.ends.1 in
      let plans = ended_recorded policy tells left sources old new stopped is files (infos t) (choices t) (metrics t) result.ends.1 in
      record {
        infos_are = told;
        read = result.read.read;
        short = result.read.short;
        files = λ observable all separate. files_all tells left old.store.limits new.store (chunkings left old.store.limits sources) sound (is.steps.keeps.tells ∙ observable) separate sources (infos t) all (λ c a. a)
            (told_more tells left (λ bytes info. info ≡ info_by policy old.store.limits bytes) (λ bytes info. info.hash ≡ (info_of old.store.limits bytes).hash) (λ bytes info same. ap (λ (i : XetFileInfo). i.hash) same) sources (infos t) told)
            plans;
        plans = plans;
        cleaned = ended_cleaned policy tells left sources old new stopped is files (infos t) (choices t) (metrics t) result.ends.1;
        keeps = is.steps.keeps;
        steps = ended_grows policy tells left sources old new stopped is files (infos t) (choices t) (metrics t) result.ends.1;
        adds = ended_adds policy tells left sources old new stopped is files (infos t) (choices t) (metrics t) result.ends.1 sound;
        bound = tt;
        reason = tt;
      }
  promises policy infos choices metrics (Err e) result tell = record {
    infos_are = tt;
    read = tt;
    short = tt;
    files = λ observable all separate. tt;
    plans = tt;
    cleaned = tt;
    keeps = is.steps.keeps;
    steps = grows_of e result.why;
    adds = tt;
    bound = bounded_since policy tells left sources now old new stopped e is sound tell result.short.0 result.short.1;
    reason = reason_of e result.why;
  }

-- the same of a session that was lent to a holder and given back
pub alone_promises : {S T : Type 0} (tells : S → Bool) (left : S → List ℕ) (faults : S → ℕ) (policy : Sha256Policy) (sources now : List S) (infos : T → List XetFileInfo) (choices : T → List (List Choice)) (metrics : T → DeduplicationMetrics)
    (old new : RecordedState) (first last : AloneState) (r : Result T StoreError)
    → first.start ≡ old
    → first.store ≡ old
    → first.stopped ≡ false
    → new ≡ last.store
    → IsAlone last.start last.store last.stopped
    → Sound new.store
    → IsRecorded new
    → Follows (alone_of first.start first.store first.stopped) (alone_of last.start last.store last.stopped)
    → IsResult tells left faults policy sources now infos choices metrics (alone_of first.start first.store first.stopped) (alone_of last.start last.store last.stopped) r
    → map tells now ≡ map tells sources
    → Promises tells left faults policy sources now infos choices metrics old new r
alone_promises tells left faults policy sources now infos choices metrics old new first last r start_is store_is going given is sound recorded follows result tell =
    let began : last.start ≡ old = ap (λ (h : Holder). h.origin) follows.is ∙ start_is in
    let alone : IsAlone old new last.stopped = subst (λ (s : RecordedState). IsAlone s new last.stopped) began (subst (λ (s : RecordedState). IsAlone last.start s last.stopped) (sym given) is) in
    let first_is : alone_of first.start first.store first.stopped ≡ alone_of old old false = λ i. alone_of (start_is i) (store_is i) (going i) in
    let last_is : alone_of last.start last.store last.stopped ≡ alone_of old new last.stopped = λ i. alone_of (began i) (sym given i) last.stopped in
    promises tells left faults sources now old new last.stopped alone sound recorded policy infos choices metrics r
    (subst (λ (h : Holder). IsResult tells left faults policy sources now infos choices metrics h (alone_of old new last.stopped) r) first_is
    (subst (λ (h : Holder). IsResult tells left faults policy sources now infos choices metrics (alone_of first.start first.store first.stopped) h r) last_is result)) tell
