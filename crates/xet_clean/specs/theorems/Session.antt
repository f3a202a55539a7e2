-- What cleaning with a session that is alone leaves of it: the entries since the session began are its own.
use Rattle.std.proofs.Common.{◌≡◌, ◌∙◌, ◌⊎◌, ◌≤◌, inl, inr, ℕ, zero, suc, Bool, true, false, List, [], ◌∷◌, ◌++◌, length, map, drop, Option, None, IsSome, refl, sym, ap, subst, append-nil, arith, take}
use Rattle.std.proofs.lemmas.List.{drop_all, drop_at, length-map, take_all}
use Rattle.std.proofs.lemmas.Simd.{map-map}
use Rattle.std.specs.List.{AllByRecursion, flat_map, sum_by}
use Rattle.xet_aggregate.specs.declared.metrics.DeduplicationMetrics.{DeduplicationMetrics}
use Rattle.xet_base.specs.theorems.Elements.{all_more}
use Rattle.xet_choices.specs.Calls.{registered_chunks}
use Rattle.xet_choices.specs.Choices.{new_chunks}
use Rattle.xet_choices.specs.declared.choice.Choice.{Choice}
use Rattle.xet_cut.specs.Chunking.{chunking}
use Rattle.xet_cut.specs.declared.limits.LimitSettings.{LimitSettings}
use Rattle.xet_dedup_queries.specs.Counting.{registered_leaves}
use Rattle.xet_hash.specs.Merkle.{leaves_of}
use Rattle.xet_hash.specs.declared.error.StoreError.{StoreError}
use Rattle.xet_history.specs.Core.{Core}
use Rattle.xet_history.specs.History.{after_all}
use Rattle.xet_history.specs.declared.entry.Entry.{Entry}
use Rattle.xet_folder.specs.Xorbs.{found}
use Rattle.xet_shard_format.specs.Records.{file_record_hash}
use Rattle.xet_shard_format.specs.declared.record.MDBFileInfo.{MDBFileInfo}
use Rattle.xet_store.specs.Recorded.{RecordedState, core_of}
use Rattle.xet_store.specs.Steps.{Steps}
use Rattle.xet_store_disk.specs.Cleaning.{Adds, EachTold, HasFile, chunkings, info_of}
use Rattle.xet_store_disk.specs.Separate.{Among, Separate}
use Rattle.xet_store_disk.specs.Store.{Sound, plan_of}
use Rattle.xet_store_disk.specs.declared.info.XetFileInfo.{XetFileInfo}
use Rattle.xet_store_disk.specs.theorems.Files.{recorded_file}
use Rattle.xet_store.specs.Alone.{IsAlone, MakesSteps, MakesStepsUntil, alone_of}
use Rattle.xet_store.specs.Holders.{Follows, Holder, calls_in, core_at, numbered}
use Rattle.xet_store.specs.theorems.Following.{length-numbered}
use Rattle.xet_clean.specs.Cleaning.{AreChosen, AreRecords, ClosesLast, EachTaken, Grows, IsBounded, IsCleaned, Makes, RecordsFile, RegistersFew, calls_since, entries_since, files_in, metrics_sum}
use Rattle.xet_clean.specs.Closing.{recorded_in}
use Rattle.xet_clean.specs.Sources.{IsCutShort}
use Rattle.xet_clean.specs.Working.{AreRecorded, EndsWith, Planned}
use Rattle.xet_clean.specs.theorems.Adding.{recorded_numbered}
use Rattle.xet_clean.specs.theorems.Choosing.{are_chosen, leaves_sum, new_sum}
use Rattle.xet_clean.specs.theorems.Ending.{IsEnded, ended}
use Rattle.xet_clean.specs.theorems.Hashes.{all_leaves}
use Rattle.xet_clean.specs.theorems.InOrder.{are_records}
use Rattle.xet_clean.specs.theorems.Owning.{entries_of}
use Rattle.xet_clean.specs.theorems.Recorded.{HasRows, RecordsHash, hash_of_file, only_files, plans_found, recorded_found, rows_add, rows_after_all}
use Rattle.xet_clean.specs.Policies.{info_by}
use Rattle.xet_clean.specs.declared.policy.Sha256Policy.{Sha256Policy}

-- ---- the entries since it began

module _ (old new : RecordedState) (stopped : Bool) (is : IsAlone old new stopped) where
  pub since_is : entries_since old new ≡ is.since
  since_is = ap (drop (length old.history)) is.steps.moves.history ∙ drop_at old.history is.since (length old.history) refl

  pub steps_since : Steps old new (entries_since old new)
  steps_since = subst (Steps old new) (sym since_is) is.steps

  -- the core is that of the holder
  pub core_is : core_of new ≡ core_at (alone_of old new stopped)
  core_is = steps_since.moves.leads

  -- how the history grew
  pub grows_by : (error : Option StoreError) → Makes error old new is.since → Grows error old new
  grows_by error makes = record { entries = is.since; steps = is.steps; makes = makes; rose = is.rose }

  -- by completed steps, or also by one that failed
  pub some_made : MakesSteps old new is.since ⊎ ((error : StoreError) × MakesStepsUntil error old new is.since)
  some_made = by stopped refl
    where
      by : (b : Bool) → stopped ≡ b → MakesSteps old new is.since ⊎ ((error : StoreError) × MakesStepsUntil error old new is.since)
      by true e = inr (is.until e)
      by false e = inl (is.whole e)

nothing_since : (old : RecordedState) → (alone_of old old false).own ≡ []
nothing_since old = ap (numbered (length old.history)) (drop_all (length old.history) old.history (omega arith))

-- its own entries are those since it began
pub own_since : (old new : RecordedState) (stopped : Bool) (f : Follows (alone_of old old false) (alone_of old new stopped)) → f.own ≡ numbered (length old.history) (entries_since old new)
own_since old new stopped f = sym (ap (λ (h : Holder). h.own) f.is ∙ ap (λ (l : List (ℕ × Entry)). l ++ f.own) (nothing_since old))

-- ---- what is told of the sources

module _ {S : Type 0} (tells : S → Bool) (left : S → List ℕ) (limits : LimitSettings) where
  pub told_bytes : (sources : List S) (files : List Planned) → EachTold tells left (λ bytes file. file.bytes ≡ bytes) sources files
      → EachTold tells left (λ bytes file. file ≡ bytes) sources (map (λ f. f.bytes) files)
  told_bytes [] [] told = tt
  told_bytes [] (f ∷ fs) told = absurd told
  told_bytes (s ∷ ss) [] told = absurd told
  told_bytes (s ∷ ss) (f ∷ fs) told = (told.0, told_bytes ss fs told.1)

  pub told_infos : (policy : Sha256Policy) (sources : List S) (files : List Planned) → EachTold tells left (λ bytes file. file.bytes ≡ bytes) sources files
      → EachTold tells left (λ bytes info. info ≡ info_by policy limits bytes) sources (map (λ f. info_by policy limits f.bytes) files)
  told_infos policy [] [] told = tt
  told_infos policy [] (f ∷ fs) told = absurd told
  told_infos policy (s ∷ ss) [] told = absurd told
  told_infos policy (s ∷ ss) (f ∷ fs) told = (λ tell. ap (info_by policy limits) (told.0 tell), told_infos policy ss fs told.1)

-- the pointer records of files whose SHA-256 comes from there
pub infos_by : (policy : Sha256Policy) (limits : LimitSettings) (files : List Planned) → AllByRecursion (λ f. f.policy ≡ policy) files → map (λ f. info_by f.policy limits f.bytes) files ≡ map (λ f. info_by policy limits f.bytes) files
infos_by policy limits [] same = refl
infos_by policy limits (f ∷ fs) same = λ i. info_by (same.0 i) limits f.bytes ∷ infos_by policy limits fs same.1 i

-- ---- what is recorded

all_made : {X Y : Type 0} (P : Y → Type 0) (f : X → Y) (xs : List X) → AllByRecursion (λ x. P (f x)) xs → AllByRecursion P (map f xs)
all_made P f [] all = tt
all_made P f (x ∷ xs) all = (all.0, all_made P f xs all.1)

-- what its own entries record
pub records_since : (old new : RecordedState) (stopped : Bool) (f : Follows (alone_of old old false) (alone_of old new stopped)) → recorded_in f.own ≡ files_in (entries_since old new)
records_since old new stopped f = ap recorded_in (own_since old new stopped f) ∙ recorded_numbered (length old.history) (entries_since old new)

-- the new records are those that the entries record
pub adds_since : (policy : Sha256Policy) (old new : RecordedState) (stopped : Bool) → IsAlone old new stopped → Sound new.store → (files : List (List ℕ)) → AreRecords policy old.store.limits files (files_in (entries_since old new))
    → Adds old.store.records new.store.records (map (λ f. (info_of old.store.limits f).hash) files)
adds_since policy old new stopped is sound files are =
    let s : LimitSettings = old.store.limits in
    let entries : List Entry = entries_since old new in
    let hashes : List (List ℕ) = map (λ f. (info_of old.store.limits f).hash) files in
    let rows : HasRows hashes old.store.records (after_all (core_of old) entries).records =
    rows_after_all hashes (core_of old) entries (all_more (RecordsFile policy s files) (RecordsHash hashes) entries (hash_of_file policy s files) (only_files policy s files entries are)) in
    rows_add hashes old.store.records new.store.records
    (subst (λ (c : Core). HasRows hashes old.store.records c.records) (sym (core_is old new stopped is)) rows) sound.records_differ

-- each file that was recorded has a plan
pub plans_since : (policy : Sha256Policy) (old new : RecordedState) (entries : List Entry) → core_of new ≡ after_all (core_of old) entries → (files : List (List ℕ)) → AreRecords policy old.store.limits files (files_in entries)
    → AllByRecursion (λ f. IsSome (plan_of new.store.records (info_of old.store.limits f).hash)) files
plans_since policy old new entries leads files are =
    plans_found policy old.store.limits new.store.records files (files_in entries) are
    (subst (λ (c : Core). AllByRecursion (λ (r : MDBFileInfo). IsSome (found c.records (file_record_hash r))) (files_in entries)) (sym leads) (recorded_found (core_of old) entries))

-- and the plan resolves, if these files are among those for which there are no collisions
pub plans_resolve : (s : LimitSettings) (new : RecordedState) (all : List (List (List ℕ))) → Sound new.store → new.store.tells ≡ true → Separate new.store all → (files : List (List ℕ))
    → AllByRecursion (λ f. Among all (chunking s f)) files → AllByRecursion (λ f. IsSome (plan_of new.store.records (info_of s f).hash)) files → AllByRecursion (HasFile new.store) (map (chunking s) files)
plans_resolve s new all sound told separate [] among plans = tt
plans_resolve s new all sound told separate (f ∷ fs) among plans =
    (recorded_file new.store all (chunking s f) sound told separate among.0 plans.0, plans_resolve s new all sound told separate fs among.1 plans.1)

-- the files of observable sources that were read to their ends are what these had left
module _ {S : Type 0} (tells : S → Bool) (left : S → List ℕ) (limits : LimitSettings) where
  pub taken_among : (n m : ℕ) → m ≤ n → (ss ts : List S) (fs : List (List ℕ)) → EachTaken tells left ss ts fs → AllByRecursion (λ s. tells s ≡ true) ss → map tells ts ≡ map tells ss
      → AllByRecursion (λ t. tells t ≡ true → left t ≡ []) (take n ts) → AllByRecursion (λ f. Among (chunkings left limits ss) (chunking limits f)) (take m fs)
  taken_among n m le [] ts fs taken all same read =
      subst (λ (l : List (List ℕ)). AllByRecursion (λ f. Among (chunkings left limits []) (chunking limits f)) l) (sym (ap (take m) taken ∙ take_all m [] (omega arith))) tt
  taken_among n m le (s ∷ ss) [] fs taken all same read = absurd (cc same)
  taken_among n m le (s ∷ ss) (t ∷ ts) [] taken all same read = absurd taken
  taken_among n zero le (s ∷ ss) (t ∷ ts) (f ∷ fs) taken all same read = tt
  taken_among zero (suc m) le (s ∷ ss) (t ∷ ts) (f ∷ fs) taken all same read = absurd (omega (arith, le))
  taken_among (suc n) (suc m) le (s ∷ ss) (t ∷ ts) (f ∷ fs) taken all same read =
      let first : tells t ≡ tells s = cc same in
      let rest : map tells ts ≡ map tells ss = cc same in
      let whole : left s ≡ f = taken.0 all.0 ∙ ap (λ (l : List ℕ). f ++ l) (read.0 (first ∙ all.0)) ∙ append-nil f in (
        inl (ap (chunking limits) whole),
        all_more (λ (g : List ℕ). Among (chunkings left limits ss) (chunking limits g)) (λ g. Among (chunkings left limits (s ∷ ss)) (chunking limits g)) (take m fs) (λ g a. inr a)
            (taken_among n m (omega (arith, le)) ss ts fs taken.1 all.1 rest read.1),
      )

-- after an error
pub bounded_since : {S : Type 0} (policy : Sha256Policy) (tells : S → Bool) (left : S → List ℕ) (sources now : List S) (old new : RecordedState) (stopped : Bool) (e : StoreError) → IsAlone old new stopped → Sound new.store
    → map tells now ≡ map tells sources → (last : List (List ℕ × ℕ)) → IsCutShort last policy tells left sources now (alone_of old old false) (alone_of old new stopped) e → IsBounded policy tells left sources now old new e
bounded_since policy tells left sources now old new stopped e is sound tell last short =
    let own = own_since old new stopped short.few.0 in
    let files : List (List ℕ) = take short.count short.files in
    let are : AreRecords policy old.store.limits files (files_in (entries_since old new)) = subst (AreRecords policy old.store.limits files) (records_since old new stopped short.few.0) short.records in
    let plans = plans_since policy old new (entries_since old new) (core_is old new stopped is) files are in
    record {
      files = short.files;
      taken = short.taken;
      done = short.done;
      within = short.within;
      failed = short.failed;
      read = short.read.read;
      short = short.read.short;
      untouched = short.untouched;
      count = short.count;
      recorded = short.recorded;
      records = are;
      bound = omega (arith, short.few.1, ap length own, length-numbered (length old.history) (entries_since old new));
      adds = adds_since policy old new stopped is sound files are;
      plans = plans;
      resolve = λ told all separate.
          plans_resolve old.store.limits new (chunkings left old.store.limits sources) sound (is.steps.keeps.tells ∙ told) separate files
          (taken_among tells left old.store.limits short.done short.count short.recorded sources now short.files short.taken all tell short.read.read) plans;
      last = last;
      registers = subst (λ (l : List (ℕ × Entry)). ClosesLast last (calls_in l)) own short.registers;
      own = λ all.
          entries_of (chunkings left old.store.limits sources) (length old.history) (entries_since old new)
          (subst (λ (l : List (ℕ × Entry)). AllByRecursion (Among (flat_map leaves_of (chunkings left old.store.limits sources))) (registered_leaves (calls_in l))) own (short.own all));
    }

-- ---- all sources were cleaned

module _ {S : Type 0} (policy : Sha256Policy) (tells : S → Bool) (left : S → List ℕ) (sources : List S) (old new : RecordedState) (stopped : Bool) (is : IsAlone old new stopped)
    (files : List Planned) (infos : List XetFileInfo) (choices : List (List Choice)) (metrics : DeduplicationMetrics)
    (e : EndsWith policy tells left sources (alone_of old old false) (alone_of old new stopped) files infos choices metrics) where
  abbrev start : Holder
  start = alone_of old old false

  abbrev now : Holder
  now = alone_of old new stopped

  abbrev limits : LimitSettings
  limits = old.store.limits

  end : IsEnded (alone_of old old false) (alone_of old new stopped) files
  end = ended start e.before now files infos choices metrics e.aggregate e.working e.closes

  own : end.follows.own ≡ numbered (length old.history) (entries_since old new)
  own = own_since old new stopped end.follows

  limits_are : e.before.limits ≡ old.store.limits
  limits_are = ap (λ (h : Holder). h.limits) e.working.follows.is

  pointers : infos ≡ map (λ f. info_by policy old.store.limits f.bytes) files
  pointers = e.working.pointers ∙ ap (λ (s : LimitSettings). map (λ (f : Planned). info_by f.policy s f.bytes) files) limits_are ∙ infos_by policy old.store.limits files e.policies

  pub ended_infos : EachTold tells left (λ bytes info. info ≡ info_by policy old.store.limits bytes) sources infos
  ended_infos = subst (EachTold tells left (λ bytes info. info ≡ info_by policy old.store.limits bytes) sources) (sym pointers) (told_infos tells left limits policy sources files e.told)

  abbrev bytes : List (List ℕ)
  bytes = map (λ f. f.bytes) files

  infos_are : infos ≡ map (info_by policy old.store.limits) (map (λ f. f.bytes) files)
  infos_are = pointers ∙ sym (map-map (info_by policy old.store.limits) (λ (f : Planned). f.bytes) files)

  in_order : AreRecorded files (files_in (entries_since old new))
  in_order = subst (AreRecorded files) (records_since old new stopped end.follows) end.records

  of_bytes : AreRecords policy old.store.limits (map (λ f. f.bytes) files) (files_in (entries_since old new))
  of_bytes = are_records policy old.store.limits files (files_in (entries_since old new)) (all_leaves start now end.follows files end.planned) e.policies in_order

  pub ended_recorded : AllByRecursion (λ info. IsSome (plan_of new.store.records info.hash)) infos
  ended_recorded =
      subst (AllByRecursion (λ (info : XetFileInfo). IsSome (plan_of new.store.records info.hash))) (sym infos_are)
      (all_made (λ (info : XetFileInfo). IsSome (plan_of new.store.records info.hash)) (info_by policy old.store.limits) bytes
      (plans_found policy old.store.limits new.store.records bytes (files_in (entries_since old new)) of_bytes
      (subst (λ (c : Core). AllByRecursion (λ (r : MDBFileInfo). IsSome (found c.records (file_record_hash r))) (files_in (entries_since old new))) (sym (core_is old new stopped is))
      (recorded_found (core_of old) (entries_since old new)))))

  pub ended_grows : Grows None old new
  ended_grows = grows_by old new stopped is None (is.whole end.going)

  pub ended_adds : Sound new.store → Adds old.store.records new.store.records (map (λ info. info.hash) infos)
  ended_adds sound =
      subst (Adds old.store.records new.store.records)
      (sym (map-map (λ (i : XetFileInfo). i.hash) (info_by policy old.store.limits) bytes) ∙ ap (map (λ (i : XetFileInfo). i.hash)) (sym infos_are))
      (adds_since policy old new stopped is sound bytes of_bytes)

  pub ended_cleaned : IsCleaned policy tells left sources old new infos choices metrics
  ended_cleaned =
      let chosen : choices ≡ map (λ (f : Planned). f.plan.choices) files = e.working.chosen in
      record {
        files = bytes;
        told = told_bytes tells left limits sources files e.told;
        pointers = infos_are;
        chosen = subst (λ (cs : List (List Choice)). AreChosen policy limits (calls_since old new) bytes cs (files_in (entries_since old new))) (sym chosen)
            (are_chosen start now end.follows (nothing_since old) (length old.history) (entries_since old new) own policy files (files_in (entries_since old new)) end.planned e.policies in_order);
        once = e.working.once;
        only = only_files policy limits bytes (entries_since old new) of_bytes;
        registered = omega (arith, ap (λ (l : List (ℕ × Entry)). registered_chunks (calls_in l)) own, end.registered, new_sum files, ap (sum_by new_chunks) chosen);
        sums = e.working.sums ∙ ap (λ (s : LimitSettings). metrics_sum s bytes choices) limits_are;
        registers = subst (λ (l : List (ℕ × Entry)). RegistersFew (calls_in l)) own end.registers;
        bound = omega (
          arith,
          ap length own,
          length-numbered (length old.history) (entries_since old new),
          end.bound,
          leaves_sum start now files end.planned,
          ap (λ (l : List (List Choice)). sum_by (λ (c : List Choice). length c) l) chosen,
          length-map files (λ (f : Planned). f.bytes),
        );
      }
