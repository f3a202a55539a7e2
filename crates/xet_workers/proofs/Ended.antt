-- What is promised where the session of workers was closed and their parts were merged.
use Rattle.std.proofs.Common.{◌≡◌, ◌≢◌, ◌∙◌, ℕ, ◌+◌, ◌*◌, ◌≤◌, Bool, true, false, List, [], ◌∷◌, ◌++◌, AllPairs, None, IsSome, drop, length, map, refl, sym, ap, subst, length-append, arith}
use Rattle.std.specs.List.{AllByRecursion, IsAmong, flat_map, sum_by}
use Rattle.std.specs.List.Sorted.{IsPermutation}
use Rattle.std.proofs.lemmas.List.{drop_at, length-map}
use Rattle.std.proofs.lemmas.List.Sorted.{IsPermutation-append_left, IsPermutation-sym, IsPermutation-trans}
use Rattle.std.proofs.lemmas.Simd.{map-map}
use Rattle.xet_aggregate.specs.declared.metrics.DeduplicationMetrics.{DeduplicationMetrics}
use Rattle.xet_base.specs.theorems.Elements.{all_both, all_more}
use Rattle.xet_choices.specs.Calls.{registered_chunks}
use Rattle.xet_choices.specs.Choices.{new_chunks, no_place_entries}
use Rattle.xet_choices.specs.declared.choice.Choice.{Choice}
use Rattle.xet_choices.specs.theorems.Calls.{registered_chunks-append}
use Rattle.xet_clean.specs.theorems.Adding.{files_in-append}
use Rattle.xet_clean.specs.theorems.InOrder.{are_records}
use Rattle.xet_clean.specs.theorems.Recorded.{HasRows, RecordsHash, each_record, hash_of_file, plans_found, record_files, recorded_found, rows_add, rows_after_all}
use Rattle.xet_clean.specs.theorems.Session.{own_since, records_since, told_bytes, told_infos}
use Rattle.xet_clean.specs.theorems.Turns.{done_read, done_told}
use Rattle.xet_clean.specs.Cleaning.{AreRecords, IsRecordFor, RecordsFile, RegistersFew, calls_since, entries_since, files_in, metrics_sum}
use Rattle.xet_clean.specs.Closing.{recorded_in}
use Rattle.xet_clean.specs.Merging.{MergesAll, Part, files_of}
use Rattle.xet_clean.specs.Policies.{info_by}
use Rattle.xet_clean.specs.Sources.{AreDone, AreRead}
use Rattle.xet_clean.specs.Working.{Planned}
use Rattle.xet_clean.specs.declared.policy.Sha256Policy.TheVariants.{Compute}
use Rattle.xet_cut.specs.declared.limits.LimitSettings.{LimitSettings}
use Rattle.xet_folder.specs.Xorbs.{found}
use Rattle.xet_history.specs.Core.{Core}
use Rattle.xet_history.specs.History.{after_all, pass_of}
use Rattle.xet_history.specs.declared.entry.Entry.{Entry}
use Rattle.xet_locked_session.specs.Session.{IsSince}
use Rattle.xet_shard_format.specs.Records.{file_record_hash}
use Rattle.xet_shard_format.specs.declared.record.MDBFileInfo.{MDBFileInfo}
use Rattle.xet_shared_history.specs.Owned.{HasEachOnce}
use Rattle.xet_store.specs.Alone.{IsAlone, alone_of}
use Rattle.xet_store.specs.Holders.{Holder, calls_in, numbered}
use Rattle.xet_store.specs.theorems.Following.{calls_in-append, length-numbered, numbered-append}
use Rattle.xet_store.specs.Recorded.{RecordedState, core_of}
use Rattle.xet_store.specs.Steps.{Steps}
use Rattle.xet_store_disk.specs.Cleaning.{Adds, EachTold, HasFile, Keeps, chunkings, info_of}
use Rattle.xet_store_disk.specs.Separate.{Separate}
use Rattle.xet_store_disk.specs.Store.{Sound, plan_of}
use Rattle.xet_store_disk.specs.declared.info.XetFileInfo.{XetFileInfo}
use Rattle.xet_store_disk.specs.theorems.Files.{files_all, told_more}
use Rattle.xet_workers.specs.Cleaning.{AreChosenBy, GrowsBy, IsCleanedBy, calls_by, made_by}
use Rattle.xet_workers.specs.Workers.{Worked}
use Rattle.xet_workers.specs.internal.Ending.{HasMerged}
use Rattle.xet_workers.specs.internal.Parts.{ArePartsBy}
use Rattle.xet_workers.proofs.Growing.{all_steps, grows_whole}
use Rattle.xet_workers.proofs.Joined.{all_bound, all_chosen, all_from, all_kept, all_made, all_named, all_new, all_once, files_infos, files_leaves, files_policies, flat, named, parts_passed, passes_differ, passes_of}
use Rattle.xet_workers.proofs.Landing.{lands_parted}
use Rattle.xet_workers.proofs.Naming.{names_differ, own_numbers_each}
use Rattle.xet_workers.proofs.Ordered.{all_permuted, all_recorded, all_records, records_order}
use Rattle.xet_workers.proofs.Parting.{Parted, made_more, numbers_of, parted}
use Rattle.xet_workers.proofs.Passed.{alone_of_pass, steps_of_pass}
use Rattle.xet_workers.proofs.Since.{passes_since}
use Rattle.xet_workers.proofs.Sums.{files_parted, length_parted, registered_parted}

-- what holds of what is made of each holds of each that is made
all_of_made : {X Y : Type 0} (P : Y → Type 0) (f : X → Y) (xs : List X) → AllByRecursion (λ x. P (f x)) xs → AllByRecursion P (map f xs)
all_of_made P f [] all = tt
all_of_made P f (x ∷ xs) all = (all.0, all_of_made P f xs all.1)

-- ---- the entries since the start

module _ (old mid new : RecordedState) (stopped : Bool) (since : IsSince old mid) (alone : IsAlone mid new stopped) where
  first_since : entries_since old mid ≡ since.since
  first_since = ap (drop (length old.history)) since.steps.moves.history ∙ drop_at old.history since.since (length old.history) refl

  pub last_since : entries_since mid new ≡ alone.since
  last_since = ap (drop (length mid.history)) alone.steps.moves.history ∙ drop_at mid.history alone.since (length mid.history) refl

  -- those until the session was closed, and those after it
  pub both_since : entries_since old new ≡ entries_since old mid ++ entries_since mid new
  both_since =
      ap (drop (length old.history)) (all_steps old mid new stopped since alone).moves.history
      ∙ drop_at old.history (since.since ++ alone.since) (length old.history) refl
      ∙ ap (λ (es : List Entry). es ++ alone.since) (sym first_since)
      ∙ ap (λ (es : List Entry). entries_since old mid ++ es) (sym last_since)

  pub steps_all : Steps old new (entries_since old new)
  steps_all =
      subst (Steps old new)
      (sym (ap (drop (length old.history)) (all_steps old mid new stopped since alone).moves.history ∙ drop_at old.history (since.since ++ alone.since) (length old.history) refl))
      (all_steps old mid new stopped since alone)

  lengths_add : length old.history + length (entries_since old mid) ≡ length mid.history
  lengths_add =
      let first : length (entries_since old mid) ≡ length since.since = ap (λ (es : List Entry). length es) first_since in
      let whole : length mid.history ≡ length old.history + length since.since = ap (λ (es : List Entry). length es) since.steps.moves.history ∙ length-append old.history since.since in
      omega (arith, first, whole)

  pub numbered_all : numbered (length old.history) (entries_since old new)
      ≡ numbered (length old.history) (entries_since old mid) ++ numbered (length mid.history) (entries_since mid new)
  numbered_all =
      ap (numbered (length old.history)) both_since
      ∙ numbered-append (length old.history) (entries_since old mid) (entries_since mid new)
      ∙ ap (λ (n : ℕ). numbered (length old.history) (entries_since old mid) ++ numbered n (entries_since mid new)) lengths_add

  -- The passes of workers made no entry after the session was closed.
  calls_same : stopped ≡ false → (k : ℕ) → 1 ≤ k → calls_by k old new ≡ calls_in (made_by k (numbered (length old.history) (entries_since old mid)))
  calls_same going k some =
      let of_zero : AllByRecursion (λ e. pass_of e ≡ 0) alone.since = steps_of_pass 0 mid.store.limits (core_of mid) alone.since (alone.whole going).steps in
      let others : AllByRecursion (λ e. pass_of e ≢ k) (entries_since mid new) =
      subst (AllByRecursion (λ e. pass_of e ≢ k)) (sym last_since) (all_more (λ e. pass_of e ≡ 0) (λ e. pass_of e ≢ k) alone.since (λ e is same. absurd (omega (arith, is, same, some))) of_zero) in
      ap (λ (es : List Entry). calls_in (made_by k (numbered (length old.history) es))) both_since
      ∙ ap calls_in (made_more k (length old.history) (entries_since old mid) (entries_since mid new) others)

-- ---- all went well

module _ (old new : RecordedState) (ws : List Worked) (ps : List Part) (are : ArePartsBy old 1 ws ps) (infos : List XetFileInfo) (choices : List (List Choice)) (metrics : DeduplicationMetrics)
    (m : HasMerged old new (map (λ w. w.pass) ws) ps infos choices metrics) where
  abbrev limits : LimitSettings
  limits = old.store.limits

  abbrev merges : MergesAll ps (alone_of m.mid m.mid false) (alone_of m.mid new m.merged.stopped) infos choices metrics
  merges = m.merged.merged

  abbrev entries : List Entry
  entries = entries_since old new

  -- the numbered entries of the passes
  abbrev xs : List (ℕ × Entry)
  xs = numbered (length old.history) (entries_since old m.mid)

  abbrev bytes : List (List ℕ)
  bytes = map (λ f. f.bytes) (files_of ps)

  abbrev records : List MDBFileInfo
  records = all_records ps (recorded_in merges.follows.own) merges.records

  going : m.merged.stopped ≡ false
  going = merges.going

  own_last : merges.follows.own ≡ numbered (length m.mid.history) (entries_since m.mid new)
  own_last = own_since m.mid new m.merged.stopped merges.follows

  part : Parted (map (λ w. w.pass) ws) (numbered (length old.history) (entries_since old m.mid))
  part = parted m.mid.history (length old.history) (passes_of ws) (all_from old m.mid.history 1 ws ps are m.closed.known m.closed.seen) (passes_differ old 1 ws ps are) m.closed.own

  calls_all : calls_since old new ≡ calls_in (numbered (length old.history) (entries_since old m.mid)) ++ calls_in merges.follows.own
  calls_all =
      ap calls_in (numbered_all old m.mid new m.merged.stopped m.closed.since m.merged.alone)
      ∙ calls_in-append xs (numbered (length m.mid.history) (entries_since m.mid new))
      ∙ ap (λ (l : List (ℕ × Entry)). calls_in xs ++ calls_in l) (sym own_last)

  registers : RegistersFew (calls_since old new)
  registers =
      subst RegistersFew (sym calls_all)
      (lands_parted (calls_in merges.follows.own) (passes_of ws) xs part (all_kept old (calls_in merges.follows.own) 1 ws ps are merges.held) merges.registers)

  registered : registered_chunks (calls_since old new) ≡ sum_by new_chunks choices
  registered =
      let calls : registered_chunks (calls_since old new) ≡ registered_chunks (calls_in xs) + registered_chunks (calls_in merges.follows.own) =
      ap registered_chunks calls_all ∙ registered_chunks-append (calls_in xs) (calls_in merges.follows.own) in
      let first : registered_chunks (calls_in xs) ≡ sum_by (λ (h : Holder). registered_chunks (calls_in h.own)) (passes_of ws) = registered_parted xs (passes_of ws) part in
      let sums : sum_by new_chunks choices ≡ sum_by new_chunks (flat_map (λ (p : Part). p.choices) ps) = ap (sum_by new_chunks) merges.chosen in
      let last = merges.registered in
      let all = all_new old 1 ws ps are in
      omega (arith, calls, first, sums, last, all)

  bound : length (entries_since old new) ≤ 3 * sum_by (λ (c : List Choice). length c) choices + 2 * length (map (λ f. f.bytes) (files_of ps))
  bound =
      let whole : length (entries_since old new) ≡ length (entries_since old m.mid) + length (entries_since m.mid new) =
      ap (λ (es : List Entry). length es) (both_since old m.mid new m.merged.stopped m.closed.since m.merged.alone) ∙ length-append (entries_since old m.mid) (entries_since m.mid new) in
      let first : length (entries_since old m.mid) ≡ sum_by (λ (h : Holder). length h.own) (passes_of ws) = sym (length-numbered (length old.history) (entries_since old m.mid)) ∙ length_parted xs (passes_of ws) part in
      let last : length merges.follows.own ≡ length (entries_since m.mid new) =
      ap (λ (l : List (ℕ × Entry)). length l) own_last ∙ length-numbered (length m.mid.history) (entries_since m.mid new) in
      let sums : sum_by (λ (c : List Choice). length c) choices ≡ sum_by (λ (c : List Choice). length c) (flat_map (λ (p : Part). p.choices) ps) = ap (sum_by (λ (c : List Choice). length c)) merges.chosen in
      let count : length (map (λ (f : Planned). f.bytes) (files_of ps)) ≡ length (files_of ps) = length-map (files_of ps) (λ (f : Planned). f.bytes) in
      let few = merges.few in
      let all = all_bound old 1 ws ps are in
      omega (arith, whole, first, last, sums, count, few, all)

  infos_are : infos ≡ map (info_by Compute old.store.limits) (map (λ f. f.bytes) (files_of ps))
  infos_are = merges.pointers ∙ files_infos old 1 ws ps are

  -- ---- what was recorded

  made : IsPermutation records (files_in (entries_since old new))
  made =
      let rest : List MDBFileInfo = recorded_in merges.follows.own in
      let own : List MDBFileInfo = flat_map (λ (h : Holder). recorded_in h.own) (passes_of ws) in
      let first : IsPermutation own (files_in (entries_since old m.mid)) =
      IsPermutation-sym (files_in (entries_since old m.mid)) own (files_parted m.mid.history (length old.history) (passes_of ws) part) in
      let order : IsPermutation records (own ++ rest) = subst (λ (l : List MDBFileInfo). IsPermutation records (l ++ rest)) (all_made old 1 ws ps are) (records_order ps rest merges.records) in
      let same : files_in (entries_since old m.mid) ++ rest ≡ files_in (entries_since old new) =
      ap (λ (l : List MDBFileInfo). files_in (entries_since old m.mid) ++ l) (records_since m.mid new m.merged.stopped merges.follows)
      ∙ sym (files_in-append (entries_since old m.mid) (entries_since m.mid new))
      ∙ ap files_in (sym (both_since old m.mid new m.merged.stopped m.closed.since m.merged.alone)) in
      subst (IsPermutation records) same
      (IsPermutation-trans records (own ++ rest) (files_in (entries_since old m.mid) ++ rest) order (IsPermutation-append_left rest own (files_in (entries_since old m.mid)) first))

  of_bytes : AreRecords Compute old.store.limits (map (λ f. f.bytes) (files_of ps)) records
  of_bytes =
      are_records Compute limits (files_of ps) records (files_leaves old 1 ws ps are) (files_policies old 1 ws ps are)
      (all_recorded ps (recorded_in merges.follows.own) merges.records)

  only : AllByRecursion (RecordsFile Compute old.store.limits (map (λ f. f.bytes) (files_of ps))) (entries_since old new)
  only =
      record_files Compute limits bytes entries
      (all_permuted (λ (r : MDBFileInfo). (b : List ℕ) × IsAmong bytes b × IsRecordFor Compute old.store.limits b r) records (files_in entries) made (each_record Compute limits bytes records of_bytes))

  steps : Steps old new (entries_since old new)
  steps = steps_all old m.mid new m.merged.stopped m.closed.since m.merged.alone

  pub ended_keeps : Keeps old.store new.store
  ended_keeps = steps.keeps

  pub ended_grows : GrowsBy None old new
  ended_grows = grows_whole old m.mid new m.merged.stopped m.closed.since m.merged.alone m.closed.made going

  pub ended_recorded : AllByRecursion (λ info. IsSome (plan_of new.store.records info.hash)) infos
  ended_recorded =
      let there : AllByRecursion (λ r. IsSome (found new.store.records (file_record_hash r))) (files_in (entries_since old new)) =
      subst (λ (c : Core). AllByRecursion (λ (r : MDBFileInfo). IsSome (found c.records (file_record_hash r))) (files_in (entries_since old new))) (sym steps.moves.leads)
      (recorded_found (core_of old) (entries_since old new)) in
      let all : AllByRecursion (λ r. IsSome (found new.store.records (file_record_hash r))) records =
      all_permuted (λ (r : MDBFileInfo). IsSome (found new.store.records (file_record_hash r))) (files_in (entries_since old new)) records (IsPermutation-sym records (files_in (entries_since old new)) made) there in
      subst (AllByRecursion (λ (info : XetFileInfo). IsSome (plan_of new.store.records info.hash))) (sym infos_are)
      (all_of_made (λ (info : XetFileInfo). IsSome (plan_of new.store.records info.hash)) (info_by Compute old.store.limits) bytes (plans_found Compute limits new.store.records bytes records of_bytes all))

  pub ended_adds : Sound new.store → Adds old.store.records new.store.records (map (λ info. info.hash) infos)
  ended_adds sound =
      let hashes : List (List ℕ) = map (λ (f : List ℕ). (info_of old.store.limits f).hash) bytes in
      let rows : HasRows hashes old.store.records (after_all (core_of old) entries).records =
      rows_after_all hashes (core_of old) entries (all_more (RecordsFile Compute limits bytes) (RecordsHash hashes) entries (hash_of_file Compute limits bytes) only) in
      subst (Adds old.store.records new.store.records)
      (sym (map-map (λ (i : XetFileInfo). i.hash) (info_by Compute old.store.limits) bytes) ∙ ap (map (λ (i : XetFileInfo). i.hash)) (sym infos_are))
      (rows_add hashes old.store.records new.store.records (subst (λ (c : Core). HasRows hashes old.store.records c.records) (sym steps.moves.leads) rows) sound.records_differ)

  -- ---- who made the entries

  passes : (workers : ℕ) → length ws ≤ workers → AllByRecursion (λ e. pass_of e ≤ workers) (entries_since old new)
  passes workers few =
      let first : AllByRecursion (λ e. pass_of e ≤ workers) (entries_since old m.mid) =
      passes_since old m.mid (passes_of ws) (parts_passed old 1 ws ps are) m.closed.known m.closed.seen m.closed.own workers (omega (arith, few, length-map ws (λ (w : Worked). w.pass))) in
      let last : AllByRecursion (λ e. pass_of e ≤ workers) (entries_since m.mid new) =
      subst (AllByRecursion (λ e. pass_of e ≤ workers)) (sym (last_since old m.mid new m.merged.stopped m.closed.since m.merged.alone))
      (all_more (λ e. pass_of e ≡ 0) (λ e. pass_of e ≤ workers) m.merged.alone.since (λ e is. omega (arith, is)) (alone_of_pass m.mid new m.merged.stopped m.merged.alone)) in
      subst (AllByRecursion (λ e. pass_of e ≤ workers)) (sym (both_since old m.mid new m.merged.stopped m.closed.since m.merged.alone))
      (all_both (λ e. pass_of e ≤ workers) (entries_since old m.mid) (entries_since m.mid new) first last)

  -- ---- which choices were made

  once : AllPairs (λ a b. a ≢ b) (no_place_entries (flat_map (λ (cs : List Choice). cs) choices))
  once =
      let own : HasEachOnce (length old.history) (length m.mid.history) (flat_map (λ (w : Worked). numbers_of w.pass.own) ws) =
      subst (HasEachOnce (length old.history) (length m.mid.history)) (own_numbers_each (λ (w : Worked). w.pass) ws) m.closed.own in
      let all : AllPairs (λ a b. a ≢ b) (flat_map named ws) =
      names_differ named (λ (w : Worked). numbers_of w.pass.own) (length old.history) (length m.mid.history) ws (all_once old 1 ws ps are) own in
      subst (λ (css : List (List Choice)). AllPairs (λ a b. a ≢ b) (no_place_entries (flat css))) (sym merges.chosen) (subst (AllPairs (λ a b. a ≢ b)) (all_named old 1 ws ps are) all)

  chosen : (workers : ℕ) → length ws ≤ workers → AreChosenBy workers old.store.limits (λ pass. calls_by pass old new) (map (λ f. f.bytes) (files_of ps)) choices records
  chosen workers few =
      subst (λ (css : List (List Choice)). AreChosenBy workers old.store.limits (λ pass. calls_by pass old new) bytes css records) (sym merges.chosen)
      (all_chosen old workers (λ pass. calls_by pass old new) xs (calls_same old m.mid new m.merged.stopped m.closed.since m.merged.alone going) 1 ws ps are (omega arith) (omega (arith, few)) part.own
      (recorded_in merges.follows.own) merges.records)

  -- ---- what is told of the sources

  module _ {S : Type 0} (tells : S → Bool) (left : S → List ℕ) (faults : S → ℕ) (sources now : List S) (done : AreDone tells left faults old.store.limits.max_source_bytes sources now (files_of ps)) where
    told : EachTold tells left (λ bytes f. f.bytes ≡ bytes) sources (files_of ps)
    told = done_told tells left faults old.store.limits.max_source_bytes sources now (files_of ps) done

    pub ended_read : AreRead tells left old.store.limits.max_source_bytes sources now
    ended_read = done_read tells left faults old.store.limits.max_source_bytes sources now (files_of ps) done

    pub ended_infos : EachTold tells left (λ bytes info. info ≡ info_of old.store.limits bytes) sources infos
    ended_infos =
        subst (EachTold tells left (λ bytes info. info ≡ info_of old.store.limits bytes) sources)
        (sym (infos_are ∙ map-map (info_by Compute old.store.limits) (λ (f : Planned). f.bytes) (files_of ps)))
        (told_infos tells left limits Compute sources (files_of ps) told)

    pub ended_files : Sound new.store → old.store.tells ≡ true → AllByRecursion (λ s. tells s ≡ true) sources → Separate new.store (chunkings left old.store.limits sources)
        → AllByRecursion (HasFile new.store) (chunkings left old.store.limits sources)
    ended_files sound observable all separate =
        files_all tells left limits new.store (chunkings left old.store.limits sources) sound (steps.keeps.tells ∙ observable) separate sources infos all (λ c a. a)
        (told_more tells left (λ bytes info. info ≡ info_of old.store.limits bytes) (λ bytes info. info.hash ≡ (info_of old.store.limits bytes).hash) (λ bytes info same. ap (λ (i : XetFileInfo). i.hash) same) sources infos ended_infos)
        ended_recorded

    pub ended_cleaned : (workers : ℕ) → length ws ≤ workers → IsCleanedBy workers tells left sources old new infos choices metrics
    ended_cleaned workers few = record {
      files = bytes;
      told = told_bytes tells left limits sources (files_of ps) told;
      pointers = infos_are;
      records = records;
      made = made;
      chosen = chosen workers few;
      once = once;
      only = only;
      registered = registered;
      sums = merges.sums ∙ ap (λ (s : LimitSettings). metrics_sum s bytes choices) m.closed.since.steps.keeps.limits;
      registers = registers;
      bound = bound;
      passes = passes workers few;
    }
