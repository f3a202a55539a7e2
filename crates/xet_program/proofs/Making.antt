-- Records that are made of files, and are listed at every time.
use Rattle.std.proofs.Common.{◌≡◌, ◌≢◌, ◌⊎◌, inl, inr, ◌↔◌, ◌∙◌, ℕ, ◌+◌, ◌<◌, ◌^◌, nat_lt, Bool, true, false, List, [], ◌∷◌, ◌++◌, length, Option, Some, None, IfSome, if◌then◌else◌, refl, sym, ap, subst, arith}
use Rattle.std.specs.Prelude.{Any}
use Rattle.std.specs.List.{AllByRecursion, IsAmong}
use Rattle.sha2.specs.Sha256.{sha256}
use Rattle.xet_hash.specs.Merkle.{leaves_of}
use Rattle.xet_io.specs.Disk.{Files}
use Rattle.xet_shard_format.specs.declared.record.FileDataSequenceEntry.{FileDataSequenceEntry as Segment}
use Rattle.xet_shard_format.specs.declared.record.MDBFileInfo.{MDBFileInfo}
use Rattle.xet_shard.specs.Held.{Held, nothing}
use Rattle.xet_shard_format.specs.Records.{file_record_hash}
use Rattle.xet_folder.specs.Contents.{IsRecord}
use Rattle.xet_folder.specs.Listed.{Lists}
use Rattle.xet_folder.specs.Xorbs.{found}
use Rattle.xet_cut.specs.declared.limits.LimitSettings.{LimitSettings}
use Rattle.xet_store_disk.specs.Cleaning.{Keeps}
use Rattle.xet_cut.specs.Chunking.{chunking}
use Rattle.xet_dedup.specs.Records.{file_record}
use Rattle.xet_clean.specs.Cleaning.{RecordsFile}
use Rattle.xet_clean.specs.declared.policy.Sha256Policy.TheVariants.{Compute}
use Rattle.xet_history.specs.Core.{Core, has_pending, is_new, pending_hash}
use Rattle.xet_history.specs.History.{after_all, flush_entries}
use Rattle.xet_history.specs.Lasting.{HasLasting, LastsIn}
use Rattle.xet_history.specs.declared.entry.Entry.{Entry}
use Rattle.xet_history.specs.declared.entry.Entry.TheVariants.{Complete, Flush}
use Rattle.xet_history.specs.theorems.Lasting.{IsAdded, added_first, added_lasts, here_more, known_completed}
use Rattle.xet_history.specs.theorems.Staying.{new_if_none}
use Rattle.xet_store_disk.specs.Flushing.{IsFlushed}
use Rattle.xet_store_disk.specs.Opening.{IsOpened}
use Rattle.xet_store_disk.specs.Ranges.{IsUnchanged}
use Rattle.xet_store_disk.specs.Store.{IsKept, Sound, State}
use Rattle.xet_store_disk.specs.theorems.Admitting.{one_of}
use Rattle.xet_store_disk.specs.theorems.Rows.{to_among}
use Rattle.xet_store_disk.specs.theorems.Whole.{found_has}
use Rattle.xet_store.specs.Changes.{ChangesFiles}
use Rattle.xet_store.specs.Recorded.{IsRecorded, RecordedState, core_of}
use Rattle.xet_store.specs.Steps.{Steps}
use Rattle.xet_store.specs.theorems.Changing.{changes_then, changes_unread}
use Rattle.xet_store.specs.theorems.Joining.{steps_both, steps_unread}
use Rattle.xet_store.specs.theorems.Lasting.{lasting_listed}
use Rattle.xet_program.specs.Tasks.{store_folder}
use Rattle.xet_program.specs.Report.{hash_of_file}
use Rattle.xet_program.specs.internal.Cleaned.{RecordsHash}
use Rattle.xet_program.specs.internal.Steps.{IsSettled, ListsMadeIn, ListsNoOther, MakesIn}
use Rattle.xet_program.specs.Stored.{AreStored, ListsHash, ListsMade, Makes, Records}
use Rattle.xet_program.proofs.Only.{only_on_disk, tidy_on_disk}

none_among : {X : Type 0} (xs : List X) (x : X) → xs ≡ [] → IsAmong xs x → ⊥
none_among xs x none among =
    let below = among.1.0 in
    let count : length xs ≡ 0 = ap length none in omega (arith, below, count)

-- ---- after a flush, and reads

-- nothing is pending, so nothing was flushed
idle_flush : (old mid : RecordedState) → old.store.pending ≡ nothing → Steps old mid (flush_entries 0 (core_of old)) → core_of mid ≡ core_of old
idle_flush old mid pending steps =
    let idle : nat_lt 0 (length old.store.pending.blocks + length old.store.pending.files) ≡ false = ap (λ (p : Held). nat_lt 0 (length p.blocks + length p.files)) pending in
    steps.moves.leads ∙ ap (λ (b : Bool). after_all (core_of old) (if b then Flush 0 (pending_hash (core_of old)) ∷ [] else [])) idle

-- a flush records no file
unrecorded_flush : (l : LimitSettings) (c : Core) → AllByRecursion (RecordsFile Compute l []) (flush_entries 0 c ++ [])
unrecorded_flush l c = go (has_pending c)
  where
    go : (b : Bool) → AllByRecursion (RecordsFile Compute l []) ((if b then Flush 0 (pending_hash c) ∷ [] else []) ++ [])
    go true = (tt, tt)
    go false = tt

changes_read : (old mid new : RecordedState) → Steps old mid (flush_entries 0 (core_of old)) → ChangesFiles [] old mid (flush_entries 0 (core_of old)) → IsUnchanged mid.store new.store → ChangesFiles [] old new (flush_entries 0 (core_of old) ++ [])
changes_read old mid new steps changes unchanged = changes_then old mid new [] [] (flush_entries 0 (core_of old)) [] steps.keeps.tells steps.keeps.folder changes (changes_unread mid new [] unchanged)

pub settled_of : (old mid new : RecordedState) (shard : Option (List ℕ)) → ((shard ≡ None) ↔ (old.store.pending ≡ nothing)) → IfSome shard (λ h. IsFlushed old.store h mid.store)
    → Steps old mid (flush_entries 0 (core_of old)) → ChangesFiles [] old mid (flush_entries 0 (core_of old)) → IsUnchanged mid.store new.store → (new.shards ≡ mid.shards) × (new.history ≡ mid.history) → IsSettled old new
settled_of old mid new None none flushed steps changes unchanged same =
    let pending : old.store.pending ≡ nothing = none.0 refl in
    let core : core_of mid ≡ core_of old = idle_flush old mid pending steps in record {
      entries = flush_entries 0 (core_of old) ++ [];
      steps = steps_both old mid new (flush_entries 0 (core_of old)) [] steps (steps_unread mid new unchanged same.0 same.1);
      unrecorded = unrecorded_flush old.store.limits (core_of old);
      changes = changes_read old mid new steps changes unchanged;
      nothing_pending = ap (λ (s : State). s.pending) unchanged.is ∙ ap (λ (c : Core). c.pending) core ∙ pending;
      xorbs = ap (λ (s : State). s.xorbs) unchanged.is ∙ ap (λ (c : Core). c.xorbs) core;
      records = ap (λ (s : State). s.records) unchanged.is ∙ ap (λ (c : Core). c.records) core;
    }
settled_of old mid new (Some h) none flushed steps changes unchanged same = record {
  entries = flush_entries 0 (core_of old) ++ [];
  steps = steps_both old mid new (flush_entries 0 (core_of old)) [] steps (steps_unread mid new unchanged same.0 same.1);
  unrecorded = unrecorded_flush old.store.limits (core_of old);
  changes = changes_read old mid new steps changes unchanged;
  nothing_pending = ap (λ (s : State). s.pending) unchanged.is ∙ flushed.nothing_pending;
  xorbs = ap (λ (s : State). s.xorbs) unchanged.is ∙ flushed.xorbs;
  records = ap (λ (s : State). s.records) unchanged.is ∙ flushed.records;
}

-- ---- the record of a file whose hash was new

-- the record of the file of these bytes over a plan
abbrev made_of : LimitSettings → List ℕ → List Segment → MDBFileInfo
made_of l bytes segments = file_record (leaves_of (chunking l bytes)) segments (Some (sha256 bytes))

-- Files were cleaned in a session, by these entries, and nothing is pending any more.
module _ (old before after : RecordedState) (files : List (List ℕ)) (entries : List Entry) (taken : Steps old before entries) (only : AllByRecursion (RecordsFile Compute old.store.limits files) entries) (settled : IsSettled before after)
    (sound : Sound after.store) (recorded : IsRecorded after) (told : old.store.tells ≡ true) where
  all_steps : Steps old after (entries ++ settled.entries)
  all_steps = steps_both old before after entries settled.entries taken settled.steps

  told_after : after.store.tells ≡ true
  told_after = all_steps.keeps.tells ∙ told

  -- what an entry added is listed at every time
  added_listed : (pass : ℕ) (g : MDBFileInfo) → IsAmong entries (Complete pass g true) → (time : ℕ) → time < 2 ^ 64 → Lists after.store.files after.store.folder time g
  added_listed pass g among = either (subst (λ (c : Core). LastsIn c g) (sym all_steps.moves.leads) (added_lasts old.store.tells (core_of old) (entries ++ settled.entries) all_steps.moves.legal pass g (here_more entries settled.entries (Complete pass g true) among)))
    where
      either : IsAmong after.store.pending.files g ⊎ Any (λ r. HasLasting r.contents g) after.shards → (time : ℕ) → time < 2 ^ 64 → Lists after.store.files after.store.folder time g
      either (inl pending) time below = absurd (none_among after.store.pending.files g (ap (λ (p : Held). p.files) settled.nothing_pending) pending)
      either (inr any) time below = lasting_listed after sound recorded told_after g any time below

  -- a file that an entry added is one of these
  made_one : (h : List ℕ) → IsAdded entries h → (made : List ℕ) × IsAmong files made × (hash_of_file old.store.limits made ≡ h) × ListsMadeIn old.store.limits after.store made
  made_one h a =
      let (m, among, made) = one_of (RecordsFile Compute old.store.limits files) entries (Complete a.pass a.file true) only (to_among entries (Complete a.pass a.file true) a.among) in (
        m,
        among,
        ap file_record_hash (sym made.is) ∙ a.hash,
        (made.segments, λ time below. subst (λ (g : MDBFileInfo). Lists after.store.files after.store.folder time g) made.is (added_listed a.pass a.file a.among time below)),
      )

  known_by : (h : List ℕ) → RecordsHash entries h → is_new (after_all (core_of old) entries).records h ≡ false
  known_by h (pass, file, added, among, is) = subst (λ (k : List ℕ). is_new (after_all (core_of old) entries).records k ≡ false) is (known_completed (core_of old) entries pass file added among)

  made_each_in : (fs : List (List ℕ)) → AllByRecursion (λ bytes. bytes ≢ [] → RecordsHash entries (hash_of_file old.store.limits bytes)) fs
      → AllByRecursion (λ bytes. bytes ≢ [] → found old.store.records (hash_of_file old.store.limits bytes) ≡ None
      → (made : List ℕ) × IsAmong files made × (hash_of_file old.store.limits made ≡ hash_of_file old.store.limits bytes) × ListsMadeIn old.store.limits after.store made) fs
  made_each_in [] each = tt
  made_each_in (f ∷ fs) each = (
    λ some none.
        let h = hash_of_file old.store.limits f in
        made_one h (added_first old.store.tells (core_of old) entries taken.moves.legal h (new_if_none old.store.records h none) (known_by h (each.0 some))),
    made_each_in fs each.1,
  )

  pub made_in : AllByRecursion (λ bytes. bytes ≢ [] → RecordsHash entries (hash_of_file old.store.limits bytes)) files → MakesIn old.store files after.store
  made_in each = made_each_in files each

-- ---- of files

module _ (tells : Bool) (disk files : Files) (limits : LimitSettings) (now : ℕ) (s t : State) (told : tells ≡ true) (opened : IsOpened tells false disk store_folder limits now s) (sound : Sound s)
    (keeps : Keeps s t) (is : files ≡ t.files) where
  -- a hash of which nothing was listed has no record
  not_recorded : (h : List ℕ) → (ListsHash disk now h → ⊥) → found s.records h ≡ None
  not_recorded h none = go (found s.records h) refl
    where
      listed : (f : MDBFileInfo) → found s.records h ≡ Some f → IsAmong s.pending.files f ⊎ (s.tells ≡ true → IsKept s.files s.folder s.opened s.shards f) → ⊥
      listed f e (inl among) = none_among s.pending.files f (ap (λ (p : Held). p.files) opened.nothing_pending) among
      listed f e (inr kept) =
          let one : Lists s.files s.folder s.opened f = (kept (opened.same_tells ∙ told)).lists in
          let of_files : Lists disk s.folder s.opened f = subst (λ (x : Files). Lists x s.folder s.opened f) (opened.same_files refl) one in
          let of_folder : Lists disk store_folder s.opened f = subst (λ (x : List ℕ). Lists disk x s.opened f) opened.same_folder of_files in
          none (f, subst (λ (n : ℕ). Lists disk store_folder n f) opened.time of_folder, (found_has (IsRecord s.xorbs) s.records h f sound.recorded e).named)

      go : (o : Option MDBFileInfo) → found s.records h ≡ o → found s.records h ≡ None
      go None e = e
      go (Some f) e = absurd (listed f e (sound.kept h f e))

  made_each : (all fs : List (List ℕ))
      → AllByRecursion (λ bytes. bytes ≢ [] → found s.records (hash_of_file s.limits bytes) ≡ None
      → (made : List ℕ) × IsAmong all made × (hash_of_file s.limits made ≡ hash_of_file s.limits bytes) × ListsMadeIn s.limits t made) fs
      → AllByRecursion (λ bytes. bytes ≢ [] → (ListsHash disk now (hash_of_file limits bytes) → ⊥)
      → (made : List ℕ) × IsAmong all made × (hash_of_file limits made ≡ hash_of_file limits bytes) × ListsMade limits files made) fs
  made_each all [] each = tt
  made_each all (f ∷ fs) each = (
    (λ some none.
        let l : s.limits ≡ limits = opened.same_limits in
        let m = each.0 some (not_recorded (hash_of_file s.limits f) (subst (λ (x : LimitSettings). ListsHash disk now (hash_of_file x f) → ⊥) (sym l) none)) in (
          m.0,
          m.1,
          subst (λ (x : LimitSettings). hash_of_file x m.0 ≡ hash_of_file x f) l m.2,
          (
            m.3.0,
            λ time below.
                let of_files : Lists files t.folder time (made_of s.limits m.0 m.3.0) = subst (λ (x : Files). Lists x t.folder time (made_of s.limits m.0 m.3.0)) (sym is) (m.3.1 time below) in
                let of_folder : Lists files store_folder time (made_of s.limits m.0 m.3.0) = subst (λ (x : List ℕ). Lists files x time (made_of s.limits m.0 m.3.0)) (keeps.folder ∙ opened.same_folder) of_files in
                subst (λ (x : LimitSettings). Lists files store_folder time (made_of x m.0 m.3.0)) l of_folder,
          ),
        )),
    made_each all fs each.1,
  )

  pub makes : (stored : List (List ℕ)) → MakesIn s stored t → Makes limits stored now disk files
  makes stored made = made_each stored stored made

  -- what is stored in a session is stored on the disk that it hands back
  pub are_stored : (stored : List (List ℕ)) → Records s.limits stored s.opened t.files → MakesIn s stored t → ListsNoOther s stored t → AreStored limits stored now disk files
  are_stored stored recorded made other = record {
    recorded = subst (λ (l : LimitSettings). Records l stored now files) opened.same_limits (subst (λ (n : ℕ). Records s.limits stored n files) opened.time (subst (λ (x : Files). Records s.limits stored s.opened x) (sym is) recorded));
    made = makes stored made;
    only = only_on_disk tells disk files limits now s t opened is stored other;
    tidy = tidy_on_disk tells disk files limits now s t opened is stored other;
  }

-- where no file was to be recorded
pub none_recorded : (tells : Bool) (disk files : Files) (limits : LimitSettings) (now : ℕ) (s t : State) → IsOpened tells false disk store_folder limits now s → files ≡ t.files → ListsNoOther s [] t → AreStored limits [] now disk files
none_recorded tells disk files limits now s t opened is other = record {
  recorded = λ apart. tt;
  made = tt;
  only = only_on_disk tells disk files limits now s t opened is [] other;
  tidy = tidy_on_disk tells disk files limits now s t opened is [] other;
}
