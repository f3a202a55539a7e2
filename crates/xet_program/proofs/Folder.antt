-- What a session shows of its folder: whether it is full, and whether its chunks are apart.
use Rattle.std.proofs.Common.{◌≡◌, ◌≢◌, ◌∙◌, inl, inr, ℕ, suc, ◌≤◌, Bool, true, false, List, [], ◌∷◌, length, map, Option, Some, None, Result, Ok, Err, IfErr, IfOk, OnOk, Vec, Global, refl, sym, ap, subst, arith}
use Rattle.std.proofs.lemmas.List.{length-map}
use Rattle.std.specs.Prelude.{Any, AllPairs}
use Rattle.std.specs.List.{flat_map}
use Rattle.std.specs.Result.{IsErrOf}
use Rattle.xet_cut.specs.Chunking.{chunking}
use Rattle.xet_cut.specs.declared.limits.LimitSettings.{LimitSettings}
use Rattle.xet_folder.specs.Contents.{IsFolderError, max_shards}
use Rattle.xet_folder.specs.Plan.{Resolves}
use Rattle.xet_folder.specs.Stored.{IsStored}
use Rattle.xet_hash.specs.declared.error.Place.TheVariants as place
use Rattle.xet_hash.specs.declared.error.StoreError.{StoreError}
use Rattle.xet_hash.specs.declared.error.StoreError.TheVariants as error
use Rattle.xet_hash.specs.declared.error.What.TheVariants as what
use Rattle.xet_history.specs.Found.{key_of}
use Rattle.xet_history.specs.Sound.{IsKey}
use Rattle.xet_io.specs.Disk.{Files}
use Rattle.xet_io.specs.Named.{Named}
use Rattle.xet_shard_file.specs.Shards.{IsThere, Registers, ShardFile}
use Rattle.xet_store_disk.specs.Cleaning.{Keeps}
use Rattle.xet_store_disk.specs.Opening.{IsOpened, contents_of}
use Rattle.xet_store_disk.specs.Ranges.{IsRange}
use Rattle.xet_store_disk.specs.Separate.{Among, MetChunk}
use Rattle.xet_store_disk.specs.Store.{Differ, Sound, State, recorded_files}
use Rattle.xet_store_disk.specs.theorems.Admitting.{of_any, one_of}
use Rattle.xet_store_disk.specs.theorems.Rows.{from_among}
use Rattle.xet_store.specs.Recorded.{IsRecorded, RecordedState, core_of}
use Rattle.xet_store.specs.theorems.Lasting.{shard_readable}
use Rattle.xet_store.specs.theorems.Sound.{among_map}
use Rattle.xet_program.specs.declared.ending.Stop.{Stop}
use Rattle.xet_program.specs.declared.ending.Stop.TheVariants as stop
use Rattle.xet_program.specs.Answers.{IsRangeOf, listed_line}
use Rattle.xet_program.specs.Ending.{CanOpen}
use Rattle.xet_program.specs.Making.{both_files}
use Rattle.xet_program.specs.Reasons.{AreApart, IsFull, IsKeyHere, MetHere}
use Rattle.xet_program.specs.Tasks.{default_limits, store_folder}
use Rattle.xet_program.specs.Allowed.{are_short}
use Rattle.xet_program.specs.internal.Parsing.{Said}
use Rattle.xet_program.specs.internal.Stops.{Causes, ForValid, IsApartFor, IsStop, answer_outcome, cleaning_store_causes, filing_causes, finding_causes, folder_causes, making_causes, naming_causes, reading_range_causes, session_causes, stop_of_refusal, storing_causes}

-- ---- a list whose elements differ is no longer than one that has them all

module _ {X : Type 0} where
  abbrev without : (ys : List X) (x : X) → Among ys x → List X
  without [] x a = absurd a
  without (y ∷ ys) x (inl e) = ys
  without (y ∷ ys) x (inr a) = y ∷ without ys x a

  one_longer : (ys : List X) (x : X) (a : Among ys x) → suc (length (without ys x a)) ≡ length ys
  one_longer [] x a = absurd a
  one_longer (y ∷ ys) x (inl e) = refl
  one_longer (y ∷ ys) x (inr a) = ap suc (one_longer ys x a)

  stays_without : (ys : List X) (x z : X) (a : Among ys x) → x ≢ z → Among ys z → Among (without ys x a) z
  stays_without [] x z a other b = absurd b
  stays_without (y ∷ ys) x z (inl e) other (inl f) = absurd (other (sym e ∙ f))
  stays_without (y ∷ ys) x z (inl e) other (inr b) = b
  stays_without (y ∷ ys) x z (inr a) other (inl f) = inl f
  stays_without (y ∷ ys) x z (inr a) other (inr b) = inr (stays_without ys x z a other b)

  differs : (x : X) (xs : List X) (z : X) → AllPairs (λ a b. a ≢ b) (x ∷ xs) → Among xs z → x ≢ z
  differs x xs z pairs a = let i = from_among xs z a in subst (λ (v : X). x ≢ v) (sym i.1.1) (pairs 0 (suc i.0) z (omega arith) (omega (arith, i.1.0)))

  no_longer : (xs ys : List X) → AllPairs (λ a b. a ≢ b) xs → ((x : X) → Among xs x → Among ys x) → length xs ≤ length ys
  no_longer [] ys pairs all = omega arith
  no_longer (x ∷ xs) ys pairs all =
      let a = all x (inl refl) in
      let rest = no_longer xs (without ys x a) (λ i j d before below. pairs (suc i) (suc j) d (omega (arith, before)) (omega (arith, below)))
      (λ z b. stays_without ys x z a (differs x xs z pairs b) (all z (inr b))) in
      omega (arith, rest, one_longer ys x a)

-- ---- a session over its folder

module _ (s : RecordedState) (sound : Sound s.store) (recorded : IsRecorded s) (told : s.store.tells ≡ true) (folder : s.store.folder ≡ store_folder) (disk : Files) (is : disk ≡ s.store.files) (now : ℕ) (time : s.store.opened ≡ now) where
  -- if as many shards are registered as can be, the folder is full
  pub full_folder : max_shards ≤ length s.store.shards → IsFull disk now
  full_folder full =
      let admitted = sound.admitted told in
      let among : (h : List ℕ) → Among s.store.shards h → Among (map (λ (x : ShardFile). x.hash) admitted.shards) h = λ h a.
      (let (f, here, same) = of_any (λ (x : ShardFile). x.hash ≡ h) admitted.shards (one_of (λ k. Any (λ (x : ShardFile). x.hash ≡ k) admitted.shards) s.store.shards h admitted.among a) in
      subst (λ (k : List ℕ). Among (map (λ (x : ShardFile). x.hash) admitted.shards) k) same (among_map (λ (x : ShardFile). x.hash) admitted.shards f here)) in
      let few = no_longer s.store.shards (map (λ (x : ShardFile). x.hash) admitted.shards) (recorded.shards.differ told) among in
      let of_disk : Registers disk s.store.folder s.store.opened admitted.shards = subst (λ (x : Files). Registers x s.store.folder s.store.opened admitted.shards) (sym is) admitted.admits.registers in
      let of_folder : Registers disk store_folder s.store.opened admitted.shards = subst (λ (f : List ℕ). Registers disk f s.store.opened admitted.shards) folder of_disk in
      record {
        shards = admitted.shards;
        registers = subst (λ (n : ℕ). Registers disk store_folder n admitted.shards) time of_folder;
        many = omega (arith, full, few, length-map admitted.shards (λ (x : ShardFile). x.hash));
      }

  key_here : (key : List ℕ) → IsKey (core_of s) key → IsKeyHere s.store.files s.store.opened key
  key_here key (inl zero) = inl zero
  key_here key (inr any) =
      let (r, among, same) = of_any (λ r. key_of r ≡ key) s.shards any in
      let read = shard_readable s sound recorded told r among in
      inr (read.shard, subst (λ (f : List ℕ). IsThere s.store.files f read.shard) folder read.there, read.valid, read.parts, read.read, read.key ∙ same)

  met_here : (files : List (List (List ℕ))) (b : List ℕ) → MetChunk s.store files b → MetHere s.store.files files b
  met_here files b (inl (h, c, has, among)) = inl (h, c, subst (λ (f : List ℕ). IsStored s.store.files f h c) folder has.1, among)
  met_here files b (inr given) = inr given

  -- what is apart in the folder is so in the session
  pub apart_folder : (l : LimitSettings) (files : List (List ℕ)) → AreApart disk now l files → IsApartFor l s files
  apart_folder l files given =
      let of_files : AreApart s.store.files now l files = subst (λ (x : Files). AreApart x now l files) is given in
      let apart : AreApart s.store.files s.store.opened l files = subst (λ (n : ℕ). AreApart s.store.files n l files) (sym time) of_files in (
        λ key a b is_key ma mb same. apart.chunks key a b (key_here key is_key) (met_here (map (chunking l) files) a ma) (met_here (map (chunking l) files) b mb) same,
        apart.named,
      )

-- ---- a folder that was not opened

pub stop_folder : (tells : Bool) (files : Files) (now before after : ℕ) (e : StoreError) (name : Option (List ℕ)) → IsFolderError tells files store_folder now before after e name → IsStop (folder_causes tells now files) (stop_of_refusal e name)
stop_folder tells files now before after e (Some name) h = let bad = h.0 in ((bad.hash, bad.is_hash, bad.named), λ told. (e, h.1 told))
stop_folder tells files now before after (error.Io place.Disk) None h = tt
stop_folder tells files now before after (error.Io place.Input) None h = absurd h
stop_folder tells files now before after (error.Io place.Output) None h = absurd h
stop_folder tells files now before after (error.Io (place.Source i)) None h = absurd h
stop_folder tells files now before after error.OutOfMemory None h = tt
stop_folder tells files now before after (error.TooLarge what.Shards) None h = h
stop_folder tells files now before after (error.TooLarge what.Input) None h = absurd h
stop_folder tells files now before after (error.TooLarge (what.Source i)) None h = absurd h
stop_folder tells files now before after _ None h = absurd h

abbrev Answer : Type 0
Answer = Result (Vec ℕ Global) Stop

-- the stop of a folder that was not opened, whatever else may stop the command
pub stop_refused : (causes : Causes) (r : Answer) (tells : Bool) (old files : Files) (now before after : ℕ) (e : StoreError) (name : Option (List ℕ)) → files ≡ old → IsFolderError tells files store_folder now before after e name
    → ((reason : Stop) → IsStop (folder_causes tells now old) reason → IsStop causes reason) → IsErrOf r (stop_of_refusal e name) → IfErr r (IsStop causes)
stop_refused causes (Ok t) tells old files now before after e name same refused more is = tt
stop_refused causes (Err f) tells old files now before after e name same refused more is =
    let here : f ≡ stop_of_refusal e name = cc is in
    subst (IsStop causes) (sym here) (more (stop_of_refusal e name) (subst (λ (x : Files). IsStop (folder_causes tells now x) (stop_of_refusal e name)) same (stop_folder tells files now before after e name refused)))

pub folder_storing : (tells : Bool) (s : LimitSettings) (said : Said) (now : ℕ) (old new : Files) → (reason : Stop) → IsStop (folder_causes tells now old) reason → IsStop (storing_causes tells s said now old new) reason
folder_storing tells s said now old new stop.OutOfMemory h = tt
folder_storing tells s said now old new stop.Disk h = tt
folder_storing tells s said now old new stop.TooLarge h = inr (inl h)
folder_storing tells s said now old new (stop.BadShard name) h = h
folder_storing tells s said now old new stop.Input h = absurd h
folder_storing tells s said now old new stop.NotFound h = absurd h
folder_storing tells s said now old new stop.Malformed h = absurd h
folder_storing tells s said now old new (stop.BadLine n) h = absurd h

pub folder_cleaning : (inputs_tell : Bool) (inputs : Named (List ℕ)) (names : List (List ℕ)) (tells : Bool) (now : ℕ) (old new : Files) → (reason : Stop) → IsStop (folder_causes tells now old) reason
    → IsStop (cleaning_store_causes inputs_tell inputs names tells now old new) reason
folder_cleaning it is ns tells now old new stop.OutOfMemory h = tt
folder_cleaning it is ns tells now old new stop.Disk h = tt
folder_cleaning it is ns tells now old new stop.TooLarge h = inr (inl h)
folder_cleaning it is ns tells now old new (stop.BadShard name) h = h
folder_cleaning it is ns tells now old new stop.Input h = absurd h
folder_cleaning it is ns tells now old new stop.NotFound h = absurd h
folder_cleaning it is ns tells now old new stop.Malformed h = absurd h
folder_cleaning it is ns tells now old new (stop.BadLine n) h = absurd h

pub folder_reading : (tells : Bool) (now : ℕ) (files : Files) (h : List ℕ) (from to : ℕ) (reason : Stop) → IsStop (folder_causes tells now files) reason → IsStop (reading_range_causes tells now files h from to) reason
folder_reading tells now files h from to stop.OutOfMemory is = tt
folder_reading tells now files h from to stop.Disk is = tt
folder_reading tells now files h from to stop.TooLarge is = is
folder_reading tells now files h from to (stop.BadShard name) is = is
folder_reading tells now files h from to stop.Input is = absurd is
folder_reading tells now files h from to stop.NotFound is = absurd is
folder_reading tells now files h from to stop.Malformed is = absurd is
folder_reading tells now files h from to (stop.BadLine n) is = absurd is

pub folder_making : (tells : Bool) (now : ℕ) (old new : Files) (bytes : List ℕ) → (reason : Stop) → IsStop (folder_causes tells now old) reason → IsStop (making_causes tells now old new bytes) reason
folder_making tells now old new bytes stop.OutOfMemory h = tt
folder_making tells now old new bytes stop.Disk h = tt
folder_making tells now old new bytes stop.TooLarge h = inl h
folder_making tells now old new bytes (stop.BadShard name) h = h
folder_making tells now old new bytes stop.Input h = absurd h
folder_making tells now old new bytes stop.NotFound h = absurd h
folder_making tells now old new bytes stop.Malformed h = absurd h
folder_making tells now old new bytes (stop.BadLine n) h = absurd h

-- ---- a folder that is only read

module _ (tells : Bool) (disk : Files) (limits : LimitSettings) (now : ℕ) (s : State) (opened : IsOpened tells false disk store_folder limits now s) (valid : tells ≡ true → CanOpen disk now (contents_of s)) where
  -- the lines of its files
  pub lists_opened : (r : Answer) → IfOk r (λ text. text.items ≡ flat_map listed_line (recorded_files s.records)) → OnOk r (Differ (recorded_files s.records))
      → IfOk r (λ text. ForValid tells disk now (λ contents. Differ (recorded_files contents.records) × (text.items ≡ flat_map listed_line (recorded_files contents.records))))
  lists_opened (Ok t) text differ = (contents_of s, valid, (differ, text))
  lists_opened (Err e) text differ = tt

  module _ (h : List ℕ) (from to : ℕ) where
    range_opened : (bytes : List ℕ) → IsRange s h from to bytes → IsRangeOf disk s.records h from to bytes
    range_opened bytes r =
        let on_disk : Resolves (IsStored disk s.folder) length r.plan r.chunks = subst (λ (x : Files). Resolves (IsStored x s.folder) length r.plan r.chunks) (opened.same_files refl) r.resolves in
        record { plan = r.plan; planned = r.planned; chunks = r.chunks; resolves = subst (λ (f : List ℕ). Resolves (IsStored disk f) length r.plan r.chunks) opened.same_folder on_disk; is = r.is }

    -- a range of a file
    pub reads_opened : (r : Answer) → (s.tells ≡ true → IfOk r (λ bytes. IsRange s h from to bytes.items))
        → IfOk r (λ bytes. ForValid tells disk now (λ contents. tells ≡ true → IsRangeOf disk contents.records h from to bytes.items))
    reads_opened (Ok t) read = (contents_of s, valid, λ told. range_opened t.items (read (opened.same_tells ∙ told)))
    reads_opened (Err e) read = tt

    stop_reading : (reason : Stop) → IsStop (finding_causes s h from to) reason → IsStop (reading_range_causes tells now disk h from to) reason
    stop_reading stop.OutOfMemory is = tt
    stop_reading stop.Disk is = tt
    stop_reading stop.NotFound is = (contents_of s, valid, is)
    stop_reading stop.Malformed is = sym opened.same_tells ∙ is
    stop_reading stop.TooLarge is = absurd is
    stop_reading stop.Input is = absurd is
    stop_reading (stop.BadLine n) is = absurd is
    stop_reading (stop.BadShard name) is = absurd is

    pub stops_reading : (r : Answer) → IfErr r (IsStop (finding_causes s h from to)) → IfErr r (IsStop (reading_range_causes tells now disk h from to))
    stops_reading (Ok t) is = tt
    stops_reading (Err e) is = stop_reading e is

-- ---- a session over the disk that it hands back

module _ (tells : Bool) (disk files : Files) (limits : LimitSettings) (now : ℕ) (s t : RecordedState) (opened : IsOpened tells false disk store_folder limits now s.store) (keeps : Keeps s.store t.store) (sound : Sound t.store)
    (recorded : IsRecorded t) (is : files ≡ t.store.files) where
  told_then : tells ≡ true → t.store.tells ≡ true
  told_then told = keeps.tells ∙ opened.same_tells ∙ told

  full_then : max_shards ≤ length t.store.shards → tells ≡ true → IsFull files now
  full_then full told = full_folder t sound recorded (told_then told) (keeps.folder ∙ opened.same_folder) files is now (keeps.opened ∙ opened.time) full

  apart_then : (stored : List (List ℕ)) → tells ≡ true → AreApart files now limits stored → IsApartFor s.store.limits t stored
  apart_then stored told apart = subst (λ (l : LimitSettings). IsApartFor l t stored) (sym opened.same_limits)
      (apart_folder t sound recorded (told_then told) (keeps.folder ∙ opened.same_folder) files is now (keeps.opened ∙ opened.time) limits stored apart)

  stop_storing : (said : Said) (reason : Stop) → (tells ≡ true → CanOpen disk now (contents_of s.store)) → IsStop (session_causes s t said) reason → IsStop (storing_causes tells limits said now disk files) reason
  stop_storing said stop.OutOfMemory valid h = tt
  stop_storing said stop.Disk valid h = tt
  stop_storing said stop.TooLarge valid (inl long) = inl (subst (λ (l : LimitSettings). are_short l said.files ≡ false) opened.same_limits long)
  stop_storing said stop.TooLarge valid (inr full) = inr (inr (contents_of s.store, valid, full_then full))
  stop_storing said stop.Malformed valid h = (contents_of s.store, valid, λ told apart. h (opened.same_tells ∙ told) (apart_then said.files told apart))
  stop_storing said stop.Input valid h = absurd h
  stop_storing said stop.NotFound valid h = absurd h
  stop_storing said (stop.BadLine n) valid h = absurd h
  stop_storing said (stop.BadShard name) valid h = absurd h

  pub stops_storing : (said : Said) (r : Answer) → (tells ≡ true → CanOpen disk now (contents_of s.store)) → IfErr r (IsStop (session_causes s t said)) → IfErr r (IsStop (storing_causes tells limits said now disk files))
  stops_storing said (Ok x) valid h = tt
  stops_storing said (Err e) valid h = stop_storing said e valid h

module _ (inputs_tell : Bool) (inputs : Named (List ℕ)) (names : List (List ℕ)) (tells : Bool) (disk files : Files) (now : ℕ) (s t : RecordedState) (opened : IsOpened tells false disk store_folder default_limits now s.store)
    (keeps : Keeps s.store t.store) (sound : Sound t.store) (recorded : IsRecorded t) (is : files ≡ t.store.files) (valid : tells ≡ true → CanOpen disk now (contents_of s.store)) where
  stop_cleaning : (reason : Stop) → IsStop (naming_causes inputs_tell inputs names s t) reason → IsStop (cleaning_store_causes inputs_tell inputs names tells now disk files) reason
  stop_cleaning stop.OutOfMemory h = tt
  stop_cleaning stop.Disk h = tt
  stop_cleaning stop.Input h = (contents_of s.store, valid, tt)
  stop_cleaning stop.NotFound h = (contents_of s.store, valid, h)
  stop_cleaning stop.TooLarge (inl long) = inl (contents_of s.store, valid, λ told. let l = long told in (l.0, l.1, subst (λ (x : LimitSettings). are_short x l.0 ≡ false) opened.same_limits l.2))
  stop_cleaning stop.TooLarge (inr (named, full)) = inr (inr (contents_of s.store, valid, (named, full_then tells disk files default_limits now s t opened keeps sound recorded is full)))
  stop_cleaning stop.Malformed h = (
    contents_of s.store,
    valid,
    λ inputs_told.
        let m = h inputs_told in (m.0, m.1, λ told apart. m.2 (opened.same_tells ∙ told) (apart_then tells disk files default_limits now s t opened keeps sound recorded is m.0 told apart)),
  )
  stop_cleaning (stop.BadLine n) h = absurd h
  stop_cleaning (stop.BadShard name) h = absurd h

  pub stops_cleaning : (r : Answer) → IfErr r (IsStop (naming_causes inputs_tell inputs names s t)) → IfErr r (IsStop (cleaning_store_causes inputs_tell inputs names tells now disk files))
  stops_cleaning (Ok x) h = tt
  stops_cleaning (Err e) h = stop_cleaning e h

module _ (tells : Bool) (disk files : Files) (now : ℕ) (s t : RecordedState) (opened : IsOpened tells false disk store_folder default_limits now s.store) (keeps : Keeps s.store t.store) (sound : Sound t.store) (recorded : IsRecorded t)
    (is : files ≡ t.store.files) (valid : tells ≡ true → CanOpen disk now (contents_of s.store)) (bytes : List ℕ) where
  stop_making : (reason : Stop) → IsStop (filing_causes s t (both_files bytes)) reason → IsStop (making_causes tells now disk files bytes) reason
  stop_making stop.OutOfMemory h = tt
  stop_making stop.Disk h = tt
  stop_making stop.TooLarge h = inr (contents_of s.store, valid, full_then tells disk files default_limits now s t opened keeps sound recorded is h)
  stop_making stop.Malformed h =
      (contents_of s.store, valid, λ told apart. h (opened.same_tells ∙ told) (apart_then tells disk files default_limits now s t opened keeps sound recorded is (both_files bytes) told apart))
  stop_making stop.Input h = absurd h
  stop_making stop.NotFound h = absurd h
  stop_making (stop.BadLine n) h = absurd h
  stop_making (stop.BadShard name) h = absurd h

  pub stops_making : (r : Answer) → IfErr r (IsStop (filing_causes s t (both_files bytes))) → IfErr r (IsStop (making_causes tells now disk files bytes))
  stops_making (Ok x) h = tt
  stops_making (Err e) h = stop_making e h

-- a session may have changed files at each of its stops
pub never_seven : (s t : RecordedState) (bytes : List ℕ) (X : Type 0) (r : Answer) → IfErr r (IsStop (filing_causes s t (both_files bytes))) → (answer_outcome r).status ≡ 7 → X
never_seven s t bytes X (Ok v) c seven = absurd (omega arith)
never_seven s t bytes X (Err stop.OutOfMemory) c seven = absurd (omega arith)
never_seven s t bytes X (Err stop.Disk) c seven = absurd (omega arith)
never_seven s t bytes X (Err stop.TooLarge) c seven = absurd (omega arith)
never_seven s t bytes X (Err stop.Malformed) c seven = absurd (omega arith)
never_seven s t bytes X (Err stop.Input) c seven = absurd c
never_seven s t bytes X (Err stop.NotFound) c seven = absurd c
never_seven s t bytes X (Err (stop.BadLine n)) c seven = absurd c
never_seven s t bytes X (Err (stop.BadShard name)) c seven = absurd c
