-- What cleaning files gives.
use Rattle.std.proofs.Common.{◌≡◌, ◌≢◌, ◌∙◌, inl, inr, ℕ, zero, suc, ◌<◌, ◌≤◌, Bool, true, false, leb, All, List, [], ◌∷◌, ◌++◌, length, map, drop, get_or, is_some, subst, arith, refl, sym, ap}
use Rattle.std.proofs.lemmas.Bool.{and_parts, cases_lt, false≢true, le-leb, lt-leb}
use Rattle.std.proofs.lemmas.List.{drop_at}
use Rattle.std.proofs.lemmas.List.Elements.{All-from_recursion, recursion_from_All}
use Rattle.std.proofs.lemmas.List.Sorted.{All-permutation, IsPermutation-sym}
use Rattle.std.specs.List.{AllByRecursion, IsAmong, flat_map, list_all}
use Rattle.std.specs.List.Sorted.{IsPermutation}
use Rattle.xet_choices.specs.Calls.{Call}
use Rattle.xet_choices.specs.declared.choice.Choice.{Choice}
use Rattle.xet_history.specs.declared.entry.Entry.{Entry}
use Rattle.xet_history.specs.declared.entry.Entry.TheVariants.{Query, Register, Complete, Flush, Fault}
use Rattle.xet_shard_format.specs.Records.{file_record_hash}
use Rattle.xet_shard_format.specs.declared.record.MDBFileInfo.{MDBFileInfo}
use Rattle.xet_io.specs.Faults.{Rose}
use Rattle.xet_hash.specs.declared.error.StoreError.{StoreError}
use Rattle.xet_hash.specs.declared.error.StoreError.TheVariants.{Io, MalformedData, TooLarge}
use Rattle.xet_hash.specs.declared.error.StoreError.TheVariants as error
use Rattle.xet_hash.specs.declared.error.Place.TheVariants as place
use Rattle.xet_hash.specs.declared.error.What.TheVariants as what
use Rattle.xet_cut.specs.declared.limits.LimitSettings.{LimitSettings}
use Rattle.xet_store_disk.specs.declared.info.XetFileInfo.{XetFileInfo}
use Rattle.xet_cut.specs.Chunking.{chunking}
use Rattle.xet_clean.specs.Cleaning.{HasReason, entries_since, files_in}
use Rattle.xet_store_disk.specs.Cleaning.{EachTold, IsLongAt, RoseAt, chunkings, info_of}
use Rattle.xet_store.specs.Recorded.{RecordedState}
use Rattle.xet_workers.specs.Cleaning.{AreChosenBy}
use Rattle.xet_program.specs.declared.ending.Stop.{Stop}
use Rattle.xet_program.specs.declared.ending.Stop.TheVariants as stop
use Rattle.xet_program.specs.declared.lines.FileRange.{FileRange}
use Rattle.xet_program.specs.Allowed.{are_short}
use Rattle.xet_program.specs.Lines.{numbered, range_bytes}
use Rattle.xet_program.specs.internal.Parsing.{Said, are_good}
use Rattle.xet_program.specs.Report.{file_line, hash_of_file}
use Rattle.xet_program.specs.internal.Report.{info_line}
use Rattle.xet_program.specs.internal.Cleaned.{AreCleaned, RecordsHash}
use Rattle.xet_program.specs.internal.Steps.{hash_at}
use Rattle.xet_program.specs.internal.Stops.{IsStop, cleaning_causes, session_causes, stop_of_error}
use Rattle.xet_program.proofs.Ranged.{numbered_past, numbered_zero, range_none}

-- ---- pointer records

-- the files that were read are those of the sources
pub files_told : (sources files : List (List ℕ)) → EachTold (λ _. true) (λ f. f) (λ bytes file. file ≡ bytes) sources files → files ≡ sources
files_told [] [] told = refl
files_told [] (f ∷ fs) told = absurd told
files_told (s ∷ ss) [] told = absurd told
files_told (s ∷ ss) (f ∷ fs) told = ap (λ (x : List ℕ). x ∷ fs) (told.0 refl) ∙ ap (λ (xs : List (List ℕ)). s ∷ xs) (files_told ss fs told.1)

pub all_tell : (sources : List (List ℕ)) → AllByRecursion (λ (f : List ℕ). true ≡ true) sources
all_tell [] = tt
all_tell (f ∷ fs) = (refl, all_tell fs)

-- the pointer record of a file has the file's line
line_of_info : (s : LimitSettings) (bytes : List ℕ) → info_line (info_of s bytes) ≡ file_line s bytes
unfolding info_line file_line
line_of_info s bytes = refl

pub lines_of_infos : (s : LimitSettings) (files : List (List ℕ)) → flat_map info_line (map (info_of s) files) ≡ flat_map (file_line s) files
lines_of_infos s [] = refl
lines_of_infos s (f ∷ fs) =
    ap (λ (t : List ℕ). t ++ flat_map info_line (map (info_of s) fs)) (line_of_info s f) ∙ ap (λ (t : List ℕ). file_line s f ++ t) (lines_of_infos s fs)

-- the hash of one of them, by its number
hash_next : (infos : List XetFileInfo) (k : ℕ) (d : XetFileInfo) → k < length infos → hash_at infos (suc k) ≡ (get_or infos k d).hash
hash_next [] k d here = absurd (omega arith)
hash_next (i ∷ is) zero d here = refl
hash_next (i ∷ is) (suc k) d here = hash_next is k d (omega arith)

pub hash_read : (infos : List XetFileInfo) (n k : ℕ) (info : XetFileInfo) → n ≡ suc k → k < length infos → info ≡ get_or infos k info → hash_at infos n ≡ info.hash
hash_read infos n k info e here is = ap (hash_at infos) e ∙ hash_next infos k info here ∙ ap (λ (i : XetFileInfo). i.hash) (sym is)

-- ---- good ranges have the number of a file

bounds_of_one : (files : List (List ℕ)) (r : FileRange) → is_some (range_bytes files r) ≡ true → (0 < r.file) × (r.file ≤ length files)
bounds_of_one files r good = (
  elim (cases_lt 0 r.file) [
    | inl low ↦ low
    | inr least ↦
        let first : r.file ≡ 0 = omega arith in
        absurd (false≢true (sym (range_none files r (ap (numbered files) first ∙ numbered_zero files)) ∙ good))
  ],
  elim (cases_lt (length files) r.file) [
    | inl past ↦ absurd (false≢true (sym (range_none files r (numbered_past files r.file past)) ∙ good))
    | inr high ↦ high
  ],
)

bounds_each : (files : List (List ℕ)) (rs : List FileRange) → list_all (λ r. is_some (range_bytes files r)) rs ≡ true → AllByRecursion (λ r. (0 < r.file) × (r.file ≤ length files)) rs
bounds_each files [] good = tt
bounds_each files (r ∷ rs) good =
    let parts = and_parts (is_some (range_bytes files r)) (list_all (λ q. is_some (range_bytes files q)) rs) good in
    (bounds_of_one files r parts.0, bounds_each files rs parts.1)

pub bounds_of_good : (said : Said) → are_good said ≡ true → All (λ r. (0 < r.file) × (r.file ≤ length said.files)) said.ranges
bounds_of_good said good = All-from_recursion (λ r. (0 < r.file) × (r.file ≤ length said.files)) said.ranges (bounds_each said.files said.ranges good)

-- ---- why cleaning stops

module _ {S : Type 0} (tells : S → Bool) (left : S → List ℕ) (faults : S → ℕ) (old new : List S) (before after : RecordedState) where
  abbrev pub Reason : StoreError → Type 0
  Reason e = HasReason tells left faults old new before after e

  pub stop_of_reason : (e : StoreError) → Reason e → IsStop (cleaning_causes tells left faults old new before after) (stop_of_error e)
  stop_of_reason (Io (place.Source i)) reason = (i, reason)
  stop_of_reason (Io place.Disk) reason = tt
  stop_of_reason (Io place.Input) reason = absurd reason
  stop_of_reason (Io place.Output) reason = absurd reason
  stop_of_reason (TooLarge (what.Source i)) reason = inl (i, reason)
  stop_of_reason (TooLarge what.Shards) reason = inr reason.0
  stop_of_reason (TooLarge what.Input) reason = absurd reason
  stop_of_reason (MalformedData r) reason = λ told all apart ends. reason told all ends apart
  stop_of_reason error.UnexpectedEof reason = absurd reason
  stop_of_reason error.ChunkHeaderParse reason = absurd reason
  stop_of_reason error.HashMismatch reason = absurd reason
  stop_of_reason (error.CompressionError scheme) reason = absurd reason
  stop_of_reason (error.InvalidShard hash r) reason = absurd reason
  stop_of_reason _ reason = tt

  pub rose_of_reason : (e : StoreError) → Reason e → stop_of_error e ≡ stop.Disk → Rose before.store.faults after.store.faults
  rose_of_reason (Io (place.Source i)) reason is = absurd (cc is)
  rose_of_reason (Io place.Disk) reason is = reason
  rose_of_reason (Io place.Input) reason is = absurd reason
  rose_of_reason (Io place.Output) reason is = absurd reason
  rose_of_reason (TooLarge w) reason is = absurd (cc is)
  rose_of_reason (MalformedData r) reason is = absurd (cc is)
  rose_of_reason _ reason is = absurd (cc is)

-- a source that is too long
pub long_one : {S : Type 0} (tells : S → Bool) (left : S → List ℕ) (most : ℕ) (sources : List S) (i : ℕ) → AllByRecursion (λ s. tells s ≡ true) sources → IsLongAt tells left sources most i
    → list_all (λ f. leb (length f) most) (map left sources) ≡ false
long_one tells left most [] i all long = absurd long
long_one tells left most (s ∷ ss) zero all long = rw (lt-leb (length (left s)) most (long all.0)) refl
long_one tells left most (s ∷ ss) (suc i) all long = by_cases (leb (length (left s)) most) refl (long_one tells left most ss i all.1 long)
  where
    by_cases : (b : Bool) → leb (length (left s)) most ≡ b → list_all (λ x. leb (length x) most) (map left ss) ≡ false → list_all (λ x. leb (length x) most) (map left (s ∷ ss)) ≡ false
    by_cases true t rest = rw (t) rest
    by_cases false t rest = rw (t) refl

-- sources that are all short have short files
pub short_of_sources : {S : Type 0} (tells : S → Bool) (left : S → List ℕ) (l : LimitSettings) (sources : List S) (files : List (List ℕ)) → EachTold tells left (λ bytes file. file ≡ bytes) sources files
    → AllByRecursion (λ s. tells s ≡ true → length (left s) ≤ l.max_source_bytes) sources → AllByRecursion (λ s. tells s ≡ true) sources → are_short l files ≡ true
short_of_sources tells left l [] [] each short all = refl
short_of_sources tells left l [] (f ∷ fs) each short all = absurd each
short_of_sources tells left l (s ∷ ss) [] each short all = absurd each
short_of_sources tells left l (s ∷ ss) (f ∷ fs) each short all =
    let fits : length f ≤ l.max_source_bytes = omega (arith, ap (λ (x : List ℕ). length x) (each.0 all.0), short.0 all.0) in
    rw (le-leb (length f) l.max_source_bytes fits) (short_of_sources tells left l ss fs each.1 short.1 all.1)

-- a source in memory never fails
never_rose : (old new : List (List ℕ)) (i : ℕ) → RoseAt (λ _. 0) old new i → ⊥
never_rose [] new i rose = rose
never_rose (o ∷ os) [] i rose = rose
never_rose (o ∷ os) (n ∷ ns) zero rose = omega arith
never_rose (o ∷ os) (n ∷ ns) (suc i) rose = never_rose os ns i rose

map_same : (xs : List (List ℕ)) → map (λ (f : List ℕ). f) xs ≡ xs
map_same [] = refl
map_same (x ∷ xs) = ap (λ (ys : List (List ℕ)). x ∷ ys) (map_same xs)

-- files in memory that are cleaned
pub stop_of_files : (said : Said) (new : List (List ℕ)) (s t : RecordedState) (reason : Stop) → IsStop (cleaning_causes (λ _. true) (λ f. f) (λ _. 0) said.files new s t) reason → IsStop (session_causes s t said) reason
stop_of_files said new s t stop.OutOfMemory h = tt
stop_of_files said new s t stop.Input (i, rose) = absurd (never_rose said.files new i rose)
stop_of_files said new s t stop.TooLarge (inl (i, long)) =
    inl (subst (λ (fs : List (List ℕ)). list_all (λ f. leb (length f) s.store.limits.max_source_bytes) fs ≡ false) (map_same said.files) (long_one (λ _. true) (λ f. f) s.store.limits.max_source_bytes said.files i (all_tell said.files) long))
stop_of_files said new s t stop.TooLarge (inr full) = inr full
stop_of_files said new s t stop.Disk h = tt
stop_of_files said new s t stop.Malformed h = λ told apart. h told (all_tell said.files) apart.0 apart.1
stop_of_files said new s t stop.NotFound h = absurd h
stop_of_files said new s t (stop.BadLine n) h = absurd h
stop_of_files said new s t (stop.BadShard name) h = absurd h

-- ---- sources and their files

pub files_of_sources : {S : Type 0} (tells : S → Bool) (left : S → List ℕ) (sources : List S) (files : List (List ℕ)) → EachTold tells left (λ bytes file. file ≡ bytes) sources files → AllByRecursion (λ s. tells s ≡ true) sources
    → files ≡ map left sources
files_of_sources tells left [] [] each all = refl
files_of_sources tells left [] (f ∷ fs) each all = absurd each
files_of_sources tells left (s ∷ ss) [] each all = absurd each
files_of_sources tells left (s ∷ ss) (f ∷ fs) each all =
    ap (λ (x : List ℕ). x ∷ fs) (each.0 all.0) ∙ ap (λ (xs : List (List ℕ)). left s ∷ xs) (files_of_sources tells left ss fs each.1 all.1)

pub count_of_sources : {S : Type 0} (tells : S → Bool) (left : S → List ℕ) (sources : List S) (files : List (List ℕ)) → EachTold tells left (λ bytes file. file ≡ bytes) sources files → length files ≡ length sources
count_of_sources tells left [] [] each = refl
count_of_sources tells left [] (f ∷ fs) each = absurd each
count_of_sources tells left (s ∷ ss) [] each = absurd each
count_of_sources tells left (s ∷ ss) (f ∷ fs) each = ap suc (count_of_sources tells left ss fs each.1)

pub chunked_map : {S : Type 0} (left : S → List ℕ) (l : LimitSettings) (sources : List S) → chunkings left l sources ≡ map (chunking l) (map left sources)
chunked_map left l [] = refl
chunked_map left l (s ∷ ss) = ap (λ (cs : List (List (List ℕ))). chunking l (left s) ∷ cs) (chunked_map left l ss)

pub chunked_files : {S : Type 0} (tells : S → Bool) (left : S → List ℕ) (l : LimitSettings) (sources : List S) (files : List (List ℕ)) → EachTold tells left (λ bytes file. file ≡ bytes) sources files → AllByRecursion (λ s. tells s ≡ true) sources
    → chunkings left l sources ≡ map (chunking l) files
chunked_files tells left l sources files each all = chunked_map left l sources ∙ ap (map (chunking l)) (sym (files_of_sources tells left sources files each all))

-- what is cleaned of files in memory
pub cleaned_files : (files : List (List ℕ)) (old new : RecordedState) (infos : List XetFileInfo) → (c : AreCleaned (λ _. true) (λ f. f) files old new infos) → c.files ≡ files
cleaned_files files old new infos c = files_told files c.files c.each

-- ---- entries of cleaning

-- the entries that a call added are those since its start
pub since_is : (old new : RecordedState) (entries : List Entry) → new.history ≡ old.history ++ entries → entries_since old new ≡ entries
since_is old new entries grown = ap (λ (es : List Entry). drop (length old.history) es) grown ∙ drop_at old.history entries (length old.history) refl

-- one of these entries made the record
abbrev HasMade : List Entry → MDBFileInfo → Type 0
HasMade entries file = (pass : ℕ) × (added : Bool) × IsAmong entries (Complete pass file added)

later : (e x : Entry) (es : List Entry) → IsAmong es x → IsAmong (e ∷ es) x
later e x es here = (suc here.0, (omega (arith, here.1.0), here.1.1))

all_made : (all entries : List Entry) → ((e : Entry) → IsAmong entries e → IsAmong all e) → AllByRecursion (HasMade all) (files_in entries)
all_made all [] among = tt
all_made all (Query pass hashes reply ∷ es) among = all_made all es (λ e here. among e (later _ e es here))
all_made all (Register pass chunks next added ∷ es) among = all_made all es (λ e here. among e (later _ e es here))
all_made all (Complete pass file added ∷ es) among = (
  (pass, added, among (Complete pass file added) (0, (omega arith, refl))),
  all_made all es (λ e here. among e (later _ e es here)),
)
all_made all (Flush pass shard ∷ es) among = all_made all es (λ e here. among e (later _ e es here))
all_made all (Fault pass kind ∷ es) among = all_made all es (λ e here. among e (later _ e es here))

-- each file that is not empty is recorded by one of them
chosen_recorded : (workers : ℕ) (s : LimitSettings) (entries : List Entry) (calls : ℕ → List Call) (files : List (List ℕ)) (choices : List (List Choice)) (records : List MDBFileInfo) → AllByRecursion (HasMade entries) records
    → AreChosenBy workers s calls files choices records → AllByRecursion (λ bytes. bytes ≢ [] → RecordsHash entries (hash_of_file s bytes)) files
chosen_recorded workers s entries calls [] choices records made chosen = tt
chosen_recorded workers s entries calls (f ∷ fs) [] records made chosen = absurd chosen
chosen_recorded workers s entries calls ([] ∷ fs) (c ∷ cs) records made chosen = (λ some. absurd (some refl), chosen_recorded workers s entries calls fs cs records made chosen.1)
chosen_recorded workers s entries calls ((b ∷ bs) ∷ fs) (c ∷ cs) [] made chosen = absurd chosen
chosen_recorded workers s entries calls ((b ∷ bs) ∷ fs) (c ∷ cs) (r ∷ rs) made chosen = (
  λ some. (made.0.0, r, made.0.1, made.0.2, ap file_record_hash chosen.0.choices.is),
  chosen_recorded workers s entries calls fs cs rs made.1 chosen.1,
)

pub chosen_all : (workers : ℕ) (s : LimitSettings) (entries : List Entry) (calls : ℕ → List Call) (files : List (List ℕ)) (choices : List (List Choice)) (records : List MDBFileInfo)
    → IsPermutation records (files_in entries) → AreChosenBy workers s calls files choices records → AllByRecursion (λ bytes. bytes ≢ [] → RecordsHash entries (hash_of_file s bytes)) files
chosen_all workers s entries calls files choices records made chosen =
    let each = All-from_recursion (HasMade entries) (files_in entries) (all_made entries entries (λ e here. here)) in
    chosen_recorded workers s entries calls files choices records (recursion_from_All (HasMade entries) records (All-permutation (HasMade entries) _ _ (IsPermutation-sym _ _ made) each)) chosen
