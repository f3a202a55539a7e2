-- What entries record: the rows that they add to the records.
use Rattle.std.proofs.Common.{◌≡◌, ◌≢◌, ◌∙◌, inl, inr, ℕ, zero, suc, Bool, true, false, cond, nat_eq, List, [], ◌∷◌, ◌++◌, map, Option, Some, None, IsSome, is_some, not, refl, sym, ap, subst, append-nil, append_assoc, arith}
use Rattle.std.specs.Cmp.Lexicographic.{bytes_decides, pointwise}
use Rattle.std.specs.List.{AllByRecursion, IsAmong}
use Rattle.std.proofs.lemmas.List.Elements.{All-from_recursion, recursion_from_All}
use Rattle.xet_base.specs.theorems.Elements.{all_both, all_more}
use Rattle.xet_folder.specs.Xorbs.{FileRecords, found}
use Rattle.xet_folder.specs.theorems.Tables.{found_here, found_kept}
use Rattle.xet_history.specs.Core.{Core, completed, flushed, is_new, registered}
use Rattle.xet_history.specs.History.{after, after_all}
use Rattle.xet_history.specs.declared.entry.Entry.{Entry}
use Rattle.xet_history.specs.declared.entry.Entry.TheVariants.{Query, Register, Complete, Flush, Fault}
use Rattle.xet_history.specs.theorems.Staying.{completed_cases, none_if_new, records_after_all, registered_cases, with_record}
use Rattle.xet_shard_format.specs.Records.{file_record_hash}
use Rattle.xet_shard_format.specs.declared.record.MDBFileInfo.{MDBFileInfo}
use Rattle.xet_store_disk.specs.Cleaning.{Adds, info_of}
use Rattle.xet_store_disk.specs.Separate.{Among}
use Rattle.xet_store_disk.specs.Store.{Differ, plan_of}
use Rattle.xet_store_disk.specs.theorems.Rows.{from_among, is_some_found, to_among}
use Rattle.xet_store_disk.specs.theorems.Staying.{all_among}
use Rattle.xet_base.specs.Pieces.{pieces_after}
use Rattle.xet_cut.specs.declared.limits.LimitSettings.{LimitSettings}
use Rattle.xet_hash.specs.Hash.{zero_hash}
use Rattle.xet_store_disk.specs.theorems.Files.{plan_empty, plan_some}
use Rattle.xet_clean.specs.Cleaning.{AreRecords, IsRecordFor, RecordsFile, files_in}
use Rattle.xet_clean.specs.theorems.Closing.{among_cons}
use Rattle.xet_clean.specs.theorems.Ending.{among_made}
use Rattle.xet_clean.specs.declared.policy.Sha256Policy.{Sha256Policy}

-- If the entry records a file, its hash is one of these.
abbrev pub RecordsHash : List (List ℕ) → Entry → Type 0
RecordsHash hashes (Query pass query reply) = Unit {0}
RecordsHash hashes (Register pass chunks next added) = Unit {0}
RecordsHash hashes (Complete pass file added) = IsAmong hashes (file_record_hash file)
RecordsHash hashes (Flush pass shard) = Unit {0}
RecordsHash hashes (Fault pass kind) = Unit {0}

-- ---- what was recorded is found

some_then : (xs ys : FileRecords) (h : List ℕ) → IsSome (found xs h) → IsSome (found (xs ++ ys) h)
some_then xs ys h is = go (found xs h) refl is
  where
    go : (o : Option MDBFileInfo) → found xs h ≡ o → IsSome o → IsSome (found (xs ++ ys) h)
    go None e bad = absurd (cc bad)
    go (Some f) e some = is_some_found (xs ++ ys) h f (found_kept xs ys h f e)

known : (rows : FileRecords) (h : List ℕ) → is_new rows h ≡ false → IsSome (found rows h)
known rows h old = go (found rows h) old
  where
    go : (o : Option MDBFileInfo) → not (is_some o) ≡ false → IsSome o
    go None e = absurd (cc e)
    go (Some f) e = refl

completed_found : (c : Core) (file : MDBFileInfo) → IsSome (found (completed c file).records (file_record_hash file))
completed_found c file =
    completed_cases c file (λ (d : Core). IsSome (found d.records (file_record_hash file)))
    (λ new. is_some_found (with_record c file).records (file_record_hash file) file (found_here c.records (file_record_hash file) file (none_if_new c.records (file_record_hash file) new)))
    (λ old. known c.records (file_record_hash file) old)

-- what entries record is found after them
pub recorded_found : (c : Core) (es : List Entry) → AllByRecursion (λ r. IsSome (found (after_all c es).records (file_record_hash r))) (files_in es)
recorded_found c [] = tt
recorded_found c (Query pass query reply ∷ es) = recorded_found c es
recorded_found c (Register pass chunks next added ∷ es) = recorded_found (registered c chunks) es
recorded_found c (Complete pass file added ∷ es) =
    let rest = records_after_all (completed c file) es in (
      subst (λ (rows : FileRecords). IsSome (found rows (file_record_hash file))) rest.1 (some_then (completed c file).records rest.0 (file_record_hash file) (completed_found c file)),
      recorded_found (completed c file) es,
    )
recorded_found c (Flush pass shard ∷ es) = recorded_found (flushed c) es
recorded_found c (Fault pass kind ∷ es) = recorded_found c es

-- ---- the records of files

-- each record is that of one of the files
abbrev pub IsRecordAmong : Sha256Policy → LimitSettings → List (List ℕ) → MDBFileInfo → Type 0
IsRecordAmong policy s files r = (bytes : List ℕ) × IsAmong files bytes × IsRecordFor policy s bytes r

pub each_record : (policy : Sha256Policy) (s : LimitSettings) (files : List (List ℕ)) (rs : List MDBFileInfo) → AreRecords policy s files rs → AllByRecursion (IsRecordAmong policy s files) rs
each_record policy s [] [] none = tt
each_record policy s [] (r ∷ rs) none = absurd (cc none)
each_record policy s ([] ∷ fs) rs all = all_more (IsRecordAmong policy s fs) (IsRecordAmong policy s ([] ∷ fs)) rs (λ r is. (is.0, among_cons [] fs is.0 is.1, is.2)) (each_record policy s fs rs all)
each_record policy s ((b ∷ bs) ∷ fs) [] all = absurd all
each_record policy s ((b ∷ bs) ∷ fs) (r ∷ rs) all = (
  (b ∷ bs, (0, (omega arith, refl)), all.0),
  all_more (IsRecordAmong policy s fs) (IsRecordAmong policy s ((b ∷ bs) ∷ fs)) rs (λ q is. (is.0, among_cons (b ∷ bs) fs is.0 is.1, is.2)) (each_record policy s fs rs all.1),
)

pub record_files : (policy : Sha256Policy) (s : LimitSettings) (files : List (List ℕ)) (es : List Entry) → AllByRecursion (IsRecordAmong policy s files) (files_in es) → AllByRecursion (RecordsFile policy s files) es
record_files policy s files [] all = tt
record_files policy s files (Query pass query reply ∷ es) all = (tt, record_files policy s files es all)
record_files policy s files (Register pass chunks next added ∷ es) all = (tt, record_files policy s files es all)
record_files policy s files (Complete pass file added ∷ es) all = (all.0, record_files policy s files es all.1)
record_files policy s files (Flush pass shard ∷ es) all = (tt, record_files policy s files es all)
record_files policy s files (Fault pass kind ∷ es) all = (tt, record_files policy s files es all)

-- what records a file records one of these
pub only_files : (policy : Sha256Policy) (s : LimitSettings) (files : List (List ℕ)) (es : List Entry) → AreRecords policy s files (files_in es) → AllByRecursion (RecordsFile policy s files) es
only_files policy s files es are = record_files policy s files es (each_record policy s files (files_in es) are)

-- the file without bytes has the hash zero
empty_hash : (s : LimitSettings) → (info_of s []).hash ≡ zero_hash
unfolding pieces_after
empty_hash s = refl

-- a file has a plan if its record is found
pub plans_found : (policy : Sha256Policy) (s : LimitSettings) (rows : FileRecords) (files : List (List ℕ)) (rs : List MDBFileInfo) → AreRecords policy s files rs → AllByRecursion (λ r. IsSome (found rows (file_record_hash r))) rs
    → AllByRecursion (λ bytes. IsSome (plan_of rows (info_of s bytes).hash)) files
plans_found policy s rows [] rs are all = tt
plans_found policy s rows ([] ∷ fs) rs are all = (subst (λ (h : List ℕ). IsSome (plan_of rows h)) (sym (empty_hash s)) (plan_empty rows), plans_found policy s rows fs rs are all)
plans_found policy s rows ((b ∷ bs) ∷ fs) [] are all = absurd are
plans_found policy s rows ((b ∷ bs) ∷ fs) (r ∷ rs) are all =
    (subst (λ (h : List ℕ). IsSome (plan_of rows h)) (ap file_record_hash are.0.is) (plan_some rows (file_record_hash r) all.0), plans_found policy s rows fs rs are.1 all.1)

-- ---- the rows that are added

-- these rows are added to the records, each under one of these hashes
pub record HasRows (hashes : List (List ℕ)) (old new : FileRecords) : Type 0 where
  pub added : FileRecords
  pub is : new ≡ old ++ added
  pub each : AllByRecursion (λ r. Among hashes r.0) added

no_rows : (hashes : List (List ℕ)) (rows : FileRecords) → HasRows hashes rows rows
no_rows hashes rows = record { added = []; is = sym (append-nil rows); each = tt }

rows_then : (hashes : List (List ℕ)) (a b c : FileRecords) → HasRows hashes a b → HasRows hashes b c → HasRows hashes a c
rows_then hashes a b c x y = record {
  added = x.added ++ y.added;
  is = y.is ∙ ap (λ (l : FileRecords). l ++ y.added) x.is ∙ append_assoc a x.added y.added;
  each = all_both (λ r. Among hashes r.0) x.added y.added x.each y.each;
}

rows_after : (hashes : List (List ℕ)) (c : Core) (e : Entry) → RecordsHash hashes e → HasRows hashes c.records (after c e).records
rows_after hashes c (Query pass query reply) is = no_rows hashes c.records
rows_after hashes c (Register pass chunks next added) is =
    registered_cases c chunks (λ (d : Core). HasRows hashes c.records d.records) (λ new. no_rows hashes c.records) (λ old. no_rows hashes c.records)
rows_after hashes c (Complete pass file added) is =
    completed_cases c file (λ (d : Core). HasRows hashes c.records d.records)
    (λ new. record { added = (file_record_hash file, file) ∷ []; is = refl; each = (to_among hashes (file_record_hash file) is, tt) }) (λ old. no_rows hashes c.records)
rows_after hashes c (Flush pass shard) is = no_rows hashes c.records
rows_after hashes c (Fault pass kind) is = no_rows hashes c.records

pub rows_after_all : (hashes : List (List ℕ)) (c : Core) (es : List Entry) → AllByRecursion (RecordsHash hashes) es → HasRows hashes c.records (after_all c es).records
rows_after_all hashes c [] all = no_rows hashes c.records
rows_after_all hashes c (e ∷ es) all =
    rows_then hashes c.records (after c e).records (after_all (after c e) es).records (rows_after hashes c e all.0) (rows_after_all hashes (after c e) es all.1)

-- what records one of these files has the hash of one
pub hash_of_file : (policy : Sha256Policy) (s : LimitSettings) (all : List (List ℕ)) (e : Entry) → RecordsFile policy s all e → RecordsHash (map (λ f. (info_of s f).hash) all) e
hash_of_file policy s all (Query pass query reply) is = tt
hash_of_file policy s all (Register pass chunks next added) is = tt
hash_of_file policy s all (Complete pass file added) is =
    let hashes : List (List ℕ) = map (λ (f : List ℕ). (info_of s f).hash) all in
    from_among hashes (file_record_hash file)
    (subst (Among hashes) (sym (ap file_record_hash is.2.is)) (among_made (λ (f : List ℕ). (info_of s f).hash) all is.0 (to_among all is.0 is.1)))
hash_of_file policy s all (Flush pass shard) is = tt
hash_of_file policy s all (Fault pass kind) is = tt

-- ---- rows under different hashes

-- no two rows have the same hash
abbrev Distinct : FileRecords → Type 0
Distinct [] = Unit {0}
Distinct (r ∷ rows) = AllByRecursion (λ s. r.0 ≢ s.0) rows × Distinct rows

to_distinct : (rows : FileRecords) → Differ rows → Distinct rows
to_distinct [] differ = tt
to_distinct (r ∷ rows) differ = (
  recursion_from_All (λ s. r.0 ≢ s.0) rows (λ k d below. differ 0 (suc k) d (omega arith) (omega (arith, below))),
  to_distinct rows (λ i j d lt below. differ (suc i) (suc j) d (omega (arith, lt)) (omega (arith, below))),
)

from_distinct : (rows : FileRecords) → Distinct rows → Differ rows
from_distinct [] distinct i j d lt below = absurd (omega (arith, below))
from_distinct (r ∷ rows) distinct zero zero d lt below = absurd (omega (arith, lt))
from_distinct (r ∷ rows) distinct zero (suc j) d lt below = All-from_recursion (λ s. r.0 ≢ s.0) rows distinct.0 j d (omega (arith, below))
from_distinct (r ∷ rows) distinct (suc i) zero d lt below = absurd (omega (arith, lt))
from_distinct (r ∷ rows) distinct (suc i) (suc j) d lt below = from_distinct rows distinct.1 i j d (omega (arith, lt)) (omega (arith, below))

distinct_later : (xs ys : FileRecords) → Distinct (xs ++ ys) → Distinct ys
distinct_later [] ys distinct = distinct
distinct_later (x ∷ xs) ys distinct = distinct_later xs ys distinct.1

among_end : (xs ys : FileRecords) (r : List ℕ × MDBFileInfo) → Among ys r → Among (xs ++ ys) r
among_end [] ys r a = a
among_end (x ∷ xs) ys r a = inr (among_end xs ys r a)

-- a later row is not found among the earlier ones
none_before : (xs ys : FileRecords) (r : List ℕ × MDBFileInfo) → Distinct (xs ++ ys) → Among ys r → found xs r.0 ≡ None
none_before [] ys r distinct a = refl
none_before (x ∷ xs) ys r distinct a =
    go (pointwise nat_eq r.0 x.0) ((bytes_decides r.0 x.0).0) (all_among (λ (s : List ℕ × MDBFileInfo). x.0 ≢ s.0) (xs ++ ys) r distinct.0 (among_end xs ys r a)) (none_before xs ys r distinct.1 a)
  where
    go : (b : Bool) → (b ≡ true → r.0 ≡ x.0) → x.0 ≢ r.0 → found xs r.0 ≡ None → cond b (Some x.1) (found xs r.0) ≡ None
    go true same other none = absurd (other (sym (same refl)))
    go false same other none = none

-- a hash is found among rows under all of these
found_among : (hashes : List (List ℕ)) (h : List ℕ) (v : MDBFileInfo) → Among hashes h → IsSome (found (map (λ k. (k, v)) hashes) h)
found_among [] h v a = absurd a
found_among (k ∷ hashes) h v (inl same) =
    let is : pointwise nat_eq h k ≡ true = (bytes_decides h k).1 (sym same) in
    subst (λ (b : Bool). IsSome (cond b (Some v) (found (map (λ j. (j, v)) hashes) h))) (sym is) refl
found_among (k ∷ hashes) h v (inr a) = go (pointwise nat_eq h k) (found_among hashes h v a)
  where
    go : (b : Bool) → IsSome (found (map (λ j. (j, v)) hashes) h) → IsSome (cond b (Some v) (found (map (λ j. (j, v)) hashes) h))
    go true later = refl
    go false later = later

each_row : (old added : FileRecords) (hashes : List (List ℕ)) → Distinct (old ++ added) → (rows : FileRecords) → ((r : List ℕ × MDBFileInfo) → Among rows r → Among added r)
    → AllByRecursion (λ r. Among hashes r.0) rows → AllByRecursion (λ r. (found old r.0 ≡ None) × IsSome (found (map (λ h. (h, r.1)) hashes) r.0)) rows
each_row old added hashes distinct [] within all = tt
each_row old added hashes distinct (r ∷ rows) within all = (
  (none_before old added r distinct (within r (inl refl)), found_among hashes r.0 r.1 all.0),
  each_row old added hashes distinct rows (λ s a. within s (inr a)) all.1,
)

-- New records follow the earlier ones, each under one of these hashes.
pub rows_add : (hashes : List (List ℕ)) (old new : FileRecords) → HasRows hashes old new → Differ new → Adds old new hashes
rows_add hashes old new rows differ =
    let distinct : Distinct (old ++ rows.added) = to_distinct (old ++ rows.added) (subst Differ rows.is differ) in
    (rows.added, rows.is, from_distinct rows.added (distinct_later old rows.added distinct), each_row old rows.added hashes distinct rows.added (λ r a. a) rows.each)
