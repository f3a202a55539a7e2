-- How many rows the records of a shard in memory have.
use Rattle.std.proofs.Common.{◌≡◌, ℕ, ◌+◌, ◌*◌, ◌^◌, ◌<◌, ◌≤◌, Bool, false, true, List, [], ◌∷◌, ◌++◌, filter, length, nat_eq, not, if◌then◌else◌, ap, refl, arith}
use Rattle.std.proofs.lemmas.List.{length-append}
use Rattle.std.proofs.lemmas.List.Filters.{sum_by-filter_both}
use Rattle.std.proofs.lemmas.List.Sums.{sum_by-append, sum_by-cons}
use Rattle.std.specs.Cmp.Lexicographic.{pointwise}
use Rattle.std.specs.List.{flat_map, sum_by}
use Rattle.xet_hash.specs.declared.error.StoreError.{StoreError}
use Rattle.xet_manager.specs.Adding.{IsCut, IsUncut, blocks_before, cut_due, files_before}
use Rattle.xet_manager.specs.Manager.{ManagerState}
use Rattle.xet_shard.specs.Held.{Held, held, held_size, with_last}
use Rattle.xet_shard_format.specs.RecordSizes.{file_record_size, xorb_record_size}
use Rattle.xet_shard_format.specs.Records.{end_row, file_record_hash, file_rows, file_section, section, xorb_record_hash, xorb_rows, xorb_section}
use Rattle.xet_shard_format.specs.declared.record.MDBFileInfo.{MDBFileInfo}
use Rattle.xet_shard_format.specs.declared.record.MDBXorbInfo.{MDBXorbInfo}
use Rattle.xet_shard_format.specs.declared.row.Row.{Row}
use Rattle.xet_shard_merge.specs.theorems.RowCounts.{rows_of, rows_within}

-- with one more record it has at most the rows of that one more
pub rows_last : {X : Type 0} (rows : X → List Row) (hash : X → List ℕ) (xs : List X) (x : X) → length (section rows (with_last hash xs x)) ≤ length (section rows xs) + length (rows x)
rows_last {X} rows hash xs x =
    let counts : X → ℕ = λ y. length (rows y) in
    let others : X → Bool = λ y. not (pointwise nat_eq (hash y) (hash x)) in
    let whole = rows_of rows (with_last hash xs x) in
    let before = rows_of rows xs in
    let split : sum_by counts (filter others xs ++ x ∷ []) ≡ sum_by counts (filter others xs) + sum_by counts (x ∷ []) = sum_by-append counts (filter others xs) (x ∷ []) in
    let one : sum_by counts (x ∷ []) ≡ counts x + 0 = sum_by-cons counts x [] in
    let part = sum_by-filter_both others (λ y. not (others y)) (λ y. refl) counts xs in
    omega (arith, whole, before, split, one, part)

-- a short shard has few rows, also with one xorb more
pub few_with_xorb : (h : Held) (x : MDBXorbInfo) → length (xorb_rows x) ≡ 3 → held_size h ≤ 2 ^ 20 → length (xorb_section (with_last xorb_record_hash h.blocks x)) < 2 ^ 32
few_with_xorb h x three small =
    let within : 48 * length (xorb_section h.blocks) ≤ sum_by xorb_record_size h.blocks + 48 = rows_within xorb_rows xorb_record_size h.blocks (λ y. omega arith) in
    omega (arith, within, small, three, rows_last xorb_rows xorb_record_hash h.blocks x)

-- the same of files
pub few_with_file : (h : Held) (f : MDBFileInfo) → length (file_rows f) ≡ 4 → held_size h ≤ 2 ^ 20 → length (file_section (with_last file_record_hash h.files f)) < 2 ^ 32
few_with_file h f four small =
    let within : 48 * length (file_section h.files) ≤ sum_by file_record_size h.files + 48 = rows_within file_rows file_record_size h.files (λ y. omega arith) in
    omega (arith, within, small, four, rows_last file_rows file_record_hash h.files f)

-- few rows are pending, whether what is pending is written before or not
few_of : (due : Bool) (blocks : List MDBXorbInfo) (x : MDBXorbInfo) → length (xorb_rows x) ≡ 2 → length (xorb_section blocks) ≤ 1000
    → length (xorb_section (with_last xorb_record_hash (if due then [] else blocks) x)) < 2 ^ 32
few_of true blocks x two few = omega (arith, rows_last xorb_rows xorb_record_hash [] x, two)
few_of false blocks x two few = omega (arith, rows_last xorb_rows xorb_record_hash blocks x, two, few)

pub few_before : (m : ManagerState) (bytes : ℕ) (x : MDBXorbInfo) → length (xorb_rows x) ≡ 2 → length (xorb_section m.pending.blocks) ≤ 1000
    → length (xorb_section (with_last xorb_record_hash (blocks_before m bytes) x)) < 2 ^ 32
few_before m bytes x = few_of (cut_due m bytes) m.pending.blocks x

-- after a xorb of two rows was added there are at most two rows more
pub rows_after : (old new : ManagerState) (x : MDBXorbInfo) → length (xorb_rows x) ≡ 2
    → (cut_due old (xorb_record_size x) ≡ false → new ≡ record old { pending = held (with_last xorb_record_hash old.pending.blocks x) old.pending.files; room = 0 })
    → (cut_due old (xorb_record_size x) ≡ true → IsCut old new (held (x ∷ []) []))
    → length (xorb_section new.pending.blocks) ≤ length (xorb_section old.pending.blocks) + 2
rows_after old new x two added cut = by_cases (cut_due old (xorb_record_size x)) added cut
  where
    by_cases : (due : Bool) → (due ≡ false → new ≡ record old { pending = held (with_last xorb_record_hash old.pending.blocks x) old.pending.files; room = 0 })
        → (due ≡ true → IsCut old new (held (x ∷ []) []))
        → length (xorb_section new.pending.blocks) ≤ length (xorb_section old.pending.blocks) + 2
    by_cases false added cut =
        let e : length (xorb_section new.pending.blocks) ≡ length (xorb_section (with_last xorb_record_hash old.pending.blocks x)) = ap (λ (m : ManagerState). length (xorb_section m.pending.blocks)) (added refl) in
        omega (arith, e, rows_last xorb_rows xorb_record_hash old.pending.blocks x, two)
    by_cases true added cut =
        let e : length (xorb_section new.pending.blocks) ≡ length (xorb_section (x ∷ [])) = ap (λ (m : ManagerState). length (xorb_section m.pending.blocks)) ((cut refl).1.rest) in
        omega (arith, e, rows_last xorb_rows xorb_record_hash [] x, two, length-append (flat_map xorb_rows old.pending.blocks) (end_row ∷ []))

-- few rows of files are pending, whether what is pending is written before or not
few_files_of : (due : Bool) (files : List MDBFileInfo) (f : MDBFileInfo) → length (file_rows f) ≡ 4 → length (file_section files) ≤ 1000
    → length (file_section (with_last file_record_hash (if due then [] else files) f)) < 2 ^ 32
few_files_of true files f four few = omega (arith, rows_last file_rows file_record_hash [] f, four)
few_files_of false files f four few = omega (arith, rows_last file_rows file_record_hash files f, four, few)

pub few_files_before : (m : ManagerState) (bytes : ℕ) (f : MDBFileInfo) → length (file_rows f) ≡ 4 → length (file_section m.pending.files) ≤ 1000
    → length (file_section (with_last file_record_hash (files_before m bytes) f)) < 2 ^ 32
few_files_before m bytes f = few_files_of (cut_due m bytes) m.pending.files f

-- after a file of four rows was added there are at most four rows more
pub file_rows_after : (old new : ManagerState) (f : MDBFileInfo) → length (file_rows f) ≡ 4
    → (cut_due old (file_record_size f) ≡ false → new ≡ record old { pending = held old.pending.blocks (with_last file_record_hash old.pending.files f); room = 0 })
    → (cut_due old (file_record_size f) ≡ true → IsCut old new (held [] (f ∷ [])))
    → length (file_section new.pending.files) ≤ length (file_section old.pending.files) + 4
file_rows_after old new f four added cut = by_cases (cut_due old (file_record_size f)) added cut
  where
    by_cases : (due : Bool) → (due ≡ false → new ≡ record old { pending = held old.pending.blocks (with_last file_record_hash old.pending.files f); room = 0 })
        → (due ≡ true → IsCut old new (held [] (f ∷ [])))
        → length (file_section new.pending.files) ≤ length (file_section old.pending.files) + 4
    by_cases false added cut =
        let e : length (file_section new.pending.files) ≡ length (file_section (with_last file_record_hash old.pending.files f)) = ap (λ (m : ManagerState). length (file_section m.pending.files)) (added refl) in
        omega (arith, e, rows_last file_rows file_record_hash old.pending.files f, four)
    by_cases true added cut =
        let e : length (file_section new.pending.files) ≡ length (file_section (f ∷ [])) = ap (λ (m : ManagerState). length (file_section m.pending.files)) ((cut refl).1.rest) in
        omega (arith, e, rows_last file_rows file_record_hash [] f, four, length-append (flat_map file_rows old.pending.files) (end_row ∷ []))

-- after an error the same is pending, whether it was to be written before or not
pub kept_after_error : (old new : ManagerState) (f : MDBFileInfo) (e : StoreError) → (cut_due old (file_record_size f) ≡ false → new ≡ record old { room = 0 })
    → (cut_due old (file_record_size f) ≡ true → IsUncut old new e) → new.pending ≡ old.pending
kept_after_error old new f e kept uncut = by_cases (cut_due old (file_record_size f)) kept uncut
  where
    by_cases : (due : Bool) → (due ≡ false → new ≡ record old { room = 0 }) → (due ≡ true → IsUncut old new e) → new.pending ≡ old.pending
    by_cases false kept uncut = ap (λ (m : ManagerState). m.pending) (kept refl)
    by_cases true kept uncut = ap (λ (m : ManagerState). m.pending) ((uncut refl).rest)
