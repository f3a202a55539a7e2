-- No cut is due while the files of `make` are stored: what is pending stays far below a shard's target.
use Rattle.std.proofs.Common.{◌≡◌, ◌∙◌, inl, inr, ℕ, zero, suc, ◌+◌, ◌-◌, ◌*◌, ◌<◌, ◌≤◌, ◌^◌, ◌⊎◌, ◌&&◌, Bool, true, false, cond, filter, ltb, leb, nat_lt, List, [], ◌∷◌, ◌++◌, length, map, Option, Some, None, unwrap_or, option_map, refl, sym, ap, subst, arith}
use Rattle.std.proofs.lemmas.Bool.{and_parts, cases_lt, false≢true, le-ltb}
use Rattle.std.proofs.lemmas.List.{length-append, length-map}
use Rattle.std.proofs.lemmas.List.Elements.{All-from_recursion, recursion_from_All}
use Rattle.std.proofs.lemmas.List.Sorted.{All-permutation, IsPermutation-sym, sum_by-IsPermutation}
use Rattle.std.proofs.lemmas.List.Sums.{sum_by-append, sum_by-cons}
use Rattle.std.specs.Prelude.{if◌then◌else◌}
use Rattle.std.specs.List.{AllByRecursion, sum_by}
use Rattle.std.specs.List.Sorted.{IsPermutation}
use Rattle.xet_base.specs.Pieces.{pieces_after}
use Rattle.xet_choices.specs.Calls.{Call, registered_chunks}
use Rattle.xet_choices.specs.Choices.{new_chunks}
use Rattle.xet_choices.specs.Ranges.{total}
use Rattle.xet_choices.specs.declared.choice.Choice.{Choice}
use Rattle.xet_clean.specs.Cleaning.{entries_since, files_in}
use Rattle.xet_clean.specs.Files.{leaves_in}
use Rattle.xet_completion.specs.Completing.{Completes}
use Rattle.xet_cut.specs.Chunking.{chunking, first_chunk_len}
use Rattle.xet_cut.specs.Streams.{boundary_in}
use Rattle.xet_cut.specs.declared.limits.LimitSettings.{LimitSettings}
use Rattle.xet_cut.specs.theorems.FirstBoundary.{first_chunk_len_is, is_first}
use Rattle.xet_cut.specs.theorems.Parts.{first_chunk_len_within}
use Rattle.xet_dedup.specs.Records.{range_hashes}
use Rattle.xet_file_plan.specs.Moves.{counts_of}
use Rattle.xet_folder.specs.Plan.{Resolves}
use Rattle.xet_hash.specs.Merkle.{leaf_of, xorb_hash}
use Rattle.xet_history.specs.Core.{Core, completed, has_pending, is_cut_due, is_new, pending_hash, registered}
use Rattle.xet_history.specs.History.{after_all, complete_entries, cut_entries, query_entries, register_entries}
use Rattle.xet_history.specs.declared.entry.Entry.{Entry}
use Rattle.xet_history.specs.declared.entry.Entry.TheVariants.{Query, Register, Complete, Flush, Fault}
use Rattle.xet_history.specs.declared.entry.Run.{Run}
use Rattle.xet_history.specs.theorems.Joining.{after_all-append}
use Rattle.xet_history.specs.theorems.Staying.{completed_cases, registered_cases, with_record, with_xorb}
use Rattle.xet_locked_session.specs.Shared.{StepOf, StepsBy}
use Rattle.xet_shard.specs.Held.{held_size, nothing}
use Rattle.xet_shard.specs.theorems.Holding.{is_other}
use Rattle.xet_shard_format.specs.RecordSizes.{file_record_size, xorb_record_size}
use Rattle.xet_shard_format.specs.Records.{chunk_row, ext_rows, file_record_hash, file_rows, segment_row, verification_row, xorb_record_hash}
use Rattle.xet_shard_format.specs.declared.record.FileDataSequenceEntry.{FileDataSequenceEntry as Segment}
use Rattle.xet_shard_format.specs.declared.record.FileMetadataExt.{FileMetadataExt}
use Rattle.xet_shard_format.specs.declared.record.FileVerificationEntry.{FileVerificationEntry}
use Rattle.xet_shard_format.specs.declared.record.MDBFileInfo.{MDBFileInfo}
use Rattle.xet_shard_format.specs.declared.record.MDBXorbInfo.{MDBXorbInfo}
use Rattle.xet_store.specs.Holders.{calls_in, numbered}
use Rattle.xet_store.specs.Recorded.{RecordedState, core_of}
use Rattle.xet_store.specs.Steps.{Steps}
use Rattle.xet_store_disk.specs.Store.{State}
use Rattle.xet_store_disk.specs.declared.info.XetFileInfo.{XetFileInfo}
use Rattle.xet_workers.specs.Cleaning.{AreChosenBy, IsCleanedBy}
use Rattle.xet_xorb.specs.Raw.{entries_from, xorb_record}
use Rattle.xet_aggregate.specs.declared.metrics.DeduplicationMetrics.{DeduplicationMetrics}
use Rattle.xet_program.specs.Tasks.{default_limits}
use Rattle.xet_program.specs.Words.{max_generated}
use Rattle.xet_program.specs.internal.Made.{FitsPending, IsNoFlush, Pends, max_pending}
use Rattle.xet_program.proofs.Cleaned.{since_is}
use Rattle.xet_program.proofs.MadeFiles.{chunks_in, new_in, sums_counted}

-- ---- lists

all_both : {X : Type 0} (P : X → Type 0) (xs ys : List X) → AllByRecursion P xs → AllByRecursion P ys → AllByRecursion P (xs ++ ys)
all_both P [] ys all more = more
all_both P (x ∷ xs) ys all more = (all.0, all_both P xs ys all.1 more)

fewer : {X : Type 0} (f : X → ℕ) (test : X → Bool) (xs : List X) → sum_by f (filter test xs) ≤ sum_by f xs
fewer f test [] = omega arith
fewer f test (x ∷ xs) = by_test (test x) (fewer f test xs)
  where
    by_test : (b : Bool) → sum_by f (filter test xs) ≤ sum_by f xs → sum_by f (cond b (x ∷ filter test xs) (filter test xs)) ≤ sum_by f (x ∷ xs)
    by_test true rest = omega (arith, rest, sum_by-cons f x (filter test xs), sum_by-cons f x xs)
    by_test false rest = omega (arith, rest, sum_by-cons f x xs)

-- ---- the bytes of records

entries_length : (at : ℕ) (leaves : List (List ℕ × ℕ)) → length (entries_from at leaves) ≡ length leaves
entries_length at [] = refl
entries_length at (m ∷ ms) = ap suc (entries_length (at + m.1) ms)

xorb_bytes : (h : List ℕ) (leaves : List (List ℕ × ℕ)) → xorb_record_size (xorb_record h leaves) ≡ 60 + 64 * length leaves
xorb_bytes h leaves =
    let rows = length-map (entries_from 0 leaves) chunk_row in
    omega (arith, rows, entries_length 0 leaves)

-- each segment of a record has a chunk
abbrev IsSpare : MDBFileInfo → Type 0
IsSpare f = length f.segments ≤ total (counts_of f.segments)

spare_plan : {X : Type 0} (Has : List ℕ → List X → Type 0) (len : X → ℕ) (segments : List Segment) (out : List X) → Resolves Has len segments out → length segments ≤ total (counts_of segments)
spare_plan Has len [] out resolves = omega arith
spare_plan Has len (s ∷ ss) out (xs, rest, has, lies, is, more) = omega (arith, lies.some, spare_plan Has len ss rest more)

ranges_length : (segments : List Segment) (leaves : List (List ℕ × ℕ)) → length (range_hashes segments leaves) ≡ length segments
ranges_length [] leaves = refl
ranges_length (s ∷ ss) leaves = ap suc (ranges_length ss _)

few_ext : (o : Option FileMetadataExt) → length (ext_rows o) ≤ 1
few_ext None = omega arith
few_ext (Some m) = omega arith

file_bytes : (f : MDBFileInfo) (n : ℕ) → IsSpare f → length f.verification ≡ length f.segments → total (counts_of f.segments) ≡ n → file_record_size f ≤ 108 + 96 * n
file_bytes f n spare verified covers =
    let segments = length-map f.segments segment_row in
    let rows = length-map f.verification verification_row in
    let inner = length-append (map verification_row f.verification) (ext_rows f.metadata_ext) in
    let outer = length-append (map segment_row f.segments) (map verification_row f.verification ++ ext_rows f.metadata_ext) in
    omega (arith, segments, rows, inner, outer, few_ext f.metadata_ext, spare, verified, covers)

-- ---- the bytes of entries

-- the most bytes that an entry adds to what is pending
abbrev weight : Entry → ℕ
weight (Query pass hashes reply) = 0
weight (Register pass chunks next added) = 60 + 64 * length chunks
weight (Complete pass file added) = file_record_size file
weight (Flush pass shard) = 0
weight (Fault pass kind) = 0

abbrev weights : List Entry → ℕ
weights [] = 0
weights (e ∷ es) = weight e + weights es

weights_both : (xs ys : List Entry) → weights (xs ++ ys) ≡ weights xs + weights ys
weights_both [] ys = omega arith
weights_both (x ∷ xs) ys = omega (arith, weights_both xs ys)

weights_of : (n : ℕ) (es : List Entry) → weights es ≤ 60 * length es + 64 * registered_chunks (calls_in (numbered n es)) + sum_by file_record_size (files_in es)
weights_of n [] = omega arith
weights_of n (Query pass hashes reply ∷ es) = omega (arith, weights_of (suc n) es)
weights_of n (Register pass chunks next added ∷ es) = omega (arith, weights_of (suc n) es)
weights_of n (Complete pass file added ∷ es) = omega (arith, weights_of (suc n) es, sum_by-cons file_record_size file (files_in es))
weights_of n (Flush pass shard ∷ es) = omega (arith, weights_of (suc n) es)
weights_of n (Fault pass kind ∷ es) = omega (arith, weights_of (suc n) es)

-- ---- each segment that is recorded has a chunk

abbrev RecordsSpare : Entry → Type 0
RecordsSpare (Query pass hashes reply) = Unit {0}
RecordsSpare (Register pass chunks next added) = Unit {0}
RecordsSpare (Complete pass file added) = IsSpare file
RecordsSpare (Flush pass shard) = Unit {0}
RecordsSpare (Fault pass kind) = Unit {0}

spare_cut : (pass : ℕ) (c : Core) (target bytes : ℕ) (rest : List Entry) → AllByRecursion RecordsSpare rest → AllByRecursion RecordsSpare (cut_entries pass c target bytes ++ rest)
spare_cut pass c target bytes rest all = go (is_cut_due c target bytes)
  where
    go : (b : Bool) → AllByRecursion RecordsSpare ((if b then Flush pass (pending_hash c) ∷ [] else []) ++ rest)
    go true = (tt, all)
    go false = all

spare_register : (pass : ℕ) (c : Core) (target : ℕ) (leaves next : List (List ℕ × ℕ)) → AllByRecursion RecordsSpare (register_entries pass c target leaves next)
spare_register pass c target leaves next = go (is_new c.xorbs (xorb_hash leaves))
  where
    go : (b : Bool) → AllByRecursion RecordsSpare (if b then cut_entries pass c target (xorb_record_size (xorb_record (xorb_hash leaves) leaves)) ++ Register pass leaves next true ∷ [] else Register pass leaves next false ∷ [])
    go true = spare_cut pass c target (xorb_record_size (xorb_record (xorb_hash leaves) leaves)) (Register pass leaves next true ∷ []) (tt, tt)
    go false = (tt, tt)

spare_complete : (pass : ℕ) (c : Core) (target : ℕ) (file : MDBFileInfo) → IsSpare file → AllByRecursion RecordsSpare (complete_entries pass c target file)
spare_complete pass c target file spare = go (is_new c.records (file_record_hash file))
  where
    go : (b : Bool) → AllByRecursion RecordsSpare (if b then cut_entries pass c target (file_record_size file) ++ Complete pass file true ∷ [] else Complete pass file false ∷ [])
    go true = spare_cut pass c target (file_record_size file) (Complete pass file true ∷ []) (spare, tt)
    go false = (spare, tt)

spare_query : (pass : ℕ) (hashes : List (List ℕ)) (reply : Option (ℕ × Segment)) → AllByRecursion RecordsSpare (query_entries pass hashes reply)
spare_query pass [] reply = tt
spare_query pass (h ∷ hs) reply = (tt, tt)

spare_step : (limits : LimitSettings) (pass : ℕ) (c : Core) (es : List Entry) → StepOf limits pass c es → AllByRecursion RecordsSpare es
spare_step limits pass c es (StepOf.asks hashes reply) = spare_query pass hashes reply
spare_step limits pass c es (StepOf.registers leaves next asked due) = spare_register pass c limits.shard_target leaves next
spare_step limits pass c es (StepOf.completes file form completes) = spare_complete pass c limits.shard_target file (spare_plan _ _ file.segments completes.leaves completes.resolves)

spare_steps : (limits : LimitSettings) (c : Core) (es : List Entry) → StepsBy limits c es → AllByRecursion RecordsSpare es
spare_steps limits c es StepsBy.begins = tt
spare_steps limits c es (StepsBy.more before added pass steps step) = all_both RecordsSpare before added (spare_steps limits c before steps) (spare_step limits pass (after_all c before) added step)

spare_files : (es : List Entry) → AllByRecursion RecordsSpare es → AllByRecursion IsSpare (files_in es)
spare_files [] all = tt
spare_files (Query pass hashes reply ∷ es) all = spare_files es all.1
spare_files (Register pass chunks next added ∷ es) all = spare_files es all.1
spare_files (Complete pass file added ∷ es) all = (all.0, spare_files es all.1)
spare_files (Flush pass shard ∷ es) all = spare_files es all.1
spare_files (Fault pass kind ∷ es) all = spare_files es all.1

-- ---- the records of files

chosen_sizes : (workers : ℕ) (s : LimitSettings) (calls : ℕ → List Call) (files : List (List ℕ)) (choices : List (List Choice)) (records : List MDBFileInfo) → AllByRecursion IsSpare records → AreChosenBy workers s calls files choices records
    → (sum_by file_record_size records ≤ 108 * length files + 96 * chunks_in s files) × (sum_by (λ (c : List Choice). length c) choices ≤ chunks_in s files)
chosen_sizes workers s calls [] [] records spare chosen = (omega (arith, ap (λ (rs : List MDBFileInfo). sum_by file_record_size rs) chosen), omega arith)
chosen_sizes workers s calls [] (c ∷ cs) records spare chosen = absurd chosen
chosen_sizes workers s calls (f ∷ fs) [] records spare chosen = absurd chosen
chosen_sizes workers s calls ([] ∷ fs) (c ∷ cs) records spare chosen =
    let rest = chosen_sizes workers s calls fs cs records spare chosen.1 in
    let all = sum_by-cons (λ g. length (chunking s g)) [] fs in
    let none : length c ≡ 0 = ap (λ (l : List Choice). length l) chosen.0 in
    (omega (arith, rest.0, all), omega (arith, rest.1, all, none, sum_by-cons (λ (l : List Choice). length l) c cs))
chosen_sizes workers s calls ((b ∷ bs) ∷ fs) (c ∷ cs) [] spare chosen = absurd chosen
chosen_sizes workers s calls ((b ∷ bs) ∷ fs) (c ∷ cs) (r ∷ rs) spare chosen =
    let f : List ℕ = b ∷ bs in
    let rest = chosen_sizes workers s calls fs cs rs spare.1 chosen.1 in
    let one = chosen.0.choices in
    let leaves : length (leaves_in s f) ≡ length (chunking s f) = length-map (chunking s f) leaf_of in
    let segments : r.segments ≡ one.segments = ap (λ (x : MDBFileInfo). x.segments) one.is in
    let verified : length r.verification ≡ length r.segments = ap (λ (x : MDBFileInfo). length x.verification) one.is ∙ ranges_length one.segments (leaves_in s f) ∙ ap (λ (l : List Segment). length l) (sym segments) in
    let covers : total (counts_of r.segments) ≡ length (chunking s f) = ap (λ (l : List Segment). total (counts_of l)) segments ∙ one.covers ∙ leaves in
    let size = file_bytes r (length (chunking s f)) spare.0 verified covers in
    let all = sum_by-cons (λ g. length (chunking s g)) f fs in (
      omega (arith, rest.0, size, all, sum_by-cons file_record_size r rs),
      omega (arith, rest.1, all, one.one_each, leaves, sum_by-cons (λ (l : List Choice). length l) c cs),
    )

most_of : (s : LimitSettings) (files : List (List ℕ)) → sum_by (max_pending s) files ≡ 340 * chunks_in s files + 228 * length files
most_of s [] = omega arith
most_of s (f ∷ fs) = omega (arith, most_of s fs, sum_by-cons (max_pending s) f fs, sum_by-cons (λ g. length (chunking s g)) f fs)

-- the records of the files that were cleaned
most_weights : {S : Type 0} (workers : ℕ) (tells : S → Bool) (left : S → List ℕ) (sources : List S) (old new : RecordedState) (infos : List XetFileInfo) (choices : List (List Choice)) (metrics : DeduplicationMetrics)
    → (is : IsCleanedBy workers tells left sources old new infos choices metrics) → (entries : List Entry) → Steps old new entries → StepsBy old.store.limits (core_of old) entries
    → weights entries ≤ sum_by (max_pending old.store.limits) is.files
most_weights workers tells left sources old new infos choices metrics is entries steps by =
    let l = old.store.limits in
    let since : entries_since old new ≡ entries = since_is old new entries steps.moves.history in
    let spare : AllByRecursion IsSpare (files_in entries) = spare_files entries (spare_steps l (core_of old) entries by) in
    let made : IsPermutation is.records (files_in entries) = subst (λ (es : List Entry). IsPermutation is.records (files_in es)) since is.made in
    let of_records : AllByRecursion IsSpare is.records =
    recursion_from_All IsSpare is.records (All-permutation IsSpare _ _ (IsPermutation-sym _ _ made) (All-from_recursion IsSpare (files_in entries) spare)) in
    let sizes = chosen_sizes workers l _ is.files choices is.records of_records is.chosen in
    let counts = sums_counted workers l _ is.files choices is.records is.chosen in
    let same : sum_by file_record_size (files_in entries) ≡ sum_by file_record_size is.records = sum_by-IsPermutation file_record_size is.records (files_in entries) made in
    let registered : registered_chunks (calls_in (numbered (length old.history) entries)) ≡ new_in choices = ap (λ (es : List Entry). registered_chunks (calls_in (numbered (length old.history) es))) (sym since) ∙ is.registered in
    let few : length entries ≤ 3 * sum_by (λ (c : List Choice). length c) choices + 2 * length is.files = subst (λ (es : List Entry). length es ≤ 3 * sum_by (λ (c : List Choice). length c) choices + 2 * length is.files) since is.bound in
    omega (arith, weights_of (length old.history) entries, sizes.0, sizes.1, same, registered, counts.2, few, most_of l is.files)

-- ---- what is pending

held_xorb : (c : Core) (leaves : List (List ℕ × ℕ)) → held_size (with_xorb c leaves).pending ≤ held_size c.pending + (60 + 64 * length leaves)
held_xorb c leaves =
    let x : MDBXorbInfo = xorb_record (xorb_hash leaves) leaves in
    let kept : List MDBXorbInfo = filter (is_other xorb_record_hash (xorb_record_hash x)) c.pending.blocks in
    omega (arith, sum_by-append xorb_record_size kept (x ∷ []), sum_by-cons xorb_record_size x [], fewer xorb_record_size (is_other xorb_record_hash (xorb_record_hash x)) c.pending.blocks, xorb_bytes (xorb_hash leaves) leaves)

held_registered : (c : Core) (leaves : List (List ℕ × ℕ)) → held_size (registered c leaves).pending ≤ held_size c.pending + (60 + 64 * length leaves)
held_registered c leaves = registered_cases c leaves (λ (d : Core). held_size d.pending ≤ held_size c.pending + (60 + 64 * length leaves)) (λ new. held_xorb c leaves) (λ known. omega arith)

held_file : (c : Core) (file : MDBFileInfo) → held_size (with_record c file).pending ≤ held_size c.pending + file_record_size file
held_file c file =
    let kept : List MDBFileInfo = filter (is_other file_record_hash (file_record_hash file)) c.pending.files in
    omega (arith, sum_by-append file_record_size kept (file ∷ []), sum_by-cons file_record_size file [], fewer file_record_size (is_other file_record_hash (file_record_hash file)) c.pending.files)

held_completed : (c : Core) (file : MDBFileInfo) → held_size (completed c file).pending ≤ held_size c.pending + file_record_size file
held_completed c file = completed_cases c file (λ (d : Core). held_size d.pending ≤ held_size c.pending + file_record_size file) (λ new. held_file c file) (λ known. omega arith)

-- these entries have no flush, and add no more than their bytes to what is pending
abbrev AreUncut : Core → List Entry → Type 0
AreUncut c es = AllByRecursion IsNoFlush es × (held_size (after_all c es).pending ≤ held_size c.pending + weights es)

-- a cut is not due before a record that fits
not_due : (c : Core) (target bytes : ℕ) → held_size c.pending + bytes ≤ target → is_cut_due c target bytes ≡ false
not_due c target bytes fits = by_test (has_pending c) (ltb target (held_size c.pending + bytes)) (le-ltb target (held_size c.pending + bytes) fits)
  where
    by_test : (a b : Bool) → b ≡ false → (a && b) ≡ false
    by_test true b is = is
    by_test false b is = refl

no_cut : (pass : ℕ) (c : Core) (target bytes : ℕ) → held_size c.pending + bytes ≤ target → cut_entries pass c target bytes ≡ []
no_cut pass c target bytes fits = ap (λ (b : Bool). if b then Flush pass (pending_hash c) ∷ [] else []) (not_due c target bytes fits)

-- a cut only adds to the entries
weights_cut : (pass : ℕ) (c : Core) (target bytes : ℕ) (rest : List Entry) → weights (cut_entries pass c target bytes ++ rest) ≡ weights rest
weights_cut pass c target bytes rest = go (is_cut_due c target bytes)
  where
    go : (b : Bool) → weights ((if b then Flush pass (pending_hash c) ∷ [] else []) ++ rest) ≡ weights rest
    go true = omega arith
    go false = refl

-- one entry, after a cut that is not due
uncut_one : (pass : ℕ) (c : Core) (target bytes : ℕ) (e : Entry) → weight e ≡ bytes → AreUncut c (e ∷ []) → held_size c.pending + weights (cut_entries pass c target bytes ++ e ∷ []) ≤ target → AreUncut c (cut_entries pass c target bytes ++ e ∷ [])
uncut_one pass c target bytes e is one fits =
    let none : cut_entries pass c target bytes ≡ [] = no_cut pass c target bytes (omega (arith, fits, is, weights_cut pass c target bytes (e ∷ []))) in
    subst (λ (cut : List Entry). AreUncut c (cut ++ e ∷ [])) (sym none) one

abbrev if_new_xorb : ℕ → Core → ℕ → List (List ℕ × ℕ) → List (List ℕ × ℕ) → Bool → List Entry
if_new_xorb pass c target leaves next b =
    if b then cut_entries pass c target (xorb_record_size (xorb_record (xorb_hash leaves) leaves)) ++ Register pass leaves next true ∷ [] else Register pass leaves next false ∷ []

uncut_register : (pass : ℕ) (c : Core) (target : ℕ) (leaves next : List (List ℕ × ℕ)) → held_size c.pending + weights (register_entries pass c target leaves next) ≤ target → AreUncut c (register_entries pass c target leaves next)
uncut_register pass c target leaves next = go (is_new c.xorbs (xorb_hash leaves))
  where
    go : (b : Bool) → held_size c.pending + weights (if_new_xorb pass c target leaves next b) ≤ target → AreUncut c (if_new_xorb pass c target leaves next b)
    go true fits = uncut_one pass c target (xorb_record_size (xorb_record (xorb_hash leaves) leaves)) (Register pass leaves next true) (sym (xorb_bytes (xorb_hash leaves) leaves)) ((tt, tt), omega (arith, held_registered c leaves)) fits
    go false fits = ((tt, tt), omega (arith, held_registered c leaves))

abbrev if_new_file : ℕ → Core → ℕ → MDBFileInfo → Bool → List Entry
if_new_file pass c target file b = if b then cut_entries pass c target (file_record_size file) ++ Complete pass file true ∷ [] else Complete pass file false ∷ []

uncut_complete : (pass : ℕ) (c : Core) (target : ℕ) (file : MDBFileInfo) → held_size c.pending + weights (complete_entries pass c target file) ≤ target → AreUncut c (complete_entries pass c target file)
uncut_complete pass c target file = go (is_new c.records (file_record_hash file))
  where
    go : (b : Bool) → held_size c.pending + weights (if_new_file pass c target file b) ≤ target → AreUncut c (if_new_file pass c target file b)
    go true fits = uncut_one pass c target (file_record_size file) (Complete pass file true) refl ((tt, tt), omega (arith, held_completed c file)) fits
    go false fits = ((tt, tt), omega (arith, held_completed c file))

uncut_query : (pass : ℕ) (c : Core) (hashes : List (List ℕ)) (reply : Option (ℕ × Segment)) → AreUncut c (query_entries pass hashes reply)
uncut_query pass c [] reply = (tt, omega arith)
uncut_query pass c (h ∷ hs) reply = ((tt, tt), omega arith)

uncut_step : (limits : LimitSettings) (pass : ℕ) (c : Core) (es : List Entry) → StepOf limits pass c es → held_size c.pending + weights es ≤ limits.shard_target → AreUncut c es
uncut_step limits pass c es (StepOf.asks hashes reply) fits = uncut_query pass c hashes reply
uncut_step limits pass c es (StepOf.registers leaves next asked due) fits = uncut_register pass c limits.shard_target leaves next fits
uncut_step limits pass c es (StepOf.completes file form completes) fits = uncut_complete pass c limits.shard_target file fits

uncut_steps : (limits : LimitSettings) (c : Core) (es : List Entry) → StepsBy limits c es → held_size c.pending + weights es ≤ limits.shard_target → AreUncut c es
uncut_steps limits c es StepsBy.begins fits = (tt, omega arith)
uncut_steps limits c es (StepsBy.more before added pass steps step) fits =
    let both = weights_both before added in
    let first = uncut_steps limits c before steps (omega (arith, fits, both)) in
    let second = uncut_step limits pass (after_all c before) added step (omega (arith, fits, both, first.1)) in
    let core : after_all c (before ++ added) ≡ after_all (after_all c before) added = after_all-append c before added in
    let size : held_size (after_all c (before ++ added)).pending ≡ held_size (after_all (after_all c before) added).pending = ap (λ (d : Core). held_size d.pending) core in
    (all_both IsNoFlush before added first.0 second.0, omega (arith, size, both, first.1, second.1))

-- where the records of the files fit into what is pending, nothing is flushed while they are cleaned
pub uncut_of : {S : Type 0} (workers : ℕ) (tells : S → Bool) (left : S → List ℕ) (sources : List S) (old new : RecordedState) (infos : List XetFileInfo) (choices : List (List Choice)) (metrics : DeduplicationMetrics)
    → (is : IsCleanedBy workers tells left sources old new infos choices metrics) → (entries : List Entry) → Steps old new entries → StepsBy old.store.limits (core_of old) entries
    → FitsPending old.store is.files → AllByRecursion IsNoFlush entries × Pends is.files old.store new.store
uncut_of workers tells left sources old new infos choices metrics is entries steps by fits =
    let most = most_weights workers tells left sources old new infos choices metrics is entries steps by in
    let uncut = uncut_steps old.store.limits (core_of old) entries by (omega (arith, fits, most)) in
    let size : held_size new.store.pending ≡ held_size (after_all (core_of old) entries).pending = ap (λ (c : Core). held_size c.pending) steps.moves.leads in
    (uncut.0, omega (arith, size, uncut.1, most))

-- ---- the chunks of a file

-- a chunk of the default limits has at least 8192 bytes, but for the last
long_first : (s : LimitSettings) (bs : List ℕ) → s.minimum_chunk ≡ 8192 → s.maximum_chunk ≡ 131072 → 0 < length bs → (0 < first_chunk_len s bs) × (first_chunk_len s bs ≤ length bs) × ((8192 ≤ first_chunk_len s bs) ⊎ (first_chunk_len s bs ≡ length bs))
long_first s bs minimum maximum some = by_boundary (boundary_in s bs) refl
  where
    by_boundary : (o : Option ℕ) → boundary_in s bs ≡ o → (0 < first_chunk_len s bs) × (first_chunk_len s bs ≤ length bs) × ((8192 ≤ first_chunk_len s bs) ⊎ (first_chunk_len s bs ≡ length bs))
    by_boundary None found =
        let n : first_chunk_len s bs ≡ length bs = first_chunk_len_is s bs ∙ ap (λ (o : Option ℕ). unwrap_or o (length bs)) found in
        (omega (arith, n, some), omega (arith, n), inr n)
    by_boundary (Some k) found =
        let n : first_chunk_len s bs ≡ k = first_chunk_len_is s bs ∙ ap (λ (o : Option ℕ). unwrap_or o (length bs)) found in
        let f = is_first s bs k (omega (arith, minimum, maximum)) found in
        (omega (arith, n, f.low, minimum), omega (arith, n, f.within), inl (omega (arith, n, f.low, minimum)))

few_pieces : (s : LimitSettings) (k : ℕ) (bs : List ℕ) → s.minimum_chunk ≡ 8192 → s.maximum_chunk ≡ 131072 → k ≤ length bs → length (pieces_after (first_chunk_len s) k bs) * 8192 + k ≤ length bs + 8191
unfolding pieces_after
few_pieces s k [] minimum maximum within = omega (arith, within)
few_pieces s zero (b ∷ bs) minimum maximum within =
    let n : ℕ = first_chunk_len s (b ∷ bs) in
    let first = long_first s (b ∷ bs) minimum maximum (omega arith) in
    let rest = few_pieces s (n - 1) bs minimum maximum (omega (arith, first.0, first.1)) in
    elim first.2 [
      | inl long ↦ omega (arith, long, rest, first.0)
      | inr all ↦ omega (arith, all, rest, first.0)
    ]
few_pieces s (suc k) (b ∷ bs) minimum maximum within = omega (arith, few_pieces s k bs minimum maximum (omega (arith, within)))

-- so a generated file, also with one byte more, has few
few_chunks : (l : LimitSettings) (bytes : List ℕ) → l ≡ default_limits → length bytes ≤ max_generated + 1 → length (chunking l bytes) ≤ 8193
unfolding default_limits
few_chunks l bytes is few =
    let minimum : l.minimum_chunk ≡ 8192 = ap (λ (s : LimitSettings). s.minimum_chunk) is in
    let maximum : l.maximum_chunk ≡ 131072 = ap (λ (s : LimitSettings). s.maximum_chunk) is in
    omega (arith, few_pieces l 0 bytes minimum maximum (omega arith), few)

target_is : (l : LimitSettings) → l ≡ default_limits → l.shard_target ≡ 67108864
unfolding default_limits
target_is l is = ap (λ (s : LimitSettings). s.shard_target) is

most_one : (l : LimitSettings) (bytes : List ℕ) → l ≡ default_limits → length bytes ≤ max_generated + 1 → sum_by (max_pending l) (bytes ∷ []) ≤ 2785848
most_one l bytes is few = omega (arith, sum_by-cons (max_pending l) bytes [], few_chunks l bytes is few)

-- its records fit where nothing is pending, and one more after them
pub fits_first : (s : State) (bytes : List ℕ) → s.limits ≡ default_limits → s.pending ≡ nothing → length bytes ≤ max_generated → FitsPending s (bytes ∷ [])
fits_first s bytes is fresh few =
    let size : held_size s.pending ≡ 344 = ap held_size fresh in
    omega (arith, size, most_one s.limits bytes is (omega (arith, few)), target_is s.limits is)

pub fits_second : (s t : State) (bytes more : List ℕ) → s.limits ≡ default_limits → t.limits ≡ default_limits → s.pending ≡ nothing → length bytes ≤ max_generated → length more ≤ max_generated + 1 → Pends (bytes ∷ []) s t → FitsPending t (more ∷ [])
fits_second s t bytes more is after fresh few longer pends =
    let size : held_size s.pending ≡ 344 = ap held_size fresh in
    omega (arith, size, pends, most_one s.limits bytes is (omega (arith, few)), most_one t.limits more after longer, target_is t.limits after)
