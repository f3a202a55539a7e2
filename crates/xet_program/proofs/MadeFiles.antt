-- Files of `make` in a session: their chunks are counted, and each has a plan.
use Rattle.std.proofs.Common.{◌≡◌, ◌⊎◌, inl, inr, ◌∙◌, ℕ, zero, suc, ◌+◌, ◌/◌, ◌≤◌, ◌^◌, Bool, true, false, cond, nat_eq, List, [], ◌∷◌, ◌++◌, length, take, drop, map, Option, Some, None, IsSome, option_map, Result, Ok, Err, IfErr, IfOk, OnOk, Vec, Global, refl, sym, ap, subst, arith, if◌then◌else◌}
use Rattle.std.proofs.lemmas.Bool.{false≢true, le-leb}
use Rattle.std.proofs.lemmas.List.{append-nil, append_assoc, length-map}
use Rattle.std.proofs.lemmas.List.FromFn.{length-map-range_with_len}
use Rattle.std.proofs.lemmas.List.Sums.{sum_by-append, sum_by-cons}
use Rattle.std.specs.Cmp.Lexicographic.{pointwise}
use Rattle.std.specs.List.{AllByRecursion, sum_by}
use Rattle.std.specs.Result.{IsErrOf, IsOkAnd, IsOkUnless}
use Rattle.xet_aggregate.specs.declared.metrics.DeduplicationMetrics.{DeduplicationMetrics}
use Rattle.xet_base.specs.Pieces.{pieces_after}
use Rattle.xet_choices.specs.Calls.{Call, registered_chunks}
use Rattle.xet_choices.specs.Choices.{is_reused, new_chunks}
use Rattle.xet_choices.specs.declared.choice.Choice.{Choice}
use Rattle.xet_clean.specs.Cleaning.{entries_since, metrics_sum}
use Rattle.xet_clean.specs.Files.{leaves_in}
use Rattle.xet_cut.specs.Chunking.{chunking}
use Rattle.xet_cut.specs.Generator.{generated, generated_byte}
use Rattle.xet_cut.specs.declared.limits.LimitSettings.{LimitSettings}
use Rattle.xet_folder.specs.Xorbs.{FileRecords, Xorbs, found}
use Rattle.xet_hash.specs.Hash.{zero_hash}
use Rattle.xet_hash.specs.Merkle.{leaf_of, xorb_hash}
use Rattle.xet_history.specs.Core.{Core, completed, flushed, is_new, registered}
use Rattle.xet_history.specs.History.{after_all}
use Rattle.xet_history.specs.declared.entry.Entry.{Entry}
use Rattle.xet_history.specs.declared.entry.Entry.TheVariants.{Query, Register, Complete, Flush, Fault}
use Rattle.xet_shard_format.specs.Records.{file_record_hash}
use Rattle.xet_shard_format.specs.declared.record.FileDataSequenceEntry.{FileDataSequenceEntry as Segment}
use Rattle.xet_shard_format.specs.declared.record.MDBFileInfo.{MDBFileInfo}
use Rattle.xet_store.specs.Holders.{calls_in, numbered}
use Rattle.xet_io.specs.Faults.{HasCause}
use Rattle.xet_store.specs.Recorded.{RecordedState, core_of}
use Rattle.xet_store.specs.Steps.{Steps}
use Rattle.xet_store_disk.specs.declared.info.XetFileInfo.{XetFileInfo}
use Rattle.xet_store_disk.specs.Cleaning.{Keeps, info_of}
use Rattle.xet_store_disk.specs.Separate.{Among, MetChunk}
use Rattle.xet_store_disk.specs.Store.{State, plan_of}
use Rattle.xet_workers.specs.Cleaning.{AreChosenBy, IsCleanedBy}
use Rattle.xet_program.specs.declared.ending.Stop.{Stop}
use Rattle.xet_program.specs.declared.ending.Stop.TheVariants as stop
use Rattle.xet_program.specs.declared.make.ChunkCounts.{ChunkCounts}
use Rattle.xet_program.specs.Allowed.{are_short}
use Rattle.xet_program.specs.Making.{both_files, chunk_count, chunks_line, made_text, with_byte_inserted, xorbs_line}
use Rattle.xet_program.specs.Report.{hash_of_file}
use Rattle.xet_program.specs.Tasks.{default_limits}
use Rattle.xet_program.specs.Words.{max_generated}
use Rattle.xet_program.specs.internal.Cleaned.{AreCleaned}
use Rattle.xet_program.specs.internal.Made.{AddsXorbs, AreCounted, HasPlan, IsInserted, IsMade, counts_text}
use Rattle.xet_program.specs.internal.Stops.{IsApartFor, IsStop, filing_causes, session_causes}
use Rattle.xet_program.proofs.Cleaned.{cleaned_files, files_told, since_is}

-- ---- numbers of chunks

pub no_more_new : (choices : List Choice) → new_chunks choices ≤ length choices
no_more_new [] = omega arith
no_more_new (c ∷ cs) = by_kind (is_reused c) (no_more_new cs)
  where
    by_kind : (reused : Bool) → new_chunks cs ≤ length cs → (if reused then 0 else 1) + new_chunks cs ≤ length (c ∷ cs)
    by_kind true few = omega (arith, few)
    by_kind false few = omega (arith, few)

abbrev pub chunks_in : LimitSettings → List (List ℕ) → ℕ
chunks_in s files = sum_by (λ f. length (chunking s f)) files

abbrev pub new_in : List (List Choice) → ℕ
new_in choices = sum_by new_chunks choices

-- a file of no bytes has no chunks
no_chunks : (s : LimitSettings) → length (leaves_in s []) ≡ 0
unfolding pieces_after
no_chunks s = refl

-- the sums with one more file
sums_more : (s : LimitSettings) (f : List ℕ) (fs : List (List ℕ)) (c : List Choice) (cs : List (List Choice)) → length c ≡ length (leaves_in s f)
    → ((metrics_sum s fs cs).total_chunks ≡ chunks_in s fs) × ((metrics_sum s fs cs).new_chunks ≡ new_in cs) × (new_in cs ≤ chunks_in s fs)
    → ((metrics_sum s (f ∷ fs) (c ∷ cs)).total_chunks ≡ chunks_in s (f ∷ fs)) × ((metrics_sum s (f ∷ fs) (c ∷ cs)).new_chunks ≡ new_in (c ∷ cs)) × (new_in (c ∷ cs) ≤ chunks_in s (f ∷ fs))
sums_more s f fs c cs one_each rest =
    let leaves : length (leaves_in s f) ≡ length (chunking s f) = length-map (chunking s f) leaf_of in
    let all : chunks_in s (f ∷ fs) ≡ length (chunking s f) + chunks_in s fs = sum_by-cons (λ g. length (chunking s g)) f fs in
    let new : new_in (c ∷ cs) ≡ new_chunks c + new_in cs = sum_by-cons new_chunks c cs in (
      omega (arith, rest.0, leaves, all),
      omega (arith, rest.1, new),
      omega (arith, rest.2, leaves, all, new, no_more_new c, one_each),
    )

-- the sums over files whose choices are these
pub sums_counted : (workers : ℕ) (s : LimitSettings) (calls : ℕ → List Call) (files : List (List ℕ)) (choices : List (List Choice)) (records : List MDBFileInfo) → AreChosenBy workers s calls files choices records
    → ((metrics_sum s files choices).total_chunks ≡ chunks_in s files) × ((metrics_sum s files choices).new_chunks ≡ new_in choices) × (new_in choices ≤ chunks_in s files)
sums_counted workers s calls [] [] records chosen = (refl, refl, omega arith)
sums_counted workers s calls [] (c ∷ cs) records chosen = absurd chosen
sums_counted workers s calls (f ∷ fs) [] records chosen = absurd chosen
sums_counted workers s calls ([] ∷ fs) (c ∷ cs) records chosen = sums_more s [] fs c cs (ap (λ (xs : List Choice). length xs) chosen.0 ∙ sym (no_chunks s)) (sums_counted workers s calls fs cs records chosen.1)
sums_counted workers s calls ((b ∷ bs) ∷ fs) (c ∷ cs) [] chosen = absurd chosen
sums_counted workers s calls ((b ∷ bs) ∷ fs) (c ∷ cs) (r ∷ rs) chosen = sums_more s (b ∷ bs) fs c cs chosen.0.choices.one_each (sums_counted workers s calls fs cs rs chosen.1)

pub counted_of : {S : Type 0} (workers : ℕ) (tells : S → Bool) (left : S → List ℕ) (sources : List S) (old new : RecordedState) (infos : List XetFileInfo) (choices : List (List Choice)) (metrics : DeduplicationMetrics)
    → IsCleanedBy workers tells left sources old new infos choices metrics → AreCounted tells left old.store.limits sources metrics
counted_of workers tells left sources old new infos choices metrics is =
    let l = old.store.limits in
    let counts = sums_counted workers l _ is.files choices _ is.chosen in
    let total : metrics.total_chunks ≡ chunks_in l is.files = ap (λ (m : DeduplicationMetrics). m.total_chunks) is.sums ∙ counts.0 in
    record {
      files = is.files;
      told = is.told;
      total = total;
      few = omega (arith, total, counts.1, counts.2, ap (λ (m : DeduplicationMetrics). m.new_chunks) is.sums);
    }

-- ---- xorbs that were added

abbrev chunks_of : Xorbs → ℕ
chunks_of xorbs = sum_by (λ xorb. length xorb.1) xorbs

xorbs_if : (t : Bool) (c d : Core) → (if t then c else d).xorbs ≡ (if t then c.xorbs else d.xorbs)
xorbs_if true c d = refl
xorbs_if false c d = refl

-- by one registration
added_by_one : (c : Core) (leaves : List (List ℕ × ℕ)) → (added : Xorbs) × ((registered c leaves).xorbs ≡ c.xorbs ++ added) × (chunks_of added ≤ length leaves)
added_by_one c leaves =
    let one = by_test (is_new c.xorbs (xorb_hash leaves)) in
    (one.0, xorbs_if (is_new c.xorbs (xorb_hash leaves)) _ c ∙ one.1, one.2)
  where
    by_test : (t : Bool) → (added : Xorbs) × ((if t then c.xorbs ++ (xorb_hash leaves, leaves) ∷ [] else c.xorbs) ≡ c.xorbs ++ added) × (chunks_of added ≤ length leaves)
    by_test true = ((xorb_hash leaves, leaves) ∷ [], refl, omega (arith, sum_by-cons (λ (xorb : List ℕ × List (List ℕ × ℕ)). length xorb.1) (xorb_hash leaves, leaves) []))
    by_test false = ([], sym (append-nil c.xorbs), omega arith)

same_after_record : (c : Core) (f : MDBFileInfo) → (completed c f).xorbs ≡ c.xorbs
same_after_record c f = xorbs_if (is_new c.records (file_record_hash f)) _ c ∙ by_test (is_new c.records (file_record_hash f))
  where
    by_test : (t : Bool) → (if t then c.xorbs else c.xorbs) ≡ c.xorbs
    by_test true = refl
    by_test false = refl

-- by entries: no more chunks than were registered
added_by : (c : Core) (n : ℕ) (entries : List Entry) → (added : Xorbs) × ((after_all c entries).xorbs ≡ c.xorbs ++ added) × (chunks_of added ≤ registered_chunks (calls_in (numbered n entries)))
added_by c n [] = ([], sym (append-nil c.xorbs), omega arith)
added_by c n (Query pass hashes reply ∷ es) = added_by c (suc n) es
added_by c n (Register pass chunks next new ∷ es) =
    let one = added_by_one c chunks in
    let rest = added_by (registered c chunks) (suc n) es in (
      one.0 ++ rest.0,
      rest.1 ∙ ap (λ (xs : Xorbs). xs ++ rest.0) one.1 ∙ append_assoc c.xorbs one.0 rest.0,
      omega (arith, one.2, rest.2, sum_by-append (λ (xorb : List ℕ × List (List ℕ × ℕ)). length xorb.1) one.0 rest.0),
    )
added_by c n (Complete pass file new ∷ es) =
    let rest = added_by (completed c file) (suc n) es in
    (rest.0, rest.1 ∙ ap (λ (xs : Xorbs). xs ++ rest.0) (same_after_record c file), rest.2)
added_by c n (Flush pass shard ∷ es) = added_by (flushed c) (suc n) es
added_by c n (Fault pass kind ∷ es) = added_by c (suc n) es

-- by cleaning
pub added_of : {S : Type 0} (workers : ℕ) (tells : S → Bool) (left : S → List ℕ) (sources : List S) (old new : RecordedState) (infos : List XetFileInfo) (choices : List (List Choice)) (metrics : DeduplicationMetrics)
    → IsCleanedBy workers tells left sources old new infos choices metrics → (entries : List Entry) → Steps old new entries → AddsXorbs metrics.new_chunks old.store new.store
added_of workers tells left sources old new infos choices metrics is entries steps =
    let counts = sums_counted workers old.store.limits _ is.files choices _ is.chosen in
    let since : entries_since old new ≡ entries = since_is old new entries steps.moves.history in
    let added = added_by (core_of old) (length old.history) entries in
    let all : registered_chunks (calls_in (numbered (length old.history) entries)) ≡ new_in choices = ap (λ (es : List Entry). registered_chunks (calls_in (numbered (length old.history) es))) (sym since) ∙ is.registered in
    record {
      added = added.0;
      is = ap (λ (c : Core). c.xorbs) steps.moves.leads ∙ added.1;
      few = omega (arith, added.2, all, counts.1, ap (λ (m : DeduplicationMetrics). m.new_chunks) is.sums);
    }

added_both : (a b : ℕ) (old mid new : State) → AddsXorbs a old mid → AddsXorbs b mid new → AddsXorbs (a + b) old new
added_both a b old mid new one two = record {
  added = one.added ++ two.added;
  is = two.is ∙ ap (λ (xs : Xorbs). xs ++ two.added) one.is ∙ append_assoc old.xorbs one.added two.added;
  few = omega (arith, one.few, two.few, sum_by-append (λ (xorb : List ℕ × List (List ℕ × ℕ)). length xorb.1) one.added two.added);
}

-- ---- one file

pub counted_one : (l : LimitSettings) (bytes : List ℕ) (metrics : DeduplicationMetrics) → AreCounted (λ _. true) (λ f. f) l (bytes ∷ []) metrics
    → (metrics.total_chunks ≡ length (chunking l bytes)) × (metrics.new_chunks ≤ metrics.total_chunks)
counted_one l bytes metrics c =
    let one : c.files ≡ bytes ∷ [] = files_told (bytes ∷ []) c.files c.told in
    let total : metrics.total_chunks ≡ chunks_in l (bytes ∷ []) = c.total ∙ ap (chunks_in l) one in
    (omega (arith, total, sum_by-cons (λ f. length (chunking l f)) bytes []), c.few)

-- ---- plans

-- one file has a plan
pub planned_one : (bytes : List ℕ) (old new : RecordedState) (infos : List XetFileInfo) → AreCleaned (λ _. true) (λ f. f) (bytes ∷ []) old new infos → AllByRecursion (λ info. IsSome (plan_of new.store.records info.hash)) infos
    → Keeps old.store new.store → HasPlan new.store bytes
planned_one bytes old new infos cleaned planned keeps =
    let l = old.store.limits in
    let is : infos ≡ info_of l bytes ∷ [] = cleaned.told ∙ ap (map (info_of l)) (cleaned_files (bytes ∷ []) old new infos cleaned) in
    let here : IsSome (plan_of new.store.records (hash_of_file l bytes)) = (subst (AllByRecursion (λ info. IsSome (plan_of new.store.records info.hash))) is planned).0 in
    subst (λ (x : LimitSettings). IsSome (plan_of new.store.records (hash_of_file x bytes))) (sym keeps.limits) here

-- ---- lengths

pub inserted_length : (bytes : List ℕ) → length (with_byte_inserted bytes) ≡ length bytes + 1
inserted_length bytes = inserted (length bytes / 2) bytes (omega arith)
  where
    inserted : (n : ℕ) (xs : List ℕ) → n ≤ length xs → length (take n xs ++ 0 ∷ drop n xs) ≡ length xs + 1
    inserted zero xs few = omega arith
    inserted (suc n) [] few = omega arith
    inserted (suc n) (x ∷ xs) few = let rest = inserted n xs (omega (arith, few)) in omega (arith, rest)

-- the default limits allow a generated file, also with one byte more
pub default_allows : (l : LimitSettings) (n : ℕ) → l ≡ default_limits → n ≤ max_generated + 1 → n ≤ l.max_source_bytes
unfolding default_limits
default_allows l n is few = let most : l.max_source_bytes ≡ 2 ^ 42 = ap (λ (s : LimitSettings). s.max_source_bytes) is in omega (arith, few, most)

-- ---- stops

-- one file that is short
pub filing_one : (old new : RecordedState) (bytes : List ℕ) (reason : Stop) → length bytes ≤ old.store.limits.max_source_bytes → IsStop (session_causes old new (record { files = bytes ∷ []; ranges = [] })) reason
    → IsStop (filing_causes old new (bytes ∷ [])) reason
filing_one old new bytes stop.OutOfMemory short h = tt
filing_one old new bytes stop.Disk short h = tt
filing_one old new bytes stop.TooLarge short (inl long) = absurd (false≢true (sym long ∙ fits))
  where
    fits : are_short old.store.limits (bytes ∷ []) ≡ true
    fits = rw (le-leb (length bytes) old.store.limits.max_source_bytes short) refl
filing_one old new bytes stop.TooLarge short (inr full) = full
filing_one old new bytes stop.Malformed short h = h
filing_one old new bytes stop.Input short h = absurd h
filing_one old new bytes stop.NotFound short h = absurd h
filing_one old new bytes (stop.BadLine n) short h = absurd h
filing_one old new bytes (stop.BadShard name) short h = absurd h

-- what is apart among more chunks is so among fewer
apart_fewer : (l : LimitSettings) (s : RecordedState) (few more : List (List ℕ)) → ((f : List (List ℕ)) → Among (map (chunking l) few) f → Among (map (chunking l) more) f) → IsApartFor l s more → IsApartFor l s few
apart_fewer l s few more within apart = (
  λ key a b is_key ma mb same. apart.0 key a b is_key (met a ma) (met b mb) same,
  λ f among some. apart.1 f (within f among) some,
)
  where
    met : (b : List ℕ) → MetChunk s.store (map (chunking l) few) b → MetChunk s.store (map (chunking l) more) b
    met b (inl stored) = inl stored
    met b (inr (f, among, here)) = inr (f, within f among, here)

-- from a session on, and of more files
pub filing_more : (old mid new : RecordedState) (few more : List (List ℕ)) (reason : Stop) → mid.store.tells ≡ old.store.tells → mid.store.limits ≡ old.store.limits
    → ((l : LimitSettings) (f : List (List ℕ)) → Among (map (chunking l) few) f → Among (map (chunking l) more) f) → IsStop (filing_causes mid new few) reason → IsStop (filing_causes old new more) reason
filing_more old mid new few more stop.OutOfMemory tells limits within h = tt
filing_more old mid new few more stop.Disk tells limits within h = tt
filing_more old mid new few more stop.TooLarge tells limits within h = h
filing_more old mid new few more stop.Malformed tells limits within h = λ told apart.
    h (tells ∙ told) (subst (λ (l : LimitSettings). IsApartFor l new few) (sym limits) (apart_fewer old.store.limits new few more (within old.store.limits) apart))
filing_more old mid new few more stop.Input tells limits within h = absurd h
filing_more old mid new few more stop.NotFound tells limits within h = absurd h
filing_more old mid new few more (stop.BadLine n) tells limits within h = absurd h
filing_more old mid new few more (stop.BadShard name) tells limits within h = absurd h

pub first_of_both : (bytes : List ℕ) (l : LimitSettings) (f : List (List ℕ)) → Among (map (chunking l) (bytes ∷ [])) f → Among (map (chunking l) (both_files bytes)) f
first_of_both bytes l f (inl is) = inl is
first_of_both bytes l f (inr never) = absurd never

pub second_of_both : (bytes : List ℕ) (l : LimitSettings) (f : List (List ℕ)) → Among (map (chunking l) (with_byte_inserted bytes ∷ [])) f → Among (map (chunking l) (both_files bytes)) f
second_of_both bytes l f among = inr among

-- ---- the text

-- what is printed once the second file was stored
pub inserted_of : (bytes : List ℕ) (old new : State) (l : LimitSettings) (first : ChunkCounts) (second : Result ChunkCounts Stop) (r : Result (Vec ℕ Global) Stop) → l ≡ default_limits
    → IfOk second (λ counts. (counts.all ≡ length (chunking l (with_byte_inserted bytes))) × (counts.new ≤ counts.all)) → OnOk second (HasPlan new (with_byte_inserted bytes)) → IfOk second (λ counts. AddsXorbs counts.new old new)
    → IfOk r (λ text. IsOkAnd second (λ counts. text.items ≡ counts_text first counts (length new.xorbs))) → IfOk r (λ text. IsInserted bytes first old new text.items)
inserted_of bytes old new l first second (Err e) limits counts planned added text = tt
inserted_of bytes old new l first (Err e) (Ok t) limits counts planned added text = absurd text
inserted_of bytes old new l first (Ok second) (Ok t) limits counts planned added text = record {
  second = second;
  is = text;
  all = counts.0 ∙ ap (λ (x : LimitSettings). length (chunking x (with_byte_inserted bytes))) limits;
  few = counts.1;
  planned = planned;
  added = added;
}

-- a plan stays

found_more : (rows added : FileRecords) (h : List ℕ) → IsSome (found rows h) → IsSome (found (rows ++ added) h)
found_more [] added h is = absurd (cc is)
found_more (r ∷ rs) added h is = by_test (pointwise nat_eq h r.0) is (found_more rs added h)
  where
    by_test : (t : Bool) → IsSome (cond t (Some r.1) (found rs h)) → (IsSome (found rs h) → IsSome (found (rs ++ added) h)) → IsSome (cond t (Some r.1) (found (rs ++ added) h))
    by_test true here later = refl
    by_test false here later = later here

abbrev segments_of : Option MDBFileInfo → Option (List Segment)
segments_of o = option_map (λ f. f.segments) o

some_of_segments : (o : Option MDBFileInfo) → IsSome (segments_of o) → IsSome o
some_of_segments None is = absurd (cc is)
some_of_segments (Some f) is = refl

segments_of_some : (o : Option MDBFileInfo) → IsSome o → IsSome (segments_of o)
segments_of_some None is = absurd (cc is)
segments_of_some (Some f) is = refl

plan_more : (rows added : FileRecords) (h : List ℕ) → IsSome (plan_of rows h) → IsSome (plan_of (rows ++ added) h)
unfolding plan_of
plan_more rows added h is = by_test (pointwise nat_eq h zero_hash) is
  where
    by_test : (t : Bool) → IsSome (elim t [ true ↦ Some [] | false ↦ segments_of (found rows h) ]) → IsSome (elim t [ true ↦ Some [] | false ↦ segments_of (found (rows ++ added) h) ])
    by_test true here = refl
    by_test false here = segments_of_some (found (rows ++ added) h) (found_more rows added h (some_of_segments (found rows h) here))

plan_stays : (old new : State) (bytes : List ℕ) → Keeps old new → HasPlan old bytes → HasPlan new bytes
plan_stays old new bytes keeps plan =
    let h = hash_of_file old.limits bytes in
    let more : IsSome (plan_of (old.records ++ keeps.records.0) h) = plan_more old.records keeps.records.0 h plan in
    let here : IsSome (plan_of new.records h) = subst (λ (rs : FileRecords). IsSome (plan_of rs h)) (sym keeps.records.1) more in
    subst (λ (x : LimitSettings). IsSome (plan_of new.records (hash_of_file x bytes))) (sym keeps.limits) here

-- what is printed of both
pub made_of : (bytes : List ℕ) (old mid new : State) (first : ChunkCounts) (r : Result (Vec ℕ Global) Stop) → old.limits ≡ default_limits → (first.all ≡ length (chunking old.limits bytes)) × (first.new ≤ first.all)
    → HasPlan mid bytes → AddsXorbs first.new old mid → Keeps mid new → IfOk r (λ text. IsInserted bytes first mid new text.items) → IfOk r (λ text. IsMade bytes old new text.items)
unfolding counts_text made_text
made_of bytes old mid new first (Err e) limits counts planned added keeps inserted = tt
made_of bytes old mid new first (Ok t) limits counts planned added keeps inserted =
    let all : first.all ≡ chunk_count bytes = counts.0 ∙ ap (λ (x : LimitSettings). length (chunking x bytes)) limits in
    record {
      first = first.new;
      second = inserted.second.new;
      is = inserted.is ∙ ap (λ (n : ℕ). chunks_line n first.new ++ chunks_line inserted.second.all inserted.second.new ++ xorbs_line (length new.xorbs)) all
          ∙ ap (λ (n : ℕ). chunks_line (chunk_count bytes) first.new ++ chunks_line n inserted.second.new ++ xorbs_line (length new.xorbs)) inserted.all;
      few = (omega (arith, all, counts.1), omega (arith, inserted.all, inserted.few));
      planned = (plan_stays mid new bytes keeps planned, (inserted.planned, tt));
      added = added_both first.new inserted.second.new old mid new added inserted.added;
    }

-- and why the second was not stored
pub stop_of_counts : (old new : RecordedState) (files : List (List ℕ)) (second : Result ChunkCounts Stop) (r : Result (Vec ℕ Global) Stop) → IfErr second (IsStop (filing_causes old new files))
    → IfErr r (λ reason. (reason ≡ stop.OutOfMemory) ⊎ IsErrOf second reason) → IfErr r (IsStop (filing_causes old new files))
stop_of_counts old new files second (Ok t) stopped why = tt
stop_of_counts old new files second (Err e) stopped (inl memory) = subst (IsStop (filing_causes old new files)) (sym memory) tt
stop_of_counts old new files (Ok c) (Err e) stopped (inr is) = absurd (cc is)
stop_of_counts old new files (Err f) (Err e) stopped (inr is) =
    let same : f ≡ e = cc is in subst (IsStop (filing_causes old new files)) same stopped

pub cause_of_counts : (before after : ℕ) (second : Result ChunkCounts Stop) (r : Result (Vec ℕ Global) Stop) → HasCause before after (IsErrOf second stop.Disk)
    → IfErr r (λ reason. (reason ≡ stop.OutOfMemory) ⊎ IsErrOf second reason) → HasCause before after (IsErrOf r stop.Disk)
cause_of_counts before after second (Ok t) cause why = record { later = cause.later; rose = λ is. absurd (cc is) }
cause_of_counts before after second (Err e) cause (inl memory) = record {
  later = cause.later;
  rose = λ is. let disk : e ≡ stop.Disk = cc is in absurd (cc (sym memory ∙ disk));
}
cause_of_counts before after second (Err e) cause (inr is_e) = record {
  later = cause.later;
  rose = λ is. let disk : e ≡ stop.Disk = cc is in cause.rose (is_e ∙ ap (λ (x : Stop). Err x) disk);
}

pub if_on_ok : {T E : Type 0} (X : Type 0) (r : Result T E) → OnOk r X → IfOk r (λ x. X)
if_on_ok X (Ok x) given = given
if_on_ok X (Err e) given = tt

pub generated_length : (seed n : ℕ) → length (generated seed n) ≡ n
generated_length seed n = length-map-range_with_len (generated_byte seed) 0 n

pub stop_of_memory : (second : Result ChunkCounts Stop) (r : Result (Vec ℕ Global) Stop) → IsOkUnless r stop.OutOfMemory → IfErr r (λ reason. (reason ≡ stop.OutOfMemory) ⊎ IsErrOf second reason)
stop_of_memory second (Ok t) memory = tt
stop_of_memory second (Err e) memory = inl memory
