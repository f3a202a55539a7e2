-- Files that are recorded in turn.
use Rattle.std.proofs.Common.{◌≡◌, ◌≢◌, ◌∙◌, ◌⊎◌, inl, inr, ℕ, ◌+◌, ◌*◌, ◌≤◌, ◌<◌, Bool, true, false, ◌&&◌, List, [], ◌∷◌, ◌++◌, length, map, take, refl, sym, ap, subst, append_assoc, arith}
use Rattle.std.proofs.lemmas.List.{append-nil, length-map, map-append, take_at}
use Rattle.std.proofs.lemmas.List.Sums.{sum_by-cons}
use Rattle.std.proofs.lemmas.Bool.Decides.{nat_tests}
use Rattle.std.specs.List.{AllByRecursion}
use Rattle.std.specs.Prelude.{Err, IfErr, IsOkUnless, Ok, Result, nat_le}
use Rattle.xet_aggregate.specs.Aggregate.{Aggregate, Pending, filled, finished_file, fits}
use Rattle.xet_cut.specs.declared.limits.LimitSettings.{LimitSettings}
use Rattle.xet_dedup.specs.theorems.Forms.{filled_is_file}
use Rattle.xet_dedup_queries.specs.Registering.{IsDue, IsNewXorb}
use Rattle.xet_file_plan.specs.theorems.Closing.{raw_leaves_of}
use Rattle.xet_hash.specs.Merkle.{total_len, xorb_hash}
use Rattle.xet_hash.specs.declared.error.StoreError.{StoreError}
use Rattle.xet_hash.specs.declared.error.StoreError.TheVariants.{OutOfMemory}
use Rattle.xet_choices.specs.Calls.{Call}
use Rattle.xet_choices.specs.Calls.Call.{Registered}
use Rattle.xet_history.specs.Core.{Core}
use Rattle.xet_history.specs.declared.entry.Entry.{Entry}
use Rattle.xet_history.specs.declared.entry.StepKind.TheVariants as step
use Rattle.xet_shard_format.specs.Records.{IsFile}
use Rattle.xet_shard_format.specs.declared.record.MDBFileInfo.{MDBFileInfo}
use Rattle.xet_store.specs.Interface.{IsErrorSince}
use Rattle.xet_store.specs.Holders.{Holder, calls_in, xorb_limits}
use Rattle.xet_store.specs.Stepping.{SawComplete, SawError, SawRegister, cut_to_register}
use Rattle.xet_xorb.specs.Raw.{raw_leaves, raw_of}
use Rattle.xet_xorb.specs.declared.raw.RawXorbData.{RawXorbData}
use Rattle.xet_xorb_chunk.specs.Chunks.{chunk_leaf, total}
use Rattle.xet_xorb_chunk.specs.declared.chunk.Chunk.{Chunk}
use Rattle.xet_clean.specs.Planning.{IsWithin}
use Rattle.xet_clean.specs.Closing.{Closes, Completes, HaveForm, IsAtMost, IsClosingError, IsUnclosed, NoCalls, Records, RecordsFirst, RegistersAtMost, RegistersChunks, RegistersFull, filled_files}
use Rattle.xet_clean.specs.theorems.Adding.{Adds, adds_all, adds_completed, adds_registered, calls_added, calls_both, calls_error, calls_nothing, first_all, first_none, first_then, first_weaker, records_error, records_nothing, records_added, records_then, register_cut_calls, register_cut_none}
use Rattle.xet_clean.specs.theorems.Closing.{IsRefusal, closing_earlier, closing_more, closing_refused, error_since, refused_at_most, refused_calls, refused_records}
use Rattle.xet_clean.specs.theorems.Nexts.{further_nexts}
use Rattle.xet_clean.specs.theorems.Counting.{at_most_more, at_most_nothing, at_most_then, completed_at_most, error_at_most, register_cut_count, register_cut_pending, registered_at_most}

-- a file that has its xorb
abbrev pub Finished : Type 0
Finished = ℕ × MDBFileInfo × ℕ

abbrev pub records_of : List Finished → List MDBFileInfo
records_of files = map (λ f. f.1) files

-- Of these files all but the rest are recorded.
pub record IsCompleting (files rest : List Finished) (old now : Holder) : Type 0 where
  pub done : List Finished
  pub order : files ≡ done ++ rest
  pub recorded : Records (records_of done) old now
  pub calls : calls_in recorded.follows.own ≡ []
  pub whole : (new : Holder) → Completes (records_of rest) now new → Completes (records_of files) old new
  pub errors : (new : Holder) (e : StoreError) → IsClosingError (records_of rest) now new e → IsClosingError (records_of files) old new e
  pub most : ℕ
  pub within : IsAtMost most old now
  pub few : most + 2 * length rest ≤ 2 * length files
  pub forms : AllByRecursion (λ f. IsFile f.1) rest

pub completing_begins : (files : List Finished) (old : Holder) → AllByRecursion (λ f. IsFile f.1) files → IsCompleting files files old old
completing_begins files old forms = record {
  done = [];
  order = refl;
  recorded = records_nothing old;
  calls = calls_nothing old (records_nothing old).follows;
  whole = λ new is. is;
  errors = λ new e is. is;
  most = 0;
  within = at_most_nothing old;
  few = omega arith;
  forms = forms;
}

pub completing_more : (files rest : List Finished) (f : Finished) (old now new : Holder) (added : Bool) → IsCompleting files (f ∷ rest) old now → SawComplete f.1 now new added → IsCompleting files rest old new
completing_more files rest f old now new added is saw =
    let one : IsAtMost 2 now new = completed_at_most f.1 now new added saw in
    let adds : Adds [] (f.1 ∷ []) 2 now new = adds_completed f.1 now new added saw in
    let recorded : Records (records_of (is.done ++ f ∷ [])) old new =
    subst (λ (l : List MDBFileInfo). Records l old new) (sym (map-append (λ (g : Finished). g.1) is.done (f ∷ [])))
    (records_then (records_of is.done) (f.1 ∷ []) old now new is.recorded (records_added [] (f.1 ∷ []) 2 now new adds)) in
    record {
      done = is.done ++ f ∷ [];
      order = is.order ∙ sym (append_assoc is.done (f ∷ []) rest);
      recorded = recorded;
      calls = calls_both old now new is.recorded.follows adds.follows recorded.follows ∙ ap (λ (l : List Call). l ++ calls_in adds.follows.own) is.calls ∙ adds.are;
      whole = λ last completes. is.whole last (new, added, saw, completes);
      errors = λ last e error. is.errors last e (closing_more f.1 (records_of rest) now last e (closing_earlier (records_of rest) now new last e one.follows error));
      most = is.most + 2;
      within = at_most_then is.most 2 old now new is.within one;
      few = omega (arith, is.few);
      forms = is.forms.1;
    }

pub completing_done : (files : List Finished) (old now : Holder) → IsCompleting files [] old now → Completes (records_of files) old now
completing_done files old now is = is.whole now refl

pub completing_most : (files rest : List Finished) (old now : Holder) → IsCompleting files rest old now → IsAtMost (2 * length files) old now
completing_most files rest old now is = at_most_more is.most (2 * length files) old now (omega (arith, is.few)) is.within

-- the first of the files are recorded, also if nothing more is recorded
pub completing_first : (files rest : List Finished) (old now new : Holder) → IsCompleting files rest old now → (none : Records [] now new) → calls_in none.follows.own ≡ [] → RecordsFirst NoCalls (records_of files) old new
completing_first files rest old now new is none quiet =
    let parts : records_of files ≡ records_of is.done ++ records_of rest = ap records_of is.order ∙ map-append (λ (f : Finished). f.1) is.done rest in
    let first : take (length (records_of is.done)) (records_of files) ≡ records_of is.done =
    ap (take (length (records_of is.done))) parts ∙ take_at (records_of is.done) (records_of rest) (length (records_of is.done)) refl in
    let r : Records (take (length (records_of is.done)) (records_of files)) old new =
    subst (λ (l : List MDBFileInfo). Records l old new) (append-nil (records_of is.done) ∙ sym first) (records_then (records_of is.done) [] old now new is.recorded none) in (
      length (records_of is.done),
      r,
      calls_both old now new is.recorded.follows none.follows r.follows ∙ ap (λ (l : List Call). l ++ calls_in none.follows.own) is.calls ∙ quiet,
    )

pub completing_refused : (files rest : List Finished) (f : Finished) (old now new : Holder) (e : StoreError) → IsCompleting files (f ∷ rest) old now → IsRefusal f.1 now new e
    → IsClosingError (records_of files) old new e × IsAtMost (2 * length files) old new × RecordsFirst NoCalls (records_of files) old new
completing_refused files rest f old now new e is refused = (
  is.errors new e (closing_refused f.1 (records_of rest) now new e refused),
  at_most_more (is.most + 2) (2 * length files) old new (omega (arith, is.few)) (at_most_then is.most 2 old now new is.within (refused_at_most f.1 now new e refused)),
  completing_first files (f ∷ rest) old now new is (refused_records f.1 now new e refused) (refused_calls f.1 now new e refused (refused_records f.1 now new e refused).follows),
)

-- ---- the files of an aggregate

pub finished_records : (hash : List ℕ) (files : List Pending) → records_of (map (finished_file hash) files) ≡ map (λ p. filled hash p.0) files
finished_records hash [] = refl
finished_records hash (p ∷ ps) = ap (λ (fs : List MDBFileInfo). filled hash p.0 ∷ fs) (finished_records hash ps)

pub finished_forms : (hash : List ℕ) (files : List Pending) → HaveForm files → AllByRecursion (λ (f : Finished). IsFile f.1) (map (finished_file hash) files)
finished_forms hash [] forms = tt
finished_forms hash (p ∷ ps) forms = (filled_is_file hash p.0 forms.0, finished_forms hash ps forms.1)

-- ---- the xorb of an aggregate

leaves_total : (chunks : List Chunk) → total_len (map chunk_leaf chunks) ≡ total chunks
leaves_total [] = refl
leaves_total (c ∷ chunks) = omega (arith, leaves_total chunks, sum_by-cons (λ (m : List ℕ × ℕ). m.1) (chunk_leaf c) (map chunk_leaf chunks), sum_by-cons (λ (d : Chunk). length d.bytes) c chunks)

pub new_xorb : (s : LimitSettings) (chunks : List Chunk) (boundaries : List ℕ) (x : RawXorbData) → x ≡ raw_of chunks boundaries → IsWithin s chunks → (length chunks ≡ 0 → ⊥) → IsNewXorb (xorb_limits s) x
new_xorb s chunks boundaries x made within some = record {
  chunks = chunks;
  boundaries = boundaries;
  made = made;
  some = λ none. some (ap length none);
  hashed = within.hashed;
  small = within.within.small;
  bytes = omega (arith, ap (λ (y : RawXorbData). total_len (raw_leaves y)) made, ap total_len (raw_leaves_of chunks boundaries), leaves_total chunks, within.within.bytes);
  count = within.within.count;
}

pub leaves_of_made : (chunks : List Chunk) (boundaries : List ℕ) (x : RawXorbData) → x ≡ raw_of chunks boundaries → raw_leaves x ≡ map chunk_leaf chunks
leaves_of_made chunks boundaries x made = ap raw_leaves made ∙ raw_leaves_of chunks boundaries

-- aggregates that do not fit pass a limit with their chunks
pub unfit : (s : LimitSettings) (a b : Aggregate) → fits s a b ≡ false → (s.cut_bytes < total a.chunks + total b.chunks) ⊎ (s.cut_chunks < length a.chunks + length b.chunks)
unfit s a b e = go (nat_le (total a.chunks + total b.chunks) s.cut_bytes) (nat_le (length a.chunks + length b.chunks) s.cut_chunks) refl refl e
  where
    more : (m n : ℕ) → nat_le m n ≡ false → n < m
    more m n e = grind (arith, nat_tests)

    go : (x y : Bool) → nat_le (total a.chunks + total b.chunks) s.cut_bytes ≡ x → nat_le (length a.chunks + length b.chunks) s.cut_chunks ≡ y → (x && y) ≡ false
        → (s.cut_bytes < total a.chunks + total b.chunks) ⊎ (s.cut_chunks < length a.chunks + length b.chunks)
    go true true p q e = absurd (cc e)
    go true false p q e = inr (more (length a.chunks + length b.chunks) s.cut_chunks q)
    go false y p q e = inl (more (total a.chunks + total b.chunks) s.cut_bytes p)

pub due_unless_fits : (s : LimitSettings) (a b : Aggregate) → fits s a b ≡ false → IsDue (xorb_limits s) (map chunk_leaf a.chunks) (map chunk_leaf b.chunks)
due_unless_fits s a b e = go (unfit s a b e)
  where
    go : (s.cut_bytes < total a.chunks + total b.chunks) ⊎ (s.cut_chunks < length a.chunks + length b.chunks) → IsDue (xorb_limits s) (map chunk_leaf a.chunks) (map chunk_leaf b.chunks)
    go (inl more) = inr (inl (omega (arith, more, leaves_total a.chunks, leaves_total b.chunks)))
    go (inr more) = inr (inr (omega (arith, more, length-map a.chunks chunk_leaf, length-map b.chunks chunk_leaf)))

-- then each has chunks, if each could be a xorb
pub both_some : (s : LimitSettings) (a b : Aggregate) → fits s a b ≡ false → IsWithin s a.chunks → IsWithin s b.chunks → (0 < length a.chunks) × (0 < length b.chunks)
both_some s a b e first second = (go_first a.chunks refl, go_second b.chunks refl)
  where
    passes : (s.cut_bytes < total a.chunks + total b.chunks) ⊎ (s.cut_chunks < length a.chunks + length b.chunks)
    passes = unfit s a b e

    refuted : (m n : ℕ) → (s.cut_bytes < m) ⊎ (s.cut_chunks < n) → m ≤ s.cut_bytes → n ≤ s.cut_chunks → ⊥
    refuted m n (inl more) bytes count = omega (arith, more, bytes)
    refuted m n (inr more) bytes count = omega (arith, more, count)

    none : total [] ≡ 0
    none = refl

    go_first : (chunks : List Chunk) → a.chunks ≡ chunks → 0 < length chunks
    go_first [] is =
        let bytes : total a.chunks + total b.chunks ≤ s.cut_bytes = omega (arith, ap total is, none, second.within.bytes) in
        let count : length a.chunks + length b.chunks ≤ s.cut_chunks = omega (arith, ap length is, second.within.count) in
        absurd (refuted (total a.chunks + total b.chunks) (length a.chunks + length b.chunks) passes bytes count)
    go_first (c ∷ cs) is = omega arith

    go_second : (chunks : List Chunk) → b.chunks ≡ chunks → 0 < length chunks
    go_second [] is =
        let bytes : total a.chunks + total b.chunks ≤ s.cut_bytes = omega (arith, ap total is, none, first.within.bytes) in
        let count : length a.chunks + length b.chunks ≤ s.cut_chunks = omega (arith, ap length is, first.within.count) in
        absurd (refuted (total a.chunks + total b.chunks) (length a.chunks + length b.chunks) passes bytes count)
    go_second (c ∷ cs) is = omega arith

no_chunks : (chunks : List Chunk) → length chunks ≡ 0 → chunks ≡ []
no_chunks [] e = refl
no_chunks (c ∷ cs) e = absurd (omega (arith, e))

-- ---- closing an aggregate

module _ (a : Aggregate) (next : List (List ℕ × ℕ)) (files : List Finished) (x : RawXorbData)
    (made : x ≡ raw_of a.chunks a.boundaries) (are : files ≡ map (finished_file x.xorb_info.metadata.xorb_hash) a.files) where
  abbrev most : ℕ
  most = 2 * length a.chunks + 2 * length a.files

  hash_is : x.xorb_info.metadata.xorb_hash ≡ xorb_hash (map chunk_leaf a.chunks)
  hash_is = ap (λ (y : RawXorbData). y.xorb_info.metadata.xorb_hash) made

  pub records_are : records_of files ≡ filled_files a
  records_are =
      ap records_of are
      ∙ finished_records x.xorb_info.metadata.xorb_hash a.files
      ∙ ap (λ (h : List ℕ). map (λ (p : Pending). filled h p.0) a.files) hash_is

  count_is : length files ≡ length a.files
  count_is = ap length are ∙ length-map a.files (finished_file x.xorb_info.metadata.xorb_hash)

  pub forms_are : HaveForm a.files → AllByRecursion (λ (f : Finished). IsFile f.1) files
  forms_are forms = subst (AllByRecursion (λ (f : Finished). IsFile f.1)) (sym are) (finished_forms x.xorb_info.metadata.xorb_hash a.files forms)

  -- there are no chunks
  pub most_empty : (old new : Holder) → IsAtMost (2 * length files) old new → IsAtMost most old new
  most_empty old new is = at_most_more (2 * length files) most old new (omega (arith, count_is)) is

  -- the xorb was registered
  module _ (old mid : Holder) (added : Bool) (some : length a.chunks ≡ 0 → ⊥) (saw : SawRegister (raw_leaves x) next old mid added) where
    one : IsAtMost 2 old mid
    one = registered_at_most (raw_leaves x) next old mid added saw

    pub most_registered : (new : Holder) → IsAtMost (2 * length files) mid new → IsAtMost most old new
    most_registered new is =
        let n : 1 ≤ length a.chunks = omega (arith, some) in
        at_most_more (2 + 2 * length files) most old new (omega (arith, count_is, n)) (at_most_then 2 (2 * length files) old mid new one is)

  -- the registration failed
  module _ (old new : Holder) (e : StoreError) (some : length a.chunks ≡ 0 → ⊥) (saw : SawError step.Register (cut_to_register old (raw_leaves x)) old new e) where
    pub error_refused : IsErrorSince old new e
    error_refused = error_since (cut_to_register old (raw_leaves x)) old new (λ c some. register_cut_pending old.number c old.limits.shard_target (raw_leaves x) some) step.Register e saw

    pub unclosed_refused : IsUnclosed (RegistersAtMost a next) a next old new e
    unclosed_refused =
        let cut : Core → List Entry = cut_to_register old (raw_leaves x) in
        let r : Records [] old new = records_error step.Register (cut_to_register old (raw_leaves x)) old new e (λ c. register_cut_none old.number c old.limits.shard_target (raw_leaves x)) saw in (
          first_none (RegistersAtMost a next) (filled_files a) old new r
              (inl (calls_error step.Register cut old new e (λ n c. register_cut_calls n old.number c old.limits.shard_target (raw_leaves x)) saw r.follows)),
          inr error_refused,
        )

    pub most_refused : IsAtMost most old new
    most_refused =
        let n : 1 ≤ length a.chunks = omega (arith, some) in
        at_most_more 2 most old new (omega (arith, n)) (error_at_most step.Register (cut_to_register old (raw_leaves x)) old new e (λ c. register_cut_count old.number c old.limits.shard_target (raw_leaves x)) saw)

-- The xorb was registered, unless there are no chunks.
abbrev pub WasRegistered : Aggregate → List (List ℕ × ℕ) → RawXorbData → Holder → Holder → Type 0
WasRegistered a next x old mid = ((length a.chunks ≡ 0) × (mid ≡ old)) ⊎ ((added : Bool) × (length a.chunks ≡ 0 → ⊥) × SawRegister (raw_leaves x) next old mid added)

module _ (a : Aggregate) (next : List (List ℕ × ℕ)) (files : List Finished) (x : RawXorbData)
    (made : x ≡ raw_of a.chunks a.boundaries) (are : files ≡ map (finished_file x.xorb_info.metadata.xorb_hash) a.files) (old mid : Holder) where
  pub registers_chunks : WasRegistered a next x old mid → RegistersChunks a next old mid
  registers_chunks (inl r) = inl (no_chunks a.chunks r.0, r.1)
  registers_chunks (inr r) = inr (r.0, λ none. r.1 (ap length none), subst (λ (ls : List (List ℕ × ℕ)). SawRegister ls next old mid r.0) (leaves_of_made a.chunks a.boundaries x made) r.2)

-- its xorb was registered, unless there are no chunks, and then the first of its files were recorded
registered_first : (a : Aggregate) (next : List (List ℕ × ℕ)) (old mid new : Holder) → RegistersChunks a next old mid → RecordsFirst NoCalls (filled_files a) mid new → RecordsFirst (RegistersAtMost a next) (filled_files a) old new
registered_first a next old mid new (inl r) first =
    subst (λ (h : Holder). RecordsFirst NoCalls (filled_files a) h new → RecordsFirst (RegistersAtMost a next) (filled_files a) old new) (sym r.1)
    (first_weaker NoCalls (RegistersAtMost a next) (filled_files a) old new (λ calls none. inl none)) first
registered_first a next old mid new (inr r) first =
    let one : List Call = Registered (map chunk_leaf a.chunks) next ∷ [] in
    let adds : Adds one [] 2 old mid = adds_registered (map chunk_leaf a.chunks) next old mid r.0 r.2 in
    let x : Records [] old mid = records_added one [] 2 old mid adds in
    first_then NoCalls (RegistersAtMost a next) (filled_files a) old mid new x
    (λ calls none. inr (r.1, ap (λ (l : List Call). calls_in x.follows.own ++ l) none ∙ append-nil (calls_in x.follows.own) ∙ calls_added one [] 2 old mid adds x.follows)) first

module _ (a : Aggregate) (next : List (List ℕ × ℕ)) (files : List Finished) (x : RawXorbData)
    (made : x ≡ raw_of a.chunks a.boundaries) (are : files ≡ map (finished_file x.xorb_info.metadata.xorb_hash) a.files) (old mid new : Holder) where
  pub closes_either : WasRegistered a next x old mid → Completes (records_of files) mid new → Closes a next old new
  closes_either r completes = record {
    mid = mid;
    registered = registers_chunks a next files x made are old mid r;
    completed = subst (λ (fs : List MDBFileInfo). Completes fs mid new) (records_are a next files x made are) completes;
  }

  pub error_either : WasRegistered a next x old mid → RecordsFirst NoCalls (records_of files) mid new → (e : StoreError) → IsClosingError (records_of files) mid new e → IsUnclosed (RegistersAtMost a next) a next old new e
  error_either r first e is = (
    registered_first a next old mid new (registers_chunks a next files x made are old mid r) (subst (λ (fs : List MDBFileInfo). RecordsFirst NoCalls fs mid new) (records_are a next files x made are) first),
    inl (mid, registers_chunks a next files x made are old mid r, subst (λ (fs : List MDBFileInfo). IsClosingError fs mid new e) (records_are a next files x made are) is),
  )

  pub most_either : WasRegistered a next x old mid → IsAtMost (2 * length files) mid new → IsAtMost (2 * length a.chunks + 2 * length a.files) old new
  most_either (inl r) is = most_empty a next files x made are old new (subst (λ (m : Holder). IsAtMost (2 * length files) m new) r.1 is)
  most_either (inr r) is = most_registered a next files x made are old mid r.0 r.1 r.2 new is

-- ---- errors of memory

pub unclosed_nothing : (Are : List Call → Type 0) → Are [] → (a : Aggregate) (next : List (List ℕ × ℕ)) (h : Holder) → IsUnclosed Are a next h h OutOfMemory
unclosed_nothing Are none a next h =
    (first_none Are (filled_files a) h h (records_nothing h) (subst Are (sym (calls_nothing h (records_nothing h).follows)) none), inr tt)

pub unclosed_after : (a : Aggregate) (next : List (List ℕ × ℕ)) (old new : Holder) → Closes a next old new → IsUnclosed (RegistersAtMost a next) a next old new OutOfMemory
unclosed_after a next old new c =
    let adds : Adds [] (filled_files a) (2 * length (filled_files a)) c.mid new = adds_all (filled_files a) c.mid new c.completed in (
      registered_first a next old c.mid new c.registered
          (first_all NoCalls (filled_files a) c.mid new (records_added [] (filled_files a) (2 * length (filled_files a)) c.mid new adds) (λ f. calls_added [] (filled_files a) (2 * length (filled_files a)) c.mid new adds f)),
      inr tt,
    )

-- of the calls less is known
pub unclosed_weaker : (P Q : List Call → Type 0) (a : Aggregate) (next : List (List ℕ × ℕ)) (old new : Holder) (e : StoreError) → ((calls : List Call) → P calls → Q calls) → IsUnclosed P a next old new e → IsUnclosed Q a next old new e
unclosed_weaker P Q a next old new e go u = (first_weaker P Q (filled_files a) old new go u.0, u.1)

pub unless_memory : {T : Type 0} (r : Result T StoreError) (P : StoreError → Type 0) → IsOkUnless r OutOfMemory → P OutOfMemory → IfErr r P
unless_memory (Ok x) P is p = tt
unless_memory (Err e) P is p = subst P (sym is) p

-- an aggregate is closed since others do not fit: these are some
pub next_some : (s : LimitSettings) (a b : Aggregate) → fits s a b ≡ false → IsWithin s a.chunks → IsWithin s b.chunks → map chunk_leaf b.chunks ≢ []
next_some s a b e first second is = omega (arith, ap length is, length-map b.chunks chunk_leaf, (both_some s a b e first second).1)

pub unclosed_further : (s : LimitSettings) (full a b : Aggregate) (given : List (List ℕ × ℕ)) (old new : Holder) (e : StoreError) → full ≡ a → given ≡ map chunk_leaf b.chunks → fits s a b ≡ false → IsWithin s a.chunks → IsWithin s b.chunks
    → IsUnclosed (RegistersAtMost full given) full given old new e → IsUnclosed (RegistersFull a (map chunk_leaf b.chunks)) a (map chunk_leaf b.chunks) old new e
unclosed_further s full a b given old new e is_full is_given unfits first second u =
    let next : List (List ℕ × ℕ) = map chunk_leaf b.chunks in
    unclosed_weaker (RegistersAtMost a next) (RegistersFull a next) a next old new e (λ calls is. (is, further_nexts a next (next_some s a b unfits first second) calls is))
    (subst (λ (l : List (List ℕ × ℕ)). IsUnclosed (RegistersAtMost a l) a l old new e) is_given
    (subst (λ (x : Aggregate). IsUnclosed (RegistersAtMost x given) x given old new e) is_full u))
