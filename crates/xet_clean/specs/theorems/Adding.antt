-- What steps add to a holder: calls, and files that are recorded.
use Rattle.std.proofs.Common.{◌≡◌, ◌≢◌, ◌∙◌, ◌⊎◌, inl, inr, ℕ, suc, ◌+◌, ◌*◌, ◌≤◌, Bool, true, false, List, [], ◌∷◌, ◌++◌, length, map, take, refl, sym, ap, subst, length-append, if◌then◌else◌, arith}
use Rattle.std.proofs.lemmas.List.{append_cancel_left, append-nil, length-map, map-append, take_all}
use Rattle.std.proofs.lemmas.List.Elements.{Contains-append_left, Contains-append_right}
use Rattle.std.specs.List.{AllByRecursion, IsAmong}
use Rattle.xet_aggregate.specs.Aggregate.{Aggregate, Pending, filled}
use Rattle.xet_base.specs.theorems.Elements.{all_both}
use Rattle.xet_choices.specs.Calls.{Call}
use Rattle.xet_choices.specs.Calls.Call.{Registered}
use Rattle.xet_hash.specs.Merkle.{xorb_hash}
use Rattle.xet_history.specs.Core.{Core, is_cut_due, is_new, pending_hash}
use Rattle.xet_history.specs.History.{complete_cut, complete_entries, cut_entries, register_cut, register_entries}
use Rattle.xet_history.specs.declared.entry.Entry.{Entry}
use Rattle.xet_history.specs.declared.entry.Entry.TheVariants.{Complete, Fault, Flush, Query, Register}
use Rattle.xet_shard_format.specs.RecordSizes.{file_record_size, xorb_record_size}
use Rattle.xet_shard_format.specs.Records.{file_record_hash}
use Rattle.xet_shard_format.specs.declared.record.MDBFileInfo.{MDBFileInfo}
use Rattle.xet_hash.specs.declared.error.Place.TheVariants.{Disk}
use Rattle.xet_hash.specs.declared.error.StoreError.{StoreError}
use Rattle.xet_hash.specs.declared.error.StoreError.TheVariants.{Io}
use Rattle.xet_history.specs.declared.entry.StepKind.{StepKind}
use Rattle.xet_store.specs.Steps.{fault_entries}
use Rattle.xet_store.specs.Holders.{Follows, FollowsAsking, Holder, IsCall, calls_in, calls_of, core_found, ended, grown, numbered, seen}
use Rattle.xet_store.specs.Stepping.{SawComplete, SawError, SawOther, SawRegister}
use Rattle.xet_store.specs.theorems.Following.{calls_in-append, follows_nothing, follows_then, length-numbered, numbered-append}
use Rattle.xet_xorb.specs.Raw.{xorb_record}
use Rattle.xet_xorb_chunk.specs.Chunks.{chunk_leaf}
use Rattle.xet_xorb_chunk.specs.declared.chunk.Chunk.{Chunk}
use Rattle.xet_clean.specs.Cleaning.{close_of, files_in}
use Rattle.xet_clean.specs.Closing.{Closes, Completes, Records, RecordsFirst, RegistersChunks, filled_files, recorded_in}
use Rattle.xet_clean.specs.theorems.Counting.{complete_count, register_count}
use Rattle.xet_clean.specs.theorems.Keeping.{own_follows, own_nothing, own_same, own_then}

-- ---- among

pub among_left : {X : Type 0} (xs ys : List X) (v : X) → IsAmong xs v → IsAmong (xs ++ ys) v
among_left xs ys v a = let at = Contains-append_left xs ys v (a.0, a.1.0, sym a.1.1) in (at.0, (at.1, sym at.2))

pub among_right : {X : Type 0} (xs ys : List X) (v : X) → IsAmong ys v → IsAmong (xs ++ ys) v
among_right xs ys v a = let at = Contains-append_right xs ys v (a.0, a.1.0, sym a.1.1) in (at.0, (at.1, sym at.2))

-- ---- what is recorded

pub files_in-append : (xs ys : List Entry) → files_in (xs ++ ys) ≡ files_in xs ++ files_in ys
files_in-append [] ys = refl
files_in-append (Query pass hashes reply ∷ xs) ys = files_in-append xs ys
files_in-append (Register pass chunks next added ∷ xs) ys = files_in-append xs ys
files_in-append (Complete pass file added ∷ xs) ys = ap (λ (l : List MDBFileInfo). file ∷ l) (files_in-append xs ys)
files_in-append (Flush pass shard ∷ xs) ys = files_in-append xs ys
files_in-append (Fault pass kind ∷ xs) ys = files_in-append xs ys

pub recorded_in-append : (xs ys : List (ℕ × Entry)) → recorded_in (xs ++ ys) ≡ recorded_in xs ++ recorded_in ys
recorded_in-append xs ys =
    ap files_in (map-append (λ (p : ℕ × Entry). p.1) xs ys) ∙ files_in-append (map (λ (p : ℕ × Entry). p.1) xs) (map (λ (p : ℕ × Entry). p.1) ys)

entries_numbered : (n : ℕ) (es : List Entry) → map (λ p. p.1) (numbered n es) ≡ es
entries_numbered n [] = refl
entries_numbered n (e ∷ es) = ap (λ (l : List Entry). e ∷ l) (entries_numbered (suc n) es)

pub recorded_numbered : (n : ℕ) (es : List Entry) → recorded_in (numbered n es) ≡ files_in es
recorded_numbered n es = ap files_in (entries_numbered n es)

-- no other entry records a file
pub none_in : (es : List Entry) → AllByRecursion IsCall es → files_in es ≡ []
none_in [] all = refl
none_in (Query pass hashes reply ∷ es) all = none_in es all.1
none_in (Register pass chunks next added ∷ es) all = none_in es all.1
none_in (Complete pass file added ∷ es) all = absurd all.0
none_in (Flush pass shard ∷ es) all = none_in es all.1
none_in (Fault pass kind ∷ es) all = none_in es all.1

pub none_recorded : (own : List (ℕ × Entry)) → AllByRecursion (λ p. IsCall p.1) own → recorded_in own ≡ []
none_recorded [] all = refl
none_recorded ((n, Query pass hashes reply) ∷ own) all = none_recorded own all.1
none_recorded ((n, Register pass chunks next added) ∷ own) all = none_recorded own all.1
none_recorded ((n, Complete pass file added) ∷ own) all = absurd all.0
none_recorded ((n, Flush pass shard) ∷ own) all = none_recorded own all.1
none_recorded ((n, Fault pass kind) ∷ own) all = none_recorded own all.1

-- These calls were added, and these files were recorded, in order, and no others, by so many entries at most. No step failed.
pub record Adds (calls : List Call) (files : List MDBFileInfo) (most : ℕ) (old new : Holder) : Type 0 where
  pub follows : Follows old new
  pub going : new.stopped ≡ old.stopped
  pub few : length follows.own ≤ most
  pub are : calls_in follows.own ≡ calls
  pub records : recorded_in follows.own ≡ files

-- ---- nothing, and several

pub adds_nothing : (h : Holder) → Adds [] [] 0 h h
unfolding follows_nothing
adds_nothing h = record { follows = follows_nothing h; going = refl; few = omega arith; are = refl; records = refl }

pub adds_then : (calls more : List Call) (files others : List MDBFileInfo) (m n : ℕ) (a b c : Holder) → Adds calls files m a b → Adds more others n b c → Adds (calls ++ more) (files ++ others) (m + n) a c
unfolding follows_then
adds_then calls more files others m n a b c x y = record {
  follows = follows_then a b c x.follows y.follows;
  going = y.going ∙ x.going;
  few = omega (arith, length-append x.follows.own y.follows.own, x.few, y.few);
  are = calls_in-append x.follows.own y.follows.own ∙ ap (λ (l : List Call). l ++ calls_in y.follows.own) x.are ∙ ap (λ (l : List Call). calls ++ l) y.are;
  records = recorded_in-append x.follows.own y.follows.own
      ∙ ap (λ (l : List MDBFileInfo). l ++ recorded_in y.follows.own) x.records
      ∙ ap (λ (l : List MDBFileInfo). files ++ l) y.records;
}

-- ---- steps

-- the entries of a registration, and of a file that is recorded
register_cases : (pass : ℕ) (c : Core) (target : ℕ) (leaves next : List (List ℕ × ℕ)) (P : List Entry → Type 0) → P (Flush pass (pending_hash c) ∷ Register pass leaves next true ∷ []) → P (Register pass leaves next true ∷ [])
    → P (Register pass leaves next false ∷ []) → P (register_entries pass c target leaves next)
register_cases pass c target leaves next P x y z = go (is_new c.xorbs (xorb_hash leaves)) (is_cut_due c target (xorb_record_size (xorb_record (xorb_hash leaves) leaves)))
  where
    go : (b d : Bool) → P (if b then (if d then Flush pass (pending_hash c) ∷ [] else []) ++ Register pass leaves next true ∷ [] else Register pass leaves next false ∷ [])
    go true true = x
    go true false = y
    go false d = z

complete_cases : (pass : ℕ) (c : Core) (target : ℕ) (file : MDBFileInfo) (P : List Entry → Type 0) → P (Flush pass (pending_hash c) ∷ Complete pass file true ∷ []) → P (Complete pass file true ∷ [])
    → P (Complete pass file false ∷ []) → P (complete_entries pass c target file)
complete_cases pass c target file P x y z = go (is_new c.records (file_record_hash file)) (is_cut_due c target (file_record_size file))
  where
    go : (b d : Bool) → P (if b then (if d then Flush pass (pending_hash c) ∷ [] else []) ++ Complete pass file true ∷ [] else Complete pass file false ∷ [])
    go true true = x
    go true false = y
    go false d = z

module _ (old new : Holder) (others added : List Entry) (is : new ≡ grown old others added) where
  abbrev at : ℕ
  at = length (seen old) + length others

  abbrev with_stopped : Holder → Holder
  with_stopped h = record old { since = old.since ++ (others ++ added); own = old.own ++ numbered (length (seen old) + length others) added; stopped = h.stopped }

  adds_grown : (calls : List Call) (files : List MDBFileInfo) (most : ℕ) → length added ≤ most → ((n : ℕ) → calls_in (numbered n added) ≡ calls) → files_in added ≡ files
      → Adds calls files most old new
  adds_grown calls files most few are records = record {
    follows = record { since = others ++ added; own = numbered (length (seen old) + length others) added; is = is ∙ ap with_stopped (sym is) };
    going = ap (λ (h : Holder). h.stopped) is;
    few = omega (arith, few, length-numbered (length (seen old) + length others) added);
    are = are (length (seen old) + length others);
    records = recorded_numbered (length (seen old) + length others) added ∙ records;
  }

pub adds_registered : (leaves next : List (List ℕ × ℕ)) (old new : Holder) (added : Bool) → SawRegister leaves next old new added → Adds (Registered leaves next ∷ []) [] 2 old new
adds_registered leaves next old new added saw =
    let c : Core = core_found old saw.others in
    let target : ℕ = old.limits.shard_target in
    let pass : ℕ = old.number in
    adds_grown old new saw.others (register_entries pass c target leaves next) saw.is (Registered leaves next ∷ []) [] 2 (register_count pass c target leaves next)
    (λ n. register_cases pass c target leaves next (λ es. calls_in (numbered n es) ≡ Registered leaves next ∷ []) refl refl refl)
    (register_cases pass c target leaves next (λ es. files_in es ≡ []) refl refl refl)

pub adds_completed : (file : MDBFileInfo) (old new : Holder) (added : Bool) → SawComplete file old new added → Adds [] (file ∷ []) 2 old new
adds_completed file old new added saw =
    let c : Core = core_found old saw.others in
    let target : ℕ = old.limits.shard_target in
    let pass : ℕ = old.number in
    adds_grown old new saw.others (complete_entries pass c target file) saw.is [] (file ∷ []) 2 (complete_count pass c target file)
    (λ n. complete_cases pass c target file (λ es. calls_in (numbered n es) ≡ []) refl refl refl)
    (complete_cases pass c target file (λ es. files_in es ≡ file ∷ []) refl refl refl)

pub adds_all : (files : List MDBFileInfo) (old new : Holder) → Completes files old new → Adds [] files (2 * length files) old new
adds_all [] old new is =
    let n : 0 ≡ 2 * length {A = MDBFileInfo} [] = omega arith in
    subst (λ (k : ℕ). Adds [] [] k old new) n (subst (Adds [] [] 0 old) (sym is) (adds_nothing old))
adds_all (f ∷ fs) old new is =
    let both : Adds [] (f ∷ fs) (2 + 2 * length fs) old new = adds_then [] [] (f ∷ []) fs 2 (2 * length fs) old is.0 new (adds_completed f old is.0 is.1 is.2) (adds_all fs is.0 new is.3) in
    let n : 2 + 2 * length fs ≡ 2 * length (f ∷ fs) = omega arith in
    subst (λ (k : ℕ). Adds [] (f ∷ fs) k old new) n both

-- the aggregate was closed
pub adds_closed : (a : Aggregate) (next : List (List ℕ × ℕ)) (old new : Holder) → Closes a next old new → a.chunks ≢ [] → Adds (Registered (map chunk_leaf a.chunks) next ∷ []) (filled_files a) (2 * length a.chunks + 2 * length a.files) old new
adds_closed a next old new c some = go c.registered
  where
    count : length (filled_files a) ≡ length a.files
    count = length-map a.files (λ (p : Pending). filled (xorb_hash (map chunk_leaf a.chunks)) p.0)

    one : (chunks : List Chunk) → chunks ≢ [] → 1 ≤ length chunks
    one [] some = absurd (some refl)
    one (x ∷ xs) some = omega arith

    go : ((a.chunks ≡ []) × (c.mid ≡ old)) ⊎ ((added : Bool) × (a.chunks ≢ []) × SawRegister (map chunk_leaf a.chunks) next old c.mid added)
        → Adds (Registered (map chunk_leaf a.chunks) next ∷ []) (filled_files a) (2 * length a.chunks + 2 * length a.files) old new
    go (inl none) = absurd (some none.0)
    go (inr r) =
        let both = adds_then (Registered (map chunk_leaf a.chunks) next ∷ []) [] [] (filled_files a) 2 (2 * length (filled_files a)) old c.mid new
        (adds_registered (map chunk_leaf a.chunks) next old c.mid r.0 r.2) (adds_all (filled_files a) c.mid new c.completed) in
        record { follows = both.follows; going = both.going; few = omega (arith, both.few, count, one a.chunks some); are = both.are; records = both.records }

-- the deduplication of a file
pub asking_calls : (old new : Holder) (f : FollowsAsking old new) → calls_in f.follows.own ≡ f.calls
asking_calls old new f =
    append_cancel_left (calls_of old) (calls_in f.follows.own) f.calls (sym (calls_in-append old.own f.follows.own) ∙ ap calls_in (sym (own_follows old new f.follows)) ∙ f.added)

pub adds_asking : (old new : Holder) (f : FollowsAsking old new) → new.stopped ≡ old.stopped → Adds f.calls [] (length f.follows.own) old new
adds_asking old new f going = record {
  follows = f.follows;
  going = going;
  few = omega arith;
  are = asking_calls old new f;
  records = none_recorded f.follows.own f.none;
}

-- the last chunks were registered, after which none follow
adds_last : (chunks : List Chunk) (a : Aggregate) → a.chunks ≡ chunks → (old new : Holder) → RegistersChunks a [] old new → Adds (close_of (map chunk_leaf chunks)) [] (2 * length chunks) old new
adds_last [] a same old new (inl r) = subst (λ (h : Holder). Adds [] [] 0 old h) (sym r.1) (adds_nothing old)
adds_last (c ∷ cs) a same old new (inl r) = absurd (cc (sym same ∙ r.0))
adds_last [] a same old new (inr r) = absurd (r.1 same)
adds_last (c ∷ cs) a same old new (inr r) =
    let saw : SawRegister (map chunk_leaf (c ∷ cs)) [] old new r.0 = subst (λ (l : List Chunk). SawRegister (map chunk_leaf l) [] old new r.0) same r.2 in
    let one = adds_registered (map chunk_leaf (c ∷ cs)) [] old new r.0 saw in
    record { follows = one.follows; going = one.going; few = omega (arith, one.few); are = one.are; records = one.records }

pub adds_closed_last : (a : Aggregate) (old new : Holder) → Closes a [] old new → Adds (close_of (map chunk_leaf a.chunks)) (filled_files a) (2 * length a.chunks + 2 * length a.files) old new
adds_closed_last a old new is =
    let both = adds_then (close_of (map chunk_leaf a.chunks)) [] [] (filled_files a) (2 * length a.chunks) (2 * length (filled_files a)) old is.mid new
    (adds_last a.chunks a refl old is.mid is.registered) (adds_all (filled_files a) is.mid new is.completed) in
    let count : length (filled_files a) ≡ length a.files = length-map a.files (λ (p : Pending). filled (xorb_hash (map chunk_leaf a.chunks)) p.0) in
    record { follows = both.follows; going = both.going; few = omega (arith, both.few, count); are = both.are ∙ append-nil (close_of (map chunk_leaf a.chunks)); records = both.records }

-- ---- which files are recorded

pub records_added : (calls : List Call) (files : List MDBFileInfo) (most : ℕ) (a b : Holder) → Adds calls files most a b → Records files a b
records_added calls files most a b x = record { follows = x.follows; are = x.records }

pub records_nothing : (h : Holder) → Records [] h h
records_nothing h = records_added [] [] 0 h h (adds_nothing h)

pub records_then : (files others : List MDBFileInfo) (a b c : Holder) → Records files a b → Records others b c → Records (files ++ others) a c
unfolding follows_then
records_then files others a b c x y = record {
  follows = follows_then a b c x.follows y.follows;
  are = recorded_in-append x.follows.own y.follows.own
      ∙ ap (λ (l : List MDBFileInfo). l ++ recorded_in y.follows.own) x.are
      ∙ ap (λ (l : List MDBFileInfo). files ++ l) y.are;
}

-- the calls of what was done
pub calls_nothing : (h : Holder) (f : Follows h h) → calls_in f.own ≡ []
calls_nothing h f = ap calls_in (own_nothing h f)

pub calls_added : (calls : List Call) (files : List MDBFileInfo) (most : ℕ) (a b : Holder) → Adds calls files most a b → (f : Follows a b) → calls_in f.own ≡ calls
calls_added calls files most a b x f = ap calls_in (own_same a b f x.follows) ∙ x.are

pub calls_both : (a b c : Holder) (f : Follows a b) (g : Follows b c) (h : Follows a c) → calls_in h.own ≡ calls_in f.own ++ calls_in g.own
calls_both a b c f g h = ap calls_in (own_then a b c f g h) ∙ calls_in-append f.own g.own

-- none of them, all of them, and the first ones later
pub first_none : (Are : List Call → Type 0) (files : List MDBFileInfo) (a b : Holder) (x : Records [] a b) → Are (calls_in x.follows.own) → RecordsFirst Are files a b
first_none Are files a b x are = (0, x, are)

pub first_all : (Are : List Call → Type 0) (files : List MDBFileInfo) (a b : Holder) → Records files a b → ((f : Follows a b) → Are (calls_in f.own)) → RecordsFirst Are files a b
first_all Are files a b x are =
    let r : Records (take (length files) files) a b = subst (λ (l : List MDBFileInfo). Records l a b) (sym (take_all (length files) files (omega arith))) x in
    (length files, r, are r.follows)

pub first_then : (P Q : List Call → Type 0) (files : List MDBFileInfo) (a b c : Holder) (x : Records [] a b) → ((calls : List Call) → P calls → Q (calls_in x.follows.own ++ calls)) → RecordsFirst P files b c → RecordsFirst Q files a c
first_then P Q files a b c x go y =
    let r : Records (take y.0 files) a c = records_then [] (take y.0 files) a b c x y.1 in
    (y.0, r, subst Q (sym (calls_both a b c x.follows y.1.follows r.follows)) (go (calls_in y.1.follows.own) y.2))

pub first_weaker : (P Q : List Call → Type 0) (files : List MDBFileInfo) (a b : Holder) → ((calls : List Call) → P calls → Q calls) → RecordsFirst P files a b → RecordsFirst Q files a b
first_weaker P Q files a b go y = (y.0, y.1, go (calls_in y.1.follows.own) y.2)

fault_none : (pass : ℕ) (kind : StepKind) (e : StoreError) → AllByRecursion IsCall (fault_entries pass kind e)
fault_none pass kind (Io Disk) = (tt, tt)
fault_none pass kind e = tt

cut_none : (pass : ℕ) (c : Core) (target bytes : ℕ) → AllByRecursion IsCall (cut_entries pass c target bytes)
cut_none pass c target bytes = go (is_cut_due c target bytes)
  where
    go : (b : Bool) → AllByRecursion IsCall (if b then Flush pass (pending_hash c) ∷ [] else [])
    go true = (tt, tt)
    go false = tt

known_none : (b : Bool) (cut : List Entry) → AllByRecursion IsCall cut → AllByRecursion IsCall (if b then cut else [])
known_none true cut all = all
known_none false cut all = tt

pub register_cut_none : (pass : ℕ) (c : Core) (target : ℕ) (leaves : List (List ℕ × ℕ)) → AllByRecursion IsCall (register_cut pass c target leaves)
register_cut_none pass c target leaves =
    let bytes : ℕ = xorb_record_size (xorb_record (xorb_hash leaves) leaves) in
    known_none (is_new c.xorbs (xorb_hash leaves)) (cut_entries pass c target bytes) (cut_none pass c target bytes)

pub complete_cut_none : (pass : ℕ) (c : Core) (target : ℕ) (file : MDBFileInfo) → AllByRecursion IsCall (complete_cut pass c target file)
complete_cut_none pass c target file =
    known_none (is_new c.records (file_record_hash file)) (cut_entries pass c target (file_record_size file)) (cut_none pass c target (file_record_size file))

module _ (old new : Holder) (others added : List Entry) (is : new ≡ ended old others added) where
  abbrev stopping : Holder → Holder
  stopping h = record old { since = old.since ++ (others ++ added); own = old.own ++ numbered (length (seen old) + length others) added; stopped = h.stopped }

  own_ended : (f : Follows old new) → f.own ≡ numbered (length (seen old) + length others) added
  own_ended f =
      append_cancel_left old.own f.own (numbered (length (seen old) + length others) added) (sym (own_follows old new f) ∙ ap (λ (h : Holder). h.own) is)

  records_ended : AllByRecursion IsCall added → Records [] old new
  records_ended all = record {
    follows = record { since = others ++ added; own = numbered (length (seen old) + length others) added; is = is ∙ ap stopping (sym is) };
    are = recorded_numbered (length (seen old) + length others) added ∙ none_in added all;
  }

-- a step that failed
pub records_error : (kind : StepKind) (cut : Core → List Entry) (old new : Holder) (e : StoreError) → ((c : Core) → AllByRecursion IsCall (cut c)) → SawError kind cut old new e → Records [] old new
records_error kind cut old new e none saw =
    records_ended old new saw.others (saw.done ++ fault_entries old.number kind e) saw.is
    (all_both IsCall saw.done (fault_entries old.number kind e) (go saw.completed) (fault_none old.number kind e))
  where
    go : (saw.done ≡ []) ⊎ (saw.done ≡ cut (core_found old saw.others)) → AllByRecursion IsCall saw.done
    go (inl is) = subst (AllByRecursion IsCall) (sym is) tt
    go (inr is) = subst (AllByRecursion IsCall) (sym is) (none (core_found old saw.others))

pub records_other : (file : MDBFileInfo) (old new : Holder) (e : StoreError) → SawOther file old new e → Records [] old new
records_other file old new e saw = records_ended old new saw.others [] saw.is tt

-- it made no call

flush_calls : (n pass : ℕ) (c : Core) (target bytes : ℕ) → calls_in (numbered n (cut_entries pass c target bytes)) ≡ []
flush_calls n pass c target bytes = go (is_cut_due c target bytes)
  where
    go : (b : Bool) → calls_in (numbered n (if b then Flush pass (pending_hash c) ∷ [] else [])) ≡ []
    go true = refl
    go false = refl

known_calls : (n : ℕ) (b : Bool) (cut : List Entry) → calls_in (numbered n cut) ≡ [] → calls_in (numbered n (if b then cut else [])) ≡ []
known_calls n true cut none = none
known_calls n false cut none = refl

pub register_cut_calls : (n pass : ℕ) (c : Core) (target : ℕ) (leaves : List (List ℕ × ℕ)) → calls_in (numbered n (register_cut pass c target leaves)) ≡ []
register_cut_calls n pass c target leaves =
    let bytes : ℕ = xorb_record_size (xorb_record (xorb_hash leaves) leaves) in
    known_calls n (is_new c.xorbs (xorb_hash leaves)) (cut_entries pass c target bytes) (flush_calls n pass c target bytes)

pub complete_cut_calls : (n pass : ℕ) (c : Core) (target : ℕ) (file : MDBFileInfo) → calls_in (numbered n (complete_cut pass c target file)) ≡ []
complete_cut_calls n pass c target file =
    known_calls n (is_new c.records (file_record_hash file)) (cut_entries pass c target (file_record_size file)) (flush_calls n pass c target (file_record_size file))

fault_calls : (n pass : ℕ) (kind : StepKind) (e : StoreError) → calls_in (numbered n (fault_entries pass kind e)) ≡ []
fault_calls n pass kind (Io Disk) = refl
fault_calls n pass kind e = refl

pub calls_error : (kind : StepKind) (cut : Core → List Entry) (old new : Holder) (e : StoreError) → ((n : ℕ) (c : Core) → calls_in (numbered n (cut c)) ≡ []) → SawError kind cut old new e → (f : Follows old new) → calls_in f.own ≡ []
calls_error kind cut old new e none saw f =
    let n : ℕ = length (seen old) + length saw.others in
    ap calls_in (own_ended old new saw.others (saw.done ++ fault_entries old.number kind e) saw.is f ∙ numbered-append n saw.done (fault_entries old.number kind e))
    ∙ calls_in-append (numbered n saw.done) (numbered (n + length saw.done) (fault_entries old.number kind e))
    ∙ ap (λ (l : List Call). l ++ calls_in (numbered (n + length saw.done) (fault_entries old.number kind e))) (go saw.completed)
    ∙ fault_calls (n + length saw.done) old.number kind e
  where
    go : (saw.done ≡ []) ⊎ (saw.done ≡ cut (core_found old saw.others)) → calls_in (numbered (length (seen old) + length saw.others) saw.done) ≡ []
    go (inl is) = ap (λ (l : List Entry). calls_in (numbered (length (seen old) + length saw.others) l)) is
    go (inr is) = ap (λ (l : List Entry). calls_in (numbered (length (seen old) + length saw.others) l)) is ∙ none (length (seen old) + length saw.others) (core_found old saw.others)

pub calls_other : (file : MDBFileInfo) (old new : Holder) (e : StoreError) → SawOther file old new e → (f : Follows old new) → calls_in f.own ≡ []
calls_other file old new e saw f = ap calls_in (own_ended old new saw.others [] saw.is f)
