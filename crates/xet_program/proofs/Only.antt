-- What a session lists newly, and that it leaves no temporary file.
use Rattle.std.proofs.Common.{◌≡◌, ◌≢◌, ◌⊎◌, inl, inr, ◌∙◌, ℕ, ◌<◌, Bool, true, false, List, [], ◌∷◌, ◌++◌, length, codes, Option, Some, None, Result, Ok, option_map, append_assoc, refl, sym, ap, subst, arith}
use Rattle.std.proofs.lemmas.List.{same_from_push}
use Rattle.std.specs.Prelude.{Any}
use Rattle.std.specs.List.{AllByRecursion, IsAmong}
use Rattle.xet_clean.specs.Cleaning.{RecordsFile}
use Rattle.xet_clean.specs.declared.policy.Sha256Policy.TheVariants.{Compute}
use Rattle.xet_cut.specs.declared.limits.LimitSettings.{LimitSettings}
use Rattle.xet_folder.specs.Listed.{Lists}
use Rattle.xet_folder.specs.Names.{xorb_path}
use Rattle.xet_hash.specs.Hash.{hash_text}
use Rattle.xet_hash.specs.Merkle.{xorb_hash}
use Rattle.xet_hash.specs.Order.{hash_cmp}
use Rattle.xet_hash.specs.declared.error.StoreError.{StoreError}
use Rattle.xet_history.specs.Core.{Core, RegisteredShard, pending_hash, pending_shard}
use Rattle.xet_history.specs.History.{IsRight, Legal, after, after_all}
use Rattle.xet_history.specs.Sound.{IsShardFile}
use Rattle.xet_history.specs.declared.entry.Entry.{Entry}
use Rattle.xet_history.specs.declared.entry.Entry.TheVariants.{Query, Register, Complete, Flush, Fault}
use Rattle.xet_history.specs.theorems.Lasting.{any_last, any_more, first_or_later, here_first, here_later, none_here}
use Rattle.xet_history.specs.theorems.Soundness.{all_sorted}
use Rattle.xet_history.specs.theorems.Staying.{completed_cases, registered_cases, shards_after_all}
use Rattle.xet_io.specs.Disk.{File, Files, bytes_at, entry_at as get, file_at}
use Rattle.xet_io.specs.Entries.{file_of}
use Rattle.xet_io.specs.Named.{in_folder}
use Rattle.xet_shard.specs.Held.{Held, nothing}
use Rattle.xet_shard.specs.theorems.Holding.{all_last}
use Rattle.xet_shard_file.specs.Names.{shard_path, temp_name}
use Rattle.xet_shard_file.specs.theorems.Paths.{path_ends, shard_no_temp}
use Rattle.xet_shard_format.specs.Reading.{ShardParts, all_of, shard_parts_of}
use Rattle.xet_shard_format.specs.Records.{file_record_hash}
use Rattle.xet_shard_format.specs.declared.record.MDBFileInfo.{MDBFileInfo}
use Rattle.xet_shard_format.specs.theorems.WholeAgain.{all_again}
use Rattle.xet_store_disk.specs.Cleaning.{SameEntry}
use Rattle.xet_store_disk.specs.Opening.{IsOpened}
use Rattle.xet_store_disk.specs.Separate.{Among}
use Rattle.xet_store_disk.specs.Store.{State}
use Rattle.xet_store_disk.specs.theorems.Admitting.{any_of, of_any, one_of}
use Rattle.xet_store_disk.specs.theorems.Rows.{to_among}
use Rattle.xet_store_disk.specs.theorems.Staying.{same_file_at}
use Rattle.xet_store.specs.Changes.{ChangesFiles, IsChange, files_of}
use Rattle.xet_store.specs.Recorded.{IsRecorded, RecordedState, core_of}
use Rattle.xet_store.specs.Steps.{Steps}
use Rattle.xet_store.specs.theorems.Changing.{changes_then}
use Rattle.xet_store.specs.theorems.Joining.{steps_both}
use Rattle.xet_program.specs.Report.{hash_of_file}
use Rattle.xet_program.specs.Stored.{LeavesNone, ListsHash, ListsOnly}
use Rattle.xet_program.specs.Tasks.{store_folder}
use Rattle.xet_program.specs.internal.Made.{IsNoFlush}
use Rattle.xet_program.specs.internal.Steps.{IsSettled, ListsNoOther}

-- ---- names

-- a xorb's name is no shard's, by the last byte but one
xorb_no_shard : (folder k h : List ℕ) → xorb_path folder k ≢ shard_path folder h
xorb_no_shard folder k h e =
    let prefixes = same_from_push (in_folder folder (hash_text k ++ codes ".xor")) (in_folder folder (hash_text h ++ codes ".md")) 98 98
    (sym (path_ends folder (hash_text k) (codes ".xor") 98) ∙ e ∙ path_ends folder (hash_text h) (codes ".md") 98) in
    let lasts = same_from_push (in_folder folder (hash_text k ++ codes ".xo")) (in_folder folder (hash_text h ++ codes ".m")) 114 100
    (sym (path_ends folder (hash_text k) (codes ".xo") 114) ∙ prefixes.0 ∙ path_ends folder (hash_text h) (codes ".m") 100) in
    let bad : ◌≡◌ {A = ℕ} 114 100 = lasts.1 in absurd (omega arith)

-- nor a temporary one, by its last byte
xorb_no_temp : (folder k name : List ℕ) → xorb_path folder k ≢ temp_name name
xorb_no_temp folder k name e =
    let last = same_from_push (in_folder folder (hash_text k ++ codes ".xor")) (name ++ codes "_tem") 98 112 (sym (path_ends folder (hash_text k) (codes ".xor") 98) ∙ e ∙ sym (append_assoc name (codes "_tem") (112 ∷ []))) in
    let bad : ◌≡◌ {A = ℕ} 98 112 = last.1 in absurd (omega arith)

-- the path of a xorb, or that of a shard that one of these entries flushed
abbrev IsFileOf : List ℕ → List Entry → List ℕ → Type 0
IsFileOf folder es name = ((h : List ℕ) × (name ≡ xorb_path folder h)) ⊎ ((pass : ℕ) × (shard : List ℕ) × IsAmong es (Flush pass shard) × (name ≡ shard_path folder shard))

later_file : (folder : List ℕ) (e : Entry) (es : List Entry) (name : List ℕ) → IsFileOf folder es name → IsFileOf folder (e ∷ es) name
later_file folder e es name (inl is) = inl is
later_file folder e es name (inr (pass, shard, among, is)) = inr (pass, shard, here_later e es (Flush pass shard) among, is)

-- each file that entries name
file_is : (folder : List ℕ) (es : List Entry) (name : List ℕ) → Among (files_of folder es) name → IsFileOf folder es name
file_is folder [] name a = absurd a
file_is folder (Query pass hashes reply ∷ es) name a = later_file folder (Query pass hashes reply) es name (file_is folder es name a)
file_is folder (Register pass chunks next true ∷ es) name (inl is) = inl (xorb_hash chunks, sym is)
file_is folder (Register pass chunks next true ∷ es) name (inr a) = later_file folder (Register pass chunks next true) es name (file_is folder es name a)
file_is folder (Register pass chunks next false ∷ es) name a = later_file folder (Register pass chunks next false) es name (file_is folder es name a)
file_is folder (Complete pass file added ∷ es) name a = later_file folder (Complete pass file added) es name (file_is folder es name a)
file_is folder (Flush pass shard ∷ es) name (inl is) = inr (pass, shard, here_first (Flush pass shard) es (Flush pass shard) refl, sym is)
file_is folder (Flush pass shard ∷ es) name (inr a) = later_file folder (Flush pass shard) es name (file_is folder es name a)
file_is folder (Fault pass kind ∷ es) name a = later_file folder (Fault pass kind) es name (file_is folder es name a)

-- ---- temporary files

no_temp_of : (folder : List ℕ) (es : List Entry) (name : List ℕ) → IsFileOf folder es (temp_name name) → ⊥
no_temp_of folder es name (inl (h, is)) = xorb_no_temp folder h name (sym is)
no_temp_of folder es name (inr (pass, shard, among, is)) = shard_no_temp folder shard name (sym is)

temp_change : (folder : List ℕ) (es : List Entry) (old new : Files) (name : List ℕ) → IsChange (files_of folder es) [] old new (temp_name name) → SameEntry old new (temp_name name) ⊎ (get new (temp_name name) ≡ None)
temp_change folder es old new name (IsChange.same is) = inl is
temp_change folder es old new name (IsChange.is_put a) = absurd (no_temp_of folder es name (file_is folder es (temp_name name) a))
temp_change folder es old new name (IsChange.is_free a none) = inr none
temp_change folder es old new name (IsChange.is_tried a) = absurd a
temp_change folder es old new name (IsChange.is_left a) = absurd a

pub leaves_none : (old new : RecordedState) (es : List Entry) → ChangesFiles [] old new es → old.store.tells ≡ true → LeavesNone old.store.files new.store.files
leaves_none old new es changes told = λ name. temp_change old.store.folder es old.store.files new.store.files name (changes.changed told (temp_name name))

-- ---- shards

-- One of these entries flushed the shard of a path.
abbrev IsFlushedHere : List ℕ → List Entry → List ℕ → Type 0
IsFlushedHere folder es name = (pass : ℕ) × (shard : List ℕ) × IsAmong es (Flush pass shard) × (name ≡ shard_path folder shard)

shard_of_files : (folder : List ℕ) (es : List Entry) (h : List ℕ) → IsFileOf folder es (shard_path folder h) → IsFlushedHere folder es (shard_path folder h)
shard_of_files folder es h (inl (k, is)) = absurd (xorb_no_shard folder k h (sym is))
shard_of_files folder es h (inr flush) = flush

-- a shard that is there was there before, or was flushed
shard_change : (folder : List ℕ) (es : List Entry) (old new : Files) (h : List ℕ) (file : File) → file_at new (shard_path folder h) ≡ Some file → IsChange (files_of folder es) [] old new (shard_path folder h)
    → (file_at old (shard_path folder h) ≡ Some file) ⊎ IsFlushedHere folder es (shard_path folder h)
shard_change folder es old new h file there (IsChange.same is) = inl (sym (same_file_at old new (shard_path folder h) is) ∙ there)
shard_change folder es old new h file there (IsChange.is_put a) = inr (shard_of_files folder es h (file_is folder es (shard_path folder h) a))
shard_change folder es old new h file there (IsChange.is_free a none) = let bad : ◌≡◌ {A = Option File} None (Some file) = sym (ap file_of none) ∙ there in absurd (cc bad)
shard_change folder es old new h file there (IsChange.is_tried a) = absurd a
shard_change folder es old new h file there (IsChange.is_left a) = absurd a

-- ---- the records of flushed shards

-- the record has the hash of one of these files that is not empty
abbrev IsOwn : LimitSettings → List (List ℕ) → MDBFileInfo → Type 0
IsOwn s files f = Any (λ bytes. (bytes ≢ []) × (file_record_hash f ≡ hash_of_file s bytes)) files

own_of : (s : LimitSettings) (files : List (List ℕ)) (pass : ℕ) (f : MDBFileInfo) (added : Bool) → RecordsFile Compute s files (Complete pass f added) → IsOwn s files f
own_of s files pass f added (bytes, among, is) =
    any_of (λ b. (b ≢ []) × (file_record_hash f ≡ hash_of_file s b)) files bytes (to_among files bytes among)
    (λ empty. omega (arith, is.some, ap (λ (b : List ℕ). length b) empty), ap file_record_hash is.is)

-- if those are so that are pending, they are so after an entry
pending_own : (s : LimitSettings) (files : List (List ℕ)) (c : Core) (e : Entry) → RecordsFile Compute s files e → AllByRecursion (IsOwn s files) c.pending.files → AllByRecursion (IsOwn s files) (after c e).pending.files
pending_own s files c (Query pass hashes reply) records own = own
pending_own s files c (Register pass chunks next added) records own = registered_cases c chunks (λ (d : Core). AllByRecursion (IsOwn s files) d.pending.files) (λ new. own) (λ known. own)
pending_own s files c (Complete pass f added) records own =
    completed_cases c f (λ (d : Core). AllByRecursion (IsOwn s files) d.pending.files)
    (λ new. all_last (IsOwn s files) file_record_hash c.pending.files f own (own_of s files pass f added records)) (λ known. own)
pending_own s files c (Flush pass shard) records own = tt
pending_own s files c (Fault pass kind) records own = own

-- the shard of this hash has such records
abbrev HasOwn : LimitSettings → List (List ℕ) → List ℕ → RegisteredShard → Type 0
HasOwn s files shard r = (r.hash ≡ shard) × AllByRecursion (IsOwn s files) r.contents.files

flushed_own : (tells : Bool) (s : LimitSettings) (files : List (List ℕ)) (c : Core) (es : List Entry) → Legal tells c es → AllByRecursion (RecordsFile Compute s files) es → AllByRecursion (IsOwn s files) c.pending.files
    → (pass : ℕ) (shard : List ℕ) → IsAmong es (Flush pass shard) → Any (HasOwn s files shard) (after_all c es).shards
flushed_own tells s files c [] legal only own pass shard a = none_here (Flush pass shard) a
flushed_own tells s files c (e ∷ es) legal only own pass shard a =
    first_or_later e es (Flush pass shard) here (λ later. flushed_own tells s files (after c e) es legal.1 only.1 (pending_own s files c e only.0 own) pass shard later) a
  where
    last : RegisteredShard
    last = record { hash = pending_hash c; contents = pending_shard c }

    at : shard ≡ pending_hash c → Any (HasOwn s files shard) (after c (Flush pass shard)).shards
    at is = any_last (HasOwn s files shard) c.shards last (sym is, all_sorted (IsOwn s files) (λ x y. hash_cmp (file_record_hash x) (file_record_hash y)) c.pending.files own)

    here : e ≡ Flush pass shard → Any (HasOwn s files shard) (after_all (after c e) es).shards
    here same =
        let right : IsRight tells c (Flush pass shard) = subst (λ (x : Entry). IsRight tells c x) same legal.0 in
        let now : Any (HasOwn s files shard) (after c e).shards = subst (λ (x : Entry). Any (HasOwn s files shard) (after c x).shards) (sym same) (at right.1) in
        let prefix = shards_after_all (after c e) es in
        subst (λ (l : List RegisteredShard). Any (HasOwn s files shard) l) prefix.1 (any_more (HasOwn s files shard) (after c e).shards prefix.0 now)

-- what is read of a registered shard's file are its contents
files_read : (disk : Files) (folder : List ℕ) (r : RegisteredShard) → IsShardFile disk folder r → (name : List ℕ) (file : File) → name ≡ shard_path folder r.hash → file_at disk name ≡ Some file
    → (parts : ShardParts) → all_of file.bytes ≡ Ok parts → parts.1 ≡ r.contents.files
files_read disk folder r stands name file path there parts read =
    let both : ◌≡◌ {A = Option (List ℕ)} (Some file.bytes) (Some stands.bytes) = sym (ap (option_map (λ (x : File). x.bytes)) there) ∙ ap (λ (n : List ℕ). bytes_at disk n) path ∙ stands.there in
    let bytes : file.bytes ≡ stands.bytes = cc both in
    let again : all_of stands.bytes ≡ Ok (shard_parts_of stands.encoding.lookups r.contents) = ap all_of stands.encoding.encoding ∙ all_again stands.encoding.lookups r.contents stands.encoding.shard stands.encoding.fits in
    let results : ◌≡◌ {A = Result ShardParts StoreError} (Ok parts) (Ok (shard_parts_of stands.encoding.lookups r.contents)) = sym read ∙ ap all_of bytes ∙ again in
    let same : parts ≡ shard_parts_of stands.encoding.lookups r.contents = cc results in
    ap (λ (p : ShardParts). p.1) same

-- ---- what is listed

-- a folder lists a record of a hash
abbrev ListsIn : Files → List ℕ → ℕ → List ℕ → Type 0
ListsIn disk folder now h = (f : MDBFileInfo) × Lists disk folder now f × (file_record_hash f ≡ h)

-- A session made these entries.
module _ (old new : RecordedState) (s : LimitSettings) (files : List (List ℕ)) (es : List Entry) (changes : ChangesFiles [] old new es) (told : old.store.tells ≡ true) where
  abbrev folder : List ℕ
  folder = old.store.folder

  abbrev ListsThere : Files → ℕ → List ℕ → Type 0
  ListsThere disk now h = ListsIn disk folder now h

  abbrev IsNewly : List ℕ → Type 0
  IsNewly h = Any (λ bytes. (bytes ≢ []) × (h ≡ hash_of_file s bytes)) files

  -- a shard that was there lists what it lists
  listed_before : (now : ℕ) (f : MDBFileInfo) → (l : Lists new.store.files folder now f) → file_at old.store.files (shard_path folder l.shard.hash) ≡ Some l.shard.file → Lists old.store.files folder now f
  listed_before now f l there = record { shard = l.shard; there = record { named = l.there.named; there = there }; valid = l.valid; parts = l.parts; read = l.read; among = l.among }

  module _ (flushed : (now : ℕ) (h : List ℕ) (f : MDBFileInfo) → (l : Lists new.store.files folder now f) → file_record_hash f ≡ h → IsFlushedHere folder es (shard_path folder l.shard.hash) → IsNewly h) where
    newly_in : (now : ℕ) (h : List ℕ) → ListsThere new.store.files now h → ListsThere old.store.files now h ⊎ IsNewly h
    newly_in now h (f, l, is) = go (shard_change folder es old.store.files new.store.files l.shard.hash l.shard.file l.there.there (changes.changed told (shard_path folder l.shard.hash)))
      where
        go : (file_at old.store.files (shard_path folder l.shard.hash) ≡ Some l.shard.file) ⊎ IsFlushedHere folder es (shard_path folder l.shard.hash) → ListsThere old.store.files now h ⊎ IsNewly h
        go (inl there) = inl (f, listed_before now f l there, is)
        go (inr flush) = inr (flushed now h f l is flush)

    lists_only_by : (now : ℕ) → folder ≡ store_folder → ListsOnly s files now old.store.files new.store.files
    lists_only_by now named = subst (λ (d : List ℕ). (h : List ℕ) → ListsIn new.store.files d now h → ListsIn old.store.files d now h ⊎ IsNewly h) named (newly_in now)

  module _ (steps : Steps old new es) (only : AllByRecursion (RecordsFile Compute s files) es) (recorded : IsRecorded new) (own : AllByRecursion (IsOwn s files) old.store.pending.files) where
    flushed_newly : (now : ℕ) (h : List ℕ) (f : MDBFileInfo) → (l : Lists new.store.files folder now f) → file_record_hash f ≡ h → IsFlushedHere folder es (shard_path folder l.shard.hash) → IsNewly h
    flushed_newly now h f l is (pass, shard, among, path) =
        let any : Any (HasOwn s files shard) new.shards = subst (λ (c : Core). Any (HasOwn s files shard) c.shards) (sym steps.moves.leads) (flushed_own old.store.tells s files (core_of old) es steps.moves.legal only own pass shard among) in
        let (r, here, has) = of_any (HasOwn s files shard) new.shards any in
        let stands : IsShardFile new.store.files new.store.folder r = one_of (IsShardFile new.store.files new.store.folder) new.shards r (recorded.shards.stand (steps.keeps.tells ∙ told)) here in
        let in_folder : IsShardFile new.store.files folder r = subst (λ (d : List ℕ). IsShardFile new.store.files d r) steps.keeps.folder stands in
        let same : l.parts.1 ≡ r.contents.files = files_read new.store.files folder r in_folder (shard_path folder l.shard.hash) l.shard.file (path ∙ ap (λ (x : List ℕ). shard_path folder x) (sym has.0)) l.there.there l.parts l.read in
        let there : IsAmong r.contents.files f = subst (λ (fs : List MDBFileInfo). IsAmong fs f) same l.among in
        let one : IsOwn s files f = one_of (IsOwn s files) r.contents.files f has.1 (to_among r.contents.files f there) in
        subst (λ (x : List ℕ). Any (λ bytes. (bytes ≢ []) × (x ≡ hash_of_file s bytes)) files) is one

    lists_only : (now : ℕ) → folder ≡ store_folder → ListsOnly s files now old.store.files new.store.files
    lists_only now named = lists_only_by flushed_newly now named

-- no file but these is listed newly
pub no_other : (old new : RecordedState) (files : List (List ℕ)) (es : List Entry) → Steps old new es → ChangesFiles [] old new es → AllByRecursion (RecordsFile Compute old.store.limits files) es → IsRecorded new
    → AllByRecursion (IsOwn old.store.limits files) old.store.pending.files → old.store.folder ≡ store_folder → old.store.tells ≡ true → ListsNoOther old.store files new.store
no_other old new files es steps changes only recorded own named told = record {
  only = lists_only old new old.store.limits files es changes told steps only recorded own old.store.opened named;
  tidy = leaves_none old new es changes told;
}

-- ---- files that were cleaned, and then what was pending was flushed

unrecorded_one : (l s : LimitSettings) (files : List (List ℕ)) (e : Entry) → RecordsFile Compute l [] e → RecordsFile Compute s files e
unrecorded_one l s files (Query pass hashes reply) none = tt
unrecorded_one l s files (Register pass chunks next added) none = tt
unrecorded_one l s files (Complete pass file added) (bytes, among, is) = none_here bytes among
unrecorded_one l s files (Flush pass shard) none = tt
unrecorded_one l s files (Fault pass kind) none = tt

with_unrecorded : (l s : LimitSettings) (files : List (List ℕ)) (xs ys : List Entry) → AllByRecursion (RecordsFile Compute s files) xs → AllByRecursion (RecordsFile Compute l []) ys → AllByRecursion (RecordsFile Compute s files) (xs ++ ys)
with_unrecorded l s files [] [] all none = tt
with_unrecorded l s files [] (y ∷ ys) all none = (unrecorded_one l s files y none.0, with_unrecorded l s files [] ys tt none.1)
with_unrecorded l s files (x ∷ xs) ys all none = (all.0, with_unrecorded l s files xs ys all.1 none)

pub no_other_settled : (first before after : RecordedState) (files : List (List ℕ)) (entries : List Entry) → Steps first before entries → ChangesFiles [] first before entries → AllByRecursion (RecordsFile Compute first.store.limits files) entries → IsSettled before after
    → IsRecorded after → first.store.pending ≡ nothing → first.store.folder ≡ store_folder → first.store.tells ≡ true → ListsNoOther first.store files after.store
no_other_settled first before after files entries steps changes only settled recorded fresh named told =
    let both : Steps first after (entries ++ settled.entries) = steps_both first before after entries settled.entries steps settled.steps in
    let changed : ChangesFiles [] first after (entries ++ settled.entries) = changes_then first before after [] [] entries settled.entries steps.keeps.tells steps.keeps.folder changes settled.changes in
    no_other first after files (entries ++ settled.entries) both changed (with_unrecorded before.store.limits first.store.limits files entries settled.entries only settled.unrecorded) recorded
    (subst (λ (p : Held). AllByRecursion (IsOwn first.store.limits files) p.files) (sym fresh) tt) named told

-- ---- where nothing was flushed

no_flush_among : (es : List Entry) (pass : ℕ) (shard : List ℕ) → AllByRecursion IsNoFlush es → IsAmong es (Flush pass shard) → ⊥
no_flush_among es pass shard none among = one_of IsNoFlush es (Flush pass shard) none (to_among es (Flush pass shard) among)

pub no_other_unflushed : (old new : RecordedState) (es : List Entry) → ChangesFiles [] old new es → AllByRecursion IsNoFlush es → old.store.folder ≡ store_folder → old.store.tells ≡ true → ListsNoOther old.store [] new.store
no_other_unflushed old new es changes none named told = record {
  only = lists_only_by old new old.store.limits [] es changes told (λ now h f l is flush. absurd (no_flush_among es flush.0 flush.1 none flush.2)) old.store.opened named;
  tidy = leaves_none old new es changes told;
}

-- one after the other
tidy_both : (a b c : Files) → LeavesNone a b → LeavesNone b c → LeavesNone a c
tidy_both a b c first second = λ name. go name (first name) (second name)
  where
    go : (name : List ℕ) → SameEntry a b (temp_name name) ⊎ (get b (temp_name name) ≡ None) → SameEntry b c (temp_name name) ⊎ (get c (temp_name name) ≡ None) → SameEntry a c (temp_name name) ⊎ (get c (temp_name name) ≡ None)
    go name (inl x) (inl y) = inl (y ∙ x)
    go name (inr x) (inl y) = inr (y ∙ x)
    go name x (inr y) = inr y

only_both : (l m : LimitSettings) (now : ℕ) (a b c : Files) → ListsOnly l [] now a b → ListsOnly m [] now b c → ListsOnly l [] now a c
only_both l m now a b c first second = λ h listed. go h (second h listed)
  where
    go : (h : List ℕ) → ListsHash b now h ⊎ Any (λ bytes. (bytes ≢ []) × (h ≡ hash_of_file m bytes)) [] → ListsHash a now h ⊎ Any (λ bytes. (bytes ≢ []) × (h ≡ hash_of_file l bytes)) []
    go h (inl listed) = first h listed
    go h (inr (i, bytes, below, at, is)) = absurd (omega (arith, below))

pub no_other_both : (a b c : State) → b.opened ≡ a.opened → ListsNoOther a [] b → ListsNoOther b [] c → ListsNoOther a [] c
no_other_both a b c opened first second = record {
  only = only_both a.limits b.limits a.opened a.files b.files c.files first.only (subst (λ (n : ℕ). ListsOnly b.limits [] n b.files c.files) opened second.only);
  tidy = tidy_both a.files b.files c.files first.tidy second.tidy;
}

-- ---- on the disk

-- on the disk that a session was opened over, and on that which it hands back
module _ (tells : Bool) (disk files : Files) (limits : LimitSettings) (now : ℕ) (s t : State) (opened : IsOpened tells false disk store_folder limits now s) (is : files ≡ t.files) (stored : List (List ℕ)) (other : ListsNoOther s stored t) where
  pub only_on_disk : ListsOnly limits stored now disk files
  only_on_disk =
      let of_limits : ListsOnly limits stored s.opened s.files t.files = subst (λ (l : LimitSettings). ListsOnly l stored s.opened s.files t.files) opened.same_limits other.only in
      let at : ListsOnly limits stored now s.files t.files = subst (λ (n : ℕ). ListsOnly limits stored n s.files t.files) opened.time of_limits in
      let from : ListsOnly limits stored now disk t.files = subst (λ (x : Files). ListsOnly limits stored now x t.files) (opened.same_files refl) at in
      subst (λ (x : Files). ListsOnly limits stored now disk x) (sym is) from

  pub tidy_on_disk : LeavesNone disk files
  tidy_on_disk =
      let from : LeavesNone disk t.files = subst (λ (x : Files). LeavesNone x t.files) (opened.same_files refl) other.tidy in
      subst (λ (x : Files). LeavesNone disk x) (sym is) from
