-- What is pending, in a shard.
use Rattle.std.proofs.Common.{◌≡◌, ◌≢◌, ◌⊎◌, inl, inr, ◌∙◌, ℕ, ◌-◌, ◌^◌, ◌<◌, ◌≤◌, Bool, true, false, nat_eq, nat_lt, ◌||◌, List, [], ◌∷◌, ◌++◌, length, map, Option, Some, None, IsSome, Result, Ok, refl, sym, ap, subst, arith}
use Rattle.std.proofs.lemmas.Bool.{le-ltb}
use Rattle.std.proofs.lemmas.List.{append-nil}
use Rattle.std.specs.Cmp.Lexicographic.{bytes_decides, pointwise}
use Rattle.std.specs.List.{All, AllByRecursion, IsAmong, list_any}
use Rattle.std.specs.Ordering.{is_lt}
use Rattle.std.specs.declared.cmp.Ordering.{Ordering}
use Rattle.xet_hash.specs.Hash.{zero_hash}
use Rattle.xet_hash.specs.declared.error.StoreError.{StoreError}
use Rattle.xet_io.specs.Disk.{Files, File, bytes_at, file_at}
use Rattle.xet_io.specs.Entries.{Entries}
use Rattle.xet_io.specs.Images.{Passes}
use Rattle.xet_io.specs.theorems.Passing.{passes_more}
use Rattle.xet_folder.specs.Puts.{IsPuttingShard}
use Rattle.xet_shard_format.specs.declared.record.FileDataSequenceEntry.{FileDataSequenceEntry as Segment}
use Rattle.xet_shard_format.specs.declared.record.MDBFileInfo.{MDBFileInfo}
use Rattle.xet_shard.specs.Held.{Held, IsHeld, by_hash, held_shard, nothing}
use Rattle.xet_shard_format.specs.Lookups.{all_lookups}
use Rattle.xet_shard_format.specs.Reading.{ShardParts, all_of, shard_parts_of}
use Rattle.xet_shard_format.specs.Records.{file_record_hash, xorb_record_hash}
use Rattle.xet_shard_format.specs.Sorted.{put_in, sorted}
use Rattle.xet_shard_format.specs.Encoding.{Fits, IsShard, footer_of, full_shard_bytes}
use Rattle.xet_shard_format.specs.theorems.WholeAgain.{all_again}
use Rattle.xet_folder.specs.Admission.{BlockHolds, FileHolds, ShardHolds, block_leaves, shard_hash}
use Rattle.xet_folder.specs.Checks.{OfBytes, OfFile, OfShard}
use Rattle.xet_folder.specs.Contents.{IsRecord, max_shards}
use Rattle.xet_folder.specs.Names.{IsForeign, xorb_path}
use Rattle.xet_shard_file.specs.Names.{IsHash, shard_path}
use Rattle.xet_folder.specs.Listed.{Lists}
use Rattle.xet_folder.specs.Plan.{Resolves}
use Rattle.xet_shard_file.specs.Puts.{IsDone, IsKeptOrDone}
use Rattle.xet_shard_file.specs.Shards.{is_expired, is_past}
use Rattle.xet_folder.specs.Stored.{IsBacked}
use Rattle.xet_folder.specs.Xorbs.{AreBacked, IsListed, FileRecords, Xorbs, found}
use Rattle.xet_folder.specs.theorems.Keyed.{unkeyed_holds}
use Rattle.xet_base.specs.theorems.Elements.{all_push, all_more}
use Rattle.xet_store_disk.specs.Cleaning.{HasShardAt, HasWholeShard, IsDurable, Keeps, KeepsAt, SameEntry, files_at}
use Rattle.xet_store_disk.specs.Flushing.{IsFlushed, IsUnflushed, KeepsOtherNames, pending_bytes}
use Rattle.xet_store_disk.specs.Separate.{Among}
use Rattle.xet_store_disk.specs.Store.{State, IsAdmitted, IsKept, IsPendingFile, Sound}
use Rattle.xet_store_disk.proofs.EncodedBytes.{encoding_is_bytes}
use Rattle.xet_store_disk.specs.theorems.Admitting.{SameXorb, admitted_still, admitted_with, backed_same, registered_still, this_registered}
use Rattle.xet_store_disk.specs.theorems.Footers.{file_there, with_footer}
use Rattle.xet_store_disk.specs.theorems.Plans.{resolves_more}
use Rattle.xet_store_disk.specs.theorems.Rows.{among_last, among_more, among_sorted, from_among, is_some_found, to_among}
use Rattle.xet_store_disk.specs.theorems.Staying.{StateStays, backed_still, changed, hash_cases, keeps_at, keeps_changed, keeps_refused, kept_still, found_nowhere, same_bytes_at, same_change, same_file_at, sound_refused, stays_shard, keeps_shard}
use Rattle.xet_store_disk.specs.theorems.Whole.{found_has}

-- a shard without expiry does not expire
module _ (held : Held) (now : ℕ) (shard : IsShard (held_shard held now None)) (fits : Fits (held_shard held now None)) where
  pub read_again : all_of (full_shard_bytes (held_shard held now None)) ≡ Ok (shard_parts_of all_lookups (held_shard held now None))
  read_again = all_again all_lookups (held_shard held now None) shard fits

  never_past : (time : ℕ) → time < 2 ^ 64 → nat_lt (footer_of all_lookups (held_shard held now None)).shard_key_expiry time ≡ false
  unfolding footer_of
  never_past time below = le-ltb (2 ^ 64 - 1) time (omega (arith, below))

  -- at any time
  pub never_expired : (time : ℕ) → time < 2 ^ 64 → is_expired time (full_shard_bytes (held_shard held now None)) ≡ false
  never_expired time below =
      ap (is_past time) (with_footer (full_shard_bytes (held_shard held now None)) (shard_parts_of all_lookups (held_shard held now None)) read_again) ∙ never_past time below

  pub not_expired : is_expired now (full_shard_bytes (held_shard held now None)) ≡ false
  not_expired = never_expired now fits.creation

-- ---- the shard is whole

-- what holds of all holds of the same in another order
module _ {X : Type 0} (cmp : X → X → Ordering) (P : X → Type 0) where
  all_put : (y : X) (xs : List X) → P y → AllByRecursion P xs → AllByRecursion P (put_in cmp y xs)
  unfolding put_in
  all_put y [] here all = (here, tt)
  all_put y (z ∷ xs) here all =
      elim (is_lt (cmp z y)) as (λ (b : Bool). AllByRecursion P (elim b as (λ _. List X) [ true ↦ z ∷ put_in cmp y xs | false ↦ y ∷ z ∷ xs ])) [
        | true ↦ (all.0, all_put y xs here all.1)
        | false ↦ (here, (all.0, all.1))
      ]

  all_sorted : (xs : List X) → AllByRecursion P xs → AllByRecursion P (sorted cmp xs)
  unfolding sorted
  all_sorted [] all = tt
  all_sorted (x ∷ xs) all = all_put x (sorted cmp xs) all.0 (all_sorted xs all.1)

-- what holds of what is made of each
all_made : {X : Type 0} (f : X → List ℕ) (P : List ℕ → Type 0) (xs : List X) (h : List ℕ) → AllByRecursion (λ x. P (f x)) xs → Among (map f xs) h → P h
all_made f P [] h all a = absurd a
all_made f P (x ∷ xs) h all (inl e) = subst P e all.0
all_made f P (x ∷ xs) h all (inr a) = all_made f P xs h all.1 a

-- each xorb that a plan names is listed
segments_listed : (xorbs : Xorbs) (plan : List Segment) (out : List (List ℕ × ℕ)) → Resolves (IsListed xorbs) (λ m. m.1) plan out → AllByRecursion (λ s. IsSome (found xorbs s.xorb_hash)) plan
segments_listed xorbs [] out none = tt
segments_listed xorbs (s ∷ ss) out (xs, rest, has, lies, parts, more) = (is_some_found xorbs s.xorb_hash xs has, segments_listed xorbs ss rest more)

module _ (s : State) (sound : Sound s) (shard : IsShard (held_shard s.pending s.opened None)) (fits : Fits (held_shard s.pending s.opened None)) where
  abbrev parts : ShardParts
  parts = shard_parts_of all_lookups (held_shard s.pending s.opened None)

  -- the record of each pending file
  pending_records : (fs : List MDBFileInfo) → AllByRecursion (IsPendingFile s.xorbs s.records) fs → AllByRecursion (λ f. IsRecord s.xorbs (file_record_hash f, f)) fs
  pending_records [] all = tt
  pending_records (f ∷ fs) all = (found_has (IsRecord s.xorbs) s.records (file_record_hash f) f sound.recorded all.0.recorded, pending_records fs all.1)

  files_recorded : AllByRecursion (λ f. IsRecord s.xorbs (file_record_hash f, f)) (by_hash file_record_hash s.pending.files)
  files_recorded = all_sorted _ (λ f. IsRecord s.xorbs (file_record_hash f, f)) s.pending.files (pending_records s.pending.files sound.pending_files)

  blocks_listed : AllByRecursion (λ b. IsListed s.xorbs (xorb_record_hash b) (block_leaves b)) (by_hash xorb_record_hash s.pending.blocks)
  blocks_listed = all_sorted _ (λ b. IsListed s.xorbs (xorb_record_hash b) (block_leaves b)) s.pending.blocks sound.blocks

  -- each xorb that it names is listed
  named_listed : (bytes : List ℕ) → bytes ≡ pending_bytes s → (x : List ℕ) → OfBytes bytes x → IsSome (found s.xorbs x)
  named_listed bytes is x (p, read, of) = go (subst (λ (q : ShardParts). OfShard q x) same of)
    where
      reads : ◌≡◌ {A = Result ShardParts StoreError} (Ok p) (Ok parts)
      reads = sym read ∙ ap all_of is ∙ read_again s.pending s.opened shard fits

      same : p ≡ parts
      same = cc reads

      of_files : (fs : List MDBFileInfo) (f : MDBFileInfo) → AllByRecursion (λ g. IsRecord s.xorbs (file_record_hash g, g)) fs → Among fs f → OfFile f x → IsSome (found s.xorbs x)
      of_files [] f all a of = absurd a
      of_files (g ∷ fs) f all (inl e) of =
          let r = all.0 in
          all_made (λ (t : Segment). t.xorb_hash) (λ h. IsSome (found s.xorbs h)) g.segments x (segments_listed s.xorbs g.segments r.leaves r.resolves)
          (to_among (map (λ (t : Segment). t.xorb_hash) g.segments) x (subst (λ (y : MDBFileInfo). OfFile y x) (sym e) of))
      of_files (g ∷ fs) f all (inr a) of = of_files fs f all.1 a of

      go : OfShard parts x → IsSome (found s.xorbs x)
      go (inl block) =
          all_made xorb_record_hash (λ h. IsSome (found s.xorbs h)) (by_hash xorb_record_hash s.pending.blocks) x
          (all_more (λ b. IsListed s.xorbs (xorb_record_hash b) (block_leaves b)) (λ b. IsSome (found s.xorbs (xorb_record_hash b))) (by_hash xorb_record_hash s.pending.blocks) (λ b l. is_some_found s.xorbs (xorb_record_hash b) (block_leaves b) l) blocks_listed)
          (to_among (map xorb_record_hash (by_hash xorb_record_hash s.pending.blocks)) x block)
      go (inr (f, among, of)) = of_files (by_hash file_record_hash s.pending.files) f files_recorded (to_among (by_hash file_record_hash s.pending.files) f among) of

  -- where the listed xorbs are stored, it holds
  encoding_holds : (files : Files) (h : List ℕ) (file : File) → AreBacked files s.folder s.xorbs → h ≡ shard_hash (pending_bytes s) → file.bytes ≡ pending_bytes s
      → ShardHolds files s.folder (record { hash = h; file = file })
  unfolding footer_of
  encoding_holds files h file backed hash is = record {
    parts = parts;
    read = ap all_of is ∙ read_again s.pending s.opened shard fits;
    bytes = subst (All (λ b. b < 256)) (sym is) (encoding_is_bytes all_lookups (held_shard s.pending s.opened None) fits);
    named = ap shard_hash is ∙ sym hash;
    blocks = all_more (λ b. IsListed s.xorbs (xorb_record_hash b) (block_leaves b)) (BlockHolds files s.folder h zero_hash) (by_hash xorb_record_hash s.pending.blocks)
        (λ b l. unkeyed_holds files s.folder h b (backed (xorb_record_hash b) (block_leaves b) l)) blocks_listed;
    files_hold = all_more (λ f. IsRecord s.xorbs (file_record_hash f, f)) (FileHolds files s.folder h) (by_hash file_record_hash s.pending.files)
        (λ f r. record { leaves = r.leaves; resolves = resolves_more (IsListed s.xorbs) (IsBacked files s.folder) (λ (m : List ℕ × ℕ). m.1) backed f.segments r.leaves r.resolves; some = r.some; hash = r.hash }) files_recorded;
  }

-- what a put leaves of a shard's file: it is as it was, or the whole shard
module _ (s : State) (h : List ℕ) (tells : Bool) (files : Files) (faults : ℕ) (sound : Sound s) (is_hash : IsHash h) (hash : h ≡ shard_hash (pending_bytes s)) (shard : IsShard (held_shard s.pending s.opened None))
    (fits : Fits (held_shard s.pending s.opened None)) (same_xorbs : s.tells ≡ true → (k : List ℕ) → IsHash k → SameEntry s.files files (xorb_path s.folder k)) where
  backed_after : s.tells ≡ true → AreBacked files s.folder s.xorbs
  backed_after told k ms listed =
      backed_same s.files files s.folder k ms (same_bytes_at s.files files (xorb_path s.folder k) (same_xorbs told k (sound.hashes k (is_some_found s.xorbs k ms listed)))) (sound.backed told k ms listed)

  pub whole_there : s.tells ≡ true → IsDone files (shard_path s.folder h) (pending_bytes s) → HasWholeShard (changed s tells files faults s.xorbs s.records s.shards s.pending) h
  whole_there told done =
      let f = file_there files (shard_path s.folder h) (pending_bytes s) done.there in record {
        shard = record { file = f.0; there = f.1; durable = done.durable; holds = encoding_holds s sound shard fits files h f.0 (backed_after told) hash f.2 };
        listed = named_listed s sound shard fits (f.0).bytes f.2;
      }

  pub left_there : (s.tells ≡ true → IsKeptOrDone s.files files (shard_path s.folder h) (pending_bytes s))
      → s.tells ≡ true → SameEntry s.files files (shard_path s.folder h) ⊎ HasWholeShard (changed s tells files faults s.xorbs s.records s.shards s.pending) h
  left_there left told = go (left told)
    where
      go : IsKeptOrDone s.files files (shard_path s.folder h) (pending_bytes s)
          → SameEntry s.files files (shard_path s.folder h) ⊎ HasWholeShard (changed s tells files faults s.xorbs s.records s.shards s.pending) h
      go (inl same) = inl same
      go (inr done) = inr (whole_there told done)

  -- the folder is admitted then
  module _ (others : s.tells ≡ true → (k : List ℕ) → IsHash k → k ≢ h → SameEntry s.files files (shard_path s.folder k)) where
    xorbs_same : s.tells ≡ true → (k : List ℕ) → IsSome (found s.xorbs k) → SameXorb s.files files s.folder k
    xorbs_same told k is = same_bytes_at s.files files (xorb_path s.folder k) (same_xorbs told k (sound.hashes k is))

    others_same : s.tells ≡ true → (k : List ℕ) → IsHash k → k ≢ h → file_at files (shard_path s.folder k) ≡ file_at s.files (shard_path s.folder k)
    others_same told k is apart = same_file_at s.files files (shard_path s.folder k) (others told k is apart)

    valid_encoding : (file : File) → file.bytes ≡ pending_bytes s → is_expired s.opened file.bytes ≡ false
    valid_encoding file is = ap (is_expired s.opened) is ∙ not_expired s.pending s.opened shard fits

    -- with the shard registered
    pub admitted_put : s.tells ≡ true → IsDone files (shard_path s.folder h) (pending_bytes s) → IsAdmitted files s.folder s.opened s.xorbs (s.shards ++ h ∷ [])
    unfolding file_there whole_there
    admitted_put told done =
        let f = file_there files (shard_path s.folder h) (pending_bytes s) done.there in
        let w = whole_there told done in
        let still = registered_still s.files files s.folder s.opened s.xorbs s.xorbs s.shards (λ k is. is) (xorbs_same told) (sound.admitted told) h f.0 is_hash f.1 (valid_encoding f.0 f.2) w.shard.holds w.listed (others_same told) in
        let this = this_registered s.files files s.folder s.opened s.xorbs s.xorbs s.shards (λ k is. is) (xorbs_same told) (sound.admitted told) h f.0 is_hash f.1 (valid_encoding f.0 f.2) w.shard.holds w.listed (others_same told) in
        admitted_with s.files files s.folder s.opened s.xorbs s.xorbs s.shards (λ k is. is) (xorbs_same told) (sound.admitted told) h f.0 is_hash f.1 (valid_encoding f.0 f.2) w.shard.holds w.listed (others_same told)
        (s.shards ++ h ∷ []) (all_push _ s.shards h still this)

    -- and where it is not
    pub admitted_left : (s.tells ≡ true → IsKeptOrDone s.files files (shard_path s.folder h) (pending_bytes s))
        → s.tells ≡ true → IsAdmitted files s.folder s.opened s.xorbs s.shards
    unfolding file_there whole_there
    admitted_left left told = go (left told)
      where
        go : IsKeptOrDone s.files files (shard_path s.folder h) (pending_bytes s) → IsAdmitted files s.folder s.opened s.xorbs s.shards
        go (inl same) = admitted_still s.files files s.folder s.opened s.xorbs s.xorbs s.shards (λ k is. is) (xorbs_same told) (sound.admitted told)
            (λ k is. hash_cases k h (λ e. subst (λ (x : List ℕ). file_at files (shard_path s.folder x) ≡ file_at s.files (shard_path s.folder x)) (sym e) (same_file_at s.files files (shard_path s.folder h) same)) (λ apart. others_same told k is apart))
        go (inr done) =
            let f = file_there files (shard_path s.folder h) (pending_bytes s) done.there in
            let w = whole_there told done in
            let still = registered_still s.files files s.folder s.opened s.xorbs s.xorbs s.shards (λ k is. is) (xorbs_same told) (sound.admitted told) h f.0 is_hash f.1 (valid_encoding f.0 f.2) w.shard.holds w.listed (others_same told) in
            admitted_with s.files files s.folder s.opened s.xorbs s.xorbs s.shards (λ k is. is) (xorbs_same told) (sound.admitted told) h f.0 is_hash f.1 (valid_encoding f.0 f.2) w.shard.holds w.listed (others_same told) s.shards still

-- ---- the shard is registered, and nothing is pending

-- where the shard is there, each file that was pending is listed at any time
module _ (s : State) (h : List ℕ) (files : Files) (hash : IsHash h) (shard : IsShard (held_shard s.pending s.opened None)) (fits : Fits (held_shard s.pending s.opened None))
    (there : bytes_at files (shard_path s.folder h) ≡ Some (pending_bytes s)) where
  pub lists_new : (f : MDBFileInfo) → IsAmong s.pending.files f → (time : ℕ) → time < 2 ^ 64 → Lists files s.folder time f
  lists_new f among time below =
      let file = file_there files (shard_path s.folder h) (pending_bytes s) there in record {
        shard = record { hash = h; file = file.0 };
        there = record { named = hash; there = file.1 };
        valid = ap (λ (b : List ℕ). is_expired time b) file.2 ∙ never_expired s.pending s.opened shard fits time below;
        parts = shard_parts_of all_lookups (held_shard s.pending s.opened None);
        read = ap all_of file.2 ∙ read_again s.pending s.opened shard fits;
        among = from_among (held_shard s.pending s.opened None).files f (among_sorted _ s.pending.files f (to_among s.pending.files f among));
      }

pub nothing_held : IsHeld nothing
nothing_held = record { blocks = tt; files = tt; blocks_differ = tt; files_differ = tt; few_blocks = omega arith; few_files = omega arith }

module _ (s : State) (h : List ℕ) (tells : Bool) (files : Files) (faults : ℕ) (stays : StateStays s tells files faults) where
  abbrev pub with_shard : State
  with_shard = changed s tells files faults s.xorbs s.records (s.shards ++ h ∷ []) nothing

  pub keeps_flushed : (s.tells ≡ true → IsDurable files (shard_path s.folder h)) → Keeps s with_shard
  keeps_flushed durable = keeps_changed s tells files faults stays s.xorbs s.records [] (s.shards ++ h ∷ []) (h ∷ []) nothing (λ k ms l. l) (λ told k none is. found_nowhere (found s.xorbs k) none is) (λ told. (durable told, tt)) (sym (append-nil s.records)) refl

  module _ (sound : Sound s) (hash : IsHash h) (shard : IsShard (held_shard s.pending s.opened None)) (fits : Fits (held_shard s.pending s.opened None))
      (there : s.tells ≡ true → bytes_at files (shard_path s.folder h) ≡ Some (pending_bytes s)) (admitted : s.tells ≡ true → IsAdmitted files s.folder s.opened s.xorbs (s.shards ++ h ∷ [])) where
    -- what was pending is kept by the new shard
    kept_new : (f : MDBFileInfo) → s.tells ≡ true → IsAmong s.pending.files f → IsKept files s.folder s.opened (s.shards ++ h ∷ []) f
    unfolding lists_new
    kept_new f told among = record {
      lists = lists_new s h files hash shard fits (there told) f among s.opened fits.creation;
      registered = from_among (s.shards ++ h ∷ []) h (among_last s.shards h);
    }

    kept_flushed : (f : MDBFileInfo) → IsAmong s.pending.files f ⊎ (s.tells ≡ true → IsKept s.files s.folder s.opened s.shards f)
        → IsAmong nothing.files f ⊎ (tells ≡ true → IsKept files s.folder s.opened (s.shards ++ h ∷ []) f)
    kept_flushed f (inl is) = inr (λ told. kept_new f (sym stays.tells_same ∙ told) is)
    kept_flushed f (inr kept) =
        inr (λ told. let tells_before : s.tells ≡ true = sym stays.tells_same ∙ told in
        kept_still s tells files faults stays sound (s.shards ++ h ∷ []) (λ x a. among_more s.shards (h ∷ []) x a) f tells_before (kept tells_before))

    pub sound_flushed : Sound with_shard
    sound_flushed = record {
      backed = λ told k ms l. backed_still s tells files faults stays sound (sym stays.tells_same ∙ told) k ms l;
      recorded = sound.recorded;
      kept = λ k f e. kept_flushed f (sound.kept k f e);
      held = nothing_held;
      blocks = tt;
      pending_files = tt;
      admitted = λ told. admitted (sym stays.tells_same ∙ told);
      hashes = sound.hashes;
      shards_hashes = all_push IsHash s.shards h sound.shards_hashes hash;
      xorbs_differ = sound.xorbs_differ;
      records_differ = sound.records_differ;
    }

-- the same of lists by other names
module _ (s : State) (h : List ℕ) (tells : Bool) (files : Files) (faults : ℕ) (stays : StateStays s tells files faults) (sound : Sound s) {shards : List (List ℕ)} {pending : Held}
    (registered : shards ≡ s.shards ++ h ∷ []) (none : pending ≡ nothing) where
  same_flushed : changed s tells files faults s.xorbs s.records (s.shards ++ h ∷ []) nothing ≡ changed s tells files faults s.xorbs s.records shards pending
  same_flushed = same_change s tells files faults refl refl registered none

  pub keeps_flushed_at : (s.tells ≡ true → IsDurable files (shard_path s.folder h)) → (t : State) → s ≡ t → Keeps t (changed s tells files faults s.xorbs s.records shards pending)
  keeps_flushed_at durable t e = keeps_at s t (changed s tells files faults s.xorbs s.records shards pending) e (subst (λ (n : State). Keeps s n) same_flushed (keeps_flushed s h tells files faults stays durable))

  pub sound_flushed_at : IsHash h → IsShard (held_shard s.pending s.opened None) → Fits (held_shard s.pending s.opened None)
      → (s.tells ≡ true → bytes_at files (shard_path s.folder h) ≡ Some (pending_bytes s)) → (s.tells ≡ true → IsAdmitted files s.folder s.opened s.xorbs (s.shards ++ h ∷ []))
      → Sound (changed s tells files faults s.xorbs s.records shards pending)
  sound_flushed_at hash shard fits there admitted = subst Sound same_flushed (sound_flushed s h tells files faults stays sound hash shard fits there admitted)

  pub is_flushed : IsHash h → IsShard (held_shard s.pending s.opened None) → Fits (held_shard s.pending s.opened None) → (t : State) → s ≡ t → h ≡ shard_hash (pending_bytes s) → AllByRecursion (λ k. k ≢ h) s.shards
      → (s.tells ≡ true → IsDone files (shard_path s.folder h) (pending_bytes s)) → (s.tells ≡ true → KeepsOtherNames s.files files (shard_path s.folder h)) → length s.shards < max_shards
      → IsFlushed t h (changed s tells files faults s.xorbs s.records shards pending)
  is_flushed is_hash shard fits t e hash fresh done others few = subst (λ (o : State). IsFlushed o h (changed s tells files faults s.xorbs s.records shards pending)) e
      (record {
        form = record { shard = shard; fits = fits };
        hash = hash;
        fresh = fresh;
        few = few;
        there = λ told. (done told).there;
        durable = λ told. (done told).durable;
        temp = λ told. (done told).temp;
        others = others;
        lasts = λ told f among time below. lists_new s h files is_hash shard fits (done told).there f among time below;
        registered = registered;
        nothing_pending = none;
        xorbs = refl;
        records = refl;
      })

-- ---- after an error

module _ (s : State) (h : List ℕ) (tells : Bool) (files : Files) (faults : ℕ) (hash : h ≡ shard_hash (pending_bytes s)) (others : s.tells ≡ true → KeepsOtherNames s.files files (shard_path s.folder h))
    (whole : s.tells ≡ true → IsKeptOrDone s.files files (shard_path s.folder h) (pending_bytes s)) {xorbs : Xorbs} {records : FileRecords} {shards : List (List ℕ)} {pending : Held} where
  pub unflushed_at : (t : State) → s ≡ t → xorbs ≡ s.xorbs → records ≡ s.records → shards ≡ s.shards → pending ≡ s.pending → IsUnflushed t (changed s tells files faults xorbs records shards pending)
  unflushed_at t e ex er es ep = subst (λ (o : State). IsUnflushed o (changed s tells files faults xorbs records shards pending)) e
      (record {
        pending = ep;
        registered = es;
        xorbs = ex;
        records = er;
        others = λ told. subst (λ (k : List ℕ). KeepsOtherNames s.files files (shard_path s.folder k)) hash (others told);
        whole = λ told. subst (λ (k : List ℕ). IsKeptOrDone s.files files (shard_path s.folder k) (pending_bytes s)) hash (whole told);
      })

-- before anything was put
pub unput_at : (s : State) {xorbs : Xorbs} {records : FileRecords} {shards : List (List ℕ)} {pending : Held} (t : State) → s ≡ t → xorbs ≡ s.xorbs → records ≡ s.records → shards ≡ s.shards → pending ≡ s.pending
    → IsUnflushed t (changed s s.tells s.files s.faults xorbs records shards pending)
unput_at s t e ex er es ep = unflushed_at s (shard_hash (pending_bytes s)) s.tells s.files s.faults refl (λ told other name temp. refl) (λ told. inl refl) t e ex er es ep

pub nothing_done : (s : State) → IsUnflushed s s
nothing_done s = unput_at s s refl refl refl refl refl

-- ---- a hash that the test does not find is not registered

or_false : (a b : Bool) → (a || b) ≡ false → (a ≡ false) × (b ≡ false)
or_false true b e = absurd (cc e)
or_false false b e = (refl, e)

pub not_listed : (listed shards : List (List ℕ)) (h : List ℕ) → listed ≡ shards → list_any (λ k. pointwise nat_eq k h) listed ≡ false → Among shards h → ⊥
not_listed listed shards h same none a = go shards (ap (list_any (λ k. pointwise nat_eq k h)) (sym same) ∙ none) a
  where
    go : (ks : List (List ℕ)) → list_any (λ k. pointwise nat_eq k h) ks ≡ false → Among ks h → ⊥
    go [] e a = a
    go (k ∷ ks) e (inl is) =
        let both = or_false (pointwise nat_eq k h) (list_any (λ x. pointwise nat_eq x h) ks) e in
        let t : pointwise nat_eq k h ≡ true = (bytes_decides k h).1 is in
        let bad : true ≡ false = sym t ∙ both.0 in absurd (cc bad)
    go (k ∷ ks) e (inr later) = go ks (or_false (pointwise nat_eq k h) (list_any (λ x. pointwise nat_eq x h) ks) e).1 later

-- what is not among some is none of them
none_among : (ks : List (List ℕ)) (h : List ℕ) → (Among ks h → ⊥) → AllByRecursion (λ k. k ≢ h) ks
none_among [] h apart = tt
none_among (k ∷ ks) h apart = (λ e. apart (inl e), none_among ks h (λ a. apart (inr a)))

-- ---- a put of the shard, in a folder by another name

-- What it shows of the disk, done or not.
pub record PutsShard (s : State) (folder h encoding : List ℕ) (tells : Bool) (files : Files) (faults : ℕ) : Type 0 where
  pub sound : Sound s
  pub same : folder ≡ s.folder
  pub tells_same : tells ≡ s.tells
  pub later : s.faults ≤ faults
  pub new : Among s.shards h → ⊥
  pub is_hash : IsHash h
  pub hash : h ≡ shard_hash encoding
  pub is : encoding ≡ pending_bytes s
  pub shard : IsShard (held_shard s.pending s.opened None)
  pub fits : Fits (held_shard s.pending s.opened None)
  pub xorbs : s.tells ≡ true → (k : List ℕ) → IsHash k → SameEntry s.files files (xorb_path folder k)
  pub shards : s.tells ≡ true → (k : List ℕ) → IsHash k → k ≢ h → SameEntry s.files files (shard_path folder k)
  pub others : s.tells ≡ true → KeepsOtherNames s.files files (shard_path folder h)
  pub foreign : s.tells ≡ true → (name : List ℕ) → IsForeign folder name → SameEntry s.files files name
  pub passes : s.tells ≡ true → Passes s.files files (IsPuttingShard s.files.entries folder h encoding)

-- It is shown by what the calls before the put say, and by the put's own clauses.
pub puts_shard : {s : State} {folder h encoding encoded kept : List ℕ} {tells known : Bool} {files : Files} {faults : ℕ} {listed : List (List ℕ)} → Sound s → folder ≡ s.folder → listed ≡ s.shards
    → known ≡ list_any (λ k. pointwise nat_eq k h) listed → known ≡ false → IsShard (held_shard s.pending s.opened None) → Fits (held_shard s.pending s.opened None) → IsHash h
    → h ≡ shard_hash encoded → encoded ≡ kept → encoding ≡ kept → kept ≡ pending_bytes s → tells ≡ s.tells → s.faults ≤ faults → (s.tells ≡ true → (k : List ℕ) → IsHash k → SameEntry s.files files (xorb_path folder k))
    → (s.tells ≡ true → (k : List ℕ) → IsHash k → k ≢ h → SameEntry s.files files (shard_path folder k)) → (s.tells ≡ true → KeepsOtherNames s.files files (shard_path folder h))
    → (s.tells ≡ true → (name : List ℕ) → IsForeign folder name → SameEntry s.files files name)
    → (s.tells ≡ true → Passes s.files files (IsPuttingShard s.files.entries folder h encoding)) → PutsShard s folder h encoding tells files faults
puts_shard {s} {h = h} {listed = listed} sound e listed_is test none shard fits is_hash digest encoded_is encoding_is kept_is t later xorbs shards others foreign passes =
    let new = not_listed listed s.shards h listed_is (sym test ∙ none) in
    let hash = digest ∙ ap shard_hash (encoded_is ∙ sym encoding_is) in
    let is = encoding_is ∙ kept_is in
    record { sound = sound; same = e; tells_same = t; later = later; new = new; is_hash = is_hash; hash = hash; is = is; shard = shard; fits = fits; xorbs = xorbs; shards = shards; others = others; foreign = foreign; passes = passes }

module _ {s : State} {folder h encoding : List ℕ} {tells : Bool} {files : Files} {faults : ℕ} (p : PutsShard s folder h encoding tells files faults) where
  pub hash_here : h ≡ shard_hash (pending_bytes s)
  hash_here = p.hash ∙ ap shard_hash p.is

  xorbs_here : s.tells ≡ true → (k : List ℕ) → IsHash k → SameEntry s.files files (xorb_path s.folder k)
  xorbs_here told k is = subst (λ (f : List ℕ). SameEntry s.files files (xorb_path f k)) p.same (p.xorbs told k is)

  shards_here : s.tells ≡ true → (k : List ℕ) → IsHash k → k ≢ h → SameEntry s.files files (shard_path s.folder k)
  shards_here told k is apart = subst (λ (f : List ℕ). SameEntry s.files files (shard_path f k)) p.same (p.shards told k is apart)

  others_here : s.tells ≡ true → KeepsOtherNames s.files files (shard_path s.folder h)
  others_here told = subst (λ (f : List ℕ). KeepsOtherNames s.files files (shard_path f h)) p.same (p.others told)

  -- at each moment
  keeps_each : s.tells ≡ true → (m : Entries) → IsPuttingShard s.files.entries folder h encoding m → KeepsAt s m
  keeps_each told m at = keeps_shard s folder h m p.sound p.same p.new at.xorbs at.shards
      (go (left_there s h s.tells (files_at m) s.faults p.sound p.is_hash hash_here p.shard p.fits (λ t k is. subst (λ (f : List ℕ). SameEntry s.files (files_at m) (xorb_path f k)) p.same (at.xorbs k is))
      (λ t. subst (λ (b : List ℕ). IsKeptOrDone s.files (files_at m) (shard_path s.folder h) b) p.is (subst (λ (f : List ℕ). IsKeptOrDone s.files (files_at m) (shard_path f h) encoding) p.same at.here)) told))
    where
      go : SameEntry s.files (files_at m) (shard_path s.folder h) ⊎ HasWholeShard (changed s s.tells (files_at m) s.faults s.xorbs s.records s.shards s.pending) h
          → SameEntry s.files (files_at m) (shard_path s.folder h) ⊎ HasShardAt s m h
      go (inl e) = inl e
      go (inr w) = inr (record { shard = w.shard; named = λ x of. inl (w.listed x of) })

  keeps_all : s.tells ≡ true → Passes s.files files (KeepsAt s)
  keeps_all told = passes_more (IsPuttingShard s.files.entries folder h encoding) (KeepsAt s) s.files files (keeps_each told) (p.passes told)

  -- it is as it was, or the whole shard
  module _ (left : s.tells ≡ true → IsKeptOrDone s.files files (shard_path folder h) encoding) where
    left_here : s.tells ≡ true → IsKeptOrDone s.files files (shard_path s.folder h) (pending_bytes s)
    left_here told =
        subst (λ (t : List ℕ). IsKeptOrDone s.files files (shard_path s.folder h) t) p.is (subst (λ (f : List ℕ). IsKeptOrDone s.files files (shard_path f h) encoding) p.same (left told))

    put_stays : StateStays s tells files faults
    put_stays =
        stays_shard s folder h tells files faults p.sound p.same p.tells_same p.later p.new p.xorbs p.shards p.foreign
        (left_there s h tells files faults p.sound p.is_hash hash_here p.shard p.fits xorbs_here left_here) keeps_all

    -- after an error
    module _ {xorbs : Xorbs} {records : FileRecords} {shards : List (List ℕ)} {pending : Held} (ex : xorbs ≡ s.xorbs) (er : records ≡ s.records) (es : shards ≡ s.shards) (ep : pending ≡ s.pending) where
      pub unput_sound : Sound (changed s tells files faults xorbs records shards pending)
      unput_sound = sound_refused s tells files faults put_stays p.sound (admitted_left s h tells files faults p.sound p.is_hash hash_here p.shard p.fits xorbs_here shards_here left_here) ex er es ep

      pub unput_keeps : (t : State) → s ≡ t → Keeps t (changed s tells files faults xorbs records shards pending)
      unput_keeps t e = keeps_refused s tells files faults put_stays p.sound t e ex er es ep

      pub unput_refused : (t : State) → s ≡ t → IsUnflushed t (changed s tells files faults xorbs records shards pending)
      unput_refused t e = unflushed_at s h tells files faults hash_here others_here left_here t e ex er es ep

  -- done
  module _ (done : s.tells ≡ true → IsDone files (shard_path folder h) encoding) {shards : List (List ℕ)} {pending : Held} (registered : shards ≡ s.shards ++ h ∷ []) (none : pending ≡ nothing) where
    done_here : s.tells ≡ true → IsDone files (shard_path s.folder h) (pending_bytes s)
    done_here told = subst (λ (t : List ℕ). IsDone files (shard_path s.folder h) t) p.is (subst (λ (f : List ℕ). IsDone files (shard_path f h) encoding) p.same (done told))

    done_stays : StateStays s tells files faults
    done_stays = put_stays (λ told. inr (done told))

    pub put_keeps : (t : State) → s ≡ t → Keeps t (changed s tells files faults s.xorbs s.records shards pending)
    put_keeps t e = keeps_flushed_at s h tells files faults done_stays p.sound registered none (λ told. (done_here told).durable) t e

    pub put_sound : Sound (changed s tells files faults s.xorbs s.records shards pending)
    put_sound = sound_flushed_at s h tells files faults done_stays p.sound registered none p.is_hash p.shard p.fits (λ told. (done_here told).there)
        (λ told. admitted_put s h tells files faults p.sound p.is_hash hash_here p.shard p.fits xorbs_here shards_here told (done_here told))

    pub put_flushed : (t : State) → s ≡ t → length s.shards < max_shards → IsFlushed t h (changed s tells files faults s.xorbs s.records shards pending)
    put_flushed t e few = is_flushed s h tells files faults done_stays p.sound registered none p.is_hash p.shard p.fits t e hash_here (none_among s.shards h p.new) done_here others_here few
