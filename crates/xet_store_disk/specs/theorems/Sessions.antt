-- What the state of a session says about its disk.
use Rattle.std.proofs.Common.{◌≡◌, ◌≢◌, ◌⊎◌, inl, inr, ◌∙◌, ℕ, ◌<◌, ◌≤◌, Bool, true, false, List, [], ◌∷◌, length, Option, Some, None, IsSome, Result, Ok, Err, option_map, refl, sym, ap, subst, nat_eq}
use Rattle.std.proofs.lemmas.Bool.{le-ltb, ltb-false}
use Rattle.std.proofs.Math.Nat.{le_trans}
use Rattle.std.specs.Cmp.Lexicographic.{pointwise}
use Rattle.std.specs.List.{IsAmong, concat}
use Rattle.xet_io.specs.Disk.{Files, bytes_at, file_at}
use Rattle.xet_hash.specs.declared.error.StoreError.{StoreError}
use Rattle.xet_hash.specs.Hash.{zero_hash}
use Rattle.xet_hash.specs.Merkle.{chunk_hash, file_hash, leaves_of, xorb_hash}
use Rattle.xet_shard_format.specs.declared.header_footer.MDBShardFileFooter.{MDBShardFileFooter}
use Rattle.xet_shard_format.specs.declared.record.FileDataSequenceEntry.{FileDataSequenceEntry as Segment}
use Rattle.xet_shard_format.specs.declared.record.MDBFileInfo.{MDBFileInfo}
use Rattle.xet_shard.specs.Held.{Held, nothing}
use Rattle.xet_codec.specs.Parsing.{◌>>=◌}
use Rattle.xet_shard_format.specs.Reading.{shard_footer_at, shard_header_at}
use Rattle.xet_shard_format.specs.Records.{file_record_hash}
use Rattle.xet_folder.specs.theorems.Agreeing.{resolves_once, stored_once}
use Rattle.xet_folder.specs.theorems.Rest.{among_map}
use Rattle.xet_folder.specs.Contents.{HasContents, IsRecord}
use Rattle.xet_folder.specs.Listed.{ResolvesTo, Lists}
use Rattle.xet_shard_file.specs.Names.{shard_path}
use Rattle.xet_folder.specs.Names.{xorb_path}
use Rattle.xet_folder.specs.Plan.{Resolves, range}
use Rattle.xet_shard_file.specs.Shards.{IsThere, ShardFile, is_expired, is_past}
use Rattle.xet_folder.specs.Stored.{IsBacked, IsStored}
use Rattle.xet_folder.specs.Xorbs.{IsListed, FileRecords, found}
use Rattle.xet_store_disk.specs.Cleaning.{HasFile, IsDurable, Keeps, SameEntry}
use Rattle.xet_store_disk.specs.Opening.{contents_of}
use Rattle.xet_store_disk.specs.Ranges.{IsRange}
use Rattle.xet_store_disk.specs.Separate.{Among, Apart, IsNamed, MetBacked, MetChunk, MetFile, MetListed, MetStored, MetXorb, Separate, SeparateIn}
use Rattle.xet_store_disk.specs.Store.{State, IsAdmitted, IsKept, Sound, plan_of}
use Rattle.xet_store_disk.specs.theorems.Rows.{from_among, is_some_found, to_among}
use Rattle.xet_store_disk.specs.theorems.Staying.{all_among, same_bytes_at, same_file_at}
use Rattle.xet_store_disk.specs.theorems.Whole.{found_has, same_key, mapped}

-- ---- plans

module _ {X : Type 0} (P : List ℕ → List X → Type 0) (len : X → ℕ) where
  -- A plan resolves as well where another relation has what the first has of each xorb that it names.
  resolves_named : (Q : List ℕ → List X → Type 0) (plan : List Segment) (out : List X) → ((s : Segment) → Among plan s → (xs : List X) → P s.xorb_hash xs → Q s.xorb_hash xs)
      → Resolves P len plan out → Resolves Q len plan out
  resolves_named Q [] out all j = j
  resolves_named Q (s ∷ ss) out all (xs, rest, has, lies, parts, more) =
      (xs, rest, all s (inl refl) xs has, lies, parts, resolves_named Q ss rest (λ t a. all t (inr a)) more)

  -- the elements of a xorb that a plan names
  resolves_has : (plan : List Segment) (out : List X) (s : Segment) → Resolves P len plan out → Among plan s → (xs : List X) × P s.xorb_hash xs
  resolves_has [] out s j a = absurd a
  resolves_has (t ∷ ts) out s (xs, rest, has, lies, parts, more) (inl is) = (xs, subst (λ (u : Segment). P u.xorb_hash xs) is has)
  resolves_has (t ∷ ts) out s (xs, rest, has, lies, parts, more) (inr a) = resolves_has ts rest s more a

-- a plan is that of a record, or the empty file's
plan_either : (records : FileRecords) (h : List ℕ) (plan : List Segment) → plan_of records h ≡ Some plan → ((h ≡ zero_hash) × (plan ≡ [])) ⊎ ((f : MDBFileInfo) × (found records h ≡ Some f) × (f.segments ≡ plan))
unfolding plan_of
plan_either records h plan e = by_cases (pointwise nat_eq h zero_hash) refl
  where
    by_cases : (b : Bool) → pointwise nat_eq h zero_hash ≡ b → ((h ≡ zero_hash) × (plan ≡ [])) ⊎ ((f : MDBFileInfo) × (found records h ≡ Some f) × (f.segments ≡ plan))
    by_cases true t =
        let empty : plan_of records h ≡ Some [] = rw (t, plan_of) refl in
        let same : ◌≡◌ {A = Option (List Segment)} (Some plan) (Some []) = sym e ∙ empty in inl (same_key h zero_hash t, cc same)
    by_cases false t =
        let there : plan_of records h ≡ option_map (λ (f : MDBFileInfo). f.segments) (found records h) = rw (t, plan_of) refl in
        inr (mapped (λ (f : MDBFileInfo). f.segments) (found records h) plan (sym there ∙ e))

-- Each xorb that a plan of a sound store names is listed.
module _ (s : State) (sound : Sound s) where
  record_listed : (h : List ℕ) (f : MDBFileInfo) → found s.records h ≡ Some f → (t : Segment) → Among f.segments t → IsSome (found s.xorbs t.xorb_hash)
  record_listed h f e t a =
      let r = found_has (IsRecord s.xorbs) s.records h f sound.recorded e in
      let listed = resolves_has (IsListed s.xorbs) (λ (m : List ℕ × ℕ). m.1) f.segments r.leaves t r.resolves a in
      is_some_found s.xorbs t.xorb_hash listed.0 listed.1

  listed_once : (h : List ℕ) (xs ys : List (List ℕ × ℕ)) → IsListed s.xorbs h xs → IsListed s.xorbs h ys → xs ≡ ys
  listed_once h xs ys a b =
      let same : ◌≡◌ {A = Option (List (List ℕ × ℕ))} (Some xs) (Some ys) = sym a ∙ b in cc same

  -- and a record's segments join to leaves, not none
  record_some : (h : List ℕ) (f : MDBFileInfo) → found s.records h ≡ Some f → (leaves : List (List ℕ × ℕ)) → Resolves (IsListed s.xorbs) (λ m. m.1) f.segments leaves → 0 < length leaves
  record_some h f e leaves j =
      let r = found_has (IsRecord s.xorbs) s.records h f sound.recorded e in
      let same : r.leaves ≡ leaves = resolves_once (IsListed s.xorbs) (λ (m : List ℕ × ℕ). m.1) listed_once f.segments r.leaves leaves r.resolves j in
      subst (λ (ms : List (List ℕ × ℕ)). 0 < length ms) same r.some

  plan_listed : (h : List ℕ) (plan : List Segment) → plan_of s.records h ≡ Some plan → (t : Segment) → Among plan t → IsSome (found s.xorbs t.xorb_hash)
  plan_listed h plan e t a = go (plan_either s.records h plan e)
    where
      go : ((h ≡ zero_hash) × (plan ≡ [])) ⊎ ((f : MDBFileInfo) × (found s.records h ≡ Some f) × (f.segments ≡ plan)) → IsSome (found s.xorbs t.xorb_hash)
      go (inl empty) = absurd (subst (λ (l : List Segment). Among l t) empty.1 a)
      go (inr (f, there, is)) = record_listed h f there t (subst (λ (l : List Segment). Among l t) (sym is) a)

-- ---- a disk that has changed

module _ (old new : Files) (folder : List ℕ) where
  -- a xorb whose bytes are the same is stored with the same chunks
  stored_same : (h : List ℕ) (chunks : List (List ℕ)) → bytes_at new (xorb_path folder h) ≡ bytes_at old (xorb_path folder h) → IsStored old folder h chunks → IsStored new folder h chunks
  stored_same h chunks same s = record { bytes = s.bytes; there = same ∙ s.there; encoding = s.encoding; readable = s.readable; hash = s.hash }

  -- a file is listed by a shard whose file is the same
  lists_same : (now : ℕ) (f : MDBFileInfo) (l : Lists old folder now f) → file_at new (shard_path folder l.shard.hash) ≡ file_at old (shard_path folder l.shard.hash) → Lists new folder now f
  lists_same now f l same = record {
    shard = l.shard;
    there = record { named = l.there.named; there = same ∙ l.there.there };
    valid = l.valid;
    parts = l.parts;
    read = l.read;
    among = l.among;
  }

-- ---- what was there when the folder was opened

-- a shard that is valid at a time was valid at each earlier one
pub valid_before : (bytes : List ℕ) (now later : ℕ) → now ≤ later → is_expired later bytes ≡ false → is_expired now bytes ≡ false
valid_before bytes now later earlier = go (shard_header_at bytes >>= λ _. shard_footer_at bytes)
  where
    go : (r : Result MDBShardFileFooter StoreError) → is_past later r ≡ false → is_past now r ≡ false
    go (Ok footer) valid = le-ltb footer.shard_key_expiry now (le_trans earlier (ltb-false footer.shard_key_expiry later valid))
    go (Err e) valid = refl

-- What a valid shard named then is listed.
module _ (old : State) (contents : HasContents old.files old.folder old.opened (contents_of old)) where
  pub named_listed : (h : List ℕ) → IsNamed old.files old.folder old.opened h → IsSome (found old.xorbs h)
  named_listed h (shard, there, valid, names) =
      let r = contents.admits.registers.all shard there valid in
      (contents.contents.named h).1 (r.0, shard, r.1.0, sym r.1.1, names)

  pub listed_named : (h : List ℕ) → IsSome (found old.xorbs h) → IsNamed old.files old.folder old.opened h
  listed_named h is =
      let any = (contents.contents.named h).0 is in
      let k = any.0 in
      let shard : ShardFile = any.1 in (
        shard,
        subst (IsThere old.files old.folder) any.3 (contents.admits.registers.there k shard any.2),
        subst (λ (s : ShardFile). is_expired old.opened s.file.bytes ≡ false) any.3 (contents.admits.registers.valid k shard any.2),
        any.4,
      )

  module _ (new : State) (told : old.tells ≡ true) (keeps : Keeps old new) where
    -- The file of such a shard is as it was, and so is that of each xorb that it names.
    pub valid_stays : (shard : ShardFile) → IsThere old.files old.folder shard → is_expired old.opened shard.file.bytes ≡ false → SameEntry old.files new.files (shard_path old.folder shard.hash)
    valid_stays shard there valid =
        let r = contents.admits.registers.all shard there valid in
        all_among (λ h. SameEntry old.files new.files (shard_path old.folder h)) old.shards shard.hash (keeps.shard_files told)
        (to_among old.shards shard.hash
        (subst (λ (hs : List (List ℕ)). IsAmong hs shard.hash) (sym contents.contents.registered) (among_map contents.shards r.0 shard r.1.0 r.1.1 (λ (s : ShardFile). s.hash))))

    pub named_same : (h : List ℕ) → IsNamed old.files old.folder old.opened h → SameEntry old.files new.files (xorb_path old.folder h)
    named_same h named = keeps.xorb_files told h (named_listed h named)

    -- Each xorb that was listed when a folder was opened is named by a shard that is still there.
    pub named_stays : (h : List ℕ) → IsSome (found old.xorbs h) → IsNamed new.files old.folder old.opened h
    named_stays h is = go (listed_named h is)
      where
        go : IsNamed old.files old.folder old.opened h → IsNamed new.files old.folder old.opened h
        go (shard, there, valid, names) = (
          shard,
          record { named = there.named; there = same_file_at old.files new.files (shard_path old.folder shard.hash) (valid_stays shard there valid) ∙ there.there },
          valid,
          names,
        )

    -- A xorb that is named newly is one that a crash keeps.
    pub named_newly : Sound new → (h : List ℕ) → IsNamed new.files new.folder new.opened h → IsNamed old.files old.folder old.opened h ⊎ IsDurable new.files (xorb_path old.folder h)
    named_newly sound h (shard, there, valid, names) = go (found old.xorbs h) refl
      where
        admitted : IsAdmitted new.files new.folder new.opened new.xorbs new.shards
        admitted = sound.admitted (keeps.tells ∙ told)

        listed : IsSome (found new.xorbs h)
        listed =
            let r = admitted.admits.registers.all shard there valid in
            admitted.named h (r.0, shard, r.1.0, sym r.1.1, names)

        go : (o : Option (List (List ℕ × ℕ))) → found old.xorbs h ≡ o → IsNamed old.files old.folder old.opened h ⊎ IsDurable new.files (xorb_path old.folder h)
        go None e = inr (keeps.listed_files told h e listed)
        go (Some leaves) e = inl (listed_named h (is_some_found old.xorbs h leaves e))

module _ (old new : State) (told : old.tells ≡ true) (contents : HasContents old.files old.folder old.opened (contents_of old)) (keeps : Keeps old new) (later : ℕ) (since : old.opened ≤ later)
    (f : MDBFileInfo) (l : Lists old.files old.folder later f) where
  valid : is_expired old.opened l.shard.file.bytes ≡ false
  valid = valid_before l.shard.file.bytes old.opened later since l.valid

  -- Each file that was listed then, at a time from the opening on, is listed still.
  pub listed_stay : Lists new.files old.folder later f
  listed_stay = lists_same old.files new.files old.folder later f l (same_file_at old.files new.files (shard_path old.folder l.shard.hash) (valid_stays old contents new told keeps l.shard l.there valid))

  -- and it resolves to the same chunks
  pub resolves_stay : (chunks : List (List ℕ)) → ResolvesTo old.files old.folder f chunks → ResolvesTo new.files old.folder f chunks
  resolves_stay chunks j = resolves_named (IsStored old.files old.folder) length (IsStored new.files old.folder) f.segments chunks
      (λ s a c stored. stored_same old.files new.files old.folder s.xorb_hash c (same_bytes_at old.files new.files (xorb_path old.folder s.xorb_hash) (named_same old contents new told keeps s.xorb_hash (named_by s a))) stored) j
    where
      named_by : (s : Segment) → Among f.segments s → IsNamed old.files old.folder old.opened s.xorb_hash
      named_by s a =
          let i = from_among f.segments s a in
          (l.shard, l.there, valid, (l.parts, l.read, inr (f, l.among, among_map f.segments i.0 s i.1.0 i.1.1 (λ (t : Segment). t.xorb_hash))))

-- ---- what a session that keeps shows

-- What is apart is, where less is met.
apart_less : {X : Type 0} (digest : X → List ℕ) (Met Less : X → Type 0) → ((x : X) → Less x → Met x) → Apart digest Met → Apart digest Less
apart_less digest Met Less met apart = record {
  same = λ x y a b e. apart.same x y (met x a) (met y b) e;
  not_zero = λ x a. apart.not_zero x (met x a);
  not_sentinel = λ x a. apart.not_sentinel x (met x a);
}

module _ (before after : State) (told : before.tells ≡ true) where
  -- a listed xorb stays stored
  stored_stays : Keeps before after → (h : List ℕ) (chunks : List (List ℕ)) → IsSome (found before.xorbs h) → IsStored before.files before.folder h chunks → IsStored after.files after.folder h chunks
  stored_stays keeps h chunks listed stored = subst (λ (folder : List ℕ). IsStored after.files folder h chunks) (sym keeps.folder)
      (stored_same before.files after.files before.folder h chunks (same_bytes_at before.files after.files (xorb_path before.folder h) (keeps.xorb_files told h listed)) stored)

  backed_stays : Sound before → Keeps before after → (h : List ℕ) (leaves : List (List ℕ × ℕ)) → IsListed before.xorbs h leaves → IsBacked after.files after.folder h leaves
  backed_stays sound keeps h leaves listed =
      let b = sound.backed told h leaves listed in
      record { chunks = b.chunks; stored = stored_stays keeps h b.chunks (is_some_found before.xorbs h leaves listed) b.stored; same = b.same }

  -- what a plan resolves to stays
  plan_stays : Sound before → Keeps before after → (h : List ℕ) (plan : List Segment) → plan_of before.records h ≡ Some plan → (chunks : List (List ℕ))
      → Resolves (IsStored before.files before.folder) length plan chunks → Resolves (IsStored after.files after.folder) length plan chunks
  plan_stays sound keeps h plan planned chunks j = resolves_named (IsStored before.files before.folder) length (IsStored after.files after.folder) plan chunks
      (λ s a c stored. stored_stays keeps s.xorb_hash c (plan_listed before sound h plan planned s a) stored) j

  -- A session that has a file has it after the flush.
  pub has_file_stays : Sound before → Keeps before after → after.records ≡ before.records → (chunks : List (List ℕ)) → HasFile before chunks → HasFile after chunks
  has_file_stays sound keeps same chunks (plan, planned, resolves) =
      (plan, ap (λ (rs : FileRecords). plan_of rs (file_hash (leaves_of chunks))) same ∙ planned, plan_stays sound keeps (file_hash (leaves_of chunks)) plan planned chunks resolves)

-- where nothing is pending, a registered shard lists each recorded file
kept_now : (s : State) → s.tells ≡ true → Sound s → s.pending ≡ nothing → (h : List ℕ) (f : MDBFileInfo) → found s.records h ≡ Some f → IsKept s.files s.folder s.opened s.shards f
kept_now s told sound none h f e = go (sound.kept h f e)
  where
    go : IsAmong s.pending.files f ⊎ (s.tells ≡ true → IsKept s.files s.folder s.opened s.shards f) → IsKept s.files s.folder s.opened s.shards f
    go (inl p) = absurd (subst (λ (held : Held). Among held.files f) none (to_among s.pending.files f p))
    go (inr kept) = kept told

-- ---- what its folder shows after a flush

module _ (before after : State) (told : before.tells ≡ true) (sound : Sound before) (flushed : Sound after) (keeps : Keeps before after) (same : after.records ≡ before.records)
    (none : after.pending ≡ nothing) where
  recorded_kept : (h : List ℕ) (f : MDBFileInfo) → found before.records h ≡ Some f → IsKept after.files after.folder after.opened after.shards f
  recorded_kept h f e = kept_now after (keeps.tells ∙ told) flushed none h f (ap (λ (rs : FileRecords). found rs h) same ∙ e)

  -- Where digests separate what is met in the folder, they separate what the session showed before its flush: each
  -- xorb that it lists is named by a shard.
  pub separate_by_folder : (files : List (List (List ℕ))) → ((h : List ℕ) → IsSome (found before.xorbs h) → IsNamed after.files after.folder after.opened h)
      → SeparateIn after.files after.folder after.opened files → Separate before files
  separate_by_folder files all_named apart = record {
    chunks = apart_less chunk_hash (MetStored after.files after.folder after.opened files) (MetChunk before files) met_chunk apart.chunks;
    xorbs = apart_less xorb_hash (MetBacked after.files after.folder after.opened) (MetXorb before)
        (λ leaves met. (met.0, all_named met.0 (is_some_found before.xorbs met.0 leaves met.1), backed_stays before after told sound keeps met.0 leaves met.1)) apart.xorbs;
    lists = apart_less file_hash (MetListed after.files after.folder after.opened files) (MetFile before files) met_file apart.lists;
  }
    where
      met_chunk : (b : List ℕ) → MetChunk before files b → MetStored after.files after.folder after.opened files b
      met_chunk b (inl (h, c, has, among)) = inl (h, c, all_named h has.0, stored_stays before after told keeps h c has.0 has.1, among)
      met_chunk b (inr given) = inr given

      met_file : (leaves : List (List ℕ × ℕ)) → MetFile before files leaves → MetListed after.files after.folder after.opened files leaves
      met_file leaves (inl (h, f, recorded, resolves)) =
          let k = recorded_kept h f recorded in
          let moved = resolves_named (IsListed before.xorbs) (λ (m : List ℕ × ℕ). m.1) (IsBacked after.files after.folder) f.segments leaves (λ s a ms listed. backed_stays before after told sound keeps s.xorb_hash ms listed) resolves in
          inl (f, k.lists, moved, record_some before sound h f recorded leaves resolves)
      met_file leaves (inr given) = inr given

  -- A file that the session has is listed by its folder after the flush.
  pub recorded_by_folder : (chunks : List (List ℕ)) → file_hash (leaves_of chunks) ≢ zero_hash → HasFile before chunks
      → (f : MDBFileInfo) × Lists after.files after.folder after.opened f × (file_record_hash f ≡ file_hash (leaves_of chunks)) × ResolvesTo after.files after.folder f chunks
  recorded_by_folder chunks other (plan, planned, resolves) = go (plan_either before.records h plan planned)
    where
      h : List ℕ
      h = file_hash (leaves_of chunks)

      go : ((h ≡ zero_hash) × (plan ≡ [])) ⊎ ((f : MDBFileInfo) × (found before.records h ≡ Some f) × (f.segments ≡ plan))
          → (f : MDBFileInfo) × Lists after.files after.folder after.opened f × (file_record_hash f ≡ h) × ResolvesTo after.files after.folder f chunks
      go (inl empty) = absurd (other empty.0)
      go (inr (f, recorded, is)) =
          let k = recorded_kept h f recorded in
          let moved = plan_stays before after told sound keeps h plan planned chunks resolves in
          (f, k.lists, (found_has (IsRecord before.xorbs) before.records h f sound.recorded recorded).named, subst (λ (p : List Segment). Resolves (IsStored after.files after.folder) length p chunks) (sym is) moved)

-- ---- ranges

-- A range that is read of a file that a store has is that range of its bytes.
pub range_of_file : (s : State) (chunks : List (List ℕ)) (from to : ℕ) (bytes : List ℕ) → HasFile s chunks → IsRange s (file_hash (leaves_of chunks)) from to bytes
    → bytes ≡ range (concat chunks) from to
range_of_file s chunks from to bytes (plan, planned, resolves) r =
    let plans : ◌≡◌ {A = Option (List Segment)} (Some r.plan) (Some plan) = sym r.planned ∙ planned in
    let one : r.plan ≡ plan = cc plans in
    let there = subst (λ (p : List Segment). Resolves (IsStored s.files s.folder) length p r.chunks) one r.resolves in
    let same : r.chunks ≡ chunks = resolves_once (IsStored s.files s.folder) length (stored_once s.files s.folder) plan r.chunks chunks there resolves in
    r.is ∙ ap (λ (cs : List (List ℕ)). range (concat cs) from to) same
