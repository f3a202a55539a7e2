-- Registered shards in an index, and queries over them.
use Rattle.std.proofs.Common.{◌≡◌, ◌≢◌, ◌∙◌, inl, inr, ℕ, zero, suc, ◌+◌, ◌≤◌, Bool, true, false, List, [], ◌∷◌, ◌++◌, length, map, slice_get, Option, Some, None, IsSome, option_map, Result, Ok, Err, IfErr, OnOk, refl, sym, ap, subst, arith}
use Rattle.std.specs.Prelude.{if◌then◌else◌, is_some}
use Rattle.std.proofs.lemmas.List.{length-map}
use Rattle.std.proofs.lemmas.List.Elements.{recursion_from_All}
use Rattle.std.specs.List.{AllByRecursion, Any, IsAmong}
use Rattle.xet_codec.specs.Parsing.{◌>>=◌}
use Rattle.xet_hash.specs.Hash.{sentinel, zero_hash}
use Rattle.xet_hash.specs.Merkle.{leaves_of}
use Rattle.xet_hash.specs.declared.error.Place.TheVariants.{Disk}
use Rattle.xet_hash.specs.declared.error.StoreError.{StoreError}
use Rattle.xet_hash.specs.declared.error.StoreError.TheVariants.{BadFilename, FileNotFound, Io, MalformedData, OutOfMemory, UnexpectedEof}
use Rattle.xet_io.specs.Disk.{File, Files, bytes_at, file_at}
use Rattle.xet_shard.specs.Queries.{kept_hash, shard_run_at}
use Rattle.xet_shard.specs.Runs.{held_run}
use Rattle.xet_shard.specs.Sections.{chunk_lookup_in, info_at}
use Rattle.xet_shard.specs.Union.{ShardRecords}
use Rattle.xet_shard.specs.declared.info.MDBShardInfo.{MDBShardInfo}
use Rattle.xet_shard_directory.specs.Answers.{GivesUnlessDisk, IsLoadError, IsQueryError, IsReadError, in_file}
use Rattle.xet_shard_directory.specs.Values.{last_part, loaded, shard_value}
use Rattle.xet_shard_directory.specs.declared.shard_file.MDBShardFile.{MDBShardFile}
use Rattle.xet_shard_file.specs.Names.{IsHash, shard_path}
use Rattle.xet_shard_file.specs.Shards.{IsThere, ShardFile}
use Rattle.xet_shard_file.specs.theorems.Exits.{rose_before}
use Rattle.xet_shard_file.specs.theorems.Names.{name_determines}
use Rattle.xet_shard_format.specs.Encoding.{Fits, IsShard, Shard, footer_of, header, shard_bytes}
use Rattle.xet_shard_format.specs.Lookups.{Lookups, chunk_items, flat_places}
use Rattle.xet_shard_format.specs.Names.{shard_name}
use Rattle.xet_shard_format.specs.Reading.{IsRead, ShardParts, all_of, shard_parts_of, shard_of as shard_of_parts}
use Rattle.xet_shard_format.specs.Records.{AreRecords, IsXorb, first_word, xorb_record_hash}
use Rattle.xet_shard_format.specs.declared.record.FileDataSequenceEntry.{FileDataSequenceEntry as Segment}
use Rattle.xet_shard_format.specs.declared.record.MDBXorbInfo.{MDBXorbInfo}
use Rattle.xet_shard_format.specs.theorems.Bytes.{all_are_bytes}
use Rattle.xet_shard_format.specs.theorems.WholeAgain.{all_again}
use Rattle.xet_shard_format.specs.theorems.WholeTaken.{all_takes}
use Rattle.xet_shard_lookup.specs.Found.{HoldsFile, HoldsFiles, IsEncodingOf, Run, first_some, found, keyed_run, run_at_place, run_in_file, shard_of}
use Rattle.xet_shard_index.specs.declared.word_place.WordPlace.{WordPlace}
use Rattle.xet_shard_registry.specs.Collections.{IsRegistryOf, Tables}
use Rattle.xet_shard_registry.specs.Registered.{Registered, keys_of, place_among, with_shard}
use Rattle.xet_folder.specs.Admission.{BlockHolds, ShardHolds, block_leaves, key_of}
use Rattle.xet_folder.specs.Checks.{OfBytes}
use Rattle.xet_folder.specs.Stored.{IsBacked}
use Rattle.xet_folder.specs.Xorbs.{AreBacked, IsListed, Xorbs, found as row_of}
use Rattle.xet_folder.specs.theorems.Agreeing.{stored_once}
use Rattle.xet_folder.specs.theorems.Keyed.{unkeyed_leaves}
use Rattle.xet_history.specs.Sound.{IsBlock}
use Rattle.xet_history.specs.theorems.FoundRuns.{AllAt, AllRuns, held_runs, run_is, run_lies, runs_then, shard_runs}
use Rattle.xet_store_disk.specs.Asking.{AreOwnShards, IsAskingError, IsOwnShard, RegistersShard}
use Rattle.xet_store_disk.specs.Separate.{Among}
use Rattle.xet_store_disk.specs.Store.{Sound, State}
use Rattle.xet_store_disk.specs.internal.Asking.{AddsFile, AddsLoaded, FailsReading, FindsListed, IsEncoded, IsPlainRun, asking_error}
use Rattle.xet_store_disk.specs.theorems.Admitting.{all_with, any_of, of_any, one_of}
use Rattle.xet_store_disk.specs.theorems.Footers.{file_there}
use Rattle.xet_store_disk.specs.theorems.Rows.{from_among, to_among}

-- ---- the files of own shards

same_bytes : (o : Option (List ℕ)) (a b : List ℕ) → o ≡ Some a → o ≡ Some b → a ≡ b
same_bytes o a b ea eb = let both : ◌≡◌ {A = Option (List ℕ)} (Some a) (Some b) = sym ea ∙ eb in cc both

holds_own : (s : State) (r : Registered) → IsOwnShard s r → HoldsFile s.files r
holds_own s r own bytes there = subst (λ (b : List ℕ). IsEncodingOf r b) (same_bytes (bytes_at s.files r.file.path) own.bytes bytes own.there there) own.encoding

pub own_holds : (s : State) (shards : List Registered) → AreOwnShards s shards → HoldsFiles s.files shards
own_holds s shards own = λ k d below. holds_own s _ (own k d below)

bytes_of_file : (files : Files) (path : List ℕ) (f : File) → file_at files path ≡ Some f → bytes_at files path ≡ Some f.bytes
bytes_of_file files path f there = ap (option_map (λ (x : File). x.bytes)) there

-- ---- registered shards are verified

-- the file of a registered shard, with what was verified of it
pub record IsVerified (s : State) (h : List ℕ) : Type 0 where
  pub file : File
  pub there : file_at s.files (shard_path s.folder h) ≡ Some file
  pub holds : ShardHolds s.files s.folder (record { hash = h; file = file })
  pub encoding : IsRead file.bytes holds.parts
  pub named : (x : List ℕ) → OfBytes file.bytes x → IsSome (row_of s.xorbs x)

module _ (s : State) (sound : Sound s) (told : s.tells ≡ true) where
  pub verified : (h : List ℕ) → Among s.shards h → IsVerified s h
  verified h a =
      let admitted = sound.admitted told in
      let (f, among, is) = of_any (λ (x : ShardFile). x.hash ≡ h) admitted.shards (one_of (λ k. Any (λ (x : ShardFile). x.hash ≡ k) admitted.shards) s.shards h admitted.among a) in
      let there : IsThere s.files s.folder f = one_of (IsThere s.files s.folder) admitted.shards f (recursion_from_All (IsThere s.files s.folder) admitted.shards admitted.admits.registers.there) among in
      let whole : f ≡ record { hash = h; file = f.file } = λ i. record { hash = is i; file = f.file } in
      let held : ShardHolds s.files s.folder (record { hash = h; file = f.file }) = subst (ShardHolds s.files s.folder) whole (one_of (ShardHolds s.files s.folder) admitted.shards f admitted.admits.hold among) in
      record {
        file = f.file;
        there = ap (λ (k : List ℕ). file_at s.files (shard_path s.folder k)) (sym is) ∙ there.there;
        holds = held;
        encoding = all_takes f.file.bytes held.parts (all_are_bytes f.file.bytes held.bytes) held.read;
        named = λ x of. admitted.named x (any_of (λ (y : ShardFile). OfBytes y.file.bytes x) admitted.shards f among of);
      }

  pub encoded : (h : List ℕ) → Among s.shards h → IsEncoded s.files (shard_path s.folder h)
  encoded h a =
      let v = verified h a in
      record {
        bytes = v.file.bytes;
        there = bytes_of_file s.files (shard_path s.folder h) v.file v.there;
        shard = shard_of_parts v.holds.parts;
        encoding = record { shard = v.encoding.shard; fits = v.encoding.fits; lookups = v.encoding.lookups; encoding = v.encoding.encoding };
      }

-- ---- blocks of own shards are of listed xorbs

backed_once : (files : Files) (folder h : List ℕ) (ms ns : List (List ℕ × ℕ)) → IsBacked files folder h ms → IsBacked files folder h ns → ms ≡ ns
backed_once files folder h ms ns b c = sym b.same ∙ ap leaves_of (stored_once files folder h b.chunks c.chunks b.stored c.stored) ∙ c.same

block_of : (s : State) → AreBacked s.files s.folder s.xorbs → (shard key : List ℕ) (b : MDBXorbInfo) → BlockHolds s.files s.folder shard key b → IsSome (row_of s.xorbs (xorb_record_hash b)) → IsBlock s.xorbs key b
block_of s backed shard key b holds listed = go (row_of s.xorbs (xorb_record_hash b)) refl listed
  where
    go : (o : Option (List (List ℕ × ℕ))) → row_of s.xorbs (xorb_record_hash b) ≡ o → IsSome o → IsBlock s.xorbs key b
    go None e some = absurd (cc some)
    go (Some ms) e some = record {
      leaves = holds.leaves;
      listed = e ∙ ap (λ (l : List (List ℕ × ℕ)). Some l) (backed_once s.files s.folder (xorb_record_hash b) ms holds.leaves (backed (xorb_record_hash b) ms e) holds.backed);
      keyed = sym holds.lists;
    }

among_map : {X Y : Type 0} (f : X → Y) (xs : List X) (x : X) → Among xs x → Among (map f xs) (f x)
among_map f [] x a = a
among_map f (y ∷ xs) x (inl e) = inl (ap f e)
among_map f (y ∷ xs) x (inr a) = inr (among_map f xs x a)

-- the parts that are read of the file of an own shard are the shard's
own_parts : (s : State) (r : Registered) (own : IsOwnShard s r) (f : File) (parts : ShardParts) → file_at s.files (shard_path s.folder r.file.shard_hash) ≡ Some f → all_of f.bytes ≡ Ok parts
    → parts ≡ shard_parts_of own.encoding.encoding.lookups (shard_of r)
own_parts s r own f parts there read =
    let e = own.encoding.encoding in
    let same : own.bytes ≡ f.bytes = same_bytes (bytes_at s.files r.file.path) own.bytes f.bytes own.there (bytes_of_file s.files r.file.path f (ap (file_at s.files) own.path ∙ there)) in
    let both : ◌≡◌ {A = Result ShardParts StoreError} (Ok parts) (Ok (shard_parts_of e.lookups (shard_of r))) = sym read ∙ ap all_of (sym same ∙ e.encoding) ∙ all_again e.lookups (shard_of r) e.shard e.fits in
    cc both

-- ---- the runs that are found in a block

all_of_both : {X : Type 0} (P Q R : X → Type 0) (xs : List X) → ((x : X) → P x → Q x → R x) → AllByRecursion P xs → AllByRecursion Q xs → AllByRecursion R xs
all_of_both P Q R [] both p q = tt
all_of_both P Q R (x ∷ xs) both p q = (both x p.0 q.0, all_of_both P Q R xs both p.1 q.1)

records_named : {X : Type 0} (hash : X → List ℕ) (Form : X → Type 0) (last : Option (List ℕ)) (xs : List X) → AreRecords hash Form last xs → AllByRecursion (λ x. hash x ≢ sentinel) xs
records_named hash Form last [] are = tt
records_named hash Form last (x ∷ xs) are = (are.1, records_named hash Form (Some (hash x)) xs are.3)

-- by as many hashes as the query has, as the block has them
block_plain : (xorbs : Xorbs) (key : List ℕ) (query : List (List ℕ)) (b : MDBXorbInfo) → IsBlock xorbs key b → xorb_record_hash b ≢ sentinel → (kept : List (List ℕ)) → length kept ≡ length query → AllAt (IsPlainRun xorbs query) kept b
block_plain xorbs key query b is named kept same place run e =
    let at = run_is kept b place run e in
    record {
      lies = run_lies xorbs key b is kept place run e;
      within = omega (arith, at.within, same);
      plain = ap (λ (x : Segment). x.xorb_flags) at.segment;
      named = λ bad. named (sym (ap (λ (x : Segment). x.xorb_hash) at.segment) ∙ bad);
    }

-- those of what is pending, on any disk
pub pending_plain : (s : State) → Sound s → (query : List (List ℕ)) → AllRuns (IsPlainRun s.xorbs query) (held_run s.pending.blocks query)
unfolding held_run
pending_plain s sound [] = λ run e. absurd (cc e)
pending_plain s sound (h ∷ hs) =
    let query : List (List ℕ) = h ∷ hs in
    held_runs (IsPlainRun s.xorbs query) s.pending.blocks h hs
    (all_of_both (λ b. IsListed s.xorbs (xorb_record_hash b) (block_leaves b)) (λ b. (xorb_record_hash b ≢ sentinel) × IsXorb b) (AllAt (IsPlainRun s.xorbs query) query) s.pending.blocks
    (λ b listed held. block_plain s.xorbs zero_hash query b (record { leaves = block_leaves b; listed = listed; keyed = sym (unkeyed_leaves (block_leaves b)) }) held.0 query refl) sound.blocks sound.held.blocks)

module _ (s : State) (sound : Sound s) (told : s.tells ≡ true) where
  abbrev HasBlocks : Registered → Type 0
  HasBlocks r = AllByRecursion (IsBlock s.xorbs (shard_of r).key) (shard_of r).blocks

  parts_blocks : (v : (h : List ℕ) × IsVerified s h) → AllByRecursion (IsBlock s.xorbs (key_of v.1.holds.parts)) v.1.holds.parts.0
  parts_blocks (h, v) =
      all_with (BlockHolds s.files s.folder h (key_of v.holds.parts)) (IsBlock s.xorbs (key_of v.holds.parts)) v.holds.parts.0
      (λ b a holds. block_of s (sound.backed told) h (key_of v.holds.parts) b holds
      (v.named (xorb_record_hash b) (v.holds.parts, v.holds.read, inl (from_among (map xorb_record_hash v.holds.parts.0) (xorb_record_hash b) (among_map xorb_record_hash v.holds.parts.0 b a))))) v.holds.blocks

  own_blocks : (r : Registered) → IsOwnShard s r → HasBlocks r
  unfolding footer_of
  own_blocks r own =
      let h = r.file.shard_hash in
      let v = verified s sound told h (to_among s.shards h own.among) in
      subst (λ (p : ShardParts). AllByRecursion (IsBlock s.xorbs (key_of p)) p.0) (own_parts s r own v.file v.holds.parts v.there v.holds.read) (parts_blocks (h, v))

  -- ---- the runs of queries

  all_at : {X : Type 0} (P : X → Type 0) (xs : List X) (i : ℕ) (x : X) → AllByRecursion P xs → slice_get xs i ≡ Some x → P x
  all_at P [] i x all e = absurd (cc e)
  all_at P (y ∷ xs) zero x all e = let same : y ≡ x = cc e in subst P same all.0
  all_at P (y ∷ xs) (suc i) x all e = all_at P xs i x all.1 e

  module _ (query : List (List ℕ)) where
    abbrev Plain : Run → Type 0
    Plain = IsPlainRun s.xorbs query

    runs_first : (o : Option Run) (os : List (Option Run)) → AllRuns Plain o → AllRuns Plain (first_some os) → AllRuns Plain (first_some (o ∷ os))
    unfolding first_some
    runs_first None os first others = others
    runs_first (Some x) os first others = first

    runs_all : {X : Type 0} (f : X → Option Run) (xs : List X) → ((x : X) → AllRuns Plain (f x)) → AllRuns Plain (first_some (map f xs))
    unfolding first_some
    runs_all f [] all run e = absurd (cc e)
    runs_all f (x ∷ xs) all run e = runs_first (f x) (map f xs) (all x) (runs_all f xs all) run e

    shard_plain : (r : Registered) → IsOwnShard s r → (row chunk : ℕ) → AllRuns Plain (shard_run_at (shard_of r) query row chunk)
    shard_plain r own =
        let keyed : List (List ℕ) = map (kept_hash (shard_of r).key) query in
        shard_runs Plain (shard_of r) query
        (all_of_both (IsBlock s.xorbs (shard_of r).key) (λ b. xorb_record_hash b ≢ sentinel) (AllAt Plain keyed) (shard_of r).blocks
        (λ b is named. block_plain s.xorbs (shard_of r).key query b is named keyed (length-map query (kept_hash (shard_of r).key))) (own_blocks r own)
        (records_named xorb_record_hash IsXorb None (shard_of r).blocks own.encoding.encoding.shard.blocks))

    file_plain : (p : WordPlace) (r : Registered) → IsOwnShard s r → AllRuns Plain (run_in_file s.files query p r)
    file_plain p r own = go (is_some (file_at s.files r.file.path))
      where
        go : (b : Bool) → AllRuns Plain (if b then shard_run_at (shard_of r) query p.row p.chunk else None)
        go true = shard_plain r own p.row p.chunk
        go false = λ run e. absurd (cc e)

    place_plain : (shards : List Registered) → AreOwnShards s shards → (p : WordPlace) → AllRuns Plain (run_at_place s.files shards query p)
    place_plain shards own p =
        runs_then Plain (run_in_file s.files query p) (slice_get shards p.shard) (λ r e. file_plain p r (all_at (IsOwnShard s) shards p.shard r (recursion_from_All (IsOwnShard s) shards own) e))

  pub own_plain : (shards : List Registered) → AreOwnShards s shards → (query : List (List ℕ)) → AllRuns (IsPlainRun s.xorbs query) (found s.files s.pending shards query)
  unfolding found
  own_plain shards own [] = λ run e. absurd (cc e)
  own_plain shards own (h ∷ hs) =
      let query : List (List ℕ) = h ∷ hs in
      runs_first query (held_run s.pending.blocks query) (map (keyed_run s.files shards h query) (keys_of shards)) (pending_plain s sound query)
      (runs_all query (keyed_run s.files shards h query) (keys_of shards)
      (λ key. runs_then (IsPlainRun s.xorbs query) (run_at_place s.files shards query) (place_among key (first_word (kept_hash key h)) shards) (λ p e. place_plain query shards own p)))

  pub finds_listed : (shards : List Registered) → AreOwnShards s shards → (query : List (List ℕ)) → FindsListed s.files s.pending shards s.xorbs query
  finds_listed shards own query = record { holds = own_holds s shards own; lies = own_plain shards own query }

-- ---- an encoded shard file is loaded

abbrev pub InfoLaw : Type 0
InfoLaw = (w : Lookups) (t : Shard) → IsShard t → Fits t → info_at (shard_bytes w t) ≡ Ok (record { header = header; metadata = footer_of w t })

abbrev pub LookupLaw : Type 0
LookupLaw = (w : Lookups) (t : Shard) → IsShard t → Fits t → chunk_lookup_in (footer_of w t) (shard_bytes w t) ≡ Ok (chunk_items t.blocks)

module _ (files : Files) (path : List ℕ) (f : File) (w : Lookups) (t : Shard) (form : IsShard t) (fits : Fits t) (there : file_at files path ≡ Some f) (is : f.bytes ≡ shard_bytes w t) where
  abbrev info : MDBShardInfo
  info = record { header = header; metadata = footer_of w t }

  abbrev value_of : List ℕ → MDBShardFile
  value_of h = shard_value h path info f.modified

  loads : InfoLaw → (h : List ℕ) → loaded files h path ≡ Ok (value_of h)
  loads infos h =
      ap (λ (o : Option File). in_file o (λ (x : File). info_at x.bytes >>= λ shard. Ok (shard_value h path shard x.modified))) there
      ∙ ap (λ (r : Result MDBShardInfo StoreError). r >>= λ shard. Ok (shard_value h path shard f.modified)) (ap info_at is ∙ infos w t form fits)

  loads_this : InfoLaw → (h : List ℕ) (file : MDBShardFile) → loaded files h path ≡ Ok file → file ≡ value_of h
  loads_this infos h file e = let both : ◌≡◌ {A = Result MDBShardFile StoreError} (Ok file) (Ok (value_of h)) = sym e ∙ loads infos h in cc both

  reads_value : LookupLaw → (h : List ℕ) → in_file (file_at files path) (λ (x : File). chunk_lookup_in (value_of h).shard.metadata x.bytes) ≡ Ok (chunk_items t.blocks)
  reads_value lookups h =
      ap (λ (o : Option File). in_file o (λ (x : File). chunk_lookup_in (footer_of w t) x.bytes)) there
      ∙ ap (chunk_lookup_in (footer_of w t)) is ∙ lookups w t form fits

  reads_this : LookupLaw → (h : List ℕ) (file : MDBShardFile) → file ≡ value_of h → in_file (file_at files file.path) (λ (x : File). chunk_lookup_in file.shard.metadata x.bytes) ≡ Ok (chunk_items t.blocks)
  reads_this lookups h file e =
      ap (λ (v : MDBShardFile). in_file (file_at files v.path) (λ (x : File). chunk_lookup_in v.shard.metadata x.bytes)) e ∙ reads_value lookups h

  encodes_this : (h : List ℕ) (file : MDBShardFile) (items : List (ℕ × ℕ × ℕ)) (r : Registered) → file ≡ value_of h → items ≡ chunk_items t.blocks → r.file ≡ file → r.items ≡ items → r.records ≡ (t.blocks, t.files) → IsEncodingOf r f.bytes
  unfolding footer_of
  encodes_this h file items r value listed file_is items_is records_is =
      let shard_is : r.file.shard ≡ info = ap (λ (v : MDBShardFile). v.shard) (file_is ∙ value) in
      let same : t ≡ shard_of r = λ i. record {
        blocks = (sym records_is i).0;
        files = (sym records_is i).1;
        key = (sym shard_is i).metadata.chunk_hash_hmac_key;
        creation = (sym shard_is i).metadata.shard_creation_timestamp;
        expiry = (sym shard_is i).metadata.shard_key_expiry;
      } in
      record {
        encoding = record { shard = subst IsShard same form; fits = subst Fits same fits; lookups = w; encoding = is ∙ ap (shard_bytes w) same };
        info = shard_is ∙ ap (λ (x : Shard). record { header = header; metadata = footer_of w x }) same;
        items = items_is ∙ listed ∙ ap (λ (x : ShardRecords). chunk_items x.0) (sym records_is);
      }

-- the xorbs and files of the shard file at a path; none if there is no shard
unfoldable records_of : Files → List ℕ → ShardRecords
records_of files path =
    elim (bytes_at files path) as (λ _. ShardRecords) [
      | Some bytes ↦ elim (all_of bytes) as (λ _. ShardRecords) [ Ok p ↦ (p.0, p.1) | Err e ↦ ([], []) ]
      | None ↦ ([], [])
    ]

records_are : (files : Files) (path bytes : List ℕ) (p : ShardParts) → bytes_at files path ≡ Some bytes → all_of bytes ≡ Ok p → records_of files path ≡ (p.0, p.1)
unfolding records_of
records_are files path bytes p there read =
    ap (λ (o : Option (List ℕ)). elim o as (λ _. ShardRecords) [ Some b ↦ elim (all_of b) as (λ _. ShardRecords) [ Ok q ↦ (q.0, q.1) | Err e ↦ ([], []) ] | None ↦ ([], []) ]) there
    ∙ ap (λ (r : Result ShardParts StoreError). elim r as (λ _. ShardRecords) [ Ok q ↦ (q.0, q.1) | Err e ↦ ([], []) ]) read

pub among_at : (xs : List (List ℕ)) (i : ℕ) (x : List ℕ) → slice_get xs i ≡ Some x → Among xs x
among_at [] i x e = absurd (cc e)
among_at (y ∷ xs) zero x e = inl (cc e)
among_at (y ∷ xs) (suc i) x e = inr (among_at xs i x e)

module _ (s : State) (sound : Sound s) (infos : InfoLaw) (lookups : LookupLaw) (number : ℕ) (h : List ℕ) (at : slice_get s.shards number ≡ Some h) (old new : Tables) where
  abbrev here : List ℕ
  here = shard_path s.folder h

  abbrev registered : MDBShardFile → List (ℕ × ℕ × ℕ) → Registered
  registered file items = record { file = file; items = items; records = records_of s.files here; entered = true }

  own_file : s.tells ≡ true → (file : MDBShardFile) (items : List (ℕ × ℕ × ℕ)) → file.shard_hash ≡ h → file.path ≡ here → loaded s.files h here ≡ Ok file
      → in_file (file_at s.files file.path) (λ f. chunk_lookup_in file.shard.metadata f.bytes) ≡ Ok items → IsOwnShard s (registered file items)
  unfolding footer_of
  own_file told file items hash path loads_file reads_items =
      let v = verified s sound told h (among_at s.shards number h at) in
      let read = v.encoding in
      let p = v.holds.parts in
      let value = loads_this s.files here v.file read.lookups (shard_of_parts p) read.shard read.fits v.there read.encoding infos h file loads_file in
      let both : ◌≡◌ {A = Result (List (ℕ × ℕ × ℕ)) StoreError} (Ok items) (Ok (chunk_items p.0)) =
      sym reads_items ∙ reads_this s.files here v.file read.lookups (shard_of_parts p) read.shard read.fits v.there read.encoding lookups h file value in
      let listed : items ≡ chunk_items p.0 = cc both in
      let there : bytes_at s.files here ≡ Some v.file.bytes = bytes_of_file s.files here v.file v.there in
      record {
        among = subst (IsAmong s.shards) (sym hash) (from_among s.shards h (among_at s.shards number h at));
        path = path ∙ ap (shard_path s.folder) (sym hash);
        bytes = v.file.bytes;
        there = ap (bytes_at s.files) path ∙ there;
        encoding = encodes_this s.files here v.file read.lookups (shard_of_parts p) read.shard read.fits v.there read.encoding h file items (registered file items) value listed refl refl (records_are s.files here v.file.bytes p there v.holds.read);
      }

  pub registers_shard : (cap : ℕ) → cap ≡ s.limits.index_cap → AddsFile cap s.tells s.files h here old new → RegistersShard s number old new
  registers_shard cap same a = record {
    registered = registered a.file a.adds.items;
    is = at ∙ ap (λ (k : List ℕ). Some k) (sym a.hash_is);
    own = λ told. own_file told a.file a.adds.items a.hash_is a.path_is (a.loads told) (a.adds.reads told);
    registers = λ shards is. subst (λ (n : ℕ). IsRegistryOf (with_shard n shards a.file a.adds.items (records_of s.files here)) new) same (a.adds.adds.registers shards (records_of s.files here) is);
    files = a.adds.adds.files;
    hashes = a.adds.adds.hashes;
  }

-- ---- errors

told_false : (tells : Bool) → (tells ≡ true → ⊥) → tells ≡ false
told_false true never = absurd (never refl)
told_false false never = refl

-- an error of a call that gives a value if the disk is observable, unless it failed or memory was out
pub asking_load : {Y : Type 0} (tells : Bool) (before now : ℕ) (v : Y) (e : StoreError) → IsLoadError before now e → (tells ≡ true → GivesUnlessDisk (λ (x : Y). x) (Err e) (Ok v)) → IsAskingError tells before now (asking_error e)
asking_load tells before now v (Io Disk) rose gives = rose
asking_load tells before now v OutOfMemory is gives = tt
asking_load tells before now v BadFilename is gives = told_false tells (λ told. absurd (cc (gives told)))
asking_load tells before now v FileNotFound is gives = told_false tells (λ told. absurd (cc (gives told)))
asking_load tells before now v UnexpectedEof is gives = told_false tells (λ told. absurd (cc (gives told)))
asking_load tells before now v (MalformedData reason) is gives = told_false tells (λ told. absurd (cc (gives told)))
asking_load tells before now v e bad gives = absurd bad

load_of_read : (before now : ℕ) (e : StoreError) → IsReadError before now e → IsLoadError before now e
load_of_read before now BadFilename bad = tt
load_of_read before now e is = is

load_of_query : (before now : ℕ) (e : StoreError) → IsQueryError before now e → IsLoadError before now e
load_of_query before now BadFilename bad = tt
load_of_query before now FileNotFound bad = tt
load_of_query before now e is = is

asking_before : (tells : Bool) (earlier before now : ℕ) (e : StoreError) → earlier ≤ before → IsAskingError tells before now e → IsAskingError tells earlier now e
asking_before tells earlier before now (Io Disk) less rose = rose_before before now earlier less rose
asking_before tells earlier before now e less is = is

-- loading a shard file failed
pub load_refused : InfoLaw → (tells : Bool) (files : Files) (h path : List ℕ) (before now : ℕ) (e : StoreError) → (tells ≡ true → IsEncoded files path) → (tells ≡ true → GivesUnlessDisk (λ (x : MDBShardFile). x) (Err e) (loaded files h path))
    → IsLoadError before now e → IsAskingError tells before now (asking_error e)
load_refused infos tells files h path before now e encoded gives reason = go tells refl
  where
    go : (t : Bool) → tells ≡ t → IsAskingError tells before now (asking_error e)
    go true told =
        let enc = encoded told in
        let f = file_there files path enc.bytes enc.there in
        let value = loads files path f.0 enc.encoding.lookups enc.shard enc.encoding.shard enc.encoding.fits f.1 (f.2 ∙ enc.encoding.encoding) infos h in
        asking_load tells before now (shard_value h path (record { header = header; metadata = footer_of enc.encoding.lookups enc.shard }) (f.0).modified) e reason
        (λ t. subst (λ (r : Result MDBShardFile StoreError). GivesUnlessDisk (λ (x : MDBShardFile). x) (Err e) r) value (gives t))
    go false hidden = asking_load tells before now true e reason (λ told. let bad : true ≡ false = sym told ∙ hidden in absurd (cc bad))

-- reading its chunk lookup table failed, on the disk as it was left by loading
pub lookup_refused : InfoLaw → LookupLaw → (tells : Bool) (files : Files) (h path : List ℕ) (file : MDBShardFile) (earlier before now : ℕ) (e : StoreError) → (tells ≡ true → IsEncoded files path) → (tells ≡ true → loaded files h path ≡ Ok file)
    → (tells ≡ true → FailsReading files file e) → IsReadError before now e → earlier ≤ before → IsAskingError tells earlier now (asking_error e)
lookup_refused infos lookups tells files h path file earlier before now e encoded loads_file gives reason less = asking_before tells earlier before now (asking_error e) less (go tells refl)
  where
    go : (t : Bool) → tells ≡ t → IsAskingError tells before now (asking_error e)
    go true told =
        let enc = encoded told in
        let f = file_there files path enc.bytes enc.there in
        let is = f.2 ∙ enc.encoding.encoding in
        let value = loads_this files path f.0 enc.encoding.lookups enc.shard enc.encoding.shard enc.encoding.fits f.1 is infos h file (loads_file told) in
        let read = reads_this files path f.0 enc.encoding.lookups enc.shard enc.encoding.shard enc.encoding.fits f.1 is lookups h file value in
        asking_load tells before now (chunk_items enc.shard.blocks) e (load_of_read before now e reason)
        (λ t. subst (λ (r : Result (List (ℕ × ℕ × ℕ)) StoreError). GivesUnlessDisk (λ (x : List (ℕ × ℕ × ℕ)). x) (Err e) r) read (gives t))
    go false hidden = asking_load tells before now true e (load_of_read before now e reason) (λ told. let bad : true ≡ false = sym told ∙ hidden in absurd (cc bad))

-- a query failed
pub query_refused : (tells : Bool) (before now : ℕ) (run : Option Run) (e : StoreError) → (tells ≡ true → GivesUnlessDisk (λ (x : Option Run). x) (Err e) (Ok run)) → IsQueryError before now e → IsAskingError tells before now (asking_error e)
query_refused tells before now run e gives reason = asking_load tells before now run e (load_of_query before now e reason) gives

-- a run that is found has a property on an observable disk: if it has not, the disk is none
pub unlisted_hidden : (tells : Bool) (run : Run) (P : Run → Type 0) (o : Option Run) → (tells ≡ true → (r : Run) → o ≡ Some r → P r) → (tells ≡ true → GivesUnlessDisk (λ (x : Option Run). x) (Ok (Some run)) (Ok o)) → (P run → ⊥) → tells ≡ false
unlisted_hidden tells run P o has gives never = told_false tells (λ told. never (has told run (let both : ◌≡◌ {A = Result (Option Run) StoreError} (Ok o) (Ok (Some run)) = gives told in cc both)))

pub on_ok_then : {T E : Type 0} (r : Result T E) {P Q : Type 0} → (P → Q) → OnOk r P → OnOk r Q
on_ok_then (Ok x) f p = f p
on_ok_then (Err e) f p = tt

pub if_err_then : {T E : Type 0} (r : Result T E) {P Q : E → Type 0} → ((e : E) → P e → Q e) → IfErr r P → IfErr r Q
if_err_then (Ok x) f p = tt
if_err_then (Err e) f p = f e p

pub if_memory : {T : Type 0} (r : Result T StoreError) (P : StoreError → Type 0) → IfErr r (λ e. e ≡ OutOfMemory) → P OutOfMemory → IfErr r P
if_memory (Ok x) P is p = tt
if_memory (Err e) P is p = subst P (sym is) p

-- ---- an index after a call

-- what registering says, with the items that were read
pub adds_loaded : {T : Type 0} (r : Result T StoreError) (cap : ℕ) (tells : Bool) (files : Files) (file : MDBShardFile) (old new : Tables) (passed read : List (ℕ × (ℕ × ℕ))) → passed ≡ read
    → (tells ≡ true → in_file (file_at files file.path) (λ f. chunk_lookup_in file.shard.metadata f.bytes) ≡ Ok (flat_places read))
    → OnOk r ((shards : List Registered) (records : ShardRecords) → IsRegistryOf shards old → IsRegistryOf (with_shard cap shards file (flat_places passed) records) new)
    → OnOk r (new.files ≡ old.files ++ file ∷ []) → OnOk r (new.hashes ≡ old.hashes ++ file.shard_hash ∷ []) → OnOk r (AddsLoaded cap tells files file old new)
adds_loaded (Ok x) cap tells files file old new passed read same reads registers adds hashes = record {
  items = flat_places read;
  reads = reads;
  adds = record {
    registers = λ shards records is. subst (λ (l : List (ℕ × (ℕ × ℕ))). IsRegistryOf (with_shard cap shards file (flat_places l) records) new) same (registers shards records is);
    files = adds;
    hashes = hashes;
  };
}
adds_loaded (Err e) cap tells files file old new passed read same reads registers adds hashes = tt

-- the same of the file with a hash at a path, which was loaded before
pub adds_file : {T : Type 0} (r : Result T StoreError) (cap : ℕ) (tells now_tells : Bool) (files now_files : Files) (hash path : List ℕ) (file : MDBShardFile) (old new : Tables) → now_tells ≡ tells → now_files ≡ files
    → file.shard_hash ≡ hash → file.path ≡ path → (tells ≡ true → loaded files hash path ≡ Ok file) → OnOk r (AddsLoaded cap now_tells now_files file old new) → OnOk r (AddsFile cap tells files hash path old new)
adds_file (Ok x) cap tells now_tells files now_files hash path file old new et ef hash_is path_is loads_file adds = record {
  file = file;
  hash_is = hash_is;
  path_is = path_is;
  loads = loads_file;
  adds = subst (λ (t : Bool). AddsLoaded cap t files file old new) et (subst (λ (f : Files). AddsLoaded cap now_tells f file old new) ef adds);
}
adds_file (Err e) cap tells now_tells files now_files hash path file old new et ef hash_is path_is loads_file adds = tt

-- the hash of a file that was loaded is the one in the name
pub named_hash : (path h k : List ℕ) → IsHash h → IsHash k → last_part path ≡ shard_name h → last_part path ≡ shard_name k → k ≡ h
named_hash path h k is_h is_k named loaded_name = name_determines k h is_k is_h (sym loaded_name ∙ named)

pub loaded_refused : {T : Type 0} (r : Result T StoreError) → InfoLaw → LookupLaw → (tells now_tells : Bool) (files now_files : Files) (h path : List ℕ) (file : MDBShardFile) (earlier before now : ℕ) → now_tells ≡ tells → now_files ≡ files
    → (tells ≡ true → IsEncoded files path) → (tells ≡ true → loaded files h path ≡ Ok file) → (now_tells ≡ true → IfErr r (FailsReading now_files file)) → IfErr r (IsReadError before now) → earlier ≤ before
    → IfErr r (λ e. IsAskingError tells earlier now (asking_error e))
loaded_refused (Ok x) infos lookups tells now_tells files now_files h path file earlier before now et ef enc loads_file gives reason less = tt
loaded_refused (Err e) infos lookups tells now_tells files now_files h path file earlier before now et ef enc loads_file gives reason less =
    lookup_refused infos lookups tells files h path file earlier before now e enc loads_file (λ told. subst (λ (f : Files). FailsReading f file e) ef (gives (et ∙ told))) reason less
