-- A store that is opened is sound.
use Rattle.std.proofs.Common.{◌≡◌, ◌⊎◌, inl, inr, ◌∙◌, ℕ, suc, Bool, true, false, cond, List, [], ◌∷◌, ◌++◌, map, Some, IsSome, Result, Ok, Err, refl, sym, ap, subst, nat_eq, arith}
use Rattle.std.proofs.Math.ListN.{get_or-map}
use Rattle.std.proofs.lemmas.List.{length-map}
use Rattle.std.specs.Cmp.Lexicographic.{bytes_decides, pointwise}
use Rattle.std.specs.List.{AllByRecursion, Any, IsAmong, flat_map}
use Rattle.xet_io.specs.Disk.{Files}
use Rattle.xet_hash.specs.declared.error.StoreError.{StoreError}
use Rattle.xet_shard_format.specs.declared.record.MDBFileInfo.{MDBFileInfo}
use Rattle.xet_shard.specs.Held.{Held, IsHeld, nothing}
use Rattle.xet_shard_format.specs.Reading.{ShardParts, all_of}
use Rattle.xet_shard_format.specs.Records.{file_record_hash, xorb_record_hash}
use Rattle.xet_folder.specs.declared.contents.Contents.{Contents}
use Rattle.xet_folder.specs.Admission.{block_leaves}
use Rattle.xet_folder.specs.Contents.{HasContents, IsRecord, listed_in, listed_of}
use Rattle.xet_shard_file.specs.Names.{IsHash}
use Rattle.xet_shard_file.specs.Shards.{IsThere, ShardFile, is_expired}
use Rattle.xet_folder.specs.Xorbs.{AreBacked, IsListed, FileRecords, Xorbs, found}
use Rattle.xet_folder.specs.theorems.Firsts.{found_firsts}
use Rattle.xet_store_disk.specs.Opening.{contents_of}
use Rattle.xet_store_disk.specs.Separate.{Among}
use Rattle.xet_store_disk.specs.Store.{Differ, IsAdmitted, IsKept, IsPendingFile, Sound, State}
use Rattle.xet_store_disk.specs.theorems.Admitting.{any_of}
use Rattle.xet_store_disk.proofs.Flushing.{nothing_held}

-- what is found in two tables is found in one
found_in_one : {X : Type 0} (one two : List (List ℕ × X)) (h : List ℕ) (v : X) → found (one ++ two) h ≡ Some v → (found one h ≡ Some v) ⊎ (found two h ≡ Some v)
found_in_one [] two h v e = inr e
found_in_one {X} (r ∷ one) two h v e = go (pointwise nat_eq h r.0) e (found_in_one one two h v)
  where
    go : (b : Bool) → cond b (Some r.1) (found (one ++ two) h) ≡ Some v → (found (one ++ two) h ≡ Some v → (found one h ≡ Some v) ⊎ (found two h ≡ Some v))
        → (cond b (Some r.1) (found one h) ≡ Some v) ⊎ (found two h ≡ Some v)
    go true e rest = inl e
    go false e rest = rest e

-- a shard that lists a record
record ListsRecord (shards : List ShardFile) (h : List ℕ) (f : MDBFileInfo) : Type 0 where
  pub shard : ShardFile
  pub among : IsAmong shards shard
  pub finds : found (listed_in shard.file.bytes) h ≡ Some f

lists_record : (shards : List ShardFile) (h : List ℕ) (f : MDBFileInfo) → found (flat_map (λ s. listed_in s.file.bytes) shards) h ≡ Some f → ListsRecord shards h f
lists_record [] h f e = absurd (cc e)
lists_record (s ∷ shards) h f e = go (found_in_one (listed_in s.file.bytes) (flat_map (λ s. listed_in s.file.bytes) shards) h f e) (lists_record shards h f)
  where
    go : (found (listed_in s.file.bytes) h ≡ Some f) ⊎ (found (flat_map (λ s. listed_in s.file.bytes) shards) h ≡ Some f)
        → (found (flat_map (λ s. listed_in s.file.bytes) shards) h ≡ Some f → ListsRecord shards h f) → ListsRecord (s ∷ shards) h f
    go (inl here) rest = record { shard = s; among = (0, (omega arith, refl)); finds = here }
    go (inr later) rest =
        let l = rest later in record { shard = l.shard; among = (suc l.among.0, (let lt = l.among.1.0 in omega arith, l.among.1.1)); finds = l.finds }

-- what is found of a shard's files is one of them
finds_file : (files : List MDBFileInfo) (h : List ℕ) (f : MDBFileInfo) → found (listed_of files) h ≡ Some f → IsAmong files f
finds_file [] h f e = absurd (cc e)
finds_file (g ∷ files) h f e = go (pointwise nat_eq h (file_record_hash g)) e (finds_file files h f)
  where
    go : (b : Bool) → cond b (Some g) (found (listed_of files) h) ≡ Some f → (found (listed_of files) h ≡ Some f → IsAmong files f) → IsAmong (g ∷ files) f
    go true e rest = let same : g ≡ f = cc e in (0, (omega arith, sym same))
    go false e rest = let r = rest e in (suc r.0, (let lt = r.1.0 in omega arith, r.1.1))

-- the parts of a shard's bytes that list a record
record FindsIn (bytes h : List ℕ) (f : MDBFileInfo) : Type 0 where
  pub parts : ShardParts
  pub read : all_of bytes ≡ Ok parts
  pub finds : found (listed_of parts.1) h ≡ Some f

finds_in : (bytes h : List ℕ) (f : MDBFileInfo) → found (listed_in bytes) h ≡ Some f → FindsIn bytes h f
finds_in bytes h f e = go (all_of bytes) refl e
  where
    go : (r : Result ShardParts StoreError) → all_of bytes ≡ r → found (elim r as (λ _. FileRecords) [ Ok p ↦ listed_of p.1 | Err e ↦ [] ]) h ≡ Some f → FindsIn bytes h f
    go (Ok p) read e = record { parts = p; read = read; finds = e }
    go (Err x) read e = absurd (cc e)

-- Each record of a folder's contents is listed by a registered shard.
pub contents_kept : (files : Files) (folder : List ℕ) (now : ℕ) (c : Contents) → HasContents files folder now c → (h : List ℕ) (f : MDBFileInfo) → found c.records h ≡ Some f → IsKept files folder now c.shards f
contents_kept files folder now c has h f e =
    let shards = has.shards in
    let rows = flat_map (λ (s : ShardFile). listed_in s.file.bytes) shards in
    let l = lists_record shards h f (sym (found_firsts rows h) ∙ ap (λ (rs : FileRecords). found rs h) (sym has.contents.records) ∙ e) in
    let i = l.among.0 in
    let below = l.among.1.0 in
    let is = l.among.1.1 in
    let p = finds_in l.shard.file.bytes h f l.finds in
    let registers = has.admits.registers in
    record {
      lists = record {
        shard = l.shard;
        there = subst (λ (s : ShardFile). IsThere files folder s) (sym is) (registers.there i l.shard below);
        valid = subst (λ (s : ShardFile). is_expired now s.file.bytes ≡ false) (sym is) (registers.valid i l.shard below);
        parts = p.parts;
        read = p.read;
        among = finds_file p.parts.1 h f p.finds;
      };
      registered = subst (λ (hs : List (List ℕ)). IsAmong hs l.shard.hash) (sym has.contents.registered)
          (i, (omega (arith, length-map shards (λ (s : ShardFile). s.hash), below), ap (λ (s : ShardFile). s.hash) is ∙ sym (get_or-map (λ (s : ShardFile). s.hash) shards i l.shard)));
    }

-- each registered shard is one of the folder's
each_hash : (all shards : List ShardFile) → ((s : ShardFile) → Among shards s → Among all s) → AllByRecursion (λ h. Any (λ s. s.hash ≡ h) all) (map (λ s. s.hash) shards)
each_hash all [] inside = tt
each_hash all (s ∷ shards) inside = (any_of (λ (x : ShardFile). x.hash ≡ s.hash) all s (inside s (inl refl)) refl, each_hash all shards (λ x a. inside x (inr a)))

pub contents_admitted : (files : Files) (folder : List ℕ) (now : ℕ) (c : Contents) → HasContents files folder now c → IsAdmitted files folder now c.xorbs c.shards
contents_admitted files folder now c has = record {
  shards = has.shards;
  admits = has.admits;
  among = subst (AllByRecursion (λ h. Any (λ s. s.hash ≡ h) has.shards)) (sym has.contents.registered) (each_hash has.shards has.shards (λ s a. a));
  named = λ h any. (has.contents.named h).1 any;
}

hash_of : (xorbs : Xorbs) (h : List ℕ) → AllByRecursion (λ row. IsHash row.0) xorbs → IsSome (found xorbs h) → IsHash h
hash_of [] h all is = absurd (cc is)
hash_of (r ∷ xorbs) h all is = go (pointwise nat_eq h r.0) refl is (hash_of xorbs h all.1)
  where
    go : (b : Bool) → pointwise nat_eq h r.0 ≡ b → IsSome (cond b (Some r.1) (found xorbs h)) → (IsSome (found xorbs h) → IsHash h) → IsHash h
    go true same is rest = subst IsHash (sym ((bytes_decides h r.0).0 same)) all.0
    go false differ is rest = rest is

-- so is a store of such contents, of which nothing is pending
module _ (s : State) (c : Contents) (same : c ≡ contents_of s) (none : s.pending ≡ nothing) (backed : s.tells ≡ true → AreBacked s.files s.folder c.xorbs) (recorded : AllByRecursion (IsRecord c.xorbs) c.records)
    (shards : AllByRecursion IsHash c.shards) (xorbs : AllByRecursion (λ row. IsHash row.0) c.xorbs) (xorbs_differ : Differ c.xorbs) (records_differ : Differ c.records)
    (has : s.tells ≡ true → HasContents s.files s.folder s.opened c) where
  pub sound_opened : Sound s
  sound_opened = record {
    backed = subst (λ (x : Contents). s.tells ≡ true → AreBacked s.files s.folder x.xorbs) same backed;
    recorded = subst (λ (x : Contents). AllByRecursion (IsRecord x.xorbs) x.records) same recorded;
    kept = λ h f e. inr (λ told. contents_kept s.files s.folder s.opened (contents_of s) (subst (λ (x : Contents). HasContents s.files s.folder s.opened x) same (has told)) h f e);
    held = subst IsHeld (sym none) nothing_held;
    blocks = subst (λ (p : Held). AllByRecursion (λ b. IsListed s.xorbs (xorb_record_hash b) (block_leaves b)) p.blocks) (sym none) tt;
    pending_files = subst (λ (p : Held). AllByRecursion (IsPendingFile s.xorbs s.records) p.files) (sym none) tt;
    admitted = λ told. contents_admitted s.files s.folder s.opened (contents_of s) (subst (λ (x : Contents). HasContents s.files s.folder s.opened x) same (has told));
    hashes = λ h is. hash_of s.xorbs h (subst (λ (x : Contents). AllByRecursion (λ row. IsHash row.0) x.xorbs) same xorbs) is;
    shards_hashes = subst (λ (x : Contents). AllByRecursion IsHash x.shards) same shards;
    xorbs_differ = subst (λ (x : Contents). Differ x.xorbs) same xorbs_differ;
    records_differ = subst (λ (x : Contents). Differ x.records) same records_differ;
  }
