-- Each step keeps a core sound.
use Rattle.std.proofs.Common.{◌≡◌, ◌≢◌, ◌∙◌, inl, inr, ℕ, ◌+◌, Bool, true, false, nat_eq, List, [], ◌∷◌, ◌++◌, map, Some, is_some, refl, sym, ap, subst}
use Rattle.std.specs.Cmp.Lexicographic.{bytes_decides, pointwise}
use Rattle.std.specs.List.{AllByRecursion}
use Rattle.std.specs.Ordering.{is_lt}
use Rattle.std.specs.declared.cmp.Ordering.{Ordering}
use Rattle.xet_base.specs.theorems.Elements.{all_more, all_push}
use Rattle.xet_io.specs.Disk.{Files, bytes_at}
use Rattle.xet_hash.specs.Hash.{zero_hash}
use Rattle.xet_hash.specs.Merkle.{xorb_hash}
use Rattle.xet_hash.specs.Order.{hash_cmp}
use Rattle.xet_shard.specs.Held.{by_hash}
use Rattle.xet_shard.specs.Queries.{kept_hash}
use Rattle.xet_shard.specs.theorems.Holding.{all_last}
use Rattle.xet_shard_format.specs.Encoding.{IsShardEncoding, full_shard_bytes}
use Rattle.xet_shard_format.specs.Lookups.{all_lookups}
use Rattle.xet_shard_format.specs.Records.{file_record_hash, xorb_record_hash}
use Rattle.xet_shard_format.specs.Sorted.{put_in, sorted}
use Rattle.xet_shard_format.specs.declared.record.FileDataSequenceEntry.{FileDataSequenceEntry as Segment}
use Rattle.xet_shard_format.specs.declared.record.MDBFileInfo.{MDBFileInfo}
use Rattle.xet_shard_format.specs.declared.record.MDBXorbInfo.{MDBXorbInfo}
use Rattle.xet_shard_file.specs.Names.{shard_path}
use Rattle.xet_xorb.specs.Raw.{entries_from, xorb_record}
use Rattle.xet_folder.specs.Admission.{entry_leaf}
use Rattle.xet_folder.specs.Contents.{IsRecord}
use Rattle.xet_folder.specs.Names.{xorb_path}
use Rattle.xet_folder.specs.Plan.{Resolves}
use Rattle.xet_folder.specs.Stored.{IsBacked, IsStored}
use Rattle.xet_folder.specs.Xorbs.{IsListed, Xorbs}
use Rattle.xet_folder.specs.theorems.Tables.{found_either, found_kept}
use Rattle.xet_history.specs.Core.{Core, RegisteredShard, completed, flushed, is_new, pending_hash, pending_shard, registered}
use Rattle.xet_history.specs.Interleaving.{BringsIfNew, BringsShard, BringsXorb, KeepsShards, KeepsXorbs, SameBytes}
use Rattle.xet_history.specs.Sound.{IsBlock, IsShardFile, IsSound, Rebuilds}
use Rattle.xet_history.specs.theorems.Staying.{Leaves, completed_cases, registered_cases, registered_listed, with_record, with_xorb}

-- ---- sorted lists

-- what holds of each element holds of each of the sorted list
all_put : {X : Type 0} (P : X → Type 0) (cmp : X → X → Ordering) (x : X) (xs : List X) → P x → AllByRecursion P xs → AllByRecursion P (put_in cmp x xs)
unfolding put_in
all_put P cmp x [] here all = (here, tt)
all_put {X} P cmp x (y ∷ ys) here all = elim (is_lt (cmp y x)) as (λ (b : Bool). AllByRecursion P (elim b as (λ _. List X) [ true ↦ y ∷ put_in cmp x ys | false ↦ x ∷ y ∷ ys ])) [
  | true ↦ (all.0, all_put P cmp x ys here all.1)
  | false ↦ (here, all)
]

pub all_sorted : {X : Type 0} (P : X → Type 0) (cmp : X → X → Ordering) (xs : List X) → AllByRecursion P xs → AllByRecursion P (sorted cmp xs)
unfolding sorted
all_sorted P cmp [] all = tt
all_sorted P cmp (x ∷ xs) all = all_put P cmp x (sorted cmp xs) all.0 (all_sorted P cmp xs all.1)

pub all_by_hash : {X : Type 0} (P : X → Type 0) (hash : X → List ℕ) (xs : List X) → AllByRecursion P xs → AllByRecursion P (by_hash hash xs)
all_by_hash P hash xs all = all_sorted P (λ x y. hash_cmp (hash x) (hash y)) xs all

-- by whether two hashes are equal
pub hash_cases : {G : Type 0} (k h : List ℕ) → (k ≡ h → G) → (k ≢ h → G) → G
hash_cases {G} k h same apart = go (pointwise nat_eq k h) refl
  where
    go : (b : Bool) → pointwise nat_eq k h ≡ b → G
    go true e = same ((bytes_decides k h).0 e)
    go false e = apart (λ q. let bad : false ≡ true = sym e ∙ (bytes_decides k h).1 q in absurd (cc bad))

-- ---- over more listed xorbs

-- A plan resolves also where another relation has all that the first has.
pub resolves_more : {X : Type 0} (P Q : List ℕ → List X → Type 0) (len : X → ℕ) → ((h : List ℕ) (xs : List X) → P h xs → Q h xs)
    → (plan : List Segment) (out : List X) → Resolves P len plan out → Resolves Q len plan out
resolves_more P Q len all [] out r = r
resolves_more P Q len all (s ∷ ss) out (xs, rest, has, lies, parts, more) = (xs, rest, all s.xorb_hash xs has, lies, parts, resolves_more P Q len all ss rest more)

-- each listed xorb is listed with the same chunks
abbrev pub ListsAll : Xorbs → Xorbs → Type 0
ListsAll old new = (h : List ℕ) (leaves : Leaves) → IsListed old h leaves → IsListed new h leaves

module _ (old new : Xorbs) (more : ListsAll old new) where
  pub record_more : (r : List ℕ × MDBFileInfo) → IsRecord old r → IsRecord new r
  record_more r is = record {
    named = is.named;
    leaves = is.leaves;
    resolves = resolves_more (IsListed old) (IsListed new) (λ m. m.1) more r.1.segments is.leaves is.resolves;
    hash = is.hash;
    some = is.some;
    bound = is.bound;
  }

  pub rebuilds_more : (f : MDBFileInfo) → Rebuilds old f → Rebuilds new f
  rebuilds_more f is = record_more (file_record_hash f, f) is

  pub block_more : (key : List ℕ) (b : MDBXorbInfo) → IsBlock old key b → IsBlock new key b
  block_more key b is = record { leaves = is.leaves; listed = more (xorb_record_hash b) is.leaves is.listed; keyed = is.keyed }

  pub shard_files_more : (shards : List RegisteredShard) → AllByRecursion (λ s. AllByRecursion (Rebuilds old) s.contents.files) shards → AllByRecursion (λ s. AllByRecursion (Rebuilds new) s.contents.files) shards
  shard_files_more [] all = tt
  shard_files_more (s ∷ ss) all = (all_more (Rebuilds old) (Rebuilds new) s.contents.files rebuilds_more all.0, shard_files_more ss all.1)

  pub shard_blocks_more : (shards : List RegisteredShard) → AllByRecursion (λ s. AllByRecursion (IsBlock old s.contents.key) s.contents.blocks) shards
      → AllByRecursion (λ s. AllByRecursion (IsBlock new s.contents.key) s.contents.blocks) shards
  shard_blocks_more [] all = tt
  shard_blocks_more (s ∷ ss) all = (all_more (IsBlock old s.contents.key) (IsBlock new s.contents.key) s.contents.blocks (block_more s.contents.key) all.0, shard_blocks_more ss all.1)

-- ---- over a disk that has changed

module _ (old new : Files) (folder : List ℕ) where
  pub stored_same : (h : List ℕ) (chunks : List (List ℕ)) → SameBytes old new (xorb_path folder h) → IsStored old folder h chunks → IsStored new folder h chunks
  stored_same h chunks same s = record { bytes = s.bytes; there = same ∙ s.there; encoding = s.encoding; readable = s.readable; hash = s.hash }

  pub backed_same : (h : List ℕ) (leaves : Leaves) → SameBytes old new (xorb_path folder h) → IsBacked old folder h leaves → IsBacked new folder h leaves
  backed_same h leaves same b = record { chunks = b.chunks; stored = stored_same h b.chunks same b.stored; same = b.same }

  pub shard_file_same : (s : RegisteredShard) → SameBytes old new (shard_path folder s.hash) → IsShardFile old folder s → IsShardFile new folder s
  shard_file_same s same f = record { bytes = f.bytes; there = same ∙ f.there; named = f.named; encoding = f.encoding }

  pub shard_files_same : (shards : List RegisteredShard) → AllByRecursion (λ s. SameBytes old new (shard_path folder s.hash)) shards → AllByRecursion (IsShardFile old folder) shards
      → AllByRecursion (IsShardFile new folder) shards
  shard_files_same [] same all = tt
  shard_files_same (s ∷ ss) same all = (shard_file_same s same.0 all.0, shard_files_same ss same.1 all.1)

  module _ (c : Core) (sound : IsSound old folder c) where
    pub backed_still : KeepsXorbs old new folder c → (h : List ℕ) (leaves : Leaves) → IsListed c.xorbs h leaves → IsBacked new folder h leaves
    backed_still keeps h leaves listed = backed_same h leaves (keeps h (ap is_some listed)) (sound.backed h leaves listed)

    -- if no file that the core names has changed
    pub sound_still : KeepsXorbs old new folder c → KeepsShards old new folder c → IsSound new folder c
    sound_still xorbs shards = record {
      backed = backed_still xorbs;
      recorded = sound.recorded;
      pending_files = sound.pending_files;
      pending_blocks = sound.pending_blocks;
      shard_files = sound.shard_files;
      shard_blocks = sound.shard_blocks;
      stored = shard_files_same c.shards shards sound.stored;
    }

-- ---- the registration of a xorb

entry_leaves : (at : ℕ) (leaves : Leaves) → map entry_leaf (entries_from at leaves) ≡ map (λ m. (kept_hash zero_hash m.0, m.1)) leaves
unfolding kept_hash
entry_leaves at [] = refl
entry_leaves at (m ∷ ms) = ap (λ (l : Leaves). (m.0, m.1) ∷ l) (entry_leaves (at + m.1) ms)

-- the record of a listed xorb
pub block_listed : (xorbs : Xorbs) (h : List ℕ) (leaves : Leaves) → IsListed xorbs h leaves → IsBlock xorbs zero_hash (xorb_record h leaves)
block_listed xorbs h leaves listed = record { leaves = leaves; listed = listed; keyed = entry_leaves 0 leaves }

-- the table of xorbs with one more
abbrev pub with_listed : Xorbs → Leaves → Xorbs
with_listed xorbs leaves = xorbs ++ (xorb_hash leaves, leaves) ∷ []

pub lists_more : (xorbs : Xorbs) (leaves : Leaves) → ListsAll xorbs (with_listed xorbs leaves)
lists_more xorbs leaves h listed_leaves listed = found_kept xorbs ((xorb_hash leaves, leaves) ∷ []) h listed_leaves listed

module _ (old new : Files) (folder : List ℕ) (c : Core) (sound : IsSound old folder c) where
  backed_more : (leaves : Leaves) → BringsXorb folder c leaves old new → (h : List ℕ) (ms : Leaves) → IsListed (with_listed c.xorbs leaves) h ms → IsBacked new folder h ms
  backed_more leaves brings h ms listed = elim (found_either c.xorbs (xorb_hash leaves) h leaves ms listed) [
    | inl was ↦ backed_still old new folder c sound brings.xorbs h ms was
    | inr is ↦ subst (λ (x : List ℕ). IsBacked new folder x ms) is.0 (subst (λ (l : Leaves). IsBacked new folder (xorb_hash leaves) l) is.1 brings.stored)
  ]

  pub sound_with_xorb : (leaves : Leaves) → is_new c.xorbs (xorb_hash leaves) ≡ true → BringsXorb folder c leaves old new → IsSound new folder (with_xorb c leaves)
  sound_with_xorb leaves is brings =
      let xorbs : Xorbs = with_listed c.xorbs leaves in
      let more : ListsAll c.xorbs (with_listed c.xorbs leaves) = lists_more c.xorbs leaves in record {
        backed = backed_more leaves brings;
        recorded = all_more (IsRecord c.xorbs) (IsRecord (with_listed c.xorbs leaves)) c.records (record_more c.xorbs xorbs more) sound.recorded;
        pending_files = all_more (Rebuilds c.xorbs) (Rebuilds (with_listed c.xorbs leaves)) c.pending.files (rebuilds_more c.xorbs xorbs more) sound.pending_files;
        pending_blocks = all_last (IsBlock (with_listed c.xorbs leaves) zero_hash) xorb_record_hash c.pending.blocks (xorb_record (xorb_hash leaves) leaves)
            (all_more (IsBlock c.xorbs zero_hash) (IsBlock (with_listed c.xorbs leaves) zero_hash) c.pending.blocks (block_more c.xorbs xorbs more zero_hash) sound.pending_blocks)
            (block_listed xorbs (xorb_hash leaves) leaves (registered_listed c leaves is));
        shard_files = shard_files_more c.xorbs xorbs more c.shards sound.shard_files;
        shard_blocks = shard_blocks_more c.xorbs xorbs more c.shards sound.shard_blocks;
        stored = shard_files_same old new folder c.shards brings.shards sound.stored;
      }

  pub sound_registered : (leaves : Leaves) → BringsIfNew (is_new c.xorbs (xorb_hash leaves)) folder c leaves old new → IsSound new folder (registered c leaves)
  sound_registered leaves brings = registered_cases c leaves (λ (d : Core). IsSound new folder d)
      (λ is. sound_with_xorb leaves is (subst (λ (b : Bool). BringsIfNew b folder c leaves old new) is brings))
      (λ not. let same : new ≡ old = subst (λ (b : Bool). BringsIfNew b folder c leaves old new) not brings in subst (λ (f : Files). IsSound f folder c) (sym same) sound)

-- ---- the recording of a file

module _ (files : Files) (folder : List ℕ) (c : Core) (sound : IsSound files folder c) where
  pub sound_with_record : (file : MDBFileInfo) → Rebuilds c.xorbs file → IsSound files folder (with_record c file)
  sound_with_record file rebuilds = record {
    backed = sound.backed;
    recorded = all_push (IsRecord c.xorbs) c.records (file_record_hash file, file) sound.recorded rebuilds;
    pending_files = all_last (Rebuilds c.xorbs) file_record_hash c.pending.files file sound.pending_files rebuilds;
    pending_blocks = sound.pending_blocks;
    shard_files = sound.shard_files;
    shard_blocks = sound.shard_blocks;
    stored = sound.stored;
  }

  pub sound_completed : (file : MDBFileInfo) → Rebuilds c.xorbs file → IsSound files folder (completed c file)
  sound_completed file rebuilds = completed_cases c file (λ (d : Core). IsSound files folder d) (λ new. sound_with_record file rebuilds) (λ old. sound)

-- ---- a flush

-- The file of a registered shard that has the hash of the pending one has its bytes.
abbrev pub IsApart : Files → List ℕ → Core → Type 0
IsApart files folder c =
    AllByRecursion (λ s. s.hash ≡ pending_hash c → (bytes : List ℕ) → bytes_at files (shard_path folder s.hash) ≡ Some bytes → bytes ≡ full_shard_bytes (pending_shard c)) c.shards

-- the pending shard, as it is registered
abbrev pub pending_registered : Core → RegisteredShard
pending_registered c = record { hash = pending_hash c; contents = pending_shard c }

module _ (old new : Files) (folder : List ℕ) (c : Core) (sound : IsSound old folder c) (brings : BringsShard folder c old new) where
  pub flushed_file : IsShardFile new folder (pending_registered c)
  flushed_file = record {
    bytes = full_shard_bytes (pending_shard c);
    there = brings.stored;
    named = refl;
    encoding = record { shard = brings.form; fits = brings.fits; lookups = all_lookups; encoding = refl };
  }

  -- a registered shard's file is what it was, or its bytes are written again
  flushed_files : (shards : List RegisteredShard) → AllByRecursion (λ s. s.hash ≢ pending_hash c → SameBytes old new (shard_path folder s.hash)) shards
      → AllByRecursion (λ s. s.hash ≡ pending_hash c → (bytes : List ℕ) → bytes_at old (shard_path folder s.hash) ≡ Some bytes → bytes ≡ full_shard_bytes (pending_shard c)) shards
      → AllByRecursion (IsShardFile old folder) shards → AllByRecursion (IsShardFile new folder) shards
  flushed_files [] same apart all = tt
  flushed_files (s ∷ ss) same apart all = (
    hash_cases s.hash (pending_hash c)
        (λ is. let f = all.0 in let bytes : f.bytes ≡ full_shard_bytes (pending_shard c) = apart.0 is f.bytes f.there in record {
          bytes = full_shard_bytes (pending_shard c);
          there = ap (λ (h : List ℕ). bytes_at new (shard_path folder h)) is ∙ brings.stored;
          named = sym is;
          encoding = subst (λ (b : List ℕ). IsShardEncoding b s.contents) bytes f.encoding;
        })
        (λ other. shard_file_same old new folder s (same.0 other) all.0),
    flushed_files ss same.1 apart.1 all.1,
  )

  pub sound_flushed : IsApart old folder c → IsSound new folder (flushed c)
  sound_flushed apart = record {
    backed = backed_still old new folder c sound brings.xorbs;
    recorded = sound.recorded;
    pending_files = tt;
    pending_blocks = tt;
    shard_files = all_push (λ s. AllByRecursion (Rebuilds c.xorbs) s.contents.files) c.shards (pending_registered c) sound.shard_files
        (all_by_hash (Rebuilds c.xorbs) file_record_hash c.pending.files sound.pending_files);
    shard_blocks = all_push (λ s. AllByRecursion (IsBlock c.xorbs s.contents.key) s.contents.blocks) c.shards (pending_registered c) sound.shard_blocks
        (all_by_hash (IsBlock c.xorbs zero_hash) xorb_record_hash c.pending.blocks sound.pending_blocks);
    stored = all_push (IsShardFile new folder) c.shards (pending_registered c) (flushed_files c.shards brings.shards apart sound.stored) flushed_file;
  }
