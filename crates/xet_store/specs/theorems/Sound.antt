-- The core of a recorded store is sound, if the disk is observable.
use Rattle.std.proofs.Common.{◌≡◌, ◌∙◌, inl, inr, ℕ, ◌<◌, ◌≤◌, ◌^◌, true, List, [], ◌∷◌, map, Option, Some, None, IsSome, option_map, Result, Ok, refl, sym, ap, subst, arith}
use Rattle.std.specs.Prelude.{Any}
use Rattle.std.specs.List.{AllByRecursion}
use Rattle.std.proofs.lemmas.List.Elements.{recursion_from_All}
use Rattle.std.proofs.lemmas.List.Sums.{sum_by-cons}
use Rattle.xet_base.specs.theorems.Elements.{all_more}
use Rattle.xet_folder.specs.Admission.{BlockHolds, FileHolds, ShardHolds, block_leaves, key_of}
use Rattle.xet_folder.specs.Checks.{OfBytes}
use Rattle.xet_folder.specs.Contents.{IsRecord}
use Rattle.xet_folder.specs.Plan.{Resolves, plan_bytes}
use Rattle.xet_folder.specs.Stored.{IsBacked}
use Rattle.xet_folder.specs.Xorbs.{AreBacked, IsListed, Xorbs, found}
use Rattle.xet_folder.specs.theorems.Agreeing.{stored_once}
use Rattle.xet_folder.specs.theorems.Keyed.{unkeyed_leaves}
use Rattle.xet_hash.specs.Hash.{zero_hash}
use Rattle.xet_hash.specs.Merkle.{leaves_of}
use Rattle.xet_hash.specs.declared.error.StoreError.{StoreError}
use Rattle.xet_history.specs.Core.{RegisteredShard}
use Rattle.xet_history.specs.Sound.{IsBlock, IsShardFile, IsSound, Rebuilds}
use Rattle.xet_io.specs.Disk.{File, Files, file_at}
use Rattle.xet_shard_file.specs.Names.{shard_path}
use Rattle.xet_shard_file.specs.Shards.{IsThere, ShardFile}
use Rattle.xet_shard_format.specs.Encoding.{footer_of, materialized}
use Rattle.xet_shard_format.specs.Reading.{ShardParts, all_of, shard_parts_of}
use Rattle.xet_shard_format.specs.Records.{file_record_hash, segment_bytes, xorb_record_hash}
use Rattle.xet_shard_format.specs.declared.record.FileDataSequenceEntry.{FileDataSequenceEntry as Segment}
use Rattle.xet_shard_format.specs.declared.record.MDBFileInfo.{MDBFileInfo}
use Rattle.xet_shard_format.specs.declared.record.MDBXorbInfo.{MDBXorbInfo}
use Rattle.xet_shard_format.specs.theorems.Fitting.{materialized_below}
use Rattle.xet_shard_format.specs.theorems.WholeAgain.{all_again}
use Rattle.xet_store_disk.specs.Separate.{Among}
use Rattle.xet_store_disk.specs.Store.{IsPendingFile, Sound, State}
use Rattle.xet_store_disk.specs.theorems.Admitting.{all_with, any_of, of_any, one_of}
use Rattle.xet_store_disk.specs.theorems.Plans.{resolves_bytes}
use Rattle.xet_store_disk.specs.theorems.Rows.{from_among}
use Rattle.xet_store_disk.specs.theorems.Whole.{found_has}
use Rattle.xet_store.specs.Recorded.{AreShards, IsRecorded, RecordedState, core_of}

abbrev Leaves : Type 0
Leaves = List (List ℕ × ℕ)

pub among_map : {X Y : Type 0} (f : X → Y) (xs : List X) (x : X) → Among xs x → Among (map f xs) (f x)
among_map f [] x a = a
among_map f (y ∷ xs) x (inl e) = inl (ap f e)
among_map f (y ∷ xs) x (inr a) = inr (among_map f xs x a)

-- a plan has no more bytes than all plans of a shard
plan_small : (fs : List MDBFileInfo) (f : MDBFileInfo) → Among fs f → plan_bytes f.segments ≤ materialized fs
plan_small [] f a = absurd a
plan_small (g ∷ fs) f (inl e) =
    let first : plan_bytes f.segments ≡ segment_bytes g.segments = ap (λ (x : MDBFileInfo). plan_bytes x.segments) (sym e) in
    omega (arith, first, sum_by-cons (λ (x : MDBFileInfo). segment_bytes x.segments) g fs)
plan_small (g ∷ fs) f (inr a) = omega (arith, plan_small fs f a, sum_by-cons (λ (x : MDBFileInfo). segment_bytes x.segments) g fs)

module _ (files : Files) (folder : List ℕ) (xorbs : Xorbs) (backed : AreBacked files folder xorbs) where
  abbrev IsHere : List ℕ → Type 0
  IsHere h = IsSome (found xorbs h)

  -- the chunks that are stored are those that are listed
  listed_of : (h : List ℕ) (leaves : Leaves) → IsHere h → IsBacked files folder h leaves → IsListed xorbs h leaves
  listed_of h leaves here is = go (found xorbs h) refl here
    where
      go : (o : Option Leaves) → found xorbs h ≡ o → IsSome o → IsListed xorbs h leaves
      go None e some = absurd (cc some)
      go (Some ms) e some =
          let b : IsBacked files folder h ms = backed h ms e in
          e ∙ ap (λ (l : Leaves). Some l) (sym b.same ∙ ap leaves_of (stored_once files folder h b.chunks is.chunks b.stored is.stored) ∙ is.same)

  resolves_here : (segments : List Segment) (out : Leaves) → ((s : Segment) → Among segments s → IsHere s.xorb_hash) → Resolves (IsBacked files folder) (λ m. m.1) segments out → Resolves (IsListed xorbs) (λ m. m.1) segments out
  resolves_here [] out here none = none
  resolves_here (s ∷ ss) out here (xs, rest, has, lies, parts, more) = (xs, rest, listed_of s.xorb_hash xs (here s (inl refl)) has, lies, parts, resolves_here ss rest (λ t a. here t (inr a)) more)

  block_here : (shard key : List ℕ) (b : MDBXorbInfo) → IsHere (xorb_record_hash b) → BlockHolds files folder shard key b → IsBlock xorbs key b
  block_here shard key b here holds = record { leaves = holds.leaves; listed = listed_of (xorb_record_hash b) holds.leaves here holds.backed; keyed = sym holds.lists }

  -- a file of a shard, with what is known of it
  pub record HasFile (shard : List ℕ) (f : MDBFileInfo) : Type 0 where
    holds : FileHolds files folder shard f
    here : (s : Segment) → Among f.segments s → IsHere s.xorb_hash

  rebuilds : (shard : List ℕ) (f : MDBFileInfo) → HasFile shard f → plan_bytes f.segments < 2 ^ 64 → Rebuilds xorbs f
  rebuilds shard f has small =
      let holds = has.holds in
      record {
        named = refl;
        leaves = holds.leaves;
        resolves = resolves_here f.segments holds.leaves has.here holds.resolves;
        hash = holds.hash;
        some = holds.some;
        bound = omega (arith, small, resolves_bytes (IsBacked files folder) (λ (m : List ℕ × ℕ). m.1) f.segments holds.leaves holds.resolves);
      }

-- ---- a registered shard

module _ (s : State) (sound : Sound s) (told : s.tells ≡ true) (r : RegisteredShard) (among : Among s.shards r.hash) (stands : IsShardFile s.files s.folder r) where
  abbrev IsNamed : File → Type 0
  IsNamed f = (x : List ℕ) → OfBytes f.bytes x → IsHere s.files s.folder s.xorbs (sound.backed told) x

  -- its file, as it was verified
  record HasVerified : Type 0 where
    file : File
    there : file_at s.files (shard_path s.folder r.hash) ≡ Some file
    holds : ShardHolds s.files s.folder (record { hash = r.hash; file = file })
    named : IsNamed file

  verified : HasVerified
  verified =
      let admitted = sound.admitted told in
      let (f, here, is) = of_any (λ (x : ShardFile). x.hash ≡ r.hash) admitted.shards (one_of (λ k. Any (λ (x : ShardFile). x.hash ≡ k) admitted.shards) s.shards r.hash admitted.among among) in
      let there : IsThere s.files s.folder f = one_of (IsThere s.files s.folder) admitted.shards f (recursion_from_All (IsThere s.files s.folder) admitted.shards admitted.admits.registers.there) here in
      let whole : f ≡ record { hash = r.hash; file = f.file } = λ i. record { hash = is i; file = f.file } in
      record {
        file = f.file;
        there = ap (λ (k : List ℕ). file_at s.files (shard_path s.folder k)) (sym is) ∙ there.there;
        holds = subst (ShardHolds s.files s.folder) whole (one_of (ShardHolds s.files s.folder) admitted.shards f admitted.admits.hold here);
        named = λ x of. admitted.named x (any_of (λ (y : ShardFile). OfBytes y.file.bytes x) admitted.shards f here of);
      }

  -- its parts are its contents
  parts_are : (v : HasVerified) → v.holds.parts ≡ shard_parts_of stands.encoding.lookups r.contents
  parts_are v =
      let e = stands.encoding in
      let there : ◌≡◌ {A = Option (List ℕ)} (Some stands.bytes) (Some v.file.bytes) = sym stands.there ∙ ap (option_map (λ (x : File). x.bytes)) v.there in
      let same : stands.bytes ≡ v.file.bytes = cc there in
      let both : ◌≡◌ {A = Result ShardParts StoreError} (Ok v.holds.parts) (Ok (shard_parts_of e.lookups r.contents)) = sym v.holds.read ∙ ap all_of (sym same ∙ e.encoding) ∙ all_again e.lookups r.contents e.shard e.fits in
      cc both

  abbrev OwnFile : MDBFileInfo → Type 0
  OwnFile = HasFile s.files s.folder s.xorbs (sound.backed told) r.hash

  abbrev AreOwn : ShardParts → Type 0
  AreOwn p = AllByRecursion (IsBlock s.xorbs (key_of p)) p.0 × AllByRecursion OwnFile p.1

  parts_own : (v : HasVerified) → AreOwn v.holds.parts
  parts_own v =
      let p = v.holds.parts in (
        all_with (BlockHolds s.files s.folder r.hash (key_of p)) (IsBlock s.xorbs (key_of p)) p.0
            (λ b a holds. block_here s.files s.folder s.xorbs (sound.backed told) r.hash (key_of p) b
            (v.named (xorb_record_hash b) (p, v.holds.read, inl (from_among (map xorb_record_hash p.0) (xorb_record_hash b) (among_map xorb_record_hash p.0 b a)))) holds) v.holds.blocks,
        all_with (FileHolds s.files s.folder r.hash) OwnFile p.1
            (λ f a holds. record {
              holds = holds;
              here = λ t b. v.named t.xorb_hash (p, v.holds.read, inr (f, from_among p.1 f a, from_among (map (λ (u : Segment). u.xorb_hash) f.segments) t.xorb_hash (among_map (λ (u : Segment). u.xorb_hash) f.segments t b)));
            }) v.holds.files_hold,
      )

  pub contents_own : AllByRecursion (IsBlock s.xorbs r.contents.key) r.contents.blocks × AllByRecursion (Rebuilds s.xorbs) r.contents.files
  unfolding footer_of
  contents_own =
      let own = subst AreOwn (parts_are verified) (parts_own verified) in
      let few : materialized r.contents.files < 2 ^ 64 = materialized_below r.contents.files stands.encoding.shard.few_files stands.encoding.fits.files in
      (own.0, all_with OwnFile (Rebuilds s.xorbs) r.contents.files (λ f a has. rebuilds s.files s.folder s.xorbs (sound.backed told) r.hash f has (omega (arith, few, plan_small r.contents.files f a))) own.1)

-- The core is sound.
pub sound_core : (s : RecordedState) → Sound s.store → IsRecorded s → s.store.tells ≡ true → IsSound s.store.files s.store.folder (core_of s)
sound_core s sound recorded told = record {
  backed = sound.backed told;
  recorded = sound.recorded;
  pending_files = all_more (IsPendingFile s.store.xorbs s.store.records) (Rebuilds s.store.xorbs) s.store.pending.files (λ f p. found_has (IsRecord s.store.xorbs) s.store.records (file_record_hash f) f sound.recorded p.recorded) sound.pending_files;
  pending_blocks = all_more (λ b. IsListed s.store.xorbs (xorb_record_hash b) (block_leaves b)) (IsBlock s.store.xorbs zero_hash) s.store.pending.blocks
      (λ b l. record { leaves = block_leaves b; listed = l; keyed = sym (unkeyed_leaves (block_leaves b)) }) sound.blocks;
  shard_files = all_with (IsShardFile s.store.files s.store.folder) (λ r. AllByRecursion (Rebuilds s.store.xorbs) r.contents.files) s.shards (λ r a stands. (contents_own s.store sound told r (among_shards r a) stands).1) (are.stand told);
  shard_blocks = all_with (IsShardFile s.store.files s.store.folder) (λ r. AllByRecursion (IsBlock s.store.xorbs r.contents.key) r.contents.blocks) s.shards (λ r a stands. (contents_own s.store sound told r (among_shards r a) stands).0) (are.stand told);
  stored = are.stand told;
}
  where
    are : AreShards s.store s.shards
    are = recorded.shards

    among_shards : (r : RegisteredShard) → Among s.shards r → Among s.store.shards r.hash
    among_shards r a = subst (λ (l : List (List ℕ)). Among l r.hash) are.registered (among_map (λ (x : RegisteredShard). x.hash) s.shards r a)
