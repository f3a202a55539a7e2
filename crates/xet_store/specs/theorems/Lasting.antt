-- A record that lasts in a registered shard is listed at every time below 2 ^ 64, and the shard is read from its file.
use Rattle.std.proofs.Common.{◌≡◌, ◌∙◌, inl, ℕ, ◌<◌, ◌-◌, ◌^◌, nat_lt, true, false, List, map, Option, Some, Ok, refl, sym, ap, subst, arith, option_map}
use Rattle.std.proofs.lemmas.Bool.{le-ltb}
use Rattle.std.proofs.lemmas.List.Elements.{recursion_from_All}
use Rattle.std.specs.Prelude.{Any}
use Rattle.xet_folder.specs.Admission.{key_of}
use Rattle.xet_folder.specs.Listed.{Lists}
use Rattle.xet_history.specs.Core.{RegisteredShard}
use Rattle.xet_history.specs.Lasting.{HasLasting}
use Rattle.xet_history.specs.Sound.{IsShardFile}
use Rattle.xet_io.specs.Disk.{File, Files, bytes_at}
use Rattle.xet_shard_file.specs.Names.{IsHash, shard_path}
use Rattle.xet_shard_file.specs.Shards.{IsThere, ShardFile, is_expired, is_past}
use Rattle.xet_shard_format.specs.Encoding.{footer_of}
use Rattle.xet_shard_format.specs.Reading.{ShardParts, all_of, shard_parts_of}
use Rattle.xet_shard_format.specs.Records.{xorb_record_hash}
use Rattle.xet_shard_format.specs.declared.record.MDBFileInfo.{MDBFileInfo}
use Rattle.xet_shard_format.specs.declared.record.MDBXorbInfo.{MDBXorbInfo}
use Rattle.xet_shard_format.specs.theorems.WholeAgain.{all_again}
use Rattle.xet_store_disk.specs.Separate.{Among, IsNamed}
use Rattle.xet_store_disk.specs.Store.{Sound}
use Rattle.xet_store_disk.specs.theorems.Admitting.{of_any, one_of}
use Rattle.xet_store_disk.specs.theorems.Footers.{file_there, with_footer}
use Rattle.xet_store_disk.specs.theorems.Rows.{from_among}
use Rattle.xet_store.specs.Recorded.{IsRecorded, RecordedState}
use Rattle.xet_store.specs.theorems.Sound.{among_map}

module _ (files : Files) (folder : List ℕ) (r : RegisteredShard) (stands : IsShardFile files folder r) where
  read_again : all_of stands.bytes ≡ Ok (shard_parts_of stands.encoding.lookups r.contents)
  read_again = ap all_of stands.encoding.encoding ∙ all_again stands.encoding.lookups r.contents stands.encoding.shard stands.encoding.fits

  never_past : (f : MDBFileInfo) → HasLasting r.contents f → (time : ℕ) → time < 2 ^ 64 → nat_lt (footer_of stands.encoding.lookups r.contents).shard_key_expiry time ≡ false
  unfolding footer_of
  never_past f has time below = ap (λ (n : ℕ). nat_lt n time) has.expiry ∙ le-ltb (2 ^ 64 - 1) time (omega (arith, below))

  lists_lasting : IsHash r.hash → (f : MDBFileInfo) → HasLasting r.contents f → (time : ℕ) → time < 2 ^ 64 → Lists files folder time f
  lists_lasting hash f has time below =
      let file = file_there files (shard_path folder r.hash) stands.bytes stands.there in record {
        shard = record { hash = r.hash; file = file.0 };
        there = record { named = hash; there = file.1 };
        valid = ap (λ (b : List ℕ). is_expired time b) file.2 ∙ ap (is_past time) (with_footer stands.bytes (shard_parts_of stands.encoding.lookups r.contents) read_again) ∙ never_past f has time below;
        parts = shard_parts_of stands.encoding.lookups r.contents;
        read = ap all_of file.2 ∙ read_again;
        among = has.among;
      }

-- What lasts in a registered shard is listed.
pub lasting_listed : (s : RecordedState) → Sound s.store → IsRecorded s → s.store.tells ≡ true → (f : MDBFileInfo) → Any (λ r. HasLasting r.contents f) s.shards
    → (time : ℕ) → time < 2 ^ 64 → Lists s.store.files s.store.folder time f
lasting_listed s sound recorded told f any time below =
    let (r, among, has) = of_any (λ r. HasLasting r.contents f) s.shards any in
    let there : Among s.store.shards r.hash = subst (λ (l : List (List ℕ)). Among l r.hash) recorded.shards.registered (among_map (λ (x : RegisteredShard). x.hash) s.shards r among) in
    lists_lasting s.store.files s.store.folder r (one_of (IsShardFile s.store.files s.store.folder) s.shards r (recorded.shards.stand told) among)
    (one_of IsHash s.store.shards r.hash sound.shards_hashes there) f has time below

-- ---- registered shards are read from their files

-- The shard's file is in the folder and unexpired, and what is read of it are its contents.
pub record IsReadable (files : Files) (folder : List ℕ) (now : ℕ) (r : RegisteredShard) : Type 0 where
  pub shard : ShardFile
  pub there : IsThere files folder shard
  pub valid : is_expired now shard.file.bytes ≡ false
  pub parts : ShardParts
  pub read : all_of shard.file.bytes ≡ Ok parts
  pub blocks : parts.0 ≡ r.contents.blocks
  pub key : key_of parts ≡ r.contents.key

module _ (s : RecordedState) (sound : Sound s.store) (recorded : IsRecorded s) (told : s.store.tells ≡ true) where
  pub shard_readable : (r : RegisteredShard) → Among s.shards r → IsReadable s.store.files s.store.folder s.store.opened r
  unfolding footer_of
  shard_readable r among =
      let admitted = sound.admitted told in
      let stands : IsShardFile s.store.files s.store.folder r = one_of (IsShardFile s.store.files s.store.folder) s.shards r (recorded.shards.stand told) among in
      let listed : Among s.store.shards r.hash = subst (λ (l : List (List ℕ)). Among l r.hash) recorded.shards.registered (among_map (λ (x : RegisteredShard). x.hash) s.shards r among) in
      let (f, here, is) = of_any (λ (x : ShardFile). x.hash ≡ r.hash) admitted.shards (one_of (λ k. Any (λ (x : ShardFile). x.hash ≡ k) admitted.shards) s.store.shards r.hash admitted.among listed) in
      let there : IsThere s.store.files s.store.folder f = one_of (IsThere s.store.files s.store.folder) admitted.shards f (recursion_from_All (IsThere s.store.files s.store.folder) admitted.shards admitted.admits.registers.there) here in
      let valid : is_expired s.store.opened f.file.bytes ≡ false =
      one_of (λ (x : ShardFile). is_expired s.store.opened x.file.bytes ≡ false) admitted.shards f (recursion_from_All (λ (x : ShardFile). is_expired s.store.opened x.file.bytes ≡ false) admitted.shards admitted.admits.registers.valid) here in
      let both : ◌≡◌ {A = Option (List ℕ)} (Some f.file.bytes) (Some stands.bytes) =
      sym (ap (option_map (λ (x : File). x.bytes)) there.there) ∙ ap (λ (k : List ℕ). bytes_at s.store.files (shard_path s.store.folder k)) is ∙ stands.there in
      let bytes : f.file.bytes ≡ stands.bytes = cc both in
      record {
        shard = f;
        there = there;
        valid = valid;
        parts = shard_parts_of stands.encoding.lookups r.contents;
        read = ap all_of bytes ∙ read_again s.store.files s.store.folder r stands;
        blocks = refl;
        key = refl;
      }

  -- a xorb that a registered shard has a record of is named by an unexpired shard of the folder
  pub in_shard_named : (h : List ℕ) → Any (λ r. Any (λ b. xorb_record_hash b ≡ h) r.contents.blocks) s.shards → IsNamed s.store.files s.store.folder s.store.opened h
  in_shard_named h any =
      let (r, among, named) = of_any (λ r. Any (λ b. xorb_record_hash b ≡ h) r.contents.blocks) s.shards any in
      let is = shard_readable r among in
      let (b, there, hash) = of_any (λ b. xorb_record_hash b ≡ h) r.contents.blocks named in
      let of_hash : Among (map xorb_record_hash r.contents.blocks) h = subst (λ (k : List ℕ). Among (map xorb_record_hash r.contents.blocks) k) hash (among_map xorb_record_hash r.contents.blocks b there) in
      (is.shard, is.there, is.valid, (is.parts, is.read, inl (from_among (map xorb_record_hash is.parts.0) h (subst (λ (bs : List MDBXorbInfo). Among (map xorb_record_hash bs) h) (sym is.blocks) of_hash))))
