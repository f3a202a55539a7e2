-- What the valid shards of a path list, and a shard that has the records of several.
use Rattle.std.proofs.Common.{◌≡◌, ◌∙◌, inr, ℕ, ◌<◌, ◌≤◌, ◌^◌, true, List, Option, Some, option_map, Ok, nat_le, le-leb, refl, sym, ap, subst, arith}
use Rattle.std.proofs.lemmas.Bool.{leb-true}
use Rattle.std.specs.List.{IsAmong}
use Rattle.xet_codec.specs.Parsing.{◌>>=◌}
use Rattle.xet_hash.specs.Hash.{zero_hash}
use Rattle.xet_hash.specs.Order.{hash_cmp}
use Rattle.xet_io.specs.Disk.{File, Files, bytes_at, file_at}
use Rattle.xet_shard.specs.Held.{by_hash, never}
use Rattle.xet_shard.specs.Sections.{blocks_in, files_in, info_at}
use Rattle.xet_shard.specs.Union.{ShardRecords, records_in}
use Rattle.xet_shard.specs.declared.info.MDBShardInfo.{MDBShardInfo}
use Rattle.xet_shard_directory.specs.Answers.{in_file}
use Rattle.xet_shard_directory.specs.Directories.{expiry, is_valid}
use Rattle.xet_shard_directory.specs.Values.{loaded, shard_value}
use Rattle.xet_shard_directory.specs.declared.shard_file.MDBShardFile.{MDBShardFile}
use Rattle.xet_shard_file.specs.Names.{IsHash, shard_path}
use Rattle.xet_shard_format.specs.Encoding.{Fits, IsShard, Shard, footer_of, header, shard_bytes}
use Rattle.xet_shard_format.specs.Lookups.{Lookups, all_lookups}
use Rattle.xet_shard_format.specs.Records.{file_record_hash, xorb_record_hash}
use Rattle.xet_shard_format.specs.declared.header_footer.MDBShardFileFooter.{MDBShardFileFooter}
use Rattle.xet_shard_format.specs.declared.record.MDBFileInfo.{MDBFileInfo}
use Rattle.xet_shard_format.specs.declared.record.MDBXorbInfo.{MDBXorbInfo}
use Rattle.xet_shard_merge.specs.Contents.{IsValidShard, ListSame, ListsFile, ListsMore, ListsXorb}
use Rattle.xet_shard_merge.specs.Groups.{Group}
use Rattle.xet_shard_merge.specs.Merging.{IsMergedEncoding, Stands, merged_shard}
use Rattle.xet_shard_merge.proofs.Among.{among_sorted, sorted_among}
use Rattle.xet_shard_merge.proofs.Digests.{digest_is_hash}
use Rattle.xet_shard_merge.proofs.Homes.{IsFolder}
use Rattle.xet_shard_merge.proofs.Loading.{there_in}
use Rattle.xet_shard_merge.proofs.ThroughDisk.{records_are}

abbrev pub shard_key : MDBShardFile → List ℕ
shard_key s = s.shard.metadata.chunk_hash_hmac_key

-- valid shards with this key list these records
pub record AreListed (new : Files) (path : List ℕ) (now : ℕ) (key : List ℕ) (records : ShardRecords) : Type 0 where
  pub xorbs : (x : MDBXorbInfo) → IsAmong records.0 x → ListsXorb new path now key x
  pub files : (f : MDBFileInfo) → IsAmong records.1 f → ListsFile new path now key f

-- what a valid shard lists is listed after too
abbrev pub StaysListed : Files → Files → List ℕ → ℕ → Type 0
StaysListed old new path now = (s : MDBShardFile) (records : ShardRecords) → IsValidShard old path now s records → AreListed new path now (shard_key s) records

module _ (path : List ℕ) (now : ℕ) where
  pub lists_own : (files : Files) (s : MDBShardFile) (records : ShardRecords) → IsValidShard files path now s records → AreListed files path now (shard_key s) records
  lists_own files s records valid = record {
    xorbs = λ x a. record { shard = s; records = records; valid = valid; key_is = refl; listed = a };
    files = λ f a. record { shard = s; records = records; valid = valid; key_is = refl; listed = a };
  }

  -- another shard that has the records lists them
  pub lists_for : (files : Files) (s : MDBShardFile) (more records : ShardRecords) (key : List ℕ) → IsValidShard files path now s more → shard_key s ≡ key
      → ((x : MDBXorbInfo) → IsAmong records.0 x → IsAmong more.0 x) → ((f : MDBFileInfo) → IsAmong records.1 f → IsAmong more.1 f) → AreListed files path now key records
  lists_for files s more records key valid same xorbs files_of = record {
    xorbs = λ x a. record { shard = s; records = more; valid = valid; key_is = same; listed = xorbs x a };
    files = λ f a. record { shard = s; records = more; valid = valid; key_is = same; listed = files_of f a };
  }

  pub lists_more : (old new : Files) → StaysListed old new path now → ListsMore old new path now
  lists_more old new stays = record {
    xorbs = λ key x l. subst (λ (k : List ℕ). ListsXorb new path now k x) l.key_is ((stays l.shard l.records l.valid).xorbs x l.listed);
    files = λ key f l. subst (λ (k : List ℕ). ListsFile new path now k f) l.key_is ((stays l.shard l.records l.valid).files f l.listed);
  }

  pub list_same : (old new : Files) → StaysListed old new path now → StaysListed new old path now → ListSame old new path now
  list_same old new stays from =
      let there = lists_more old new stays in
      let back = lists_more new old from in
      record { xorbs = λ key x. (there.xorbs key x, back.xorbs key x); files = λ key f. (there.files key f, back.files key f) }

  -- ---- one valid shard

  module _ (s : MDBShardFile) where
    -- where its file is the same, it is valid
    pub valid_same : (old new : Files) (records : ShardRecords) → file_at new s.path ≡ file_at old s.path → IsValidShard old path now s records → IsValidShard new path now s records
    valid_same old new records same v = record {
      read = (v.read.0, ap (λ (found : Option File). in_file found (λ f. info_at f.bytes >>= λ shard. Ok (shard_value s.shard_hash s.path shard f.modified))) same ∙ v.read.1);
      valid = v.valid;
      bytes = v.bytes;
      there = ap (option_map (λ (f : File). f.bytes)) same ∙ v.there;
      records_are = v.records_are;
    }

    -- a shard that is valid at a time was so before
    pub valid_earlier : (time : ℕ) → now ≤ time → (files : Files) (records : ShardRecords) → IsValidShard files path time s records → IsValidShard files path now s records
    valid_earlier time later files records v = record {
      read = v.read;
      valid = le-leb now (expiry s) (omega (arith, later, leb-true time (expiry s) v.valid));
      bytes = v.bytes;
      there = v.there;
      records_are = v.records_are;
    }

    -- its records are those of its file
    pub records_there : (files : Files) (records : ShardRecords) (bytes : List ℕ) → IsValidShard files path now s records → bytes_at files s.path ≡ Some bytes → records_in s.shard.metadata bytes ≡ Ok records
    records_there files records bytes v there =
        let own : bytes_at files s.path ≡ Some v.bytes = v.there in
        let same : v.bytes ≡ bytes = cc in
        subst (λ (b : List ℕ). records_in s.shard.metadata b ≡ Ok records) same v.records_are

    pub same_records : (files : Files) (records more : ShardRecords) → IsValidShard files path now s records → IsValidShard files path now s more → records ≡ more
    same_records files records more v w =
        let one : records_in s.shard.metadata w.bytes ≡ Ok records = records_there files records w.bytes v w.there in
        let two : records_in s.shard.metadata w.bytes ≡ Ok more = w.records_are in
        cc

-- ---- the shard of a group of several

-- each part of a shard's encoding is read under its footer, as `xet_shard::laws::parts_are_read` has it
pub record PartsAreRead : Type 0 where
  pub info : (w : Lookups) (s : Shard) → IsShard s → Fits s → info_at (shard_bytes w s) ≡ Ok (record { header = header; metadata = footer_of w s })
  pub files : (w : Lookups) (s : Shard) → IsShard s → Fits s → files_in (footer_of w s) (shard_bytes w s) ≡ Ok s.files
  pub blocks : (w : Lookups) (s : Shard) → IsShard s → Fits s → blocks_in (footer_of w s) (shard_bytes w s) ≡ Ok s.blocks

footer_key : (w : Lookups) (s : Shard) → (footer_of w s).chunk_hash_hmac_key ≡ s.key
unfolding footer_of
footer_key w s = refl

footer_expiry : (w : Lookups) (s : Shard) → (footer_of w s).shard_key_expiry ≡ s.expiry
unfolding footer_of
footer_expiry w s = refl

-- its records, in the order in which they are written
abbrev pub merged_records : Group → ShardRecords
merged_records g = (by_hash xorb_record_hash g.records.blocks, by_hash file_record_hash g.records.files)

module _ (g : Group) where
  pub xorb_is_merged : (x : MDBXorbInfo) → IsAmong g.records.blocks x → IsAmong (merged_records g).0 x
  xorb_is_merged x a = among_sorted (λ y z. hash_cmp (xorb_record_hash y) (xorb_record_hash z)) g.records.blocks x a

  pub file_is_merged : (f : MDBFileInfo) → IsAmong g.records.files f → IsAmong (merged_records g).1 f
  file_is_merged f a = among_sorted (λ y z. hash_cmp (file_record_hash y) (file_record_hash z)) g.records.files f a

  pub xorb_of_merged : (x : MDBXorbInfo) → IsAmong (merged_records g).0 x → IsAmong g.records.blocks x
  xorb_of_merged x a = sorted_among (λ y z. hash_cmp (xorb_record_hash y) (xorb_record_hash z)) g.records.blocks x a

  pub file_of_merged : (f : MDBFileInfo) → IsAmong (merged_records g).1 f → IsAmong g.records.files f
  file_of_merged f a = sorted_among (λ y z. hash_cmp (file_record_hash y) (file_record_hash z)) g.records.files f a

module _ (parts : PartsAreRead) (g : Group) (bytes : List ℕ) (form : IsMergedEncoding g bytes) where
  abbrev footer : MDBShardFileFooter
  footer = footer_of all_lookups (merged_shard g)

  merged_read : records_in footer bytes ≡ Ok (merged_records g)
  merged_read =
      records_are footer bytes (merged_records g).1 (merged_records g).0 (ap (files_in footer) form.encoding ∙ parts.files all_lookups (merged_shard g) form.shard form.fits)
      (ap (blocks_in footer) form.encoding ∙ parts.blocks all_lookups (merged_shard g) form.shard form.fits)

  -- a shard file has these bytes
  module _ (files : Files) (s : MDBShardFile) (value : loaded files s.shard_hash s.path ≡ Ok s) (there : bytes_at files s.path ≡ Some bytes) where
    merged_footer : s.shard.metadata ≡ footer
    merged_footer =
        let own = there_in (file_at files s.path) s.shard_hash s.path s value in
        let own_there : bytes_at files s.path ≡ Some own.0 = own.1 in
        let same : own.0 ≡ bytes = cc in
        let read : info_at bytes ≡ Ok s.shard = subst (λ (b : List ℕ). info_at b ≡ Ok s.shard) same own.2 in
        let law : info_at bytes ≡ Ok (record { header = header; metadata = footer }) = ap info_at form.encoding ∙ parts.info all_lookups (merged_shard g) form.shard form.fits in
        let info : ◌≡◌ {A = MDBShardInfo} s.shard (record { header = header; metadata = footer }) = cc in
        ap (λ (i : MDBShardInfo). i.metadata) info

    pub merged_key : shard_key s ≡ zero_hash
    merged_key = ap (λ (f : MDBShardFileFooter). f.chunk_hash_hmac_key) merged_footer ∙ footer_key all_lookups (merged_shard g)

    pub merged_lists : records_in s.shard.metadata bytes ≡ Ok (merged_records g)
    merged_lists = ap (λ (f : MDBShardFileFooter). records_in f bytes) merged_footer ∙ merged_read

    never_expires : expiry s ≡ never
    never_expires = ap (λ (f : MDBShardFileFooter). f.shard_key_expiry) merged_footer ∙ footer_expiry all_lookups (merged_shard g)

    pub merged_valid : (now : ℕ) → now < 2 ^ 64 → is_valid now s ≡ true
    merged_valid now below = ap (nat_le now) never_expires ∙ le-leb now never (omega (arith, below))

  -- a result is valid
  pub result_valid : (files : Files) (folder : List ℕ) (now : ℕ) → now < 2 ^ 64 → IsFolder folder → (r : MDBShardFile) → Stands files folder bytes r → IsValidShard files folder now r (merged_records g)
  result_valid files folder now below is_folder r stands =
      let hash : IsHash r.shard_hash = subst IsHash (sym stands.hash) (digest_is_hash bytes) in
      let path : r.path ≡ shard_path folder r.shard_hash = stands.path ∙ ap (shard_path folder) (sym stands.hash) in record {
        read = ((hash, inr (is_folder, path)), stands.value);
        valid = merged_valid files r stands.value stands.there now below;
        bytes = bytes;
        there = stands.there;
        records_are = merged_lists files r stands.value stands.there;
      }
