-- The shards that are offered of a path are home there, and where several become one it is a folder.
use Rattle.std.proofs.Common.{◌≡◌, ◌≢◌, ◌∙◌, ◌⊎◌, inl, inr, ℕ, ◌≤◌, true, List, [], ◌∷◌, filter, length, map, None, Option, Some, Result, Ok, Err, refl, sym, ap, subst, arith}
use Rattle.std.proofs.lemmas.List.{length-map}
use Rattle.std.proofs.lemmas.List.Sorted.{IsPermutation-sym, length_permutation}
use Rattle.std.proofs.lemmas.List.Sums.{count_by-le-length, length-filter}
use Rattle.std.specs.List.{IsAmong}
use Rattle.xet_codec.specs.Parsing.{◌>>=◌}
use Rattle.xet_hash.specs.declared.error.StoreError.{StoreError}
use Rattle.xet_hash.specs.declared.error.StoreError.TheVariants as error
use Rattle.xet_io.specs.Disk.{File, Files, file_at}
use Rattle.xet_io.specs.theorems.Names.{either_name}
use Rattle.xet_shard.specs.Sections.{info_at}
use Rattle.xet_shard.specs.Union.{ShardRecords}
use Rattle.xet_shard.specs.declared.info.MDBShardInfo.{MDBShardInfo}
use Rattle.xet_shard_directory.specs.Answers.{in_file}
use Rattle.xet_shard_directory.specs.Directories.{IsReadAt, IsShardAt, ReadsFile, ReadsFolder, is_valid}
use Rattle.xet_shard_directory.specs.Values.{last_part, loaded, shard_value}
use Rattle.xet_shard_directory.specs.declared.shard_file.MDBShardFile.{MDBShardFile}
use Rattle.xet_shard_file.specs.Names.{IsHash, shard_path}
use Rattle.xet_shard_file.specs.theorems.Paths.{shards_apart}
use Rattle.xet_shard_format.specs.Names.{shard_name}
use Rattle.xet_shard_merge.specs.Contents.{IsValidShard}
use Rattle.xet_shard_merge.specs.Groups.{Group, Groups, Offered, alone}
use Rattle.xet_shard_merge.specs.Merging.{IsHome, IsOfFile, Offers}
use Rattle.xet_shard_merge.specs.internal.Grouping.{IsOnly}
use Rattle.xet_shard_merge.proofs.Among.{among_all, among_map, among_moved, among_none, among_one, filter_among}

-- ---- folders, and paths of one shard

abbrev pub IsNamed : List ℕ → Type 0
IsNamed path = (h : List ℕ) × IsHash h × (last_part path ≡ shard_name h)

abbrev pub IsFolder : List ℕ → Type 0
IsFolder path = (h : List ℕ) → IsHash h → last_part path ≢ shard_name h

abbrev pub IsEither : List ℕ → Type 0
IsEither path = IsNamed path ⊎ IsFolder path

-- the path of a shard that is read tells which it is
pub either_of : (path h p : List ℕ) → IsShardAt path h p → IsEither path
either_of path h p (is, inl (named, at)) = inl (h, is, named)
either_of path h p (is, inr (folder, at)) = inr folder

path_of_value : (read : Result MDBShardInfo StoreError) (h p : List ℕ) (m : ℕ) (s : MDBShardFile) → (read >>= λ shard. Ok (shard_value h p shard m)) ≡ Ok s → s.path ≡ p
path_of_value (Ok shard) h p m s e =
    let same : shard_value h p shard m ≡ s = cc e in ap (λ (x : MDBShardFile). x.path) (sym same)
path_of_value (Err d) h p m s e = absurd (cc e)

loaded_path : (found : Option File) (h p : List ℕ) (s : MDBShardFile) → in_file found (λ f. info_at f.bytes >>= λ shard. Ok (shard_value h p shard f.modified)) ≡ Ok s → s.path ≡ p
loaded_path None h p s e = absurd (cc e)
loaded_path (Some f) h p s e = path_of_value (info_at f.bytes) h p f.modified s e

-- ---- what is offered

module _ (files : Files) (path : List ℕ) (now : ℕ) (offered : List Offered) (offers : Offers files path now offered) where
  abbrev values : List MDBShardFile
  values = map (λ o. o.file) offered

  -- it was read, and is valid
  offered_read : (o : Offered) → IsAmong offered o → IsAmong offers.read o.file × (is_valid now o.file ≡ true)
  offered_read o a =
      filter_among (is_valid now) offers.read o.file
      (among_moved values (filter (is_valid now) offers.read) (IsPermutation-sym (filter (is_valid now) offers.read) values offers.valid) o.file (among_map (λ (x : Offered). x.file) offered o a))

  -- the path is a folder
  module _ (folder : IsFolder path) where
    abbrev IsThere : MDBShardFile → Type 0
    IsThere s = IsHash s.shard_hash × (s.path ≡ shard_path path s.shard_hash) × (loaded files s.shard_hash s.path ≡ Ok s)

    offered_there : (o : Offered) → IsAmong offered o → IsThere o.file
    offered_there o a =
        let reads : ReadsFolder files path offers.read = offers.reads.unnamed folder in
        among_all IsThere offers.read reads.each o.file (offered_read o a).0

    pub offered_valid : (o : Offered) (records : ShardRecords) → IsAmong offered o → o.records ≡ Ok records → IsValidShard files path now o.file records
    offered_valid o records a is =
        let there = offered_there o a in
        let whole = among_all (IsOfFile files) offered offers.whole o a in record {
          read = ((there.0, inr (folder, there.1)), there.2);
          valid = (offered_read o a).1;
          bytes = whole.bytes;
          there = whole.there;
          records_are = sym whole.records_are ∙ is;
        }

    -- a shard with the path of one that is offered is that one
    pub offered_at : (s : MDBShardFile) → IsReadAt files path s → (o : Offered) → IsAmong offered o → s.path ≡ o.file.path → s ≡ o.file
    offered_at s ((is, inl (named, at)), value) o a same = absurd (folder s.shard_hash is named)
    offered_at s ((is, inr (_, at)), value) o a same = by (either_name s.shard_hash o.file.shard_hash)
      where
        there : IsThere o.file
        there = offered_there o a

        by : (s.shard_hash ≡ o.file.shard_hash) ⊎ (s.shard_hash ≢ o.file.shard_hash) → s ≡ o.file
        by (inl hash) =
            let both : Ok s ≡ Ok o.file = sym value ∙ (λ i. loaded files (hash i) (same i)) ∙ there.2 in cc
        by (inr other) = absurd (shards_apart path s.shard_hash o.file.shard_hash is there.0 other (sym at ∙ same ∙ there.1))

  -- the path is one shard's
  module _ (named : IsNamed path) where
    record IsOneAt (read : List MDBShardFile) : Type 0 where
      few : length read ≤ 1
      at : (s : MDBShardFile) → IsAmong read s → s.path ≡ path

    one_read : (r : Result MDBShardFile StoreError) → loaded files named.0 path ≡ r → ReadsFile r offers.read → IsOneAt offers.read
    one_read (Ok s) is reads = record {
      few = omega (arith, ap length reads);
      at = λ t a. ap (λ (x : MDBShardFile). x.path) (among_one s t (subst (λ (l : List MDBShardFile). IsAmong l t) reads a)) ∙ loaded_path (file_at files path) named.0 path s is;
    }
    one_read (Err error.FileNotFound) is reads = absurd reads
    one_read (Err e) is reads = record { few = omega (arith, ap length reads); at = λ t a. absurd (among_none t (subst (λ (l : List MDBShardFile). IsAmong l t) reads a)) }

    one_at : IsOneAt offers.read
    one_at = one_read (loaded files named.0 path) refl (offers.reads.named named.0 named.1 named.2)

    few_offered : length offered ≤ 1
    few_offered =
        let all : length values ≡ length offered = length-map offered (λ (x : Offered). x.file) in
        let same : length values ≡ length (filter (is_valid now) offers.read) = length_permutation (filter (is_valid now) offers.read) values offers.valid in
        omega (arith, all, same, length-filter (is_valid now) offers.read, count_by-le-length (is_valid now) offers.read, one_at.few)

    offered_path : (o : Offered) → IsAmong offered o → o.file.path ≡ path
    offered_path o a = one_at.at o.file (offered_read o a).0

  pub offered_home : IsEither path → (o : Offered) → IsAmong offered o → IsHome path o.file
  offered_home (inl named) o a = inr (offered_path named o a)
  offered_home (inr folder) o a = inl (offered_there folder o a).1

-- ---- several of a path

module _ (target : ℕ) where
  one_alone : (offered : List Offered) → length offered ≤ 1 → (groups : List Group) (skipped : List MDBShardFile) → Groups target None offered groups skipped → (g : Group) → IsAmong groups g → IsOnly g.taken None → ⊥
  unfolding Groups
  one_alone [] few groups skipped (are, none) g a several = among_none g (subst (λ (gs : List Group). IsAmong gs g) are a)
  one_alone (o ∷ []) few groups skipped (inl (skip, (rest, last, (are, none)))) g a several = among_none g (subst (λ (gs : List Group). IsAmong gs g) are a)
  one_alone (o ∷ []) few groups skipped (inr (inl (read, begins, (are, none)))) g a (s, t, more, taken) =
      let same : g ≡ alone o.file o.length read = among_one (alone o.file o.length read) g (subst (λ (gs : List Group). IsAmong gs g) are a) in
      absurd (omega (arith, ap length (sym (ap (λ (x : Group). x.taken) same) ∙ taken)))
  one_alone (o ∷ []) few groups skipped (inr (inr (inl (h, read, rest, ends, first, more)))) g a several =
      let opened : ◌≡◌ {A = Option Group} None (Some h) = ends.is_open in absurd (cc opened)
  one_alone (o ∷ []) few groups skipped (inr (inr (inr (h, read, joins, more)))) g a several =
      let opened : ◌≡◌ {A = Option Group} None (Some h) = joins.is_open in absurd (cc opened)
  one_alone (o ∷ p ∷ os) few groups skipped h g a several = absurd (omega (arith, few))

  pub several_in_folder : (files : Files) (path : List ℕ) (now : ℕ) (offered : List Offered) → Offers files path now offered → IsEither path → (groups : List Group) (skipped : List MDBShardFile)
      → Groups target None offered groups skipped → (g : Group) → IsAmong groups g → IsOnly g.taken None → IsFolder path
  several_in_folder files path now offered offers (inl named) groups skipped grouped g a several = absurd (one_alone offered (few_offered files path now offered offers named) groups skipped grouped g a several)
  several_in_folder files path now offered offers (inr folder) groups skipped grouped g a several = folder
