-- There are groups of the shards that are offered, whatever these are.
use Rattle.std.proofs.Common.{◌≡◌, ◌∙◌, ◌⊎◌, ℕ, ◌+◌, Bool, true, false, ltb, ◌==◌, nat_eq, Decides, List, [], ◌∷◌, None, Option, Some, Result, Ok, Err, inl, inr, refl, sym, ap, arith}
use Rattle.std.proofs.lemmas.Bool.{true≢false}
use Rattle.std.proofs.lemmas.Bool.Decides.{Decides-eqb, Decides-ltb}
use Rattle.std.specs.Cmp.Lexicographic.{bytes_decides, pointwise}
use Rattle.std.specs.List.{AllByRecursion}
use Rattle.xet_hash.specs.Hash.{zero_hash}
use Rattle.xet_hash.specs.declared.error.StoreError.{StoreError}
use Rattle.xet_shard.specs.Held.{Held}
use Rattle.xet_shard.specs.Union.{Agree, IsKeyed, ShardRecords}
use Rattle.xet_shard_directory.specs.declared.shard_file.MDBShardFile.{MDBShardFile}
use Rattle.xet_shard_format.specs.Records.{file_record_hash, xorb_record_hash}
use Rattle.xet_shard_format.specs.declared.record.FileDataSequenceEntry.{FileDataSequenceEntry}
use Rattle.xet_shard_format.specs.declared.record.FileDataSequenceHeader.{FileDataSequenceHeader}
use Rattle.xet_shard_format.specs.declared.record.FileMetadataExt.{FileMetadataExt}
use Rattle.xet_shard_format.specs.declared.record.FileVerificationEntry.{FileVerificationEntry}
use Rattle.xet_shard_format.specs.declared.record.MDBFileInfo.{MDBFileInfo}
use Rattle.xet_shard_format.specs.declared.record.MDBXorbInfo.{MDBXorbInfo}
use Rattle.xet_shard_format.specs.declared.record.XorbChunkSequenceEntry.{XorbChunkSequenceEntry}
use Rattle.xet_shard_format.specs.declared.record.XorbChunkSequenceHeader.{XorbChunkSequenceHeader}
use Rattle.xet_shard_merge.specs.Groups.{Agrees, Fits, Group, Groups, IsPlain, IsSkipped, Offered, alone, if_open, joined}
use Rattle.xet_shard_merge.proofs.Stepping.{end_step, enter_step, follow_step, skip_step, start_step}

-- ---- statements of which one knows whether they hold

abbrev OrNot : Type 0 → Type 0
OrNot P = P ⊎ (P → ⊥)

by_test : {P : Type 0} (r : Bool) → Decides r P → OrNot P
by_test true d = inl (d.0 refl)
by_test false d = inr (λ p. true≢false (sym (d.1 p)))

module _ {P Q : Type 0} where
  same_or_not : (P → Q) → (Q → P) → OrNot P → OrNot Q
  same_or_not there back (inl p) = inl (there p)
  same_or_not there back (inr never) = inr (λ q. never (back q))

  both_or_not : OrNot P → OrNot Q → OrNot (P × Q)
  both_or_not (inl p) (inl q) = inl (p, q)
  both_or_not (inl p) (inr never) = inr (λ h. never h.1)
  both_or_not (inr never) q = inr (λ h. never h.0)

  if_or_not : OrNot P → OrNot Q → OrNot (P → Q)
  if_or_not p (inl q) = inl (λ _. q)
  if_or_not (inl p) (inr never) = inr (λ f. never (f p))
  if_or_not (inr never) (inr _) = inl (λ p. absurd (never p))

not_or_not : {P : Type 0} → OrNot P → OrNot (P → ⊥)
not_or_not (inl p) = inr (λ never. never p)
not_or_not (inr never) = inl never

all_or_not : {X : Type 0} (P : X → Type 0) → ((x : X) → OrNot (P x)) → (xs : List X) → OrNot (AllByRecursion P xs)
all_or_not P each [] = inl tt
all_or_not P each (x ∷ xs) = both_or_not (each x) (all_or_not P each xs)

-- ---- equality

abbrev Equality : Type 0 → Type 0
Equality A = (a b : A) → OrNot (a ≡ b)

of_numbers : Equality ℕ
of_numbers a b = by_test (a == b) (Decides-eqb a b)

of_hashes : Equality (List ℕ)
of_hashes a b = by_test (pointwise nat_eq a b) (bytes_decides a b)

of_pairs : {A B : Type 0} → Equality A → Equality B → Equality (A × B)
of_pairs first second a b = same_or_not (λ e i. (e.0 i, e.1 i)) (λ e. (λ i. (e i).0, λ i. (e i).1)) (both_or_not (first a.0 b.0) (second a.1 b.1))

module _ {A : Type 0} (each : Equality A) where
  of_lists : Equality (List A)
  of_lists [] [] = inl refl
  of_lists [] (y ∷ ys) = inr (λ e. absurd cc)
  of_lists (x ∷ xs) [] = inr (λ e. absurd cc)
  of_lists (x ∷ xs) (y ∷ ys) = same_or_not (λ e i. e.0 i ∷ e.1 i) (λ e. (cc, cc)) (both_or_not (each x y) (of_lists xs ys))

  of_options : Equality (Option A)
  of_options None None = inl refl
  of_options None (Some y) = inr (λ e. absurd cc)
  of_options (Some x) None = inr (λ e. absurd cc)
  of_options (Some x) (Some y) = same_or_not (λ e i. Some (e i)) (λ e. cc) (each x y)

-- values that are made of others
made_of : {A B : Type 0} (parts : A → B) (make : B → A) → ((a : A) → make (parts a) ≡ a) → Equality B → Equality A
made_of parts make whole each a b = same_or_not (λ e. sym (whole a) ∙ ap make e ∙ whole b) (λ e. ap parts e) (each (parts a) (parts b))

-- ---- records

of_chunks : Equality XorbChunkSequenceEntry
of_chunks =
    made_of (λ c. (c.chunk_hash, (c.chunk_byte_range_start, c.unpacked_segment_bytes)))
    (λ p. record { chunk_hash = p.0; chunk_byte_range_start = p.1.0; unpacked_segment_bytes = p.1.1 })
    (λ c. refl) (of_pairs of_hashes (of_pairs of_numbers of_numbers))

of_xorb_headers : Equality XorbChunkSequenceHeader
of_xorb_headers =
    made_of (λ h. ((h.xorb_hash, (h.xorb_flags, h.num_entries)), (h.num_bytes_in_xorb, h.num_bytes_on_disk)))
    (λ p. record { xorb_hash = p.0.0; xorb_flags = p.0.1.0; num_entries = p.0.1.1; num_bytes_in_xorb = p.1.0; num_bytes_on_disk = p.1.1 })
    (λ h. refl) (of_pairs (of_pairs of_hashes (of_pairs of_numbers of_numbers)) (of_pairs of_numbers of_numbers))

of_xorbs : Equality MDBXorbInfo
of_xorbs = made_of (λ x. (x.metadata, x.chunks)) (λ p. record { metadata = p.0; chunks = p.1 }) (λ x. refl) (of_pairs of_xorb_headers (of_lists of_chunks))

of_file_headers : Equality FileDataSequenceHeader
of_file_headers =
    made_of (λ h. (h.file_hash, (h.file_flags, h.num_entries))) (λ p. record { file_hash = p.0; file_flags = p.1.0; num_entries = p.1.1 })
    (λ h. refl) (of_pairs of_hashes (of_pairs of_numbers of_numbers))

of_segments : Equality FileDataSequenceEntry
of_segments =
    made_of (λ s. ((s.xorb_hash, (s.xorb_flags, s.unpacked_segment_bytes)), (s.chunk_index_start, s.chunk_index_end)))
    (λ p. record { xorb_hash = p.0.0; xorb_flags = p.0.1.0; unpacked_segment_bytes = p.0.1.1; chunk_index_start = p.1.0; chunk_index_end = p.1.1 })
    (λ s. refl) (of_pairs (of_pairs of_hashes (of_pairs of_numbers of_numbers)) (of_pairs of_numbers of_numbers))

of_verifications : Equality FileVerificationEntry
of_verifications = made_of (λ v. v.range_hash) (λ h. record { range_hash = h }) (λ v. refl) of_hashes

of_exts : Equality FileMetadataExt
of_exts = made_of (λ m. m.sha256) (λ h. record { sha256 = h }) (λ m. refl) of_hashes

of_files : Equality MDBFileInfo
of_files =
    made_of (λ f. ((f.metadata, f.segments), (f.verification, f.metadata_ext)))
    (λ p. record { metadata = p.0.0; segments = p.0.1; verification = p.1.0; metadata_ext = p.1.1 })
    (λ f. refl) (of_pairs (of_pairs of_file_headers (of_lists of_segments)) (of_pairs (of_lists of_verifications) (of_options of_exts)))

-- ---- the rules

agree_or_not : {X : Type 0} (hash : X → List ℕ) → Equality X → (xs ys : List X) → OrNot (Agree hash xs ys)
agree_or_not hash each xs ys =
    all_or_not (λ x. AllByRecursion (λ y. hash x ≡ hash y → x ≡ y) ys) (λ x. all_or_not (λ y. hash x ≡ hash y → x ≡ y) (λ y. if_or_not (of_hashes (hash x) (hash y)) (each x y)) ys) xs

agrees_or_not : (h : Held) (records : ShardRecords) → OrNot (Agrees h records)
agrees_or_not h records = both_or_not (agree_or_not xorb_record_hash of_xorbs h.blocks records.0) (agree_or_not file_record_hash of_files h.files records.1)

fits_or_not : (target : ℕ) (g : Group) (o : Offered) → OrNot (Fits target g o)
fits_or_not target g o = same_or_not (λ less. omega arith) (λ le. omega arith) (by_test (ltb (g.length + o.length) (target + 249)) (Decides-ltb (g.length + o.length) (target + 249)))

abbrev Grouped : ℕ → Option Group → List Offered → Type 0
Grouped target current offered = (groups : List Group) × (skipped : List MDBShardFile) × Groups target current offered groups skipped

module _ (target : ℕ) (o : Offered) (os : List Offered) (then : (current : Option Group) → Grouped target current os) where
  skips : (current : Option Group) → IsSkipped target current o → Grouped target current (o ∷ os)
  skips current is = let rest = then current in (rest.0, o.file ∷ rest.1, skip_step target current o os rest.0 rest.1 is rest.2)

  module _ (records : ShardRecords) (plain : IsPlain o records) where
    begins : Grouped target None (o ∷ os)
    begins =
        let rest = then (Some (alone o.file o.length records)) in
        (rest.0, rest.1, start_step target None o os rest.0 rest.1 records (record { is_open = refl; plain = plain }) rest.2)

    module _ (g : Group) where
      ends : (Fits target g o → ⊥) → Grouped target (Some g) (o ∷ os)
      ends long =
          let rest = then (Some (alone o.file o.length records)) in
          (g ∷ rest.0, rest.1, follow_step target (Some g) o os rest.0 rest.1 g records (record { is_open = refl; plain = plain; long = long }) rest.2)

      joins : Fits target g o → Agrees g.records records → Grouped target (Some g) (o ∷ os)
      joins fits agrees =
          let rest = then (Some (joined g o.file records)) in
          (rest.0, rest.1, enter_step target (Some g) o os rest.0 rest.1 g records (record { is_open = refl; plain = plain; fits = fits; agrees = agrees }) rest.2)

      in_group : OrNot (Fits target g o) → OrNot (Agrees g.records records) → Grouped target (Some g) (o ∷ os)
      in_group (inl fits) (inl agrees) = joins fits agrees
      in_group (inl fits) (inr differs) = skips (Some g) (inr (inr (record { group = g; records = records; is_open = refl; plain = plain; fits = fits; differs = differs })))
      in_group (inr long) _ = ends long

    goes : (current : Option Group) → Grouped target current (o ∷ os)
    goes None = begins
    goes (Some g) = in_group g (fits_or_not target g o) (agrees_or_not g.records records)

  one : (current : Option Group) → Grouped target current (o ∷ os)
  one current = by o.records refl (not_or_not (of_hashes o.file.shard.metadata.chunk_hash_hmac_key zero_hash))
    where
      by : (r : Result ShardRecords StoreError) → o.records ≡ r → OrNot (IsKeyed o.file.shard.metadata) → Grouped target current (o ∷ os)
      by (Err e) is keyed = skips current (inl (e, is))
      by (Ok records) is (inl keyed) = skips current (inr (inl keyed))
      by (Ok records) is (inr plain) = goes records (is, plain) current

pub groups_exist : (target : ℕ) (current : Option Group) (offered : List Offered) → (groups : List Group) × (skipped : List MDBShardFile) × Groups target current offered groups skipped
groups_exist target current [] = (if_open current, [], end_step target current)
groups_exist target current (o ∷ os) = one target o os (λ (c : Option Group). groups_exist target c os) current
