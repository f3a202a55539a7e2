-- Records that are added to a list, each hash once.
use Rattle.std.proofs.Common.{◌≡◌, ◌≢◌, ◌∙◌, ℕ, ◌+◌, ◌*◌, ◌^◌, ◌<◌, ◌≤◌, Bool, true, false, Bor, cond, not, List, [], ◌∷◌, ◌++◌, drop, filter, get_or, is_none, is_some, length, map, nat_eq, None, Option, Some, option_map, refl, sym, ap, subst, append_assoc, append-nil, arith}
use Rattle.std.proofs.lemmas.Bool.{false_from_ne_true, true≢false}
use Rattle.std.proofs.lemmas.List.{drop_all, length-append, length-map}
use Rattle.std.proofs.lemmas.List.Concat.{length-flat_map}
use Rattle.std.proofs.lemmas.List.MinMax.{ranks_by}
use Rattle.std.proofs.lemmas.List.Sums.{sum_by-append, sum_by-cons}
use Rattle.std.specs.Cmp.{IsStrictWeakOrder, IsTotalOrder}
use Rattle.std.specs.Cmp.Lexicographic.{bytes_decides, on_texts, pointwise}
use Rattle.std.specs.List.{AllByRecursion, flat_map, sum_by}
use Rattle.std.specs.Ordering.{is_lt}
use Rattle.xet_base.specs.theorems.Elements.{all_more}
use Rattle.xet_hash.specs.Hash.{sentinel}
use Rattle.xet_hash.specs.Order.{flipped, hash_cmp}
use Rattle.xet_hash.specs.theorems.Ties.{hash_tied}
use Rattle.xet_shard.specs.Held.{DifferBy, Held, held, held_size, nothing, record_of, with_last}
use Rattle.xet_shard.specs.Union.{ShardRecords}
use Rattle.xet_shard_directory.specs.declared.shard_file.MDBShardFile.{MDBShardFile}
use Rattle.xet_shard_format.specs.RecordSizes.{file_record_size, xorb_record_size}
use Rattle.xet_shard_format.specs.Records.{AreRecords, IsFile, chunk_row, ext_rows, file_record_hash, file_rows, file_section, section, segment_row, verification_row, xorb_record_hash, xorb_rows, xorb_section}
use Rattle.xet_shard_format.specs.declared.record.FileMetadataExt.{FileMetadataExt}
use Rattle.xet_shard_format.specs.declared.record.MDBFileInfo.{MDBFileInfo}
use Rattle.xet_shard_format.specs.declared.record.MDBXorbInfo.{MDBXorbInfo}
use Rattle.xet_shard_format.specs.declared.row.Row.{Row}
use Rattle.xet_shard_format.specs.theorems.Steps.{left}
use Rattle.xet_shard_merge.specs.Groups.{both, with_records}
use Rattle.xet_shard_merge.specs.internal.Grouping.{AreOwn, IsOnly, IsSameIf}
use Rattle.xet_shard_merge.specs.theorems.RowCounts.{rows_within}

same : (a b : List ℕ) → pointwise nat_eq a b ≡ true → a ≡ b
same a b = (bytes_decides a b).0

differs : (a b : List ℕ) → a ≢ b → pointwise nat_eq a b ≡ false
differs a b ne = false_from_ne_true _ (λ e. ne ((bytes_decides a b).0 e))

unequal : (a b : List ℕ) → pointwise nat_eq a b ≡ false → a ≢ b
unequal a b other e = true≢false (sym ((bytes_decides a b).1 e) ∙ other)

-- a lookup that found nothing
pub none_of : {X : Type 0} (found : Option (Bor X)) (r : Option X) → false ≡ is_some found → option_map (λ x. x.now) found ≡ r → r ≡ None
none_of None r test e = sym e
none_of (Some x) r test e = absurd (true≢false (sym test))

-- ---- records in ascending order have hashes of their own

order : IsStrictWeakOrder (λ (a b : List ℕ). is_lt (hash_cmp a b))
order =
    let total : IsTotalOrder hash_cmp = on_texts flipped in
    ranks_by total (λ (h : List ℕ). h)

above : (a b c : List ℕ) → is_lt (hash_cmp b a) ≡ false → is_lt (hash_cmp b c) ≡ true → is_lt (hash_cmp a c) ≡ true
above a b c p q = by (is_lt (hash_cmp a c)) refl
  where
    by : (t : Bool) → is_lt (hash_cmp a c) ≡ t → t ≡ true
    by true e = refl
    by false e = absurd (true≢false (sym q ∙ order.chain b a c p e))

less_less : (a b c : List ℕ) → is_lt (hash_cmp a b) ≡ true → is_lt (hash_cmp b c) ≡ true → is_lt (hash_cmp a c) ≡ true
less_less a b c p q = above a b c (order.one_way a b p) q

apart : (a b : List ℕ) → is_lt (hash_cmp a b) ≡ true → a ≢ b
apart a b less e = true≢false (sym less ∙ ap is_lt (hash_tied a b e))

module _ {X : Type 0} (hash : X → List ℕ) (Form : X → Type 0) where
  others_differ : (h last : List ℕ) (ys : List X) → is_lt (hash_cmp h last) ≡ true → AreRecords hash Form (Some last) ys → AllByRecursion (λ y. h ≢ hash y) ys
  others_differ h last [] less r = tt
  others_differ h last (y ∷ ys) less r =
      let here : is_lt (hash_cmp h (hash y)) ≡ true = less_less h last (hash y) less r.0 in
      (apart h (hash y) here, others_differ h (hash y) ys here r.3)

  after_this : (h : List ℕ) (ys : List X) → AreRecords hash Form (Some h) ys → AllByRecursion (λ y. h ≢ hash y) ys
  after_this h [] r = tt
  after_this h (y ∷ ys) r = (apart h (hash y) r.0, others_differ h (hash y) ys r.0 r.3)

  each_of : (last : Option (List ℕ)) (xs : List X) → AreRecords hash Form last xs → AllByRecursion (λ x. (hash x ≢ sentinel) × Form x) xs
  each_of last [] r = tt
  each_of last (x ∷ xs) r = ((r.1, r.2), each_of (Some (hash x)) xs r.3)

  differ_of : (last : Option (List ℕ)) (xs : List X) → AreRecords hash Form last xs → DifferBy hash xs
  differ_of last [] r = tt
  differ_of last (x ∷ xs) r = (after_this (hash x) xs r.3, differ_of (Some (hash x)) xs r.3)

  pub own_of_records : (xs : List X) → AreRecords hash Form None xs → AreOwn hash Form xs
  own_of_records xs r = record { each = each_of None xs r; differ = differ_of None xs r }

-- ---- one record after the other

module _ {X : Type 0} (hash : X → List ℕ) where
  missing : (h : List ℕ) (xs : List X) → record_of hash h xs ≡ None → AllByRecursion (λ x. h ≢ hash x) xs
  missing h [] none = tt
  missing h (x ∷ xs) none = by (pointwise nat_eq h (hash x)) refl none (λ n. missing h xs n)
    where
      by : (t : Bool) → pointwise nat_eq h (hash x) ≡ t → cond t (Some x) (record_of hash h xs) ≡ None → (record_of hash h xs ≡ None → AllByRecursion (λ y. h ≢ hash y) xs)
          → AllByRecursion (λ y. h ≢ hash y) (x ∷ xs)
      by true e n rest = absurd cc
      by false e n rest = (unequal h (hash x) e, rest n)

  found_push : (h : List ℕ) (xs : List X) (y : X) → h ≢ hash y → record_of hash h (xs ++ y ∷ []) ≡ record_of hash h xs
  found_push h [] y ne = ap (λ (t : Bool). cond t (Some y) None) (differs h (hash y) ne)
  found_push h (x ∷ xs) y ne = ap (cond (pointwise nat_eq h (hash x)) (Some x)) (found_push h xs y ne)

  same_filter : (f g : X → Bool) (ys : List X) → AllByRecursion (λ y. f y ≡ g y) ys → filter f ys ≡ filter g ys
  same_filter f g [] all = refl
  same_filter f g (y ∷ ys) all = λ i. cond (all.0 i) (y ∷ same_filter f g ys all.1 i) (same_filter f g ys all.1 i)

  -- the first of several is added before the others
  pub both_cons : (xs : List X) (y : X) (ys : List X) → DifferBy hash (y ∷ ys) → both hash (both hash xs (y ∷ [])) ys ≡ both hash xs (y ∷ ys)
  both_cons xs y ys differ = by (is_none (record_of hash (hash y) xs)) refl
    where
      is_new : List X → X → Bool
      is_new zs z = is_none (record_of hash (hash z) zs)

      later : filter (is_new (xs ++ y ∷ [])) ys ≡ filter (is_new xs) ys
      later =
          same_filter (is_new (xs ++ y ∷ [])) (is_new xs) ys
          (all_more (λ z. hash y ≢ hash z) (λ z. is_new (xs ++ y ∷ []) z ≡ is_new xs z) ys (λ z ne. ap is_none (found_push (hash z) xs y (λ e. ne (sym e)))) differ.0)

      by : (t : Bool) → is_none (record_of hash (hash y) xs) ≡ t
          → (xs ++ cond t (y ∷ []) []) ++ filter (is_new (xs ++ cond t (y ∷ []) [])) ys ≡ xs ++ cond t (y ∷ filter (is_new xs) ys) (filter (is_new xs) ys)
      by true e = ap (λ (l : List X). (xs ++ y ∷ []) ++ l) later ∙ append_assoc xs (y ∷ []) (filter (is_new xs) ys)
      by false e = ap (λ (l : List X). l ++ filter (is_new l) ys) (append-nil xs)

  pub both_there : (xs : List X) (x y : X) → record_of hash (hash y) xs ≡ Some x → both hash xs (y ∷ []) ≡ xs
  both_there xs x y found = ap (λ (o : Option X). xs ++ cond (is_none o) (y ∷ []) []) found ∙ append-nil xs

  filter_all : (h : List ℕ) (xs : List X) → AllByRecursion (λ y. h ≢ hash y) xs → filter (λ y. not (pointwise nat_eq (hash y) h)) xs ≡ xs
  filter_all h [] all = refl
  filter_all h (x ∷ xs) all =
      let rest : List X = filter (λ y. not (pointwise nat_eq (hash y) h)) xs in
      ap (λ (t : Bool). cond (not t) (x ∷ rest) rest) (differs (hash x) h (λ e. all.0 (sym e))) ∙ ap (λ (l : List X). x ∷ l) (filter_all h xs all.1)

  pub last_new : (xs : List X) (y : X) → record_of hash (hash y) xs ≡ None → with_last hash xs y ≡ xs ++ y ∷ []
  last_new xs y none = ap (λ (l : List X). l ++ y ∷ []) (filter_all (hash y) xs (missing (hash y) xs none))

  pub both_new : (xs : List X) (y : X) → record_of hash (hash y) xs ≡ None → both hash xs (y ∷ []) ≡ with_last hash xs y
  both_new xs y none = ap (λ (o : Option X). xs ++ cond (is_none o) (y ∷ []) []) none ∙ sym (last_new xs y none)

-- ---- rows

section_push : {X : Type 0} (rows : X → List Row) (xs : List X) (x : X) → length (section rows (xs ++ x ∷ [])) ≡ length (section rows xs) + length (rows x)
section_push {X} rows xs x =
    let counts : X → ℕ = λ y. length (rows y) in
    let one : length (section rows (xs ++ x ∷ [])) ≡ length (flat_map rows (xs ++ x ∷ [])) + 1 = length-append (flat_map rows (xs ++ x ∷ [])) _ in
    let two : length (section rows xs) ≡ length (flat_map rows xs) + 1 = length-append (flat_map rows xs) _ in
    let long : length (flat_map rows (xs ++ x ∷ [])) ≡ sum_by counts (xs ++ x ∷ []) = length-flat_map rows (xs ++ x ∷ []) in
    let short : length (flat_map rows xs) ≡ sum_by counts xs = length-flat_map rows xs in
    let split : sum_by counts (xs ++ x ∷ []) ≡ sum_by counts xs + sum_by counts (x ∷ []) = sum_by-append counts xs (x ∷ []) in
    let last : sum_by counts (x ∷ []) ≡ counts x + 0 = sum_by-cons counts x [] in
    omega arith

pub few_with_block : (h : Held) (block : MDBXorbInfo) → record_of xorb_record_hash (xorb_record_hash block) h.blocks ≡ None → held_size h + 48 * length block.chunks < 48 * 2 ^ 32
    → length (xorb_section (with_last xorb_record_hash h.blocks block)) < 2 ^ 32
few_with_block h block none room =
    let is : with_last xorb_record_hash h.blocks block ≡ h.blocks ++ block ∷ [] = last_new xorb_record_hash h.blocks block none in
    let whole : length (xorb_section (h.blocks ++ block ∷ [])) ≡ length (xorb_section h.blocks) + length (xorb_rows block) = section_push xorb_rows h.blocks block in
    let within : 48 * length (xorb_section h.blocks) ≤ sum_by xorb_record_size h.blocks + 48 = rows_within xorb_rows xorb_record_size h.blocks (λ x. omega arith) in
    rw is (omega (arith, whole, within, room, length-map block.chunks chunk_row))

-- a file has at most two rows a segment, and two more
file_rows_few : (file : MDBFileInfo) → IsFile file → length (file_rows file) ≤ 2 + 2 * length file.segments
file_rows_few file form =
    let one : length (map segment_row file.segments) ≡ length file.segments = length-map file.segments segment_row in
    let two : length (map verification_row file.verification) ≡ length file.verification = length-map file.verification verification_row in
    let few : length file.verification ≤ length file.segments = verifications_few form.verified (length file.verification) (length file.segments) form.verifications in
    let last : length (ext_rows file.metadata_ext) ≤ 1 = ext_few file.metadata_ext in
    let tail : length (map verification_row file.verification ++ ext_rows file.metadata_ext) ≡ length (map verification_row file.verification) + length (ext_rows file.metadata_ext) = length-append (map verification_row file.verification) (ext_rows file.metadata_ext) in
    let rest : length (map segment_row file.segments ++ (map verification_row file.verification ++ ext_rows file.metadata_ext)) ≡ length (map segment_row file.segments) + length (map verification_row file.verification ++ ext_rows file.metadata_ext) = length-append (map segment_row file.segments) _ in
    omega arith
  where
    verifications_few : (t : Bool) (n m : ℕ) → n ≡ cond t m 0 → n ≤ m
    verifications_few true n m e = omega arith
    verifications_few false n m e = omega arith

    ext_few : (e : Option FileMetadataExt) → length (ext_rows e) ≤ 1
    ext_few None = omega arith
    ext_few (Some m) = omega arith

pub few_with_file : (h : Held) (file : MDBFileInfo) → IsFile file → record_of file_record_hash (file_record_hash file) h.files ≡ None → held_size h + 96 * length file.segments < 48 * 2 ^ 32
    → length (file_section (with_last file_record_hash h.files file)) < 2 ^ 32
few_with_file h file form none room =
    let is : with_last file_record_hash h.files file ≡ h.files ++ file ∷ [] = last_new file_record_hash h.files file none in
    let whole : length (file_section (h.files ++ file ∷ [])) ≡ length (file_section h.files) + length (file_rows file) = section_push file_rows h.files file in
    let within : 48 * length (file_section h.files) ≤ sum_by file_record_size h.files + 48 = rows_within file_rows file_record_size h.files (λ x. omega arith) in
    rw is (omega (arith, whole, within, room, file_rows_few file form))

-- ---- agreement

module _ {X : Type 0} (hash : X → List ℕ) where
  none_same : (y : X) (xs : List X) → AllByRecursion (λ x. hash y ≢ hash x) xs → IsSameIf hash xs y
  none_same y [] all = tt
  none_same y (x ∷ xs) all = (λ e. absurd (all.0 (sym e)), none_same y xs all.1)

  pub agrees_missing : (xs : List X) (y : X) → record_of hash (hash y) xs ≡ None → IsSameIf hash xs y
  agrees_missing xs y none = none_same y xs (missing hash (hash y) xs none)

  pub agrees_equal : (xs : List X) (x y : X) → DifferBy hash xs → record_of hash (hash y) xs ≡ Some x → x ≡ y → IsSameIf hash xs y
  agrees_equal [] x y differ found e = tt
  agrees_equal (z ∷ zs) x y differ found e = by (pointwise nat_eq (hash y) (hash z)) refl found (λ f. agrees_equal zs x y differ.1 f e)
    where
      by : (t : Bool) → pointwise nat_eq (hash y) (hash z) ≡ t → cond t (Some z) (record_of hash (hash y) zs) ≡ Some x
          → (record_of hash (hash y) zs ≡ Some x → IsSameIf hash zs y) → IsSameIf hash (z ∷ zs) y
      by true test f rest =
          let this : z ≡ x = cc in (
            λ _. this ∙ e,
            none_same y zs (all_more (λ w. hash z ≢ hash w) (λ w. hash y ≢ hash w) zs (λ w ne k. ne (sym (same (hash y) (hash z) test) ∙ k)) differ.0),
          )
      by false test f rest = (λ k. absurd (unequal (hash y) (hash z) test (sym k)), rest f)

  pub equal_agreed : (xs : List X) (x y : X) → record_of hash (hash y) xs ≡ Some x → IsSameIf hash xs y → x ≡ y
  equal_agreed [] x y found all = absurd cc
  equal_agreed (z ∷ zs) x y found all = by (pointwise nat_eq (hash y) (hash z)) refl found (λ f. equal_agreed zs x y f all.1)
    where
      by : (t : Bool) → pointwise nat_eq (hash y) (hash z) ≡ t → cond t (Some z) (record_of hash (hash y) zs) ≡ Some x → (record_of hash (hash y) zs ≡ Some x → x ≡ y) → x ≡ y
      by true test f rest =
          let this : z ≡ x = cc in sym this ∙ all.0 (sym (same (hash y) (hash z) test))
      by false test f rest = rest f

pub all_swap : {X Y : Type 0} (R : X → Y → Type 0) (xs : List X) (ys : List Y) → AllByRecursion (λ y. AllByRecursion (λ x. R x y) xs) ys → AllByRecursion (λ x. AllByRecursion (λ y. R x y) ys) xs
all_swap R [] ys all = tt
all_swap R (x ∷ xs) ys all = (
  all_more (λ y. R x y × AllByRecursion (λ z. R z y) xs) (λ y. R x y) ys (λ y h. h.0) all,
  all_swap R xs ys (all_more (λ y. R x y × AllByRecursion (λ z. R z y) xs) (λ y. AllByRecursion (λ z. R z y) xs) ys (λ y h. h.1) all),
)

-- one more of a list
pub all_one : {Y : Type 0} (P : Y → Type 0) (ys : List Y) (i : ℕ) (y : Y) → i < length ys → y ≡ get_or ys i y → P y → (AllByRecursion P (drop i ys) → AllByRecursion P ys)
    → AllByRecursion P (drop (i + 1) ys) → AllByRecursion P ys
all_one P ys i y less is here so_far rest = so_far (subst (AllByRecursion P) (sym (left ys i y less is)) (here, rest))

pub one_left : {Y : Type 0} (P : Y → Type 0) (ys : List Y) (i : ℕ) (y : Y) → i < length ys → y ≡ get_or ys i y → AllByRecursion P (drop i ys) → P y × AllByRecursion P (drop (i + 1) ys)
one_left P ys i y less is all = subst (AllByRecursion P) (left ys i y less is) all

pub all_none : {Y : Type 0} (P : Y → Type 0) (ys : List Y) (i : ℕ) → length ys ≤ i → AllByRecursion P (drop i ys)
all_none P ys i le = subst (AllByRecursion P) (sym (drop_all i ys le)) tt

-- ---- a shard that begins a group

pub both_first : {X : Type 0} (hash : X → List ℕ) (ys : List X) → both hash [] ys ≡ ys
both_first hash [] = refl
both_first hash (y ∷ ys) = ap (λ (l : List _). y ∷ l) (both_first hash ys)

pub first_records : (records : ShardRecords) → with_records nothing records ≡ held records.0 records.1
first_records records = λ j. held (both_first xorb_record_hash records.0 j) (both_first file_record_hash records.1 j)

-- ---- the shards of a group

pub several : (s : MDBShardFile) (others : List MDBShardFile) → (others ≡ [] → ⊥) → IsOnly (s ∷ others) None
several s [] some = absurd (some refl)
several s (t ∷ more) some = (s, t, more, refl)
