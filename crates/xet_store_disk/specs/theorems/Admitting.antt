-- A folder stays valid if what its shards name does not change, and also with one more well-formed shard.
use Rattle.std.proofs.Common.{◌≡◌, ◌≢◌, inl, inr, ◌∙◌, ℕ, suc, ◌<◌, Bool, true, false, cond, not, filter, List, [], ◌∷◌, map, Option, Some, IsSome, refl, sym, ap, subst, arith, nat_eq}
use Rattle.std.proofs.lemmas.Cmp.{by_ranked}
use Rattle.std.proofs.lemmas.List.Elements.{All-from_recursion, recursion_from_All}
use Rattle.std.proofs.lemmas.List.Kept.{AllPairs-cons, AllPairs-filter}
use Rattle.std.specs.Cmp.{IsTotalOrder, back_total, nat_cmp_total, on_total, ranked, then_total}
use Rattle.std.specs.Cmp.Lexicographic.{bytes_decides, nat_list_cmp_total, pointwise, slice_cmp}
use Rattle.std.specs.FinMap.{nat_cmp-IsAntisymmetric, slice_cmp-IsAntisymmetric}
use Rattle.std.specs.List.{All, AllByRecursion, AllPairs, Any, IsAmong}
use Rattle.std.specs.Ordering.{is_lt, nat_cmp, ordering_reverse, ordering_then}
use Rattle.std.specs.declared.cmp.Ordering.{Ordering}
use Rattle.std.specs.declared.cmp.Ordering.TheVariants.{Less, Equal, Greater}
use Rattle.xet_io.specs.Disk.{File, Files, bytes_at, file_at}
use Rattle.xet_shard_format.specs.declared.record.FileDataSequenceEntry.{FileDataSequenceEntry as Segment}
use Rattle.xet_shard_format.specs.declared.record.MDBFileInfo.{MDBFileInfo}
use Rattle.xet_shard_format.specs.declared.record.MDBXorbInfo.{MDBXorbInfo}
use Rattle.xet_shard_format.specs.Names.{shard_name}
use Rattle.xet_shard_format.specs.Records.{xorb_record_hash}
use Rattle.xet_folder.specs.Admission.{BlockHolds, FileHolds, ShardHolds, key_of}
use Rattle.xet_folder.specs.Checks.{OfBlocks, OfBytes, OfFiles, OfSegments}
use Rattle.xet_shard_file.specs.Names.{IsHash, shard_path}
use Rattle.xet_folder.specs.Names.{xorb_path}
use Rattle.xet_folder.specs.Plan.{Resolves}
use Rattle.xet_shard_file.specs.Shards.{ComesBefore, IsThere, ShardFile, is_expired}
use Rattle.xet_folder.specs.Stored.{IsBacked, IsStored}
use Rattle.xet_folder.specs.Xorbs.{Xorbs, found}
use Rattle.xet_shard_file.specs.theorems.Names.{name_determines}
use Rattle.xet_store_disk.specs.Separate.{Among}
use Rattle.xet_store_disk.specs.Store.{IsAdmitted}
use Rattle.xet_store_disk.specs.theorems.Rows.{among_filter, from_among, to_among}

-- ---- lists

module _ {X : Type 0} where
  -- what is among the rest is among all
  pub among_later : (y : X) (xs : List X) (x : X) → IsAmong xs x → IsAmong (y ∷ xs) x
  among_later y xs x (i, (below, is)) = (suc i, (omega (arith, below), is))

  pub among_first : (y : X) (xs : List X) → IsAmong (y ∷ xs) y
  among_first y xs = (0, (omega arith, refl))

  -- what holds of each element, where each of them has what is asked
  pub all_with : (P Q : X → Type 0) (xs : List X) → ((x : X) → Among xs x → P x → Q x) → AllByRecursion P xs → AllByRecursion Q xs
  all_with P Q [] more all = tt
  all_with P Q (x ∷ xs) more all = (more x (inl refl) all.0, all_with P Q xs (λ y a. more y (inr a)) all.1)

  pub any_of : (P : X → Type 0) (xs : List X) (x : X) → Among xs x → P x → Any P xs
  any_of P xs x a holds = let i = from_among xs x a in (i.0, x, i.1.0, sym i.1.1, holds)

  pub of_any : (P : X → Type 0) (xs : List X) → Any P xs → (x : X) × Among xs x × P x
  of_any P xs (k, x, below, at, holds) = (x, to_among xs x (k, (below, sym at)), holds)

  -- what holds of all holds of one
  pub one_of : (P : X → Type 0) (xs : List X) (x : X) → AllByRecursion P xs → Among xs x → P x
  one_of P [] x all a = absurd a
  one_of P (y ∷ xs) x all (inl e) = subst P e all.0
  one_of P (y ∷ xs) x all (inr a) = one_of P xs x all.1 a

  -- what passes a filter was there, and passes
  pub among_filtered : (test : X → Bool) (xs : List X) (x : X) → Among (filter test xs) x → Among xs x × (test x ≡ true)
  among_filtered test [] x a = absurd a
  among_filtered test (y ∷ xs) x a = go (test y) refl a (among_filtered test xs x)
    where
      go : (b : Bool) → test y ≡ b → Among (cond b (y ∷ filter test xs) (filter test xs)) x → (Among (filter test xs) x → Among xs x × (test x ≡ true)) → Among (y ∷ xs) x × (test x ≡ true)
      go true passes (inl is) later = (inl is, ap test (sym is) ∙ passes)
      go true passes (inr b) later = let l = later b in (inr l.0, l.1)
      go false passes b later = let l = later b in (inr l.0, l.1)

-- ---- what a shard names has not changed

module _ (old new : Files) (folder : List ℕ) where
  abbrev pub SameXorb : List ℕ → Type 0
  SameXorb h = bytes_at new (xorb_path folder h) ≡ bytes_at old (xorb_path folder h)

  pub stored_same : (h : List ℕ) (chunks : List (List ℕ)) → SameXorb h → IsStored old folder h chunks → IsStored new folder h chunks
  stored_same h chunks same s = record { bytes = s.bytes; there = same ∙ s.there; encoding = s.encoding; readable = s.readable; hash = s.hash }

  pub backed_same : (h : List ℕ) (leaves : List (List ℕ × ℕ)) → SameXorb h → IsBacked old folder h leaves → IsBacked new folder h leaves
  backed_same h leaves same b = record { chunks = b.chunks; stored = stored_same h b.chunks same b.stored; same = b.same }

  blocks_same : (shard key : List ℕ) (blocks : List MDBXorbInfo) → ((h : List ℕ) → OfBlocks blocks h → SameXorb h) → AllByRecursion (BlockHolds old folder shard key) blocks
      → AllByRecursion (BlockHolds new folder shard key) blocks
  blocks_same shard key [] same all = tt
  blocks_same shard key (b ∷ bs) same all = (
    record {
      leaves = all.0.leaves;
      backed = backed_same (xorb_record_hash b) all.0.leaves (same (xorb_record_hash b) (among_first (xorb_record_hash b) (map xorb_record_hash bs))) all.0.backed;
      lists = all.0.lists;
    },
    blocks_same shard key bs (λ h of. same h (among_later (xorb_record_hash b) (map xorb_record_hash bs) h of)) all.1,
  )

  resolves_same : (plan : List Segment) (out : List (List ℕ × ℕ)) → ((h : List ℕ) → OfSegments plan h → SameXorb h) → Resolves (IsBacked old folder) (λ m. m.1) plan out
      → Resolves (IsBacked new folder) (λ m. m.1) plan out
  resolves_same [] out same none = none
  resolves_same (s ∷ ss) out same (xs, rest, backed, lies, parts, more) =
      let hashes : List (List ℕ) = map (λ (t : Segment). t.xorb_hash) ss in
      (xs, rest, backed_same s.xorb_hash xs (same s.xorb_hash (among_first s.xorb_hash hashes)) backed, lies, parts, resolves_same ss rest (λ h of. same h (among_later s.xorb_hash hashes h of)) more)

  files_same : (shard : List ℕ) (files : List MDBFileInfo) → ((h : List ℕ) → OfFiles files h → SameXorb h) → AllByRecursion (FileHolds old folder shard) files
      → AllByRecursion (FileHolds new folder shard) files
  files_same shard [] same all = tt
  files_same shard (f ∷ fs) same all = (
    record {
      leaves = all.0.leaves;
      resolves = resolves_same f.segments all.0.leaves (λ h of. same h (f, among_first f fs, of)) all.0.resolves;
      some = all.0.some;
      hash = all.0.hash;
    },
    files_same shard fs (λ h (g, among, of). same h (g, among_later f fs g among, of)) all.1,
  )

  -- so a shard that held holds
  pub holds_same : (s : ShardFile) → ((h : List ℕ) → OfBytes s.file.bytes h → SameXorb h) → ShardHolds old folder s → ShardHolds new folder s
  holds_same s same holds = record {
    parts = holds.parts;
    read = holds.read;
    bytes = holds.bytes;
    named = holds.named;
    blocks = blocks_same s.hash (key_of holds.parts) holds.parts.0 (λ h of. same h (holds.parts, holds.read, inl of)) holds.blocks;
    files_hold = files_same s.hash holds.parts.1 (λ h of. same h (holds.parts, holds.read, inr of)) holds.files_hold;
  }

-- ---- the order of shards

abbrev shard_cmp : ShardFile → ShardFile → Ordering
shard_cmp a b = ordering_then (nat_cmp b.file.modified a.file.modified) (slice_cmp nat_cmp (shard_name a.hash) (shard_name b.hash))

shard_cmp_total : IsTotalOrder shard_cmp
shard_cmp_total = then_total (back_total (on_total (λ (s : ShardFile). s.file.modified) nat_cmp_total)) (on_total (λ (s : ShardFile). shard_name s.hash) nat_list_cmp_total)

lt_is : (o : Ordering) → is_lt o ≡ true → o ≡ Less
lt_is Less e = refl
lt_is Equal e = absurd (cc e)
lt_is Greater e = absurd (cc e)

before_to : (a b : ShardFile) → shard_cmp a b ≡ Less → ComesBefore a b
before_to a b less =
    by_ranked (b.file.modified < a.file.modified) (b.file.modified ≡ a.file.modified) (a.file.modified < b.file.modified) (nat_cmp b.file.modified a.file.modified) (ranked b.file.modified a.file.modified _ refl)
    (λ e lt. inl lt)
    (λ e same.
    let names : slice_cmp nat_cmp (shard_name a.hash) (shard_name b.hash) ≡ Less = subst (λ (o : Ordering). ordering_then o (slice_cmp nat_cmp (shard_name a.hash) (shard_name b.hash)) ≡ Less) e less in
    inr (sym same, ap is_lt names))
    (λ e gt. let bad : ordering_then Greater (slice_cmp nat_cmp (shard_name a.hash) (shard_name b.hash)) ≡ Less = subst (λ (o : Ordering). ordering_then o (slice_cmp nat_cmp (shard_name a.hash) (shard_name b.hash)) ≡ Less) e less in absurd (cc bad))

before_from : (a b : ShardFile) → ComesBefore a b → shard_cmp a b ≡ Less
before_from a b before =
    by_ranked (b.file.modified < a.file.modified) (b.file.modified ≡ a.file.modified) (a.file.modified < b.file.modified) (nat_cmp b.file.modified a.file.modified) (ranked b.file.modified a.file.modified _ refl)
    (λ e lt. ap (λ (o : Ordering). ordering_then o (slice_cmp nat_cmp (shard_name a.hash) (shard_name b.hash))) e)
    (λ e same. ap (λ (o : Ordering). ordering_then o (slice_cmp nat_cmp (shard_name a.hash) (shard_name b.hash))) e ∙ names same before)
    (λ e gt. absurd (none gt before))
  where
    names : b.file.modified ≡ a.file.modified → ComesBefore a b → slice_cmp nat_cmp (shard_name a.hash) (shard_name b.hash) ≡ Less
    names same (inl lt) = absurd (omega (arith, lt, same))
    names same (inr p) = lt_is _ p.1

    none : a.file.modified < b.file.modified → ComesBefore a b → ⊥
    none gt (inl lt) = omega (arith, gt, lt)
    none gt (inr p) = let same = p.0 in omega (arith, gt, same)

before_trans : (a b c : ShardFile) → ComesBefore a b → ComesBefore b c → ComesBefore a c
before_trans a b c p q = before_to a c (shard_cmp_total.trans a b c (before_from a b p) (before_from b c q))

-- of two shards of different hashes one comes before the other
name_of_equal : (a b : ShardFile) → shard_cmp a b ≡ Equal → shard_name a.hash ≡ shard_name b.hash
name_of_equal a b e = slice_cmp-IsAntisymmetric nat_cmp-IsAntisymmetric (shard_name a.hash) (shard_name b.hash) (second (nat_cmp b.file.modified a.file.modified) e)
  where
    second : (o : Ordering) → ordering_then o (slice_cmp nat_cmp (shard_name a.hash) (shard_name b.hash)) ≡ Equal → slice_cmp nat_cmp (shard_name a.hash) (shard_name b.hash) ≡ Equal
    second Less e = absurd (cc e)
    second Equal e = e
    second Greater e = absurd (cc e)

before_or : (a b : ShardFile) → IsHash a.hash → IsHash b.hash → a.hash ≢ b.hash → is_lt (shard_cmp a b) ≡ false → ComesBefore b a
before_or a b is_a is_b apart not_less = go (shard_cmp a b) refl not_less
  where
    go : (o : Ordering) → shard_cmp a b ≡ o → is_lt o ≡ false → ComesBefore b a
    go Less e bad = absurd (cc bad)
    go Equal e bad = absurd (apart (name_determines a.hash b.hash is_a is_b (name_of_equal a b e)))
    go Greater e bad = before_to b a (shard_cmp_total.antisymm b a ∙ ap ordering_reverse e)

-- ---- one shard more, at its place

pub place : ShardFile → List ShardFile → List ShardFile
place s [] = s ∷ []
place s (x ∷ xs) = cond (is_lt (shard_cmp x s)) (x ∷ place s xs) (s ∷ x ∷ xs)

module _ (s : ShardFile) where
  placed_here : (xs : List ShardFile) → Among (place s xs) s
  unfolding place
  placed_here [] = inl refl
  placed_here (x ∷ xs) = go (is_lt (shard_cmp x s)) (placed_here xs)
    where
      go : (b : Bool) → Among (place s xs) s → Among (cond b (x ∷ place s xs) (s ∷ x ∷ xs)) s
      go true a = inr a
      go false a = inl refl

  placed_other : (xs : List ShardFile) (y : ShardFile) → Among xs y → Among (place s xs) y
  unfolding place
  placed_other [] y a = absurd a
  placed_other (x ∷ xs) y a = go (is_lt (shard_cmp x s)) a (placed_other xs y)
    where
      go : (b : Bool) → Among (x ∷ xs) y → (Among xs y → Among (place s xs) y) → Among (cond b (x ∷ place s xs) (s ∷ x ∷ xs)) y
      go true (inl is) later = inl is
      go true (inr a) later = inr (later a)
      go false a later = inr a

  placed_all : (P : ShardFile → Type 0) (xs : List ShardFile) → P s → AllByRecursion P xs → AllByRecursion P (place s xs)
  unfolding place
  placed_all P [] here all = (here, tt)
  placed_all P (x ∷ xs) here all = go (is_lt (shard_cmp x s)) (placed_all P xs here all.1)
    where
      go : (b : Bool) → AllByRecursion P (place s xs) → AllByRecursion P (cond b (x ∷ place s xs) (s ∷ x ∷ xs))
      go true rest = (all.0, rest)
      go false rest = (here, (all.0, all.1))

  -- pairs of the rest, and of the first with the rest
  rest_pairs : (x : ShardFile) (xs : List ShardFile) → AllPairs ComesBefore (x ∷ xs) → AllPairs ComesBefore xs
  rest_pairs x xs order i j d lt below = order (suc i) (suc j) d (omega (arith, lt)) (omega (arith, below))

  first_pairs : (x : ShardFile) (xs : List ShardFile) → AllPairs ComesBefore (x ∷ xs) → All (ComesBefore x) xs
  first_pairs x xs order k d below = order 0 (suc k) d (omega arith) (omega (arith, below))

  placed_order : (xs : List ShardFile) → IsHash s.hash → AllByRecursion (λ x. IsHash x.hash) xs → AllByRecursion (λ x. x.hash ≢ s.hash) xs → AllPairs ComesBefore xs → AllPairs ComesBefore (place s xs)
  unfolding place
  placed_order [] is hashes apart order = AllPairs-cons ComesBefore s [] (All-from_recursion (ComesBefore s) [] tt) (λ i j d lt below. absurd (omega (arith, below)))
  placed_order (x ∷ xs) is hashes apart order =
      go (is_lt (shard_cmp x s)) refl (placed_order xs is hashes.1 apart.1 (rest_pairs x xs order))
    where
      go : (b : Bool) → is_lt (shard_cmp x s) ≡ b → AllPairs ComesBefore (place s xs) → AllPairs ComesBefore (cond b (x ∷ place s xs) (s ∷ x ∷ xs))
      go true less rest =
          let first : ComesBefore x s = before_to x s (lt_is _ less) in
          AllPairs-cons ComesBefore x (place s xs)
          (All-from_recursion (ComesBefore x) (place s xs) (placed_all (ComesBefore x) xs first (recursion_from_All (ComesBefore x) xs (first_pairs x xs order)))) rest
      go false less rest =
          let first : ComesBefore s x = before_or x s hashes.0 is apart.0 less in
          AllPairs-cons ComesBefore s (x ∷ xs)
          (All-from_recursion (ComesBefore s) (x ∷ xs) (first, all_with (ComesBefore x) (ComesBefore s) xs (λ y a before. before_trans s x y first before) (recursion_from_All (ComesBefore x) xs (first_pairs x xs order)))) order

-- ---- a folder that stays admitted

module _ (old new : Files) (folder : List ℕ) (now : ℕ) (xorbs more : Xorbs) (shards : List (List ℕ)) (grows : (h : List ℕ) → IsSome (found xorbs h) → IsSome (found more h))
    (same : (h : List ℕ) → IsSome (found xorbs h) → SameXorb old new folder h) (admitted : IsAdmitted old folder now xorbs shards) where
  -- each of its shards still holds
  holds_still : (s : ShardFile) → Among admitted.shards s → ShardHolds old folder s → ShardHolds new folder s
  holds_still s a holds = holds_same old new folder s (λ h of. same h (admitted.named h (any_of (λ (t : ShardFile). OfBytes t.file.bytes h) admitted.shards s a of))) holds

  pub admitted_still : ((h : List ℕ) → IsHash h → file_at new (shard_path folder h) ≡ file_at old (shard_path folder h)) → IsAdmitted new folder now more shards
  admitted_still files = record {
    shards = admitted.shards;
    admits = record {
      registers = record {
        there = λ k d below. let t = admitted.admits.registers.there k d below in record { named = t.named; there = files _ t.named ∙ t.there };
        valid = admitted.admits.registers.valid;
        all = λ s there valid. admitted.admits.registers.all s (record { named = there.named; there = sym (files s.hash there.named) ∙ there.there }) valid;
        order = admitted.admits.registers.order;
      };
      hold = all_with (ShardHolds old folder) (ShardHolds new folder) admitted.shards holds_still admitted.admits.hold;
    };
    among = admitted.among;
    named = λ h any. grows h (admitted.named h any);
  }

  -- with a whole shard under a hash, whatever stood there
  module _ (h : List ℕ) (file : File) (is : IsHash h) (there : file_at new (shard_path folder h) ≡ Some file) (valid : is_expired now file.bytes ≡ false)
      (holds : ShardHolds new folder (record { hash = h; file = file })) (listed : (x : List ℕ) → OfBytes file.bytes x → IsSome (found more x))
      (others : (k : List ℕ) → IsHash k → k ≢ h → file_at new (shard_path folder k) ≡ file_at old (shard_path folder k)) where
    abbrev one : ShardFile
    one = record { hash = h; file = file }

    abbrev differs : ShardFile → Bool
    differs s = not (pointwise nat_eq s.hash h)

    abbrev rest : List ShardFile
    rest = filter differs admitted.shards

    abbrev pub shards_now : List ShardFile
    shards_now = place one rest

    differs_is : (s : ShardFile) → differs s ≡ true → s.hash ≢ h
    differs_is s e same_hash = let t : pointwise nat_eq s.hash h ≡ true = (bytes_decides s.hash h).1 same_hash in let bad : not true ≡ true = ap not (sym t) ∙ e in cc bad

    is_differs : (s : ShardFile) → s.hash ≢ h → differs s ≡ true
    is_differs s apart = go (pointwise nat_eq s.hash h) refl
      where
        go : (b : Bool) → pointwise nat_eq s.hash h ≡ b → not b ≡ true
        go true e = absurd (apart ((bytes_decides s.hash h).0 e))
        go false e = refl

    -- what all have of those that were there, of those with another hash
    rest_all : (P Q : ShardFile → Type 0) → AllByRecursion P admitted.shards → ((s : ShardFile) → Among admitted.shards s → s.hash ≢ h → P s → Q s) → AllByRecursion Q rest
    rest_all P Q all more = walk rest (λ s a. a)
      where
        walk : (xs : List ShardFile) → ((s : ShardFile) → Among xs s → Among rest s) → AllByRecursion Q xs
        walk [] inside = tt
        walk (x ∷ xs) inside =
            let f = among_filtered differs admitted.shards x (inside x (inl refl)) in
            (more x f.0 (differs_is x f.1) (one_of P admitted.shards x all f.0), walk xs (λ s a. inside s (inr a)))

    there_old : AllByRecursion (IsThere old folder) admitted.shards
    there_old = recursion_from_All (IsThere old folder) admitted.shards admitted.admits.registers.there

    all_there : AllByRecursion (IsThere new folder) shards_now
    all_there = placed_all one (IsThere new folder) rest (record { named = is; there = there })
        (rest_all (IsThere old folder) (IsThere new folder) there_old (λ s a apart t. record { named = t.named; there = others s.hash t.named apart ∙ t.there }))

    all_valid : AllByRecursion (λ s. is_expired now s.file.bytes ≡ false) shards_now
    all_valid = placed_all one (λ s. is_expired now s.file.bytes ≡ false) rest valid
        (rest_all (λ s. is_expired now s.file.bytes ≡ false) (λ s. is_expired now s.file.bytes ≡ false) (recursion_from_All (λ (s : ShardFile). is_expired now s.file.bytes ≡ false) admitted.shards admitted.admits.registers.valid) (λ s a apart v. v))

    all_hold : AllByRecursion (ShardHolds new folder) shards_now
    all_hold = placed_all one (ShardHolds new folder) rest holds (rest_all (ShardHolds old folder) (ShardHolds new folder) admitted.admits.hold (λ s a apart p. holds_still s a p))

    in_order : AllPairs ComesBefore shards_now
    in_order = placed_order one rest is (rest_all (IsThere old folder) (λ s. IsHash s.hash) there_old (λ s a apart t. t.named)) (rest_all (IsThere old folder) (λ s. s.hash ≢ h) there_old (λ s a apart t. apart))
        (AllPairs-filter ComesBefore differs admitted.shards admitted.admits.registers.order)

    among_now : (s : ShardFile) → Among admitted.shards s → s.hash ≢ h → Among shards_now s
    among_now s a apart = placed_other one rest s (among_filter differs admitted.shards s (is_differs s apart) a)

    -- each that is there and valid is one of them
    all_listed : (s : ShardFile) → IsThere new folder s → is_expired now s.file.bytes ≡ false → IsAmong shards_now s
    all_listed s t v = go (pointwise nat_eq s.hash h) refl
      where
        go : (b : Bool) → pointwise nat_eq s.hash h ≡ b → IsAmong shards_now s
        go true e =
            let same_hash : s.hash ≡ h = (bytes_decides s.hash h).0 e in
            let files : ◌≡◌ {A = Option File} (Some s.file) (Some file) = sym t.there ∙ ap (λ (k : List ℕ). file_at new (shard_path folder k)) same_hash ∙ there in
            let same_file : s.file ≡ file = cc files in
            let whole : one ≡ s = λ i. record { hash = sym same_hash i; file = sym same_file i } in
            from_among shards_now s (subst (Among shards_now) whole (placed_here one rest))
        go false e =
            let apart : s.hash ≢ h = λ q. let t : pointwise nat_eq s.hash h ≡ true = (bytes_decides s.hash h).1 q in let bad : false ≡ true = sym e ∙ t in cc bad in
            let before : IsAmong admitted.shards s = admitted.admits.registers.all s (record { named = t.named; there = sym (others s.hash t.named apart) ∙ t.there }) v in
            from_among shards_now s (among_now s (to_among admitted.shards s before) apart)

    -- each that was registered is, and so is this one
    still_registered : (k : List ℕ) → Any (λ s. s.hash ≡ k) admitted.shards → Any (λ s. s.hash ≡ k) shards_now
    still_registered k any = go (pointwise nat_eq h k) refl (of_any (λ (s : ShardFile). s.hash ≡ k) admitted.shards any)
      where
        go : (b : Bool) → pointwise nat_eq h k ≡ b → (s : ShardFile) × Among admitted.shards s × (s.hash ≡ k) → Any (λ s. s.hash ≡ k) shards_now
        go true e found_one = any_of (λ (s : ShardFile). s.hash ≡ k) shards_now one (placed_here one rest) ((bytes_decides h k).0 e)
        go false e (s, a, hash) =
            let apart : s.hash ≢ h = λ q. let t : pointwise nat_eq h k ≡ true = (bytes_decides h k).1 (sym q ∙ hash) in let bad : false ≡ true = sym e ∙ t in cc bad in
            any_of (λ (x : ShardFile). x.hash ≡ k) shards_now s (among_now s a apart) hash

    pub this_registered : Any (λ s. s.hash ≡ h) shards_now
    this_registered = any_of (λ (s : ShardFile). s.hash ≡ h) shards_now one (placed_here one rest) refl

    all_named : (x : List ℕ) → AllByRecursion (λ s. OfBytes s.file.bytes x → IsSome (found more x)) shards_now
    all_named x = placed_all one (λ s. OfBytes s.file.bytes x → IsSome (found more x)) rest (listed x)
        (rest_all (IsThere old folder) (λ s. OfBytes s.file.bytes x → IsSome (found more x)) there_old
        (λ s a apart t of. grows x (admitted.named x (any_of (λ (y : ShardFile). OfBytes y.file.bytes x) admitted.shards s a of))))

    now_named : (x : List ℕ) → Any (λ s. OfBytes s.file.bytes x) shards_now → IsSome (found more x)
    now_named x any =
        let f = of_any (λ (s : ShardFile). OfBytes s.file.bytes x) shards_now any in
        one_of (λ s. OfBytes s.file.bytes x → IsSome (found more x)) shards_now f.0 (all_named x) f.1 f.2

    -- those that were registered are, and with this one
    pub registered_still : AllByRecursion (λ k. Any (λ s. s.hash ≡ k) shards_now) shards
    registered_still = all_with (λ k. Any (λ s. s.hash ≡ k) admitted.shards) (λ k. Any (λ s. s.hash ≡ k) shards_now) shards (λ k a any. still_registered k any) admitted.among

    pub admitted_with : (registered : List (List ℕ)) → AllByRecursion (λ k. Any (λ s. s.hash ≡ k) shards_now) registered → IsAdmitted new folder now more registered
    admitted_with registered among = record {
      shards = shards_now;
      admits = record {
        registers = record {
          there = All-from_recursion (IsThere new folder) shards_now all_there;
          valid = All-from_recursion (λ (s : ShardFile). is_expired now s.file.bytes ≡ false) shards_now all_valid;
          all = all_listed;
          order = in_order;
        };
        hold = all_hold;
      };
      among = among;
      named = now_named;
    }
