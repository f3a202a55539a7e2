-- What is read of the shard files of a folder.
use Rattle.std.proofs.Common.{◌≡◌, ◌≢◌, ℕ, zero, suc, ◌<◌, Bool, true, false, List, [], ◌∷◌, ◌++◌, length, get_or, take, ◌+◌, Option, Some, None, IsSome, Result, Ok, Err, inl, inr, refl, sym, ap, subst, ◌∙◌, arith}
use Rattle.std.proofs.lemmas.Cmp.{nat_list_cmp_total, tied_itself}
use Rattle.std.proofs.lemmas.List.{flat_map_more, take_more}
use Rattle.std.proofs.lemmas.List.Elements.{All-from_recursion, Contains-append_left, Contains-append_right, recursion_from_All}
use Rattle.std.proofs.lemmas.List.Kept.{AllPairs-cons}
use Rattle.std.proofs.lemmas.List.Sorted.{All-permutation, Contains-permutation}
use Rattle.std.specs.Cmp.Lexicographic.{slice_cmp}
use Rattle.std.specs.List.{All, AllByRecursion, AllPairs, Any, Contains, flat_map}
use Rattle.std.specs.List.Sorted.{IsPermutation, IsSorted}
use Rattle.std.specs.Ordering.{is_lt, nat_cmp}
use Rattle.std.specs.Prelude.{IsOk}
use Rattle.xet_codec.specs.Parsing.{◌>>=◌}
use Rattle.xet_hash.specs.declared.error.StoreError.{StoreError}
use Rattle.xet_hash.specs.declared.error.StoreError.TheVariants as error
use Rattle.xet_io.specs.Disk.{File, Files, file_at, stat_of}
use Rattle.xet_shard.specs.Sections.{info_at}
use Rattle.xet_shard.specs.declared.info.MDBShardInfo.{MDBShardInfo}
use Rattle.xet_shard_directory.specs.Answers.{in_file}
use Rattle.xet_shard_directory.specs.Directories.{ReadsFolder}
use Rattle.xet_shard_directory.specs.Values.{loaded, shard_value}
use Rattle.xet_shard_directory.specs.declared.shard_file.MDBShardFile.{MDBShardFile}
use Rattle.xet_shard_directory.specs.internal.Folders.{IsListedRead, IsUnread, IsUnreadIn, listed, listed_shard, path_order, shard_in}
use Rattle.xet_shard_directory.proofs.Ages.{Differ, by_path, differ_moved}
use Rattle.xet_shard_file.specs.declared.listing.ShardEntry.{ShardEntry}
use Rattle.xet_shard_file.specs.Entries.{IsBefore, IsEntry, ListsShards}
use Rattle.xet_shard_file.specs.Names.{IsHash, shard_path}
use Rattle.xet_shard_file.specs.theorems.Paths.{shards_apart}
use Rattle.xet_shard_format.specs.Names.{shard_name}

-- ---- one file

value_in : (read : Result MDBShardInfo StoreError) (h p : List ℕ) (m : ℕ) (s : MDBShardFile) → (read >>= λ shard. Ok (shard_value h p shard m)) ≡ Ok s → (s.shard_hash ≡ h) × (s.path ≡ p)
value_in (Ok shard) h p m s e =
    let same : shard_value h p shard m ≡ s = cc e in (sym (ap (λ (x : MDBShardFile). x.shard_hash) same), sym (ap (λ (x : MDBShardFile). x.path) same))
value_in (Err d) h p m s e = absurd (cc e)

pub loaded_in : (found : Option File) (h p : List ℕ) (s : MDBShardFile) → in_file found (λ f. info_at f.bytes >>= λ shard. Ok (shard_value h p shard f.modified)) ≡ Ok s
    → IsSome found × (s.shard_hash ≡ h) × (s.path ≡ p)
loaded_in None h p s e = absurd (cc e)
loaded_in (Some f) h p s e = let value = value_in (info_at f.bytes) h p f.modified s e in (refl, value.0, value.1)

-- ---- a list of entries

modified_in : (stat : Option (ℕ × ℕ)) (l m k n : ℕ) → stat ≡ Some (l, m) → stat ≡ Some (k, n) → m ≡ n
modified_in stat l m k n a b = let pair : ◌≡◌ {A = ℕ × ℕ} (l, m) (k, n) = cc (sym a ∙ b) in ap (λ (p : ℕ × ℕ). p.1) pair

module _ (files : Files) (folder : List ℕ) where
  abbrev shards : List ShardEntry → List MDBShardFile
  shards es = flat_map (listed_shard files folder) es

  abbrev IsReadOf : MDBShardFile → Type 0
  IsReadOf s = IsHash s.shard_hash × (s.path ≡ shard_path folder s.shard_hash) × (loaded files s.shard_hash s.path ≡ Ok s)

  -- what holds of the shard of each entry holds of each shard
  each_shard : (P : ShardEntry → Type 0) (Q : MDBShardFile → Type 0) → ((e : ShardEntry) (s : MDBShardFile) → P e → listed files folder e ≡ Ok s → Q s)
      → (es : List ShardEntry) → AllByRecursion P es → AllByRecursion Q (shards es)
  each_shard P Q step [] all = tt
  each_shard P Q step (e ∷ es) all = here (listed files folder e) refl (each_shard P Q step es all.1)
    where
      here : (read : Result MDBShardFile StoreError) → listed files folder e ≡ read → AllByRecursion Q (shards es) → AllByRecursion Q (shard_in read ++ shards es)
      here (Ok s) is rest = (step e s all.0 is, rest)
      here (Err d) is rest = rest

  read_of : (e : ShardEntry) (s : MDBShardFile) → IsHash e.hash → listed files folder e ≡ Ok s → IsReadOf s
  read_of e s is_hash is =
      let value = loaded_in (file_at files (shard_path folder e.hash)) e.hash (shard_path folder e.hash) s is in
      let hash = value.1 in
      let path = value.2 in
      (subst IsHash (sym hash) is_hash, path ∙ ap (shard_path folder) (sym hash), ap (λ (h : List ℕ). loaded files h s.path) hash ∙ ap (loaded files e.hash) path ∙ is)

  -- a shard that is not that of a hash
  abbrev IsOther : List ℕ → MDBShardFile → Type 0
  IsOther h s = IsHash s.shard_hash × (s.path ≡ shard_path folder s.shard_hash) × (h ≢ s.shard_hash)

  entry_differs : (a b : ShardEntry) → IsEntry files folder a → IsEntry files folder b → IsBefore a b → a.hash ≢ b.hash
  entry_differs a b there_a there_b (inl later) same =
      let times = modified_in (stat_of (file_at files (shard_path folder a.hash))) a.length a.modified b.length b.modified there_a.there (ap (λ (h : List ℕ). stat_of (file_at files (shard_path folder h))) same ∙ there_b.there) in
      absurd (omega (arith, times))
  entry_differs a b there_a there_b (inr (times, before)) same =
      let tie : is_lt (slice_cmp nat_cmp (shard_name a.hash) (shard_name b.hash)) ≡ false =
      ap (λ (h : List ℕ). is_lt (slice_cmp nat_cmp (shard_name a.hash) (shard_name h))) (sym same) ∙ ap is_lt (tied_itself nat_list_cmp_total (shard_name a.hash)) in
      let bad : true ≡ false = sym before ∙ tie in absurd (cc bad)

  shards_differ : (es : List ShardEntry) → All (IsEntry files folder) es → AllPairs IsBefore es → AllPairs Differ (shards es)
  shards_differ [] there order = λ i j d lt below. absurd (omega arith)
  shards_differ (e ∷ es) there order =
      let first : IsEntry files folder e = there 0 e (omega arith) in
      here (listed files folder e) refl first (shards_differ es (λ k d below. there (suc k) d (omega arith)) (λ i j d lt below. order (suc i) (suc j) d (omega arith) (omega arith)))
    where
      others : AllByRecursion (λ (b : ShardEntry). IsHash b.hash × (e.hash ≢ b.hash)) es
      others = recursion_from_All (λ (b : ShardEntry). IsHash b.hash × (e.hash ≢ b.hash)) es (λ k d below.
          let b = there (suc k) d (omega arith) in (b.named, entry_differs e (get_or es k d) (there 0 e (omega arith)) b (order 0 (suc k) d (omega arith) (omega arith))))

      other : AllByRecursion (IsOther e.hash) (shards es)
      other = each_shard (λ b. IsHash b.hash × (e.hash ≢ b.hash)) (IsOther e.hash) (λ b s is read.
          let r = read_of b s is.0 read in
          let value = loaded_in (file_at files (shard_path folder b.hash)) b.hash (shard_path folder b.hash) s read in
          (r.0, r.1, λ same. is.1 (same ∙ value.1))) es others

      here : (read : Result MDBShardFile StoreError) → listed files folder e ≡ read → IsEntry files folder e → AllPairs Differ (shards es) → AllPairs Differ (shard_in read ++ shards es)
      here (Ok s) is first rest =
          let value = loaded_in (file_at files (shard_path folder e.hash)) e.hash (shard_path folder e.hash) s is in
          AllPairs-cons Differ s (shards es) (λ k d below same.
          let b = All-from_recursion (IsOther e.hash) (shards es) other k d below in
          shards_apart folder e.hash (get_or (shards es) k d).shard_hash first.named b.0 b.2 (sym value.2 ∙ same ∙ b.1)) rest
      here (Err d) is first rest = rest

  shard_among : (es : List ShardEntry) (k : ℕ) (e : ShardEntry) (s : MDBShardFile) → k < length es → get_or es k e ≡ e → listed files folder e ≡ Ok s → Contains (shards es) s
  shard_among [] k e s below at is = absurd (omega arith)
  shard_among (x ∷ es) zero e s below at is =
      let one : listed_shard files folder x ≡ s ∷ [] = ap (listed_shard files folder) at ∙ ap shard_in is in
      Contains-append_left (listed_shard files folder x) (shards es) s (subst (λ (l : List MDBShardFile). Contains l s) (sym one) (0, omega arith, refl))
  shard_among (x ∷ es) (suc k) e s below at is =
      Contains-append_right (listed_shard files folder x) (shards es) s (shard_among es k e s (omega arith) at is)

  -- all listed files were loaded, said of equal files and entries
  pub all_listed : (here : Files) (es shown : List ShardEntry) (before items : List MDBShardFile) → here ≡ files → shown ≡ es → before ≡ [] → items ≡ before ++ flat_map (listed_shard here folder) shown
      → items ≡ shards es
  all_listed here es shown before items same is empty adds =
      adds ∙ ap (λ (xs : List MDBShardFile). xs ++ flat_map (listed_shard here folder) shown) empty ∙ ap (λ (fs : Files). flat_map (listed_shard fs folder) shown) same ∙ ap shards is

  -- one more listed file was loaded
  pub listed_more : (es : List ShardEntry) (i : ℕ) (e : ShardEntry) (before items more found : List MDBShardFile) → i < length es → e ≡ get_or es i e → items ≡ before ++ shards (take i es)
      → more ≡ items ++ found → found ≡ listed_shard files folder e → more ≡ before ++ shards (take (i + 1) es)
  listed_more es i e before items more found below at so_far adds is =
      adds ∙ ap (λ (xs : List MDBShardFile). xs ++ found) so_far ∙ ap (λ (xs : List MDBShardFile). (before ++ shards (take i es)) ++ xs) is ∙ flat_map_more (listed_shard files folder) before (take i es) e
      ∙ ap (λ (xs : List ShardEntry). before ++ shards xs) (ap (λ (x : ShardEntry). take i es ++ x ∷ []) at ∙ sym (take_more es i e below))

  -- ---- the folder

  module _ (entries : List ShardEntry) (lists : ListsShards files folder entries) where
    hashes : AllByRecursion (λ (e : ShardEntry). IsHash e.hash) entries
    hashes = recursion_from_All (λ (e : ShardEntry). IsHash e.hash) entries (λ k d below. (lists.there k d below).named)

    differ : AllPairs Differ (shards entries)
    differ = shards_differ entries lists.there lists.order

    pub folder_read : (sorted : List MDBShardFile) → IsPermutation (shards entries) sorted → IsSorted path_order sorted → ReadsFolder files folder sorted
    folder_read sorted moved up = record {
      each = All-permutation IsReadOf (shards entries) sorted moved (All-from_recursion IsReadOf (shards entries) (each_shard (λ e. IsHash e.hash) IsReadOf read_of entries hashes));
      all = λ h s is_hash is.
          let value = loaded_in (file_at files (shard_path folder h)) h (shard_path folder h) s is in
          let (k, e, below, at, same) = lists.all h is_hash value.0 in
          let read : listed files folder e ≡ Ok s = ap (λ (g : List ℕ). loaded files g (shard_path folder g)) same ∙ is in
          let (i, inside, here) = Contains-permutation (shards entries) sorted s moved (shard_among entries k e s below at read) in
          (i, (inside, sym here));
      order = by_path sorted (differ_moved (shards entries) sorted moved differ) up;
    }

    pub folder_all : All (IsListedRead files folder) entries → (h : List ℕ) → IsHash h → IsSome (file_at files (shard_path folder h)) → IsOk (loaded files h (shard_path folder h))
    folder_all reads h is_hash there =
        let (k, e, below, at, same) = lists.all h is_hash there in
        subst (λ (g : List ℕ). IsSome (file_at files (shard_path folder g)) → IsOk (loaded files g (shard_path folder g))) same (subst (IsListedRead files folder) at (reads k e below)) there

    entry_hash : (k : ℕ) (e : ShardEntry) → k < length entries → get_or entries k e ≡ e → IsHash e.hash
    entry_hash k e below at = subst (λ (x : ShardEntry). IsHash x.hash) at (lists.there k e below).named

    pub folder_unread : (skip : Bool) (e : StoreError) → Any (λ entry. IsUnread skip (listed files folder entry) e) entries → (e ≡ error.FileNotFound → ⊥) → IsUnreadIn files folder skip e
    folder_unread skip error.FileNotFound any present = present refl
    folder_unread skip error.UnexpectedEof (k, e, below, at, (skips, is)) present = (skips, (e.hash, entry_hash k e below at, is))
    folder_unread skip (error.MalformedData reason) (k, e, below, at, (skips, is)) present = (skips, (e.hash, entry_hash k e below at, is))
    folder_unread skip d any present = tt
