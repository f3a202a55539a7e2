-- The shards that are offered: what is loaded, in the order in which it is merged.
use Rattle.std.proofs.Common.{◌≡◌, ◌≢◌, ◌∙◌, ℕ, ◌<◌, Bool, true, false, cond, codes, IsTrue, List, [], ◌∷◌, ◌++◌, filter, get_or, map, None, Option, Some, option_map, Result, Ok, Err, inl, inr, refl, sym, ap, subst, append_assoc, arith}
use Rattle.std.proofs.lemmas.Cmp.{by_ranked, nat_cmp_total, nat_list_cmp_total, on_total, ranked, then_total, tied_itself}
use Rattle.std.proofs.lemmas.List.{same_from_push}
use Rattle.std.proofs.lemmas.List.Elements.{All-map}
use Rattle.std.proofs.lemmas.List.Sorted.{All-permutation}
use Rattle.std.specs.Cmp.{IsTotalOrder}
use Rattle.std.specs.Cmp.Lexicographic.{slice_cmp}
use Rattle.std.specs.FinMap.{nat_cmp-IsAntisymmetric, slice_cmp-IsAntisymmetric}
use Rattle.std.specs.List.{All, AllPairs}
use Rattle.std.specs.List.Sorted.{IsPermutation, IsSorted}
use Rattle.std.specs.Ordering.{is_lt, nat_cmp, ordering_then}
use Rattle.std.specs.declared.cmp.Ordering.{Ordering}
use Rattle.std.specs.declared.cmp.Ordering.TheVariants.{Less, Equal, Greater}
use Rattle.xet_codec.specs.Parsing.{◌>>=◌}
use Rattle.xet_hash.specs.Hash.{hash_text}
use Rattle.xet_hash.specs.declared.error.StoreError.{StoreError}
use Rattle.xet_io.specs.Disk.{File, Files, bytes_at, file_at}
use Rattle.xet_io.specs.Named.{is_plain}
use Rattle.xet_shard.specs.Sections.{info_at}
use Rattle.xet_shard.specs.declared.info.MDBShardInfo.{MDBShardInfo}
use Rattle.xet_shard_directory.specs.Answers.{in_file}
use Rattle.xet_shard_directory.specs.Directories.{IsBeforeByPath, IsReadAt, IsShardAt, ReadsPath, is_valid}
use Rattle.xet_shard_directory.specs.Values.{last_part, shard_value}
use Rattle.xet_shard_directory.specs.declared.shard_file.MDBShardFile.{MDBShardFile}
use Rattle.xet_shard_file.specs.Names.{temp_name}
use Rattle.xet_shard_file.specs.theorems.Paths.{shard_no_temp}
use Rattle.xet_shard_format.specs.Names.{shard_name}
use Rattle.xet_shard_merge.specs.Merging.{IsEarlier, IsNoTemp, IsOfFile, Offers}
use Rattle.xet_shard_merge.specs.internal.Keeping.{IsIntact}
use Rattle.xet_shard_merge.specs.internal.Order.{merge_order}
use Rattle.xet_shard_merge.specs.internal.Progressing.{offered_in, offered_of}
use Rattle.xet_shard_directory.specs.theorems.Apart.{apart_moved, strictly_sorted}

-- ---- names

suffix : (path : List ℕ) → (prefix : List ℕ) × (path ≡ prefix ++ last_part path)
unfolding last_part
suffix [] = ([], refl)
suffix (b ∷ bs) = by (is_plain (b ∷ bs)) (suffix bs)
  where
    by : (t : Bool) → (prefix : List ℕ) × (bs ≡ prefix ++ last_part bs) → (prefix : List ℕ) × (b ∷ bs ≡ prefix ++ cond t (b ∷ bs) (last_part bs))
    by true rest = ([], refl)
    by false rest = (b ∷ rest.0, ap (λ (l : List ℕ). b ∷ l) rest.1)

named_no_temp : (path h name : List ℕ) → last_part path ≡ shard_name h → path ≢ temp_name name
named_no_temp path h name named e =
    let s = suffix path in
    let front : List ℕ = s.0 ++ (hash_text h ++ codes ".md") in
    let whole : front ++ 98 ∷ [] ≡ path =
    append_assoc s.0 (hash_text h ++ codes ".md") (98 ∷ []) ∙ ap (λ (l : List ℕ). s.0 ++ l) (append_assoc (hash_text h) (codes ".md") (98 ∷ []))
    ∙ ap (λ (l : List ℕ). s.0 ++ l) (sym named) ∙ sym s.1 in
    let last = same_from_push front (name ++ codes "_tem") 98 112 (whole ∙ e ∙ sym (append_assoc name (codes "_tem") (112 ∷ []))) in
    let bad : ◌≡◌ {A = ℕ} 98 112 = last.1 in absurd (omega arith)

pub no_temp : (path h p : List ℕ) → IsShardAt path h p → IsNoTemp p
no_temp path h p (is, inl (named, at)) name e = named_no_temp path h name named (sym at ∙ e)
no_temp path h p (is, inr (other, at)) name e = shard_no_temp path h name (sym at ∙ e)

-- ---- what was loaded

info_in : (read : Result MDBShardInfo StoreError) (h p : List ℕ) (m : ℕ) (s : MDBShardFile) → (read >>= λ shard. Ok (shard_value h p shard m)) ≡ Ok s → read ≡ Ok s.shard
info_in (Ok shard) h p m s e =
    let same : shard_value h p shard m ≡ s = cc e in ap (λ (x : MDBShardFile). Ok x.shard) same
info_in (Err d) h p m s e = absurd (cc e)

pub there_in : (found : Option File) (h p : List ℕ) (s : MDBShardFile) → in_file found (λ f. info_at f.bytes >>= λ shard. Ok (shard_value h p shard f.modified)) ≡ Ok s
    → (bytes : List ℕ) × (option_map (λ f. f.bytes) found ≡ Some bytes) × (info_at bytes ≡ Ok s.shard)
there_in None h p s e = absurd (cc e)
there_in (Some f) h p s e = (f.bytes, refl, info_in (info_at f.bytes) h p f.modified s e)

pub intact_of : (files : Files) (path : List ℕ) (s : MDBShardFile) → IsReadAt files path s → IsIntact files s
intact_of files path s (at, is) =
    let there = there_in (file_at files s.path) s.shard_hash s.path s is in record { bytes = there.0; there = there.1; value = there.2; name = no_temp path s.shard_hash s.path at }

-- ---- order

abbrev Differ : MDBShardFile → MDBShardFile → Type 0
Differ a b = a.path ≢ b.path

pub merge_total : IsTotalOrder merge_order
merge_total = then_total (on_total (λ (s : MDBShardFile). s.last_modified_time) nat_cmp_total) (on_total (λ (s : MDBShardFile). s.path) nat_list_cmp_total)

not_before_itself : (a b : List ℕ) → a ≡ b → is_lt (slice_cmp nat_cmp a b) ≡ false
not_before_itself a b same = ap (λ (x : List ℕ). is_lt (slice_cmp nat_cmp a x)) (sym same) ∙ ap is_lt (tied_itself nat_list_cmp_total a)

before_differ : (a b : MDBShardFile) → IsBeforeByPath a b → Differ a b
before_differ a b before same = let bad : ◌≡◌ {A = Bool} true false = sym before ∙ not_before_itself a.path b.path same in absurd (cc bad)

then_tied : (o p : Ordering) → ordering_then o p ≡ Equal → p ≡ Equal
then_tied Less p e = absurd (cc e)
then_tied Equal p e = e
then_tied Greater p e = absurd (cc e)

untied : (a b : MDBShardFile) → Differ a b → merge_order a b ≢ Equal
untied a b differ tie =
    differ (slice_cmp-IsAntisymmetric nat_cmp-IsAntisymmetric a.path b.path (then_tied (nat_cmp a.last_modified_time b.last_modified_time) (slice_cmp nat_cmp a.path b.path) tie))

earlier_of : (a b : MDBShardFile) → IsTrue (is_lt (merge_order a b)) → IsEarlier a b
earlier_of a b less =
    let m = a.last_modified_time in
    let n = b.last_modified_time in
    by_ranked (m < n) (m ≡ n) (n < m) (nat_cmp m n) (ranked m n _ refl)
    (λ _ lt. inl lt)
    (λ e same. inr (same, subst (λ (o : Ordering). IsTrue (is_lt (ordering_then o (slice_cmp nat_cmp a.path b.path)))) e less))
    (λ e gt. let bad : IsTrue (is_lt Greater) = subst (λ (o : Ordering). IsTrue (is_lt (ordering_then o (slice_cmp nat_cmp a.path b.path)))) e less in absurd (cc bad))

in_order : (items sorted : List MDBShardFile) → AllPairs IsBeforeByPath items → IsPermutation items sorted → IsSorted merge_order sorted → AllPairs IsEarlier sorted
in_order items sorted up moved order =
    let apart : AllPairs Differ items = λ i j d lt below. before_differ (get_or items i d) (get_or items j d) (up i j d lt below) in
    let still : AllPairs Differ sorted = apart_moved Differ (λ a b differ same. differ (sym same)) items sorted moved apart in
    λ i j d lt below.
    earlier_of (get_or sorted i d) (get_or sorted j d)
    (strictly_sorted merge_order merge_total sorted order (λ k l e less inside. untied (get_or sorted k e) (get_or sorted l e) (still k l e less inside)) i j d lt below)

-- ---- offers

file_offered : (s : MDBShardFile) (found : Option (List ℕ)) → (offered_in s found).file ≡ s
file_offered s None = refl
file_offered s (Some bytes) = refl

files_offered : (files : Files) (shards : List MDBShardFile) → map (λ o. o.file) (map (offered_of files) shards) ≡ shards
files_offered files [] = refl
files_offered files (s ∷ shards) = λ j. file_offered s (bytes_at files s.path) j ∷ files_offered files shards j

of_file : (files : Files) (s : MDBShardFile) → IsIntact files s → IsOfFile files (offered_of files s)
of_file files s is =
    let there : IsOfFile files (offered_in s (Some is.bytes)) = record { bytes = is.bytes; there = is.there; length_is = refl; records_are = refl } in
    subst (λ (found : Option (List ℕ)). IsOfFile files (offered_in s found)) (sym is.there) there

module _ (files : Files) (path : List ℕ) (now : ℕ) (read items sorted : List MDBShardFile) (reads : ReadsPath files path read) (valid : items ≡ filter (is_valid now) read)
    (each : All (IsReadAt files path) items) (up : AllPairs IsBeforeByPath items) (moved : IsPermutation items sorted) (order : IsSorted merge_order sorted) where
  pub all_intact : All (IsIntact files) sorted
  all_intact = All-permutation (IsIntact files) items sorted moved (λ i d lt. intact_of files path (get_or items i d) (each i d lt))

  pub offers : Offers files path now (map (offered_of files) sorted)
  offers = record {
    read = read;
    reads = reads;
    valid = subst (IsPermutation (filter (is_valid now) read)) (sym (files_offered files sorted)) (subst (λ (xs : List MDBShardFile). IsPermutation xs sorted) valid moved);
    order = subst (AllPairs IsEarlier) (sym (files_offered files sorted)) (in_order items sorted up moved order);
    whole = All-map (IsOfFile files) (offered_of files) sorted (λ i d lt. of_file files (get_or sorted i d) (all_intact i d lt));
  }
