-- Shard files by path, and by age.
use Rattle.std.proofs.Common.{◌≡◌, ◌≢◌, ℕ, ◌<◌, false, true, IsTrue, List, get_or, inl, inr, refl, sym, ap, subst, ◌∙◌}
use Rattle.std.proofs.lemmas.Cmp.{by_ranked, nat_list_cmp_total, on_total, ranked, then_total, nat_cmp_total, tied_itself}
use Rattle.std.specs.Cmp.{IsTotalOrder}
use Rattle.std.specs.Cmp.Lexicographic.{slice_cmp}
use Rattle.std.specs.FinMap.{nat_cmp-IsAntisymmetric, slice_cmp-IsAntisymmetric}
use Rattle.std.specs.List.{AllPairs}
use Rattle.std.specs.List.Sorted.{IsPermutation, IsSorted}
use Rattle.std.specs.Ordering.{is_lt, nat_cmp, ordering_then}
use Rattle.std.specs.declared.cmp.Ordering.{Ordering}
use Rattle.std.specs.declared.cmp.Ordering.TheVariants.{Less, Equal, Greater}
use Rattle.xet_shard_directory.specs.Directories.{IsBeforeByPath, IsOlder}
use Rattle.xet_shard_directory.specs.declared.shard_file.MDBShardFile.{MDBShardFile}
use Rattle.xet_shard_directory.specs.internal.Folders.{age_order, path_order}
use Rattle.xet_shard_directory.specs.theorems.Apart.{apart_moved, strictly_sorted}

-- two shard files have different paths
abbrev pub Differ : MDBShardFile → MDBShardFile → Type 0
Differ a b = a.path ≢ b.path

pub differ_back : (a b : MDBShardFile) → Differ a b → Differ b a
differ_back a b differ same = differ (sym same)

pub path_total : IsTotalOrder path_order
path_total = on_total (λ (s : MDBShardFile). s.path) nat_list_cmp_total

pub age_total : IsTotalOrder age_order
age_total = then_total (on_total (λ (s : MDBShardFile). s.shard.metadata.shard_creation_timestamp) nat_cmp_total) path_total

untied : (a b : List ℕ) → a ≢ b → slice_cmp nat_cmp a b ≢ Equal
untied a b differ tie = differ (slice_cmp-IsAntisymmetric nat_cmp-IsAntisymmetric a b tie)

not_before_itself : (a b : List ℕ) → a ≡ b → is_lt (slice_cmp nat_cmp a b) ≡ false
not_before_itself a b same = ap (λ (x : List ℕ). is_lt (slice_cmp nat_cmp a x)) (sym same) ∙ ap is_lt (tied_itself nat_list_cmp_total a)

pub before_differ : (a b : MDBShardFile) → IsBeforeByPath a b → Differ a b
before_differ a b before same = let bad : ◌≡◌ {A = _} true false = sym before ∙ not_before_itself a.path b.path same in absurd (cc bad)

-- sorted by path
pub by_path : (xs : List MDBShardFile) → AllPairs Differ xs → IsSorted path_order xs → AllPairs IsBeforeByPath xs
by_path xs apart up = strictly_sorted path_order path_total xs up (λ i j d lt below. untied (get_or xs i d).path (get_or xs j d).path (apart i j d lt below))

then_tied : (o p : Ordering) → ordering_then o p ≡ Equal → p ≡ Equal
then_tied Less p e = absurd (cc e)
then_tied Equal p e = e
then_tied Greater p e = absurd (cc e)

age_untied : (a b : MDBShardFile) → Differ a b → age_order a b ≢ Equal
age_untied a b differ tie =
    untied a.path b.path differ (then_tied (nat_cmp a.shard.metadata.shard_creation_timestamp b.shard.metadata.shard_creation_timestamp) (slice_cmp nat_cmp a.path b.path) tie)

older_of : (a b : MDBShardFile) → IsTrue (is_lt (age_order a b)) → IsOlder a b
older_of a b less =
    let m = a.shard.metadata.shard_creation_timestamp in
    let n = b.shard.metadata.shard_creation_timestamp in
    by_ranked (m < n) (m ≡ n) (n < m) (nat_cmp m n) (ranked m n _ refl)
    (λ _ lt. inl lt)
    (λ e same. inr (same, subst (λ (o : Ordering). IsTrue (is_lt (ordering_then o (slice_cmp nat_cmp a.path b.path)))) e less))
    (λ e gt. let bad : IsTrue (is_lt Greater) = subst (λ (o : Ordering). IsTrue (is_lt (ordering_then o (slice_cmp nat_cmp a.path b.path)))) e less in absurd (cc bad))

-- sorted by age
pub by_age : (xs : List MDBShardFile) → AllPairs Differ xs → IsSorted age_order xs → AllPairs IsOlder xs
by_age xs apart up i j d lt below =
    older_of (get_or xs i d) (get_or xs j d) (strictly_sorted age_order age_total xs up (λ k l e less inside. age_untied (get_or xs k e) (get_or xs l e) (apart k l e less inside)) i j d lt below)

-- the paths differ, in any order
pub differ_moved : (xs ys : List MDBShardFile) → IsPermutation xs ys → AllPairs Differ xs → AllPairs Differ ys
differ_moved = apart_moved Differ differ_back

pub differ_sorted : (xs : List MDBShardFile) → AllPairs IsBeforeByPath xs → AllPairs Differ xs
differ_sorted xs up i j d lt below = before_differ (get_or xs i d) (get_or xs j d) (up i j d lt below)
