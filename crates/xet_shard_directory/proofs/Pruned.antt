-- Which shard files are pruned.
use Rattle.std.proofs.Common.{◌≡◌, ◌≢◌, ℕ, suc, ◌+◌, ◌<◌, ◌≤◌, List, [], ◌∷◌, ◌++◌, length, get_or, take, drop, sym, ap, subst, ◌∙◌, arith, append_assoc, length-append, take-append-drop}
use Rattle.std.proofs.Math.Seq.{drop-append_seam}
use Rattle.std.proofs.lemmas.List.{get_or_default, get_or-drop, get_or-take, length-drop, length-take-le}
use Rattle.std.proofs.lemmas.List.Sorted.{All-permutation, IsPermutation-append_right, IsPermutation-trans, sum_by-IsPermutation}
use Rattle.std.proofs.lemmas.List.Sums.{sum_by-cons}
use Rattle.std.specs.List.{All, AllPairs}
use Rattle.std.specs.List.Sorted.{IsPermutation, IsSorted}
use Rattle.xet_shard_directory.specs.Directories.{IsBeforeByPath, IsOlder, Prunes, total_length}
use Rattle.xet_shard_directory.specs.Values.{stated_length}
use Rattle.xet_shard_directory.specs.declared.shard_file.MDBShardFile.{MDBShardFile}
use Rattle.xet_shard_directory.specs.internal.Folders.{age_order, path_order}
use Rattle.xet_shard_directory.proofs.Ages.{Differ, by_age, by_path, differ_moved, differ_sorted}

total_more : (s : MDBShardFile) (xs : List MDBShardFile) → total_length (s ∷ xs) ≡ stated_length s.shard + total_length xs
total_more s xs = sum_by-cons (λ (t : MDBShardFile). stated_length t.shard) s xs

-- the last shard of those that are taken comes before those that are left
drop_last : (xs ps : List MDBShardFile) (p : MDBShardFile) (k : ℕ) → take k xs ≡ ps ++ p ∷ [] → drop (length ps) xs ≡ p ∷ drop k xs
drop_last xs ps p k is =
    ap (drop (length ps)) (sym (take-append-drop k xs) ∙ ap (λ (l : List MDBShardFile). l ++ drop k xs) is ∙ append_assoc ps (p ∷ []) (drop k xs)) ∙ drop-append_seam ps (p ∷ drop k xs)

drop_pairs : {X : Type 0} (R : X → X → Type 0) (k : ℕ) (xs : List X) → AllPairs R xs → AllPairs R (drop k xs)
drop_pairs {X} R k xs pairs i j d lt below =
    let inside : k + j < length xs = omega (arith, length-drop k xs) in
    subst (λ (b : X). R (get_or (drop k xs) i d) b) (sym (get_or-drop k xs j d))
    (subst (λ (a : X). R a (get_or xs (k + j) d)) (sym (get_or-drop k xs i d)) (pairs (k + i) (k + j) d (omega arith) inside))

module _ (limit : ℕ) (shards aged kept : List MDBShardFile) (k : ℕ) (up : AllPairs IsBeforeByPath shards) (moved : IsPermutation shards aged) (by : IsSorted age_order aged) (back : IsPermutation (drop k aged) kept)
    (sorted : IsSorted path_order kept) (bound : k ≤ length aged) (none : limit ≡ 0 → k ≡ 0) (within : limit ≢ 0 → total_length (drop k aged) ≤ limit)
    (needed : (j : ℕ) → k ≡ suc j → limit < total_length (drop j aged)) where
  apart : AllPairs Differ aged
  apart = differ_moved shards aged moved (differ_sorted shards up)

  older : AllPairs IsOlder aged
  older = by_age aged apart by

  taken : length (take k aged) ≡ k
  taken = length-take-le k aged bound

  older_kept : (i : ℕ) (d : MDBShardFile) → i < k → All (IsOlder (get_or aged i d)) kept
  older_kept i d below =
      All-permutation (IsOlder (get_or aged i d)) (drop k aged) kept back (λ j e inside.
      let far : k + j < length aged = omega (arith, length-drop k aged) in
      let same : get_or aged i d ≡ get_or aged i e = get_or_default aged i d e (omega arith) in
      subst (λ (b : MDBShardFile). IsOlder (get_or aged i d) b) (sym (get_or-drop k aged j e))
      (subst (λ (a : MDBShardFile). IsOlder a (get_or aged (k + j) e)) (sym same) (older i (k + j) e (omega arith) far)))

  same_total : total_length kept ≡ total_length (drop k aged)
  same_total = sum_by-IsPermutation (λ (s : MDBShardFile). stated_length s.shard) (drop k aged) kept back

  needed_last : (ps : List MDBShardFile) (p : MDBShardFile) → take k aged ≡ ps ++ p ∷ [] → limit < total_length (p ∷ kept)
  needed_last ps p is =
      let long : k ≡ suc (length ps) = omega (arith, taken, ap (length {A = MDBShardFile}) is, length-append ps (p ∷ [])) in
      let more = needed (length ps) long in
      let before = ap total_length (drop_last aged ps p k is) ∙ total_more p (drop k aged) in
      omega (arith, more, before, total_more p kept, same_total)

  pub prunes : Prunes limit shards kept (take k aged)
  prunes = record {
    parts = IsPermutation-trans shards aged (take k aged ++ kept) moved
        (subst (λ (l : List MDBShardFile). IsPermutation l (take k aged ++ kept)) (take-append-drop k aged) (IsPermutation-append_right (take k aged) (drop k aged) kept back));
    order = by_path kept (differ_moved (drop k aged) kept back (drop_pairs Differ k aged apart)) sorted;
    oldest = (
      (λ i j d lt below.
          let short : j < k = omega (arith, taken) in
          subst (λ (b : MDBShardFile). IsOlder (get_or (take k aged) i d) b) (sym (get_or-take k aged j d short))
          (subst (λ (a : MDBShardFile). IsOlder a (get_or aged j d)) (sym (get_or-take k aged i d (omega arith))) (older i j d lt (omega arith)))),
      (λ i d below.
          let short : i < k = omega (arith, taken) in
          subst (λ (a : MDBShardFile). All (IsOlder a) kept) (sym (get_or-take k aged i d short)) (older_kept i d short)),
    );
    none = λ is. ap (λ (n : ℕ). take n aged) (none is);
    within = λ some. let fits = within some in omega (arith, fits, same_total);
    needed = needed_last;
  }
