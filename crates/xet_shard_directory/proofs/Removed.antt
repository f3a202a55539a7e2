-- Files that are removed one after the other.
use Rattle.std.proofs.Common.{◌≡◌, ℕ, ◌+◌, ◌<◌, ◌≤◌, List, [], ◌∷◌, ◌++◌, length, get_or, take, refl, sym, ap, ◌∙◌, inl, inr, ◌⊎◌}
use Rattle.std.proofs.lemmas.List.{map-append, take-map, take_all, take_more}
use Rattle.xet_io.specs.Disk.{Files, removed}
use Rattle.xet_shard_directory.specs.Directories.{all_removed, paths}
use Rattle.xet_shard_directory.specs.declared.shard_file.MDBShardFile.{MDBShardFile}

pub removed_none : (files : Files) → all_removed files [] ≡ files
unfolding all_removed
removed_none files = refl

removed_last : (files : Files) (ns : List (List ℕ)) (n : List ℕ) → all_removed files (ns ++ n ∷ []) ≡ removed (all_removed files ns) n
unfolding all_removed
removed_last files [] n = refl
removed_last files (m ∷ ns) n = removed_last (removed files m) ns n

module _ (files : Files) (shards : List MDBShardFile) where
  abbrev after : ℕ → Files
  after n = all_removed files (paths (take n shards))

  after_taken : (n : ℕ) → after n ≡ all_removed files (take n (paths shards))
  after_taken n = ap (all_removed files) (sym (take-map (λ (s : MDBShardFile). s.path) n shards))

  after_more : (i : ℕ) (s : MDBShardFile) → i < length shards → s ≡ get_or shards i s → after (i + 1) ≡ removed (after i) s.path
  after_more i s below is =
      ap (λ (l : List MDBShardFile). all_removed files (paths l)) (take_more shards i s below ∙ ap (λ (x : MDBShardFile). take i shards ++ x ∷ []) (sym is))
      ∙ ap (all_removed files) (map-append (λ (x : MDBShardFile). x.path) (take i shards) (s ∷ [])) ∙ removed_last files (paths (take i shards)) s.path

  -- one more file was removed
  pub removed_more : (i : ℕ) (s : MDBShardFile) (here new : Files) → i < length shards → s ≡ get_or shards i s → here ≡ after i → new ≡ removed here s.path → new ≡ after (i + 1)
  removed_more i s here new below is at done = done ∙ ap (λ (fs : Files). removed fs s.path) at ∙ sym (after_more i s below is)

  -- one more was removed, or it was not
  pub removed_some : (i : ℕ) (s : MDBShardFile) (here new : Files) → i < length shards → s ≡ get_or shards i s → here ≡ after i → (new ≡ here) ⊎ (new ≡ removed here s.path)
      → (n : ℕ) × (new ≡ all_removed files (take n (paths shards)))
  removed_some i s here new below is at (inl same) = (i, same ∙ at ∙ after_taken i)
  removed_some i s here new below is at (inr done) = (i + 1, removed_more i s here new below is at done ∙ after_taken (i + 1))

  pub removed_all : (i : ℕ) (here : Files) → length shards ≤ i → here ≡ after i → here ≡ all_removed files (paths shards)
  removed_all i here end at = at ∙ ap (λ (l : List MDBShardFile). all_removed files (paths l)) (take_all i shards end)
