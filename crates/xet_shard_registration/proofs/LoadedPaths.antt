-- What is loaded of paths, and what loading of a folder removes.
use Rattle.std.proofs.Common.{◌≡◌, ◌∙◌, ◌⊎◌, ℕ, zero, suc, ◌+◌, ◌<◌, ◌≤◌, Bool, true, false, List, [], ◌∷◌, ◌++◌, drop, filter, get_or, length, take, Result, Ok, Err, inl, inr, refl, sym, ap, subst}
use Rattle.std.proofs.lemmas.List.{append-nil, drop_more, flat_map_more, take-append-drop, take_all, take_more}
use Rattle.std.specs.Prelude.{IfErr, OnOk}
use Rattle.xet_hash.specs.declared.error.Place.TheVariants.{Disk}
use Rattle.xet_hash.specs.declared.error.StoreError.{StoreError}
use Rattle.xet_hash.specs.declared.error.StoreError.TheVariants.{FileNotFound, Io, OutOfMemory}
use Rattle.xet_io.specs.Disk.{Files}
use Rattle.xet_shard_directory.specs.Answers.{IsFindError}
use Rattle.xet_shard_directory.specs.Directories.{IsUnloaded, KeptOrRemoved, Loads, Prunes, all_removed, is_deleted, is_loaded, paths}
use Rattle.xet_shard_directory.specs.declared.shard_file.MDBShardFile.{MDBShardFile}
use Rattle.xet_shard_registration.specs.Refreshing.{IsLoadingError, IsUnloadedAmong, IsUnloadedDirectory, LoadsEach, LoadsValid, RegistersDirectory, RegistersNewest, StopsAmong, StopsInDirectory, all_of}
use Rattle.xet_shard_registry.specs.Collections.{Tables}

-- an error of looking for files is one of loading
pub loading_error : (before after : ℕ) (e : StoreError) → IsFindError before after e → IsLoadingError e
loading_error before after FileNotFound h = tt
loading_error before after (Io Disk) h = tt
loading_error before after OutOfMemory h = tt
loading_error before after e h = h

-- ---- a list for each path

module _ (files : Files) (now : ℕ) where
  each_more : (ps : List (List ℕ)) (ls : List (List MDBShardFile)) (p : List ℕ) (l : List MDBShardFile) → LoadsEach files now ps ls → LoadsValid files now p l → LoadsEach files now (ps ++ p ∷ []) (ls ++ l ∷ [])
  unfolding LoadsEach
  each_more [] [] p l each valid = (valid, tt)
  each_more [] (m ∷ ls) p l each valid = absurd each
  each_more (q ∷ ps) [] p l each valid = absurd each
  each_more (q ∷ ps) (m ∷ ls) p l each valid = (each.0, each_more ps ls p l each.1 valid)

  -- the first paths are loaded, and their shards stand after those of `start`
  pub record IsLoaded (ps : List (List ℕ)) (start all : List MDBShardFile) : Type 0 where
    pub lists : List (List MDBShardFile)
    pub loads : LoadsEach files now ps lists
    pub items : all ≡ start ++ all_of lists

  pub loaded_none : (start : List MDBShardFile) → IsLoaded [] start start
  unfolding LoadsEach
  loaded_none start = record { lists = []; loads = tt; items = sym (append-nil start) }

  module _ (ps : List (List ℕ)) (start items : List MDBShardFile) (i : ℕ) where
    module _ (p : List ℕ) (below : i < length ps) (is : p ≡ get_or ps i p) (so_far : IsLoaded (take i ps) start items) where
      pub loaded_more : (found new : List MDBShardFile) → LoadsValid files now p found → new ≡ items ++ found → IsLoaded (take (i + 1) ps) start new
      loaded_more found new valid adds = record {
        lists = so_far.lists ++ found ∷ [];
        loads = subst (λ (qs : List (List ℕ)). LoadsEach files now qs (so_far.lists ++ found ∷ [])) (ap (λ (q : List ℕ). take i ps ++ q ∷ []) is ∙ sym (take_more ps i p below))
            (each_more (take i ps) so_far.lists p found so_far.loads valid);
        items = adds ∙ ap (λ (l : List MDBShardFile). l ++ found) so_far.items ∙ flat_map_more (λ (l : List MDBShardFile). l) start so_far.lists found;
      }

      pub unloaded_at : (e : StoreError) → IsUnloaded files p true e → IsLoadingError e → IsUnloadedAmong files now ps e
      unloaded_at e refused kind = record {
        before = take i ps;
        path = p;
        after = drop (i + 1) ps;
        parts = sym (take-append-drop i ps) ∙ ap (λ (l : List (List ℕ)). take i ps ++ l) (drop_more ps i p below ∙ ap (λ (q : List ℕ). q ∷ drop (i + 1) ps) (sym is));
        lists = so_far.lists;
        loads = so_far.loads;
        refused = refused;
        kind = kind;
      }

    pub loaded_end : length ps ≤ i → IsLoaded (take i ps) start items → IsLoaded ps start items
    loaded_end end so_far = subst (λ (qs : List (List ℕ)). IsLoaded qs start items) (take_all i ps end) so_far

-- ---- removal

removes_none : (files : Files) (n : ℕ) → all_removed files (take n []) ≡ files
unfolding all_removed
removes_none files zero = refl
removes_none files (suc n) = refl

removes_nothing : (files : Files) → all_removed files [] ≡ files
unfolding all_removed
removes_nothing files = refl

none_deleted : (prune : Bool) (buffer now : ℕ) (read : List MDBShardFile) → prune ≡ false → filter (is_deleted prune false buffer now) read ≡ []
none_deleted true buffer now read off = absurd (cc off)
none_deleted false buffer now [] off = refl
none_deleted false buffer now (s ∷ ss) off = none_deleted false buffer now ss off

module _ (old new : Files) (path : List ℕ) (prune : Bool) (prune_to buffer now : ℕ) (off : prune ≡ false) (unlimited : prune_to ≡ 0) where
  no_paths : (read shards pruned : List MDBShardFile) → Prunes prune_to (filter (is_loaded false now) read) shards pruned → paths (filter (is_deleted prune false buffer now) read ++ pruned) ≡ []
  no_paths read shards pruned prunes = λ i. paths (none_deleted prune buffer now read off i ++ prunes.none unlimited i)

  pub loads_unchanged : (shards : List MDBShardFile) → Loads old new path false prune prune_to buffer now shards → new ≡ old
  loads_unchanged shards loads = loads.files ∙ ap (all_removed old) (no_paths loads.read shards loads.pruned loads.prunes) ∙ removes_nothing old

  pub kept_unchanged : KeptOrRemoved old new path false prune prune_to buffer now → new ≡ old
  kept_unchanged (inl same) = same
  kept_unchanged (inr (read, kept, pruned, n, reads, prunes, is)) = is ∙ ap (λ (ns : List (List ℕ)). all_removed old (take n ns)) (no_paths read kept pruned prunes) ∙ removes_none old n

-- ---- registration of what was loaded of a folder

module _ (cap : ℕ) (old between new : Files) (path : List ℕ) (prune : Bool) (prune_to buffer now : ℕ) (before after : Tables) (shards shown : List MDBShardFile) (is : shown ≡ shards)
    (loads : Loads old between path false prune prune_to buffer now shards) (same : new ≡ between) where
  loads_shown : Loads old new path false prune prune_to buffer now shown
  loads_shown = subst (λ (l : List MDBShardFile). Loads old new path false prune prune_to buffer now l) (sym is) (subst (λ (fs : Files). Loads old fs path false prune prune_to buffer now shards) (sym same) loads)

  pub directory_registered : (result : Result (Unit {0}) StoreError) → OnOk result (RegistersNewest cap between shown before after)
      → OnOk result (RegistersDirectory cap old new path prune prune_to buffer now before after)
  directory_registered (Ok x) h = record { loaded = shown; loads = loads_shown; registers = subst (λ (fs : Files). RegistersNewest cap fs shown before after) (sym same) h }
  directory_registered (Err e) h = tt

  pub directory_stopped : (result : Result (Unit {0}) StoreError) → IfErr result (StopsAmong cap between shown before after)
      → IfErr result (λ e. IsUnloadedDirectory old new path prune prune_to buffer now before after e ⊎ StopsInDirectory cap old new path prune prune_to buffer now before after e)
  directory_stopped (Ok x) h = tt
  directory_stopped (Err e) h = inr (record { loaded = shown; loads = loads_shown; stops = subst (λ (fs : Files). StopsAmong cap fs shown before after e) (sym same) h })
