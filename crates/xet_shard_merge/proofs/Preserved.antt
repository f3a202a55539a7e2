-- What the write of a shard file leaves of the others.
use Rattle.std.proofs.Common.{◌≡◌, ◌≢◌, ◌∙◌, ◌⊎◌, ℕ, ◌<◌, true, List, [], ◌∷◌, length, get_or, None, Option, Some, option_map, is_some, Result, Ok, Err, IfOk, OnErr, inl, inr, refl, sym, ap, subst, arith}
use Rattle.std.proofs.lemmas.Bool.{true≢false}
use Rattle.xet_io.specs.Disk.{entry_at as get}
use Rattle.xet_hash.specs.Merkle.{chunk_hash}
use Rattle.xet_hash.specs.declared.error.StoreError.{StoreError}
use Rattle.xet_io.specs.Disk.{Entry, File, Files, bytes_at, file_at, file_of}
use Rattle.xet_io.specs.theorems.Names.{either_name}
use Rattle.xet_shard_directory.specs.Writing.{AddsShard, KeepsFileAt, MayAddShard, OthersStay, durable_at, path_of}
use Rattle.xet_shard_directory.specs.declared.shard_file.MDBShardFile.{MDBShardFile}
use Rattle.xet_shard_directory.specs.theorems.Syncing.{added_durable, added_others, added_path, added_there, added_value, may_here, may_others}
use Rattle.xet_shard_merge.specs.Merging.{AddsResults, IsNoTemp, KeepsFiles, Stands}
use Rattle.xet_shard_merge.specs.internal.Keeping.{Preserves}

-- What there is at a path is as it was, or it is these bytes, and they are durable.
abbrev pub IsHere : Files → Files → List ℕ → List ℕ → Type 0
IsHere old new path bytes = (get new path ≡ get old path) ⊎ ((bytes_at new path ≡ Some bytes) × (durable_at new path ≡ Some true))

module _ (old new : Files) (path : List ℕ) (others : OthersStay old new path) where
  pub adds_one : (s : MDBShardFile) → s.path ≡ path → AddsResults old new (s ∷ [])
  adds_one s at name plain absent there = by (either_name name path)
    where
      by : (name ≡ path) ⊎ (name ≢ path) → (k : ℕ) × (x : MDBShardFile) × (k < length (s ∷ [])) × (get_or (s ∷ []) k x ≡ x) × (x.path ≡ name)
      by (inl same) = (0, s, omega arith, refl, at ∙ sym same)
      by (inr ne) =
          let gone : file_at new name ≡ None = ap file_of (others name ne (plain path)) ∙ absent in
          absurd (true≢false (sym there ∙ ap is_some gone))

  module _ (bytes : List ℕ) (same_file : KeepsFileAt old new path) (here : IsHere old new path bytes) where
    kept_file : (name : List ℕ) (f : File) → IsNoTemp name → file_at old name ≡ Some f → (name ≡ path) ⊎ (name ≢ path) → file_at new name ≡ Some f
    kept_file name f plain there (inl same) =
        subst (λ (n : List ℕ). file_at new n ≡ Some f) (sym same) (same_file f (subst (λ (n : List ℕ). file_at old n ≡ Some f) same there))
    kept_file name f plain there (inr ne) = ap file_of (others name ne (plain path)) ∙ there

    kept_durable : (name : List ℕ) → IsNoTemp name → durable_at old name ≡ Some true → (name ≡ path) ⊎ (name ≢ path) → IsHere old new path bytes → durable_at new name ≡ Some true
    kept_durable name plain was (inl same) (inl stays) =
        subst (λ (n : List ℕ). durable_at new n ≡ Some true) (sym same) (ap (option_map (λ (e : Entry). e.durable)) stays ∙ subst (λ (n : List ℕ). durable_at old n ≡ Some true) same was)
    kept_durable name plain was (inl same) (inr (there, durable)) = subst (λ (n : List ℕ). durable_at new n ≡ Some true) (sym same) durable
    kept_durable name plain was (inr ne) h = ap (option_map (λ (e : Entry). e.durable)) (others name ne (plain path)) ∙ was

    pub preserved : Preserves old new
    preserved = record {
      files = λ name f plain there. kept_file name f plain there (either_name name path);
      durable = λ name plain was. kept_durable name plain was (either_name name path) here;
    }

module _ (old new : Files) (keeps : KeepsFiles old new) (name bytes : List ℕ) (plain : IsNoTemp name) (there : bytes_at old name ≡ Some bytes) where
  -- a file that was there is the same
  pub still_there : file_at new name ≡ file_at old name
  still_there = by (file_at old name) refl there
    where
      by : (found : Option File) → file_at old name ≡ found → option_map (λ f. f.bytes) found ≡ Some bytes → file_at new name ≡ file_at old name
      by None is has = absurd (cc has)
      by (Some f) is has = keeps name f plain is ∙ sym is

  pub same_bytes : bytes_at new name ≡ Some bytes
  same_bytes = ap (option_map (λ (f : File). f.bytes)) still_there ∙ there

-- ---- the call that adds a shard file

module _ (old new : Files) (folder bytes : List ℕ) where
  at_new : (s : MDBShardFile) → AddsShard old new folder bytes s → IsHere old new (path_of folder bytes) bytes
  at_new s added =
      let at : s.path ≡ path_of folder bytes = added_path old new folder bytes s added in
      inr (
        subst (λ (p : List ℕ). bytes_at new p ≡ Some bytes) at (added_there old new folder bytes s added),
        subst (λ (p : List ℕ). durable_at new p ≡ Some true) at (added_durable old new folder bytes s added),
      )

  pub is_here : (result : Result MDBShardFile StoreError) → IfOk result (AddsShard old new folder bytes) → OnErr result (MayAddShard old new folder bytes) → IsHere old new (path_of folder bytes) bytes
  is_here (Ok s) added may = at_new s added
  is_here (Err e) added may = may_here old new folder bytes may

  pub others_stay : (result : Result MDBShardFile StoreError) → IfOk result (AddsShard old new folder bytes) → OnErr result (MayAddShard old new folder bytes) → OthersStay old new (path_of folder bytes)
  others_stay (Ok s) added may = subst (OthersStay old new) (added_path old new folder bytes s added) (added_others old new folder bytes s added)
  others_stay (Err e) added may = may_others old new folder bytes may

  new_hash : (s : MDBShardFile) → AddsShard old new folder bytes s → s.shard_hash ≡ chunk_hash bytes
  new_hash s (inl wrote) = wrote.hash
  new_hash s (inr stood) = stood.hash

  new_stands : (s : MDBShardFile) → AddsShard old new folder bytes s → Stands new folder bytes s
  new_stands s added = record {
    hash = new_hash s added;
    path = added_path old new folder bytes s added;
    there = added_there old new folder bytes s added;
    durable = added_durable old new folder bytes s added;
    value = added_value old new folder bytes s added;
  }

  pub added_stands : (result : Result MDBShardFile StoreError) → IfOk result (AddsShard old new folder bytes) → IfOk result (Stands new folder bytes)
  added_stands (Ok s) added = new_stands s added
  added_stands (Err e) added = tt

  pub added_results : (result : Result MDBShardFile StoreError) → IfOk result (AddsShard old new folder bytes) → IfOk result (λ s. AddsResults old new (s ∷ []))
  added_results (Ok s) added = adds_one old new s.path (added_others old new folder bytes s added) s refl
  added_results (Err e) added = tt

  pub added_preserves : (result : Result MDBShardFile StoreError) → IfOk result (AddsShard old new folder bytes) → OnErr result (MayAddShard old new folder bytes)
      → KeepsFileAt old new (path_of folder bytes) → Preserves old new
  added_preserves result added may same = preserved old new (path_of folder bytes) (others_stay result added may) bytes same (is_here result added may)
