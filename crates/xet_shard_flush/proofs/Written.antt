-- What the write of a shard file leaves of the other files.
use Rattle.std.proofs.Common.{◌≡◌, ◌≢◌, ◌∙◌, ◌⊎◌, ◌<◌, ℕ, List, get_or, length, None, Option, Ok, Some, true, option_map, inl, inr, sym, ap, subst}
use Rattle.std.proofs.lemmas.Bool.{true≢false}
use Rattle.xet_io.specs.Disk.{entry_at as get}
use Rattle.std.specs.Prelude.{IsOk}
use Rattle.xet_io.specs.Disk.{Entry, File, Files, bytes_at, file_at, file_of, synced}
use Rattle.xet_io.specs.theorems.Names.{either_name}
use Rattle.xet_shard.specs.Sections.{info_at}
use Rattle.xet_shard.specs.declared.info.MDBShardInfo.{MDBShardInfo}
use Rattle.xet_shard_directory.specs.Writing.{AddsShard, MayAddShard, OthersStay, path_of}
use Rattle.xet_shard_directory.specs.declared.shard_file.MDBShardFile.{MDBShardFile}
use Rattle.xet_shard_directory.specs.theorems.Syncing.{may_here, may_others, synced_file}
use Rattle.xet_shard_file.specs.Names.{temp_name}
use Rattle.xet_shard_file.specs.Puts.{IsDone}
use Rattle.xet_shard_flush.specs.Importing.{KeepsFile, KeepsFiles}
use Rattle.xet_shard_flush.specs.internal.Steps.{AreExpected, IsUnused, IsWay}
use Rattle.xet_shard_flush.specs.declared.paths.Way.TheVariants.{Write}

abbrev bytes_of : Option File → Option (List ℕ)
bytes_of f = option_map (λ g. g.bytes) f

none_there : (found : Option (List ℕ)) (bytes : List ℕ) → found ≡ None → found ≡ Some bytes → ⊥
none_there found bytes none some = cc

-- a shard whose file is the same
same_file : (old new : Files) (s : MDBShardFile) → file_at new s.path ≡ file_at old s.path → KeepsFile old new s
same_file old new s same = record {
  kept = λ f there. same ∙ there;
  back = λ b gone there. absurd (none_there (bytes_at new s.path) b (ap bytes_of same ∙ gone) there);
}

-- a shard whose file was gone
comes_back : (old new : Files) (path bytes : List ℕ) (s : MDBShardFile) → s.path ≡ path → bytes_at old path ≡ None → info_at bytes ≡ Ok s.shard
    → (bytes_at new path ≡ None) ⊎ (bytes_at new path ≡ Some bytes) → KeepsFile old new s
comes_back old new path bytes s same none read now = record {
  kept = λ f was. absurd (none_there (bytes_at old s.path) f.bytes (subst (λ (n : List ℕ). bytes_at old n ≡ None) (sym same) none) (ap bytes_of was));
  back = λ b gone there. by b (subst (λ (n : List ℕ). bytes_at new n ≡ Some b) same there) now;
}
  where
    by : (b : List ℕ) → bytes_at new path ≡ Some b → (bytes_at new path ≡ None) ⊎ (bytes_at new path ≡ Some bytes) → info_at b ≡ Ok s.shard
    by b there (inl gone) = absurd (none_there (bytes_at new path) b gone there)
    by b there (inr is) =
        let one : bytes ≡ b = cc in
        subst (λ (x : List ℕ). info_at x ≡ Ok s.shard) one read

module _ (old new : Files) (folder bytes : List ℕ) where
  abbrev path : List ℕ
  path = path_of folder bytes

  -- nothing has changed
  pub nothing_keeps : new ≡ old → (ss : List MDBShardFile) → KeepsFiles old new folder bytes ss
  nothing_keeps same ss = record {
    each = λ i d lt plain. same_file old new (get_or ss i d) (ap (λ (fs : Files). file_at fs (get_or ss i d).path) same);
    same = λ there f was. ap (λ (fs : Files). file_at fs path) same ∙ was;
  }

  -- nothing has changed, or a file was made durable: no file is another
  pub synced_keeps : bytes_at old path ≡ Some bytes → (new ≡ old) ⊎ (new ≡ synced old path) → (ss : List MDBShardFile) → KeepsFiles old new folder bytes ss
  synced_keeps there (inl same) ss = nothing_keeps same ss
  synced_keeps there (inr same) ss = record {
    each = λ i d lt plain. same_file old new (get_or ss i d) (ap (λ (fs : Files). file_at fs (get_or ss i d).path) same ∙ synced_file old path bytes there (get_or ss i d).path);
    same = λ _ f was. ap (λ (fs : Files). file_at fs path) same ∙ synced_file old path bytes there path ∙ was;
  }

  pub synced_may : bytes_at old path ≡ Some bytes → (new ≡ old) ⊎ (new ≡ synced old path) → MayAddShard old new folder bytes
  synced_may there (inl same) = inl (record {
    file = inl (ap (λ (fs : Files). get fs path) same);
    others = λ name ne temp. ap (λ (fs : Files). get fs name) same;
    malformed = λ e is. same;
  })
  synced_may there (inr same) = inr (there, same)

  -- a write: no registered file was replaced, whether it has completed or not
  pub written_keeps : (ss : List MDBShardFile) (info : MDBShardInfo) → IsWay old path info ss bytes Write → info_at bytes ≡ Ok info → MayAddShard old new folder bytes → KeepsFiles old new folder bytes ss
  written_keeps ss info way read may = record {
    each = λ i d lt plain. by i d lt plain (either_name (get_or ss i d).path path) way;
    same = λ there f was. absurd (not_there way there);
  }
    where
      not_there : ((bytes_at old path ≡ None) × AreExpected path info ss) ⊎ (IsUnused path ss × (bytes_at old path ≢ Some bytes)) → bytes_at old path ≡ Some bytes → ⊥
      not_there (inl (none, expected)) there = none_there (bytes_at old path) bytes none there
      not_there (inr (unused, other)) there = other there

      here : (get new path ≡ get old path) ⊎ ((bytes_at new path ≡ Some bytes) × (option_map (λ e. e.durable) (get new path) ≡ Some true)) → bytes_at old path ≡ None → (bytes_at new path ≡ None) ⊎ (bytes_at new path ≡ Some bytes)
      here (inl stays) none = inl (ap (λ (e : Option Entry). bytes_of (file_of e)) stays ∙ none)
      here (inr done) none = inr done.0

      by : (i : ℕ) (d : MDBShardFile) → i < length ss → (get_or ss i d).path ≢ temp_name path → ((get_or ss i d).path ≡ path) ⊎ ((get_or ss i d).path ≢ path)
          → ((bytes_at old path ≡ None) × AreExpected path info ss) ⊎ (IsUnused path ss × (bytes_at old path ≢ Some bytes)) → KeepsFile old new (get_or ss i d)
      by i d lt plain (inr ne) w = same_file old new (get_or ss i d) (ap file_of (may_others old new folder bytes may (get_or ss i d).path ne plain))
      by i d lt plain (inl same) (inr unused) = absurd (unused.0 i d lt same)
      by i d lt plain (inl same) (inl (none, expected)) =
          comes_back old new path bytes (get_or ss i d) same none (read ∙ ap (λ (x : MDBShardInfo). Ok x) (sym (expected i d lt same)))
          (here (may_here old new folder bytes may) none)

  -- a shard that was added may have been
  pub added_may : (s : MDBShardFile) → IsOk (info_at bytes) → AddsShard old new folder bytes s → MayAddShard old new folder bytes
  added_may s ok (inl w) = inl (record {
    file = inr (subst (λ (p : List ℕ). IsDone new p bytes) w.path w.done);
    others = subst (OthersStay old new) w.path w.others;
    malformed = λ e is. absurd (true≢false (sym (subst IsOk is ok)));
  })
  added_may s ok (inr k) = inr (subst (λ (p : List ℕ). bytes_at old p ≡ Some bytes) k.path k.there, subst (λ (p : List ℕ). new ≡ synced old p) k.path k.same)
