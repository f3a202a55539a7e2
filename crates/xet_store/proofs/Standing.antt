-- The registered shards of a store, in their files, after a step.
use Rattle.std.proofs.Common.{◌≡◌, ◌≢◌, ◌∙◌, ℕ, ◌≤◌, true, List, [], ◌∷◌, ◌++◌, length, map, None, refl, sym, ap, subst, arith, length-append}
use Rattle.std.proofs.lemmas.List.{map-append}
use Rattle.std.proofs.lemmas.List.Elements.{All-from_recursion}
use Rattle.std.proofs.lemmas.List.Quantifiers.{all_pairs_push}
use Rattle.std.specs.List.{AllByRecursion, AllPairs}
use Rattle.xet_base.specs.theorems.Elements.{all_push}
use Rattle.xet_folder.specs.Contents.{max_shards}
use Rattle.xet_history.specs.Core.{RegisteredShard}
use Rattle.xet_history.specs.Interleaving.{SameBytes}
use Rattle.xet_history.specs.Sound.{IsShardFile}
use Rattle.xet_history.specs.theorems.Soundness.{shard_files_same}
use Rattle.xet_shard.specs.Held.{held_shard}
use Rattle.xet_shard_file.specs.Names.{shard_path}
use Rattle.xet_shard_format.specs.Lookups.{all_lookups}
use Rattle.xet_store_disk.specs.Cleaning.{Keeps, SameEntry}
use Rattle.xet_store_disk.specs.Flushing.{IsFlushed, pending_bytes}
use Rattle.xet_store_disk.specs.Store.{State}
use Rattle.xet_store_disk.specs.theorems.Staying.{same_bytes_at}
use Rattle.xet_store.specs.Recorded.{AreShards}

module _ (old new : State) (keeps : Keeps old new) (shards : List RegisteredShard) (are : AreShards old shards) where
  -- the files of the registered shards have not changed
  same_files : (rs : List RegisteredShard) → AllByRecursion (λ h. SameEntry old.files new.files (shard_path old.folder h)) (map (λ r. r.hash) rs) → AllByRecursion (λ r. SameBytes old.files new.files (shard_path old.folder r.hash)) rs
  same_files [] all = tt
  same_files (r ∷ rs) all = (same_bytes_at old.files new.files (shard_path old.folder r.hash) all.0, same_files rs all.1)

  still : old.tells ≡ true → AllByRecursion (IsShardFile new.files new.folder) shards
  still told =
      let entries = subst (AllByRecursion (λ (h : List ℕ). SameEntry old.files new.files (shard_path old.folder h))) (sym are.registered) (keeps.shard_files told) in
      subst (λ (f : List ℕ). AllByRecursion (IsShardFile new.files f) shards) (sym keeps.folder) (shard_files_same old.files new.files old.folder shards (same_files shards entries) (are.stand told))

  -- a step that registers none
  pub shards_kept : new.shards ≡ old.shards → AreShards new shards
  shards_kept same = record {
    registered = are.registered ∙ sym same;
    stand = λ told. still (sym keeps.tells ∙ told);
    differ = λ told. subst (AllPairs (λ (a b : List ℕ). a ≢ b)) (sym same) (are.differ (sym keeps.tells ∙ told));
    few = subst (λ (l : List (List ℕ)). length l ≤ max_shards) (sym same) are.few;
  }

  -- a flush
  module _ (h : List ℕ) (flush : IsFlushed old h new) where
    abbrev pub flushed_shard : RegisteredShard
    flushed_shard = record { hash = h; contents = held_shard old.pending old.opened None }

    flushed_there : old.tells ≡ true → IsShardFile new.files new.folder flushed_shard
    flushed_there told = subst (λ (f : List ℕ). IsShardFile new.files f flushed_shard) (sym keeps.folder)
        (record {
          bytes = pending_bytes old;
          there = flush.there told;
          named = sym flush.hash;
          encoding = record { shard = flush.form.shard; fits = flush.form.fits; lookups = all_lookups; encoding = refl };
        })

    pub shards_flushed : AreShards new (shards ++ flushed_shard ∷ [])
    shards_flushed = record {
      registered = map-append (λ (r : RegisteredShard). r.hash) shards (flushed_shard ∷ []) ∙ ap (λ (l : List (List ℕ)). l ++ h ∷ []) are.registered ∙ sym flush.registered;
      stand = λ told.
          let before : old.tells ≡ true = sym keeps.tells ∙ told in
          all_push (IsShardFile new.files new.folder) shards flushed_shard (still before) (flushed_there before);
      differ = λ told.
          let before : old.tells ≡ true = sym keeps.tells ∙ told in
          subst (AllPairs (λ (a b : List ℕ). a ≢ b)) (sym flush.registered) (all_pairs_push (λ (a b : List ℕ). a ≢ b) old.shards h (are.differ before) (All-from_recursion (λ (k : List ℕ). k ≢ h) old.shards flush.fresh));
      few = subst (λ (l : List (List ℕ)). length l ≤ max_shards) (sym flush.registered) (omega (arith, flush.few, length-append old.shards (h ∷ [])));
    }
