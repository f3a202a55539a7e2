-- The result of a merge.
use Rattle.std.proofs.Common.{◌≡◌, ◌∙◌, ℕ, nat_eq, Bool, true, not, filter, List, [], ◌++◌, None, Option, Result, Ok, Err, inr, refl, sym, ap, subst}
use Rattle.std.proofs.lemmas.List.Elements.{All-from_recursion}
use Rattle.std.specs.Cmp.Lexicographic.{pointwise}
use Rattle.std.specs.List.{flat_map, list_any}
use Rattle.std.specs.Prelude.{IfErr, IfOk, IsOk, IsOkUnless}
use Rattle.xet_hash.specs.declared.error.Place.TheVariants as place
use Rattle.xet_hash.specs.declared.error.StoreError.{StoreError}
use Rattle.xet_hash.specs.declared.error.StoreError.TheVariants as error
use Rattle.xet_io.specs.Disk.{Files}
use Rattle.xet_shard_directory.specs.Directories.{IsUnloaded}
use Rattle.xet_shard_directory.specs.declared.shard_file.MDBShardFile.{MDBShardFile}
use Rattle.xet_shard_merge.specs.Groups.{Group, Groups, Offered}
use Rattle.xet_shard_merge.specs.Merging.{AddsResults, AreResults, IsUnmerged, KeptOrMerged, Merges, Offers, obsolete_of, target_of}
use Rattle.xet_shard_merge.specs.declared.merge.ShardMergeResult.{ShardMergeResult}
use Rattle.xet_shard_merge.specs.declared.progress.Progress.{Progress}
use Rattle.xet_shard_merge.specs.internal.Keeping.{IsOneDue}
use Rattle.xet_shard_merge.specs.internal.Order.{MergedAll}
use Rattle.xet_shard_merge.specs.internal.Progressing.{Ended, IsIntactIfOpen, IsUnmergedOf, Went, WritesOfAll}
use Rattle.xet_shard_merge.proofs.Existing.{groups_exist}
use Rattle.xet_shard_merge.proofs.Placing.{writes_nothing}
use Rattle.xet_shard_merge.proofs.Stepping.{adds_nothing, preserves_itself}
use Rattle.xet_shard_merge.proofs.Within.{passed_none}

nothing_done : (start : Files) (folder : List ℕ) → AreResults start start folder [] []
unfolding AreResults
nothing_done start folder = tt

-- before the first shard
pub none_went : (start : Files) (folder : List ℕ) (limit : ℕ) (skip : Bool) (all : List Offered) (p : Progress) → p.open ≡ None → p.taken.items ≡ [] → p.merged.items ≡ [] → p.skipped.items ≡ []
    → Went start start folder limit skip all all p
none_went start folder limit skip all p opened taken merged skipped = record {
  closed = [];
  on = λ gs ss h. subst (λ (l : List MDBShardFile). Groups limit None all gs (l ++ ss)) (sym skipped) (subst (λ (c : Option Group). Groups limit c all gs ss) opened h);
  first = λ gs ss h. record { more = gs; skipped = ss; first = refl; grouped = subst (λ (c : Option Group). Groups limit c all gs ss) (sym opened) h };
  results = subst (AreResults start start folder []) (sym merged) (nothing_done start folder);
  taken = taken;
  adds = subst (AddsResults start start) (sym merged) (adds_nothing start []);
  writes = writes_nothing start start folder (IsOneDue start folder []) refl;
  keeps = preserves_itself start;
  intact = subst (IsIntactIfOpen start) (sym opened) tt;
  passed = passed_none skip all p.open opened;
  reads = λ e h. h;
}

pub all_merged : (start now : Files) (folder : List ℕ) (limit : ℕ) (skip : Bool) (all : List Offered) (p : Progress) (r : ShardMergeResult) → Ended start now folder limit skip all p
    → r.merged_shards.items ≡ p.merged.items → ((groups : List Group) → p.taken.items ≡ flat_map (λ g. g.taken) groups → r.obsolete_shards.items ≡ obsolete_of groups p.merged.items) → r.skipped_shards.items ≡ p.skipped.items
    → MergedAll start now folder limit skip all r
all_merged start now folder limit skip all p r e merged obsolete skipped = record {
  groups = e.groups;
  grouped = subst (Groups limit None all e.groups) (sym skipped) e.grouped;
  results = subst (AreResults start now folder e.groups) (sym merged) e.results;
  obsolete = obsolete e.groups e.taken ∙ ap (obsolete_of e.groups) (sym merged);
  adds = subst (AddsResults start now) (sym merged) e.adds;
  reads = e.reads;
}

pub merges : (old new : Files) (source folder : List ℕ) (max_size limit : ℕ) (skip : Bool) (now : ℕ) (offered : List Offered) (r : ShardMergeResult) → limit ≡ target_of max_size
    → Offers old source now offered → MergedAll old new folder limit skip offered r → Merges old new source folder max_size skip now r
merges old new source folder max_size limit skip now offered r same offers m = record {
  offered = offered;
  groups = m.groups;
  offers = offers;
  grouped = subst (λ (n : ℕ). Groups n None offered m.groups r.skipped_shards.items) same m.grouped;
  results = m.results;
  obsolete = m.obsolete;
  strict = λ e. All-from_recursion (λ o. IsOk o.records) offered (m.reads e);
}

pub may_merge : (old new : Files) (source folder : List ℕ) (max_size limit : ℕ) (skip : Bool) (now : ℕ) (offered : List Offered) → limit ≡ target_of max_size → Offers old source now offered
    → WritesOfAll old new folder limit skip offered → KeptOrMerged old new source folder max_size skip now
may_merge old new source folder max_size limit skip now offered same offers writes =
    let all = groups_exist limit None offered in
    inr (record {
      offered = offered;
      offers = offers;
      groups = all.0;
      skipped = all.1;
      grouped = subst (λ (n : ℕ). Groups n None offered all.0 all.1) same all.2;
      writes = writes all.0 all.1 all.2;
    })

pub unmerged : (files : Files) (source : List ℕ) (skip : Bool) (now : ℕ) (offered : List Offered) → Offers files source now offered → (e : StoreError) → IsUnmergedOf skip offered e → IsUnmerged files source skip now e
unmerged files source skip now offered offers (error.Io place.Disk) h = tt
unmerged files source skip now offered offers error.OutOfMemory h = tt
unmerged files source skip now offered offers error.UnexpectedEof h = (h.0, record { offered = offered; offers = offers; fails = h.1 })
unmerged files source skip now offered offers (error.MalformedData reason) h = (h.0, record { offered = offered; offers = offers; fails = h.1 })
unmerged files source skip now offered offers e h = absurd h

pub unloaded : (files : Files) (source : List ℕ) (skip : Bool) (now : ℕ) (e : StoreError) → IsUnloaded files source true e → IsUnmerged files source skip now e
unloaded files source skip now error.FileNotFound h = h
unloaded files source skip now error.UnexpectedEof h = absurd (cc h.0)
unloaded files source skip now (error.MalformedData reason) h = absurd (cc h.0)
unloaded files source skip now e h = tt

-- ---- the result, if there was memory for it

module _ (start now : Files) (folder : List ℕ) (limit : ℕ) (skip : Bool) (all : List Offered) (p : Progress) (r : Result ShardMergeResult StoreError) where
  pub merged_if : Ended start now folder limit skip all p → IfOk r (λ x. x.merged_shards.items ≡ p.merged.items)
      → IfOk r (λ x. x.obsolete_shards.items ≡ filter (λ s. not (list_any (λ m. pointwise nat_eq m.path s.path) p.merged.items)) p.taken.items)
      → IfOk r (λ x. x.skipped_shards.items ≡ p.skipped.items) → IfOk r (MergedAll start now folder limit skip all)
  merged_if ended merged obsolete skipped = by r merged obsolete skipped
    where
      by : (r : Result ShardMergeResult StoreError) → IfOk r (λ x. x.merged_shards.items ≡ p.merged.items)
          → IfOk r (λ x. x.obsolete_shards.items ≡ filter (λ s. not (list_any (λ m. pointwise nat_eq m.path s.path) p.merged.items)) p.taken.items)
          → IfOk r (λ x. x.skipped_shards.items ≡ p.skipped.items) → IfOk r (MergedAll start now folder limit skip all)
      by (Ok x) merged obsolete skipped =
          all_merged start now folder limit skip all p x ended merged
          (λ groups taken. obsolete ∙ ap (filter (λ (s : MDBShardFile). not (list_any (λ (m : MDBShardFile). pointwise nat_eq m.path s.path) p.merged.items))) taken) skipped
      by (Err e) merged obsolete skipped = tt

pub short_of_memory : {X : Type 0} (skip : Bool) (all : List Offered) (r : Result X StoreError) → IsOkUnless r error.OutOfMemory → IfErr r (IsUnmergedOf skip all)
short_of_memory skip all (Ok x) h = tt
short_of_memory skip all (Err e) h = subst (IsUnmergedOf skip all) (sym h) tt
