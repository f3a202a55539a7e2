-- One more file, as cleaning it ended.
use Rattle.std.proofs.Common.{◌≡◌, ◌∙◌, inl, inr, ℕ, ◌<◌, true, false, List, [], ◌∷◌, ◌++◌, length, map, sym, ap, subst}
use Rattle.xet_aggregate.specs.Aggregate.{Aggregate, IsAggregate, fits, merged, single}
use Rattle.xet_aggregate.specs.declared.metrics.DeduplicationMetrics.{DeduplicationMetrics}
use Rattle.xet_aggregate.specs.theorems.Merging.{empty-merged}
use Rattle.xet_choices.specs.declared.choice.Choice.{Choice}
use Rattle.xet_dedup.specs.Deduping.{metrics_of, metrics_of_both, open_indices}
use Rattle.xet_dedup.specs.Records.{file_record}
use Rattle.xet_dedup.specs.theorems.Forms.{finalized_are_files}
use Rattle.xet_store_disk.specs.declared.info.XetFileInfo.{XetFileInfo}
use Rattle.xet_xorb_chunk.specs.Chunks.{chunk_leaf}
use Rattle.xet_store.specs.Interface.{Stands}
use Rattle.xet_store.specs.Holders.{Holder, calls_of, core_at, lengths_in, xorb_limits}
use Rattle.xet_store.specs.theorems.Following.{follows_nothing}
use Rattle.xet_cut.specs.declared.limits.LimitSettings.{LimitSettings}
use Rattle.xet_clean.specs.Cleaning.{metrics_sum}
use Rattle.xet_clean.specs.Files.{leaves_in}
use Rattle.xet_clean.specs.Planning.{IsWithin}
use Rattle.xet_clean.specs.Closing.{Closes, HaveForm, Joins}
use Rattle.xet_clean.specs.internal.Sums.{HasRoom}
use Rattle.xet_clean.specs.Working.{IsAdded, IsWorking, Planned}
use Rattle.xet_clean.proofs.Cases.{goes_on, kept_closed, kept_merged, kept_nothing}
use Rattle.xet_clean.proofs.Joining.{working_more}
use Rattle.xet_clean.specs.theorems.Keeping.{limits_follow}
use Rattle.xet_clean.specs.theorems.Sums.{sums_have_room}
use Rattle.xet_clean.specs.Policies.{info_by, sha256_by}
use Rattle.xet_clean.specs.declared.policy.Sha256Policy.{Sha256Policy}

module _ (start first now : Holder) (files : List Planned) (policy : Sha256Policy) (bytes : List ℕ) (id : ℕ) (infos : List XetFileInfo) (choices : List (List Choice)) (metrics : DeduplicationMetrics) (a : Aggregate)
    (info : XetFileInfo) (counts : DeduplicationMetrics) (chosen : List Choice) (rest : Aggregate)
    (added : IsAdded start first now files policy bytes id infos choices metrics a info counts chosen rest) where
  abbrev f : Planned
  f = record { bytes = bytes; policy = policy; plan = added.finished.plan }

  abbrev its : DeduplicationMetrics
  its = metrics_of (leaves_in now.limits bytes) added.finished.plan.choices 0 0

  abbrev plain : Aggregate
  plain = single added.finished.plan.block (file_record added.finished.plan.leaves added.finished.plan.segments (sha256_by policy bytes)) (open_indices added.finished.plan.segments) id

  counts_are : counts ≡ metrics_of (leaves_in now.limits bytes) added.finished.plan.choices 0 0
  counts_are = added.finished.counts ∙ ap (λ (l : List (List ℕ × ℕ)). metrics_of l added.finished.plan.choices 0 0) added.finished.planned.leaves

  first_now : first.limits ≡ now.limits
  first_now = sym (limits_follow first now added.finished.planned.follows.follows)

  -- the number of bytes, as the pointer record states it
  pub size_is : info.file_size ≡ length bytes
  size_is = ap (λ (i : XetFileInfo). i.file_size) added.finished.pointer

  -- the sums have room
  pub added_room : HasRoom metrics counts
  added_room =
      subst (HasRoom metrics) (sym counts_are)
      (sums_have_room start first now files f metrics added.range first_now added.few added.working.planned
      (added.working.sums ∙ ap (metrics_sum first.limits (map (λ (g : Planned). g.bytes) files)) added.working.chosen) added.finished.planned)

  -- what joining requires
  pub added_here : IsAggregate a × IsWithin now.limits a.chunks × HaveForm a.files
  added_here = (added.working.aggregate, subst (λ (s : LimitSettings). IsWithin s a.chunks) first_now added.working.within, added.working.forms)

  pub added_rest : IsAggregate rest × IsWithin now.limits rest.chunks × HaveForm rest.files
  added_rest =
      let plan = added.finished.plan in
      let planned = added.finished.planned in
      let forms : HaveForm plain.files =
      finalized_are_files (lengths_in (core_at now)) (Stands now) (calls_of first) (calls_of now) (xorb_limits now.limits) plan planned.deduped plan.block (sha256_by policy bytes) (open_indices plan.segments) id in (
        added.finished.aggregate,
        subst (λ (r : Aggregate). IsWithin now.limits r.chunks) (sym added.finished.left) planned.block,
        subst (λ (r : Aggregate). HaveForm r.files) (sym added.finished.left) forms,
      )

  results : (new : Holder) (joined : Aggregate)
      → IsWorking start new (files ++ f ∷ []) (infos ++ info_by policy now.limits bytes ∷ []) (choices ++ added.finished.plan.choices ∷ []) (metrics_of_both metrics (metrics_of (leaves_in now.limits bytes) added.finished.plan.choices 0 0)) joined
      → IsWorking start new (files ++ f ∷ []) (infos ++ info ∷ []) (choices ++ chosen ∷ []) (metrics_of_both metrics counts) joined
  results new joined w =
      subst (λ (i : XetFileInfo). IsWorking start new (files ++ f ∷ []) (infos ++ i ∷ []) (choices ++ chosen ∷ []) (metrics_of_both metrics counts) joined) (sym added.finished.pointer)
      (subst (λ (cs : List Choice). IsWorking start new (files ++ f ∷ []) (infos ++ info_by policy now.limits bytes ∷ []) (choices ++ cs ∷ []) (metrics_of_both metrics counts) joined) (sym added.finished.chosen)
      (subst (λ (m : DeduplicationMetrics). IsWorking start new (files ++ f ∷ []) (infos ++ info_by policy now.limits bytes ∷ []) (choices ++ added.finished.plan.choices ∷ []) (metrics_of_both metrics m) joined) (sym counts_are) w))

  -- a file of no bytes
  pub added_nothing : length bytes ≡ 0 → IsWorking start now (files ++ f ∷ []) (infos ++ info ∷ []) (choices ++ chosen ∷ []) (metrics_of_both metrics counts) a
  added_nothing none =
      results now a
      (working_more start first now now files infos choices metrics a added.working f added.finished.planned (follows_nothing now) a
      (kept_nothing start first now files infos choices metrics a added.working f added.finished.planned none))

  -- another file
  pub added_joined : 0 < length bytes → (new : Holder) (joined : Aggregate) → Joins now new a rest joined
      → IsWorking start new (files ++ f ∷ []) (infos ++ info ∷ []) (choices ++ chosen ∷ []) (metrics_of_both metrics counts) joined
  added_joined some new joined (inl x) =
      let fit : fits now.limits a plain ≡ true = subst (λ (r : Aggregate). fits now.limits a r ≡ true) added.finished.left x.0 in
      let is_rest : IsAggregate plain = subst IsAggregate added.finished.left added.finished.aggregate in
      let is : joined ≡ merged a plain = x.2 ∙ ap (merged a) added.finished.left in
      subst (λ (h : Holder). IsWorking start h (files ++ f ∷ []) (infos ++ info ∷ []) (choices ++ chosen ∷ []) (metrics_of_both metrics counts) joined) (sym x.1)
      (subst (λ (j : Aggregate). IsWorking start now (files ++ f ∷ []) (infos ++ info ∷ []) (choices ++ chosen ∷ []) (metrics_of_both metrics counts) j) (sym is)
      (results now (merged a plain)
      (working_more start first now now files infos choices metrics a added.working f added.finished.planned (follows_nothing now) (merged a plain)
      (kept_merged start first now files infos choices metrics a added.working f added.finished.planned some (open_indices added.finished.plan.segments) id added.range fit is_rest))))
  added_joined some new joined (inr x) =
      let unfit : fits now.limits a plain ≡ false = subst (λ (r : Aggregate). fits now.limits a r ≡ false) added.finished.left x.0 in
      let is_rest : IsAggregate plain = subst IsAggregate added.finished.left added.finished.aggregate in
      let closes : Closes a (map chunk_leaf added.finished.plan.block) now new = subst (λ (r : Aggregate). Closes a (map chunk_leaf r.chunks) now new) added.finished.left x.1 in
      let is : joined ≡ plain = x.2 ∙ empty-merged rest ∙ added.finished.left in
      subst (λ (j : Aggregate). IsWorking start new (files ++ f ∷ []) (infos ++ info ∷ []) (choices ++ chosen ∷ []) (metrics_of_both metrics counts) j) (sym is)
      (results new plain
      (working_more start first now new files infos choices metrics a added.working f added.finished.planned
      (goes_on start first now files infos choices metrics a added.working f added.finished.planned some (open_indices added.finished.plan.segments) id added.range unfit is_rest new closes) plain
      (kept_closed start first now files infos choices metrics a added.working f added.finished.planned some (open_indices added.finished.plan.segments) id added.range unfit is_rest new closes)))
