-- What was made of some sources, with one more file.
use Rattle.std.proofs.Common.{◌≡◌, ◌∙◌, ℕ, ◌+◌, ◌*◌, ◌≤◌, List, [], ◌∷◌, ◌++◌, length, map, sym, ap, subst, append_assoc, length-append, arith}
use Rattle.std.proofs.lemmas.List.{length-map, map-append}
use Rattle.std.proofs.lemmas.List.Sums.{sum_by_push}
use Rattle.std.specs.List.{AllByRecursion, flat_map}
use Rattle.xet_aggregate.specs.Aggregate.{Aggregate, IsAggregate}
use Rattle.xet_aggregate.specs.declared.metrics.DeduplicationMetrics.{DeduplicationMetrics}
use Rattle.xet_base.specs.theorems.Elements.{all_more, all_push}
use Rattle.xet_choices.specs.Calls.{Call, registered_chunks}
use Rattle.xet_choices.specs.Choices.{new_chunks}
use Rattle.xet_choices.specs.declared.choice.Choice.{Choice}
use Rattle.xet_choices.specs.theorems.Calls.{registered_chunks-append}
use Rattle.xet_dedup.specs.Deduping.{metrics_of, metrics_of_both}
use Rattle.xet_dedup_queries.specs.Counting.{registered_leaves}
use Rattle.xet_shard_format.specs.declared.record.MDBFileInfo.{MDBFileInfo}
use Rattle.xet_store_disk.specs.Separate.{Among}
use Rattle.xet_store_disk.specs.declared.info.XetFileInfo.{XetFileInfo}
use Rattle.xet_xorb_chunk.specs.Chunks.{chunk_leaf}
use Rattle.xet_store.specs.Holders.{Follows, Holder, calls_in}
use Rattle.xet_store.specs.theorems.Following.{calls_in-append, follows_then}
use Rattle.xet_clean.specs.Cleaning.{Lands, metrics_sum}
use Rattle.xet_clean.specs.Files.{leaves_in}
use Rattle.xet_clean.specs.Planning.{IsPlanned, IsWithin}
use Rattle.xet_clean.specs.Closing.{HaveForm, recorded_in}
use Rattle.xet_clean.specs.Working.{AreRecorded, IsWorking, Planned, Waits, WasPlanned}
use Rattle.xet_clean.specs.theorems.Adding.{Adds, recorded_in-append}
use Rattle.xet_clean.specs.theorems.Keeping.{limits_follow, was_planned_follows}
use Rattle.xet_clean.specs.theorems.Rising.{once_next}
use Rattle.xet_clean.specs.theorems.Sums.{sum_push}
use Rattle.xet_clean.specs.Policies.{info_by}

-- ---- one more file

-- What was added since its deduplication began, and what the aggregate is then: the records that waited were made or wait still,
-- and after them its own waits.
pub record IsKept (first new : Holder) (files : List Planned) (a : Aggregate) (f : Planned) (joined : Aggregate) (before : List Call) : Type 0 where
  pub calls : List Call
  pub recorded : List MDBFileInfo
  pub most : ℕ
  pub adds : Adds calls recorded most first new
  pub records : (earlier : List MDBFileInfo) → AreRecorded files (earlier ++ map (λ p. p.0) a.files) → AreRecorded (files ++ f ∷ []) (earlier ++ (recorded ++ map (λ p. p.0) joined.files))
  pub waits : AllByRecursion (λ p. Waits new joined.chunks (files ++ f ∷ []) p.0) joined.files
  pub aggregate : IsAggregate joined
  pub within : IsWithin new.limits joined.chunks
  pub forms : HaveForm joined.files
  pub nothing : joined.files ≡ [] → joined.chunks ≡ []
  pub lands : Lands (map chunk_leaf joined.chunks) (before ++ calls)
  pub own : AllByRecursion (Among (flat_map (λ g. g.plan.leaves) (files ++ f ∷ []))) (registered_leaves (before ++ calls) ++ map chunk_leaf joined.chunks)
  pub counted : registered_chunks calls + length joined.chunks ≡ length a.chunks + new_chunks f.plan.choices
  pub bound : most + (2 * length joined.chunks + 2 * length joined.files) ≤ 2 * length a.chunks + 2 * length a.files + 3 * length f.plan.leaves + 2

module _ (start first now new : Holder) (files : List Planned) (infos : List XetFileInfo) (choices : List (List Choice)) (metrics : DeduplicationMetrics) (a : Aggregate)
    (w : IsWorking start first files infos choices metrics a) (f : Planned) (planned : IsPlanned first now f.bytes f.plan) (joins : Follows now new) (joined : Aggregate)
    (k : IsKept first new files a f joined (calls_in w.follows.own)) where
  planned_all : AllByRecursion (WasPlanned start new) (files ++ f ∷ [])
  planned_all =
      all_push (WasPlanned start new) files f (all_more (WasPlanned start first) (WasPlanned start new) files (λ g. was_planned_follows first new k.adds.follows start g) w.planned)
      (record { first = first; last = now; planned = planned; from = w.follows; to = joins })

  records_all : AreRecorded (files ++ f ∷ []) (recorded_in (w.follows.own ++ k.adds.follows.own) ++ map (λ p. p.0) joined.files)
  records_all =
      let waiting : List MDBFileInfo = map (λ p. p.0) joined.files in
      let parts : recorded_in (w.follows.own ++ k.adds.follows.own) ≡ recorded_in w.follows.own ++ k.recorded =
      recorded_in-append w.follows.own k.adds.follows.own ∙ ap (λ (l : List MDBFileInfo). recorded_in w.follows.own ++ l) k.adds.records in
      subst (AreRecorded (files ++ f ∷ [])) (sym (ap (λ (l : List MDBFileInfo). l ++ waiting) parts ∙ append_assoc (recorded_in w.follows.own) k.recorded waiting))
      (k.records (recorded_in w.follows.own) w.records)

  calls_are : calls_in (w.follows.own ++ k.adds.follows.own) ≡ calls_in w.follows.own ++ k.calls
  calls_are = calls_in-append w.follows.own k.adds.follows.own ∙ ap (λ (l : List Call). calls_in w.follows.own ++ l) k.adds.are

  first_new : first.limits ≡ new.limits
  first_new = sym (limits_follow first new k.adds.follows)

  now_new : now.limits ≡ new.limits
  now_new = sym (limits_follow now new joins)

  pointers_all : infos ++ info_by f.policy now.limits f.bytes ∷ [] ≡ map (λ g. info_by g.policy new.limits g.bytes) (files ++ f ∷ [])
  pointers_all =
      ap (λ (l : List XetFileInfo). l ++ info_by f.policy now.limits f.bytes ∷ []) w.pointers
      ∙ (λ i. map (λ (g : Planned). info_by g.policy (first_new i) g.bytes) files ++ info_by f.policy (now_new i) f.bytes ∷ [])
      ∙ sym (map-append (λ (g : Planned). info_by g.policy new.limits g.bytes) files (f ∷ []))

  chosen_all : choices ++ f.plan.choices ∷ [] ≡ map (λ g. g.plan.choices) (files ++ f ∷ [])
  chosen_all = ap (λ (l : List (List Choice)). l ++ f.plan.choices ∷ []) w.chosen ∙ sym (map-append (λ (g : Planned). g.plan.choices) files (f ∷ []))

  sums_all : metrics_of_both metrics (metrics_of (leaves_in now.limits f.bytes) f.plan.choices 0 0) ≡ metrics_sum new.limits (map (λ g. g.bytes) (files ++ f ∷ [])) (choices ++ f.plan.choices ∷ [])
  sums_all =
      let len : length choices ≡ length (map (λ (g : Planned). g.bytes) files) =
      ap length w.chosen ∙ length-map files (λ (g : Planned). g.plan.choices) ∙ sym (length-map files (λ (g : Planned). g.bytes)) in
      ap (λ (m : DeduplicationMetrics). metrics_of_both m (metrics_of (leaves_in now.limits f.bytes) f.plan.choices 0 0)) w.sums
      ∙ (λ i. metrics_of_both (metrics_sum (first_new i) (map (λ (g : Planned). g.bytes) files) choices) (metrics_of (leaves_in (now_new i) f.bytes) f.plan.choices 0 0))
      ∙ sym (sum_push new.limits (map (λ (g : Planned). g.bytes) files) choices f.bytes f.plan.choices len)
      ∙ ap (λ (l : List (List ℕ)). metrics_sum new.limits l (choices ++ f.plan.choices ∷ [])) (sym (map-append (λ (g : Planned). g.bytes) files (f ∷ [])))

  pub working_more : IsWorking start new (files ++ f ∷ []) (infos ++ info_by f.policy now.limits f.bytes ∷ []) (choices ++ f.plan.choices ∷ [])
      (metrics_of_both metrics (metrics_of (leaves_in now.limits f.bytes) f.plan.choices 0 0)) joined
  unfolding follows_then
  working_more =
      let count : length (files ++ f ∷ []) ≡ length files + 1 = omega (arith, length-append files (f ∷ [])) in
      let regs : registered_chunks (calls_in (w.follows.own ++ k.adds.follows.own)) ≡ registered_chunks (calls_in w.follows.own) + registered_chunks k.calls =
      ap registered_chunks calls_are ∙ registered_chunks-append (calls_in w.follows.own) k.calls in
      record {
        follows = follows_then start first new w.follows k.adds.follows;
        going = k.adds.going ∙ w.going;
        pointers = pointers_all;
        chosen = chosen_all;
        once = once_next start first now f planned files choices w.planned w.chosen w.once;
        sums = sums_all;
        planned = planned_all;
        records = records_all;
        waits = k.waits;
        aggregate = k.aggregate;
        within = k.within;
        forms = k.forms;
        nothing = k.nothing;
        lands = subst (Lands (map chunk_leaf joined.chunks)) (sym calls_are) k.lands;
        new = omega (arith, regs, w.new, k.counted, sum_by_push (λ (g : Planned). new_chunks g.plan.choices) files f);
        bound = omega (arith, length-append w.follows.own k.adds.follows.own, k.adds.few, w.bound, k.bound, count, sum_by_push (λ (g : Planned). length g.plan.leaves) files f);
        own = subst (λ (cs : List Call). AllByRecursion (Among (flat_map (λ (g : Planned). g.plan.leaves) (files ++ f ∷ []))) (registered_leaves cs ++ map chunk_leaf joined.chunks)) (sym calls_are) k.own;
      }
