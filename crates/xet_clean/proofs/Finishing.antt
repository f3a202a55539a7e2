-- A file whose deduplication has ended.
use Rattle.std.proofs.Common.{◌≡◌, ◌∙◌, ℕ, List, Option, length, map, sym, ap, subst, arith}
use Rattle.std.specs.List.{AllByRecursion}
use Rattle.xet_aggregate.specs.Aggregate.{Aggregate, IsAggregate, single}
use Rattle.xet_aggregate.specs.declared.metrics.DeduplicationMetrics.{DeduplicationMetrics}
use Rattle.xet_choices.specs.declared.choice.Choice.{Choice}
use Rattle.xet_cut.specs.declared.limits.LimitSettings.{LimitSettings}
use Rattle.xet_dedup.specs.Deduping.{metrics_of, open_indices}
use Rattle.xet_dedup.specs.Records.{file_record}
use Rattle.xet_base.specs.theorems.Elements.{all_prefix}
use Rattle.xet_choices.specs.Calls.{Call}
use Rattle.xet_dedup_queries.specs.Counting.{HasNext, registered_leaves}
use Rattle.xet_file_plan.specs.Moves.{PlanState}
use Rattle.xet_hash.specs.Merkle.{file_hash}
use Rattle.xet_store_disk.specs.declared.info.XetFileInfo.{XetFileInfo}
use Rattle.xet_store.specs.Holders.{Holder}
use Rattle.xet_clean.specs.Files.{leaves_in}
use Rattle.xet_store_disk.specs.Separate.{Among}
use Rattle.xet_xorb_chunk.specs.Chunks.{chunk_leaf}
use Rattle.xet_clean.specs.Planning.{IsFew, IsFinished, IsPlanned, RegistersOnly}
use Rattle.xet_clean.specs.Policies.{info_with}
use Rattle.xet_clean.specs.theorems.Adding.{asking_calls}

-- a pointer record
abbrev pub pointer : List ℕ → ℕ → Option (List ℕ) → XetFileInfo
pointer hash size digest = record { hash = hash; file_size = size; sha256 = digest }

-- the pointer record of a file of these bytes
pub pointer_of : (s : LimitSettings) (bytes : List ℕ) (leaves : List (List ℕ × ℕ)) (hash : List ℕ) (size : ℕ) (digest : Option (List ℕ)) → hash ≡ file_hash leaves → leaves ≡ leaves_in s bytes → size ≡ length bytes
    → pointer hash size digest ≡ info_with digest s bytes
pointer_of s bytes leaves hash size digest hashed are sized = λ i. record { hash = (hashed ∙ ap file_hash are) i; file_size = sized i; sha256 = digest }

pub finished_file : (start now : Holder) (id : ℕ) (bytes : List ℕ) (plan : PlanState) (info : XetFileInfo) (metrics : DeduplicationMetrics) (choices : List Choice) (rest : Aggregate) (digest : Option (List ℕ)) (global : ℕ × ℕ)
    → IsPlanned start now bytes plan → global ≡ (0, 0) → info ≡ info_with digest now.limits bytes → choices ≡ plan.choices → metrics ≡ metrics_of plan.leaves plan.choices global.0 global.1
    → rest ≡ single plan.block (file_record plan.leaves plan.segments digest) (open_indices plan.segments) id → IsAggregate rest → IsFinished start now id digest bytes info metrics choices rest
finished_file start now id bytes plan info metrics choices rest digest global planned none pointer chosen counts left aggregate = record {
  plan = plan;
  planned = planned;
  pointer = pointer;
  chosen = chosen;
  counts = counts ∙ ap (λ (x : ℕ × ℕ). metrics_of plan.leaves plan.choices x.0 x.1) none;
  left = left;
  aggregate = aggregate;
}

-- the entries of a file that was planned are few
pub planned_few : (start now : Holder) (bytes : List ℕ) (plan : PlanState) → IsPlanned start now bytes plan → IsFew start now bytes
planned_few start now bytes plan p = record {
  follows = p.follows;
  nexts = subst (AllByRecursion HasNext) (sym (asking_calls start now p.follows)) p.nexts;
  few = omega (arith, p.few, ap length p.leaves);
}

-- and the chunks that it registered are its own
pub planned_only : (start now : Holder) (bytes : List ℕ) (plan : PlanState) → IsPlanned start now bytes plan → RegistersOnly start now bytes
planned_only start now bytes plan p = record {
  follows = p.follows.follows;
  are = subst (λ (cs : List Call). AllByRecursion (Among (leaves_in now.limits bytes)) (registered_leaves cs)) (sym (asking_calls start now p.follows))
      (subst (λ (ls : List (List ℕ × ℕ)). AllByRecursion (Among ls) (registered_leaves p.follows.calls)) p.leaves (all_prefix (Among plan.leaves) (registered_leaves p.follows.calls) (map chunk_leaf plan.block) p.own));
}
