-- What was recorded where cleaning stopped: the first files, in order.
use Rattle.std.proofs.Common.{◌≡◌, ◌∙◌, ℕ, ◌≤◌, List, ◌++◌, length, map, take, drop, sym, ap, subst, length-append, append_assoc, arith}
use Rattle.std.proofs.lemmas.List.{length-map, map-append, take-append-drop, take_at}
use Rattle.std.specs.List.{AllByRecursion}
use Rattle.xet_aggregate.specs.Aggregate.{Aggregate}
use Rattle.xet_aggregate.specs.declared.metrics.DeduplicationMetrics.{DeduplicationMetrics}
use Rattle.xet_base.specs.theorems.Elements.{all_prefix}
use Rattle.xet_choices.specs.declared.choice.Choice.{Choice}
use Rattle.xet_cut.specs.declared.limits.LimitSettings.{LimitSettings}
use Rattle.xet_history.specs.declared.entry.Entry.{Entry}
use Rattle.xet_shard_format.specs.declared.record.MDBFileInfo.{MDBFileInfo}
use Rattle.xet_store_disk.specs.declared.info.XetFileInfo.{XetFileInfo}
use Rattle.xet_store.specs.Holders.{Holder}
use Rattle.xet_clean.specs.Cleaning.{AreRecords}
use Rattle.xet_clean.specs.Files.{leaves_in}
use Rattle.xet_clean.specs.Closing.{filled_files, recorded_in}
use Rattle.xet_clean.specs.Working.{AreRecorded, IsWorking, Planned}
use Rattle.xet_clean.specs.theorems.Adding.{recorded_in-append}
use Rattle.xet_clean.specs.theorems.Hashes.{all_leaves}
use Rattle.xet_clean.specs.theorems.InOrder.{are_records, recorded_split}
use Rattle.xet_clean.specs.theorems.Records.{records_filled}
use Rattle.xet_clean.specs.declared.policy.Sha256Policy.{Sha256Policy}

-- The first of these files, at most n, were recorded, and no others.
pub record HasRecorded (policy : Sha256Policy) (s : LimitSettings) (n : ℕ) (files : List (List ℕ)) (own : List (ℕ × Entry)) : Type 0 where
  pub count : ℕ
  pub few : count ≤ n
  pub are : AreRecords policy s (take count files) (recorded_in own)

module _ (policy : Sha256Policy) (start h : Holder) (files : List Planned) (infos : List XetFileInfo) (choices : List (List Choice)) (metrics : DeduplicationMetrics) (a : Aggregate)
    (w : IsWorking start h files infos choices metrics a) (same : AllByRecursion (λ f. f.policy ≡ policy) files) where
  abbrev bytes_of : List Planned → List (List ℕ)
  bytes_of fs = map (λ f. f.bytes) fs

  -- if the first records that waited were made
  pub first_recorded : (n : ℕ) → length files ≡ n → (bytes : List (List ℕ)) (own : List (ℕ × Entry)) (k : ℕ) → recorded_in own ≡ take k (filled_files a)
      → HasRecorded policy start.limits n (map (λ f. f.bytes) files ++ bytes) (w.follows.own ++ own)
  first_recorded n counted bytes own k is =
      let before : List MDBFileInfo = recorded_in w.follows.own in
      let parts : before ++ filled_files a ≡ (before ++ take k (filled_files a)) ++ drop k (filled_files a) =
      ap (λ (x : List MDBFileInfo). before ++ x) (sym (take-append-drop k (filled_files a))) ∙ sym (append_assoc before (take k (filled_files a)) (drop k (filled_files a))) in
      let s = recorded_split files (before ++ take k (filled_files a)) (drop k (filled_files a)) (subst (AreRecorded files) parts (records_filled a files before w.records)) in
      let made : bytes_of files ++ bytes ≡ bytes_of s.first ++ (bytes_of s.later ++ bytes) =
      ap (λ (x : List (List ℕ)). x ++ bytes) (ap (map (λ (f : Planned). f.bytes)) s.is ∙ map-append (λ (f : Planned). f.bytes) s.first s.later)
      ∙ append_assoc (bytes_of s.first) (bytes_of s.later) bytes in
      let first : take (length s.first) (bytes_of files ++ bytes) ≡ bytes_of s.first =
      ap (take (length s.first)) made ∙ take_at (bytes_of s.first) (bytes_of s.later ++ bytes) (length s.first) (length-map s.first (λ (f : Planned). f.bytes)) in
      let leaves = all_prefix (λ (f : Planned). f.plan.leaves ≡ leaves_in start.limits f.bytes) s.first s.later
      (subst (AllByRecursion (λ (f : Planned). f.plan.leaves ≡ leaves_in start.limits f.bytes)) s.is (all_leaves start h w.follows files w.planned)) in
      let policies = all_prefix (λ (f : Planned). f.policy ≡ policy) s.first s.later (subst (AllByRecursion (λ (f : Planned). f.policy ≡ policy)) s.is same) in
      record {
        count = length s.first;
        few = omega (arith, ap length s.is, length-append s.first s.later, counted);
        are = subst (λ (fs : List (List ℕ)). AreRecords policy start.limits fs (recorded_in (w.follows.own ++ own))) (sym first)
            (subst (AreRecords policy start.limits (bytes_of s.first)) (sym (recorded_in-append w.follows.own own ∙ ap (λ (x : List MDBFileInfo). before ++ x) is))
            (are_records policy start.limits s.first (before ++ take k (filled_files a)) leaves policies s.before));
      }
