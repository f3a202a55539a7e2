-- The leaves of planned files, and the hashes under which they are recorded.
use Rattle.std.proofs.Common.{◌≡◌, ◌∙◌, ℕ, List, [], ◌∷◌, length, map, refl, sym, ap, arith}
use Rattle.std.proofs.lemmas.List.{length-map}
use Rattle.std.proofs.lemmas.List.Sums.{sum_by-cons}
use Rattle.std.specs.List.{AllByRecursion, sum_by}
use Rattle.xet_base.specs.theorems.Elements.{all_more}
use Rattle.xet_cut.specs.Chunking.{chunking}
use Rattle.xet_cut.specs.declared.limits.LimitSettings.{LimitSettings}
use Rattle.xet_hash.specs.Merkle.{file_hash, leaf_of}
use Rattle.xet_shard_format.specs.Records.{file_record_hash}
use Rattle.xet_shard_format.specs.declared.record.MDBFileInfo.{MDBFileInfo}
use Rattle.xet_store_disk.specs.Cleaning.{info_of}
use Rattle.xet_store.specs.Holders.{Follows, Holder}
use Rattle.xet_clean.specs.Files.{leaves_in}
use Rattle.xet_clean.specs.Working.{IsRecordOf, Planned, WasPlanned}

module _ (start now : Holder) (follows : Follows start now) where
  module _ (f : Planned) (was : WasPlanned start now f) where
    -- its leaves are those of its bytes
    pub planned_leaves : f.plan.leaves ≡ leaves_in start.limits f.bytes
    planned_leaves = was.planned.leaves ∙ ap (λ (s : LimitSettings). leaves_in s f.bytes) (sym (ap (λ (h : Holder). h.limits) was.to.is) ∙ ap (λ (h : Holder). h.limits) follows.is)

    -- and the hash of its record is that of its pointer
    pub planned_hash : (file : MDBFileInfo) → IsRecordOf f file → file_record_hash file ≡ (info_of start.limits f.bytes).hash
    planned_hash file is = ap file_record_hash is.is ∙ ap file_hash planned_leaves

  pub all_leaves : (files : List Planned) → AllByRecursion (WasPlanned start now) files → AllByRecursion (λ f. f.plan.leaves ≡ leaves_in start.limits f.bytes) files
  all_leaves files = all_more (WasPlanned start now) (λ (f : Planned). f.plan.leaves ≡ leaves_in start.limits f.bytes) files planned_leaves

  -- the numbers of their chunks
  pub chunks_sum : (files : List Planned) → AllByRecursion (WasPlanned start now) files
      → sum_by (λ f. length f.plan.leaves) files ≡ sum_by (λ b. length (chunking start.limits b)) (map (λ f. f.bytes) files)
  chunks_sum [] planned = refl
  chunks_sum (f ∷ fs) planned =
      omega (
        arith,
        chunks_sum fs planned.1,
        ap length (planned_leaves f planned.0),
        length-map (chunking start.limits f.bytes) leaf_of,
        sum_by-cons (λ (g : Planned). length g.plan.leaves) f fs,
        sum_by-cons (λ (b : List ℕ). length (chunking start.limits b)) f.bytes (map (λ (g : Planned). g.bytes) fs),
      )
