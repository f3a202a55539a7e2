-- The record of a file is well formed, while it waits for its xorb and once it has its hash.
use Rattle.std.proofs.Common.{◌≡◌, ◌∙◌, ℕ, true, if◌then◌else◌, List, [], ◌∷◌, length, map, drop, Option, Some, None, refl, sym, ap, arith}
use Rattle.std.specs.List.{AllByRecursion}
use Rattle.std.specs.Prelude.{is_some}
use Rattle.std.proofs.lemmas.List.{length-map}
use Rattle.xet_aggregate.specs.Aggregate.{Aggregate, KeepsSizes, Pending, filled, merged, shifted, shifted_file, single}
use Rattle.xet_aggregate.specs.theorems.Sizes.{KeepsSizes-filled, KeepsSizes-shifted}
use Rattle.xet_base.specs.theorems.Elements.{all_both}
use Rattle.xet_choices.specs.Calls.{Call}
use Rattle.xet_file_plan.specs.Moves.{PlanState}
use Rattle.xet_file_plan.specs.theorems.Flags.{plan_since_plain}
use Rattle.xet_shard_format.specs.Records.{IsFile, flags_of}
use Rattle.xet_shard_format.specs.declared.record.FileDataSequenceEntry.{FileDataSequenceEntry as Segment}
use Rattle.xet_shard_format.specs.declared.record.FileMetadataExt.{FileMetadataExt}
use Rattle.xet_shard_format.specs.declared.record.MDBFileInfo.{MDBFileInfo}
use Rattle.xet_xorb_chunk.specs.declared.chunk.Chunk.{Chunk}
use Rattle.xet_dedup.specs.Deduping.{IsDeduped}
use Rattle.xet_dedup.specs.Records.{file_record, range_hashes, run_len}

-- ---- the record of a plan

-- there is one range hash for each segment
pub length-range_hashes : (segments : List Segment) (leaves : List (List ℕ × ℕ)) → length (range_hashes segments leaves) ≡ length segments
length-range_hashes [] leaves = refl
length-range_hashes (s ∷ ss) leaves = omega (arith, length-range_hashes ss (drop (run_len s) leaves))

same_flag : (sha256 : Option (List ℕ)) → is_some sha256 ≡ is_some (file_record [] [] sha256).metadata_ext
same_flag None = refl
same_flag (Some digest) = refl

-- The record of a file is well formed if the segments of its plan have no flags,
pub record_is_file : (leaves : List (List ℕ × ℕ)) (segments : List Segment) (sha256 : Option (List ℕ)) → AllByRecursion (λ s. s.xorb_flags ≡ 0) segments
    → IsFile (file_record leaves segments sha256)
record_is_file leaves segments sha256 plain = record {
  counted = refl;
  plain = plain;
  verified = true;
  verifications = length-range_hashes segments leaves;
  flags = ap (flags_of true) (same_flag sha256);
}

module _ (listing : List ℕ → Option (List ℕ)) (standing : List (List ℕ) → Segment → Type 0) (before calls : List Call) (cut : ℕ × ℕ) (p : PlanState) (deduped : IsDeduped listing standing before calls cut p) where
  -- so it is if the plan is right.
  pub deduped_is_file : (sha256 : Option (List ℕ)) → IsFile (file_record p.leaves p.segments sha256)
  deduped_is_file sha256 = record_is_file p.leaves p.segments sha256 (plan_since_plain listing standing before calls p.leaves p deduped.plan)

  -- The record that waits after `finalize` is well formed.
  pub finalized_are_files : (block : List Chunk) (sha256 : Option (List ℕ)) (open_segments : List ℕ) (id : ℕ)
      → AllByRecursion (λ w. IsFile w.0) (single block (file_record p.leaves p.segments sha256) open_segments id).files
  finalized_are_files block sha256 open_segments id = (deduped_is_file sha256, tt)

-- ---- records that wait, and that have their xorb

plain_by_flags : (old new : List Segment) → map (λ s. s.xorb_flags) new ≡ map (λ s. s.xorb_flags) old → AllByRecursion (λ s. s.xorb_flags ≡ 0) old → AllByRecursion (λ s. s.xorb_flags ≡ 0) new
plain_by_flags [] [] same plain = tt
plain_by_flags [] (t ∷ new) same plain = absurd (cc same)
plain_by_flags (s ∷ old) [] same plain = absurd (cc same)
plain_by_flags (s ∷ old) (t ∷ new) same plain =
    let first : t.xorb_flags ≡ s.xorb_flags = cc same in
    (first ∙ plain.0, plain_by_flags old new (cc same) plain.1)

-- A record of which nothing changed but the xorb hashes of its segments, and where their chunks begin, stays well formed:
pub sizes_keep_file : (old new : MDBFileInfo) → KeepsSizes old new → IsFile old → IsFile new
sizes_keep_file old new keeps is =
    let segments : length new.segments ≡ length old.segments =
    sym (length-map new.segments (λ s. s.xorb_flags)) ∙ ap length keeps.flags ∙ length-map old.segments (λ s. s.xorb_flags) in
    record {
      counted = ap (λ m. m.num_entries) keeps.metadata ∙ is.counted ∙ sym segments;
      plain = plain_by_flags old.segments new.segments keeps.flags is.plain;
      verified = is.verified;
      verifications = ap length keeps.verification ∙ is.verifications ∙ ap (λ (n : ℕ). if is.verified then n else 0) (sym segments);
      flags = ap (λ m. m.file_flags) keeps.metadata ∙ is.flags ∙ ap (λ (ext : Option FileMetadataExt). flags_of is.verified (is_some ext)) (sym keeps.metadata_ext);
    }

-- a record whose open segments are further on in the chunks,
pub shifted_is_file : (n : ℕ) (file : MDBFileInfo) → IsFile file → IsFile (shifted n file)
shifted_is_file n file = sizes_keep_file file (shifted n file) (KeepsSizes-shifted n file)

-- and one whose open segments have the hash of their xorb.
pub filled_is_file : (hash : List ℕ) (file : MDBFileInfo) → IsFile file → IsFile (filled hash file)
filled_is_file hash file = sizes_keep_file file (filled hash file) (KeepsSizes-filled hash file)

shifted_are_files : (n : ℕ) (files : List Pending) → AllByRecursion (λ w. IsFile w.0) files → AllByRecursion (λ w. IsFile w.0) (map (shifted_file n) files)
shifted_are_files n [] are = tt
shifted_are_files n (w ∷ files) are = (shifted_is_file n w.0 are.0, shifted_are_files n files are.1)

-- The records that wait in two aggregates stay well formed when these are merged,
pub merged_are_files : (a b : Aggregate) → AllByRecursion (λ w. IsFile w.0) a.files → AllByRecursion (λ w. IsFile w.0) b.files → AllByRecursion (λ w. IsFile w.0) (merged a b).files
merged_are_files a b first second = all_both (λ w. IsFile w.0) a.files (map (shifted_file (length a.chunks)) b.files) first (shifted_are_files (length a.chunks) b.files second)

-- and when they have the hash of their xorb.
pub filled_are_files : (hash : List ℕ) (files : List Pending) → AllByRecursion (λ w. IsFile w.0) files → AllByRecursion IsFile (map (λ w. filled hash w.0) files)
filled_are_files hash [] are = tt
filled_are_files hash (w ∷ files) are = (filled_is_file hash w.0 are.0, filled_are_files hash files are.1)
