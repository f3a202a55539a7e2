-- Verification rows, one row more.
use Rattle.std.proofs.Common.{◌≡◌, ◌∙◌, ℕ, suc, ◌+◌, ◌<◌, List, [], ◌∷◌, map, length, take, drop, get_or, sym, ap, refl}
use Rattle.xet_hash.specs.Merkle.{range_hash}
use Rattle.xet_shard_format.specs.declared.record.FileDataSequenceEntry.{FileDataSequenceEntry as Segment}
use Rattle.xet_shard_format.specs.declared.record.FileVerificationEntry.{FileVerificationEntry}
use Rattle.xet_folder.specs.theorems.Rest.{left}
use Rattle.xet_dedup.specs.Records.{range_hashes, run_len}

-- the range hash of a segment's chunks, of those that are left
abbrev pub first_hash : Segment → List (List ℕ × ℕ) → List ℕ
first_hash s rest = range_hash (map (λ m. m.0) (take (run_len s) rest))

pub length-range_hashes : (segments : List Segment) (leaves : List (List ℕ × ℕ)) → length (range_hashes segments leaves) ≡ length segments
length-range_hashes [] leaves = refl
length-range_hashes (s ∷ ss) leaves = ap suc (length-range_hashes ss (drop (run_len s) leaves))

module _ (rows : List FileVerificationEntry) (segments : List Segment) (i : ℕ) (r : FileVerificationEntry) (s : Segment) (in_rows : i < length rows) (in_segments : i < length segments)
    (is_row : r ≡ get_or rows i r) (is_segment : s ≡ get_or segments i s) (rest : List (List ℕ × ℕ)) where
  -- what is left from a row on: the row, and what is left after it
  pub rows_left : drop i rows ≡ range_hashes (drop i segments) rest → (r.range_hash ≡ first_hash s rest) × (drop (i + 1) rows ≡ range_hashes (drop (i + 1) segments) (drop (run_len s) rest))
  rows_left same =
      let joined : r ∷ drop (i + 1) rows ≡ range_hashes (s ∷ drop (i + 1) segments) rest =
      sym (left rows i r in_rows is_row) ∙ same ∙ ap (λ (l : List Segment). range_hashes l rest) (left segments i s in_segments is_segment) in
      let first : r ≡ record { range_hash = first_hash s rest } = cc in
      (ap (λ (v : FileVerificationEntry). v.range_hash) first, cc)

  pub rows_right : r.range_hash ≡ first_hash s rest → drop (i + 1) rows ≡ range_hashes (drop (i + 1) segments) (drop (run_len s) rest) → drop i rows ≡ range_hashes (drop i segments) rest
  rows_right here same =
      let P : List ℕ → List FileVerificationEntry = λ h. record { range_hash = h } ∷ drop (i + 1) rows in
      left rows i r in_rows is_row ∙ ap P here ∙ ap (λ (l : List FileVerificationEntry). record { range_hash = first_hash s rest } ∷ l) same
      ∙ sym (ap (λ (l : List Segment). range_hashes l rest) (left segments i s in_segments is_segment))
