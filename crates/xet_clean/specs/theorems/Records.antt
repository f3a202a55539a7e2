-- Records of files whose segments change, but not how many chunks each has; and records that wait for more chunks.
use Rattle.std.proofs.Common.{◌≡◌, ◌∙◌, ℕ, ◌+◌, ◌-◌, ◌<◌, Bool, true, false, List, [], ◌∷◌, ◌++◌, length, map, take, drop, Option, refl, sym, ap, subst, arith, length-append, if◌then◌else◌}
use Rattle.std.proofs.lemmas.List.{drop-drop, drop_at, length-map, map-append}
use Rattle.std.proofs.lemmas.Simd.{map-map}
use Rattle.xet_aggregate.specs.Aggregate.{Aggregate, Pending, filled, filled_segment, shifted, shifted_segment}
use Rattle.xet_choices.specs.Choices.{hashes_of}
use Rattle.xet_dedup.specs.Records.{file_record, range_hashes}
use Rattle.xet_dedup_queries.specs.Interface.{run_len}
use Rattle.xet_file_plan.specs.Moves.{counts_of, is_open}
use Rattle.xet_file_plan.specs.Placed.{ArePlaced, HasHashes, LiesInBlock}
use Rattle.xet_file_plan.specs.theorems.Placed.{closed_lies, has_hashes_closed, has_hashes_open, open_lies, placed_changed, placed_stays}
use Rattle.xet_file_plan.specs.theorems.Runs.{hashes_stay}
use Rattle.xet_hash.specs.Hash.{sentinel}
use Rattle.xet_hash.specs.Merkle.{range_hash, xorb_hash}
use Rattle.xet_shard_format.specs.declared.record.FileDataSequenceEntry.{FileDataSequenceEntry as Segment}
use Rattle.xet_shard_format.specs.declared.record.FileVerificationEntry.{FileVerificationEntry}
use Rattle.xet_shard_format.specs.declared.record.MDBFileInfo.{MDBFileInfo}
use Rattle.xet_xorb_chunk.specs.declared.chunk.Chunk.{Chunk}
use Rattle.xet_xorb_chunk.specs.Chunks.{chunk_leaf, total}
use Rattle.xet_store.specs.Interface.{Stands}
use Rattle.xet_store.specs.Holders.{Holder, core_at, lengths_in}
use Rattle.xet_clean.specs.Closing.{filled_files}
use Rattle.xet_clean.specs.Working.{AreRecorded, IsRecordOf, Planned, Waits}
use Rattle.xet_clean.specs.theorems.InOrder.{recorded_changed_after}
use Rattle.xet_clean.specs.theorems.Keeping.{any_left, any_more, any_right}
use Rattle.xet_clean.specs.Policies.{sha256_by}

-- ---- segments with as many chunks

module _ (g : Segment → Segment) (same : (s : Segment) → run_len (g s) ≡ run_len s) where
  counts_same : (ss : List Segment) → counts_of (map g ss) ≡ counts_of ss
  counts_same [] = refl
  counts_same (s ∷ ss) = λ i. same s i ∷ counts_same ss i

  abbrev row : ℕ → List (List ℕ × ℕ) → FileVerificationEntry
  row n leaves = record { range_hash = range_hash (map (λ (m : List ℕ × ℕ). m.0) (take n leaves)) }

  range_hashes_same : (ss : List Segment) (leaves : List (List ℕ × ℕ)) → range_hashes (map g ss) leaves ≡ range_hashes ss leaves
  range_hashes_same [] leaves = refl
  range_hashes_same (s ∷ ss) leaves =
      (λ i. row (same s i) leaves ∷ range_hashes (map g ss) (drop (same s i) leaves))
      ∙ ap (λ (l : List FileVerificationEntry). row (run_len s) leaves ∷ l) (range_hashes_same ss (drop (run_len s) leaves))

  record_same : (leaves : List (List ℕ × ℕ)) (ss : List Segment) (digest : Option (List ℕ)) → record (file_record leaves ss digest) { segments = map g ss } ≡ file_record leaves (map g ss) digest
  record_same leaves ss digest = λ i.
      record (file_record leaves ss digest) {
        metadata = record (file_record leaves ss digest).metadata { num_entries = sym (length-map ss g) i };
        segments = map g ss;
        verification = sym (range_hashes_same ss leaves) i;
      }

  -- it stays the record of its file
  pub record_changed : (f : Planned) (file : MDBFileInfo) → IsRecordOf f file → IsRecordOf f (record file { segments = map g file.segments })
  record_changed f file r = record {
    some = r.some;
    segments = map g r.segments;
    counts = counts_same r.segments ∙ r.counts;
    is = ap (λ (x : MDBFileInfo). record x { segments = map g x.segments }) r.is ∙ record_same f.plan.leaves r.segments (sha256_by f.policy f.bytes);
  }

abbrev moved : ℕ → Segment → Segment
moved n s = record s { chunk_index_start = s.chunk_index_start + n; chunk_index_end = s.chunk_index_end + n }

moved_len : (n : ℕ) (s : Segment) → run_len (moved n s) ≡ run_len s
moved_len n s = let e : (s.chunk_index_end + n) - (s.chunk_index_start + n) ≡ s.chunk_index_end - s.chunk_index_start = omega arith in e

pub shifted_len : (n : ℕ) (s : Segment) → run_len (shifted_segment n s) ≡ run_len s
unfolding shifted_segment
shifted_len n s = go (is_open s)
  where
    go : (b : Bool) → run_len (if b then moved n s else s) ≡ run_len s
    go true = moved_len n s
    go false = refl

pub filled_len : (hash : List ℕ) (s : Segment) → run_len (filled_segment hash s) ≡ run_len s
unfolding filled_segment
filled_len hash s = go (is_open s)
  where
    go : (b : Bool) → run_len (if b then record s { xorb_hash = hash } else s) ≡ run_len s
    go true = refl
    go false = refl

-- ---- chunks before those of a record

shifted_open : (n : ℕ) (s : Segment) → is_open s ≡ true → shifted_segment n s ≡ moved n s
unfolding shifted_segment
shifted_open n s e = ap (λ (b : Bool). if b then moved n s else s) e

shifted_closed : (n : ℕ) (s : Segment) → is_open s ≡ false → shifted_segment n s ≡ s
unfolding shifted_segment
shifted_closed n s e = ap (λ (b : Bool). if b then moved n s else s) e

drop_later : {X : Type 0} (xs ys : List X) (start n : ℕ) → length xs ≡ n → drop (start + n) (xs ++ ys) ≡ drop start ys
drop_later xs ys start n e =
    let place : start + n ≡ n + start = omega arith in
    ap (λ (k : ℕ). drop k (xs ++ ys)) place ∙ sym (drop-drop start n (xs ++ ys)) ∙ ap (drop start) (drop_at xs ys n e)

module _ (listing : List ℕ → Option (List ℕ)) (standing : List (List ℕ) → Segment → Type 0) (first block : List Chunk) where
  lies_later : (s : Segment) (hashes : List (List ℕ)) → LiesInBlock block s hashes → LiesInBlock (first ++ block) (moved (length first) s) hashes
  lies_later s hashes l =
      let len : run_len (moved (length first) s) ≡ run_len s = moved_len (length first) s in
      let mapped : hashes_of (map chunk_leaf (first ++ block)) ≡ hashes_of (map chunk_leaf first) ++ hashes_of (map chunk_leaf block) =
      ap hashes_of (map-append chunk_leaf first block) ∙ map-append (λ (m : List ℕ × ℕ). m.0) (map chunk_leaf first) (map chunk_leaf block) in
      let front : length (hashes_of (map chunk_leaf first)) ≡ length first = length-map (map chunk_leaf first) (λ (m : List ℕ × ℕ). m.0) ∙ length-map first chunk_leaf in
      let rest : drop (s.chunk_index_start + length first) (first ++ block) ≡ drop s.chunk_index_start block = drop_later first block s.chunk_index_start (length first) refl in
      let ends : (s.chunk_index_start + run_len s) + length first ≡ (s.chunk_index_start + length first) + run_len (moved (length first) s) = omega (arith, len) in
      record {
        within = omega (arith, l.within, length-append first block);
        run = ap (moved (length first)) l.run
            ∙ (λ i. record {
              xorb_hash = sentinel;
              xorb_flags = 0;
              unpacked_segment_bytes = total (take (sym len i) (sym rest i));
              chunk_index_start = s.chunk_index_start + length first;
              chunk_index_end = ends i;
            });
        same =
            (λ i. take (len i) (drop (s.chunk_index_start + length first) (mapped i)))
            ∙ ap (take (run_len s)) (drop_later (hashes_of (map chunk_leaf first)) (hashes_of (map chunk_leaf block)) s.chunk_index_start (length first) front)
            ∙ l.same;
      }

  hashes_later : (s : Segment) (hashes : List (List ℕ)) → 0 < run_len s → HasHashes listing standing block s hashes → HasHashes listing standing (first ++ block) (shifted_segment (length first) s) hashes
  hashes_later s hashes pos h = by (is_open s) refl
    where
      by : (b : Bool) → is_open s ≡ b → HasHashes listing standing (first ++ block) (shifted_segment (length first) s) hashes
      by true e =
          subst (λ (t : Segment). HasHashes listing standing (first ++ block) t hashes) (sym (shifted_open (length first) s e))
          (has_hashes_open listing standing (first ++ block) (moved (length first) s) hashes e (lies_later s hashes (open_lies listing standing block s hashes e h)))
      by false e =
          subst (λ (t : Segment). HasHashes listing standing (first ++ block) t hashes) (sym (shifted_closed (length first) s e))
          (has_hashes_closed listing standing (first ++ block) s hashes e (closed_lies listing standing block s hashes e h))

  placed_later : (ss : List Segment) (hashes : List (List ℕ)) → ArePlaced listing standing block ss hashes → ArePlaced listing standing (first ++ block) (map (shifted_segment (length first)) ss) hashes
  placed_later = placed_changed listing listing standing standing block (first ++ block) (shifted_segment (length first)) (shifted_len (length first)) hashes_later

  placed_earlier : (ss : List Segment) (hashes : List (List ℕ)) → ArePlaced listing standing first ss hashes → ArePlaced listing standing (first ++ block) ss hashes
  placed_earlier = placed_stays listing listing standing standing first (first ++ block) (hashes_stay listing standing first block)

-- ---- records that wait

module _ (now : Holder) (first block : List Chunk) (files : List Planned) where
  -- the chunks go on
  pub waits_earlier : (file : MDBFileInfo) → Waits now first files file → Waits now (first ++ block) files file
  waits_earlier file =
      any_more (λ (p : Planned). IsRecordOf p file × ArePlaced (lengths_in (core_at now)) (Stands now) first file.segments (hashes_of p.plan.leaves))
      (λ (p : Planned). IsRecordOf p file × ArePlaced (lengths_in (core_at now)) (Stands now) (first ++ block) file.segments (hashes_of p.plan.leaves)) files
      (λ p w. (w.0, placed_earlier (lengths_in (core_at now)) (Stands now) first block file.segments (hashes_of p.plan.leaves) w.1))

  -- there are chunks before
  pub waits_later : (file : MDBFileInfo) → Waits now block files file → Waits now (first ++ block) files (shifted (length first) file)
  waits_later file =
      any_more (λ (p : Planned). IsRecordOf p file × ArePlaced (lengths_in (core_at now)) (Stands now) block file.segments (hashes_of p.plan.leaves))
      (λ (p : Planned). IsRecordOf p (shifted (length first) file) × ArePlaced (lengths_in (core_at now)) (Stands now) (first ++ block) (shifted (length first) file).segments (hashes_of p.plan.leaves)) files
      (λ p w. (
        record_changed (shifted_segment (length first)) (shifted_len (length first)) p file w.0,
        placed_later (lengths_in (core_at now)) (Stands now) first block file.segments (hashes_of p.plan.leaves) w.1,
      ))

-- there are more files
pub waits_among_more : (now : Holder) (chunks : List Chunk) (files more : List Planned) (file : MDBFileInfo) → Waits now chunks files file → Waits now chunks (files ++ more) file
waits_among_more now chunks files more file =
    any_left (λ (p : Planned). IsRecordOf p file × ArePlaced (lengths_in (core_at now)) (Stands now) chunks file.segments (hashes_of p.plan.leaves)) files more

pub waits_among_earlier : (now : Holder) (chunks : List Chunk) (more files : List Planned) (file : MDBFileInfo) → Waits now chunks files file → Waits now chunks (more ++ files) file
waits_among_earlier now chunks more files file =
    any_right (λ (p : Planned). IsRecordOf p file × ArePlaced (lengths_in (core_at now)) (Stands now) chunks file.segments (hashes_of p.plan.leaves)) more files

-- the record with the hash of its xorb
pub filled_of : (hash : List ℕ) (p : Planned) (file : MDBFileInfo) → IsRecordOf p file → IsRecordOf p (filled hash file)
filled_of hash = record_changed (filled_segment hash) (filled_len hash)

pub shifted_of : (n : ℕ) (p : Planned) (file : MDBFileInfo) → IsRecordOf p file → IsRecordOf p (shifted n file)
shifted_of n = record_changed (shifted_segment n) (shifted_len n)

-- the records that waited, with the hash of their xorb
pub records_filled : (a : Aggregate) (files : List Planned) (earlier : List MDBFileInfo) → AreRecorded files (earlier ++ map (λ p. p.0) a.files) → AreRecorded files (earlier ++ filled_files a)
records_filled a files earlier all =
    let hash : List ℕ = xorb_hash (map chunk_leaf a.chunks) in
    subst (λ (l : List MDBFileInfo). AreRecorded files (earlier ++ l)) (map-map (filled hash) (λ (p : Pending). p.0) a.files)
    (recorded_changed_after (filled hash) (filled_of hash) files earlier (map (λ (p : Pending). p.0) a.files) all)
