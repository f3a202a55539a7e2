-- What is read of a file.
use Rattle.std.proofs.Common.{◌≡◌, ◌⊎◌, inl, inr, ◌∙◌, ℕ, ◌-◌, ◌<◌, ◌≤◌, ◌^◌, lit<, Bool, true, false, nat_eq, List, [], ◌∷◌, ◌++◌, length, length-append, take, Some, refl, sym, ap, subst, arith, append_assoc}
use Rattle.std.proofs.lemmas.List.Folds.{concat-append}
use Rattle.std.proofs.lemmas.List.Sums.{sum_by-cons, sum_by-take-drop}
use Rattle.std.specs.Cmp.Lexicographic.{pointwise}
use Rattle.std.specs.List.{concat, sum_by}
use Rattle.xet_io.specs.Disk.{Files}
use Rattle.xet_hash.specs.Hash.{zero_hash}
use Rattle.xet_hash.specs.Merkle.{leaf_of, leaves_of, total_len}
use Rattle.xet_shard_format.specs.declared.record.FileDataSequenceEntry.{FileDataSequenceEntry as Segment}
use Rattle.xet_shard_format.specs.declared.record.MDBFileInfo.{MDBFileInfo}
use Rattle.xet_folder.specs.Plan.{Resolves, part, plan_bytes, range}
use Rattle.xet_folder.specs.Recorded.{IsPlanRest}
use Rattle.xet_folder.specs.Stored.{IsStored}
use Rattle.xet_folder.specs.Xorbs.{IsListed, FileRecords, Xorbs, found}
use Rattle.xet_folder.specs.theorems.Placing.{Leaf, plain_joined}
use Rattle.xet_folder.specs.theorems.Ranges.{range-append, range_past}
use Rattle.xet_folder.specs.Contents.{IsRecord}
use Rattle.xet_store_disk.specs.Ranges.{IsRange}
use Rattle.xet_store_disk.specs.Store.{Sound, State, plan_of}
use Rattle.xet_store_disk.specs.internal.Reading.{IsStoredListed, ResolvesListed, LiesListed}
use Rattle.xet_store_disk.specs.theorems.Plans.{resolves_bytes, resolves_map, resolves_more, resolves_split, part-map, record_bytes}
use Rattle.xet_store_disk.specs.theorems.Staying.{changed}
use Rattle.xet_store_disk.specs.theorems.Whole.{found_has, mapped}

-- one xorb is listed with one list of leaves
pub listed_once : (xorbs : Xorbs) (h : List ℕ) (ms ns : List Leaf) → IsListed xorbs h ms → IsListed xorbs h ns → ms ≡ ns
listed_once xorbs h ms ns a b = let both : Some ms ≡ Some ns = sym a ∙ b in cc

-- the bytes of a segment's chunks
pub part_size : (xorbs : Xorbs) (s : Segment) (chunks : List (List ℕ)) → LiesListed xorbs s → IsListed xorbs s.xorb_hash (leaves_of chunks) → s.unpacked_segment_bytes ≡ length (concat (part s chunks))
part_size xorbs s chunks (leaves, listed, lies) here =
    let same : leaves ≡ leaves_of chunks = listed_once xorbs s.xorb_hash leaves (leaves_of chunks) listed here in
    lies.bytes ∙ ap (λ (ms : List Leaf). total_len (part s ms)) same ∙ ap (λ (ms : List Leaf). total_len ms) (part-map leaf_of s chunks) ∙ plain_joined (part s chunks)

-- What is left to read of a plan, which with what was read makes the whole.
pub record Goes (Has : List ℕ → List (List ℕ) → Type 0) (plan : List Segment) (out : List ℕ) (from to : ℕ) (whole : List ℕ) : Type 0 where
  pub chunks : List (List ℕ)
  pub resolves : Resolves Has length plan chunks
  pub is : out ++ range (concat chunks) from to ≡ whole

-- one segment more
pub goes_more : (Has : List ℕ → List (List ℕ) → Type 0) (s : Segment) (plan : List Segment) (out new : List ℕ) (from to : ℕ) (whole : List ℕ)
    → ((xs : List (List ℕ)) → Has s.xorb_hash xs → (new ≡ out ++ range (concat (part s xs)) from to) × (s.unpacked_segment_bytes ≡ length (concat (part s xs))))
    → Goes Has (s ∷ plan) out from to whole → Goes Has plan new (from - s.unpacked_segment_bytes) (to - s.unpacked_segment_bytes) whole
goes_more Has s plan out new from to whole reads g =
    let xs = g.resolves.0 in
    let rest = g.resolves.1 in
    let read = reads xs g.resolves.2 in
    let here : List ℕ = concat (part s xs) in
    let tail : List ℕ = concat rest in
    let joined : concat g.chunks ≡ here ++ tail = ap (λ (l : List (List ℕ)). concat l) g.resolves.4 ∙ concat-append (part s xs) rest in
    let split : range (concat g.chunks) from to ≡ range here from to ++ range tail (from - s.unpacked_segment_bytes) (to - s.unpacked_segment_bytes) =
    ap (λ (l : List ℕ). range l from to) joined ∙ range-append here tail from to ∙ ap (λ (n : ℕ). range here from to ++ range tail (from - n) (to - n)) (sym read.1) in
    record {
      chunks = rest;
      resolves = g.resolves.5;
      is = ap (λ (l : List ℕ). l ++ range tail (from - s.unpacked_segment_bytes) (to - s.unpacked_segment_bytes)) read.0
          ∙ append_assoc out (range here from to) (range tail (from - s.unpacked_segment_bytes) (to - s.unpacked_segment_bytes)) ∙ ap (λ (l : List ℕ). out ++ l) (sym split) ∙ g.is;
    }

-- ---- ranges behind the first segments

joined_bytes : (chunks : List (List ℕ)) → sum_by length chunks ≡ length (concat chunks)
joined_bytes [] = refl
joined_bytes (c ∷ cs) = omega (arith, sum_by-cons (λ (x : List ℕ). length x) c cs, joined_bytes cs, length-append c (concat cs))

-- What the segments of a plan's rest join to, of which the range is the same, less the bytes before.
pub record RestRange (Has : List ℕ → List (List ℕ) → Type 0) (rest : List Segment) (chunks : List (List ℕ)) (before from to : ℕ) : Type 0 where
  pub left : List (List ℕ)
  pub resolves : Resolves Has length rest left
  pub same : range (concat chunks) from to ≡ range (concat left) (from - before) (to - before)

module _ (plan : List Segment) (from before : ℕ) (rest : List Segment) (is : IsPlanRest plan from before rest) where
  pub rest_joins : (xorbs : Xorbs) → ResolvesListed xorbs plan → ResolvesListed xorbs rest
  rest_joins xorbs (leaves, resolves) =
      let split = resolves_split (IsListed xorbs) (λ (m : Leaf). m.1) plan is.first leaves resolves in
      subst (λ (l : List Segment). ResolvesListed xorbs l) (sym is.is) (split.rest, split.resolves)

  pub rest_within : (to : ℕ) → to ≤ plan_bytes plan → to - before ≤ plan_bytes rest
  rest_within to within =
      omega (arith, is.bytes, ap (λ (l : List Segment). plan_bytes l) is.is, sum_by-take-drop (λ (s : Segment). s.unpacked_segment_bytes) plan is.first)

  pub rest_range : (Has : List ℕ → List (List ℕ) → Type 0) (to : ℕ) (chunks : List (List ℕ)) → Resolves Has length plan chunks → RestRange Has rest chunks before from to
  rest_range Has to chunks resolves =
      let split = resolves_split Has length plan is.first chunks resolves in
      let here : List ℕ = concat split.prefix in
      let tail : List ℕ = concat split.rest in
      let long : length here ≡ before = sym (joined_bytes split.prefix) ∙ sym (resolves_bytes Has length (take is.first plan) split.prefix split.before) ∙ sym is.bytes in
      let joined : concat chunks ≡ here ++ tail = ap (λ (l : List (List ℕ)). concat l) split.is ∙ concat-append split.prefix split.rest in
      record {
        left = split.rest;
        resolves = subst (λ (l : List Segment). Resolves Has length l split.rest) (sym is.is) split.resolves;
        same = ap (λ (l : List ℕ). range l from to) joined ∙ range-append here tail from to
            ∙ ap (λ (l : List ℕ). l ++ range tail (from - length here) (to - length here)) (range_past here from to (omega (arith, long, is.begins)))
            ∙ ap (λ (n : ℕ). range tail (from - n) (to - n)) long;
      }

-- ---- plans of a sound store

-- a plan is that of a record, or empty
planned : (records : FileRecords) (h : List ℕ) (plan : List Segment) → plan_of records h ≡ Some plan → (plan ≡ []) ⊎ ((f : MDBFileInfo) × (found records h ≡ Some f) × (f.segments ≡ plan))
unfolding plan_of
planned records h plan e = by_cases (pointwise nat_eq h zero_hash) refl
  where
    by_cases : (b : Bool) → pointwise nat_eq h zero_hash ≡ b → (plan ≡ []) ⊎ ((f : MDBFileInfo) × (found records h ≡ Some f) × (f.segments ≡ plan))
    by_cases true t = let none : Some [] ≡ Some plan = rw (t, plan_of) at e in inl (cc)
    by_cases false t = inr (mapped (λ (f : MDBFileInfo). f.segments) (found records h) plan (rw (t, plan_of) at e))

module _ (s : State) (sound : Sound s) (h : List ℕ) (plan : List Segment) (has : plan_of s.records h ≡ Some plan) where
  pub plan_joins : ResolvesListed s.xorbs plan
  plan_joins = go (planned s.records h plan has)
    where
      go : (plan ≡ []) ⊎ ((f : MDBFileInfo) × (found s.records h ≡ Some f) × (f.segments ≡ plan)) → ResolvesListed s.xorbs plan
      go (inl none) = subst (λ (l : List Segment). ResolvesListed s.xorbs l) (sym none) ([], refl)
      go (inr (f, there, is)) = let r = found_has (IsRecord s.xorbs) s.records h f sound.recorded there in subst (λ (l : List Segment). ResolvesListed s.xorbs l) is (r.leaves, r.resolves)

  pub plan_fits : plan_bytes plan < 2 ^ 64
  plan_fits = go (planned s.records h plan has)
    where
      go : (plan ≡ []) ⊎ ((f : MDBFileInfo) × (found s.records h ≡ Some f) × (f.segments ≡ plan)) → plan_bytes plan < 2 ^ 64
      go (inl none) = subst (λ (l : List Segment). plan_bytes l < 2 ^ 64) (sym none) (lit< tt)
      go (inr (f, there, is)) = subst (λ (l : List Segment). plan_bytes l < 2 ^ 64) is (record_bytes s.xorbs (h, f) (found_has (IsRecord s.xorbs) s.records h f sound.recorded there))

  -- what is read of the chunks to which it resolves is a range of the file
  pub is_range : (from to : ℕ) (bytes : List ℕ) → s.tells ≡ true → ((chunks : List (List ℕ)) → Resolves (IsStoredListed s.files s.folder s.xorbs) length plan chunks → bytes ≡ range (concat chunks) from to)
      → IsRange s h from to bytes
  is_range from to bytes told read =
      let whole = resolves_map leaf_of (IsListed s.xorbs) (IsStoredListed s.files s.folder s.xorbs) (λ (m : Leaf). m.1)
      (λ k leaves listed. let b = sound.backed told k leaves listed in (b.chunks, (b.stored, listed ∙ ap Some (sym b.same)), b.same)) plan plan_joins.0 plan_joins.1 in
      record {
        plan = plan;
        planned = has;
        chunks = whole.0;
        resolves = resolves_more (IsStoredListed s.files s.folder s.xorbs) (IsStored s.files s.folder) length (λ k c x. x.0) plan whole.0 whole.1;
        is = read whole.0 whole.1;
      }

-- reading leaves a store sound, however often its disk fails
pub sound_read : (s : State) (tells : Bool) (files : Files) (faults : ℕ) → Sound s → tells ≡ s.tells → files ≡ s.files → Sound (changed s tells files faults s.xorbs s.records s.shards s.pending)
sound_read s tells files faults sound same_tells same_files =
    let counted : Sound (changed s s.tells s.files faults s.xorbs s.records s.shards s.pending) = record {
      backed = sound.backed;
      recorded = sound.recorded;
      kept = sound.kept;
      held = sound.held;
      blocks = sound.blocks;
      pending_files = sound.pending_files;
      admitted = sound.admitted;
      hashes = sound.hashes;
      shards_hashes = sound.shards_hashes;
      xorbs_differ = sound.xorbs_differ;
      records_differ = sound.records_differ;
    } in
    subst (λ (t : Bool). Sound (changed s t files faults s.xorbs s.records s.shards s.pending)) (sym same_tells)
    (subst (λ (f : Files). Sound (changed s s.tells f faults s.xorbs s.records s.shards s.pending)) (sym same_files) counted)
