-- The bytes of a run, with those of a segment that it makes longer, stay below 2^32.
use Rattle.std.proofs.Common.{◌≡◌, ◌∙◌, ◌&&◌, MatchBool, ℕ, ◌+◌, ◌≤◌, ◌<◌, ◌^◌, if◌then◌else◌, Bool, true, false, nat_eq, List, [], ◌∷◌, ◌++◌, drop, length, refl, sym, ap, sum, take, Option, arith}
use Rattle.std.proofs.lemmas.Bool.Decides.{nat_tests}
use Rattle.std.proofs.lemmas.List.{drop-drop}
use Rattle.std.proofs.lemmas.List.Sums.{sum_by-take-drop, sum_by-take-le}
use Rattle.std.specs.Cmp.Lexicographic.{bytes_decides, pointwise}
use Rattle.std.specs.List.{sum_by}
use Rattle.xet_dedup_queries.specs.Interface.{LiesIn, run_len}
use Rattle.xet_hash.specs.Hash.{sentinel}
use Rattle.xet_shard_format.specs.declared.record.FileDataSequenceEntry.{FileDataSequenceEntry as Segment}
use Rattle.xet_xorb_chunk.specs.declared.chunk.Chunk.{Chunk}
use Rattle.xet_xorb_chunk.specs.Chunks.{total}
use Rattle.xet_file_plan.specs.Kept.{IsBlockRun, joined_bytes}
use Rattle.xet_file_plan.specs.Moves.{goes_on, is_open}
use Rattle.xet_file_plan.specs.Placed.{ArePlaced, HasHashes, LiesInBlock, LiesInXorb}

both : (a b : Bool) → (a && b) ≡ true → (a ≡ true) × (b ≡ true)
both true b e = (refl, e)
both false b e = absurd (cc e)

same_number : (m n : ℕ) → nat_eq m n ≡ true → m ≡ n
same_number m n e = grind (arith, nat_tests)

goes_on_there : (s run : Segment) → goes_on s run ≡ true → (s.xorb_hash ≡ run.xorb_hash) × (s.chunk_index_end ≡ run.chunk_index_start)
goes_on_there s run e =
    let r = both (pointwise nat_eq s.xorb_hash run.xorb_hash) (nat_eq s.chunk_index_end run.chunk_index_start) e in
    ((bytes_decides s.xorb_hash run.xorb_hash).0 r.0, same_number s.chunk_index_end run.chunk_index_start r.1)

-- ---- parts of a list

part_le : {X : Type 0} (f : X → ℕ) (xs : List X) (q n : ℕ) → sum_by f (take n (drop q xs)) ≤ sum_by f xs
part_le f xs q n = omega (arith, sum_by-take-le f (drop q xs) n, sum_by-take-drop f xs q)

-- two parts, of which the second begins where the first ends
parts_le : {X : Type 0} (f : X → ℕ) (xs : List X) (p m q n : ℕ) → p + m ≡ q → sum_by f (take m (drop p xs)) + sum_by f (take n (drop q xs)) ≤ sum_by f xs
parts_le {X} f xs p m q n seam =
    let rest : sum_by f (drop m (drop p xs)) ≡ sum_by f (drop q xs) = ap (sum_by f) (drop-drop m p xs) ∙ ap (λ (k : ℕ). sum_by f (drop k xs)) seam in
    omega (arith, sum_by-take-le f (drop q xs) n, sum_by-take-drop f (drop p xs) m, sum_by-take-drop f xs p, rest)

-- ---- runs of xorbs

module _ (listing : List ℕ → Option (List ℕ)) where
  run_small : (run : Segment) → LiesIn listing run → run.unpacked_segment_bytes < 2 ^ 32
  run_small run l = omega (arith, l.bytes, l.small, part_le (λ (n : ℕ). n) l.lengths run.chunk_index_start (run_len run))

  -- a segment of a xorb, and a run of it that goes on where the segment ends
  pub extended_small : (s run : Segment) → LiesIn listing s → LiesIn listing run → goes_on s run ≡ true → s.unpacked_segment_bytes + run.unpacked_segment_bytes < 2 ^ 32
  extended_small s run l m goes =
      let there = goes_on_there s run goes in
      let same : l.lengths ≡ m.lengths = cc (l.listed, m.listed, ap listing there.0) in
      let next : run.unpacked_segment_bytes ≡ sum (take (run_len run) (drop run.chunk_index_start l.lengths)) =
      m.bytes ∙ ap (λ (ls : List ℕ). sum (take (run_len run) (drop run.chunk_index_start ls))) (sym same) in
      let within = parts_le (λ (n : ℕ). n) l.lengths s.chunk_index_start (run_len s) run.chunk_index_start (run_len run) (omega (arith, there.1, l.some)) in
      omega (arith, l.bytes, next, within, l.small)

  -- a run of a xorb, and the last segment if it lies in a xorb or the run does not go on there
  pub joined_bytes_small : (segments : List Segment) (run : Segment) → LiesIn listing run
      → ((before : List Segment) (s : Segment) → segments ≡ before ++ s ∷ [] → goes_on s run ≡ true → LiesIn listing s) → joined_bytes segments run < 2 ^ 32
  unfolding joined_bytes
  joined_bytes_small [] run lies last = run_small run lies
  joined_bytes_small (s ∷ []) run lies last = by (goes_on s run) refl
    where
      by : (b : Bool) → goes_on s run ≡ b → (if b then s.unpacked_segment_bytes + run.unpacked_segment_bytes else run.unpacked_segment_bytes) < 2 ^ 32
      by true e = extended_small s run (last [] s refl e) lies e
      by false e = run_small run lies
  joined_bytes_small (s ∷ t ∷ ss) run lies last = joined_bytes_small (t ∷ ss) run lies (λ before u e goes. last (s ∷ before) u (ap (λ (us : List Segment). s ∷ us) e) goes)

-- ---- segments that are placed

module _ (listing : List ℕ → Option (List ℕ)) (standing : List (List ℕ) → Segment → Type 0) (block : List Chunk) where
  lies_open : (s : Segment) (hashes : List (List ℕ)) → s.xorb_hash ≡ sentinel → HasHashes listing standing block s hashes → LiesInBlock block s hashes
  lies_open s hashes is has = by (is_open s) ((bytes_decides s.xorb_hash sentinel).1 is) has
    where
      by : (b : Bool) → b ≡ true → MatchBool b (LiesInBlock block s hashes) (LiesInXorb listing standing s hashes) → LiesInBlock block s hashes
      by true e h = h
      by false e h = absurd (cc e)

  lies_closed : (s : Segment) (hashes : List (List ℕ)) → (s.xorb_hash ≡ sentinel → ⊥) → HasHashes listing standing block s hashes → LiesInXorb listing standing s hashes
  lies_closed s hashes other has = by (is_open s) refl has
    where
      by : (b : Bool) → is_open s ≡ b → MatchBool b (LiesInBlock block s hashes) (LiesInXorb listing standing s hashes) → LiesInXorb listing standing s hashes
      by true e h = absurd (other ((bytes_decides s.xorb_hash sentinel).0 e))
      by false e h = h

  -- a run of a xorb
  pub joined_bytes_placed : (segments : List Segment) (hashes : List (List ℕ)) (run : Segment) → ArePlaced listing standing block segments hashes → LiesIn listing run → joined_bytes segments run < 2 ^ 32
  unfolding ArePlaced joined_bytes
  joined_bytes_placed [] hashes run placed lies = run_small listing run lies
  joined_bytes_placed (s ∷ []) hashes run placed lies = by (goes_on s run) refl
    where
      by : (b : Bool) → goes_on s run ≡ b → (if b then s.unpacked_segment_bytes + run.unpacked_segment_bytes else run.unpacked_segment_bytes) < 2 ^ 32
      by true e =
          let there = goes_on_there s run e in
          let xorb = lies_closed s (take (run_len s) hashes) (λ is. lies.named (sym there.0 ∙ is)) placed.2 in
          extended_small listing s run xorb.lies lies e
      by false e = run_small listing run lies
  joined_bytes_placed (s ∷ t ∷ ss) hashes run placed lies = joined_bytes_placed (t ∷ ss) (drop (run_len s) hashes) run placed.3 lies

  -- a run of the open block: no more bytes than the block
  pub joined_bytes_open : (segments : List Segment) (hashes : List (List ℕ)) (run : Segment) → ArePlaced listing standing block segments hashes → IsBlockRun block run
      → joined_bytes segments run ≤ total block
  unfolding ArePlaced joined_bytes
  joined_bytes_open [] hashes run placed is =
      let bytes : run.unpacked_segment_bytes ≡ total (take (run_len run) (drop run.chunk_index_start block)) = λ i. (is.same i).unpacked_segment_bytes in
      omega (arith, bytes, part_le (λ (c : Chunk). length c.bytes) block run.chunk_index_start (run_len run))
  joined_bytes_open (s ∷ []) hashes run placed is = by (goes_on s run) refl
    where
      bytes : run.unpacked_segment_bytes ≡ total (take (run_len run) (drop run.chunk_index_start block))
      bytes = λ i. (is.same i).unpacked_segment_bytes

      by : (b : Bool) → goes_on s run ≡ b → (if b then s.unpacked_segment_bytes + run.unpacked_segment_bytes else run.unpacked_segment_bytes) ≤ total block
      by true e =
          let there = goes_on_there s run e in
          let lies = lies_open s (take (run_len s) hashes) (there.0 ∙ (λ i. (is.same i).xorb_hash)) placed.2 in
          let first : s.unpacked_segment_bytes ≡ total (take (run_len s) (drop s.chunk_index_start block)) = λ i. (lies.run i).unpacked_segment_bytes in
          let within = parts_le (λ (c : Chunk). length c.bytes) block s.chunk_index_start (run_len s) run.chunk_index_start (run_len run) (omega (arith, there.1, placed.0)) in
          omega (arith, bytes, first, within)
      by false e = omega (arith, bytes, part_le (λ (c : Chunk). length c.bytes) block run.chunk_index_start (run_len run))
  joined_bytes_open (s ∷ t ∷ ss) hashes run placed is = joined_bytes_open (t ∷ ss) (drop (run_len s) hashes) run placed.3 is

  pub joined_bytes_open_small : (segments : List Segment) (hashes : List (List ℕ)) (run : Segment) → ArePlaced listing standing block segments hashes → IsBlockRun block run
      → total block < 2 ^ 32 → joined_bytes segments run < 2 ^ 32
  joined_bytes_open_small segments hashes run placed is small = omega (arith, joined_bytes_open segments hashes run placed is, small)
