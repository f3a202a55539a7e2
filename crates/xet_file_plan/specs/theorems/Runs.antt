-- Where runs lie: a run of a xorb or of the open block that goes on, and runs of a block that grows.
use Rattle.std.proofs.Common.{◌≡◌, ◌∙◌, ℕ, ◌+◌, ◌-◌, ◌≤◌, ◌<◌, Bool, true, false, List, [], ◌∷◌, ◌++◌, length, map, take, drop, sum, Option, Some, refl, sym, ap, subst, arith, length-append, length-drop, nat_eq}
use Rattle.std.specs.Cmp.Lexicographic.{bytes_decides, pointwise}
use Rattle.std.proofs.lemmas.List.{append_assoc, drop-append-le, drop-drop, drop_at, length-map, map-append, take-append-le}
use Rattle.std.proofs.lemmas.List.Sums.{sum_by-append, sum_by-cons}
use Rattle.std.proofs.Math.Seq.{take-add}
use Rattle.xet_choices.specs.Choices.{hashes_of}
use Rattle.xet_dedup_queries.specs.Interface.{IsFoundRun, LiesIn, run_len}
use Rattle.xet_hash.specs.Hash.{sentinel}
use Rattle.xet_shard_format.specs.declared.record.FileDataSequenceEntry.{FileDataSequenceEntry as Segment}
use Rattle.xet_xorb_chunk.specs.declared.chunk.Chunk.{Chunk}
use Rattle.xet_xorb_chunk.specs.Chunks.{chunk_leaf}
use Rattle.xet_xorb_chunk.specs.Chunks.{total as total_bytes}
use Rattle.xet_file_plan.specs.Moves.{block_run, continues, extended, goes_on, is_open, next_run, with_run}
use Rattle.xet_file_plan.specs.Placed.{ArePlaced, HasHashes, IsMadeOf, LiesInBlock, LiesInXorb}
use Rattle.xet_file_plan.specs.Placed.IsMadeOf.{one, more}
use Rattle.xet_file_plan.specs.theorems.Counts.{run_len_extended}
use Rattle.xet_file_plan.specs.theorems.Joining.{goes_on_from, goes_on_there, with_run_begins, with_run_continues}
use Rattle.xet_file_plan.specs.theorems.Placed.{closed_lies, has_hashes_closed, has_hashes_open, not_open, open_lies, placed_last, placed_push}

-- ---- made of runs

-- a segment made of runs goes on after another one
pub made_extended : (standing : List (List ℕ) → Segment → Type 0) (s run : Segment) (before hashes : List (List ℕ)) → IsMadeOf standing s before → IsMadeOf standing run hashes
    → goes_on s run ≡ true → IsMadeOf standing (extended s run) (before ++ hashes)
made_extended standing s run before hashes m (one t after is) e = more s t before after m is e
made_extended standing s run before hashes m (more t run' between after m' is go) e =
    let first = made_extended standing s t before between m m' e in
    let same = goes_on_there s t e in
    let next = goes_on_there t run' go in
    let both = more (extended s t) run' (before ++ between) after first is (goes_on_from (extended s t) run' (same.0 ∙ next.0) next.1) in
    let bytes : s.unpacked_segment_bytes + t.unpacked_segment_bytes + run'.unpacked_segment_bytes ≡ s.unpacked_segment_bytes + (t.unpacked_segment_bytes + run'.unpacked_segment_bytes) = omega arith in
    subst (λ (n : ℕ). IsMadeOf standing (record s { unpacked_segment_bytes = n; chunk_index_end = run'.chunk_index_end }) (before ++ (between ++ after))) bytes
    (subst (IsMadeOf standing (extended (extended s t) run')) (append_assoc before between after) both)

-- ---- runs that were found

-- A run that a query found has the hashes for which it was found.
pub found_run_lies : (listing : List ℕ → Option (List ℕ)) (standing : List (List ℕ) → Segment → Type 0) (block : List Chunk) (hashes : List (List ℕ)) (count : ℕ) (run : Segment)
    → IsFoundRun listing standing hashes count run → HasHashes listing standing block run (take count hashes)
found_run_lies listing standing block hashes count run found =
    has_hashes_closed listing standing block run (take count hashes) (not_open run found.lies.named) (record { lies = found.lies; made = one run (take count hashes) found.stands })

-- A run of the open block has the hashes of its chunks.
pub block_run_lies : (listing : List ℕ → Option (List ℕ)) (standing : List (List ℕ) → Segment → Type 0) (block : List Chunk) (start count : ℕ) (hashes : List (List ℕ))
    → start + count ≤ length block → take count (drop start (hashes_of (map chunk_leaf block))) ≡ hashes → HasHashes listing standing block (block_run block start count) hashes
block_run_lies listing standing block start count hashes within same =
    let len : start + count - start ≡ count = omega arith in
    has_hashes_open listing standing block (block_run block start count) hashes ((bytes_decides sentinel sentinel).1 refl) (record {
      within = within;
      run = ap (block_run block start) (sym len);
      same = ap (λ (n : ℕ). take n (drop start (hashes_of (map chunk_leaf block)))) len ∙ same;
    })

-- ---- one list after another

taken : {A : Type 0} (xs : List A) (m n p : ℕ) → take (m + n) (drop p xs) ≡ take m (drop p xs) ++ take n (drop (p + m) xs)
taken xs m n p = take-add m n (drop p xs) ∙ ap (λ (l : List _). take m (drop p xs) ++ take n l) (drop-drop m p xs)

-- a run within the front of a list lies there in the whole list too
within_front : {A : Type 0} (xs ys : List A) (n p : ℕ) → p + n ≤ length xs → take n (drop p (xs ++ ys)) ≡ take n (drop p xs)
within_front xs ys n p le =
    ap (take n) (drop-append-le p xs ys (omega (arith, le)))
    ∙ take-append-le n (drop p xs) ys (omega (arith, le, length-drop p xs))

-- ---- a segment that is made longer

module _ (s run : Segment) (before hashes : List (List ℕ)) (goes : goes_on s run ≡ true) (pos : 0 < run_len s) (some : 0 < run_len run) where
  abbrev both : Segment
  both = extended s run

  len : run_len both ≡ run_len s + run_len run
  len = run_len_extended s run goes pos some

  at : s.chunk_index_start + run_len s ≡ run.chunk_index_start
  at = let there = goes_on_there s run goes in omega (arith, there.1, pos)

  -- the items of both runs
  items : {A : Type 0} (xs : List A) → take (run_len both) (drop s.chunk_index_start xs) ≡ take (run_len s) (drop s.chunk_index_start xs) ++ take (run_len run) (drop run.chunk_index_start xs)
  items xs =
      ap (λ (n : ℕ). take n (drop s.chunk_index_start xs)) len
      ∙ taken xs (run_len s) (run_len run) s.chunk_index_start
      ∙ ap (λ (p : ℕ). take (run_len s) (drop s.chunk_index_start xs) ++ take (run_len run) (drop p xs)) at

  block_extended : (block : List Chunk) → LiesInBlock block s before → LiesInBlock block run hashes → LiesInBlock block both (before ++ hashes)
  block_extended block l m =
      let bytes : s.unpacked_segment_bytes + run.unpacked_segment_bytes ≡ total_bytes (take (run_len both) (drop s.chunk_index_start block)) =
      (λ i. (l.run i).unpacked_segment_bytes + (m.run i).unpacked_segment_bytes)
      ∙ sym (sum_by-append (λ (c : Chunk). length c.bytes) (take (run_len s) (drop s.chunk_index_start block)) (take (run_len run) (drop run.chunk_index_start block)))
      ∙ ap total_bytes (sym (items block)) in
      let end : run.chunk_index_end ≡ s.chunk_index_start + run_len both = omega (arith, len, at, some) in
      record {
        within = m.within;
        run = λ i. record { xorb_hash = (l.run i).xorb_hash; xorb_flags = (l.run i).xorb_flags; unpacked_segment_bytes = bytes i; chunk_index_start = s.chunk_index_start; chunk_index_end = end i };
        same = items (hashes_of (map chunk_leaf block)) ∙ (λ i. l.same i ++ m.same i);
      }

  xorb_extended : (listing : List ℕ → Option (List ℕ)) (standing : List (List ℕ) → Segment → Type 0) → LiesInXorb listing standing s before → LiesInXorb listing standing run hashes
      → LiesInXorb listing standing both (before ++ hashes)
  xorb_extended listing standing l m =
      let there = goes_on_there s run goes in
      let same : l.lies.lengths ≡ m.lies.lengths = cc (l.lies.listed, m.lies.listed, ap listing there.0) in
      let bytes : s.unpacked_segment_bytes + run.unpacked_segment_bytes ≡ sum (take (run_len both) (drop s.chunk_index_start l.lies.lengths)) =
      (λ i. l.lies.bytes i + m.lies.bytes i)
      ∙ ap (λ (ls : List ℕ). sum (take (run_len s) (drop s.chunk_index_start l.lies.lengths)) + sum (take (run_len run) (drop run.chunk_index_start ls))) (sym same)
      ∙ sym (sum_by-append (λ (n : ℕ). n) (take (run_len s) (drop s.chunk_index_start l.lies.lengths)) (take (run_len run) (drop run.chunk_index_start l.lies.lengths)))
      ∙ ap sum (sym (items l.lies.lengths)) in
      record {
        lies = record {
          lengths = l.lies.lengths;
          listed = l.lies.listed;
          some = omega (arith, len, at, pos, some);
          within = (let w : run.chunk_index_end ≤ length l.lies.lengths = subst (λ (ls : List ℕ). run.chunk_index_end ≤ length ls) (sym same) m.lies.within in w);
          bytes = bytes;
          small = l.lies.small;
          plain = l.lies.plain;
          named = l.lies.named;
        };
        made = made_extended standing s run before hashes l.made m.made goes;
      }

  -- A segment of a xorb or of the open block that a run makes longer has the hashes of both.
  pub hashes_extended : (listing : List ℕ → Option (List ℕ)) (standing : List (List ℕ) → Segment → Type 0) (block : List Chunk) → HasHashes listing standing block s before
      → HasHashes listing standing block run hashes → HasHashes listing standing block both (before ++ hashes)
  hashes_extended listing standing block h k = by (is_open s) refl
    where
      same : is_open run ≡ is_open s
      same = ap (λ (hash : List ℕ). pointwise nat_eq hash sentinel) (sym (goes_on_there s run goes).0)

      by : (b : Bool) → is_open s ≡ b → HasHashes listing standing block both (before ++ hashes)
      by true e = has_hashes_open listing standing block both (before ++ hashes) e (
          block_extended block (open_lies listing standing block s before e h) (open_lies listing standing block run hashes (same ∙ e) k)
          )
      by false e = has_hashes_closed listing standing block both (before ++ hashes) e (
          xorb_extended listing standing (closed_lies listing standing block s before e h) (closed_lies listing standing block run hashes (same ∙ e) k)
          )

-- ---- a block with further chunks

module _ (listing : List ℕ → Option (List ℕ)) (standing : List (List ℕ) → Segment → Type 0) (block added : List Chunk) where
  -- What lies in the block lies there still.
  block_stays : (s : Segment) (hashes : List (List ℕ)) → 0 < run_len s → LiesInBlock block s hashes → LiesInBlock (block ++ added) s hashes
  block_stays s hashes pos l =
      let inside : s.chunk_index_start + run_len s ≤ length block = omega (arith, l.within, pos) in
      let mapped : s.chunk_index_start + run_len s ≤ length (hashes_of (map chunk_leaf block)) =
      omega (arith, inside, length-map (map chunk_leaf block) (λ (m : List ℕ × ℕ). m.0), length-map block chunk_leaf) in
      record {
        within = omega (arith, l.within, length-append block added);
        run = l.run ∙ ap (λ (cs : List Chunk). record { xorb_hash = sentinel; xorb_flags = 0; unpacked_segment_bytes = total_bytes cs; chunk_index_start = s.chunk_index_start; chunk_index_end = s.chunk_index_start + run_len s })
            (sym (within_front block added (run_len s) s.chunk_index_start inside));
        same =
            ap (λ (ls : List (List ℕ)). take (run_len s) (drop s.chunk_index_start ls)) (ap hashes_of (map-append chunk_leaf block added) ∙ map-append (λ (m : List ℕ × ℕ). m.0) (map chunk_leaf block) (map chunk_leaf added))
            ∙ within_front (hashes_of (map chunk_leaf block)) (hashes_of (map chunk_leaf added)) (run_len s) s.chunk_index_start mapped
            ∙ l.same;
      }

  pub hashes_stay : (s : Segment) (hashes : List (List ℕ)) → 0 < run_len s → HasHashes listing standing block s hashes → HasHashes listing standing (block ++ added) s hashes
  hashes_stay s hashes pos h = by (is_open s) refl
    where
      by : (b : Bool) → is_open s ≡ b → HasHashes listing standing (block ++ added) s hashes
      by true e = has_hashes_open listing standing (block ++ added) s hashes e (block_stays s hashes pos (open_lies listing standing block s hashes e h))
      by false e = has_hashes_closed listing standing (block ++ added) s hashes e (closed_lies listing standing block s hashes e h)

module _ (listing : List ℕ → Option (List ℕ)) (standing : List (List ℕ) → Segment → Type 0) (block : List Chunk) (chunk : Chunk) where
  pub next_run_len : run_len (next_run block chunk) ≡ 1
  next_run_len = omega arith

  -- The last chunk of the block lies there.
  pub next_lies : HasHashes listing standing (block ++ chunk ∷ []) (next_run block chunk) (chunk.hash ∷ [])
  next_lies =
      let seam : drop (length block) (block ++ chunk ∷ []) ≡ chunk ∷ [] = drop_at block (chunk ∷ []) (length block) refl in
      let mapped : hashes_of (map chunk_leaf (block ++ chunk ∷ [])) ≡ hashes_of (map chunk_leaf block) ++ chunk.hash ∷ [] =
      ap hashes_of (map-append chunk_leaf block (chunk ∷ [])) ∙ map-append (λ (m : List ℕ × ℕ). m.0) (map chunk_leaf block) (chunk_leaf chunk ∷ []) in
      let front : length (hashes_of (map chunk_leaf block)) ≡ length block = length-map (map chunk_leaf block) (λ (m : List ℕ × ℕ). m.0) ∙ length-map block chunk_leaf in
      let bytes : length chunk.bytes ≡ total_bytes (take (run_len (next_run block chunk)) (drop (length block) (block ++ chunk ∷ []))) =
      (omega arith ∙ sym (sum_by-cons (λ (c : Chunk). length c.bytes) chunk [])) ∙ (λ i. total_bytes (take (sym next_run_len i) (sym seam i))) in
      has_hashes_open listing standing (block ++ chunk ∷ []) (next_run block chunk) (chunk.hash ∷ []) ((bytes_decides sentinel sentinel).1 refl) (record {
        within = (let l = length-append block (chunk ∷ []) in omega (arith, l));
        run = λ i. record {
          xorb_hash = sentinel;
          xorb_flags = 0;
          unpacked_segment_bytes = bytes i;
          chunk_index_start = length block;
          chunk_index_end = length block + sym next_run_len i;
        };
        same =
            (λ i. take (next_run_len i) (drop (length block) (mapped i)))
            ∙ ap (take 1) (drop_at (hashes_of (map chunk_leaf block)) (chunk.hash ∷ []) (length block) front);
      })

-- ---- segments that a run joins

-- Segments with a run have its hashes after those that they had.
pub placed_joined : (listing : List ℕ → Option (List ℕ)) (standing : List (List ℕ) → Segment → Type 0) (block : List Chunk) (segments : List Segment) (run : Segment) (hashes added : List (List ℕ))
    → ArePlaced listing standing block segments hashes → 0 < run_len run → run_len run ≡ length added → HasHashes listing standing block run added
    → ArePlaced listing standing block (with_run segments run) (hashes ++ added)
placed_joined listing standing block segments run hashes added p some counted has = by (continues segments run) refl
  where
    by : (b : Bool) → continues segments run ≡ b → ArePlaced listing standing block (with_run segments run) (hashes ++ added)
    by true e =
        let r = with_run_continues segments run e in
        let q = placed_last listing standing block r.0 hashes r.1 (subst (λ (ss : List Segment). ArePlaced listing standing block ss hashes) r.2 p) in
        let len = run_len_extended r.1 run r.3 q.4 some in
        let all = length-append q.1 added in
        let both = placed_push listing standing block r.0 q.0 (q.1 ++ added) (extended r.1 run) q.3 (omega (arith, len, q.4)) (omega (arith, len, all, q.5, counted))
        (hashes_extended r.1 run q.1 added r.3 q.4 some listing standing block q.6 has) in
        subst (λ (ss : List Segment). ArePlaced listing standing block ss (hashes ++ added)) (sym r.4)
        (subst (ArePlaced listing standing block (r.0 ++ extended r.1 run ∷ [])) (sym (append_assoc q.0 q.1 added) ∙ ap (λ (l : List (List ℕ)). l ++ added) (sym q.2)) both)
    by false e =
        subst (λ (ss : List Segment). ArePlaced listing standing block ss (hashes ++ added)) (sym (with_run_begins segments run e))
        (placed_push listing standing block segments hashes added run p some counted has)

-- ---- what stands stays

module _ (listing listing' : List ℕ → Option (List ℕ)) (standing standing' : List (List ℕ) → Segment → Type 0)
    (lists : (h lengths : List ℕ) → listing h ≡ Some lengths → listing' h ≡ Some lengths) (stands : (hashes : List (List ℕ)) (run : Segment) → standing hashes run → standing' hashes run) where
  pub lies_stays : (s : Segment) → LiesIn listing s → LiesIn listing' s
  lies_stays s l = record {
    lengths = l.lengths;
    listed = lists s.xorb_hash l.lengths l.listed;
    some = l.some;
    within = l.within;
    bytes = l.bytes;
    small = l.small;
    plain = l.plain;
    named = l.named;
  }

  pub made_stays : (s : Segment) (hashes : List (List ℕ)) → IsMadeOf standing s hashes → IsMadeOf standing' s hashes
  made_stays s hashes (one t after is) = one t after (stands after t is)
  made_stays s hashes (more t run before after m is goes) = more t run before after (made_stays t before m) (stands after run is) goes

  -- A segment has its hashes still once more xorbs are known.
  pub hashes_known : (block : List Chunk) (s : Segment) (hashes : List (List ℕ)) → HasHashes listing standing block s hashes → HasHashes listing' standing' block s hashes
  hashes_known block s hashes h = by (is_open s) refl
    where
      by : (b : Bool) → is_open s ≡ b → HasHashes listing' standing' block s hashes
      by true e = has_hashes_open listing' standing' block s hashes e (open_lies listing standing block s hashes e h)
      by false e =
          let l = closed_lies listing standing block s hashes e h in
          has_hashes_closed listing' standing' block s hashes e (record { lies = lies_stays s l.lies; made = made_stays s hashes l.made })
