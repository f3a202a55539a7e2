-- Segments that have the hashes of a file's chunks resolve to these chunks, if there are no collisions under the keys of shards.
use Rattle.std.proofs.Common.{◌≡◌, ◌≢◌, ◌∙◌, inl, inr, ℕ, ◌+◌, ◌-◌, ◌^◌, ◌≤◌, ◌<◌, Bool, true, false, List, [], ◌∷◌, ◌++◌, length, map, take, drop, sum, Option, Some, IsSome, option_map, refl, sym, ap, subst, if◌then◌else◌, arith}
use Rattle.std.proofs.lemmas.List.{drop-map, length-drop, length-map, length-take, map-append, take-append-drop, take-map}
use Rattle.std.proofs.lemmas.Simd.{map-map}
use Rattle.std.proofs.lemmas.List.Sums.{sum-map, sum_by-cons}
use Rattle.std.specs.List.{sum_by}
use Rattle.xet_aggregate.specs.Aggregate.{filled_segment}
use Rattle.xet_dedup_queries.specs.Interface.{run_len}
use Rattle.xet_dedup_queries.specs.Registering.{EachPartStands}
use Rattle.xet_file_plan.specs.Moves.{filled, is_open}
use Rattle.xet_file_plan.specs.Placed.{ArePlaced, HasHashes, LiesInXorb}
use Rattle.xet_file_plan.specs.theorems.Closing.{hashes_filled, raw_leaves_of, run_len_filled}
use Rattle.xet_file_plan.specs.theorems.Placed.{closed_lies, has_hashes_closed, open_lies, placed_changed}
use Rattle.xet_file_plan.specs.theorems.Runs.{lies_stays, made_stays}
use Rattle.xet_folder.specs.Plan.{LiesIn, Resolves, part}
use Rattle.xet_folder.specs.Stored.{IsStored}
use Rattle.xet_folder.specs.Xorbs.{AreBacked, IsListed, found}
use Rattle.xet_hash.specs.Hash.{sentinel, zero_hash}
use Rattle.xet_hash.specs.Merkle.{chunk_hash, leaf_of, leaves_of, total_len, xorb_hash}
use Rattle.xet_history.specs.Core.{Core}
use Rattle.xet_history.specs.Sound.{IsKey, IsStanding}
use Rattle.xet_io.specs.Disk.{Files}
use Rattle.xet_shard.specs.Queries.{kept_hash}
use Rattle.xet_shard_format.specs.declared.record.FileDataSequenceEntry.{FileDataSequenceEntry as Segment}
use Rattle.xet_store_disk.specs.Separate.{Among}
use Rattle.xet_store_disk.specs.theorems.Plans.{part-map}
use Rattle.xet_store_disk.specs.theorems.Whole.{mapped}
use Rattle.xet_store.specs.Holders.{lengths_in}
use Rattle.xet_xorb.specs.Raw.{raw_leaves, raw_of}
use Rattle.xet_xorb.specs.declared.raw.RawXorbData.{RawXorbData}
use Rattle.xet_xorb_chunk.specs.Chunks.{bytes_of_chunk, chunk_leaf}
use Rattle.xet_xorb_chunk.specs.declared.chunk.Chunk.{Chunk}
use Rattle.xet_clean.specs.theorems.Runs.{among_drop, among_take, made_part}

abbrev Leaves : Type 0
Leaves = List (List ℕ × ℕ)

-- a segment of a block without chunks is not open
closed_of : (listing : List ℕ → Option (List ℕ)) (standing : List (List ℕ) → Segment → Type 0) (s : Segment) (hashes : List (List ℕ)) → 0 < run_len s → HasHashes listing standing [] s hashes
    → (is_open s ≡ false) × LiesInXorb listing standing s hashes
closed_of listing standing s hashes some has = by (is_open s) refl
  where
    by : (b : Bool) → is_open s ≡ b → (is_open s ≡ false) × LiesInXorb listing standing s hashes
    by true e = let l = open_lies listing standing [] s hashes e has in absurd (omega (arith, some, l.within))
    by false e = (e, closed_lies listing standing [] s hashes e has)

-- ---- the chunks of segments

module _ (c : Core) (disk : Files) (folder : List ℕ) (backed : AreBacked disk folder c.xorbs) (Met : List ℕ → Type 0)
    (stored_met : (h : List ℕ) (chunks : List (List ℕ)) → IsSome (found c.xorbs h) → IsStored disk folder h chunks → (b : List ℕ) → Among chunks b → Met b)
    (apart : (key a b : List ℕ) → IsKey c key → Met a → Met b → kept_hash key (chunk_hash a) ≡ kept_hash key (chunk_hash b) → a ≡ b) where
  -- chunks that are met are the same if their hashes under a key are
  same_by_key : (key : List ℕ) → IsKey c key → (xs ys : List (List ℕ)) → ((b : List ℕ) → Among xs b → Met b) → ((b : List ℕ) → Among ys b → Met b)
      → map (λ b. kept_hash key (chunk_hash b)) xs ≡ map (λ b. kept_hash key (chunk_hash b)) ys → xs ≡ ys
  same_by_key key is [] [] mx my e = refl
  same_by_key key is [] (y ∷ ys) mx my e = absurd (cc e)
  same_by_key key is (x ∷ xs) [] mx my e = absurd (cc e)
  same_by_key key is (x ∷ xs) (y ∷ ys) mx my e =
      let whole : kept_hash key (chunk_hash x) ∷ map (λ b. kept_hash key (chunk_hash b)) xs ≡ kept_hash key (chunk_hash y) ∷ map (λ b. kept_hash key (chunk_hash b)) ys = e in
      let heads : kept_hash key (chunk_hash x) ≡ kept_hash key (chunk_hash y) = cc in
      let tails : map (λ b. kept_hash key (chunk_hash b)) xs ≡ map (λ b. kept_hash key (chunk_hash b)) ys = cc in
      let here : x ≡ y = apart key x y is (mx x (inl refl)) (my y (inl refl)) heads in
      let rest : xs ≡ ys = same_by_key key is xs ys (λ b a. mx b (inr a)) (λ b a. my b (inr a)) tails in
      λ i. here i ∷ rest i

  module _ (h : List ℕ) (xs : Leaves) (listed : IsListed c.xorbs h xs) where
    chunks : List (List ℕ)
    chunks = (backed h xs listed).chunks

    here : IsSome (found c.xorbs h)
    here = subst (λ (o : Option Leaves). IsSome o) (sym listed) refl

    chunks_met : (b : List ℕ) → Among (backed h xs listed).chunks b → Met b
    chunks_met b a = stored_met h (backed h xs listed).chunks here (backed h xs listed).stored b a

    -- the leaves of a run
    part_leaves : (s : Segment) → part s xs ≡ leaves_of (part s (backed h xs listed).chunks)
    part_leaves s = ap (λ (l : Leaves). part s l) (sym (backed h xs listed).same) ∙ part-map leaf_of s (backed h xs listed).chunks

    standing_hashes : (run : Segment) (hashes : List (List ℕ)) → (st : IsStanding c hashes run) → run.xorb_hash ≡ h
        → map (λ b. kept_hash st.key (chunk_hash b)) (part run (backed h xs listed).chunks) ≡ map (kept_hash st.key) hashes
    standing_hashes run hashes st same =
        let both : ◌≡◌ {A = Option Leaves} (Some st.leaves) (Some xs) = sym st.listed ∙ ap (λ (k : List ℕ). found c.xorbs k) same ∙ listed in
        let leaves : st.leaves ≡ xs = cc both in
        sym (map-map (λ (m : List ℕ × ℕ). kept_hash st.key m.0) leaf_of (part run (backed h xs listed).chunks))
        ∙ ap (map (λ (m : List ℕ × ℕ). kept_hash st.key m.0)) (sym (part_leaves run))
        ∙ ap (λ (l : Leaves). map (λ (m : List ℕ × ℕ). kept_hash st.key m.0) (part run l)) (sym leaves)
        ∙ st.same

    run_count : (run : Segment) (hashes : List (List ℕ)) → IsStanding c hashes run → run.xorb_hash ≡ h → length (part run (backed h xs listed).chunks) ≡ length hashes
    run_count run hashes st same =
        sym (length-map (part run (backed h xs listed).chunks) (λ (b : List ℕ). kept_hash st.key (chunk_hash b)))
        ∙ ap length (standing_hashes run hashes st same)
        ∙ length-map hashes (kept_hash st.key)

    run_piece : (run : Segment) (hashes : List (List ℕ)) → IsStanding c hashes run → run.xorb_hash ≡ h → (cs : List (List ℕ)) → hashes ≡ map chunk_hash cs → ((b : List ℕ) → Among cs b → Met b)
        → part run (backed h xs listed).chunks ≡ cs
    run_piece run hashes st same cs are met =
        same_by_key st.key st.is_key (part run (backed h xs listed).chunks) cs
        (λ b a. chunks_met b (among_drop run.chunk_index_start (backed h xs listed).chunks b (among_take (run.chunk_index_end - run.chunk_index_start) (drop run.chunk_index_start (backed h xs listed).chunks) b a)))
        met
        (standing_hashes run hashes st same ∙ ap (map (kept_hash st.key)) are ∙ map-map (kept_hash st.key) chunk_hash cs)

  -- a segment of a xorb that has the hashes of these chunks
  pub record HasChunks (s : Segment) (cs : List (List ℕ)) : Type 0 where
    leaves : Leaves
    listed : IsListed c.xorbs s.xorb_hash leaves
    lies : LiesIn (λ m. m.1) s leaves
    parts : part s leaves ≡ leaves_of cs

  segment_has : (s : Segment) (cs : List (List ℕ)) → run_len s ≡ length cs → ((b : List ℕ) → Among cs b → Met b) → LiesInXorb (lengths_in c) (λ hashes run. IsStanding c hashes run) s (map chunk_hash cs) → HasChunks s cs
  segment_has s cs count met l =
      let m = mapped (λ (leaves : Leaves). map (λ (m : List ℕ × ℕ). m.1) leaves) (found c.xorbs s.xorb_hash) l.lies.lengths l.lies.listed in
      let xs : Leaves = m.0 in
      let ds : List (List ℕ) = (backed s.xorb_hash m.0 m.1).chunks in
      let many : length ds ≡ length l.lies.lengths =
      sym (length-map ds leaf_of) ∙ ap length (backed s.xorb_hash m.0 m.1).same ∙ sym (length-map m.0 (λ (x : List ℕ × ℕ). x.1)) ∙ ap length m.2 in
      let long : length (part s ds) ≡ run_len s =
      omega (arith, length-take (run_len s) (drop s.chunk_index_start ds), length-drop s.chunk_index_start ds, many, l.lies.within, l.lies.some) in
      let are : part s ds ≡ cs =
      made_part (λ hashes run. IsStanding c hashes run) s.xorb_hash ds Met (run_count s.xorb_hash m.0 m.1) (run_piece s.xorb_hash m.0 m.1) s (map chunk_hash cs) l.made refl cs refl met
      (omega (arith, long, count, length-map cs chunk_hash)) in
      record {
        leaves = m.0;
        listed = m.1;
        lies = record {
          some = l.lies.some;
          within = omega (arith, l.lies.within, ap length m.2, length-map m.0 (λ (x : List ℕ × ℕ). x.1));
          bytes = l.lies.bytes
              ∙ ap (λ (ls : List ℕ). sum (part s ls)) (sym m.2)
              ∙ ap sum (part-map (λ (x : List ℕ × ℕ). x.1) s m.0)
              ∙ sum-map (λ (x : List ℕ × ℕ). x.1) (part s m.0);
        };
        parts = part_leaves s.xorb_hash m.0 m.1 s ∙ ap leaves_of are;
      }

  -- Segments that have the hashes of these chunks, one after the other, resolve to them.
  pub resolves_placed : (ss : List Segment) (cs : List (List ℕ)) → ((b : List ℕ) → Among cs b → Met b) → ArePlaced (lengths_in c) (λ hashes run. IsStanding c hashes run) [] ss (map chunk_hash cs)
      → Resolves (IsListed c.xorbs) (λ m. m.1) ss (leaves_of cs)
  unfolding ArePlaced
  resolves_placed [] [] met placed = refl
  resolves_placed [] (d ∷ cs) met placed = absurd (cc placed)
  resolves_placed (s ∷ ss) cs met placed =
      let n : ℕ = run_len s in
      let first : List (List ℕ) = take (run_len s) cs in
      let rest : List (List ℕ) = drop (run_len s) cs in
      let long : run_len s ≡ length first = omega (arith, length-take (run_len s) cs, placed.1, length-map cs chunk_hash) in
      let lies : LiesInXorb (lengths_in c) (λ hashes run. IsStanding c hashes run) s (map chunk_hash first) =
      subst (LiesInXorb (lengths_in c) (λ hashes run. IsStanding c hashes run) s) (take-map chunk_hash (run_len s) cs)
      (closed_of (lengths_in c) (λ hashes run. IsStanding c hashes run) s (take (run_len s) (map chunk_hash cs)) placed.0 placed.2).1 in
      let has : HasChunks s first = segment_has s first long (λ b a. met b (among_take (run_len s) cs b a)) lies in
      let later : Resolves (IsListed c.xorbs) (λ m. m.1) ss (leaves_of rest) =
      resolves_placed ss rest (λ b a. met b (among_drop (run_len s) cs b a)) (subst (ArePlaced (lengths_in c) (λ hashes run. IsStanding c hashes run) [] ss) (drop-map chunk_hash (run_len s) cs) placed.3) in
      let whole : leaves_of cs ≡ part s has.leaves ++ leaves_of rest =
      ap leaves_of (sym (take-append-drop (run_len s) cs)) ∙ map-append leaf_of first rest ∙ ap (λ (l : Leaves). l ++ leaves_of rest) (sym has.parts) in
      (has.leaves, leaves_of rest, has.listed, has.lies, whole, later)

-- ---- open segments get the hash of the aggregate's xorb

filled_same : (hash : List ℕ) (s : Segment) → filled_segment hash s ≡ filled hash s
unfolding filled_segment
filled_same hash s = refl

bytes_total : (chunks : List Chunk) → total_len (map chunk_leaf chunks) ≡ sum_by length (map bytes_of_chunk chunks)
bytes_total [] = refl
bytes_total (d ∷ chunks) =
    omega (arith, bytes_total chunks, sum_by-cons (λ (m : List ℕ × ℕ). m.1) (chunk_leaf d) (map chunk_leaf chunks), sum_by-cons {X = List ℕ} length (bytes_of_chunk d) (map bytes_of_chunk chunks))

-- each run of a listed xorb stands
parts_stand : (c : Core) (chunks : List Chunk) → IsListed c.xorbs (xorb_hash (map chunk_leaf chunks)) (map chunk_leaf chunks) → EachPartStands (λ hashes run. IsStanding c hashes run) (raw_of chunks [])
parts_stand c chunks listed start count some within =
    let leaves : Leaves = map chunk_leaf chunks in
    let are : raw_leaves (raw_of chunks []) ≡ map chunk_leaf chunks = raw_leaves_of chunks [] in
    let n : start + count - start ≡ count = omega arith in
    record {
      leaves = map chunk_leaf chunks;
      listed = listed;
      key = zero_hash;
      is_key = inl refl;
      same = ap (λ (k : ℕ). map (λ (m : List ℕ × ℕ). kept_hash zero_hash m.0) (take k (drop start leaves))) n
          ∙ sym (map-map (kept_hash zero_hash) (λ (m : List ℕ × ℕ). m.0) (take count (drop start leaves)))
          ∙ ap (map (kept_hash zero_hash)) (sym (take-map (λ (m : List ℕ × ℕ). m.0) count (drop start leaves))
          ∙ ap (take count) (sym (drop-map (λ (m : List ℕ × ℕ). m.0) start leaves)
          ∙ ap (λ (l : Leaves). drop start (map (λ (m : List ℕ × ℕ). m.0) l)) (sym are)));
    }

module _ (listing : List ℕ → Option (List ℕ)) (standing : List (List ℕ) → Segment → Type 0) (c : Core) (lists : (h lengths : List ℕ) → listing h ≡ Some lengths → lengths_in c h ≡ Some lengths)
    (stands : (hashes : List (List ℕ)) (run : Segment) → standing hashes run → IsStanding c hashes run) (chunks : List Chunk) where
  -- there are no chunks, and so no open segments
  pub placed_none : (hash : List ℕ) → chunks ≡ [] → (ss : List Segment) (hashes : List (List ℕ)) → ArePlaced listing standing chunks ss hashes → ArePlaced (lengths_in c) (λ hashes run. IsStanding c hashes run) [] (map (filled_segment hash) ss) hashes
  placed_none hash none ss hashes placed =
      placed_changed listing (lengths_in c) standing (λ hashes run. IsStanding c hashes run) [] [] (filled_segment hash) (λ s. ap run_len (filled_same hash s) ∙ run_len_filled hash s)
      (λ s hs some has. subst (λ (t : Segment). HasHashes (lengths_in c) (λ hashes run. IsStanding c hashes run) [] t hs) (sym (filled_same hash s)) (still s hs (closed_of listing standing s hs some has))) ss hashes
      (subst (λ (l : List Chunk). ArePlaced listing standing l ss hashes) none placed)
    where
      still : (s : Segment) (hs : List (List ℕ)) → (is_open s ≡ false) × LiesInXorb listing standing s hs → HasHashes (lengths_in c) (λ hashes run. IsStanding c hashes run) [] (filled hash s) hs
      still s hs l =
          let lies : LiesInXorb (lengths_in c) (λ hashes run. IsStanding c hashes run) s hs =
          record { lies = lies_stays listing (lengths_in c) standing (λ hashes run. IsStanding c hashes run) lists stands s l.1.lies; made = made_stays listing (lengths_in c) standing (λ hashes run. IsStanding c hashes run) lists stands s hs l.1.made } in
          go (is_open s) l.0 (has_hashes_closed (lengths_in c) (λ hashes run. IsStanding c hashes run) [] s hs l.0 lies)
        where
          go : (b : Bool) → b ≡ false → HasHashes (lengths_in c) (λ hashes run. IsStanding c hashes run) [] s hs → HasHashes (lengths_in c) (λ hashes run. IsStanding c hashes run) [] (if b then record s { xorb_hash = hash } else s) hs
          go true e has = absurd (cc e)
          go false e has = has

  -- the xorb of the chunks is listed
  pub placed_filled : IsListed c.xorbs (xorb_hash (map chunk_leaf chunks)) (map chunk_leaf chunks) → xorb_hash (map chunk_leaf chunks) ≢ sentinel → total_len (map chunk_leaf chunks) < 2 ^ 32
      → (ss : List Segment) (hashes : List (List ℕ)) → ArePlaced listing standing chunks ss hashes → ArePlaced (lengths_in c) (λ hashes run. IsStanding c hashes run) [] (map (filled_segment (xorb_hash (map chunk_leaf chunks))) ss) hashes
  placed_filled listed named small ss hashes placed =
      let hash : List ℕ = xorb_hash (map chunk_leaf chunks) in
      let x : RawXorbData = raw_of chunks [] in
      let are : raw_leaves (raw_of chunks []) ≡ map chunk_leaf chunks = raw_leaves_of chunks [] in
      let there : lengths_in c hash ≡ Some (map (λ (m : List ℕ × ℕ). m.1) (raw_leaves (raw_of chunks []))) =
      ap (option_map (λ (ls : Leaves). map (λ (m : List ℕ × ℕ). m.1) ls)) listed ∙ ap (λ (ls : Leaves). Some (map (λ (m : List ℕ × ℕ). m.1) ls)) (sym are) in
      placed_changed listing (lengths_in c) standing (λ hashes run. IsStanding c hashes run) chunks [] (filled_segment hash) (λ s. ap run_len (filled_same hash s) ∙ run_len_filled hash s)
      (λ s hs some has. subst (λ (t : Segment). HasHashes (lengths_in c) (λ hashes run. IsStanding c hashes run) [] t hs) (sym (filled_same hash s))
      (hashes_filled listing (lengths_in c) standing (λ hashes run. IsStanding c hashes run) lists stands chunks (raw_of chunks []) are named there (parts_stand c chunks listed) (omega (arith, small, ap total_len are)) s hs some has)) ss hashes placed

-- an aggregate's xorb has few bytes
pub few_bytes : (chunks : List Chunk) → sum_by length (map bytes_of_chunk chunks) ≤ 2 ^ 30 → total_len (map chunk_leaf chunks) < 2 ^ 32
few_bytes chunks few = omega (arith, bytes_total chunks, few)
