-- What a batch adds to the calls of its file, whether it is placed or stops.
use Rattle.std.proofs.Common.{◌≡◌, inl, inr, ◌∙◌, ◌==◌, ℕ, ◌+◌, ◌*◌, ◌≤◌, ◌<◌, Bool, false, zero, suc, List, [], ◌∷◌, ◌++◌, append_assoc, length, length-append, map, Option, Some, refl, sym, ap, subst, arith}
use Rattle.std.specs.Prelude.{slice_get}
use Rattle.std.specs.List.{AllByRecursion}
use Rattle.std.proofs.lemmas.List.{append-nil, length-map}
use Rattle.std.proofs.lemmas.Option.{slice_get_within}
use Rattle.xet_base.specs.theorems.Elements.{all_push}
use Rattle.xet_choices.specs.Calls.{Call, queries_of}
use Rattle.xet_choices.specs.Calls.Call.{Registered}
use Rattle.xet_choices.specs.Choices.{fits, hashes_of}
use Rattle.xet_choices.specs.theorems.Calls.{queries_of-append}
use Rattle.xet_cut.specs.Limits.{AreInRange}
use Rattle.xet_cut.specs.declared.limits.LimitSettings.{LimitSettings}
use Rattle.xet_dedup_queries.specs.Acts.{Act}
use Rattle.xet_dedup_queries.specs.Asking.{AreQueries}
use Rattle.xet_dedup_queries.specs.Counting.{BeginsWith, HasNext, LandsIn, entries_at_most, first_registered, registered_leaves}
use Rattle.xet_dedup_queries.specs.theorems.Counting.{entries_at_most-append, entries_at_most-chunks, entries_at_most-queries, first_registered-queries, has_next-queries, lands_in-queries, registered_leaves-append, registered_leaves-queries}
use Rattle.xet_dedup_queries.specs.theorems.Queries.{queries-asked, queries-asks_up_to, queries_of-asked, queries_of-asks_up_to}
use Rattle.xet_dedup_queries.specs.declared.places.Place.{Place}
use Rattle.xet_file_plan.specs.Moves.{PlanState}
use Rattle.xet_file_plan.specs.theorems.Closing.{raw_leaves_of}
use Rattle.xet_shard_format.specs.declared.record.FileDataSequenceEntry.{FileDataSequenceEntry as Segment}
use Rattle.xet_xorb.specs.Raw.{raw_leaves, raw_of}
use Rattle.xet_xorb_chunk.specs.declared.chunk.Chunk.{Chunk}
use Rattle.xet_xorb_chunk.specs.Chunks.{chunk_leaf}
use Rattle.xet_dedup.specs.Adding.{AddsCalls, StopsCalls}
use Rattle.xet_dedup.specs.Deduping.{IsChunk}
use Rattle.xet_dedup.specs.Placing.{IsPlaced, StopsAt, StopsBatch, StopsStoring}
use Rattle.xet_dedup.specs.Placing.StopsBatch.{asking, placing}
use Rattle.xet_dedup.specs.theorems.Parts.{some_all, some_within}
use Rattle.xet_dedup.specs.theorems.Placings.{HaveRoom, Placings, begins_places, block_before, chunks_have_room, full_has_chunks, placings}

-- as many hashes as chunks
pub length_hashes : (chunks : List Chunk) → length (hashes_of (map chunk_leaf chunks)) ≡ length chunks
length_hashes chunks = length-map (map chunk_leaf chunks) (λ leaf. leaf.0) ∙ length-map chunks chunk_leaf

-- ---- queries, and then what the placing added

-- If registrations took chunks of the block before and stored ones, but for the block after, which has one if any was stored,
-- there is room for two more entries.
room_left : (entries stored block before leaves : ℕ) → entries ≤ 2 * stored → entries + 2 * block ≤ 2 * (before + stored) → (0 < stored → 0 < block) → stored ≤ leaves → 0 < leaves
    → entries + 2 ≤ 2 * (before + leaves)
room_left entries zero block before leaves few less some within lt = omega (arith, few, lt)
room_left entries (suc stored) block before leaves few less some within lt = omega (arith, less, some (omega arith), within)

module _ (p : PlanState) (chunks : List Chunk) (old : List Call) (queries : List Call) (are : AreQueries queries) (few : queries_of queries ≤ 2 * length chunks) where
  leaves_count : length (map chunk_leaf chunks) ≡ length chunks
  leaves_count = length-map chunks chunk_leaf

  -- there is room for two entries more
  room_here : (q : PlanState) (at : ℕ) (mid now : List Call) → HaveRoom p.settings chunks → (is : Placings p q chunks at mid now) → 0 < length (map chunk_leaf chunks)
      → entries_at_most is.added + 2 ≤ 2 * (length (map chunk_leaf p.block) + length (map chunk_leaf chunks))
  room_here q at mid now room is some =
      let within = some_within is.stored (map chunk_leaf chunks) at is.some in
      room_left (entries_at_most is.added) (length is.stored) (length q.block) (length (map chunk_leaf p.block)) (length (map chunk_leaf chunks)) is.each
      (omega (
        arith,
        entries_at_most-chunks is.added (is.chunked room),
        is.none,
        ap length is.kept,
        length-append (registered_leaves is.added) (map chunk_leaf q.block),
        length-append (map chunk_leaf p.block) is.stored,
        length-map q.block chunk_leaf,
      ))
      is.has_block within.1 some

  -- All chunks were placed.
  pub adds_calls : (q : PlanState) (at : ℕ) (mid new : List Call) → HaveRoom p.settings chunks → mid ≡ old ++ queries → Placings p q chunks at mid new
      → AddsCalls (map chunk_leaf p.block) (map chunk_leaf q.block) (map chunk_leaf chunks) old new
  adds_calls q at mid new room asked is =
      let within = some_within is.stored (map chunk_leaf chunks) at is.some in
      let entries : entries_at_most (queries ++ is.added) ≡ queries_of queries + entries_at_most is.added = entries_at_most-append queries is.added ∙ ap (λ (n : ℕ). n + entries_at_most is.added) (entries_at_most-queries queries are) in
      let count : queries_of (queries ++ is.added) ≡ queries_of queries + queries_of is.added = queries_of-append queries is.added in
      record {
        added = queries ++ is.added;
        grown = is.grown ∙ ap (λ (cs : List Call). cs ++ is.added) asked ∙ append_assoc old queries is.added;
        asked = omega (arith, count, is.none, few, leaves_count);
        nexts = has_next-queries queries is.added are is.nexts;
        stored = is.stored;
        some = some_all is.stored (map chunk_leaf chunks) at is.some;
        kept = ap (λ (l : List (List ℕ × ℕ)). l ++ map chunk_leaf q.block) (registered_leaves-queries queries is.added are) ∙ is.kept;
        opens = subst (λ (l : List (List ℕ × ℕ)). BeginsWith l (map chunk_leaf p.block)) (sym (first_registered-queries queries is.added (map chunk_leaf q.block) are)) is.opens;
        lands = lands_in-queries queries is.added (map chunk_leaf q.block) are is.lands;
        each = omega (arith, entries, count, is.none, is.each, within.1);
        few =
            omega (
              arith,
              entries,
              count,
              is.none,
              within.1,
              entries_at_most-chunks is.added (is.chunked room),
              ap length is.kept,
              length-append (registered_leaves is.added) (map chunk_leaf q.block),
              length-append (map chunk_leaf p.block) is.stored,
            );
        room = λ some. (let left = room_here q at mid new room is some in omega (arith, entries, count, is.none, left));
      }

  -- The placing stopped where no further call was made,
  stops_here : (q : PlanState) (at : ℕ) (mid now new : List Call) → HaveRoom p.settings chunks → mid ≡ old ++ queries → Placings p q chunks at mid now → new ≡ now
      → StopsCalls (map chunk_leaf p.block) (map chunk_leaf chunks) old new
  stops_here q at mid now new room asked is uncalled =
      let adds = adds_calls q at mid now room asked is in
      record {
        added = adds.added;
        grown = uncalled ∙ adds.grown;
        asked = adds.asked;
        nexts = adds.nexts;
        stored = adds.stored;
        some = adds.some;
        left = map chunk_leaf q.block;
        kept = adds.kept;
        each = adds.each;
        room = adds.room;
      }

  -- or where a chunk did not fit, and could not be stored once the block was registered.
  stops_registered : (q : PlanState) (at : ℕ) (chunk : Chunk) (leaves : List (List ℕ × ℕ)) (mid now new : List Call) → HaveRoom p.settings chunks → mid ≡ old ++ queries → Placings p q chunks at mid now
      → slice_get chunks at ≡ Some chunk → leaves ≡ map chunk_leaf q.block → fits q.settings (map chunk_leaf q.block) (length chunk.bytes) ≡ false
      → new ≡ now ++ Registered leaves (chunk_leaf chunk ∷ []) ∷ [] → StopsCalls (map chunk_leaf p.block) (map chunk_leaf chunks) old new
  stops_registered q at chunk leaves mid now new room asked is here are_leaves full called =
      let one : List Call = Registered leaves (chunk_leaf chunk ∷ []) ∷ [] in
      let all : List Call = is.added ++ one in
      let within = some_within is.stored (map chunk_leaf chunks) at is.some in
      let lt : at < length chunks = slice_get_within chunks at chunk here in
      let some : 0 < length q.block =
      full_has_chunks p.settings chunks q.block at chunk room here (subst (λ (s : LimitSettings). fits s (map chunk_leaf q.block) (length chunk.bytes) ≡ false) is.settings full) in
      let entries : entries_at_most (queries ++ all) ≡ queries_of queries + (entries_at_most is.added + 2) =
      omega (arith, entries_at_most-append queries all, entries_at_most-queries queries are, entries_at_most-append is.added one) in
      let count : queries_of (queries ++ all) ≡ queries_of queries = omega (arith, queries_of-append queries all, queries_of-append is.added one, is.none) in
      record {
        added = queries ++ all;
        grown =
            called
            ∙ ap (λ (cs : List Call). cs ++ one) (is.grown ∙ ap (λ (cs : List Call). cs ++ is.added) asked ∙ append_assoc old queries is.added)
            ∙ append_assoc old (queries ++ is.added) one
            ∙ ap (λ (cs : List Call). old ++ cs) (append_assoc queries is.added one);
        asked = omega (arith, count, few, leaves_count);
        nexts = has_next-queries queries all are (all_push HasNext is.added (Registered leaves (chunk_leaf chunk ∷ [])) is.nexts (λ e. absurd (cc e)));
        stored = is.stored;
        some = some_all is.stored (map chunk_leaf chunks) at is.some;
        left = [];
        kept =
            append-nil (registered_leaves (queries ++ all))
            ∙ registered_leaves-queries queries all are
            ∙ registered_leaves-append is.added one
            ∙ ap (λ (l : List (List ℕ × ℕ)). registered_leaves is.added ++ l) (append-nil leaves ∙ are_leaves)
            ∙ is.kept;
        each = omega (arith, entries, count, is.each, within.0, lt, leaves_count);
        room = λ given.
            omega (
              arith,
              entries,
              count,
              entries_at_most-chunks is.added (is.chunked room),
              is.none,
              ap length is.kept,
              length-append (registered_leaves is.added) (map chunk_leaf q.block),
              length-append (map chunk_leaf p.block) is.stored,
              length-map q.block chunk_leaf,
              some,
              within.0,
              lt,
              leaves_count,
            );
      }

  -- The placing stopped.
  pub stops_calls : (places : List Place) (base at : ℕ) (q : PlanState) (mid now new : List Call) (acts_before acts_after : List Act) → HaveRoom p.settings chunks → mid ≡ old ++ queries → Placings p q chunks at mid now
      → StopsAt chunks places base q at now new acts_before acts_after → StopsCalls (map chunk_leaf p.block) (map chunk_leaf chunks) old new
  stops_calls places base at q mid now new acts_before acts_after room asked is (inl uncalled) = stops_here q at mid now new room asked is uncalled.0
  stops_calls places base at q mid now new acts_before acts_after room asked is (inr stops) =
      let same = block_before chunks places base q stops.1 at stops.2 stops.4 in
      by stops.5 same
    where
      by : StopsStoring stops.1 stops.0 now new acts_before acts_after → (stops.1.block ≡ q.block) × (stops.1.settings ≡ q.settings) → StopsCalls (map chunk_leaf p.block) (map chunk_leaf chunks) old new
      by (inl uncalled) same = stops_here q at mid now new room asked is uncalled.0
      by (inr registered) same =
          stops_registered q at stops.0 (raw_leaves (raw_of stops.1.block (0 ∷ []))) mid now new room asked is stops.3
          (raw_leaves_of stops.1.block (0 ∷ []) ∙ ap (map chunk_leaf) same.0)
          ((λ i. fits (sym same.1 i) (map chunk_leaf (sym same.0 i)) (length stops.0.bytes)) ∙ registered.0)
          registered.1

-- ---- batches

module _ {I : Type 0} (listing : I → List ℕ → Option (List ℕ)) (standing : I → List (List ℕ) → Segment → Type 0) (calling : I → List Call) (acting : I → List Act) (file_id : ℕ) (chunks : List Chunk) (old : I) (p : PlanState) where
  queries_few : (queries : List Call) → queries_of queries ≤ 2 * length (hashes_of (map chunk_leaf chunks)) → queries_of queries ≤ 2 * length chunks
  queries_few queries few = omega (arith, few, length_hashes chunks)

  -- A batch was placed: what it added to the calls.
  pub placed_calls : (new : I) (q : PlanState) (global_chunks global_bytes : ℕ) → AreInRange p.settings → AllByRecursion (IsChunk p.settings) chunks
      → IsPlaced listing standing calling acting file_id chunks old p new q global_chunks global_bytes
      → AddsCalls (map chunk_leaf p.block) (map chunk_leaf q.block) (map chunk_leaf chunks) (calling old) (calling new)
  placed_calls new q global_chunks global_bytes range are is =
      let a = is.asked in
      let most = queries_of-asked (length p.leaves == 0) (hashes_of (map chunk_leaf chunks)) (calling old) (calling is.queried) (acting old) (acting is.queried) is.places global_chunks global_bytes a in
      subst (AddsCalls (map chunk_leaf p.block) (map chunk_leaf q.block) (map chunk_leaf chunks) (calling old)) (sym is.placed.calls)
      (adds_calls p chunks (calling old) (a.first ++ a.second)
      (queries-asked (length p.leaves == 0) (hashes_of (map chunk_leaf chunks)) (calling old) (calling is.queried) (acting old) (acting is.queried) is.places global_chunks global_bytes a)
      (omega (arith, most, ap queries_of a.calls, queries_of-append (calling old) (a.first ++ a.second), length_hashes chunks))
      q (length chunks) (calling is.queried) (calling is.placed.last) (chunks_have_room p.settings chunks range are) a.calls
      (placings listing standing calling acting chunks is.places (length p.leaves) file_id is.queried p is.placed.last q (length chunks) is.placed.noted is.placed.placed))

  -- A batch was not placed: what it added to the calls.
  pub stopped_calls : (is_global : Bool) (new : I) → AreInRange p.settings → AllByRecursion (IsChunk p.settings) chunks → StopsBatch is_global listing standing calling acting file_id chunks old p new
      → StopsCalls (map chunk_leaf p.block) (map chunk_leaf chunks) (calling old) (calling new)
  stopped_calls is_global new range are (asking stops) =
      stops_here p chunks (calling old) stops.added
      (queries-asks_up_to is_global (length p.leaves == 0) (hashes_of (map chunk_leaf chunks)) stops.added stops.done stops.asks)
      (queries_few stops.added (queries_of-asks_up_to is_global (length p.leaves == 0) (hashes_of (map chunk_leaf chunks)) stops.added stops.done stops.asks))
      p 0 (calling new) (calling new) (calling new) (chunks_have_room p.settings chunks range are) stops.calls (begins_places p chunks (calling new)) refl
  stopped_calls is_global new range are (placing queried added places global_chunks global_bytes called found a stops) =
      let most = queries_of-asked (length p.leaves == 0) (hashes_of (map chunk_leaf chunks)) (calling old) (calling queried) (acting old) (acting queried) places global_chunks global_bytes a in
      stops_calls p chunks (calling old) (a.first ++ a.second)
      (queries-asked (length p.leaves == 0) (hashes_of (map chunk_leaf chunks)) (calling old) (calling queried) (acting old) (acting queried) places global_chunks global_bytes a)
      (omega (arith, most, ap queries_of a.calls, queries_of-append (calling old) (a.first ++ a.second), length_hashes chunks))
      places (length p.leaves) stops.at stops.plan (calling queried) (calling stops.now) (calling new) (acting stops.now) (acting new) (chunks_have_room p.settings chunks range are) a.calls
      (placings listing standing calling acting chunks places (length p.leaves) file_id queried p stops.now stops.plan stops.at stops.noted stops.placed)
      stops.stops

  -- Each registration of a batch was made because a chunk did not fit.
  pub placed_nexts : (new : I) (q : PlanState) (global_chunks global_bytes : ℕ) → IsPlaced listing standing calling acting file_id chunks old p new q global_chunks global_bytes
      → (added : List Call) × (calling new ≡ calling old ++ added) × AllByRecursion HasNext added
  placed_nexts new q global_chunks global_bytes is =
      let a = is.asked in
      let placed = placings listing standing calling acting chunks is.places (length p.leaves) file_id is.queried p is.placed.last q (length chunks) is.placed.noted is.placed.placed in (
        (a.first ++ a.second) ++ placed.added,
        is.placed.calls ∙ placed.grown ∙ ap (λ (cs : List Call). cs ++ placed.added) a.calls ∙ append_assoc (calling old) (a.first ++ a.second) placed.added,
        has_next-queries (a.first ++ a.second) placed.added
            (queries-asked (length p.leaves == 0) (hashes_of (map chunk_leaf chunks)) (calling old) (calling is.queried) (acting old) (acting is.queried) is.places global_chunks global_bytes a)
            placed.nexts,
      )

  -- The chunk that did not fit into a xorb begins the one that is registered after it, or the open block after the batch. The
  -- open block before begins the first one, or the open block after.
  pub placed_lands : (new : I) (q : PlanState) (global_chunks global_bytes : ℕ) → IsPlaced listing standing calling acting file_id chunks old p new q global_chunks global_bytes
      → (added : List Call) × (calling new ≡ calling old ++ added) × LandsIn (map chunk_leaf q.block) added × BeginsWith (first_registered added (map chunk_leaf q.block)) (map chunk_leaf p.block)
  placed_lands new q global_chunks global_bytes is =
      let a = is.asked in
      let queries = queries-asked (length p.leaves == 0) (hashes_of (map chunk_leaf chunks)) (calling old) (calling is.queried) (acting old) (acting is.queried) is.places global_chunks global_bytes a in
      let placed = placings listing standing calling acting chunks is.places (length p.leaves) file_id is.queried p is.placed.last q (length chunks) is.placed.noted is.placed.placed in (
        (a.first ++ a.second) ++ placed.added,
        is.placed.calls ∙ placed.grown ∙ ap (λ (cs : List Call). cs ++ placed.added) a.calls ∙ append_assoc (calling old) (a.first ++ a.second) placed.added,
        lands_in-queries (a.first ++ a.second) placed.added (map chunk_leaf q.block) queries placed.lands,
        subst (λ (l : List (List ℕ × ℕ)). BeginsWith l (map chunk_leaf p.block)) (sym (first_registered-queries (a.first ++ a.second) placed.added (map chunk_leaf q.block) queries)) placed.opens,
      )
