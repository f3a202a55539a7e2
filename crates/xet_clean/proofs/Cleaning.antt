-- A file whose bytes come in pieces: what a batch of chunks makes of it.
use Rattle.std.proofs.Common.{◌≡◌, ◌∙◌, ℕ, ◌+◌, ◌≤◌, Bool, true, false, List, [], ◌++◌, length, map, Result, Ok, Err, is_ok, OnErr, OnOk, refl, sym, ap, subst, append-nil, arith, length-append}
use Rattle.std.specs.List.{AllByRecursion}
use Rattle.std.proofs.lemmas.List.{length-map}
use Rattle.xet_base.specs.theorems.Elements.{all_more}
use Rattle.xet_cut.specs.Chunking.{chunking}
use Rattle.xet_cut.specs.Limits.{AreInRange}
use Rattle.xet_cut.specs.Streams.{IsBlock, IsSplit, Splitting}
use Rattle.xet_cut.specs.declared.limits.LimitSettings.{LimitSettings}
use Rattle.xet_cut.specs.theorems.Parts.{IsChunkOf, block_chunks, chunking_lengths}
use Rattle.xet_dedup.specs.Deduping.{IsChunk, IsDeduped}
use Rattle.xet_file_plan.specs.Kept.{max_chunks}
use Rattle.xet_file_plan.specs.Moves.{PlanState}
use Rattle.xet_hash.specs.Merkle.{leaves_of, total_len}
use Rattle.xet_store.specs.Interface.{Stands}
use Rattle.xet_store.specs.Holders.{FollowsAsking, Holder, calls_of, core_at, lengths_in, xorb_limits}
use Rattle.xet_xorb_chunk.specs.Chunks.{chunk_leaf, chunk_of}
use Rattle.xet_xorb_chunk.specs.declared.chunk.Chunk.{Chunk}
use Rattle.xet_clean.specs.Files.{leaves_in}
use Rattle.xet_store_disk.specs.Separate.{Among}
use Rattle.xet_clean.specs.Planning.{IsFew, IsPlanned, IsWithin, RegistersOnly}
use Rattle.xet_clean.specs.Cleaner.{IsBatchOf, IsCleaning, IsCleaningBytes, StopsInBatch}
use Rattle.xet_clean.specs.theorems.Owning.{in_itself}
use Rattle.xet_clean.proofs.FileCalls.{HasCalls, calls_few, calls_more, few_still, few_stopped, only_still, only_stopped, same_limits}
use Rattle.xet_clean.proofs.Blocks.{plan_within}
use Rattle.xet_clean.proofs.Splitting.{Leaf, few_leaves, leaves-append, leaves_long, leaves_short, left_one, made_leaves, split_chunks, split_count, split_in, split_long, split_more, split_total}

-- ---- a batch

-- A batch of chunks was placed in the plan of a file.
pub record HasPlaced (start old new : Holder) (is_whole : Bool) (none : ℕ × ℕ) (p q : PlanState) (chunks : List Chunk) : Type 0 where
  pub whole : is_whole ≡ true
  pub global : none ≡ (0, 0)
  pub deduped : IsDeduped (lengths_in (core_at new)) (Stands new) (calls_of start) (calls_of new) (xorb_limits new.limits) q
  pub leaves : q.leaves ≡ p.leaves ++ map chunk_leaf chunks
  pub settings : q.settings ≡ p.settings
  pub follows : FollowsAsking old new
  pub passed : new.stopped ≡ old.stopped
  pub batch : IsBatchOf (map chunk_leaf chunks) (map chunk_leaf p.block) (map chunk_leaf q.block) old new

-- It was, unless there was an error.
pub placed_by : {T E : Type 0} (r : Result T E) (start old new : Holder) (is_whole : Bool) (none : ℕ × ℕ) (p q : PlanState) (chunks : List Chunk) → is_whole ≡ is_ok r → OnOk r (none ≡ (0, 0))
    → OnOk r (IsDeduped (lengths_in (core_at new)) (Stands new) (calls_of start) (calls_of new) (xorb_limits new.limits) q) → OnOk r (q.leaves ≡ p.leaves ++ map chunk_leaf chunks) → OnOk r (q.settings ≡ p.settings)
    → FollowsAsking old new → OnOk r (new.stopped ≡ old.stopped) → OnOk r (IsBatchOf (map chunk_leaf chunks) (map chunk_leaf p.block) (map chunk_leaf q.block) old new)
    → OnOk r (HasPlaced start old new is_whole none p q chunks)
placed_by (Ok x) start old new is_whole none p q chunks whole global deduped leaves settings follows passed batch = record {
  whole = whole;
  global = global;
  deduped = deduped;
  leaves = leaves;
  settings = settings;
  follows = follows;
  passed = passed;
  batch = batch;
}
placed_by (Err e) start old new is_whole none p q chunks whole global deduped leaves settings follows passed batch = tt

-- what is known whatever the result
pub on_err : {T E : Type 0} {P : Type 0} (r : Result T E) → P → OnErr r P
on_err (Ok x) p = tt
on_err (Err e) p = p

-- the chunks of a block are chunks of the file
chunks_of_file : (s : LimitSettings) (chunks : List Chunk) → AllByRecursion (IsChunkOf s) chunks → AllByRecursion (IsChunk s) chunks
chunks_of_file s chunks are = all_more (IsChunkOf s) (IsChunk s) chunks (λ c is. record { hashed = is.0; some = is.1; small = is.2 }) are

-- ---- a file

module _ (start old : Holder) (whole : Bool) (plan : PlanState) (global : ℕ × ℕ) (splitting : Splitting) (count : ℕ) (bytes : List ℕ) (c : IsCleaning start old whole plan global splitting count bytes) where
  -- where its bytes are counted
  pub cleaning_bytes : IsCleaningBytes start old whole plan global splitting bytes
  cleaning_bytes = record {
    is_whole = c.is_whole;
    none_global = c.none_global;
    counted = refl;
    range = c.range;
    short = c.short;
    settings = c.settings;
    same = c.same;
    parts = c.parts;
    split = c.split;
    leaves = c.leaves;
    long = c.long;
    taken = c.taken;
    deduped = c.deduped;
    follows = c.follows;
    passed = c.passed;
    asked = c.asked;
    nexts = c.nexts;
    lands = c.lands;
    few = c.few;
    own = c.own;
  }

  has_calls : HasCalls start old plan.leaves (map chunk_leaf plan.block)
  has_calls = record {
    follows = c.follows;
    passed = c.passed;
    asked = c.asked;
    nexts = c.nexts;
    lands = c.lands;
    few = omega (arith, c.few, length-map plan.block chunk_leaf);
    own = c.own;
  }

  -- Its entries are few, also if there are more bytes.
  pub few_with : (rest : List ℕ) → IsFew start old (bytes ++ rest)
  few_with rest =
      few_still start old plan.leaves (map chunk_leaf plan.block) (bytes ++ rest) has_calls
      (omega (arith, ap length c.leaves, split_count old.limits bytes c.parts splitting.buffered rest c.split))

  pub few_here : IsFew start old bytes
  few_here = subst (IsFew start old) (append-nil bytes) (few_with [])

  -- The chunks that it registered are its own, also if there are more bytes.
  pub only_with : (rest : List ℕ) → RegistersOnly start old (bytes ++ rest)
  only_with rest =
      only_still start old plan.leaves (map chunk_leaf plan.block) (bytes ++ rest) has_calls
      (subst (AllByRecursion (Among (leaves_in old.limits (bytes ++ rest)))) (sym c.leaves) (split_in old.limits bytes c.parts splitting.buffered rest c.split))

  pub only_here : RegistersOnly start old bytes
  only_here = subst (RegistersOnly start old) (append-nil bytes) (only_with [])

  -- of the leaves of all chunks so far
  calls_after : (now : Holder) (is_whole : Bool) (none : ℕ × ℕ) (q : PlanState) (chunks : List Chunk) → HasPlaced start old now is_whole none plan q chunks → HasCalls start now q.leaves (map chunk_leaf q.block)
  calls_after now is_whole none q chunks placed =
      subst (λ (l : List Leaf). HasCalls start now l (map chunk_leaf q.block)) (sym placed.leaves)
      (calls_more start old now plan.leaves (map chunk_leaf chunks) (map chunk_leaf plan.block) (map chunk_leaf q.block) has_calls placed.follows placed.passed placed.batch)

  few_after : (now : Holder) (chunks : List Chunk) (all : List ℕ) → FollowsAsking old now → StopsInBatch (map chunk_leaf chunks) (map chunk_leaf plan.block) old now
      → length plan.leaves + length (map chunk_leaf chunks) ≤ length (leaves_in old.limits all) → IsFew start now all
  few_after now chunks all f stops within =
      few_stopped start old now plan.leaves (map chunk_leaf chunks) (map chunk_leaf plan.block) all has_calls f stops within

  only_after : (now : Holder) (chunks : List Chunk) (all : List ℕ) → FollowsAsking old now → StopsInBatch (map chunk_leaf chunks) (map chunk_leaf plan.block) old now
      → AllByRecursion (Among (leaves_in old.limits all)) (plan.leaves ++ map chunk_leaf chunks) → RegistersOnly start now all
  only_after now chunks all f stops within = only_stopped start old now plan.leaves (map chunk_leaf chunks) (map chunk_leaf plan.block) all has_calls f stops within

  -- ---- the next bytes

  module _ (new : List ℕ) (chunks : List Chunk) (buffered : List ℕ) (short : length bytes + length new ≤ old.limits.max_source_bytes) (given : IsBlock splitting.settings (splitting.buffered ++ new) false chunks buffered) where
    block : IsBlock old.limits (splitting.buffered ++ new) false chunks buffered
    block = subst (λ (s : LimitSettings). IsBlock s (splitting.buffered ++ new) false chunks buffered) c.same given

    abbrev more : List (List ℕ)
    more = c.parts ++ block.parts

    split_after : IsSplit old.limits (bytes ++ new) more buffered
    split_after = split_more old.limits bytes new c.parts block.parts splitting.buffered buffered c.split (block.split refl)

    leaves_after : plan.leaves ++ map chunk_leaf chunks ≡ leaves_of more
    leaves_after =
        ap (λ (l : List Leaf). l ++ map chunk_leaf chunks) c.leaves
        ∙ ap (λ (l : List Leaf). leaves_of c.parts ++ l) (ap (map chunk_leaf) block.made ∙ made_leaves block.parts)
        ∙ sym (leaves-append c.parts block.parts)

    long_after : AllByRecursion (λ (leaf : Leaf). old.limits.minimum_chunk ≤ leaf.1) (leaves_of more)
    long_after = leaves_long old.limits.minimum_chunk more (split_long old.limits c.range.minimum_from c.range.minimum_to (bytes ++ new) more buffered split_after)

    total_after : total_len (leaves_of more) + length buffered ≡ length bytes + length new
    total_after = omega (arith, split_total old.limits c.range.minimum_from c.range.minimum_to (bytes ++ new) more buffered split_after, length-append bytes new)

    -- they can be placed
    pub more_few : length plan.leaves + length chunks ≤ max_chunks
    more_few =
        omega (
          arith,
          few_leaves old.limits (leaves_of more) c.range long_after (omega (arith, total_after, short)),
          ap length leaves_after,
          length-append plan.leaves (map chunk_leaf chunks),
          length-map chunks chunk_leaf,
        )

    pub more_chunks : AllByRecursion (IsChunk plan.settings) chunks
    more_chunks =
        subst (λ (s : LimitSettings). AllByRecursion (IsChunk s) chunks) (sym c.settings)
        (chunks_of_file old.limits chunks (block_chunks old.limits (splitting.buffered ++ new) false chunks buffered c.range.minimum_from c.range.minimum_to block))

    -- and then it is a file of these bytes too.
    pub cleaning_more : (now : Holder) (is_whole : Bool) (none : ℕ × ℕ) (q : PlanState) (after : Splitting) (counted : ℕ) → HasPlaced start old now is_whole none plan q chunks
        → after.settings ≡ splitting.settings → after.buffered ≡ buffered → counted ≡ count + length new → IsCleaning start now is_whole q none after counted (bytes ++ new)
    cleaning_more now is_whole none q after counted placed settings left sum =
        let limits : now.limits ≡ old.limits = same_limits old now placed.follows.follows in
        let leaves : q.leaves ≡ leaves_of more = placed.leaves ∙ leaves_after in
        let calls : HasCalls start now q.leaves (map chunk_leaf q.block) = calls_after now is_whole none q chunks placed in
        record {
          is_whole = placed.whole;
          none_global = placed.global;
          counted = omega (arith, sum, c.counted, length-append bytes new);
          range = subst AreInRange (sym limits) c.range;
          short = omega (arith, short, length-append bytes new, ap (λ (s : LimitSettings). s.max_source_bytes) limits);
          settings = placed.settings ∙ c.settings ∙ sym limits;
          same = settings ∙ c.same ∙ sym limits;
          parts = more;
          split = subst (λ (s : LimitSettings). IsSplit s (bytes ++ new) more after.buffered) (sym limits) (subst (IsSplit old.limits (bytes ++ new) more) (sym left) split_after);
          leaves = leaves;
          long =
              subst (λ (s : LimitSettings). AllByRecursion (λ (leaf : Leaf). s.minimum_chunk ≤ leaf.1) q.leaves) (sym limits)
              (subst (AllByRecursion (λ (leaf : Leaf). old.limits.minimum_chunk ≤ leaf.1)) (sym leaves) long_after);
          taken = omega (arith, total_after, ap total_len leaves, ap length left, length-append bytes new);
          deduped = placed.deduped;
          follows = calls.follows;
          passed = calls.passed;
          asked = calls.asked;
          nexts = calls.nexts;
          lands = calls.lands;
          few = omega (arith, calls.few, length-map q.block chunk_leaf);
          own = calls.own;
        }

    -- If they cannot be placed, the entries are few.
    pub few_more : (now : Holder) → FollowsAsking old now → StopsInBatch (map chunk_leaf chunks) (map chunk_leaf plan.block) old now → IsFew start now (bytes ++ new)
    few_more now f stops =
        let within : length (leaves_of more) ≤ length (leaves_in old.limits (bytes ++ new)) =
        subst (λ (t : List ℕ). length (leaves_of more) ≤ length (leaves_of (chunking old.limits t))) (append-nil (bytes ++ new)) (split_count old.limits (bytes ++ new) more buffered [] split_after) in
        few_after now chunks (bytes ++ new) f stops (omega (arith, within, ap length leaves_after, length-append plan.leaves (map chunk_leaf chunks)))

    pub only_more : (now : Holder) → FollowsAsking old now → StopsInBatch (map chunk_leaf chunks) (map chunk_leaf plan.block) old now → (rest : List ℕ) → RegistersOnly start now ((bytes ++ new) ++ rest)
    only_more now f stops rest =
        only_after now chunks ((bytes ++ new) ++ rest) f stops
        (subst (AllByRecursion (Among (leaves_in old.limits ((bytes ++ new) ++ rest)))) (sym leaves_after) (split_in old.limits (bytes ++ new) more buffered rest split_after))

  -- ---- the end

  module _ (chunks : List Chunk) (left : List ℕ) (given : IsBlock splitting.settings (splitting.buffered ++ []) true chunks left) where
    last : IsBlock old.limits (splitting.buffered ++ []) true chunks left
    last = subst (λ (s : LimitSettings). IsBlock s (splitting.buffered ++ []) true chunks left) c.same given

    last_parts : last.parts ≡ chunking old.limits splitting.buffered
    last_parts = (last.ended refl).0 ∙ ap (chunking old.limits) (append-nil splitting.buffered)

    all_leaves : plan.leaves ++ map chunk_leaf chunks ≡ leaves_in old.limits bytes
    all_leaves =
        ap (λ (l : List Leaf). l ++ map chunk_leaf chunks) c.leaves
        ∙ ap (λ (l : List Leaf). leaves_of c.parts ++ l) (ap (map chunk_leaf) last.made ∙ made_leaves last.parts ∙ ap leaves_of last_parts)
        ∙ sym (leaves-append c.parts (chunking old.limits splitting.buffered))
        ∙ ap leaves_of (sym (split_chunks old.limits bytes c.parts splitting.buffered c.split))

    -- the last chunk can be placed
    pub last_few : length plan.leaves + length chunks ≤ max_chunks
    last_few =
        omega (
          arith,
          few_leaves old.limits plan.leaves c.range c.long (omega (arith, c.taken, c.short)),
          left_one old.limits c.range.minimum_from c.range.minimum_to splitting.buffered c.split.none,
          ap length last.made,
          length-map last.parts chunk_of,
          ap length last_parts,
        )

    pub last_chunks : AllByRecursion (IsChunk plan.settings) chunks
    last_chunks =
        subst (λ (s : LimitSettings). AllByRecursion (IsChunk s) chunks) (sym c.settings)
        (chunks_of_file old.limits chunks (block_chunks old.limits (splitting.buffered ++ []) true chunks left c.range.minimum_from c.range.minimum_to last))

    -- and then the file is planned.
    pub planned_last : (now : Holder) (is_whole : Bool) (none : ℕ × ℕ) (q : PlanState) → HasPlaced start old now is_whole none plan q chunks → IsPlanned start now bytes q
    planned_last now is_whole none q placed =
        let limits : now.limits ≡ old.limits = same_limits old now placed.follows.follows in
        let settings : q.settings ≡ old.limits = placed.settings ∙ c.settings in
        let leaves : q.leaves ≡ leaves_in old.limits bytes = placed.leaves ∙ all_leaves in
        let calls : HasCalls start now q.leaves (map chunk_leaf q.block) = calls_after now is_whole none q chunks placed in
        let small : AllByRecursion (λ (leaf : Leaf). leaf.1 ≤ old.limits.cut_bytes) q.leaves =
        subst (AllByRecursion (λ (leaf : Leaf). leaf.1 ≤ old.limits.cut_bytes)) (sym leaves)
        (leaves_short old.limits old.limits.cut_bytes (chunking old.limits bytes) c.range.cut_bytes_from (chunking_lengths old.limits bytes c.range.minimum_from c.range.minimum_to)) in
        record {
          short = omega (arith, c.short, ap (λ (s : LimitSettings). s.max_source_bytes) limits);
          settings = settings ∙ sym limits;
          leaves = leaves ∙ ap (λ (s : LimitSettings). leaves_in s bytes) (sym limits);
          deduped = placed.deduped;
          block =
              subst (λ (s : LimitSettings). IsWithin s q.block) (settings ∙ sym limits)
              (plan_within (lengths_in (core_at now)) (Stands now) placed.deduped.plan.since q (subst AreInRange (sym settings) c.range)
              (subst (λ (s : LimitSettings). AllByRecursion (λ (leaf : Leaf). leaf.1 ≤ s.cut_bytes) q.leaves) (sym settings) small) placed.deduped.plan.plan);
          follows = calls.follows;
          passed = calls.passed;
          asked = calls.asked;
          nexts = calls.nexts;
          lands = calls.lands;
          few = omega (arith, calls_few start now q.leaves (map chunk_leaf q.block) calls, length-map q.block chunk_leaf);
          own = calls.own;
        }

    -- If it cannot be placed, the entries are few.
    pub few_last : (now : Holder) → FollowsAsking old now → StopsInBatch (map chunk_leaf chunks) (map chunk_leaf plan.block) old now → IsFew start now bytes
    few_last now f stops = few_after now chunks bytes f stops (omega (arith, ap length all_leaves, length-append plan.leaves (map chunk_leaf chunks)))

    pub only_last : (now : Holder) → FollowsAsking old now → StopsInBatch (map chunk_leaf chunks) (map chunk_leaf plan.block) old now → RegistersOnly start now bytes
    only_last now f stops = only_after now chunks bytes f stops (subst (AllByRecursion (Among (leaves_in old.limits bytes))) (sym all_leaves) (in_itself (leaves_in old.limits bytes)))
