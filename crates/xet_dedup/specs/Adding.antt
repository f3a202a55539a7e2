-- What a batch of chunks adds to the calls of a file: queries, and then registrations of xorbs that were full.
use Rattle.std.specs.Prelude.{◌≡◌, ◌<◌, ◌≤◌, ◌+◌, ◌*◌, ◌++◌, ◌∷◌, [], ℕ, List, length}
use Rattle.std.specs.List.{AllByRecursion}
use Rattle.xet_choices.specs.Calls.{Call, queries_of}
use Rattle.xet_dedup_queries.specs.Counting.{BeginsWith, HasNext, LandsIn, entries_at_most, first_registered, registered_leaves}

-- The first list has some items of the second, in order.
pub data IsSomeOf {X : Type 0} : List X → List X → Type 0 where
  nothing : IsSomeOf [] []
  takes : (x : X) (xs ys : List X) → IsSomeOf xs ys → IsSomeOf (x ∷ xs) (x ∷ ys)
  skips : (y : X) (xs ys : List X) → IsSomeOf xs ys → IsSomeOf xs (y ∷ ys)

-- A batch of chunks with these leaves was placed, and the open block has the leaves `after`, where it had `before`. Each
-- registration was made because the next chunk did not fit. The chunks of the xorbs that were registered, and those of the open
-- block after them, are those of the open block before and then some of the batch, in order. The chunks that did not fit
-- into a xorb begin the next one, or the open block after; and the open block before begins the first one. The entries of the
-- registrations are at most two for each chunk of the batch; and at most two for each of these and of the open block before,
-- less two for each of the open block after. If the batch has chunks, there is room in that for two entries of a step that
-- fails after it.
pub record AddsCalls (before after leaves : List (List ℕ × ℕ)) (old new : List Call) : Type 0 where
  pub added : List Call
  pub grown : new ≡ old ++ added
  pub asked : queries_of added ≤ 2 * length leaves
  pub nexts : AllByRecursion HasNext added
  pub stored : List (List ℕ × ℕ)
  pub some : IsSomeOf stored leaves
  pub kept : registered_leaves added ++ after ≡ before ++ stored
  pub opens : BeginsWith (first_registered added after) before
  pub lands : LandsIn after added
  pub each : entries_at_most added ≤ queries_of added + 2 * length leaves
  pub few : entries_at_most added + 2 * length after ≤ queries_of added + 2 * (length before + length leaves)
  pub room : 0 < length leaves → entries_at_most added + 2 ≤ queries_of added + 2 * (length before + length leaves)

-- A batch of chunks with these leaves was not placed, where the open block had the leaves `before`. Each registration was made
-- because the next chunk did not fit. The chunks of the xorbs that were registered, and those that were left in the open block,
-- are those of the open block before and then some of the batch, in order. The entries of the registrations are at most two for
-- each chunk of the batch. If it had chunks, those entries, and two more of the step that failed, are at most two for each chunk
-- of the batch and of the open block before.
pub record StopsCalls (before leaves : List (List ℕ × ℕ)) (old new : List Call) : Type 0 where
  pub added : List Call
  pub grown : new ≡ old ++ added
  pub asked : queries_of added ≤ 2 * length leaves
  pub nexts : AllByRecursion HasNext added
  pub stored : List (List ℕ × ℕ)
  pub some : IsSomeOf stored leaves
  pub left : List (List ℕ × ℕ)
  pub kept : registered_leaves added ++ left ≡ before ++ stored
  pub each : entries_at_most added ≤ queries_of added + 2 * length leaves
  pub room : 0 < length leaves → entries_at_most added + 2 ≤ queries_of added + 2 * (length before + length leaves)
