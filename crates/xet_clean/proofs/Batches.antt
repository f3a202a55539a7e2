-- What a batch of chunks leaves of the maker of steps.
use Rattle.std.proofs.Common.{◌≡◌, ◌∙◌, ℕ, ◌+◌, ◌≤◌, ◌<◌, Bool, true, false, ◌==◌, List, [], ◌∷◌, ◌++◌, length, map, refl, sym, ap, subst, true≢false, if◌then◌else◌, arith}
use Rattle.std.proofs.lemmas.List.{append-nil, append_cancel_left, length-map}
use Rattle.std.specs.List.{AllByRecursion}
use Rattle.xet_base.specs.theorems.Elements.{all_both, all_prefix}
use Rattle.xet_choices.specs.Calls.{Call, queries_of}
use Rattle.xet_choices.specs.theorems.Calls.{queries_of-append}
use Rattle.xet_dedup.specs.Adding.{AddsCalls, IsSomeOf, StopsCalls}
use Rattle.xet_dedup_queries.specs.Counting.{HasNext, entries_at_most, registered_leaves}
use Rattle.xet_dedup_queries.specs.theorems.Counting.{entries_at_most-append}
use Rattle.xet_dedup_queries.specs.declared.places.DedupError.{DedupError}
use Rattle.xet_dedup_queries.specs.declared.places.DedupError.TheVariants.{Interface, OutOfMemory}
use Rattle.xet_hash.specs.declared.error.StoreError.{StoreError}
use Rattle.xet_store.specs.Interface.{IsErrorSince, IsRefused}
use Rattle.xet_store.specs.Holders.{FollowsAsking, Holder, calls_in, calls_of}
use Rattle.xet_store_disk.specs.Separate.{Among}
use Rattle.xet_xorb_chunk.specs.Chunks.{chunk_leaf}
use Rattle.xet_xorb_chunk.specs.declared.chunk.Chunk.{Chunk}
use Rattle.xet_clean.specs.Cleaner.{IsBatchOf, StopsInBatch}
use Rattle.xet_clean.specs.Errors.{store_error}
use Rattle.xet_clean.specs.theorems.Adding.{asking_calls}
use Rattle.xet_clean.specs.theorems.Owning.{in_after, in_itself, in_more, in_some}

failed_few : (old new : Bool) → (if new then (if old then 0 else 2) else 0) ≤ 2
failed_few true true = omega arith
failed_few false true = omega arith
failed_few old false = omega arith

-- what was stored of the batch, and what was in the open block
stored_of : (before leaves stored : List (List ℕ × ℕ)) → IsSomeOf stored leaves → AllByRecursion (Among (before ++ leaves)) (before ++ stored)
stored_of before leaves stored some =
    all_both (Among (before ++ leaves)) before stored (in_more before leaves before (in_itself before)) (in_after before leaves stored (in_some stored leaves some))

module _ (leaves : List (List ℕ × ℕ)) (old new : Holder) (asked : queries_of (calls_of new) ≤ queries_of (calls_of old) + length leaves) where
  -- a batch that was placed
  pub batch_of : (before after : List (List ℕ × ℕ)) → AddsCalls before after leaves (calls_of old) (calls_of new) → IsBatchOf leaves before after old new
  batch_of before after a = record {
    calls = a.added;
    added = a.grown;
    asked = omega (arith, asked, ap queries_of a.grown, queries_of-append (calls_of old) a.added);
    nexts = a.nexts;
    opens = a.opens;
    lands = a.lands;
    few = a.few;
    own = subst (AllByRecursion (Among (before ++ leaves))) (sym a.kept) (stored_of before leaves a.stored a.some);
  }

  -- a batch that was not placed
  pub stops_in_batch : (before : List (List ℕ × ℕ)) → StopsCalls before leaves (calls_of old) (calls_of new) → FollowsAsking old new → 0 < length leaves → StopsInBatch leaves before old new
  stops_in_batch before s f some = record {
    follows = f.follows;
    nexts = subst (AllByRecursion HasNext) (sym are) s.nexts;
    few =
        omega (
          arith,
          asked,
          s.room some,
          f.few,
          failed_few old.stopped new.stopped,
          ap queries_of s.grown,
          queries_of-append (calls_of old) s.added,
          ap entries_at_most s.grown,
          entries_at_most-append (calls_of old) s.added,
          ap entries_at_most f.added,
          entries_at_most-append (calls_of old) f.calls,
        );
    own = subst (λ (cs : List Call). AllByRecursion (Among (before ++ leaves)) (registered_leaves cs)) (sym are)
        (all_prefix (Among (before ++ leaves)) (registered_leaves s.added) s.left (subst (AllByRecursion (Among (before ++ leaves))) (sym s.kept) (stored_of before leaves s.stored s.some)));
  }
    where
      are : calls_in f.follows.own ≡ s.added
      are = asking_calls old new f ∙ append_cancel_left (calls_of old) f.calls s.added (sym f.added ∙ s.grown)

-- an empty one
pub batch_nothing : (leaves before : List (List ℕ × ℕ)) (h : Holder) → IsBatchOf leaves before before h h
batch_nothing leaves before h = record {
  calls = [];
  added = sym (append-nil (calls_of h));
  asked = omega arith;
  nexts = tt;
  opens = ([], sym (append-nil before));
  lands = tt;
  few = omega arith;
  own = in_more before leaves before (in_itself before);
}

-- a batch that is not empty has leaves
pub some_chunks : (chunks : List Chunk) (b : Bool) → b ≡ (length chunks == 0) → b ≡ false → 0 < length (map chunk_leaf chunks)
some_chunks [] b is other = absurd (true≢false (sym is ∙ other))
some_chunks (c ∷ cs) b is other = omega (arith, length-map (c ∷ cs) chunk_leaf)

-- the error of a batch
pub batch_error : (old new : Holder) (e : DedupError StoreError) → ((d : StoreError) → e ≡ Interface d → IsRefused old new d) → IsErrorSince old new (store_error e)
batch_error old new (Interface d) refused = (refused d refl).1
batch_error old new OutOfMemory refused = tt
