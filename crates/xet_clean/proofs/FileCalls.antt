-- What the batches of a file add to the calls and to the entries of the maker of steps.
use Rattle.std.proofs.Common.{◌≡◌, ◌∙◌, ℕ, ◌+◌, ◌*◌, ◌≤◌, Bool, true, false, List, ◌++◌, append_assoc, length, sym, ap, subst, if◌then◌else◌, arith, length-append}
use Rattle.std.specs.List.{AllByRecursion}
use Rattle.std.proofs.lemmas.List.{append_cancel_left}
use Rattle.xet_base.specs.theorems.Elements.{all_back, all_both, all_prefix}
use Rattle.xet_choices.specs.Calls.{Call, queries_of}
use Rattle.xet_choices.specs.theorems.Calls.{queries_of-append}
use Rattle.xet_cut.specs.declared.limits.LimitSettings.{LimitSettings}
use Rattle.xet_dedup_queries.specs.Counting.{HasNext, LandsIn, entries_at_most, registered_leaves}
use Rattle.xet_dedup_queries.specs.theorems.Counting.{entries_at_most-append, lands_in-append}
use Rattle.xet_store.specs.Holders.{Follows, FollowsAsking, Holder, calls_in, calls_of}
use Rattle.xet_store.specs.theorems.Following.{asking_then}
use Rattle.xet_clean.specs.Files.{leaves_in}
use Rattle.xet_store_disk.specs.Separate.{Among}
use Rattle.xet_clean.specs.Planning.{IsFew, RegistersOnly}
use Rattle.xet_clean.specs.Cleaner.{IsBatchOf, StopsInBatch}
use Rattle.xet_clean.specs.theorems.Adding.{asking_calls, calls_both}
use Rattle.xet_clean.specs.theorems.Owning.{in_after, in_itself, in_more, in_of, registers_both, registers_then}

-- ---- what is seen

-- the limits stay
pub same_limits : (old new : Holder) → Follows old new → new.limits ≡ old.limits
same_limits old new f = ap (λ (h : Holder). h.limits) f.is

-- as many entries as before, and then its own
own_length : (old new : Holder) (f : Follows old new) → length new.own ≡ length old.own + length f.own
own_length old new f = ap (λ (h : Holder). length h.own) f.is ∙ length-append old.own f.own

-- two ways to see the same calls
same_calls : (old new : Holder) (f : FollowsAsking old new) (calls : List Call) → calls_of new ≡ calls_of old ++ calls → f.calls ≡ calls
same_calls old new f calls added = append_cancel_left (calls_of old) f.calls calls (sym f.added ∙ added)

-- ---- calls

-- The calls of a file of these leaves so far, whose open block has these leaves. No step failed. There was at most one query
-- for each leaf, each registration has the chunk that did not fit, and the entries are few. The leaves that were registered, and
-- those of the block, are among these.
pub record HasCalls (start now : Holder) (leaves block : List (List ℕ × ℕ)) : Type 0 where
  pub follows : FollowsAsking start now
  pub passed : now.stopped ≡ start.stopped
  pub asked : queries_of follows.calls ≤ length leaves
  pub nexts : AllByRecursion HasNext follows.calls
  pub lands : LandsIn block follows.calls
  pub few : entries_at_most follows.calls + 2 * length block ≤ queries_of follows.calls + 2 * length leaves
  pub own : AllByRecursion (Among leaves) (registered_leaves follows.calls ++ block)

-- the open block and one batch more
batch_in : (start now : Holder) (leaves more block : List (List ℕ × ℕ)) → HasCalls start now leaves block → AllByRecursion (Among (leaves ++ more)) (block ++ more)
batch_in start now leaves more block c =
    all_both (Among (leaves ++ more)) block more (in_more leaves more block (all_back (Among leaves) (registered_leaves c.follows.calls) block c.own)) (in_after leaves more more (in_itself more))

-- one batch more
pub calls_more : (start old new : Holder) (leaves more before after : List (List ℕ × ℕ)) → HasCalls start old leaves before → FollowsAsking old new → new.stopped ≡ old.stopped → IsBatchOf more before after old new
    → HasCalls start new (leaves ++ more) after
calls_more start old new leaves more before after c f passed b =
    let follows : FollowsAsking start new = asking_then start old new c.follows f in
    let first : List Call = c.follows.calls in
    let are : follows.calls ≡ first ++ b.calls =
    same_calls start new follows (first ++ b.calls) (b.added ∙ ap (λ (l : List Call). l ++ b.calls) c.follows.added ∙ append_assoc (calls_of start) first b.calls) in
    let queries : queries_of follows.calls ≡ queries_of first + queries_of b.calls = ap queries_of are ∙ queries_of-append first b.calls in
    let entries : entries_at_most follows.calls ≡ entries_at_most first + entries_at_most b.calls = ap entries_at_most are ∙ entries_at_most-append first b.calls in
    let both : length (leaves ++ more) ≡ length leaves + length more = length-append leaves more in
    record {
      follows = follows;
      passed = passed ∙ c.passed;
      asked = omega (arith, queries, both, c.asked, b.asked);
      nexts = subst (AllByRecursion HasNext) (sym are) (all_both HasNext first b.calls c.nexts b.nexts);
      lands = subst (LandsIn after) (sym are) (lands_in-append first b.calls before after c.lands b.lands b.opens);
      few = omega (arith, queries, entries, both, c.few, b.few);
      own = subst (λ (cs : List Call). AllByRecursion (Among (leaves ++ more)) (registered_leaves cs ++ after)) (sym are)
          (registers_then (Among (leaves ++ more)) first b.calls after
          (in_more leaves more (registered_leaves first) (all_prefix (Among leaves) (registered_leaves first) before c.own))
          (in_of (before ++ more) (leaves ++ more) (registered_leaves b.calls ++ after) (batch_in start old leaves more before c) b.own));
    }

-- ---- entries

none_failed : (a b : Bool) → b ≡ a → (if b then (if a then 0 else 2) else 0) ≤ 0
none_failed true true same = omega arith
none_failed false false same = omega arith
none_failed true false same = absurd (cc same)
none_failed false true same = absurd (cc same)

-- The entries are at most three for each leaf, less two for each of the open block.
pub calls_few : (start now : Holder) (leaves block : List (List ℕ × ℕ)) (c : HasCalls start now leaves block) → length c.follows.follows.own + 2 * length block ≤ 3 * length leaves
calls_few start now leaves block c = omega (arith, c.few, c.asked, c.follows.few, none_failed start.stopped now.stopped c.passed)

-- no batch more, though there are more bytes
pub few_still : (start now : Holder) (leaves block : List (List ℕ × ℕ)) (bytes : List ℕ) → HasCalls start now leaves block → length leaves ≤ length (leaves_in now.limits bytes) → IsFew start now bytes
few_still start now leaves block bytes c count = record {
  follows = c.follows;
  nexts = subst (AllByRecursion HasNext) (sym (asking_calls start now c.follows)) c.nexts;
  few = omega (arith, calls_few start now leaves block c, count);
}

-- a batch that was not placed
pub few_stopped : (start old new : Holder) (leaves more block : List (List ℕ × ℕ)) (bytes : List ℕ) → HasCalls start old leaves block → FollowsAsking old new → StopsInBatch more block old new
    → length leaves + length more ≤ length (leaves_in old.limits bytes) → IsFew start new bytes
few_stopped start old new leaves more block bytes c f s count =
    let follows : FollowsAsking start new = asking_then start old new c.follows f in
    let first : List Call = calls_in c.follows.follows.own in
    let calls : calls_in follows.follows.own ≡ first ++ calls_in s.follows.own = calls_both start old new c.follows.follows s.follows follows.follows in
    record {
      follows = follows;
      nexts = subst (AllByRecursion HasNext) (sym calls)
          (all_both HasNext first (calls_in s.follows.own) (subst (AllByRecursion HasNext) (sym (asking_calls start old c.follows)) c.nexts) s.nexts);
      few =
          omega (
            arith,
            calls_few start old leaves block c,
            s.few,
            own_length start old c.follows.follows,
            own_length old new s.follows,
            own_length start new follows.follows,
            count,
            ap (λ (l : LimitSettings). length (leaves_in l bytes)) (same_limits old new s.follows),
          );
    }

-- ---- which chunks were registered

-- no batch more
pub only_still : (start now : Holder) (leaves block : List (List ℕ × ℕ)) (bytes : List ℕ) → HasCalls start now leaves block → AllByRecursion (Among (leaves_in now.limits bytes)) leaves → RegistersOnly start now bytes
only_still start now leaves block bytes c within = record {
  follows = c.follows.follows;
  are = subst (λ (cs : List Call). AllByRecursion (Among (leaves_in now.limits bytes)) (registered_leaves cs)) (sym (asking_calls start now c.follows))
      (in_of leaves (leaves_in now.limits bytes) (registered_leaves c.follows.calls) within (all_prefix (Among leaves) (registered_leaves c.follows.calls) block c.own));
}

-- a batch that was not placed
pub only_stopped : (start old new : Holder) (leaves more block : List (List ℕ × ℕ)) (bytes : List ℕ) → HasCalls start old leaves block → FollowsAsking old new → StopsInBatch more block old new
    → AllByRecursion (Among (leaves_in old.limits bytes)) (leaves ++ more) → RegistersOnly start new bytes
only_stopped start old new leaves more block bytes c f s within =
    let follows : FollowsAsking start new = asking_then start old new c.follows f in
    let first : List Call = calls_in c.follows.follows.own in
    let calls : calls_in follows.follows.own ≡ first ++ calls_in s.follows.own = calls_both start old new c.follows.follows s.follows follows.follows in
    let all : List (List ℕ × ℕ) = leaves_in new.limits bytes in
    let here : AllByRecursion (Among (leaves_in new.limits bytes)) (leaves ++ more) =
    subst (λ (l : LimitSettings). AllByRecursion (Among (leaves_in l bytes)) (leaves ++ more)) (sym (same_limits old new s.follows)) within in
    let before : AllByRecursion (Among (leaves_in new.limits bytes)) (registered_leaves first) =
    subst (λ (cs : List Call). AllByRecursion (Among (leaves_in new.limits bytes)) (registered_leaves cs)) (sym (asking_calls start old c.follows))
    (in_of leaves all (registered_leaves c.follows.calls) (all_prefix (Among all) leaves more here) (all_prefix (Among leaves) (registered_leaves c.follows.calls) block c.own)) in
    let after : AllByRecursion (Among (leaves_in new.limits bytes)) (registered_leaves (calls_in s.follows.own)) =
    in_of (leaves ++ more) all (registered_leaves (calls_in s.follows.own)) here
    (in_of (block ++ more) (leaves ++ more) (registered_leaves (calls_in s.follows.own)) (batch_in start old leaves more block c) s.own) in
    record {
      follows = follows.follows;
      are = subst (λ (cs : List Call). AllByRecursion (Among (leaves_in new.limits bytes)) (registered_leaves cs)) (sym calls)
          (registers_both (Among (leaves_in new.limits bytes)) first (calls_in s.follows.own) before after);
    }
