-- Who makes steps of a store: what it has seen of the history, and which entries are its own.
use Rattle.std.specs.Prelude.{◌≡◌, ◌≤◌, ◌+◌, ◌-◌, ◌++◌, ◌∷◌, [], ℕ, suc, Bool, true, List, length, map, Option, Some, slice_get, if◌then◌else◌}
use Rattle.std.specs.List.{AllByRecursion}
use Rattle.std.specs.List.Sorted.{IsStrictlyIncreasing}
use Rattle.std.specs.Option.{option_map}
use Rattle.xet_choices.specs.Calls.{Call}
use Rattle.xet_choices.specs.Calls.Call.{Asked, Registered}
use Rattle.xet_cut.specs.declared.limits.LimitSettings.{LimitSettings}
use Rattle.xet_dedup_queries.specs.Counting.{entries_at_most}
use Rattle.xet_dedup_queries.specs.Registering.{IsDue}
use Rattle.xet_folder.specs.Xorbs.{found}
use Rattle.xet_history.specs.Core.{Core}
use Rattle.xet_history.specs.History.{Legal, after_all, pass_of}
use Rattle.xet_history.specs.declared.entry.Entry.{Entry}
use Rattle.xet_history.specs.declared.entry.Entry.TheVariants.{Query, Register, Complete, Flush, Fault}
use Rattle.xet_history.specs.declared.entry.Run.{Run}
use Rattle.xet_store.specs.Recorded.{RecordedState}

-- A holder of a store: the store from which what is done is counted; whether its disk is observable, and its limits; the
-- number of the pass that its entries have; the history when it began, and the core to which that leads; the entries since
-- then that it has seen; its own entries since then, each with its number, which is its index in the history; those that the
-- pass had before; and whether a step of it has failed.
pub record Holder : Type 0 where
  pub origin : RecordedState
  pub tells : Bool
  pub limits : LimitSettings
  pub number : ℕ
  pub before : List Entry
  pub base : Core
  pub since : List Entry
  pub own : List (ℕ × Entry)
  pub earlier : List (ℕ × Entry)
  pub stopped : Bool

-- what it has seen of the history
abbrev pub seen : Holder → List Entry
seen h = h.before ++ h.since

-- the core to which that leads
abbrev pub core_at : Holder → Core
core_at h = after_all h.base h.since

-- the core that a call finds, after entries of others
abbrev pub core_found : Holder → List Entry → Core
core_found h others = after_all h.base (h.since ++ others)

-- entries, each with its number; the first has this one
abbrev pub numbered : ℕ → List Entry → List (ℕ × Entry)
numbered n [] = []
numbered n (e ∷ es) = (n, e) ∷ numbered (suc n) es

-- What it has seen after a call: others added entries, and then the call did. Whether entries of others have its pass is not
-- said.
abbrev pub grown : Holder → List Entry → List Entry → Holder
grown h others added = record h {
  since = h.since ++ (others ++ added);
  own = h.own ++ numbered (length (seen h) + length others) added;
}

-- the same after a step that failed
abbrev pub ended : Holder → List Entry → List Entry → Holder
ended h others added = record (grown h others added) { stopped = true }

-- What it has seen and its own entries only grow.
pub record Follows (old new : Holder) : Type 0 where
  pub since : List Entry
  pub own : List (ℕ × Entry)
  pub is : new ≡ record old { since = old.since ++ since; own = old.own ++ own; stopped = new.stopped }

-- ---- its own entries

-- the maximum numbers of bytes and of chunks of a xorb
abbrev pub xorb_limits : LimitSettings → ℕ × ℕ
xorb_limits s = (s.cut_bytes, s.cut_chunks)

-- A xorb is registered with the chunks that did not fit into it: there are none, or it would pass a limit with them.
abbrev pub IsDueEntry : ℕ × ℕ → Entry → Type 0
IsDueEntry limits (Query pass hashes reply) = Unit {0}
IsDueEntry limits (Register pass chunks next added) = IsDue limits chunks next
IsDueEntry limits (Complete pass file added) = Unit {0}
IsDueEntry limits (Flush pass shard) = Unit {0}
IsDueEntry limits (Fault pass kind) = Unit {0}

-- It stands in the history under its number, after what was there when the holder began, and has the holder's pass.
pub record IsOwn (h : Holder) (p : ℕ × Entry) : Type 0 where
  pub there : slice_get (seen h) p.0 ≡ Some p.1
  pub later : length h.before ≤ p.0
  pub pass : pass_of p.1 ≡ h.number
  pub due : IsDueEntry (xorb_limits h.limits) p.1

-- What a holder has seen is legal, and its own entries stand there, in order.
pub record IsHolder (h : Holder) : Type 0 where
  pub legal : Legal h.tells h.base h.since
  pub own : AllByRecursion (IsOwn h) h.own
  pub ascend : IsStrictlyIncreasing (map (λ p. p.0) h.own)

-- ---- what the deduplication of a file sees of it

-- the number of chunks of a run
abbrev pub run_count : Run → ℕ
run_count run = run.to - run.from

-- the call that the entry with this number is, if the deduplication of a file makes such calls
abbrev pub call_at : ℕ → Entry → List Call
call_at n (Query pass hashes reply) = Asked n hashes (option_map run_count reply) ∷ []
call_at n (Register pass chunks next added) = Registered chunks next ∷ []
call_at n (Complete pass file added) = []
call_at n (Flush pass shard) = []
call_at n (Fault pass kind) = []

-- an entry that does not record a file
abbrev pub IsCall : Entry → Type 0
IsCall (Query pass hashes reply) = Unit {0}
IsCall (Register pass chunks next added) = Unit {0}
IsCall (Complete pass file added) = ⊥
IsCall (Flush pass shard) = Unit {0}
IsCall (Fault pass kind) = Unit {0}

-- the queries and registrations among these
abbrev pub calls_in : List (ℕ × Entry) → List Call
calls_in [] = []
calls_in (p ∷ ps) = call_at p.0 p.1 ++ calls_in ps

-- its queries and registrations
abbrev pub calls_of : Holder → List Call
calls_of h = calls_in h.own

-- Of the entries that it added since an earlier state, none records a file. They are at most one for each query and two for
-- each registration, and two for a step that failed.
pub record FollowsAsking (old new : Holder) : Type 0 where
  pub follows : Follows old new
  pub none : AllByRecursion (λ p. IsCall p.1) follows.own
  pub calls : List Call
  pub added : calls_of new ≡ calls_of old ++ calls
  pub few : length follows.own ≤ entries_at_most calls + (if new.stopped then (if old.stopped then 0 else 2) else 0)
  pub still : old.stopped ≡ true → new.stopped ≡ true

-- the lengths of the chunks of a listed xorb
abbrev pub lengths_in : Core → List ℕ → Option (List ℕ)
lengths_in c h = option_map (λ leaves. map (λ m. m.1) leaves) (found c.xorbs h)
