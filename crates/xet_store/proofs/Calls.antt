-- The calls that a step is for the deduplication of a file.
use Rattle.std.proofs.Common.{◌≡◌, ◌⊎◌, inl, inr, ℕ, suc, ◌+◌, ◌-◌, ◌<◌, ◌≤◌, Bool, true, false, All, List, [], ◌∷◌, ◌++◌, length, Option, Some, None, option_map, refl, sym, ap, subst, arith}
use Rattle.std.specs.Prelude.{if◌then◌else◌}
use Rattle.std.specs.List.{AllByRecursion}
use Rattle.std.proofs.lemmas.Option.{slice_get_within}
use Rattle.std.proofs.lemmas.List.Elements.{All-from_recursion}
use Rattle.xet_choices.specs.Calls.{Call, entries_of}
use Rattle.xet_choices.specs.Calls.Call.{Asked, Registered}
use Rattle.xet_dedup_queries.specs.Interface.{asked}
use Rattle.xet_hash.specs.Merkle.{xorb_hash}
use Rattle.xet_hash.specs.declared.error.Place.TheVariants.{Disk}
use Rattle.xet_hash.specs.declared.error.StoreError.{StoreError}
use Rattle.xet_hash.specs.declared.error.StoreError.TheVariants.{Io}
use Rattle.xet_history.specs.Core.{Core, is_cut_due, is_new, pending_hash}
use Rattle.xet_history.specs.History.{cut_entries, query_entries, register_entries, stated}
use Rattle.xet_history.specs.declared.entry.Entry.{Entry}
use Rattle.xet_history.specs.declared.entry.Entry.TheVariants.{Complete, Fault, Flush, Query, Register}
use Rattle.xet_history.specs.declared.entry.StepKind.{StepKind}
use Rattle.xet_shard_format.specs.RecordSizes.{xorb_record_size}
use Rattle.xet_shard_format.specs.declared.record.FileDataSequenceEntry.{FileDataSequenceEntry as Segment}
use Rattle.xet_store.specs.Steps.{fault_entries}
use Rattle.xet_xorb.specs.Raw.{xorb_record}
use Rattle.xet_dedup_queries.specs.Counting.{entries_at_most}
use Rattle.xet_store.specs.Holders.{Holder, IsCall, IsOwn, calls_in, numbered, seen}
use Rattle.xet_store.proofs.Entries.{all_query}

-- What the deduplication of a file makes of some entries, whatever their numbers: no recording, these calls, and no more
-- entries than these calls have, or than so many.
pub record Calling (added : List Entry) (calls : ℕ → List Call) (more : ℕ) : Type 0 where
  pub all : AllByRecursion IsCall added
  pub are : (n : ℕ) → calls_in (numbered n added) ≡ calls n
  pub few : (n : ℕ) → length added ≤ entries_at_most (calls n) + more

-- a query
pub query_calling : (pass : ℕ) (hashes : List (List ℕ)) (reply : Option (ℕ × Segment)) → ((run : ℕ × Segment) → reply ≡ Some run → run.1.chunk_index_end ≡ run.1.chunk_index_start + run.0)
    → Calling (query_entries pass hashes reply) (λ n. asked n hashes (option_map (λ r. r.0) reply)) 0
query_calling pass hashes reply counted = record { all = all_query IsCall pass (λ hs r. tt) hashes reply; are = λ n. are n hashes reply counted; few = λ n. few n hashes reply }
  where
    are : (n : ℕ) (hashes : List (List ℕ)) (reply : Option (ℕ × Segment)) → ((run : ℕ × Segment) → reply ≡ Some run → run.1.chunk_index_end ≡ run.1.chunk_index_start + run.0)
        → calls_in (numbered n (query_entries pass hashes reply)) ≡ asked n hashes (option_map (λ r. r.0) reply)
    are n [] reply counted = refl
    are n (h ∷ hs) None counted = refl
    are n (h ∷ hs) (Some run) counted =
        let k : run.1.chunk_index_end - run.1.chunk_index_start ≡ run.0 = omega (arith, counted run refl) in
        ap (λ (c : ℕ). Asked n (stated (h ∷ hs) (Some run)) (Some c) ∷ []) k

    few : (n : ℕ) (hashes : List (List ℕ)) (reply : Option (ℕ × Segment)) → length (query_entries pass hashes reply) ≤ entries_at_most (asked n hashes (option_map (λ r. r.0) reply)) + 0
    few n [] reply = omega arith
    few n (h ∷ hs) reply = omega arith

-- a cut, and what follows it
cut_calling : (pass : ℕ) (c : Core) (target bytes : ℕ) (e : Entry) (call : List Call) → IsCall e → ((n : ℕ) → calls_in (numbered n (e ∷ [])) ≡ call) → 2 ≤ entries_at_most call
    → Calling (cut_entries pass c target bytes ++ e ∷ []) (λ n. call) 0
cut_calling pass c target bytes e call is are many = go (is_cut_due c target bytes)
  where
    go : (b : Bool) → Calling ((if b then Flush pass (pending_hash c) ∷ [] else []) ++ e ∷ []) (λ n. call) 0
    go true = record { all = (tt, (is, tt)); are = λ n. are (suc n); few = λ n. omega (arith, many) }
    go false = record { all = (is, tt); are = are; few = λ n. omega (arith, many) }

-- a registration
pub register_calling : (pass : ℕ) (c : Core) (target : ℕ) (leaves next : List (List ℕ × ℕ)) → Calling (register_entries pass c target leaves next) (λ n. Registered leaves next ∷ []) 0
register_calling pass c target leaves next = go (is_new c.xorbs (xorb_hash leaves))
  where
    bytes : ℕ
    bytes = xorb_record_size (xorb_record (xorb_hash leaves) leaves)

    go : (b : Bool) → Calling (if b then cut_entries pass c target bytes ++ Register pass leaves next true ∷ [] else Register pass leaves next false ∷ []) (λ n. Registered leaves next ∷ []) 0
    go true = cut_calling pass c target bytes (Register pass leaves next true) (Registered leaves next ∷ []) tt (λ n. refl) (omega arith)
    go false = record { all = (tt, tt); are = λ n. refl; few = λ n. omega arith }

-- the failure of a step
fault_calling : (pass : ℕ) (kind : StepKind) (e : StoreError) → Calling (fault_entries pass kind e) (λ n. []) 1
fault_calling pass kind (Io Disk) = record { all = (tt, tt); are = λ n. refl; few = λ n. omega arith }
fault_calling pass kind e = record { all = tt; are = λ n. refl; few = λ n. omega arith }

-- after a cut, as far as that was completed
pub failure_calling : (pass : ℕ) (kind : StepKind) (e : StoreError) (c : Core) (target bytes : ℕ) (done : List Entry) → (done ≡ []) ⊎ (done ≡ cut_entries pass c target bytes) → Calling (done ++ fault_entries pass kind e) (λ n. []) 2
failure_calling pass kind e c target bytes done completed = subst (λ (es : List Entry). Calling (es ++ fault_entries pass kind e) (λ n. []) 2) (sym (which completed)) (go (is_done completed))
  where
    cut : Bool → List Entry
    cut b = if b then Flush pass (pending_hash c) ∷ [] else []

    is_done : (done ≡ []) ⊎ (done ≡ cut_entries pass c target bytes) → Bool
    is_done (inl none) = false
    is_done (inr all) = is_cut_due c target bytes

    which : (w : (done ≡ []) ⊎ (done ≡ cut_entries pass c target bytes)) → done ≡ cut (is_done w)
    which (inl none) = none
    which (inr all) = all

    fault : Calling (fault_entries pass kind e) (λ n. []) 1
    fault = fault_calling pass kind e

    go : (b : Bool) → Calling (cut b ++ fault_entries pass kind e) (λ n. []) 2
    go true = record { all = (tt, fault.all); are = λ n. fault.are (suc n); few = λ n. omega (arith, fault.few n) }
    go false = record { all = fault.all; are = fault.are; few = λ n. omega (arith, fault.few n) }

-- ---- the numbers of queries

queries_within : (h : Holder) (bound : ℕ) → length (seen h) ≤ bound → (ps : List (ℕ × Entry)) → AllByRecursion (IsOwn h) ps → AllByRecursion (λ n. n < bound) (entries_of (calls_in ps))
queries_within h bound le [] all = tt
queries_within h bound le ((n, Query pass hashes reply) ∷ ps) all = (omega (arith, le, slice_get_within (seen h) n (Query pass hashes reply) all.0.there), queries_within h bound le ps all.1)
queries_within h bound le ((n, Register pass chunks next added) ∷ ps) all = queries_within h bound le ps all.1
queries_within h bound le ((n, Complete pass file added) ∷ ps) all = queries_within h bound le ps all.1
queries_within h bound le ((n, Flush pass shard) ∷ ps) all = queries_within h bound le ps all.1
queries_within h bound le ((n, Fault pass kind) ∷ ps) all = queries_within h bound le ps all.1

-- those of its own entries are before what it sees next
pub entries_before : (h : Holder) (others : List Entry) → AllByRecursion (IsOwn h) h.own → All (λ n. n < length (seen h) + length others) (entries_of (calls_in h.own))
entries_before h others own = All-from_recursion (λ n. n < length (seen h) + length others) (entries_of (calls_in h.own)) (queries_within h (length (seen h) + length others) (omega arith) h.own own)
