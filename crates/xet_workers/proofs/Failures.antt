-- How many failures of the disk there are among the entries of steps.
use Rattle.std.proofs.Common.{◌≡◌, ◌∙◌, ◌⊎◌, inl, inr, ℕ, zero, suc, ◌+◌, ◌≤◌, Bool, true, false, List, [], ◌∷◌, ◌++◌, length, Option, Some, refl, sym, ap, subst, arith, if◌then◌else◌}
use Rattle.std.specs.Prelude.{Any, slice_get}
use Rattle.xet_cut.specs.declared.limits.LimitSettings.{LimitSettings}
use Rattle.xet_hash.specs.Merkle.{xorb_hash}
use Rattle.xet_hash.specs.declared.error.Place.TheVariants.{Disk}
use Rattle.xet_hash.specs.declared.error.StoreError.{StoreError}
use Rattle.xet_hash.specs.declared.error.StoreError.TheVariants.{Io}
use Rattle.xet_history.specs.Core.{Core, is_cut_due, is_new, pending_hash}
use Rattle.xet_history.specs.History.{after_all, complete_entries, cut_entries, query_entries, register_entries}
use Rattle.xet_history.specs.declared.entry.Entry.{Entry}
use Rattle.xet_history.specs.declared.entry.Entry.TheVariants.{Complete, Fault, Flush, Query, Register}
use Rattle.xet_history.specs.declared.entry.StepKind.{StepKind}
use Rattle.xet_shard_format.specs.RecordSizes.{file_record_size, xorb_record_size}
use Rattle.xet_shard_format.specs.Records.{file_record_hash}
use Rattle.xet_shard_format.specs.declared.record.FileDataSequenceEntry.{FileDataSequenceEntry as Segment}
use Rattle.xet_shard_format.specs.declared.record.MDBFileInfo.{MDBFileInfo}
use Rattle.xet_store.specs.Alone.{IsFault, Step, cut_of, kind_of}
use Rattle.xet_store.specs.Steps.{fault_entries}
use Rattle.xet_xorb.specs.Raw.{xorb_record}
use Rattle.xet_locked_session.specs.Session.{fault_count}
use Rattle.xet_locked_session.specs.Shared.{StepOf, StepsBy, StepsByUntil}

pub fault_count-append : (xs ys : List Entry) → fault_count (xs ++ ys) ≡ fault_count xs + fault_count ys
fault_count-append [] ys = omega arith
fault_count-append (Query pass hashes reply ∷ xs) ys = fault_count-append xs ys
fault_count-append (Register pass chunks next added ∷ xs) ys = fault_count-append xs ys
fault_count-append (Complete pass file added ∷ xs) ys = fault_count-append xs ys
fault_count-append (Flush pass shard ∷ xs) ys = fault_count-append xs ys
fault_count-append (Fault pass kind ∷ xs) ys = omega (arith, fault_count-append xs ys)

-- a failure among entries is counted
fault_first : (e : Entry) (es : List Entry) → IsFault e → 1 ≤ fault_count (e ∷ es)
fault_first (Query pass hashes reply) es is = absurd is
fault_first (Register pass chunks next added) es is = absurd is
fault_first (Complete pass file added) es is = absurd is
fault_first (Flush pass shard) es is = absurd is
fault_first (Fault pass kind) es is = omega arith

fault_later : (e : Entry) (es : List Entry) → 1 ≤ fault_count es → 1 ≤ fault_count (e ∷ es)
fault_later (Query pass hashes reply) es is = is
fault_later (Register pass chunks next added) es is = is
fault_later (Complete pass file added) es is = is
fault_later (Flush pass shard) es is = is
fault_later (Fault pass kind) es is = omega arith

pub fault_counted : (es : List Entry) → Any IsFault es → 1 ≤ fault_count es
fault_counted [] a = absurd (omega (arith, a.2))
fault_counted (e ∷ es) (zero, x, below, at, is) = fault_first e es (subst IsFault (sym at) is)
fault_counted (e ∷ es) (suc i, x, below, at, is) = fault_later e es (fault_counted es (i, x, omega (arith, below), at, is))

-- ---- completed steps have none

calm_flush : (pass : ℕ) (c : Core) (b : Bool) → fault_count (if b then Flush pass (pending_hash c) ∷ [] else []) ≡ 0
calm_flush pass c true = refl
calm_flush pass c false = refl

pub calm_cut : (pass : ℕ) (c : Core) (target bytes : ℕ) → fault_count (cut_entries pass c target bytes) ≡ 0
calm_cut pass c target bytes = calm_flush pass c (is_cut_due c target bytes)

calm_after : (b : Bool) (cut : List Entry) (e f : Entry) → fault_count cut ≡ 0 → fault_count (e ∷ []) ≡ 0 → fault_count (f ∷ []) ≡ 0 → fault_count (if b then cut ++ e ∷ [] else f ∷ []) ≡ 0
calm_after true cut e f first second third = omega (arith, fault_count-append cut (e ∷ []), first, second)
calm_after false cut e f first second third = third

calm_if : (b : Bool) (cut : List Entry) → fault_count cut ≡ 0 → fault_count (if b then cut else []) ≡ 0
calm_if true cut is = is
calm_if false cut is = refl

calm_query : (pass : ℕ) (hashes : List (List ℕ)) (reply : Option (ℕ × Segment)) → fault_count (query_entries pass hashes reply) ≡ 0
calm_query pass [] reply = refl
calm_query pass (h ∷ hs) reply = refl

calm_register : (pass : ℕ) (c : Core) (target : ℕ) (leaves next : List (List ℕ × ℕ)) → fault_count (register_entries pass c target leaves next) ≡ 0
calm_register pass c target leaves next =
    let bytes : ℕ = xorb_record_size (xorb_record (xorb_hash leaves) leaves) in
    calm_after (is_new c.xorbs (xorb_hash leaves)) (cut_entries pass c target (xorb_record_size (xorb_record (xorb_hash leaves) leaves))) (Register pass leaves next true) (Register pass leaves next false) (calm_cut pass c target bytes) refl refl

calm_complete : (pass : ℕ) (c : Core) (target : ℕ) (file : MDBFileInfo) → fault_count (complete_entries pass c target file) ≡ 0
calm_complete pass c target file =
    calm_after (is_new c.records (file_record_hash file)) (cut_entries pass c target (file_record_size file)) (Complete pass file true) (Complete pass file false) (calm_cut pass c target (file_record_size file)) refl refl

calm_step : (limits : LimitSettings) (pass : ℕ) (c : Core) (es : List Entry) → StepOf limits pass c es → fault_count es ≡ 0
calm_step limits pass c es (StepOf.asks hashes reply) = calm_query pass hashes reply
calm_step limits pass c es (StepOf.registers leaves next asked due) = calm_register pass c limits.shard_target leaves next
calm_step limits pass c es (StepOf.completes file form completes) = calm_complete pass c limits.shard_target file

pub steps_calm : (limits : LimitSettings) (c : Core) (es : List Entry) → StepsBy limits c es → fault_count es ≡ 0
steps_calm limits c es StepsBy.begins = refl
steps_calm limits c es (StepsBy.more before added pass steps step) =
    omega (arith, fault_count-append before added, steps_calm limits c before steps, calm_step limits pass (after_all c before) added step)

-- ---- one that failed has at most one, and only if the disk failed

calm_cut_of : (pass target : ℕ) (step : Step) (c : Core) → fault_count (cut_of pass target step c) ≡ 0
calm_cut_of pass target Step.asks c = refl
calm_cut_of pass target (Step.registers leaves) c =
    calm_if (is_new c.xorbs (xorb_hash leaves)) (cut_entries pass c target (xorb_record_size (xorb_record (xorb_hash leaves) leaves))) (calm_cut pass c target (xorb_record_size (xorb_record (xorb_hash leaves) leaves)))
calm_cut_of pass target (Step.completes file) c =
    calm_if (is_new c.records (file_record_hash file)) (cut_entries pass c target (file_record_size file)) (calm_cut pass c target (file_record_size file))

-- the entry of a failure
abbrev pub IsDiskEntry : List Entry → StoreError → Type 0
IsDiskEntry es e = (fault_count es ≡ 0) ⊎ ((fault_count es ≡ 1) × (e ≡ Io Disk))

fault_entry : (pass : ℕ) (kind : StepKind) (e : StoreError) → IsDiskEntry (fault_entries pass kind e) e
fault_entry pass kind (Io Disk) = inr (refl, refl)
fault_entry pass kind e = inl refl

-- the failures among the entries until a step failed
pub until_failed : (limits : LimitSettings) (c : Core) (e : StoreError) (es : List Entry) → StepsByUntil limits c e es → (fault_count es ≡ 0) ⊎ ((fault_count es ≡ 1) × (e ≡ Io Disk))
until_failed limits c e es u = go (fault_entry u.pass (kind_of u.step) e)
  where
    done : fault_count u.done ≡ 0
    done = by u.completed
      where
        by : (u.done ≡ []) ⊎ (u.done ≡ cut_of u.pass limits.shard_target u.step (after_all c u.before)) → fault_count u.done ≡ 0
        by (inl none) = ap fault_count none
        by (inr cut) = ap fault_count cut ∙ calm_cut_of u.pass limits.shard_target u.step (after_all c u.before)

    count : fault_count es ≡ fault_count (fault_entries u.pass (kind_of u.step) e)
    count =
        omega (
          arith,
          ap fault_count u.is,
          fault_count-append u.before (u.done ++ fault_entries u.pass (kind_of u.step) e),
          fault_count-append u.done (fault_entries u.pass (kind_of u.step) e),
          steps_calm limits c u.before u.steps,
          done,
        )

    go : IsDiskEntry (fault_entries u.pass (kind_of u.step) e) e → (fault_count es ≡ 0) ⊎ ((fault_count es ≡ 1) × (e ≡ Io Disk))
    go (inl none) = inl (count ∙ none)
    go (inr one) = inr (count ∙ one.0, one.1)

-- ---- where a failure is

fault_here : (e : Entry) (es : List Entry) → IsFault e → Any IsFault (e ∷ es)
fault_here e es is = (0, e, omega arith, refl, is)

fault_there : (e : Entry) (es : List Entry) → Any IsFault es → Any IsFault (e ∷ es)
fault_there e es (i, x, below, at, is) = (suc i, x, omega (arith, below), at, is)

pub counted_fault : (es : List Entry) → 1 ≤ fault_count es → Any IsFault es
counted_fault [] few = absurd (omega (arith, few))
counted_fault (Query pass hashes reply ∷ es) few = fault_there (Query pass hashes reply) es (counted_fault es few)
counted_fault (Register pass chunks next added ∷ es) few = fault_there (Register pass chunks next added) es (counted_fault es few)
counted_fault (Complete pass file added ∷ es) few = fault_there (Complete pass file added) es (counted_fault es few)
counted_fault (Flush pass shard ∷ es) few = fault_there (Flush pass shard) es (counted_fault es few)
counted_fault (Fault pass kind ∷ es) few = fault_here (Fault pass kind) es tt

-- the entry with this index is one
pub fault_at : (es : List Entry) (n : ℕ) (e : Entry) → slice_get es n ≡ Some e → IsFault e → 1 ≤ fault_count es
fault_at [] n e there is = absurd (cc there)
fault_at (x ∷ es) zero e there is =
    let same : x ≡ e = cc there in
    fault_first x es (subst IsFault (sym same) is)
fault_at (x ∷ es) (suc n) e there is = fault_later x es (fault_at es n e there is)

-- and it is after the first entries
pub fault_after : (before es : List Entry) (n : ℕ) (e : Entry) → slice_get (before ++ es) n ≡ Some e → length before ≤ n → IsFault e → 1 ≤ fault_count es
fault_after [] es n e there later is = fault_at es n e there is
fault_after (x ∷ before) es zero e there later is = absurd (omega (arith, later))
fault_after (x ∷ before) es (suc n) e there later is = fault_after before es n e there (omega (arith, later)) is
