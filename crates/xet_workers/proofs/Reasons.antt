-- From a part to all: sources that errors name, the disk's failures, and shards of which no more can be registered.
use Rattle.std.proofs.Common.{◌≡◌, ◌∙◌, ℕ, zero, suc, ◌+◌, ◌≤◌, Bool, true, false, List, [], ◌∷◌, ◌++◌, append_assoc, drop, length, length-append, Some, refl, sym, ap, subst, arith, filter}
use Rattle.std.specs.Cmp.Lexicographic.{pointwise}
use Rattle.std.specs.Prelude.{nat_eq, nat_lt, not, slice_get}
use Rattle.std.proofs.lemmas.Bool.Decides.{nat_tests}
use Rattle.std.proofs.lemmas.List.{append_cancel_left, drop_at, length-map}
use mathlib.Core.List.{IsPrefix}
use Rattle.xet_folder.specs.Contents.{max_shards}
use Rattle.xet_hash.specs.Merkle.{xorb_hash}
use Rattle.xet_history.specs.Core.{Core, RegisteredShard, flushed, has_pending, pending_hash, pending_shard}
use Rattle.xet_history.specs.History.{after_all}
use Rattle.xet_history.specs.declared.entry.Entry.{Entry}
use Rattle.xet_history.specs.declared.entry.Entry.TheVariants.{Complete, Fault, Flush, Query, Register}
use Rattle.xet_history.specs.theorems.Joining.{after_all-append}
use Rattle.xet_history.specs.theorems.Staying.{completed_cases, registered_cases, shards_after_all, with_record, with_xorb}
use Rattle.xet_locked_session.specs.Session.{IsSince, fault_count}
use Rattle.xet_locked_session.specs.Passing.{passing_of}
use Rattle.xet_shard_format.specs.Records.{file_record_hash, xorb_record_hash}
use Rattle.xet_store.specs.Interface.{HasFault}
use Rattle.xet_store.specs.Holders.{Holder, IsOwn, core_at, seen}
use Rattle.xet_store.specs.Recorded.{IsRecorded, RecordedState, core_of}
use Rattle.xet_store_disk.specs.Cleaning.{IsLongAt, RoseAt}
use Rattle.xet_store_disk.specs.theorems.Rows.{to_among}
use Rattle.xet_store_disk.specs.theorems.Staying.{all_among}
use Rattle.xet_xorb.specs.Raw.{xorb_record}
use Rattle.xet_workers.specs.Workers.{HasPassed}
use Rattle.xet_workers.proofs.Failures.{fault_after}

-- ---- a source of a part

module _ {S : Type 0} (faults : S → ℕ) where
  pub rose_first : (ss ts us vs : List S) (i : ℕ) → RoseAt faults ss ts i → RoseAt faults (ss ++ us) (ts ++ vs) i
  rose_first [] ts us vs i rose = absurd rose
  rose_first (s ∷ ss) [] us vs i rose = absurd rose
  rose_first (s ∷ ss) (t ∷ ts) us vs zero rose = rose
  rose_first (s ∷ ss) (t ∷ ts) us vs (suc i) rose = rose_first ss ts us vs i rose

  pub rose_after : (bs cs ss ts : List S) (i n : ℕ) → length cs ≡ length bs → n ≡ length bs + i → RoseAt faults ss ts i → RoseAt faults (bs ++ ss) (cs ++ ts) n
  rose_after [] [] ss ts i n same is rose = subst (RoseAt faults ss ts) (omega (arith, is)) rose
  rose_after [] (c ∷ cs) ss ts i n same is rose = absurd (omega (arith, same))
  rose_after (b ∷ bs) [] ss ts i n same is rose = absurd (omega (arith, same))
  rose_after (b ∷ bs) (c ∷ cs) ss ts i zero same is rose = absurd (omega (arith, is))
  rose_after (b ∷ bs) (c ∷ cs) ss ts i (suc n) same is rose = rose_after bs cs ss ts i n (omega (arith, same)) (omega (arith, is)) rose

module _ {S : Type 0} (tells : S → Bool) (left : S → List ℕ) (most : ℕ) where
  pub long_first : (ss us : List S) (i : ℕ) → IsLongAt tells left ss most i → IsLongAt tells left (ss ++ us) most i
  long_first [] us i long = absurd long
  long_first (s ∷ ss) us zero long = long
  long_first (s ∷ ss) us (suc i) long = long_first ss us i long

  pub long_after : (bs ss : List S) (i n : ℕ) → n ≡ length bs + i → IsLongAt tells left ss most i → IsLongAt tells left (bs ++ ss) most n
  long_after [] ss i n is long = subst (IsLongAt tells left ss most) (omega (arith, is)) long
  long_after (b ∷ bs) ss i zero is long = absurd (omega (arith, is))
  long_after (b ∷ bs) ss i (suc n) is long = long_after bs ss i n (omega (arith, is)) long

-- ---- no further shard

some_before : {X : Type 0} (xs : List X) (x : X) (n : ℕ) → nat_lt 0 (length (xs ++ x ∷ []) + n) ≡ true
some_before xs x n = let few : length (xs ++ x ∷ []) ≡ length xs + 1 = length-append xs (x ∷ []) in grind (arith, nat_tests, few)

some_behind : {X : Type 0} (n : ℕ) (xs : List X) (x : X) → nat_lt 0 (n + length (xs ++ x ∷ [])) ≡ true
some_behind n xs x = let few : length (xs ++ x ∷ []) ≡ length xs + 1 = length-append xs (x ∷ []) in grind (arith, nat_tests, few)

-- there are no fewer shards later
more_shards : (c : Core) (es : List Entry) → length c.shards ≤ length (after_all c es).shards
more_shards c es =
    let more = shards_after_all c es in
    omega (arith, ap length more.1, length-append c.shards more.0)

-- What is pending stays so while no shard can be registered.
pending_stays : (c : Core) (es : List Entry) → max_shards ≤ length c.shards → length (after_all c es).shards ≤ max_shards → has_pending c ≡ true → has_pending (after_all c es) ≡ true
pending_stays c [] full few pending = pending
pending_stays c (Query pass hashes reply ∷ es) full few pending = pending_stays c es full few pending
pending_stays c (Register pass chunks next added ∷ es) full few pending =
    registered_cases c chunks (λ (d : Core). length (after_all d es).shards ≤ max_shards → has_pending (after_all d es) ≡ true)
    (λ new below. pending_stays (with_xorb c chunks) es full below
    (some_before (filter (λ y. not (pointwise nat_eq (xorb_record_hash y) (xorb_record_hash (xorb_record (xorb_hash chunks) chunks)))) c.pending.blocks) (xorb_record (xorb_hash chunks) chunks) (length c.pending.files)))
    (λ old below. pending_stays c es full below pending) few
pending_stays c (Complete pass file added ∷ es) full few pending =
    completed_cases c file (λ (d : Core). length (after_all d es).shards ≤ max_shards → has_pending (after_all d es) ≡ true)
    (λ new below. pending_stays (with_record c file) es full below
    (some_behind (length c.pending.blocks) (filter (λ y. not (pointwise nat_eq (file_record_hash y) (file_record_hash file))) c.pending.files) file))
    (λ old below. pending_stays c es full below pending) few
pending_stays c (Flush pass shard ∷ es) full few pending =
    absurd (omega (
      arith,
      full,
      few,
      more_shards (flushed c) es,
      length-append c.shards (record { hash = pending_hash c; contents = pending_shard c } ∷ []),
    ))
pending_stays c (Fault pass kind ∷ es) full few pending = pending_stays c es full few pending

pub full_later : (new : RecordedState) (c : Core) (es : List Entry) → IsRecorded new → core_of new ≡ after_all c es → (max_shards ≤ length c.shards) × (has_pending c ≡ true)
    → (max_shards ≤ length new.store.shards) × (has_pending (core_of new) ≡ true)
full_later new c es recorded later full =
    let count : length new.shards ≡ length new.store.shards = sym (length-map new.shards (λ (r : RegisteredShard). r.hash)) ∙ ap length recorded.shards.registered in
    let same : length new.shards ≡ length (after_all c es).shards = ap (λ (d : Core). length d.shards) later in
    let few : length (after_all c es).shards ≤ max_shards = omega (arith, count, same, recorded.shards.few) in (
      omega (arith, full.0, count, same, more_shards c es),
      ap has_pending later ∙ pending_stays c es full.0 few full.1,
    )

-- ---- what a pass has seen

get_left : {X : Type 0} (xs ys : List X) (n : ℕ) (x : X) → slice_get xs n ≡ Some x → slice_get (xs ++ ys) n ≡ Some x
get_left [] ys n x there = absurd (cc there)
get_left (y ∷ xs) ys zero x there = there
get_left (y ∷ xs) ys (suc n) x there = get_left xs ys n x there

module _ (old new : RecordedState) (since : IsSince old new) (number : ℕ) (begun pass : Holder) (stopped : Bool) (passed : HasPassed old number begun pass stopped) (prefix : IsPrefix (seen pass) new.history) where
  pass_since : pass.since ≡ begun.since ++ passed.passing.follows.since
  pass_since = ap (λ (h : Holder). h.since) passed.passing.follows.is

  pass_rest : drop (length begun.since) pass.since ≡ passed.passing.follows.since
  pass_rest = ap (drop (length begun.since)) pass_since ∙ drop_at begun.since passed.passing.follows.since (length begun.since) refl

  seen_is : seen (passing_of begun pass stopped) ≡ seen pass
  seen_is =
      ap (λ (es : List Entry). (begun.before ++ begun.since) ++ es) pass_rest
      ∙ append_assoc begun.before begun.since passed.passing.follows.since
      ∙ ap (λ (es : List Entry). begun.before ++ es) (sym pass_since)
      ∙ ap (λ (es : List Entry). es ++ pass.since) (sym (ap (λ (h : Holder). h.before) passed.passing.follows.is))

  -- the core of a pass is that of what it has seen
  pass_core : core_at (passing_of begun pass stopped) ≡ after_all (core_of old) pass.since
  pass_core =
      ap (after_all (after_all begun.base begun.since)) pass_rest
      ∙ sym (after_all-append begun.base begun.since passed.passing.follows.since)
      ∙ ap (after_all begun.base) (sym pass_since)
      ∙ ap (λ (c : Core). after_all c pass.since) (ap (λ (h : Holder). h.base) passed.of.is)

  since_seen : pass.since ++ prefix.0 ≡ since.since
  since_seen =
      let before : pass.before ≡ old.history = ap (λ (h : Holder). h.before) passed.end.is in
      let all : old.history ++ (pass.since ++ prefix.0) ≡ old.history ++ since.since =
      sym (append_assoc old.history pass.since prefix.0)
      ∙ ap (λ (b : List Entry). (b ++ pass.since) ++ prefix.0) (sym before)
      ∙ prefix.1
      ∙ since.steps.moves.history in
      append_cancel_left old.history (pass.since ++ prefix.0) since.since all

  pub core_later : core_of new ≡ after_all (core_at (passing_of begun pass stopped)) prefix.0
  core_later =
      since.steps.moves.leads
      ∙ ap (after_all (core_of old)) (sym since_seen)
      ∙ after_all-append (core_of old) pass.since prefix.0
      ∙ ap (λ (c : Core). after_all c prefix.0) (sym pass_core)

  -- a failure of the disk that the pass has is among the entries
  pub fault_since : HasFault (passing_of begun begun false) (passing_of begun pass stopped) → 1 ≤ fault_count since.since
  fault_since f =
      let own : IsOwn (passing_of begun pass stopped) (f.number, Fault begun.number f.kind) =
      all_among (IsOwn (passing_of begun pass stopped)) (drop (length begun.own) pass.own) (f.number, Fault begun.number f.kind) passed.passing.holds.own
      (to_among (drop (length begun.own) pass.own) (f.number, Fault begun.number f.kind) f.among) in
      let there : slice_get (seen pass) f.number ≡ Some (Fault begun.number f.kind) =
      subst (λ (es : List Entry). slice_get es f.number ≡ Some (Fault begun.number f.kind)) seen_is own.there in
      let whole : slice_get (old.history ++ since.since) f.number ≡ Some (Fault begun.number f.kind) =
      subst (λ (es : List Entry). slice_get es f.number ≡ Some (Fault begun.number f.kind)) (prefix.1 ∙ since.steps.moves.history)
      (get_left (seen pass) prefix.0 f.number (Fault begun.number f.kind) there) in
      let before : begun.before ≡ old.history = ap (λ (h : Holder). h.before) passed.of.is in
      let later : length (begun.before ++ begun.since) ≤ f.number = own.later in
      fault_after old.history since.since f.number (Fault begun.number f.kind) whole
      (omega (arith, later, length-append begun.before begun.since, ap length before)) tt
