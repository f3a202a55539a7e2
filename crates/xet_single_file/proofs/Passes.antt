-- The pass of a file, after calls that see it as a maker of steps.
use Rattle.std.proofs.Common.{◌≡◌, ◌∙◌, ℕ, ◌+◌, ◌≤◌, Bool, true, false, true≢false, List, ◌++◌, append_assoc, length, if◌then◌else◌, Result, Ok, Err, OnErr, OnOk, Option, is_ok, refl, sym, ap, subst, arith}
use Rattle.std.proofs.lemmas.List.{drop_at}
use Rattle.xet_aggregate.specs.Aggregate.{Aggregate}
use Rattle.xet_aggregate.specs.declared.metrics.DeduplicationMetrics.{DeduplicationMetrics}
use Rattle.xet_choices.specs.declared.choice.Choice.{Choice}
use Rattle.xet_clean.specs.Planning.{IsFew, IsFinished}
use Rattle.xet_hash.specs.declared.error.Place.TheVariants.{Disk}
use Rattle.xet_hash.specs.declared.error.StoreError.{StoreError}
use Rattle.xet_hash.specs.declared.error.StoreError.TheVariants.{Io, MalformedData, OutOfMemory, TooLarge}
use Rattle.xet_hash.specs.declared.error.What.TheVariants.{Shards}
use Rattle.xet_history.specs.declared.entry.Entry.{Entry}
use Rattle.xet_locked_session.specs.Passes.{IsPassOf}
use Rattle.xet_locked_session.specs.Passing.{IsPassing, PassingState, passing_of}
use Rattle.xet_locked_session.specs.theorems.Starts.{same_start}
use Rattle.xet_store.specs.Interface.{IsErrorSince}
use Rattle.xet_store.specs.Holders.{Follows, FollowsAsking, Holder}
use Rattle.xet_store_disk.specs.declared.info.XetFileInfo.{XetFileInfo}
use Rattle.xet_store.specs.Recorded.{RecordedState}
use Rattle.xet_single_file.specs.internal.Kept.{IsKept, holder_in}

-- ---- the pass itself only grows

abbrev with_parts : Holder → List Entry → List (ℕ × Entry) → Bool → Holder
with_parts h since own stopped = record h { since = since; own = own; stopped = stopped }

abbrev later : Holder → List Entry → List (ℕ × Entry) → Bool → Holder
later start since own stopped = with_parts start (start.since ++ since) (start.own ++ own) stopped

later_follows : (start : Holder) (s t : List Entry) (o u : List (ℕ × Entry)) (x y i j : Bool)
    → Follows (passing_of start (later start s o x) i) (passing_of start (later start t u y) j) → Follows (later start s o x) (later start t u y)
later_follows start s t o u x y i j f =
    let since : t ≡ s ++ f.since =
    sym (drop_at start.since t (length start.since) refl) ∙ ap (λ (h : Holder). h.since) f.is ∙ ap (λ (es : List Entry). es ++ f.since) (drop_at start.since s (length start.since) refl) in
    let own : u ≡ o ++ f.own =
    sym (drop_at start.own u (length start.own) refl) ∙ ap (λ (h : Holder). h.own) f.is ∙ ap (λ (ps : List (ℕ × Entry)). ps ++ f.own) (drop_at start.own o (length start.own) refl) in
    record {
      since = f.since;
      own = f.own;
      is = ap (λ (es : List Entry). with_parts start es (start.own ++ u) y) (ap (λ (es : List Entry). start.since ++ es) since ∙ sym (append_assoc start.since s f.since))
          ∙ ap (λ (ps : List (ℕ × Entry)). with_parts start ((start.since ++ s) ++ f.since) ps y) (ap (λ (ps : List (ℕ × Entry)). start.own ++ ps) own ∙ sym (append_assoc start.own o f.own));
    }

pass_follows : (start p q : Holder) (i j : Bool) → Follows start p → Follows start q → Follows (passing_of start p i) (passing_of start q j) → Follows p q
pass_follows start p q i j fp fq =
    subst (λ (x : Holder). Follows (passing_of start x i) (passing_of start q j) → Follows x q) (sym fp.is)
    (subst (λ (y : Holder). Follows (passing_of start (later start fp.since fp.own p.stopped) i) (passing_of start y j) → Follows (later start fp.since fp.own p.stopped) y) (sym fq.is)
    (later_follows start fp.since fq.since fp.own fq.own p.stopped q.stopped i j))

-- ---- whether it has stopped

few_stopped : (b : Bool) (n k m : ℕ) → n ≤ k + (if b then m else 0) → n ≤ k + m
few_stopped true n k m le = le
few_stopped false n k m le = omega (arith, le)

stopped_few : (h start p : Holder) (b : Bool) (bytes : List ℕ) → IsFew h (passing_of start p b) bytes → IsFew h (passing_of start p true) bytes
stopped_few h start p b bytes few =
    let f : FollowsAsking h (passing_of start p b) = few.follows in
    record {
      follows = record {
        follows = record { since = f.follows.since; own = f.follows.own; is = ap (λ (x : Holder). record x { stopped = true }) f.follows.is };
        none = f.none;
        calls = f.calls;
        added = f.added;
        few = few_stopped b _ _ _ f.few;
        still = λ _. refl;
      };
      nexts = few.nexts;
      few = few.few;
    }

stopped_error : (start a p : Holder) (i j : Bool) (e : StoreError) → IsErrorSince (passing_of start a i) (passing_of start p j) e → IsErrorSince (passing_of start a false) (passing_of start p true) e
stopped_error start a p i j (Io Disk) is = record { number = is.number; kind = is.kind; among = is.among; since = is.since }
stopped_error start a p i j OutOfMemory is = tt
stopped_error start a p i j (TooLarge Shards) is = is
stopped_error start a p i j (MalformedData reason) is = is
stopped_error start a p i j e is = absurd is

-- ---- after calls, by what contracts see of it before and after

module _ (store : RecordedState) (start old new : PassingState) (id number : ℕ) (kept : IsKept store start old id number) (of : IsPassOf store new.start) (passing : IsPassing new.start new.pass new.stopped) where
  module _ (f : Follows (holder_in old) (holder_in new)) where
    pub begun_same : new.start ≡ start.start
    begun_same =
        same_start store start.start new.start old.pass new.pass old.stopped new.stopped kept.of of
        (subst (λ (h : Holder). Follows (passing_of h old.pass old.stopped) (holder_in new)) kept.same f)

    -- as steps of the pass that began
    as_one : IsPassing start.start new.pass new.stopped
    as_one = subst (λ (h : Holder). IsPassing h new.pass new.stopped) begun_same passing

    was_one : IsPassing start.start old.pass old.stopped
    was_one = subst (λ (h : Holder). IsPassing h old.pass old.stopped) kept.same kept.passing

    one_follows : Follows (passing_of start.start old.pass old.stopped) (passing_of start.start new.pass new.stopped)
    one_follows =
        subst (λ (h : Holder). Follows (passing_of start.start old.pass old.stopped) (passing_of h new.pass new.stopped)) begun_same
        (subst (λ (h : Holder). Follows (passing_of h old.pass old.stopped) (holder_in new)) kept.same f)

    pub pass_grows : Follows old.pass new.pass
    pass_grows = pass_follows start.start old.pass new.pass old.stopped new.stopped was_one.follows as_one.follows one_follows

    pub kept_after : IsKept store start new id number
    kept_after = record { begun = kept.begun; same = begun_same; of = kept.of; passing = passing; named = kept.named }

    pub few_after : (bytes : List ℕ) → IsFew (holder_in start) (holder_in new) bytes → IsFew (passing_of start.start start.start false) (passing_of start.start new.pass true) bytes
    few_after bytes few =
        stopped_few (passing_of start.start start.start false) start.start new.pass new.stopped bytes
        (subst (λ (h : Holder). IsFew (passing_of start.start start.start false) (passing_of h new.pass new.stopped) bytes) begun_same
        (subst (λ (s : PassingState). IsFew (holder_in s) (holder_in new) bytes) kept.begun few))

    pub error_after : (e : StoreError) → IsErrorSince (holder_in old) (holder_in new) e → IsErrorSince (passing_of start.start old.pass false) (passing_of start.start new.pass true) e
    error_after e is =
        stopped_error start.start old.pass new.pass old.stopped new.stopped e
        (subst (λ (h : Holder). IsErrorSince (passing_of start.start old.pass old.stopped) (passing_of h new.pass new.stopped) e) begun_same
        (subst (λ (h : Holder). IsErrorSince (passing_of h old.pass old.stopped) (holder_in new) e) kept.same is))

    pub finished_after : (sha256 : Option (List ℕ)) (bytes : List ℕ) (info : XetFileInfo) (metrics : DeduplicationMetrics) (choices : List Choice) (rest : Aggregate) → IsFinished (holder_in start) (holder_in new) id sha256 bytes info metrics choices rest
        → IsFinished (passing_of start.start start.start false) (passing_of start.start new.pass false) number sha256 bytes info metrics choices rest
    finished_after sha256 bytes info metrics choices rest is =
        let stopped : new.stopped ≡ false = is.planned.passed ∙ ap (λ (s : PassingState). s.stopped) kept.begun in
        let first : Holder = passing_of start.start start.start false in
        subst (λ (n : ℕ). IsFinished first (passing_of start.start new.pass false) n sha256 bytes info metrics choices rest) kept.named
        (subst (λ (b : Bool). IsFinished first (passing_of start.start new.pass b) id sha256 bytes info metrics choices rest) stopped
        (subst (λ (h : Holder). IsFinished first (passing_of h new.pass new.stopped) id sha256 bytes info metrics choices rest) begun_same
        (subst (λ (s : PassingState). IsFinished (holder_in s) (holder_in new) id sha256 bytes info metrics choices rest) kept.begun is)))

-- the same of an equal beginning, and of equal numbers
pub kept_moved : (store : RecordedState) (start other now : PassingState) (id number i n : ℕ) → other ≡ start → i ≡ id → n ≡ number → IsKept store start now id number → IsKept store other now i n
kept_moved store start other now id number i n begun same named kept =
    subst (λ (s : PassingState). IsKept store s now i n) (sym begun) (subst (λ (k : ℕ). IsKept store start now k n) (sym same) (subst (λ (k : ℕ). IsKept store start now id k) (sym named) kept))

-- ---- results

pub when_ok : {T E : Type 0} (r : Result T E) (b : Bool) → b ≡ is_ok r → OnOk r (b ≡ true)
when_ok (Ok x) b is = is
when_ok (Err e) b is = tt

pub when_err : {T E : Type 0} (r : Result T E) (b : Bool) → b ≡ is_ok r → OnErr r (b ≡ false)
when_err (Ok x) b is = tt
when_err (Err e) b is = is

pub if_ok : {T E : Type 0} {P : Type 0} (r : Result T E) (b : Bool) → b ≡ is_ok r → b ≡ true → OnOk r P → P
if_ok (Ok x) b is ok p = p
if_ok (Err e) b is ok p = absurd (true≢false (sym ok ∙ is))
