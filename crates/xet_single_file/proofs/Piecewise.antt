-- A file to which bytes are added in pieces.
use Rattle.std.proofs.Common.{◌≡◌, ◌∙◌, inl, inr, ℕ, ◌+◌, ◌≤◌, Bool, true, false, true≢false, if◌then◌else◌, List, ◌++◌, append_assoc, length, slice_range, take, drop, take-append-drop, refl, sym, ap, subst, arith, length-append, ◌-◌}
use Rattle.std.proofs.Math.Seq.{take-append-add}
use Rattle.std.proofs.lemmas.List.{length-map, length-take-le, take_all}
use Rattle.std.specs.List.{AllByRecursion}
use Rattle.xet_clean.specs.Cleaner.{IsCleaning}
use Rattle.xet_clean.specs.Errors.{IsCleanerError}
use Rattle.xet_clean.specs.Planning.{IsFew}
use Rattle.xet_clean.specs.theorems.Adding.{asking_calls}
use Rattle.xet_cut.specs.Chunking.{chunking}
use Rattle.xet_cut.specs.Limits.{AreInRange}
use Rattle.xet_cut.specs.Streams.{Splitting}
use Rattle.xet_dedup_queries.specs.Counting.{HasNext}
use Rattle.xet_file_plan.specs.Moves.{PlanState}
use Rattle.xet_hash.specs.Merkle.{leaf_of}
use Rattle.xet_hash.specs.declared.error.Place.TheVariants.{Disk}
use Rattle.xet_hash.specs.declared.error.StoreError.{StoreError}
use Rattle.xet_hash.specs.declared.error.StoreError.TheVariants.{Io, MalformedData, OutOfMemory, TooLarge}
use Rattle.xet_hash.specs.declared.error.What.TheVariants.{Shards}
use Rattle.xet_store.specs.Interface.{IsErrorSince}
use Rattle.xet_store.specs.Holders.{Follows, Holder, seen}
use Rattle.xet_single_file.proofs.Growing.{leaves_more}

-- the bytes before a piece, and those up to its end
piece_after : (from to : ℕ) (bytes : List ℕ) → from ≤ to → from ≤ length bytes → take to bytes ≡ take from bytes ++ slice_range bytes from to
piece_after from to bytes order within =
    let length-is = length-take-le from bytes within in
    let sum : to ≡ length (take from bytes) + (to - from) = omega (arith, order, length-is) in
    ap (λ (l : List ℕ). take to l) (sym (take-append-drop from bytes))
    ∙ ap (λ n. take n (take from bytes ++ drop from bytes)) sum
    ∙ take-append-add (take from bytes) (drop from bytes) (to - from)

-- the bytes before a piece, the piece, and those after it
pub in_pieces : (from to : ℕ) (bytes : List ℕ) → from ≤ to → from ≤ length bytes → bytes ≡ (take from bytes ++ slice_range bytes from to) ++ drop to bytes
in_pieces from to bytes order within = sym (take-append-drop to bytes) ∙ ap (λ (l : List ℕ). l ++ drop to bytes) (piece_after from to bytes order within)

-- one more piece
pub more_range : (P : List ℕ → Type 0) (before bytes : List ℕ) (from to : ℕ) → from ≤ to → from ≤ length bytes → P ((before ++ take from bytes) ++ slice_range bytes from to) → P (before ++ take to bytes)
more_range P before bytes from to order within p =
    subst (λ (l : List ℕ). P (before ++ l)) (sym (piece_after from to bytes order within)) (subst P (append_assoc before (take from bytes) (slice_range bytes from to)) p)

-- the last piece
pub whole_range : (P : List ℕ → Type 0) (before bytes : List ℕ) (from : ℕ) → from ≤ length bytes → P ((before ++ take from bytes) ++ slice_range bytes from (length bytes)) → P (before ++ bytes)
whole_range P before bytes from within p = subst (λ (l : List ℕ). P (before ++ l)) (take_all (length bytes) bytes (omega arith)) (more_range P before bytes from (length bytes) within within p)

-- ---- entries

-- the entries of a step that failed
abbrev failed_entries : Bool → Bool → ℕ
failed_entries old new = if new then (if old then 0 else 2) else 0

none_failed : (a b : Bool) → b ≡ a → failed_entries a b ≡ 0
none_failed true true same = refl
none_failed a false same = refl
none_failed false true same = absurd (true≢false same)

-- no more bytes were added
pub few_before : (start now : Holder) (whole : Bool) (plan : PlanState) (global : ℕ × ℕ) (splitting : Splitting) (count : ℕ) (bytes : List ℕ) → IsCleaning start now whole plan global splitting count bytes → (rest : List ℕ) → IsFew start now (bytes ++ rest)
few_before start now whole plan global splitting count bytes c rest = record {
  follows = c.follows;
  nexts = subst (AllByRecursion HasNext) (sym (asking_calls start now c.follows)) c.nexts;
  few = omega (
    arith,
    c.follows.few,
    none_failed start.stopped now.stopped c.passed,
    c.few,
    c.asked,
    ap length c.leaves,
    length-map c.parts leaf_of,
    length-map (chunking now.limits (bytes ++ rest)) leaf_of,
    ap length (c.split.joined rest),
    length-append c.parts (chunking now.limits (splitting.buffered ++ rest)),
  );
}

-- a piece was not added, and nor were the bytes after it
pub few_of_whole : (start mid now : Holder) (before done piece back whole : List ℕ) → AreInRange mid.limits → Follows mid now → whole ≡ (done ++ piece) ++ back → IsFew start now ((before ++ done) ++ piece) → IsFew start now (before ++ whole)
few_of_whole start mid now before done piece back whole range f is few =
    let limits : now.limits ≡ mid.limits = ap (λ (h : Holder). h.limits) f.is in
    let here : AreInRange now.limits = subst AreInRange (sym limits) range in
    let all : before ++ whole ≡ ((before ++ done) ++ piece) ++ back =
    ap (λ (x : List ℕ). before ++ x) is ∙ sym (append_assoc before (done ++ piece) back) ∙ ap (λ (x : List ℕ). x ++ back) (sym (append_assoc before done piece)) in
    subst (IsFew start now) (sym all) (record {
      follows = few.follows;
      nexts = few.nexts;
      few = omega (arith, few.few, leaves_more now.limits here.minimum_from here.minimum_to ((before ++ done) ++ piece) back);
    })

-- ---- errors

seen_grows : (old mid : Holder) → Follows old mid → length (seen old) ≤ length (seen mid)
seen_grows old mid f =
    omega (arith, ap (λ (h : Holder). length (seen h)) f.is, length-append old.before (old.since ++ f.since), length-append old.since f.since, length-append old.before old.since)

error_earlier : (old mid new : Holder) → Follows old mid → (e : StoreError) → IsErrorSince mid new e → IsErrorSince old new e
error_earlier old mid new f (Io Disk) is = record { number = is.number; kind = is.kind; among = is.among; since = omega (arith, is.since, seen_grows old mid f) }
error_earlier old mid new f OutOfMemory is = tt
error_earlier old mid new f (TooLarge Shards) is = is
error_earlier old mid new f (MalformedData reason) is = is
error_earlier old mid new f e is = absurd is

-- a piece that the limits allow was not added: a step failed
pub piece_error : (number count : ℕ) (piece : List ℕ) (old mid new : Holder) (e : StoreError) → Follows old mid → count + length piece ≤ old.limits.max_source_bytes → IsCleanerError number count piece mid new e → IsErrorSince old new e
piece_error number count piece old mid new e f short (inl long) =
    absurd (omega (arith, short, long.1, ap (λ (h : Holder). h.limits.max_source_bytes) f.is))
piece_error number count piece old mid new e f short (inr is) = error_earlier old mid new f e is
