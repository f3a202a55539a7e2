-- Splitting a block, one chunk at a time.
use Rattle.std.proofs.Common.{◌≡◌, ◌∙◌, ℕ, zero, suc, ◌+◌, ◌-◌, ◌<◌, ◌≤◌, Bool, true, false, List, [], ◌∷◌, ◌++◌, append_assoc, length, take, drop, map, if◌then◌else◌, is_ok, IsOk, Result, Ok, Err, Some, None, refl, sym, ap, arith}
use Rattle.std.proofs.lemmas.List.{append-nil, drop-drop, map-append, map_push}
use Rattle.std.proofs.Math.Seq.{drop-append-add, take-append-add}
use Rattle.std.specs.declared.alloc.AllocError.{AllocError}
use Rattle.std.specs.List.{slice_range}
use Rattle.std.specs.Option.{option_to_list}
use Rattle.xet_xorb_chunk.specs.declared.chunk.Chunk.{Chunk}
use Rattle.xet_xorb_chunk.specs.Chunks.{chunk_of}
use Rattle.xet_cut.specs.declared.limits.LimitSettings.{LimitSettings}
use Rattle.xet_cut.specs.Limits.{AreInRange}
use Rattle.xet_cut.specs.Chunking.{chunking}
use Rattle.xet_cut.specs.Streams.{IsBlock, boundary_in, if_any, step}
use Rattle.xet_cut.specs.internal.Cutting.{IsCut, left, unsplit}
use Rattle.xet_cut.specs.theorems.FirstBoundary.{none_in_nothing}
use Rattle.xet_cut.specs.theorems.Streams.{chunking_cut, chunking_unended}

-- once a chunk took new bytes, nothing that was buffered is left
unsplit_none : (buffered : List ℕ) (taken : ℕ) → 1 ≤ taken → unsplit buffered taken ≡ []
unsplit_none buffered zero some = absurd (omega arith)
unsplit_none buffered (suc taken) some = refl

-- no boundary is within it
pub unsplit_unended : (s : LimitSettings) (buffered : List ℕ) (taken : ℕ) → AreInRange s → boundary_in s buffered ≡ None → boundary_in s (unsplit buffered taken) ≡ None
unsplit_unended s buffered zero range none = none
unsplit_unended s buffered (suc taken) range none = none_in_nothing s range.minimum_from range.minimum_to

-- before the first chunk
pub cut_none : (s : LimitSettings) (buffered bytes : List ℕ) → IsCut s buffered bytes 0 []
cut_none s buffered bytes = record { within = omega arith; parts = []; made = refl; joined = λ rest. refl }

-- one more chunk
pub cut_more : {s : LimitSettings} {buffered bytes : List ℕ} {taken : ℕ} {chunks : List Chunk} (n : ℕ) (new : List Chunk) → AreInRange s → IsCut s buffered bytes taken chunks
    → boundary_in s (left buffered bytes taken) ≡ Some (length (unsplit buffered taken) + n) → 1 ≤ n → n ≤ length bytes - taken
    → new ≡ chunks ++ chunk_of (unsplit buffered taken ++ slice_range bytes taken (taken + n)) ∷ [] → IsCut s buffered bytes (taken + n) new
cut_more {s} {buffered} {bytes} {taken} {chunks} n new range is found some within new_is =
    let part : List ℕ = unsplit buffered taken ++ slice_range bytes taken (taken + n) in
    let before : List ℕ = unsplit buffered taken in
    let k : ℕ = length before + n in
    let count : taken + n - taken ≡ n = omega arith in
    let first : take k (left buffered bytes taken) ≡ part =
    take-append-add before (drop taken bytes) n ∙ ap (λ (m : ℕ). before ++ take m (drop taken bytes)) (sym count) in
    let rest : drop k (left buffered bytes taken) ≡ left buffered bytes (taken + n) =
    drop-append-add before (drop taken bytes) n ∙ drop-drop n taken bytes ∙ ap (λ (t : List ℕ). t ++ drop (taken + n) bytes) (sym (unsplit_none buffered (taken + n) (omega arith))) in
    record {
      within = omega (arith, is.within);
      parts = is.parts ++ part ∷ [];
      made = new_is ∙ ap (λ (t : List Chunk). t ++ chunk_of part ∷ []) is.made ∙ sym (map_push chunk_of is.parts part);
      joined = λ more.
          is.joined more
          ∙ ap (λ (t : List (List ℕ)). is.parts ++ t)
          (chunking_cut s (left buffered bytes taken) more k range.minimum_from range.minimum_to found
          ∙ ap (λ (t : List ℕ). t ∷ chunking s (drop k (left buffered bytes taken) ++ more)) first
          ∙ ap (λ (t : List ℕ). part ∷ chunking s (t ++ more)) rest)
          ∙ sym (append_assoc is.parts (part ∷ []) (chunking s (left buffered bytes (taken + n) ++ more)));
    }

-- a block that is not the last: what is left is buffered
pub block_split : {s : LimitSettings} {buffered bytes : List ℕ} {taken : ℕ} {chunks : List Chunk} (after : List ℕ) → IsCut s buffered bytes taken chunks
    → boundary_in s (left buffered bytes taken) ≡ None → after ≡ left buffered bytes taken → IsBlock s (buffered ++ bytes) false chunks after
block_split {s} {buffered} {bytes} {taken} {chunks} after is none after_is = record {
  parts = is.parts;
  made = is.made;
  split = λ _. record { joined = rw after_is is.joined; none = rw after_is none };
  ended = λ e. absurd (cc e);
}

-- the last block: what is left is a chunk, if it is anything
pub block_ended : {s : LimitSettings} {buffered bytes : List ℕ} {taken : ℕ} {chunks : List Chunk} (new : List Chunk) (after : List ℕ) → IsCut s buffered bytes taken chunks
    → boundary_in s (left buffered bytes taken) ≡ None → new ≡ chunks ++ map chunk_of (option_to_list (if_any (left buffered bytes taken))) → after ≡ []
    → IsBlock s (buffered ++ bytes) true new after
block_ended {s} {buffered} {bytes} {taken} {chunks} new after is none new_is after_is =
    let tail : List (List ℕ) = option_to_list (if_any (left buffered bytes taken)) in
    let all : chunking s (buffered ++ bytes) ≡ is.parts ++ tail =
    ap (chunking s) (sym (append-nil (buffered ++ bytes))) ∙ is.joined [] ∙ ap (λ (t : List ℕ). is.parts ++ chunking s t) (append-nil (left buffered bytes taken))
    ∙ ap (λ (t : List (List ℕ)). is.parts ++ t) (chunking_unended s (left buffered bytes taken) none) in
    record {
      parts = is.parts ++ tail;
      made = new_is ∙ ap (λ (t : List Chunk). t ++ map chunk_of tail) is.made ∙ sym (map-append chunk_of is.parts tail);
      split = λ e. absurd (cc e);
      ended = λ _. (sym all, after_is);
    }

-- bytes that are some
pub if_any_some : (bs : List ℕ) → 0 < length bs → Some bs ≡ if_any bs
if_any_some [] some = absurd (omega arith)
if_any_some (b ∷ bs) some = refl

-- bytes that are none
pub if_any_none : (bs : List ℕ) → length bs ≡ 0 → None ≡ if_any bs
if_any_none [] none = refl
if_any_none (b ∷ bs) none = absurd (omega arith)

-- what was appended, as there was room
pub appended : (r : Result (Unit {0}) AllocError) (new whole old : List ℕ) → IsOk r → new ≡ (if is_ok r then whole else old) → new ≡ whole
appended (Ok x) new whole old ok is = is
appended (Err e) new whole old ok is = absurd (cc ok)

-- a step up to a boundary
pub step_cut : (s : LimitSettings) (buffered new : List ℕ) (last : Bool) (n : ℕ) → boundary_in s (buffered ++ new) ≡ Some (length buffered + n)
    → step s buffered new last ≡ record { chunk = Some (buffered ++ take n new); taken = n; buffered = [] }
unfolding step
step_cut s buffered new last n found =
    let k : ℕ = length buffered + n in
    let taken : k - length buffered ≡ n = omega arith in
    let at : step s buffered new last ≡ record { chunk = Some (take k (buffered ++ new)); taken = k - length buffered; buffered = [] } = rw (found, step) refl in
    at ∙ rw (taken, take-append-add buffered new n) refl

-- a step to the end of the stream
pub step_last : (s : LimitSettings) (buffered new : List ℕ) → boundary_in s (buffered ++ new) ≡ None
    → step s buffered new true ≡ record { chunk = if_any (buffered ++ new); taken = length new; buffered = [] }
unfolding step
step_last s buffered new none = rw (none, step) refl

-- a step with no boundary
pub step_more : (s : LimitSettings) (buffered new : List ℕ) → boundary_in s (buffered ++ new) ≡ None
    → step s buffered new false ≡ record { chunk = None; taken = length new; buffered = buffered ++ new }
unfolding step
step_more s buffered new none = rw (none, step) refl
