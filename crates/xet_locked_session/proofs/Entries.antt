-- The entries of a history that have some numbers.
use Rattle.std.proofs.Common.{◌≡◌, ◌∙◌, ℕ, zero, suc, ◌+◌, ◌<◌, ◌≤◌, List, [], ◌∷◌, ◌++◌, get_or, length, map, Some, refl, sym, ap, subst, append_assoc, length-append, arith}
use Rattle.std.specs.Prelude.{slice_get}
use Rattle.std.specs.List.{AllByRecursion}
use Rattle.std.specs.List.Sorted.{IsStrictlyIncreasing}
use mathlib.Core.List.{IsPrefix}
use Rattle.xet_history.specs.History.{Legal}
use Rattle.xet_history.specs.declared.entry.Entry.{Entry}
use Rattle.xet_shared_history.specs.Owned.{AreOwn, numbers_from}
use Rattle.xet_shared_history.specs.theorems.Prefixes.{prefix_get}
use Rattle.xet_store.specs.Recorded.{RecordedState, core_of}
use Rattle.xet_store.specs.Holders.{Holder, numbered, seen}
use Rattle.xet_locked_session.specs.Passes.{IsSeen, IsThere, entries_at, holder_of, with_number}

entries_at-append : (history : List Entry) (xs ys : List ℕ) → entries_at history (xs ++ ys) ≡ entries_at history xs ++ entries_at history ys
entries_at-append history [] ys = refl
entries_at-append history (n ∷ xs) ys =
    ap (λ (l : List (ℕ × Entry)). with_number n (slice_get history n) ++ l) (entries_at-append history xs ys)
    ∙ sym (append_assoc (with_number n (slice_get history n)) (entries_at history xs) (entries_at history ys))

-- own entries are the same in a longer history
entries_later : (pass : ℕ) (old now : List Entry) (from : ℕ) (own : List ℕ) → IsPrefix old now → AreOwn pass old from own → entries_at now own ≡ entries_at old own
entries_later pass old now from [] prefix are = refl
entries_later pass old now from (n ∷ own) prefix are =
    let here : slice_get old n ≡ Some are.1.entry = are.1.there in
    let there : slice_get now n ≡ Some are.1.entry = prefix_get old now n are.1.entry prefix here in
    (λ i. with_number n ((there ∙ sym here) i) ++ entries_later pass old now (n + 1) own prefix are.2 i)

get_seam : (front : List Entry) (e : Entry) (rest : List Entry) → slice_get (front ++ e ∷ rest) (length front) ≡ Some e
get_seam [] e rest = refl
get_seam (x ∷ front) e rest = get_seam front e rest

-- the entries at the end of a history
entries_from : (front added : List Entry) → entries_at (front ++ added) (numbers_from (length front) (length added)) ≡ numbered (length front) added
entries_from front [] = refl
entries_from front (e ∷ added) =
    let n : ℕ = length front in
    let next : List Entry = front ++ e ∷ [] in
    let more : length next ≡ n + 1 = length-append front (e ∷ []) in
    let rest : entries_at (front ++ e ∷ added) (numbers_from (n + 1) (length added)) ≡ numbered (suc n) added =
    ap (λ (h : List Entry). entries_at h (numbers_from (n + 1) (length added))) (sym (append_assoc front (e ∷ []) added))
    ∙ ap (λ (k : ℕ). entries_at (next ++ added) (numbers_from k (length added))) (sym more)
    ∙ entries_from next added
    ∙ ap (λ (k : ℕ). numbered k added) (omega (arith, more)) in
    (λ i. with_number n (get_seam front e added i) ++ rest i)

-- what an own entry of a step is, after it
pub entries_grown : (pass : ℕ) (old now added : List Entry) (from : ℕ) (own : List ℕ) → IsPrefix old now → AreOwn pass old from own
    → entries_at (now ++ added) (own ++ numbers_from (length now) (length added)) ≡ entries_at old own ++ numbered (length now) added
entries_grown pass old now added from own prefix are =
    let longer : IsPrefix old (now ++ added) = (prefix.0 ++ added, sym (append_assoc old prefix.0 added) ∙ ap (λ (l : List Entry). l ++ added) prefix.1) in
    entries_at-append (now ++ added) own (numbers_from (length now) (length added))
    ∙ ap (λ (l : List (ℕ × Entry)). l ++ entries_at (now ++ added) (numbers_from (length now) (length added))) (entries_later pass old (now ++ added) from own longer are)
    ∙ ap (λ (l : List (ℕ × Entry)). entries_at old own ++ l) (entries_from now added)

-- ---- their numbers

with_entry : (history : List Entry) (n : ℕ) (e : Entry) → slice_get history n ≡ Some e → with_number n (slice_get history n) ≡ (n, e) ∷ []
with_entry history n e there = ap (with_number n) there

pub numbers_at : (pass : ℕ) (history : List Entry) (from : ℕ) (own : List ℕ) → AreOwn pass history from own → map (λ p. p.0) (entries_at history own) ≡ own
numbers_at pass history from [] are = refl
numbers_at pass history from (n ∷ own) are =
    ap (λ (l : List (ℕ × Entry)). map (λ (p : ℕ × Entry). p.0) (l ++ entries_at history own)) (with_entry history n are.1.entry are.1.there)
    ∙ ap (λ (ns : List ℕ). n ∷ ns) (numbers_at pass history (n + 1) own are.2)

-- each is there
pub all_there : (h : Holder) (from : ℕ) (own : List ℕ) → length h.before ≤ from → AreOwn h.number (seen h) from own → AllByRecursion (IsThere h) (entries_at (seen h) own)
all_there h from [] le are = tt
all_there h from (n ∷ own) le are =
    subst (λ (l : List (ℕ × Entry)). AllByRecursion (IsThere h) (l ++ entries_at (seen h) own)) (sym (with_entry (seen h) n are.1.entry are.1.there))
    (record { there = are.1.there; later = omega (arith, le, are.0); made = are.1.made }, all_there h (n + 1) own (omega (arith, le, are.0)) are.2)

-- they rise
own_rise : (pass : ℕ) (history : List Entry) (from : ℕ) (own : List ℕ) → AreOwn pass history from own → (k : ℕ) → k < length own → from ≤ get_or own k 0
own_rise pass history from [] are k less = absurd (omega (arith, less))
own_rise pass history from (n ∷ own) are zero less = are.0
own_rise pass history from (n ∷ own) are (suc k) less = omega (arith, are.0, own_rise pass history (n + 1) own are.2 k (omega (arith, less)))

rises : (pass : ℕ) (history : List Entry) (from : ℕ) (own : List ℕ) → AreOwn pass history from own → (k j : ℕ) → k < j → j < length own → get_or own k 0 < get_or own j 0
rises pass history from [] are k j lt less = absurd (omega (arith, less))
rises pass history from (n ∷ own) are k zero lt less = absurd (omega (arith, lt))
rises pass history from (n ∷ own) are zero (suc j) lt less = omega (arith, own_rise pass history (n + 1) own are.2 j (omega (arith, less)))
rises pass history from (n ∷ own) are (suc k) (suc j) lt less = rises pass history (n + 1) own are.2 k j (omega (arith, lt)) (omega (arith, less))

pub own_ascend : (pass : ℕ) (history : List Entry) (from : ℕ) (own : List ℕ) → AreOwn pass history from own → IsStrictlyIncreasing own
own_ascend pass history from own are k less = rises pass history from own are k (k + 1) (omega arith) less

-- ---- a pass

pub pass_seen : (start : RecordedState) (number : ℕ) (own : List ℕ) (seen : List Entry) → AreOwn number (start.history ++ seen) (length start.history) own → Legal start.store.tells (core_of start) seen → IsSeen (holder_of start number own seen)
pass_seen start number own seen are legal =
    let history : List Entry = start.history ++ seen in
    record {
      legal = legal;
      own = all_there (holder_of start number own seen) (length start.history) own (omega arith) are;
      ascend = subst IsStrictlyIncreasing (sym (numbers_at number history (length start.history) own are)) (own_ascend number history (length start.history) own are);
    }
