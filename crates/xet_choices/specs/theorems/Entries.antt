-- Entries and numbers of choices, those of a list before those of another.
use Rattle.std.proofs.Common.{◌≡◌, ◌∙◌, ℕ, zero, suc, ◌+◌, ◌<◌, inl, inr, List, [], ◌∷◌, ◌++◌, length, get_or, refl, sym, ap, subst, arith, length-append}
use Rattle.std.specs.Prelude.{replicate}
use Rattle.std.specs.List.{AllByRecursion}
use Rattle.std.specs.List.Sorted.{IsStrictlyIncreasing}
use Rattle.std.proofs.lemmas.Bool.{cases_lt}
use Rattle.std.proofs.lemmas.List.{get_or_append_left, append-nil}
use Rattle.std.proofs.Math.Seq.{get_or-append_seam}
use Rattle.xet_choices.specs.declared.choice.Choice.{Choice}
use Rattle.xet_choices.specs.declared.choice.Choice.TheVariants.{Reused, NoPlace, Refused, Inside}
use Rattle.xet_choices.specs.Choices.{EntriesRise, new_chunks, no_place_entries}

pub no_place_entries-append : (xs ys : List Choice) → no_place_entries (xs ++ ys) ≡ no_place_entries xs ++ no_place_entries ys
no_place_entries-append [] ys = refl
no_place_entries-append (Reused segment ∷ xs) ys = no_place_entries-append xs ys
no_place_entries-append (NoPlace entry ∷ xs) ys = ap (λ (l : List ℕ). entry ∷ l) (no_place_entries-append xs ys)
no_place_entries-append (Refused run ∷ xs) ys = no_place_entries-append xs ys
no_place_entries-append (Inside start ∷ xs) ys = no_place_entries-append xs ys

pub no_place_entries_run : (k segment : ℕ) → no_place_entries (replicate k (Reused segment)) ≡ []
no_place_entries_run zero segment = refl
no_place_entries_run (suc k) segment = no_place_entries_run k segment

-- the entries ascend still if no further one is named
pub rise_others : (xs ys : List Choice) → no_place_entries ys ≡ [] → EntriesRise xs → EntriesRise (xs ++ ys)
rise_others xs ys none rise =
    subst IsStrictlyIncreasing (sym (no_place_entries-append xs ys ∙ ap (λ (l : List ℕ). no_place_entries xs ++ l) none ∙ append-nil (no_place_entries xs))) rise

last_below : (es : List ℕ) (e k : ℕ) → AllByRecursion (λ x. x < e) es → k < length es → get_or es k 0 < e
last_below [] e k all lt = absurd (omega arith)
last_below (x ∷ es) e zero all lt = all.0
last_below (x ∷ es) e (suc k) all lt = last_below es e k all.1 (omega arith)

increasing_push : (es : List ℕ) (e : ℕ) → IsStrictlyIncreasing es → AllByRecursion (λ x. x < e) es → IsStrictlyIncreasing (es ++ e ∷ [])
increasing_push es e rise all k lt = elim (cases_lt (k + 1) (length es)) [
  | inl within ↦ (
      let one = get_or_append_left es (e ∷ []) 0 k (omega arith) in
      let two = get_or_append_left es (e ∷ []) 0 (k + 1) within in
      let was = rise k within in rw (one, two) was
      )
  | inr at ↦ (
      let len = length-append es (e ∷ []) in
      let last : k + 1 ≡ length es = omega (arith, lt) in
      let one = get_or_append_left es (e ∷ []) 0 k (omega arith) in
      let two : get_or (es ++ e ∷ []) (k + 1) 0 ≡ e = ap (λ (i : ℕ). get_or (es ++ e ∷ []) i 0) last ∙ get_or-append_seam es e [] 0 in
      rw (one, two) (last_below es e k all (omega arith))
      )
]

-- and if the next one is above all of them
pub rise_push : (xs : List Choice) (entry : ℕ) → EntriesRise xs → AllByRecursion (λ e. e < entry) (no_place_entries xs) → EntriesRise (xs ++ NoPlace entry ∷ [])
rise_push xs entry rise all = subst IsStrictlyIncreasing (sym (no_place_entries-append xs (NoPlace entry ∷ []))) (increasing_push (no_place_entries xs) entry rise all)

pub new_chunks-append : (xs ys : List Choice) → new_chunks (xs ++ ys) ≡ new_chunks xs + new_chunks ys
new_chunks-append [] ys = omega arith
new_chunks-append (c ∷ xs) ys = omega (arith, new_chunks-append xs ys)

pub new_chunks_run : (k segment : ℕ) → new_chunks (replicate k (Reused segment)) ≡ 0
new_chunks_run zero segment = refl
new_chunks_run (suc k) segment = omega (arith, new_chunks_run k segment)
