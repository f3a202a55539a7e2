-- Logs, call by call.
use Rattle.std.proofs.Common.{◌≡◌, ◌∙◌, ◌≢◌, ℕ, suc, zero, ◌+◌, ◌<◌, ◌≤◌, ◌==◌, Bool, false, true≢false, List, [], ◌∷◌, ◌++◌, length, take, drop, Option, Some, All, refl, sym, ap, subst, arith}
use Rattle.std.proofs.lemmas.List.{append-nil}
use Rattle.std.specs.List.{AllByRecursion, slice_get}
use Rattle.std.proofs.lemmas.List.Elements.{All-from_recursion}
use Rattle.xet_choices.specs.Calls.{Call, entries_of}
use Rattle.xet_choices.specs.Calls.Call.{Asked as AskedCall}
use Rattle.xet_dedup_tests.specs.declared.list_store.LoggedCall.{LoggedCall}
use Rattle.xet_dedup_tests.specs.declared.list_store.LoggedCall.TheVariants.{Asked, Registered}
use Rattle.xet_dedup_queries.specs.Interface.{asked, found_count}
use Rattle.xet_dedup_tests.specs.Logged.{call_at, calls_from}

-- one more call
pub calls_from-push : (n : ℕ) (cs : List LoggedCall) (c : LoggedCall) → calls_from n (cs ++ c ∷ []) ≡ calls_from n cs ++ call_at (n + length cs) c ∷ []
calls_from-push n [] c = ap (λ (m : ℕ). call_at m c ∷ []) (omega arith)
calls_from-push n (x ∷ cs) c =
    ap (λ (l : List Call). call_at n x ∷ l) (calls_from-push (suc n) cs c ∙ ap (λ (m : ℕ). calls_from (suc n) cs ++ call_at m c ∷ []) (omega arith))

-- entries are indices
within : (n bound : ℕ) (cs : List LoggedCall) → n + length cs ≤ bound → AllByRecursion (λ m. m < bound) (entries_of (calls_from n cs))
within n bound [] le = tt
within n bound (Asked hashes reply ∷ cs) le = (omega (arith, le), within (suc n) bound cs (omega (arith, le)))
within n bound (Registered leaves next ∷ cs) le = within (suc n) bound cs (omega (arith, le))

pub entries_within : (cs : List LoggedCall) → All (λ m. m < length cs) (entries_of (calls_from 0 cs))
entries_within cs = All-from_recursion (λ m. m < length cs) (entries_of (calls_from 0 cs)) (within 0 (length cs) cs (omega arith))

-- ---- the latest query

abbrev pub IsOther : LoggedCall → Type 0
IsOther (Asked hashes reply) = ⊥
IsOther (Registered leaves next) = Unit {0}

pub other_call : (x : LoggedCall) → ((hashes : List (List ℕ)) (reply : Option ℕ) → x ≢ Asked hashes reply) → IsOther x
other_call (Asked hashes reply) other = other hashes reply refl
other_call (Registered leaves next) other = tt

-- one call more is no query
pub other_from : (cs : List LoggedCall) (at : ℕ) (x : LoggedCall) → slice_get cs at ≡ Some x → IsOther x → AllByRecursion IsOther (drop (suc at) cs) → AllByRecursion IsOther (drop at cs)
other_from [] at x here other rest = absurd (cc here)
other_from (c ∷ cs) zero x here other rest = let same : c ≡ x = cc here in (subst IsOther (sym same) other, rest)
other_from (c ∷ cs) (suc at) x here other rest = other_from cs at x here other rest

no_entries : (n : ℕ) (cs : List LoggedCall) → AllByRecursion IsOther cs → entries_of (calls_from n cs) ≡ []
no_entries n [] others = refl
no_entries n (Asked hashes reply ∷ cs) others = absurd others.0
no_entries n (Registered leaves next ∷ cs) others = no_entries (suc n) cs others.1

no_entry : (before : List ℕ) (entry : ℕ) → [] ≡ before ++ entry ∷ [] → ⊥
no_entry [] entry is = cc is
no_entry (b ∷ before) entry is = cc is

same_last : (xs ys : List ℕ) (x y : ℕ) → xs ++ x ∷ [] ≡ ys ++ y ∷ [] → x ≡ y
same_last [] [] x y is = cc is
same_last [] (b ∷ ys) x y is = let rest : [] ≡ ys ++ y ∷ [] = cc is in absurd (no_entry ys y rest)
same_last (a ∷ xs) [] x y is = let rest : [] ≡ xs ++ x ∷ [] = cc is in absurd (no_entry xs x rest)
same_last (a ∷ xs) (b ∷ ys) x y is = same_last xs ys x y (cc is)

-- A query after which there is none has the last one of the entries.
ends_at : (n at : ℕ) (cs : List LoggedCall) (hashes : List (List ℕ)) (reply : Option ℕ) → slice_get cs at ≡ Some (Asked hashes reply) → AllByRecursion IsOther (drop (suc at) cs)
    → (before : List ℕ) × (entries_of (calls_from n cs) ≡ before ++ (n + at) ∷ [])
ends_at n at [] hashes reply here rest = absurd (cc here)
ends_at n zero (c ∷ cs) hashes reply here rest =
    let same : c ≡ Asked hashes reply = cc here in
    let first : n ≡ n + 0 = omega arith in
    ([], ap (λ (x : LoggedCall). entries_of (calls_from n (x ∷ cs))) same ∙ ap (λ (es : List ℕ). n ∷ es) (no_entries (suc n) cs rest) ∙ ap (λ (m : ℕ). m ∷ []) first)
ends_at n (suc at) (Asked hs r ∷ cs) hashes reply here rest =
    let e = ends_at (suc n) at cs hashes reply here rest in
    let same : suc n + at ≡ n + suc at = omega arith in
    (n ∷ e.0, ap (λ (es : List ℕ). n ∷ es) e.1 ∙ ap (λ (m : ℕ). n ∷ (e.0 ++ m ∷ [])) same)
ends_at n (suc at) (Registered leaves next ∷ cs) hashes reply here rest =
    let e = ends_at (suc n) at cs hashes reply here rest in
    let same : suc n + at ≡ n + suc at = omega arith in
    (e.0, e.1 ∙ ap (λ (m : ℕ). e.0 ++ m ∷ []) same)

pub latest_at : (cs : List LoggedCall) (at : ℕ) (x : LoggedCall) → slice_get cs at ≡ Some x → (IsOther x → ⊥) → AllByRecursion IsOther (drop (suc at) cs) → (before : List ℕ) (entry : ℕ) → entries_of (calls_from 0 cs) ≡ before ++ entry ∷ [] → at ≡ entry
latest_at cs at (Asked hashes reply) here asked rest before entry ends =
    let e = ends_at 0 at cs hashes reply here rest in
    omega (arith, same_last e.0 before (0 + at) entry (sym e.1 ∙ ends))
latest_at cs at (Registered leaves next) here asked rest before entry ends = absurd (asked tt)

pub none_latest : (cs : List LoggedCall) → AllByRecursion IsOther cs → (before : List ℕ) (entry : ℕ) → entries_of (calls_from 0 cs) ≡ before ++ entry ∷ [] → ⊥
none_latest cs others before entry ends = no_entry before entry (sym (no_entries 0 cs others) ∙ ends)

-- one more call of a whole log
pub logged : (cs : List LoggedCall) (c : LoggedCall) → calls_from 0 (cs ++ c ∷ []) ≡ calls_from 0 cs ++ call_at (length cs) c ∷ []
logged cs c = let same : 0 + length cs ≡ length cs = omega arith in calls_from-push 0 cs c ∙ ap (λ (m : ℕ). calls_from 0 cs ++ call_at m c ∷ []) same

-- what a query adds
pub asked_none : (hashes : List (List ℕ)) (entry : ℕ) (reply : Option ℕ) → length hashes ≡ 0 → asked entry hashes reply ≡ []
asked_none [] entry reply is = refl
asked_none (h ∷ hs) entry reply is = absurd cc

pub asked_one : (hashes : List (List ℕ)) (entry : ℕ) (reply : Option ℕ) → 0 < length hashes → asked entry hashes reply ≡ AskedCall entry (take (found_count reply + 1) hashes) reply ∷ []
asked_one [] entry reply some = absurd (omega (arith, some))
asked_one (h ∷ hs) entry reply some = refl

pub nothing_added : (calls : List Call) (hashes : List (List ℕ)) (entry : ℕ) (reply : Option ℕ) → length hashes ≡ 0 → calls ≡ calls ++ asked entry hashes reply
nothing_added calls hashes entry reply is = sym (append-nil calls) ∙ ap (λ (l : List Call). calls ++ l) (sym (asked_none hashes entry reply is))

-- a list that is not empty, by the test of its length
pub some_length : (hashes : List (List ℕ)) → {b : Bool} → b ≡ (length hashes == 0) → b ≡ false → 0 < length hashes
some_length [] {b} is other = absurd (true≢false (sym is ∙ other))
some_length (h ∷ hs) {b} is other = omega arith
