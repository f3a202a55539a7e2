-- The last query of a history.
use Rattle.std.proofs.Common.{◌≡◌, ◌≢◌, ◌∙◌, ◌⊎◌, inl, inr, ℕ, suc, zero, ◌+◌, ◌<◌, ◌≤◌, List, [], ◌∷◌, ◌++◌, length, Option, Some, refl, sym, ap, subst, append_assoc, length-append, arith}
use Rattle.std.specs.List.{AllByRecursion, slice_get}
use Rattle.std.proofs.lemmas.Bool.{cases_lt}
use Rattle.std.proofs.lemmas.Option.{same_Some}
use Rattle.xet_choices.specs.Calls.{entries_of}
use Rattle.xet_history.specs.declared.entry.Entry.{Entry}
use Rattle.xet_history.specs.declared.entry.Entry.TheVariants.{Complete, Fault, Flush, Query, Register}
use Rattle.xet_history.specs.declared.entry.Run.{Run}
use Rattle.xet_store.specs.Holders.{calls_in, numbered}
use Rattle.xet_store.proofs.Holding.{get_seam}

abbrev pub IsNoQuery : Entry → Type 0
IsNoQuery (Query pass hashes reply) = ⊥
IsNoQuery (Register pass chunks next added) = Unit {0}
IsNoQuery (Complete pass file added) = Unit {0}
IsNoQuery (Flush pass shard) = Unit {0}
IsNoQuery (Fault pass kind) = Unit {0}

-- no query from an index on
abbrev pub NoneFrom : List Entry → ℕ → Type 0
NoneFrom es n = (i : ℕ) (x : Entry) → n ≤ i → slice_get es i ≡ Some x → IsNoQuery x

-- The last query of a history has this index.
record IsLast (es : List Entry) (entry : ℕ) : Type 0 where
  query : Entry
  there : slice_get es entry ≡ Some query
  is : IsNoQuery query → ⊥
  none : NoneFrom es (entry + 1)

all_at : (es : List Entry) → AllByRecursion IsNoQuery es → (i : ℕ) (x : Entry) → slice_get es i ≡ Some x → IsNoQuery x
all_at [] all i x at = absurd (cc at)
all_at (e ∷ es) all zero x at = let same : e ≡ x = cc at in subst IsNoQuery same all.0
all_at (e ∷ es) all (suc i) x at = all_at es all.1 i x at

none_after : (xs : List Entry) (y : Entry) (ys : List Entry) → AllByRecursion IsNoQuery ys → NoneFrom (xs ++ y ∷ ys) (length xs + 1)
none_after [] y ys all zero x le at = absurd (omega (arith, le))
none_after [] y ys all (suc i) x le at = all_at ys all i x at
none_after (z ∷ xs) y ys all zero x le at = absurd (omega (arith, le))
none_after (z ∷ xs) y ys all (suc i) x le at = none_after xs y ys all i x (omega (arith, le)) at

-- without entries of queries there are none
no_queries : (n : ℕ) (es : List Entry) → entries_of (calls_in (numbered n es)) ≡ [] → AllByRecursion IsNoQuery es
no_queries n [] none = tt
no_queries n (Query pass hashes reply ∷ es) none = absurd (cc none)
no_queries n (Register pass chunks next added ∷ es) none = (tt, no_queries (suc n) es none)
no_queries n (Complete pass file added ∷ es) none = (tt, no_queries (suc n) es none)
no_queries n (Flush pass shard ∷ es) none = (tt, no_queries (suc n) es none)
no_queries n (Fault pass kind ∷ es) none = (tt, no_queries (suc n) es none)

no_entry : (before : List ℕ) (entry : ℕ) → [] ≡ before ++ entry ∷ [] → ⊥
no_entry [] entry is = cc is
no_entry (b ∷ before) entry is = cc is

-- The last one of the entries of queries is this.
abbrev Ends : ℕ → List Entry → List ℕ → ℕ → Type 0
Ends n es before entry = entries_of (calls_in (numbered n es)) ≡ before ++ entry ∷ []

-- It is among the rest.
further : (front es : List Entry) (e : Entry) (before : List ℕ) (entry : ℕ) → Ends (suc (length front)) es before entry → Ends (length (front ++ e ∷ [])) es before entry
further front es e before entry is =
    let more : suc (length front) ≡ length (front ++ e ∷ []) = omega (arith, length-append front (e ∷ [])) in
    subst (λ (n : ℕ). Ends n es before entry) more is

joined : (front es : List Entry) (e : Entry) (entry : ℕ) → IsLast ((front ++ e ∷ []) ++ es) entry → IsLast (front ++ e ∷ es) entry
joined front es e entry is = subst (λ (l : List Entry). IsLast l entry) (append_assoc front (e ∷ []) es) is

-- It is the first one of these.
first_last : (front es : List Entry) (pass : ℕ) (hashes : List (List ℕ)) (reply : Option Run) (entry : ℕ) → length front ∷ entries_of (calls_in (numbered (suc (length front)) es)) ≡ entry ∷ [] → IsLast (front ++ Query pass hashes reply ∷ es) entry
first_last front es pass hashes reply entry is =
    let same : length front ≡ entry = cc is in
    let none : entries_of (calls_in (numbered (suc (length front)) es)) ≡ [] = cc is in
    subst (IsLast (front ++ Query pass hashes reply ∷ es)) same (record {
      query = Query pass hashes reply;
      there = get_seam front (Query pass hashes reply) es;
      is = λ bad. bad;
      none = none_after front (Query pass hashes reply) es (no_queries (suc (length front)) es none);
    })

last_at : (front es : List Entry) (before : List ℕ) (entry : ℕ) → Ends (length front) es before entry → IsLast (front ++ es) entry
last_at front [] before entry is = absurd (no_entry before entry is)
last_at front (Query pass hashes reply ∷ es) [] entry is = first_last front es pass hashes reply entry is
last_at front (Query pass hashes reply ∷ es) (b ∷ before) entry is =
    let e = Query pass hashes reply in
    let rest : Ends (suc (length front)) es before entry = cc is in
    joined front es e entry (last_at (front ++ e ∷ []) es before entry (further front es e before entry rest))
last_at front (Register pass chunks next added ∷ es) before entry is =
    let e = Register pass chunks next added in joined front es e entry (last_at (front ++ e ∷ []) es before entry (further front es e before entry is))
last_at front (Complete pass file added ∷ es) before entry is = let e = Complete pass file added in joined front es e entry (last_at (front ++ e ∷ []) es before entry (further front es e before entry is))
last_at front (Flush pass shard ∷ es) before entry is = let e = Flush pass shard in joined front es e entry (last_at (front ++ e ∷ []) es before entry (further front es e before entry is))
last_at front (Fault pass kind ∷ es) before entry is = let e = Fault pass kind in joined front es e entry (last_at (front ++ e ∷ []) es before entry (further front es e before entry is))

-- A history has its last query at this index: no query follows, and there is one.
pub last_is : (history older newer : List Entry) (before : List ℕ) (entry : ℕ) → history ≡ older ++ newer → entries_of (calls_in (numbered (length older) newer)) ≡ before ++ entry ∷ []
    → (at : ℕ) (x : Entry) → slice_get history at ≡ Some x → (IsNoQuery x → ⊥) → NoneFrom history (at + 1) → at ≡ entry
last_is history older newer before entry is ends at x there query none = go (cases_lt at entry) (cases_lt entry at)
  where
    l : IsLast history entry
    l = subst (λ (es : List Entry). IsLast es entry) (sym is) (last_at older newer before entry ends)

    go : (at < entry) ⊎ (entry ≤ at) → (entry < at) ⊎ (at ≤ entry) → at ≡ entry
    go (inl less) _ = absurd (l.is (none entry l.query (omega (arith, less)) l.there))
    go (inr le) (inl less) = absurd (query (l.none at x (omega (arith, less)) there))
    go (inr le) (inr ge) = omega (arith, le, ge)

pub last_none : (history older newer : List Entry) (before : List ℕ) (entry : ℕ) → history ≡ older ++ newer → entries_of (calls_in (numbered (length older) newer)) ≡ before ++ entry ∷ [] → NoneFrom history 0 → ⊥
last_none history older newer before entry is ends none =
    let l = subst (λ (es : List Entry). IsLast es entry) (sym is) (last_at older newer before entry ends) in l.is (none entry l.query (omega arith) l.there)

-- one index more is known
pub none_more : (history : List Entry) (at : ℕ) (x : Entry) → slice_get history at ≡ Some x → IsNoQuery x → NoneFrom history (at + 1) → NoneFrom history at
none_more history at x there other none i y le here = go (cases_lt at i)
  where
    go : (at < i) ⊎ (i ≤ at) → IsNoQuery y
    go (inl less) = none i y (omega (arith, less)) here
    go (inr ge) =
        let same : i ≡ at = omega (arith, le, ge) in
        subst IsNoQuery (same_Some x y (sym there ∙ ap (slice_get history) (sym same) ∙ here)) other

-- an entry that is no query
pub no_query : (x : Entry) → ((pass : ℕ) (hs : List (List ℕ)) (r : Option Run) → x ≢ Query pass hs r) → IsNoQuery x
no_query (Query pass hs r) other = other pass hs r refl
no_query (Register pass chunks next added) other = tt
no_query (Complete pass file added) other = tt
no_query (Flush pass shard) other = tt
no_query (Fault pass kind) other = tt
