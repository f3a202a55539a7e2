-- The first boundary within bytes: when it is found, and what it means for bytes that follow.
use Rattle.std.proofs.Common.{◌≡◌, ◌∙◌, ℕ, zero, suc, ◌+◌, ◌-◌, ◌<◌, ◌≤◌, Bool, true, false, if◌then◌else◌, List, [], ◌++◌, length, min, leb, Option, Some, None, unwrap_or, refl, sym, ap, inl, inr, arith, length-append}
use Rattle.std.proofs.lemmas.List.{take-append-le}
use Rattle.std.proofs.lemmas.Bool.{cases_lt, le-leb, leb-false, leb-true}
use Rattle.std.proofs.lemmas.Option.{same_Some}
use Rattle.std.specs.Option.{option_or}
use Rattle.xet_base.specs.Pieces.{first_of}
use Rattle.xet_base.specs.theorems.FirstOf.{first_of_all, first_of_here, first_of_none}
use Rattle.xet_cut.specs.declared.limits.LimitSettings.{LimitSettings}
use Rattle.xet_cut.specs.Chunking.{first_chunk_len, may_end}
use Rattle.xet_cut.specs.Streams.{boundary_in}

-- no boundary is within the bytes
pub record HasNoBoundary (s : LimitSettings) (bs : List ℕ) : Type 0 where
  pub short : length bs < s.maximum_chunk
  pub none : (k : ℕ) → s.minimum_chunk ≤ k → k ≤ length bs → may_end s bs k ≡ false

-- the first boundary is after k bytes
pub record IsFirstBoundary (s : LimitSettings) (bs : List ℕ) (k : ℕ) : Type 0 where
  pub low : s.minimum_chunk ≤ k
  pub within : k ≤ length bs
  pub high : k ≤ s.maximum_chunk
  pub none : (j : ℕ) → s.minimum_chunk ≤ j → j < k → may_end s bs j ≡ false
  pub ends : k < s.maximum_chunk → may_end s bs k ≡ true

-- the number found, and that none before it passes
pub record IsFirstOf (p : ℕ → Bool) (k n m : ℕ) : Type 0 where
  pub low : k ≤ m
  pub high : m < k + n
  pub here : p m ≡ true
  pub none : (j : ℕ) → k ≤ j → j < m → p j ≡ false

pub first_of_found : (p : ℕ → Bool) (k n m : ℕ) → first_of p k n ≡ Some m → IsFirstOf p k n m
unfolding first_of
first_of_found p k zero m found = absurd (cc found)
first_of_found p k (suc n) m found = by_test (first_of_found p (suc k) n m) (p k) refl found
  where
    by_test : (first_of p (suc k) n ≡ Some m → IsFirstOf p (suc k) n m) → (b : Bool) → p k ≡ b → elim b as (λ _. Option ℕ) [ true ↦ Some k | false ↦ first_of p (suc k) n ] ≡ Some m → IsFirstOf p k (suc n) m
    by_test more true test e =
        let same : k ≡ m = same_Some _ _ e in
        record { low = omega arith; high = omega arith; here = rw (sym same) test; none = λ j low high. absurd (omega arith) }
    by_test more false test e =
        let later = more e in
        record {
          low = omega arith;
          high = omega arith;
          here = later.here;
          none = λ j low high. elim (cases_lt k j) [
            | inl after ↦ later.none j (omega arith) high
            | inr at ↦
                let same : j ≡ k = omega arith in rw same test
          ];
        }

-- bytes that follow don't matter
pub may_end-append : (s : LimitSettings) (bs rest : List ℕ) (k : ℕ) → k ≤ length bs → may_end s (bs ++ rest) k ≡ may_end s bs k
unfolding may_end
may_end-append s bs rest k within = rw (take-append-le k bs rest within) refl

pub is_first-append : {s : LimitSettings} {k : ℕ} (bs rest : List ℕ) → IsFirstBoundary s bs k → IsFirstBoundary s (bs ++ rest) k
is_first-append {s} {k} bs rest f = record {
  low = f.low;
  within = omega (arith, f.within, length-append bs rest);
  high = f.high;
  none = λ j low high. may_end-append s bs rest j (omega (arith, f.within)) ∙ f.none j low high;
  ends = λ below. may_end-append s bs rest k f.within ∙ f.ends below;
}

-- the first boundary is found
pub first_found : (s : LimitSettings) (bs : List ℕ) (k : ℕ) → IsFirstBoundary s bs k → boundary_in s bs ≡ Some k
unfolding boundary_in
first_found s bs k f = elim (cases_lt k s.maximum_chunk) [
  | inl below ↦
      let found = first_of_here (may_end s bs) s.minimum_chunk (min s.maximum_chunk (length bs) + 1 - s.minimum_chunk) k f.low (omega (arith, f.low, f.within)) f.none (f.ends below) in
      rw found refl
  | inr at ↦
      let same : k ≡ s.maximum_chunk = omega (arith, f.high) in
      at_maximum (may_end s bs k) refl same
]
  where
    at_maximum : (b : Bool) → may_end s bs k ≡ b → k ≡ s.maximum_chunk → boundary_in s bs ≡ Some k
    at_maximum true test same =
        let found = first_of_here (may_end s bs) s.minimum_chunk (min s.maximum_chunk (length bs) + 1 - s.minimum_chunk) k f.low (omega (arith, f.low, f.within)) f.none test in
        rw found refl
    at_maximum false test same =
        let none = first_of_none (may_end s bs) s.minimum_chunk (min s.maximum_chunk (length bs) + 1 - s.minimum_chunk)
        (λ j low high. elim (cases_lt j k) [ inl before ↦ f.none j low before | inr here ↦ let e : j ≡ k = omega arith in rw e test ]) in
        rw (none, le-leb s.maximum_chunk (length bs) (omega (arith, f.within))) (ap Some (sym same))

-- no boundary is found
pub none_found : (s : LimitSettings) (bs : List ℕ) → HasNoBoundary s bs → boundary_in s bs ≡ None
unfolding boundary_in
none_found s bs n =
    let none = first_of_none (may_end s bs) s.minimum_chunk (min s.maximum_chunk (length bs) + 1 - s.minimum_chunk) (λ j low high. n.none j low (omega arith)) in
    rw none (past (leb s.maximum_chunk (length bs)) refl)
  where
    past : (b : Bool) → leb s.maximum_chunk (length bs) ≡ b → (if b then Some s.maximum_chunk else None) ≡ None
    past true test = absurd (omega (arith, n.short, leb-true _ _ test))
    past false test = refl

-- where none is found, there is none
pub is_none : (s : LimitSettings) (bs : List ℕ) → boundary_in s bs ≡ None → HasNoBoundary s bs
unfolding boundary_in
is_none s bs found = by_first (first_of (may_end s bs) s.minimum_chunk (min s.maximum_chunk (length bs) + 1 - s.minimum_chunk)) refl found
  where
    by_length : (b : Bool) → leb s.maximum_chunk (length bs) ≡ b → (if b then Some s.maximum_chunk else None) ≡ None → length bs < s.maximum_chunk
    by_length true test e = absurd (cc e)
    by_length false test e = leb-false _ _ test

    by_first : (o : Option ℕ) → first_of (may_end s bs) s.minimum_chunk (min s.maximum_chunk (length bs) + 1 - s.minimum_chunk) ≡ o
        → option_or o (if leb s.maximum_chunk (length bs) then Some s.maximum_chunk else None) ≡ None → HasNoBoundary s bs
    by_first (Some m) first e = absurd (cc e)
    by_first None first e =
        let short = by_length (leb s.maximum_chunk (length bs)) refl e in
        record { short = short; none = λ k low high. first_of_all (may_end s bs) s.minimum_chunk _ first k low (omega arith) }

-- what is found is the first
pub is_first : (s : LimitSettings) (bs : List ℕ) (k : ℕ) → s.minimum_chunk ≤ s.maximum_chunk → boundary_in s bs ≡ Some k → IsFirstBoundary s bs k
unfolding boundary_in
is_first s bs k order found = by_first (first_of (may_end s bs) s.minimum_chunk (min s.maximum_chunk (length bs) + 1 - s.minimum_chunk)) refl found
  where
    by_length : (b : Bool) → leb s.maximum_chunk (length bs) ≡ b → (if b then Some s.maximum_chunk else None) ≡ Some k → (s.maximum_chunk ≤ length bs) × (s.maximum_chunk ≡ k)
    by_length true test e = (leb-true _ _ test, same_Some _ _ e)
    by_length false test e = absurd (cc e)

    by_first : (o : Option ℕ) → first_of (may_end s bs) s.minimum_chunk (min s.maximum_chunk (length bs) + 1 - s.minimum_chunk) ≡ o
        → option_or o (if leb s.maximum_chunk (length bs) then Some s.maximum_chunk else None) ≡ Some k → IsFirstBoundary s bs k
    by_first (Some m) first e =
        let same : m ≡ k = same_Some _ _ e in
        let f = first_of_found (may_end s bs) s.minimum_chunk _ m first in
        record {
          low = omega (arith, f.low);
          within = omega (arith, f.high);
          high = omega (arith, f.high);
          none = λ j low high. f.none j low (omega arith);
          ends = λ below. rw (sym same) f.here;
        }
    by_first None first e =
        let at = by_length (leb s.maximum_chunk (length bs)) refl e in
        record {
          low = omega (arith, at.1);
          within = omega (arith, at.0, at.1);
          high = omega (arith, at.1);
          none = λ j low high. first_of_all (may_end s bs) s.minimum_chunk _ first j low (omega (arith, at.0, at.1));
          ends = λ below. absurd (omega (arith, at.1));
        }

-- the first chunk ends at the first boundary, or with the bytes
pub first_chunk_len_is : (s : LimitSettings) (bs : List ℕ) → first_chunk_len s bs ≡ unwrap_or (boundary_in s bs) (length bs)
unfolding first_chunk_len boundary_in
first_chunk_len_is s bs = by_first (first_of (may_end s bs) s.minimum_chunk (min s.maximum_chunk (length bs) + 1 - s.minimum_chunk))
  where
    by_length : (b : Bool) → leb s.maximum_chunk (length bs) ≡ b → min s.maximum_chunk (length bs) ≡ unwrap_or (if b then Some s.maximum_chunk else None) (length bs)
    by_length true test = omega (arith, leb-true _ _ test)
    by_length false test = omega (arith, leb-false _ _ test)

    by_first : (o : Option ℕ) → unwrap_or o (min s.maximum_chunk (length bs))
        ≡ unwrap_or (option_or o (if leb s.maximum_chunk (length bs) then Some s.maximum_chunk else None)) (length bs)
    by_first (Some m) = refl
    by_first None = by_length (leb s.maximum_chunk (length bs)) refl

-- none is in no bytes
pub none_in_nothing : (s : LimitSettings) → 1 ≤ s.minimum_chunk → s.minimum_chunk < s.maximum_chunk → boundary_in s [] ≡ None
none_in_nothing s some order = none_found s [] record { short = omega arith; none = λ k low high. absurd (omega (arith, high)) }
