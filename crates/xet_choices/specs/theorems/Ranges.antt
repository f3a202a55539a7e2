-- Segments of a plan: where a chunk lies, one segment at a time, and that this stays as the segments grow.
use Rattle.std.proofs.Common.{◌≡◌, ◌∙◌, ℕ, zero, suc, ◌+◌, ◌-◌, ◌≤◌, ◌<◌, true, false, inl, inr, List, [], ◌∷◌, ◌++◌, length, refl, sym, ap, arith}
use Rattle.std.specs.Prelude.{nat_le}
use Rattle.std.proofs.lemmas.Bool.{cases_lt}
use Rattle.std.proofs.lemmas.Bool.Decides.{nat_tests}
use Rattle.xet_choices.specs.Ranges.{Grown, HaveChunks, count_at, ranges, seg_of, starts, total}

is_le : (m n : ℕ) → m ≤ n → nat_le m n ≡ true
is_le m n h = grind (arith, nat_tests)

not_le : (m n : ℕ) → n < m → nat_le m n ≡ false
not_le m n h = grind (arith, nat_tests)

sums : (c : ℕ) (cs : List ℕ) → total (c ∷ cs) ≡ c + total cs
sums c cs = refl

pub total-append : (cs ds : List ℕ) → total (cs ++ ds) ≡ total cs + total ds
total-append [] ds = omega arith
total-append (c ∷ cs) ds = omega (arith, total-append cs ds)

-- ---- by the segment in which the chunk lies

pub ranges_past : (c : ℕ) (cs : List ℕ) (n : ℕ) → 0 < n → c ≤ n → ranges (c ∷ cs) n ≡ c ∷ ranges cs (n - c)
unfolding ranges
ranges_past c cs zero some le = absurd (omega arith)
ranges_past c cs (suc n) some le = rw (is_le c (suc n) le, ranges) refl

pub ranges_in : (c : ℕ) (cs : List ℕ) (n : ℕ) → 0 < n → n < c → ranges (c ∷ cs) n ≡ n ∷ []
unfolding ranges
ranges_in c cs zero some lt = absurd (omega arith)
ranges_in c cs (suc n) some lt = rw (not_le c (suc n) lt, ranges) refl

pub ranges_none : (cs : List ℕ) → ranges cs 0 ≡ []
unfolding ranges
ranges_none [] = refl
ranges_none (c ∷ cs) = refl

pub seg_past : (c : ℕ) (cs : List ℕ) (j : ℕ) → c ≤ j → seg_of (c ∷ cs) j ≡ suc (seg_of cs (j - c))
unfolding seg_of
seg_past c cs j le = rw (is_le c j le, seg_of) refl

pub seg_in : (c : ℕ) (cs : List ℕ) (j : ℕ) → j < c → seg_of (c ∷ cs) j ≡ 0
unfolding seg_of
seg_in c cs j lt = rw (not_le c j lt, seg_of) refl

pub starts_past : (c : ℕ) (cs : List ℕ) (j : ℕ) → 0 < j → c ≤ j → starts (c ∷ cs) j ≡ starts cs (j - c)
unfolding starts
starts_past c cs zero some le = absurd (omega arith)
starts_past c cs (suc j) some le = rw (is_le c (suc j) le, starts) refl

pub starts_in : (c : ℕ) (cs : List ℕ) (j : ℕ) → 0 < j → j < c → starts (c ∷ cs) j ≡ false
unfolding starts
starts_in c cs zero some lt = absurd (omega arith)
starts_in c cs (suc j) some lt = rw (not_le c (suc j) lt, starts) refl

pub starts_first : (c : ℕ) (cs : List ℕ) → starts (c ∷ cs) 0 ≡ true
unfolding starts
starts_first c cs = refl

-- ---- what stays as the segments grow

pub ranges_stay : (cs ds : List ℕ) → Grown cs ds → (n : ℕ) → n ≤ total cs → ranges ds n ≡ ranges cs n
ranges_stay [] ds g n le = ap (ranges ds) (none n le) ∙ ranges_none ds ∙ sym (ap (ranges []) (none n le) ∙ ranges_none [])
  where
    none : (n : ℕ) → n ≤ 0 → n ≡ 0
    none n le = omega arith
ranges_stay (c ∷ []) [] g n le = absurd g
ranges_stay (c ∷ []) (d ∷ ds) g zero le = ranges_none (d ∷ ds) ∙ sym (ranges_none (c ∷ []))
ranges_stay (c ∷ []) (d ∷ ds) g (suc n) le = elim (cases_lt (suc n) c) [
  | inl lt ↦ ranges_in d ds (suc n) (omega arith) (omega (arith, g)) ∙ sym (ranges_in c [] (suc n) (omega arith) lt)
  | inr ge ↦ elim (cases_lt (suc n) d) [
    | inl lt ↦ ranges_in d ds (suc n) (omega arith) lt ∙ ap (λ (i : ℕ). i ∷ []) (omega arith)
        ∙ sym (ranges_past c [] (suc n) (omega arith) ge ∙ ap (λ (l : List ℕ). c ∷ l) (ap (ranges []) (omega arith) ∙ ranges_none []))
    | inr there ↦ ranges_past d ds (suc n) (omega arith) there ∙ ap (λ (l : List ℕ). d ∷ l) (ap (ranges ds) (omega (arith, g)) ∙ ranges_none ds)
        ∙ ap (λ (i : ℕ). i ∷ []) (omega (arith, g))
        ∙ sym (ranges_past c [] (suc n) (omega arith) ge ∙ ap (λ (l : List ℕ). c ∷ l) (ap (ranges []) (omega arith) ∙ ranges_none []))
  ]
]
ranges_stay (c ∷ e ∷ cs) [] g n le = absurd g
ranges_stay (c ∷ e ∷ cs) (d ∷ ds) g zero le = ranges_none (d ∷ ds) ∙ sym (ranges_none (c ∷ e ∷ cs))
ranges_stay (c ∷ e ∷ cs) (d ∷ ds) g (suc n) le = elim (cases_lt (suc n) c) [
  | inl lt ↦ ranges_in d ds (suc n) (omega arith) (omega (arith, g.0)) ∙ sym (ranges_in c (e ∷ cs) (suc n) (omega arith) lt)
  | inr ge ↦ ranges_past d ds (suc n) (omega arith) (omega (arith, g.0))
      ∙ (λ i. sym g.0 i ∷ ranges ds (suc n - sym g.0 i))
      ∙ ap (λ (l : List ℕ). c ∷ l) (ranges_stay (e ∷ cs) ds g.1 (suc n - c) (omega (arith, le, sums c (e ∷ cs))))
      ∙ sym (ranges_past c (e ∷ cs) (suc n) (omega arith) ge)
]

pub seg_stay : (cs ds : List ℕ) → Grown cs ds → (j : ℕ) → j < total cs → seg_of ds j ≡ seg_of cs j
seg_stay [] ds g j lt = absurd (omega arith)
seg_stay (c ∷ []) [] g j lt = absurd g
seg_stay (c ∷ []) (d ∷ ds) g j lt = seg_in d ds j (omega (arith, g)) ∙ sym (seg_in c [] j (omega arith))
seg_stay (c ∷ e ∷ cs) [] g j lt = absurd g
seg_stay (c ∷ e ∷ cs) (d ∷ ds) g j lt = elim (cases_lt j c) [
  | inl here ↦ seg_in d ds j (omega (arith, g.0)) ∙ sym (seg_in c (e ∷ cs) j here)
  | inr ge ↦ seg_past d ds j (omega (arith, g.0)) ∙ ap (λ (k : ℕ). suc (seg_of ds (j - k))) (sym g.0)
      ∙ ap suc (seg_stay (e ∷ cs) ds g.1 (j - c) (omega (arith, lt, sums c (e ∷ cs)))) ∙ sym (seg_past c (e ∷ cs) j ge)
]

pub starts_stay : (cs ds : List ℕ) → Grown cs ds → (j : ℕ) → j < total cs → starts ds j ≡ starts cs j
starts_stay [] ds g j lt = absurd (omega arith)
starts_stay (c ∷ []) [] g j lt = absurd g
starts_stay (c ∷ []) (d ∷ ds) g zero lt = starts_first d ds ∙ sym (starts_first c [])
starts_stay (c ∷ []) (d ∷ ds) g (suc j) lt =
    starts_in d ds (suc j) (omega arith) (omega (arith, g)) ∙ sym (starts_in c [] (suc j) (omega arith) (omega arith))
starts_stay (c ∷ e ∷ cs) [] g j lt = absurd g
starts_stay (c ∷ e ∷ cs) (d ∷ ds) g zero lt = starts_first d ds ∙ sym (starts_first c (e ∷ cs))
starts_stay (c ∷ e ∷ cs) (d ∷ ds) g (suc j) lt = elim (cases_lt (suc j) c) [
  | inl here ↦ starts_in d ds (suc j) (omega arith) (omega (arith, g.0)) ∙ sym (starts_in c (e ∷ cs) (suc j) (omega arith) here)
  | inr ge ↦ starts_past d ds (suc j) (omega arith) (omega (arith, g.0)) ∙ ap (λ (k : ℕ). starts ds (suc j - k)) (sym g.0)
      ∙ starts_stay (e ∷ cs) ds g.1 (suc j - c) (omega (arith, lt, sums c (e ∷ cs))) ∙ sym (starts_past c (e ∷ cs) (suc j) (omega arith) ge)
]

pub count_grows : (cs ds : List ℕ) → Grown cs ds → (i : ℕ) → count_at cs i ≤ count_at ds i
unfolding count_at
count_grows [] ds g i = omega arith
count_grows (c ∷ []) [] g i = absurd g
count_grows (c ∷ []) (d ∷ ds) g zero = g
count_grows (c ∷ []) (d ∷ ds) g (suc i) = omega arith
count_grows (c ∷ e ∷ cs) [] g i = absurd g
count_grows (c ∷ e ∷ cs) (d ∷ ds) g zero = omega (arith, g.0)
count_grows (c ∷ e ∷ cs) (d ∷ ds) g (suc i) = count_grows (e ∷ cs) ds g.1 i

-- ---- how segments grow

-- not at all
pub grown_none : (cs : List ℕ) → Grown cs cs
grown_none [] = tt
grown_none (c ∷ []) = omega arith
grown_none (c ∷ e ∷ cs) = (refl, grown_none (e ∷ cs))

-- in two steps
pub grown_then : (cs ds es : List ℕ) → Grown cs ds → Grown ds es → Grown cs es
grown_then [] ds es g h = tt
grown_then (c ∷ []) [] es g h = absurd g
grown_then (c ∷ []) (d ∷ []) [] g h = absurd h
grown_then (c ∷ []) (d ∷ []) (e ∷ es) g h = omega (arith, g, h)
grown_then (c ∷ []) (d ∷ d' ∷ ds) [] g h = absurd h
grown_then (c ∷ []) (d ∷ d' ∷ ds) (e ∷ es) g h = omega (arith, g, h.0)
grown_then (c ∷ c' ∷ cs) [] es g h = absurd g
grown_then (c ∷ c' ∷ cs) (d ∷ []) es g h = absurd (not_none c' cs g.1)
  where
    not_none : (c : ℕ) (cs : List ℕ) → Grown (c ∷ cs) [] → ⊥
    not_none c [] g = g
    not_none c (e ∷ cs) g = g
grown_then (c ∷ c' ∷ cs) (d ∷ d' ∷ ds) [] g h = absurd h
grown_then (c ∷ c' ∷ cs) (d ∷ d' ∷ ds) (e ∷ es) g h = (g.0 ∙ h.0, grown_then (c' ∷ cs) (d' ∷ ds) es g.1 h.1)

-- by one segment
pub grown_by : (cs : List ℕ) (k : ℕ) → Grown cs (cs ++ k ∷ [])
grown_by [] k = tt
grown_by (c ∷ []) k = omega arith
grown_by (c ∷ e ∷ cs) k = (refl, grown_by (e ∷ cs) k)

-- by a longer last one
pub grown_last : (cs : List ℕ) (c k : ℕ) → Grown (cs ++ c ∷ []) (cs ++ (c + k) ∷ [])
grown_last [] c k = omega arith
grown_last (d ∷ []) c k = (refl, omega arith)
grown_last (d ∷ e ∷ cs) c k = (refl, grown_last (e ∷ cs) c k)

-- ---- the last segment

-- a chunk of it lies there
pub seg_last : (cs : List ℕ) (c i : ℕ) → i < c → seg_of (cs ++ c ∷ []) (total cs + i) ≡ length cs
seg_last [] c i lt = ap (seg_of (c ∷ [])) (omega arith) ∙ seg_in c [] i lt
seg_last (d ∷ cs) c i lt =
    seg_past d (cs ++ c ∷ []) (total (d ∷ cs) + i) (omega (arith, sums d cs))
    ∙ ap suc (ap (seg_of (cs ++ c ∷ [])) (omega (arith, sums d cs)) ∙ seg_last cs c i lt)

-- it begins with its first chunk alone
pub starts_last : (cs : List ℕ) (c i : ℕ) → i < c → starts (cs ++ c ∷ []) (total cs + i) ≡ true → i ≡ 0
starts_last cs c zero lt is = refl
starts_last [] c (suc i) lt is =
    let here : starts (c ∷ []) (0 + suc i) ≡ false = ap (starts (c ∷ [])) (omega arith) ∙ starts_in c [] (suc i) (omega arith) lt in
    absurd (cc (sym here ∙ is))
starts_last (d ∷ cs) c (suc i) lt is =
    starts_last cs c (suc i) lt (
    ap (starts (cs ++ c ∷ [])) (omega (arith, sums d cs))
    ∙ sym (starts_past d (cs ++ c ∷ []) (total (d ∷ cs) + suc i) (omega arith) (omega (arith, sums d cs)))
    ∙ is
    )

pub starts_new : (cs : List ℕ) (c : ℕ) → HaveChunks cs → starts (cs ++ c ∷ []) (total cs) ≡ true
starts_new [] c some = starts_first c []
starts_new (d ∷ cs) c some =
    starts_past d (cs ++ c ∷ []) (total (d ∷ cs)) (omega (arith, some.0, sums d cs)) (omega (arith, sums d cs))
    ∙ ap (starts (cs ++ c ∷ [])) (omega (arith, sums d cs)) ∙ starts_new cs c some.1

pub count_last : (cs : List ℕ) (c : ℕ) → count_at (cs ++ c ∷ []) (length cs) ≡ c
unfolding count_at
count_last [] c = refl
count_last (d ∷ cs) c = count_last cs c

-- the ranges of all chunks are the segments
pub ranges_all : (cs : List ℕ) → HaveChunks cs → ranges cs (total cs) ≡ cs
ranges_all [] some = ranges_none []
ranges_all (c ∷ cs) some =
    ranges_past c cs (total (c ∷ cs)) (omega (arith, some.0, sums c cs)) (omega (arith, sums c cs))
    ∙ ap (λ (l : List ℕ). c ∷ l) (ap (ranges cs) (omega (arith, sums c cs)) ∙ ranges_all cs some.1)
