-- The run of a query, of rows that are read until one differs.
use Rattle.std.proofs.Common.{◌≡◌, ℕ, zero, suc, ◌+◌, ◌-◌, ◌*◌, ◌≤◌, ◌<◌, Bool, true, false, cond, eqb, List, [], ◌∷◌, drop, get_or, length, take, map, nat_eq, Result, Ok, Err, IfErr, refl, sym, ap, subst, ◌∙◌, arith, inl, inr}
use Rattle.std.proofs.lemmas.Bool.{cases_Bool, eq-eqb, eqb-false, eqb-true, ne_eqb}
use Rattle.std.proofs.lemmas.List.{drop-drop, drop-map, drop_all}
use Rattle.std.specs.Cmp.Lexicographic.{pointwise}
use Rattle.xet_hash.specs.declared.error.Reason.TheVariants.{SectionEntry}
use Rattle.xet_hash.specs.declared.error.StoreError.{StoreError}
use Rattle.xet_hash.specs.declared.error.StoreError.TheVariants as errors
use Rattle.xet_shard_format.specs.declared.row.Row.{Row}
use Rattle.xet_codec.specs.Parsing.{◌>>=◌, GivesUnlessFault}
use Rattle.xet_shard_format.specs.Rows.{row_of, rows_in}
use Rattle.xet_shard.specs.internal.ReaderBytes.{piece_at}
use Rattle.xet_shard.specs.Runs.{agreed, end_of_chunk}
use Rattle.xet_shard.proofs.Faulting.{fault_on, piece_there}
use Rattle.xet_shard_format.specs.theorems.RowList.{row_first, row_left, rows_drop, rows_first, rows_prefix}
use Rattle.xet_shard_format.specs.theorems.RowLaws.{ok_is}
use Rattle.xet_shard.proofs.Running.{rest_all}
use Rattle.xet_shard_format.specs.theorems.Steps.{left, lent_at}

abbrev pub Agreed : Type 0
Agreed = Result (ℕ × ℕ) StoreError

-- so many agreed before
abbrev pub plus : ℕ → Agreed → Agreed
plus n r = r >>= λ x. Ok (n + x.0, x.1)

pub plus_none : (r : Agreed) → plus 0 r ≡ r
plus_none (Ok x) =
    let e : 0 + x.0 ≡ x.0 = omega arith in
    let made : ℕ → Agreed = λ n. Ok (n, x.1) in
    ap made e
plus_none (Err e) = refl

plus_plus : (n m : ℕ) (r : Agreed) → plus n (plus m r) ≡ plus (n + m) r
plus_plus n m (Ok x) =
    let e : n + (m + x.0) ≡ n + m + x.0 = omega arith in
    let made : ℕ → Agreed = λ k. Ok (k, x.1) in
    ap made e
plus_plus n m (Err e) = refl

plus_one : (r : Agreed) → (r >>= λ x. Ok (suc x.0, x.1)) ≡ plus 1 r
plus_one (Ok x) =
    let e : suc x.0 ≡ 1 + x.0 = omega arith in
    let made : ℕ → Agreed = λ k. Ok (k, x.1) in
    ap made e
plus_one (Err e) = refl

no_rows : (q : List (List ℕ)) (end at : ℕ) → agreed q end at [] ≡ Ok (0, at)
unfolding agreed
no_rows [] end at = refl
no_rows (h ∷ hs) end at = refl

-- one that agreed before so many others
one_plus : (n : ℕ) (r : Agreed) → (plus n r >>= λ x. Ok (suc x.0, x.1)) ≡ plus (suc n) r
one_plus n (Ok x) =
    let e : suc (n + x.0) ≡ suc n + x.0 = omega arith in
    let made : ℕ → Agreed = λ k. Ok (k, x.1) in
    ap made e
one_plus n (Err e) = refl

-- what comes after the first rows, where all of them agreed
abbrev onward : List (List ℕ) → ℕ → ℕ → List Row → ℕ × ℕ → Agreed
onward q end k rows n = cond (eqb n.0 k) (plus k (agreed (drop k q) end n.1 (drop k rows))) (Ok n)

eqb_suc : (n k : ℕ) → eqb (suc n) (suc k) ≡ eqb n k
eqb_suc n k = elim (cases_Bool (eqb n k)) [
  | inl e ↦ eq-eqb (suc n) (suc k) (ap suc (eqb-true n k e)) ∙ sym e
  | inr e ↦ ne_eqb (suc n) (suc k) (λ is. eqb-false n k e (omega (arith, is))) ∙ sym e
]

-- the first rows are looked at before the others
agreed_cut : (k : ℕ) (q : List (List ℕ)) (end at : ℕ) (rows : List Row) → agreed q end at rows ≡ (agreed q end at (take k rows) >>= onward q end k rows)
unfolding agreed
agreed_cut zero [] end at rows = refl
agreed_cut zero (h ∷ hs) end at rows = sym (plus_none (agreed (h ∷ hs) end at rows))
agreed_cut (suc k) [] end at rows = rw (ne_eqb 0 (suc k) (omega arith)) refl
agreed_cut (suc k) (h ∷ hs) end at [] = rw (ne_eqb 0 (suc k) (omega arith)) refl
agreed_cut (suc k) (h ∷ hs) end at (r ∷ rows) = by (λ to. agreed_cut k hs end to rows) (pointwise nat_eq h r.hash) (end_of_chunk r at end)
  where
    one : Agreed → Agreed
    one x = x >>= λ n. Ok (suc n.0, n.1)

    settled : (to : ℕ) (n : ℕ × ℕ) (b : Bool) → one (cond b (plus k (agreed (drop k hs) end n.1 (drop k rows))) (Ok n)) ≡ cond b (plus (suc k) (agreed (drop k hs) end n.1 (drop k rows))) (Ok (suc n.0, n.1))
    settled to n true = one_plus k (agreed (drop k hs) end n.1 (drop k rows))
    settled to n false = refl

    step : (to : ℕ) (x : Agreed) → one (x >>= onward hs end k rows) ≡ (one x >>= onward (h ∷ hs) end (suc k) (r ∷ rows))
    step to (Ok n) = settled to n (eqb n.0 k) ∙ ap (λ (b : Bool). cond b (plus (suc k) (agreed (drop k hs) end n.1 (drop k rows))) (Ok (suc n.0, n.1))) (sym (eqb_suc n.0 k))
    step to (Err e) = refl

    by : ((to : ℕ) → agreed hs end to rows ≡ (agreed hs end to (take k rows) >>= onward hs end k rows)) → (b : Bool) (c : Result ℕ StoreError) → (cond b (c >>= λ to. one (agreed hs end to rows)) (Ok (0, at))) ≡ (cond b (c >>= λ to. one (agreed hs end to (take k rows))) (Ok (0, at)) >>= onward (h ∷ hs) end (suc k) (r ∷ rows))
    by cut true (Ok to) = ap one (cut to) ∙ step to (agreed hs end to (take k rows))
    by cut true (Err e) = refl
    by cut false c = rw (ne_eqb 0 (suc k) (omega arith)) refl

-- ---- a loop over rows: so far all agreed

module _ (ks : List (List ℕ)) (end : ℕ) (rows : List Row) (total : Agreed) where
  abbrev pub SoFar : ℕ → ℕ → Type 0
  SoFar n to = plus n (agreed (drop n ks) end to (drop n rows)) ≡ total

  ends : (n to : ℕ) → plus n (Ok (0, to)) ≡ total → total ≡ Ok (n, to)
  ends n to so_far =
      let e : n + 0 ≡ n = omega arith in
      let made : ℕ → Agreed = λ k. Ok (k, to) in
      sym so_far ∙ ap made e

  pub row_agrees : (n to next : ℕ) (k : List ℕ) (r : Row) → drop n ks ≡ k ∷ drop (n + 1) ks → drop n rows ≡ r ∷ drop (n + 1) rows → pointwise nat_eq k r.hash ≡ true → end_of_chunk r to end ≡ Ok next → SoFar n to → SoFar (n + 1) next
  unfolding agreed
  row_agrees n to next k r is_k is_r same ends so_far =
      let others : Agreed = agreed (drop (n + 1) ks) end next (drop (n + 1) rows) in
      let first : agreed (drop n ks) end to (drop n rows) ≡ plus 1 others = (λ i. agreed (is_k i) end to (is_r i)) ∙ rw (same, ends) (plus_one others) in
      sym (plus_plus n 1 others) ∙ sym (ap (plus n) first) ∙ so_far

  pub row_differs : (n to : ℕ) (k : List ℕ) (r : Row) → drop n ks ≡ k ∷ drop (n + 1) ks → drop n rows ≡ r ∷ drop (n + 1) rows → pointwise nat_eq k r.hash ≡ false → SoFar n to → total ≡ Ok (n, to)
  unfolding agreed
  row_differs n to k r is_k is_r other so_far =
      let first : agreed (drop n ks) end to (drop n rows) ≡ Ok (0, to) = (λ i. agreed (is_k i) end to (is_r i)) ∙ rw other refl in
      ends n to (sym (ap (plus n) first) ∙ so_far)

  pub row_refused : (n to : ℕ) (e : StoreError) (k : List ℕ) (r : Row) → drop n ks ≡ k ∷ drop (n + 1) ks → drop n rows ≡ r ∷ drop (n + 1) rows → pointwise nat_eq k r.hash ≡ true → end_of_chunk r to end ≡ Err e → SoFar n to → total ≡ Err e
  unfolding agreed
  row_refused n to e k r is_k is_r same refused so_far =
      let first : agreed (drop n ks) end to (drop n rows) ≡ Err e = (λ i. agreed (is_k i) end to (is_r i)) ∙ rw (same, refused) refl in
      sym so_far ∙ ap (plus n) first

  pub rows_end : (n to : ℕ) → length rows ≤ n → SoFar n to → total ≡ Ok (n, to)
  rows_end n to le so_far = ends n to (sym (ap (plus n) (ap (agreed (drop n ks) end to) (drop_all n rows le) ∙ no_rows (drop n ks) end to)) ∙ so_far)

  pub query_ends : (n to : ℕ) → length ks ≤ n → SoFar n to → total ≡ Ok (n, to)
  unfolding agreed
  query_ends n to le so_far = ends n to (sym (ap (plus n) (ap (λ (qs : List (List ℕ)). agreed qs end to (drop n rows)) (drop_all n ks le))) ∙ so_far)

  -- the same of a block of rows
  module _ (n to k : ℕ) (so_far : SoFar n to) where
    cut : agreed (drop n ks) end to (drop n rows) ≡ (agreed (drop n ks) end to (take k (drop n rows)) >>= onward (drop n ks) end k (drop n rows))
    cut = agreed_cut k (drop n ks) end to (drop n rows)

    pub block_agrees : (found next : ℕ) → agreed (drop n ks) end to (take k (drop n rows)) ≡ Ok (found, next) → found ≡ k → SoFar (n + found) next
    block_agrees found next is all =
        let rest : agreed (drop n ks) end to (drop n rows) ≡ plus k (agreed (drop (n + k) ks) end next (drop (n + k) rows)) =
        cut ∙ rw is (rw (eq-eqb found k all) (λ i. plus k (agreed (drop-drop k n ks i) end next (drop-drop k n rows i)))) in
        (λ i. plus (n + all i) (agreed (drop (n + all i) ks) end next (drop (n + all i) rows))) ∙ sym (plus_plus n k (agreed (drop (n + k) ks) end next (drop (n + k) rows))) ∙ sym (ap (plus n) rest) ∙ so_far

    pub block_differs : (found next : ℕ) → agreed (drop n ks) end to (take k (drop n rows)) ≡ Ok (found, next) → found < k → total ≡ Ok (n + found, next)
    block_differs found next is below =
        let rest : agreed (drop n ks) end to (drop n rows) ≡ Ok (found, next) = cut ∙ rw is (rw (ne_eqb found k (omega (arith, below))) refl) in
        sym so_far ∙ ap (plus n) rest

    pub block_fails : (e : StoreError) → GivesUnlessFault {X = ℕ × ℕ} (λ x. x) (Err e) (agreed (drop n ks) end to (take k (drop n rows))) → GivesUnlessFault {X = ℕ × ℕ} (λ x. x) (Err e) total
    block_fails e gives =
        let first = fault_on {A = ℕ × ℕ} {B = ℕ × ℕ} (λ x. x) (λ x. x) e (agreed (drop n ks) end to (take k (drop n rows))) (onward (drop n ks) end k (drop n rows)) gives in
        let all = subst (λ (r : Agreed). GivesUnlessFault {X = ℕ × ℕ} (λ x. x) (Err e) r) (sym cut) first in
        subst (λ (r : Agreed). GivesUnlessFault {X = ℕ × ℕ} (λ x. x) (Err e) r) so_far (fault_on {A = ℕ × ℕ} {B = ℕ × ℕ} (λ x. x) (λ x. x) e (agreed (drop n ks) end to (drop n rows)) (λ x. Ok (n + x.0, x.1)) all)

-- the rows of a block, among all of them
pub block_rows : (some n count at : ℕ) (whole : List ℕ) → n + some ≤ count → rows_in some (drop (at + 48 * n) whole) ≡ take some (drop n (rows_in count (drop at whole)))
block_rows some n count at whole le =
    ap (rows_in some) (sym (drop-drop (48 * n) at whole)) ∙ rows_prefix some (count - n) (drop (48 * n) (drop at whole)) (omega arith) ∙ ap (take some) (rows_drop n count (drop at whole) (omega arith))

-- ---- what the loop reads next

-- the next hash of the query, as it is kept
pub query_left : (keep : List ℕ → List ℕ) (query : List (List ℕ)) (n : ℕ) (q k : List ℕ) → n < length query → q ≡ get_or query n q → k ≡ keep q → drop n (map keep query) ≡ k ∷ drop (n + 1) (map keep query)
query_left keep query n q k below is kept = let at = lent_at keep query n q k below is kept in left (map keep query) n k at.0 at.1

-- the next row, of the bytes from there on
pub row_here : (n count : ℕ) (bytes prefix : List ℕ) (r : Row) → n < count → 48 * count ≤ length bytes → r ≡ row_of prefix → prefix ≡ take (length bytes - 48 * n) (drop (48 * n) bytes) → drop n (rows_in count bytes) ≡ r ∷ drop (n + 1) (rows_in count bytes)
row_here n count bytes prefix r below long is e =
    let here : r ≡ row_of (drop (48 * n) bytes) = is ∙ ap (λ (b : List ℕ). row_of b) e ∙ row_first (length bytes - 48 * n) (drop (48 * n) bytes) (omega (arith, long, below)) in
    row_left n count bytes below ∙ ap (λ (x : Row). x ∷ drop (n + 1) (rows_in count bytes)) (sym here)

-- what is as it was read, whose only refusal is of a row
pub is_given : {X : Type 0} (result total : Result X StoreError) → result ≡ total → IfErr result (λ e. e ≡ errors.MalformedData SectionEntry) → GivesUnlessFault {X = X} (λ x. x) result total
is_given (Ok x) total is refused = sym is
is_given {X} (Err e) total is refused = subst (λ (d : StoreError). GivesUnlessFault {X = X} (λ x. x) (Err d) total) (sym refused) (sym is ∙ ap Err refused)

-- the next block, of the query's rest
block_is : (keep : List ℕ → List ℕ) (query : List (List ℕ)) (n some count at end to : ℕ) (now whole : List ℕ) (from : ℕ) → now ≡ whole → from ≡ n → n + some ≤ count → n ≤ length query
    → agreed (map keep (take (length query - n) (drop n query))) end to (rows_in some (drop (at + 48 * from) now)) ≡ agreed (drop n (map keep query)) end to (take some (drop n (rows_in count (drop at whole))))
block_is keep query n some count at end to now whole from same is le below =
    let hashes : map keep (take (length query - n) (drop n query)) ≡ drop n (map keep query) = ap (map keep) (rest_all query n below) ∙ sym (drop-map keep n query) in
    let rows : rows_in some (drop (at + 48 * from) now) ≡ take some (drop n (rows_in count (drop at whole))) = (λ i. rows_in some (drop (at + 48 * is i) (same i))) ∙ block_rows some n count at whole le in
    λ i. agreed (hashes i) end to (rows i)

-- the same, of the bytes that were read of the block's rows
pub block_read : (keep : List ℕ → List ℕ) (query : List (List ℕ)) (n some count at end to : ℕ) (now whole raw bytes : List ℕ) (from rows : ℕ) → now ≡ whole → from ≡ n → n + some ≤ count → n ≤ length query → rows ≡ some → at + 48 * count ≤ length whole
    → (at + 48 * from + 48 * rows ≤ length now → piece_at (at + 48 * from) (48 * rows) now ≡ Ok raw) → bytes ≡ raw
    → agreed (map keep (take (length query - n) (drop n query))) end to (rows_in some bytes) ≡ agreed (drop n (map keep query)) end to (take some (drop n (rows_in count (drop at whole))))
block_read keep query n some count at end to now whole raw bytes from rows same is le below few long told shown =
    let there : at + 48 * from + 48 * rows ≤ length now = omega (arith, is, few, le, long, ap length same) in
    let read : bytes ≡ take (48 * some) (drop (at + 48 * from) now) = shown ∙ sym (ok_is _ _ (sym (piece_there (at + 48 * from) (48 * rows) now there) ∙ told there)) ∙ ap (λ (m : ℕ). take (48 * m) (drop (at + 48 * from) now)) few in
    let given : rows_in some bytes ≡ rows_in some (drop (at + 48 * from) now) = ap (rows_in some) read ∙ rows_first some (drop (at + 48 * from) now) in
    ap (agreed (map keep (take (length query - n) (drop n query))) end to) given ∙ block_is keep query n some count at end to now whole from same is le below
