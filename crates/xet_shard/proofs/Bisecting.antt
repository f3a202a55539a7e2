-- Bisection: an index that bisects a list, and how halving comes to it.
use Rattle.std.proofs.Common.{◌≡◌, ◌<◌, ◌≤◌, ℕ, zero, suc, ◌+◌, ◌-◌, ◌*◌, Bool, true, false, List, [], ◌∷◌, drop, length, get_or, map, nat_le, nat_lt, take, None, Option, Some, Result, Ok, Err, IfErr, IfOk, refl, sym, ap, subst, ◌∙◌, arith, inl, inr}
use Rattle.std.specs.Prelude.{IfSome, option_map}
use Rattle.std.specs.List.{slice_get}
use Rattle.std.proofs.lemmas.Bool.{cases_Bool, cases_lt, le-leb, lt-leb}
use Rattle.std.proofs.lemmas.List.{drop-drop, length-map}
use Rattle.std.proofs.Math.Nat.{mul-le-mul_left}
use Rattle.std.proofs.lemmas.Option.{slice_get-get_or, slice_get-map, slice_get_past}
use Rattle.xet_hash.specs.declared.error.Place.TheVariants.{Input}
use Rattle.xet_hash.specs.declared.error.StoreError.{StoreError}
use Rattle.xet_hash.specs.declared.error.StoreError.TheVariants as errors
use Rattle.xet_shard.specs.declared.query.bisection.Probe.{Probe}
use Rattle.xet_shard.specs.declared.query.bisection.Probe.TheVariants.{RowBelow, WordAtMost, WordBelow}
use Rattle.xet_shard.specs.Bisection.{AnswersAt, Bisects, in_table, passes}
use Rattle.xet_shard.specs.internal.Bisection.{slots}
use Rattle.xet_codec.specs.Parsing.{GivesUnlessFault}
use Rattle.xet_shard_format.specs.theorems.FirstLast.{half_word_first, word_first}

module _ {X : Type 0} (p : X → Bool) where
  -- one item more before the others, which passes
  pub bisects_cons : (x : X) (xs : List X) (index : ℕ) → p x ≡ true → Bisects p xs index → Bisects p (x ∷ xs) (suc index)
  bisects_cons x xs zero passes b = record { within = omega (arith, b.within); before = passes; after = b.after }
  bisects_cons x xs (suc index) passes b = record { within = omega (arith, b.within); before = b.before; after = b.after }

  pub bisects_rest : (x : X) (xs : List X) (index : ℕ) → Bisects p (x ∷ xs) (suc index) → Bisects p xs index
  bisects_rest x xs zero b = record { within = omega arith; before = tt; after = b.after }
  bisects_rest x xs (suc index) b = record { within = omega (arith, b.within); before = b.before; after = b.after }

  -- each list is bisected at some index
  pub some_index : (xs : List X) → (index : ℕ) × Bisects p xs index
  some_index [] = (0, record { within = omega arith; before = tt; after = tt })
  some_index (x ∷ xs) = elim (cases_Bool (p x)) [
    | inl passes ↦ let rest = some_index xs in (suc rest.0, bisects_cons x xs rest.0 passes rest.1)
    | inr fails ↦ (0, record { within = omega arith; before = tt; after = fails })
  ]

  holds_at : (xs : List X) (k : ℕ) (d : X) (b : Bool) → (k < length xs → p (get_or xs k d) ≡ b) → IfSome (slice_get xs k) (λ x. p x ≡ b)
  holds_at xs k d b holds = elim (cases_lt k (length xs)) [
    | inl lt ↦ subst (λ (o : Option X). IfSome o (λ x. p x ≡ b)) (sym (slice_get-get_or xs k d lt)) (holds lt)
    | inr le ↦ subst (λ (o : Option X). IfSome o (λ x. p x ≡ b)) (sym (slice_get_past xs k le)) tt
  ]

  -- by the items at two indices
  pub bisects_by : (xs : List X) (index : ℕ) (d : X) → index ≤ length xs → (0 < index → p (get_or xs (index - 1) d) ≡ true) → (index < length xs → p (get_or xs index d) ≡ false) → Bisects p xs index
  bisects_by xs zero d within before after = record { within = within; before = tt; after = holds_at xs zero d false after }
  bisects_by xs (suc k) d within before after =
      let e : suc k - 1 ≡ k = omega arith in
      record {
        within = within;
        before = holds_at xs k d true (λ lt. ap (λ (n : ℕ). p (get_or xs n d)) (sym e) ∙ before (omega arith));
        after = holds_at xs (suc k) d false after;
      }

mapped : {A X : Type 0} (f : A → X) (P : X → Type 0) (o : Option A) → IfSome o (λ a. P (f a)) → IfSome (option_map f o) P
mapped f P None holds = tt
mapped f P (Some a) holds = holds

-- what bisects items by what a function tells of each bisects what it tells of them
pub bisects_map : {A X : Type 0} (f : A → X) (p : X → Bool) (xs : List A) (index : ℕ) → Bisects (λ a. p (f a)) xs index → Bisects p (map f xs) index
bisects_map f p xs zero b = record {
  within = omega (arith, b.within, length-map xs f);
  before = tt;
  after = subst (λ (o : Option _). IfSome o (λ x. p x ≡ false)) (sym (slice_get-map f xs 0)) (mapped f (λ x. p x ≡ false) (slice_get xs 0) b.after);
}
bisects_map f p xs (suc k) b = record {
  within = omega (arith, b.within, length-map xs f);
  before = subst (λ (o : Option _). IfSome o (λ x. p x ≡ true)) (sym (slice_get-map f xs k)) (mapped f (λ x. p x ≡ true) (slice_get xs k) b.before);
  after = subst (λ (o : Option _). IfSome o (λ x. p x ≡ false)) (sym (slice_get-map f xs (suc k))) (mapped f (λ x. p x ≡ false) (slice_get xs (suc k)) b.after);
}

-- ---- over bytes

pub length-slots : (size n : ℕ) (bytes : List ℕ) → length (slots size n bytes) ≡ n
unfolding slots
length-slots size zero bytes = refl
length-slots size (suc n) bytes = ap suc (length-slots size n (drop size bytes))

pub get_or-slots : (size n k : ℕ) (bytes d : List ℕ) → k < n → get_or (slots size n bytes) k d ≡ drop (size * k) bytes
unfolding slots
get_or-slots size zero k bytes d lt = absurd (omega arith)
get_or-slots size (suc n) zero bytes d lt = let z : size * 0 ≡ 0 = omega arith in sym (ap (λ (m : ℕ). drop m bytes) z)
get_or-slots size (suc n) (suc k) bytes d lt =
    let e : size + size * k ≡ size * suc k = grind arith in
    get_or-slots size n k (drop size bytes) d (omega arith) ∙ drop-drop (size * k) size bytes ∙ ap (λ (m : ℕ). drop m bytes) e

-- an item of a table lies within it
pub slot_within : (size k n : ℕ) → k < n → size * k + size ≤ size * n
slot_within size k n lt = let le : size * (k + 1) ≤ size * n = mul-le-mul_left {m = k + 1} {n = n} size (omega arith) in omega (arith, le)

-- the first bytes of an item are tested
pub passes_first : (probe : Probe) (bytes : List ℕ) → passes probe (take 12 bytes) ≡ passes probe bytes
unfolding passes
passes_first (WordBelow bound) bytes = ap (λ (n : ℕ). nat_lt n bound) (word_first 0 12 bytes (omega arith))
passes_first (WordAtMost bound) bytes = ap (λ (n : ℕ). nat_le n bound) (word_first 0 12 bytes (omega arith))
passes_first (RowBelow bound) bytes = ap (λ (n : ℕ). nat_lt n bound) (half_word_first 8 12 bytes (omega arith))

module _ (probe : Probe) (at size count : ℕ) (bytes : List ℕ) where
  abbrev table : List (List ℕ)
  table = slots size count (drop at bytes)

  slot_at : (k : ℕ) → k < count → passes probe (get_or table k []) ≡ passes probe (drop (at + size * k) bytes)
  slot_at k lt = ap (passes probe) (get_or-slots size count k (drop at bytes) [] lt ∙ drop-drop (size * k) at bytes)

  -- where halving ends
  pub halved : (low high : ℕ) → low ≡ high → high ≤ count → (0 < low → passes probe (drop (at + size * (low - 1)) bytes) ≡ true) → (high < count → passes probe (drop (at + size * high) bytes) ≡ false) → Bisects (passes probe) table low
  halved low high met bound before after =
      let long = length-slots size count (drop at bytes) in
      bisects_by (passes probe) table low [] (omega (arith, long, met, bound)) (λ some. slot_at (low - 1) (omega (arith, some, met, bound)) ∙ before some)
      (λ lt. slot_at low (omega (arith, lt, long)) ∙ ap (λ (n : ℕ). passes probe (drop (at + size * n) bytes)) met ∙ after (omega (arith, lt, long, met)))

  -- bytes that do not end before the table does
  pub index_there : (index : ℕ) → at + size * count ≤ length bytes → in_table at (size * count) bytes index ≡ Ok index
  index_there index le = rw (le-leb (at + size * count) (length bytes) le) refl

  pub index_past : (index : ℕ) → length bytes < at + size * count → in_table at (size * count) bytes index ≡ Err errors.UnexpectedEof
  index_past index lt = rw (lt-leb (at + size * count) (length bytes) lt) refl

  -- where the reader failed, any index will do
  pub index_fails : (e : StoreError) → e ≡ errors.Io Input → AnswersAt {A = ℕ} (passes probe) table (λ x. x) (Err e) (λ index. in_table at (size * count) bytes index)
  index_fails e is =
      let some = some_index (passes probe) table in
      (some.0, some.1, subst (λ (d : StoreError). GivesUnlessFault {X = ℕ} (λ x. x) (Err d) (in_table at (size * count) bytes some.0)) (sym is) refl)

  pub index_found : (result : Result ℕ StoreError) → at + size * count ≤ length bytes → IfOk result (λ index. Bisects (passes probe) table index) → IfErr result (λ e. e ≡ errors.Io Input) → AnswersAt (passes probe) table (λ x. x) result (λ index. in_table at (size * count) bytes index)
  index_found (Ok index) le found fault = (index, found, index_there index le)
  index_found (Err e) le found fault = index_fails e fault
