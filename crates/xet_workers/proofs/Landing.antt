-- The chunks that did not fit into a xorb of a pass are in a later one of that pass, or in one that is registered after all passes.
use Rattle.std.proofs.Common.{◌≡◌, ◌≢◌, ◌⊎◌, inl, inr, ◌∙◌, ℕ, zero, suc, ◌<◌, List, [], ◌∷◌, ◌++◌, slice_index_or, refl, sym, ap, subst, arith, append_assoc, Any}
use Rattle.std.specs.List.{AllByRecursion}
use Rattle.std.proofs.lemmas.Bool.{cases_eq}
use Rattle.std.proofs.lemmas.List.Elements.{Contains-append_cases, Contains-append_left, Contains-append_right}
use Rattle.xet_base.specs.theorems.Elements.{all_more}
use Rattle.xet_choices.specs.Calls.{Call}
use Rattle.xet_choices.specs.Calls.Call.{Asked, Registered}
use Rattle.xet_clean.specs.Cleaning.{IsPart, Lands, RegistersFew, RegistersPart, close_of}
use Rattle.xet_clean.specs.Merging.{AreHeld}
use Rattle.xet_history.specs.History.{pass_of}
use Rattle.xet_history.specs.declared.entry.Entry.{Entry}
use Rattle.xet_history.specs.declared.entry.Entry.TheVariants.{Query, Register, Complete, Flush, Fault}
use Rattle.xet_store.specs.Holders.{Holder, call_at, calls_in}
use Rattle.xet_workers.specs.Cleaning.{made_by}
use Rattle.xet_workers.proofs.Parting.{HasPass, Parted, made_apart, made_here, of_passes}

abbrev Leaves : Type 0
Leaves = List (List ℕ × ℕ)

-- ---- parts

pub part_then : {X : Type 0} (xs ys zs : List X) → IsPart xs ys → IsPart ys zs → IsPart xs zs
part_then {X} xs ys zs first second =
    let b : List X = first.0 in
    let a : List X = first.1 in
    let c : List X = second.0 in
    let d : List X = second.1 in (
      c ++ b,
      a ++ d,
      second.2
          ∙ ap (λ (l : List X). c ++ (l ++ d)) first.2
          ∙ ap (λ (l : List X). c ++ l) (append_assoc b (xs ++ a) d ∙ ap (λ (l : List X). b ++ l) (append_assoc xs a d))
          ∙ sym (append_assoc c b (xs ++ (a ++ d))),
    )

part_none : {X : Type 0} (b xs a : List X) → [] ≡ b ++ (xs ++ a) → xs ≡ []
part_none [] [] a e = refl
part_none [] (x ∷ xs) a e = absurd (cc e)
part_none (y ∷ b) xs a e = absurd (cc e)

registers_part : (part leaves : Leaves) → IsPart part leaves → (call : Call) → RegistersPart leaves call → RegistersPart part call
registers_part part leaves is (Asked entry hashes reply) has = has
registers_part part leaves is (Registered chunks next) has = part_then part leaves chunks is has

-- ---- one of several

module _ {X : Type 0} (P : X → Type 0) where
  any_left : (xs ys : List X) → Any P xs → Any P (xs ++ ys)
  any_left xs ys a = let at = Contains-append_left xs ys a.1 (a.0, a.2, a.3) in (at.0, a.1, at.1, at.2, a.4)

  any_right : (xs ys : List X) → Any P ys → Any P (xs ++ ys)
  any_right xs ys a = let at = Contains-append_right xs ys a.1 (a.0, a.2, a.3) in (at.0, a.1, at.1, at.2, a.4)

  any_cases : (xs ys : List X) → Any P (xs ++ ys) → Any P xs ⊎ Any P ys
  any_cases xs ys a = elim (Contains-append_cases xs ys a.1 (a.0, a.2, a.3)) [ inl at ↦ inl (at.0, a.1, at.1, at.2, a.4) | inr at ↦ inr (at.0, a.1, at.1, at.2, a.4) ]

  any_one : (x : X) → Any P (x ∷ []) → P x
  any_one x a = go a.0 a.2 a.3
    where
      go : (k : ℕ) → k < 1 → slice_index_or (x ∷ []) k a.1 ≡ a.1 → P x
      go zero within is = subst P (sym is) a.4
      go (suc k) within is = absurd (omega arith)

-- ---- the calls of a pass are among those of all

calls_made : (P : Call → Type 0) (pass : ℕ) (xs : List (ℕ × Entry)) → Any P (calls_in (made_by pass xs)) → Any P (calls_in xs)
calls_made P pass [] any = any
calls_made P pass (x ∷ xs) any = elim (cases_eq (pass_of x.1) pass) [
  | inl is ↦ elim (any_cases P (call_at x.0 x.1) (calls_in (made_by pass xs)) (subst (λ (l : List (ℕ × Entry)). Any P (calls_in l)) (made_here pass x xs is) any)) [
    | inl here ↦ any_left P (call_at x.0 x.1) (calls_in xs) here
    | inr later ↦ any_right P (call_at x.0 x.1) (calls_in xs) (calls_made P pass xs later)
  ]
  | inr apart ↦ any_right P (call_at x.0 x.1) (calls_in xs) (calls_made P pass xs (subst (λ (l : List (ℕ × Entry)). Any P (calls_in l)) (made_apart pass x xs apart) any))
]

lands_rest : (last : Leaves) (xs ys : List Call) → Lands last (xs ++ ys) → Lands last ys
lands_rest last [] ys lands = lands
lands_rest last (Asked entry hashes reply ∷ xs) ys lands = lands_rest last xs ys lands
lands_rest last (Registered leaves next ∷ xs) ys lands = lands_rest last xs ys lands.1

lands_made : (last : Leaves) (pass : ℕ) (x : ℕ × Entry) (xs : List (ℕ × Entry)) → Lands last (calls_in (made_by pass (x ∷ xs))) → Lands last (calls_in (made_by pass xs))
lands_made last pass x xs lands = elim (cases_eq (pass_of x.1) pass) [
  | inl is ↦ lands_rest last (call_at x.0 x.1) (calls_in (made_by pass xs)) (subst (λ (l : List (ℕ × Entry)). Lands last (calls_in l)) (made_here pass x xs is) lands)
  | inr apart ↦ subst (λ (l : List (ℕ × Entry)). Lands last (calls_in l)) (made_apart pass x xs apart) lands
]

-- ---- what is left of each pass is in a xorb after all

-- a part of chunks that are held by calls, which end with a registration of the last chunks
held_later : (before : List Call) (last leaves part : Leaves) → part ≢ [] → IsPart part leaves → AreHeld leaves (before ++ close_of last) → Any (RegistersPart part) before ⊎ IsPart part last
held_later before last leaves part some is (inl none) = absurd (some (part_none is.0 part is.1 (sym none ∙ is.2)))
held_later before last leaves part some is (inr any) = elim (any_cases (RegistersPart leaves) before (close_of last) any) [
  | inl early ↦ inl (early.0, early.1, early.2, early.3, registers_part part leaves is early.1 early.4)
  | inr end ↦ inr (close last end)
]
  where
    close : (ls : Leaves) → Any (RegistersPart leaves) (close_of ls) → IsPart part ls
    close [] none = absurd (omega (arith, none.2))
    close (l ∷ ls) one = part_then part leaves (l ∷ ls) is (any_one (RegistersPart leaves) (Registered (l ∷ ls) []) one)

-- Each xorb of these entries was registered with further chunks, which are in a later one of them, or in the last chunks; and those
-- are held by calls.
abbrev pub IsKept : List Call → List (ℕ × Entry) → Type 0
IsKept calls own = (last : Leaves) × Lands last (calls_in own) × AreHeld last calls

module _ (calls : List Call) (few : RegistersFew calls) where
  lands_first : (n : ℕ) (e : Entry) (xs : List (ℕ × Entry)) → IsKept calls (made_by (pass_of e) ((n, e) ∷ xs)) → Lands few.last (calls_in xs ++ few.before) → Lands few.last ((call_at n e ++ calls_in xs) ++ few.before)
  lands_first n (Query pass hashes reply) xs kept rest = rest
  lands_first n (Register pass chunks next added) xs kept rest =
      let own : Lands kept.0 (Registered chunks next ∷ calls_in (made_by pass xs)) =
      subst (λ (l : List (ℕ × Entry)). Lands kept.0 (calls_in l)) (made_here pass (n, Register pass chunks next added) xs refl) kept.1 in
      ((own.0.0, later own.0.0 own.0.1), rest)
    where
      later : next ≢ [] → Any (RegistersPart next) (calls_in (made_by pass xs)) ⊎ IsPart next kept.0 → Any (RegistersPart next) (calls_in xs ++ few.before) ⊎ IsPart next few.last
      later some (inl any) = inl (any_left (RegistersPart next) (calls_in xs) few.before (calls_made (RegistersPart next) pass xs any))
      later some (inr left) = elim (held_later few.before few.last kept.0 next some left (subst (AreHeld kept.0) few.is kept.2)) [
        | inl any ↦ inl (any_right (RegistersPart next) (calls_in xs) few.before any)
        | inr is ↦ inr is
      ]
  lands_first n (Complete pass file added) xs kept rest = rest
  lands_first n (Flush pass shard) xs kept rest = rest
  lands_first n (Fault pass kind) xs kept rest = rest

  lands_all : (xs : List (ℕ × Entry)) → AllByRecursion (λ x. IsKept calls (made_by (pass_of x.1) xs)) xs → Lands few.last (calls_in xs ++ few.before)
  lands_all [] all = few.lands
  lands_all (x ∷ xs) all =
      lands_first x.0 x.1 xs all.0
      (lands_all xs (all_more (λ y. IsKept calls (made_by (pass_of y.1) (x ∷ xs))) (λ y. IsKept calls (made_by (pass_of y.1) xs)) xs (λ y kept. (kept.0, lands_made kept.0 (pass_of y.1) x xs kept.1, kept.2)) all.1))

  -- The calls of the entries and then these register few.
  pub lands_each : (xs : List (ℕ × Entry)) → AllByRecursion (λ x. IsKept calls (made_by (pass_of x.1) xs)) xs → RegistersFew (calls_in xs ++ calls)
  lands_each xs all = record {
    before = calls_in xs ++ few.before;
    last = few.last;
    is = ap (λ (l : List Call). calls_in xs ++ l) few.is ∙ sym (append_assoc (calls_in xs) few.before (close_of few.last));
    lands = lands_all xs all;
  }

-- the last chunks by the number of the pass
pub lands_together : (lasts : ℕ → Leaves) (calls : List Call) (xs : List (ℕ × Entry))
    → AllByRecursion (λ x. Lands (lasts (pass_of x.1)) (calls_in (made_by (pass_of x.1) xs)) × AreHeld (lasts (pass_of x.1)) calls) xs → RegistersFew calls → RegistersFew (calls_in xs ++ calls)
lands_together lasts calls xs all few =
    lands_each calls few xs
    (all_more (λ (x : ℕ × Entry). Lands (lasts (pass_of x.1)) (calls_in (made_by (pass_of x.1) xs)) × AreHeld (lasts (pass_of x.1)) calls)
    (λ x. IsKept calls (made_by (pass_of x.1) xs)) xs (λ x kept. (lasts (pass_of x.1), kept.0, kept.1)) all)

-- the same of passes, each with last chunks
pub lands_parted : (calls : List Call) (passes : List Holder) (xs : List (ℕ × Entry)) → Parted passes xs → AllByRecursion (λ p. IsKept calls p.own) passes → RegistersFew calls → RegistersFew (calls_in xs ++ calls)
lands_parted calls passes xs is all few =
    lands_each calls few xs
    (all_more (λ (x : ℕ × Entry). HasPass passes (pass_of x.1)) (λ x. IsKept calls (made_by (pass_of x.1) xs)) xs
    (λ x has. of_passes (λ pass. IsKept calls (made_by pass xs)) passes (pass_of x.1) (each passes is.own all) has) is.all)
  where
    each : (ps : List Holder) → AllByRecursion (λ p. p.own ≡ made_by p.number xs) ps → AllByRecursion (λ p. IsKept calls p.own) ps → AllByRecursion (λ p. IsKept calls (made_by p.number xs)) ps
    each [] own kept = tt
    each (p ∷ ps) own kept = (subst (IsKept calls) own.0 kept.0, each ps own.1 kept.1)
