-- The chunks that did not fit into a xorb are in a later one, or left.
use Rattle.std.proofs.Common.{◌∙◌, inl, inr, ℕ, List, [], ◌∷◌, ◌++◌, refl, sym, ap, append_assoc, arith}
use Rattle.std.proofs.lemmas.List.{append-nil}
use Rattle.std.specs.List.{AllByRecursion}
use Rattle.xet_choices.specs.Calls.{Call}
use Rattle.xet_choices.specs.Calls.Call.{Asked, Registered}
use Rattle.xet_dedup_queries.specs.Counting.{BeginsWith, HasNext, LandsIn, first_registered}
use Rattle.xet_clean.specs.Cleaning.{IsPart, Lands, RegistersPart}
use Rattle.xet_clean.specs.internal.Merging.{IsLater}
use Rattle.xet_clean.specs.theorems.Keeping.{any_left, any_right}

-- ---- parts

pub part_itself : {X : Type 0} (xs : List X) → IsPart xs xs
part_itself xs = ([], [], sym (append-nil xs))

pub part_left : {X : Type 0} (xs ys : List X) → IsPart xs (xs ++ ys)
part_left xs ys = ([], ys, refl)

pub part_right : {X : Type 0} (xs ys : List X) → IsPart ys (xs ++ ys)
part_right {X} xs ys = (xs, [], ap (λ (l : List X). xs ++ l) (sym (append-nil ys)))

pub part_then : {X : Type 0} (xs ys zs : List X) → IsPart xs ys → IsPart ys zs → IsPart xs zs
part_then {X} xs ys zs first second =
    let b : List X = first.0 in
    let a : List X = first.1 in
    let c : List X = second.0 in
    let d : List X = second.1 in (
      c ++ b,
      a ++ d,
      second.2
          ∙ ap (λ (l : List X). c ++ (l ++ d)) first.2
          ∙ ap (λ (l : List X). c ++ l) (append_assoc b (xs ++ a) d ∙ ap (λ (l : List X). b ++ l) (append_assoc xs a d))
          ∙ sym (append_assoc c b (xs ++ (a ++ d))),
    )

-- ---- the parts that are registered or left

later_after : (call : Call) (last part : List (List ℕ × ℕ)) (calls : List Call) → IsLater last calls part → IsLater last (call ∷ calls) part
later_after call last part calls (inl any) = inl (any_right (RegistersPart part) (call ∷ []) calls any)
later_after call last part calls (inr left) = inr left

pub later_one : (leaves next last part : List (List ℕ × ℕ)) (calls : List Call) → IsPart part leaves → IsLater last (Registered leaves next ∷ calls) part
later_one leaves next last part calls is = inl (0, Registered leaves next, omega arith, refl, is)

first_is_later : (calls : List Call) (last part : List (List ℕ × ℕ)) → BeginsWith (first_registered calls last) part → IsLater last calls part
first_is_later [] last part begins = inr ([], begins.0, begins.1)
first_is_later (Asked entry hashes reply ∷ calls) last part begins = later_after (Asked entry hashes reply) last part calls (first_is_later calls last part begins)
first_is_later (Registered leaves next ∷ calls) last part begins = later_one leaves next last part calls ([], begins.0, begins.1)

-- the calls of one file
pub lands_of : (calls : List Call) (last : List (List ℕ × ℕ)) → AllByRecursion HasNext calls → LandsIn last calls → Lands last calls
lands_of [] last nexts lands = tt
lands_of (Asked entry hashes reply ∷ calls) last nexts lands = lands_of calls last nexts.1 lands
lands_of (Registered leaves next ∷ calls) last nexts lands = ((nexts.0, first_is_later calls last next lands.0), lands_of calls last nexts.1 lands.1)

-- what is left goes on
pub lands_last : (xs : List Call) (mid last : List (List ℕ × ℕ)) → IsPart mid last → Lands mid xs → Lands last xs
lands_last [] mid last is lands = tt
lands_last (Asked entry hashes reply ∷ xs) mid last is lands = lands_last xs mid last is lands
lands_last (Registered leaves next ∷ xs) mid last is lands = ((lands.0.0, go lands.0.1), lands_last xs mid last is lands.1)
  where
    go : IsLater mid xs next → IsLater last xs next
    go (inl any) = inl any
    go (inr left) = inr (part_then next mid last left is)

-- a part of the last xorb
pub later_last : (calls : List Call) (leaves next last part : List (List ℕ × ℕ)) → IsPart part leaves → IsLater last (calls ++ Registered leaves next ∷ []) part
later_last calls leaves next last part is = inl (any_right (RegistersPart part) calls (Registered leaves next ∷ []) (0, Registered leaves next, omega arith, refl, is))

-- the same after more calls, if what was left is in a later xorb or still left
pub later_then : (xs ys : List Call) (mid last part : List (List ℕ × ℕ)) → IsLater mid xs part → (IsPart part mid → IsLater last ys part) → IsLater last (xs ++ ys) part
later_then xs ys mid last part (inl any) later = inl (any_left (RegistersPart part) xs ys any)
later_then xs ys mid last part (inr left) later = go (later left)
  where
    go : IsLater last ys part → IsLater last (xs ++ ys) part
    go (inl any) = inl (any_right (RegistersPart part) xs ys any)
    go (inr still) = inr still

pub lands_then : (xs ys : List Call) (mid last : List (List ℕ × ℕ)) → Lands mid xs → Lands last ys → ((part : List (List ℕ × ℕ)) → IsPart part mid → IsLater last ys part) → Lands last (xs ++ ys)
lands_then [] ys mid last first second later = second
lands_then (Asked entry hashes reply ∷ xs) ys mid last first second later = lands_then xs ys mid last first second later
lands_then (Registered leaves next ∷ xs) ys mid last first second later = ((first.0.0, later_then xs ys mid last next first.0.1 (later next)), lands_then xs ys mid last first.1 second later)
