-- Whether something is pending.
use Rattle.std.proofs.Common.{◌≡◌, ◌⊎◌, inl, inr, ◌∙◌, ℕ, ◌+◌, Bool, true, false, List, [], ◌∷◌, length, Option, Some, None, IfSome, refl, sym, ap, arith}
use Rattle.std.specs.Prelude.{◌↔◌, nat_lt, if◌then◌else◌}
use Rattle.std.proofs.lemmas.Bool.Decides.{nat_tests}
use Rattle.xet_history.specs.Core.{Core, has_pending, pending_hash}
use Rattle.xet_shard.specs.Held.{nothing}
use Rattle.xet_store.specs.Recorded.{RecordedState, core_of}
use Rattle.xet_store_disk.specs.Flushing.{IsFlushed}
use Rattle.xet_locked_session.specs.Passes.{flushed_hash}

some_or_none : {X Y : Type 0} (xs : List X) (ys : List Y) → (nat_lt 0 (length xs + length ys) ≡ true) ⊎ ((xs ≡ []) × (ys ≡ []))
some_or_none [] [] = inr (refl, refl)
some_or_none [] (y ∷ ys) = inl (grind (arith, nat_tests))
some_or_none (x ∷ xs) ys = inl (grind (arith, nat_tests))

pub pending_cases : (c : Core) → (has_pending c ≡ true) ⊎ (c.pending ≡ nothing)
pending_cases c = go (some_or_none c.pending.blocks c.pending.files)
  where
    go : (has_pending c ≡ true) ⊎ ((c.pending.blocks ≡ []) × (c.pending.files ≡ [])) → (has_pending c ≡ true) ⊎ (c.pending ≡ nothing)
    go (inl some) = inl some
    go (inr none) = inr (λ i. record { blocks = none.0 i; files = none.1 i })

-- the answer of a flush
pub answer_is : (old new : RecordedState) (shard : Option (List ℕ)) → (shard ≡ None) ↔ (old.store.pending ≡ nothing) → IfSome shard (λ h. IsFlushed old.store h new.store) → shard ≡ flushed_hash (core_of old)
answer_is old new None none flushed = sym (ap (λ (b : Bool). if b then Some (pending_hash (core_of old)) else None) idle)
  where
    idle : has_pending (core_of old) ≡ false
    idle = ap (λ p. nat_lt 0 (length p.blocks + length p.files)) (none.0 refl)
answer_is old new (Some h) none flushed = go (pending_cases (core_of old))
  where
    go : (has_pending (core_of old) ≡ true) ⊎ (old.store.pending ≡ nothing) → Some h ≡ flushed_hash (core_of old)
    go (inl some) = ap Some flushed.hash ∙ sym (ap (λ (b : Bool). if b then Some (pending_hash (core_of old)) else None) some)
    go (inr idle) = absurd (cc (none.1 idle))
