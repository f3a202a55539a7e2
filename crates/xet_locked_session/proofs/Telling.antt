-- A pass after the entries of its step became known.
use Rattle.std.proofs.Common.{◌≡◌, ◌∙◌, ℕ, ◌+◌, List, ◌++◌, drop, length, sym, ap, subst, append_assoc, length-append}
use Rattle.std.specs.List.{AllByRecursion}
use Rattle.std.proofs.lemmas.List.{drop_at}
use mathlib.Core.List.{IsPrefix}
use Rattle.xet_history.specs.History.{Legal, pass_of}
use Rattle.xet_history.specs.declared.entry.Entry.{Entry}
use Rattle.xet_shared_history.specs.Owned.{AreOwn, numbers_from}
use Rattle.xet_shared_history.specs.theorems.Owned.{length-numbers_from}
use Rattle.xet_store.specs.Recorded.{RecordedState, core_of}
use Rattle.xet_store.specs.Steps.{Steps}
use Rattle.xet_store.specs.Holders.{Holder}
use Rattle.xet_locked_session.specs.Passes.{holder_of}
use Rattle.xet_locked_session.specs.Session.{IsSince}
use Rattle.xet_locked_session.proofs.Growing.{legal_after, own_legal}

-- what a history has gained
pub gained : (old added now : List Entry) (from : ℕ) → now ≡ old ++ added → from ≡ length old → drop from now ≡ added
gained old added now from is at = ap (λ (h : List Entry). drop from h) is ∙ drop_at old added from (sym at)

-- What a step told: the history was known up to `from`, the rest was counted as entries of the pass, and it has seen all.
pub record IsTold (start : RecordedState) (own own_now : List ℕ) (known seen_now rest : List Entry) (from : ℕ) : Type 0 where
  pub place : from ≡ length (start.history ++ known)
  pub numbers : own_now ≡ own ++ numbers_from from (length rest)
  pub all : seen_now ≡ known ++ rest

module _ (start : RecordedState) (pass : ℕ) (own own_now : List ℕ) (known seen_now rest : List Entry) (from : ℕ) (told : IsTold start own own_now known seen_now rest from) (added : List Entry) (same : rest ≡ added) where
  abbrev own_after : List ℕ
  own_after = own ++ numbers_from (length (start.history ++ known)) (length added)

  own_is : own_now ≡ own_after
  own_is = told.numbers ∙ (λ i. own ++ numbers_from (told.place i) (length (same i)))

  seen_is : seen_now ≡ known ++ added
  seen_is = told.all ∙ ap (λ (es : List Entry). known ++ es) same

  pub told_holder : holder_of start pass own_now seen_now ≡ holder_of start pass own_after (known ++ added)
  told_holder = λ i. holder_of start pass (own_is i) (seen_is i)

  -- a relation between what the pass was and is
  pub told_by : (P : Holder → Holder → Type 0) (was : Holder) (seen : List Entry) → holder_of start pass own seen ≡ was → P (holder_of start pass own seen) (holder_of start pass own_after (known ++ added)) → P was (holder_of start pass own_now seen_now)
  told_by P was seen view p = subst (λ (h : Holder). P h (holder_of start pass own_now seen_now)) view (subst (P (holder_of start pass own seen)) (sym told_holder) p)

  pub told_count : length own_now ≡ length own + length rest
  told_count = ap length told.numbers ∙ length-append own (numbers_from from (length rest)) ∙ ap (λ (n : ℕ). length own + n) (length-numbers_from from (length rest))

  module _ (now new : RecordedState) (is : IsSince start now) (seen : List Entry) (steps : Steps now new added) (at : now.history ≡ start.history ++ known) (prefix : IsPrefix seen known) (are : AreOwn pass (start.history ++ seen) (length start.history) own) where
    pub told_own : AllByRecursion (λ e. pass_of e ≡ pass) added → AreOwn pass (start.history ++ seen_now) (length start.history) own_now
    told_own mine =
        subst (λ (es : List Entry). AreOwn pass (start.history ++ es) (length start.history) own_now) (sym seen_is)
        (subst (AreOwn pass (start.history ++ (known ++ added)) (length start.history)) (sym own_is) (own_legal start now new is pass own seen known added steps at prefix are mine))

    pub told_legal : Legal start.store.tells (core_of start) seen_now
    told_legal = subst (Legal start.store.tells (core_of start)) (sym seen_is) (legal_after start now new is pass own seen known added steps at prefix are)

    pub told_history : new.history ≡ start.history ++ seen_now
    told_history = steps.moves.history ∙ ap (λ (h : List Entry). h ++ added) at ∙ append_assoc start.history known added ∙ ap (λ (es : List Entry). start.history ++ es) (sym seen_is)
