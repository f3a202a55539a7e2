-- What a pass has seen after a step of its own.
use Rattle.std.proofs.Common.{◌≡◌, ◌∙◌, ℕ, ◌+◌, List, ◌++◌, length, sym, ap, subst, append_assoc, length-append, arith}
use Rattle.std.specs.List.{AllByRecursion}
use mathlib.Core.List.{IsPrefix}
use Rattle.xet_history.specs.Core.{Core}
use Rattle.xet_history.specs.History.{Legal, after_all, pass_of}
use Rattle.xet_history.specs.declared.entry.Entry.{Entry}
use Rattle.xet_history.specs.theorems.Joining.{after_all-append}
use Rattle.xet_shared_history.specs.Owned.{AreOwn, numbers_from}
use Rattle.xet_shared_history.specs.theorems.Owned.{own_added, own_later}
use Rattle.xet_shared_history.specs.theorems.Prefixes.{prefix_after, same_rest}
use Rattle.xet_store.specs.Recorded.{RecordedState, core_of}
use Rattle.xet_store.specs.Steps.{Steps}
use Rattle.xet_store.specs.theorems.Joining.{steps_both}
use Rattle.xet_store.specs.Holders.{Holder, core_at, core_found, grown, numbered}
use Rattle.xet_locked_session.specs.Passes.{entries_at, holder_of}
use Rattle.xet_locked_session.specs.Session.{IsSince}
use Rattle.xet_locked_session.proofs.Entries.{entries_grown}

-- A session of a store, now; what a pass of it has seen, and what is known; and a step that added entries.
module _ (start now new : RecordedState) (is : IsSince start now) (pass : ℕ) (own : List ℕ) (seen known added : List Entry) (steps : Steps now new added) (at : now.history ≡ start.history ++ known) (prefix : IsPrefix seen known)
    (are : AreOwn pass (start.history ++ seen) (length start.history) own) where
  abbrev pub others : List Entry
  others = prefix.0

  abbrev pub before : Holder
  before = holder_of start pass own seen

  abbrev pub own_after : List ℕ
  own_after = own ++ numbers_from (length (start.history ++ known)) (length added)

  abbrev pub after : Holder
  after = holder_of start pass own_after (known ++ added)

  since_is : is.since ≡ known
  since_is = same_rest start.history is.since known (sym is.steps.moves.history ∙ at)

  longer : IsPrefix (start.history ++ seen) (start.history ++ known)
  longer = prefix_after start.history seen known prefix

  pub found_is : core_found before others ≡ core_of now
  found_is = ap (after_all (core_of start)) (prefix.1 ∙ sym since_is) ∙ sym is.steps.moves.leads

  pub core_is : core_at after ≡ core_of new
  core_is =
      after_all-append (core_of start) known added
      ∙ ap (λ (es : List Entry). after_all (after_all (core_of start) es) added) (sym since_is)
      ∙ ap (λ (c : Core). after_all c added) (sym is.steps.moves.leads)
      ∙ sym steps.moves.leads

  own_is : entries_at (start.history ++ (known ++ added)) own_after ≡ entries_at (start.history ++ seen) own ++ numbered (length (start.history ++ seen) + length others) added
  own_is =
      let count : length (start.history ++ known) ≡ length (start.history ++ seen) + length others = omega (arith, ap length prefix.1, length-append seen others, length-append start.history seen, length-append start.history known) in
      ap (λ (h : List Entry). entries_at h own_after) (sym (append_assoc start.history known added))
      ∙ entries_grown pass (start.history ++ seen) (start.history ++ known) added (length start.history) own longer are
      ∙ ap (λ (k : ℕ). entries_at (start.history ++ seen) own ++ numbered k added) count

  abbrev with_parts : List Entry → List (ℕ × Entry) → Holder
  with_parts since entries = record before { since = since; own = entries }

  pub grown_is : after ≡ grown before others added
  grown_is =
      let since : known ++ added ≡ seen ++ (others ++ added) = ap (λ (es : List Entry). es ++ added) (sym prefix.1) ∙ append_assoc seen others added in
      ap (with_parts (known ++ added)) own_is
      ∙ ap (λ (es : List Entry). with_parts es (entries_at (start.history ++ seen) own ++ numbered (length (start.history ++ seen) + length others) added)) since

  all_steps : Steps start new (is.since ++ added)
  all_steps = steps_both start now new is.since added is.steps steps

  pub legal_after : Legal start.store.tells (core_of start) (known ++ added)
  legal_after = subst (λ (es : List Entry). Legal start.store.tells (core_of start) (es ++ added)) since_is all_steps.moves.legal

  pub own_legal : AllByRecursion (λ e. pass_of e ≡ pass) added → AreOwn pass (start.history ++ (known ++ added)) (length start.history) own_after
  own_legal mine =
      subst (λ (h : List Entry). AreOwn pass h (length start.history) own_after) (append_assoc start.history known added)
      (own_added pass (length start.history) (start.history ++ known) added own mine (own_later pass (start.history ++ seen) (start.history ++ known) (length start.history) own longer are))
