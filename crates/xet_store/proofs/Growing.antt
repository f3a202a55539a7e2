-- What a holder has seen after calls, and the calls among its own entries.
use Rattle.std.proofs.Common.{◌≡◌, ◌∙◌, ℕ, ◌+◌, Bool, true, false, List, [], ◌++◌, drop, length, sym, ap, append_assoc, length-append, arith}
use Rattle.std.proofs.Math.Seq.{drop-append_seam}
use Rattle.std.proofs.lemmas.List.{append-nil}
use Rattle.xet_history.specs.History.{after_all}
use Rattle.xet_history.specs.declared.entry.Entry.{Entry}
use Rattle.xet_store.specs.Recorded.{RecordedState, core_of}
use Rattle.xet_store.specs.Steps.{Steps}
use Rattle.xet_store.specs.Alone.{IsAlone, alone_of}
use Rattle.xet_store.specs.Holders.{Holder, core_at, core_found, ended, grown, numbered}
use Rattle.xet_store.specs.theorems.Following.{numbered-append}

-- the entries since the beginning
pub since_is : (first since all : List Entry) → all ≡ first ++ since → drop (length first) all ≡ since
since_is first since all is = ap (λ (h : List Entry). drop (length first) h) is ∙ drop-append_seam first since

-- a store alone, after entries were added to its history
module _ (start now new : RecordedState) (stopped : Bool) (since added : List Entry) (before : now.history ≡ start.history ++ since) (after : new.history ≡ now.history ++ added) where
  abbrev first : ℕ
  first = length start.history

  history_new : new.history ≡ start.history ++ (since ++ added)
  history_new = after ∙ ap (λ (h : List Entry). h ++ added) before ∙ append_assoc start.history since added

  -- the holder with these entries since it began
  abbrev with_since : List Entry → Holder
  with_since es = record (alone_of start now stopped) { since = es; own = numbered first es }

  pub alone_grown : alone_of start new stopped ≡ grown (alone_of start now stopped) [] added
  alone_grown =
      let count : first + length since ≡ length (start.history ++ since) + 0 = omega (arith, length-append start.history since) in
      ap with_since (since_is start.history (since ++ added) new.history history_new)
      ∙ ap (λ (o : List (ℕ × Entry)). record (with_since since) { since = since ++ added; own = o })
      (numbered-append first since added ∙ ap (λ (k : ℕ). numbered first since ++ numbered k added) count)
      ∙ ap (λ (es : List Entry). record (with_since es) { since = es ++ ([] ++ added); own = numbered first es ++ numbered (length (start.history ++ es) + 0) added }) (sym (since_is start.history since now.history before))

-- the core that it has seen is that of the store
pub core_seen : (start now : RecordedState) (stopped : Bool) (since : List Entry) → Steps start now since → core_at (alone_of start now stopped) ≡ core_of now
core_seen start now stopped since steps = ap (after_all (core_of start)) (since_is start.history since now.history steps.moves.history) ∙ sym steps.moves.leads

pub core_alone : (start now : RecordedState) (stopped was : Bool) → IsAlone start now was → core_at (alone_of start now stopped) ≡ core_of now
core_alone start now stopped was is = core_seen start now stopped is.since is.steps

pub found_alone : (start now : RecordedState) (stopped was : Bool) → IsAlone start now was → core_found (alone_of start now stopped) [] ≡ core_of now
found_alone start now stopped was is = ap (after_all (core_of start)) (append-nil (drop (length start.history) now.history)) ∙ core_alone start now stopped was is

-- what it has seen after a step
pub holder_grown : (start now new : RecordedState) (added : List Entry) → IsAlone start now false → Steps now new added → alone_of start new false ≡ grown (alone_of start now false) [] added
holder_grown start now new added is steps = alone_grown start now new false is.since added is.steps.moves.history steps.moves.history

-- and after one that failed
pub holder_ended : (start now new : RecordedState) (added : List Entry) → IsAlone start now false → Steps now new added → alone_of start new true ≡ ended (alone_of start now false) [] added
holder_ended start now new added is steps = ap (λ (h : Holder). record h { stopped = true }) (holder_grown start now new added is steps)

-- a holder that has stopped makes no step
abbrev with_parts : Holder → List Entry → List (ℕ × Entry) → Holder
with_parts h since own = record h { since = since; own = own; stopped = true }

pub stopped_parts : (h : Holder) → h.stopped ≡ true → h ≡ ended h [] []
stopped_parts h stopped =
    ap (λ (b : Bool). record h { stopped = b }) stopped
    ∙ ap (λ (s : List Entry). with_parts h s h.own) (sym (append-nil h.since))
    ∙ ap (λ (o : List (ℕ × Entry)). with_parts h (h.since ++ []) o) (sym (append-nil h.own))
