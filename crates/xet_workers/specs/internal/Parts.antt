-- What workers made, as parts of the sources that may be merged.
use Rattle.std.specs.Prelude.{◌≡◌, ℕ, suc, false, List, [], ◌∷◌}
use Rattle.std.specs.List.{AllByRecursion}
use Rattle.xet_clean.specs.Merging.{Part}
use Rattle.xet_clean.specs.Working.{IsWorking}
use Rattle.xet_clean.specs.declared.policy.Sha256Policy.TheVariants.{Compute}
use Rattle.xet_clean.specs.declared.working.Working.{Working}
use Rattle.xet_locked_session.specs.Passing.{passing_of}
use Rattle.xet_store.specs.Holders.{Holder}
use Rattle.xet_store.specs.Recorded.{RecordedState}
use Rattle.xet_workers.specs.Workers.{HasPassed, Worked, worked}

-- The part is what the worker made whose pass has this number. The SHA-256 of each file was computed.
pub record IsPartBy (store : RecordedState) (number : ℕ) (w : Worked) (p : Part) : Type 0 where
  pub begun : Holder
  pub passed : HasPassed store number begun w.pass false
  pub start : p.start ≡ passing_of begun begun false
  pub end : p.end ≡ passing_of begun w.pass false
  pub infos : p.infos ≡ w.infos
  pub choices : p.choices ≡ w.choices
  pub metrics : p.metrics ≡ w.metrics
  pub left : p.left ≡ w.left
  pub policies : AllByRecursion (λ f. f.policy ≡ Compute) p.files
  pub working : IsWorking p.start p.end p.files p.infos p.choices p.metrics p.left

-- the same of several, whose passes have consecutive numbers from this one on
abbrev pub ArePartsBy : RecordedState → ℕ → List Worked → List Part → Type 0
ArePartsBy store number [] [] = Unit {0}
ArePartsBy store number [] (p ∷ ps) = ⊥
ArePartsBy store number (w ∷ ws) [] = ⊥
ArePartsBy store number (w ∷ ws) (p ∷ ps) = IsPartBy store number w p × ArePartsBy store (suc number) ws ps

-- workers, of their passes and of what they made
abbrev pub all_worked : List Holder → List Working → List Worked
all_worked [] ws = []
all_worked (h ∷ hs) [] = []
all_worked (h ∷ hs) (w ∷ ws) = worked h w ∷ all_worked hs ws
