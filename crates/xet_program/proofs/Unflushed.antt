-- `make` in a session: it flushes nothing, so no file is listed newly.
use Rattle.std.proofs.Common.{◌≡◌, ℕ, Bool, true, false, List, [], ◌∷◌, length, Result, Ok, Err, IfOk, OnOk, Vec, Global, subst, sym}
use Rattle.std.specs.List.{AllByRecursion}
use Rattle.std.specs.Result.{IsOkAnd}
use Rattle.xet_cut.specs.declared.limits.LimitSettings.{LimitSettings}
use Rattle.xet_history.specs.declared.entry.Entry.{Entry}
use Rattle.xet_io.specs.Disk.{Files}
use Rattle.xet_store.specs.Recorded.{RecordedState}
use Rattle.xet_store_disk.specs.Opening.{IsOpened}
use Rattle.xet_store_disk.specs.Store.{State}
use Rattle.xet_store_disk.specs.declared.info.XetFileInfo.{XetFileInfo}
use Rattle.xet_program.specs.Stored.{AreStored}
use Rattle.xet_program.specs.Tasks.{store_folder}
use Rattle.xet_program.specs.declared.ending.Stop.{Stop}
use Rattle.xet_program.specs.declared.make.ChunkCounts.{ChunkCounts}
use Rattle.xet_program.specs.internal.Cleaned.{AreCleaned}
use Rattle.xet_program.specs.internal.Made.{FitsPending, IsNoFlush, Pends, counts_text}
use Rattle.xet_program.specs.internal.Steps.{ListsNoOther}
use Rattle.xet_program.proofs.Cleaned.{cleaned_files}
use Rattle.xet_program.proofs.Making.{none_recorded}
use Rattle.xet_program.proofs.Only.{no_other_both, no_other_unflushed}

-- one file in memory, whose records fit into what is pending
module _ (bytes : List ℕ) (old new : RecordedState) (infos : List XetFileInfo) (c : AreCleaned (λ _. true) (λ f. f) (bytes ∷ []) old new infos) (room : FitsPending old.store (bytes ∷ [])) where
  uncut_one : AllByRecursion IsNoFlush c.entries × Pends c.files old.store new.store
  uncut_one = c.uncut (subst (λ (fs : List (List ℕ)). FitsPending old.store fs) (sym (cleaned_files (bytes ∷ []) old new infos c)) room)

  pub other_one : old.store.folder ≡ store_folder → old.store.tells ≡ true → ListsNoOther old.store [] new.store
  other_one named told = no_other_unflushed old new c.entries c.by.changes uncut_one.0 named told

  pub pends_one : Pends (bytes ∷ []) old.store new.store
  pends_one = subst (λ (fs : List (List ℕ)). Pends fs old.store new.store) (cleaned_files (bytes ∷ []) old new infos c) uncut_one.1

-- there is an answer only if the second file was stored
pub answer_other : (X : Type 0) (first : ChunkCounts) (xorbs : ℕ) (second : Result ChunkCounts Stop) (r : Result (Vec ℕ Global) Stop) → OnOk second X → IfOk r (λ text. IsOkAnd second (λ counts. text.items ≡ counts_text first counts xorbs)) → OnOk r X
answer_other X first xorbs second (Err e) x text = tt
answer_other X first xorbs (Ok counts) (Ok t) x text = x
answer_other X first xorbs (Err e) (Ok t) x text = absurd text

pub other_both : (a b c : State) (r : Result (Vec ℕ Global) Stop) → b.opened ≡ a.opened → ListsNoOther a [] b → OnOk r (ListsNoOther b [] c) → OnOk r (ListsNoOther a [] c)
other_both a b c (Ok t) opened first second = no_other_both a b c opened first second
other_both a b c (Err e) opened first second = tt

-- so `make` records nothing
pub none_stored_on : (tells : Bool) (disk files : Files) (limits : LimitSettings) (now : ℕ) (s t : State) → IsOpened tells false disk store_folder limits now s → files ≡ t.files → (r : Result (Vec ℕ Global) Stop)
    → OnOk r (ListsNoOther s [] t) → OnOk r (AreStored limits [] now disk files)
none_stored_on tells disk files limits now s t opened is (Ok v) other = none_recorded tells disk files limits now s t opened is other
none_stored_on tells disk files limits now s t opened is (Err e) other = tt
