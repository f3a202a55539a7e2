-- A step of a pass that failed, as one since the pass began: the last one.
use Rattle.std.proofs.Common.{◌≡◌, ◌⊎◌, inl, ◌∙◌, ℕ, Bool, true, false, List, [], ◌++◌, refl, sym, ap, subst}
use Rattle.std.proofs.lemmas.Bool.{false≢true}
use Rattle.std.proofs.lemmas.List.{append-nil}
use Rattle.xet_completion.specs.Completing.{Completes}
use Rattle.xet_hash.specs.declared.error.StoreError.{StoreError}
use Rattle.xet_hash.specs.declared.error.StoreError.TheVariants.{OutOfMemory}
use Rattle.xet_history.specs.Core.{Core}
use Rattle.xet_history.specs.declared.entry.Entry.{Entry}
use Rattle.xet_history.specs.declared.entry.StepKind.{StepKind}
use Rattle.xet_locked_session.specs.Passes.{OtherFile, StepFailed}
use Rattle.xet_shard_format.specs.declared.record.MDBFileInfo.{MDBFileInfo}
use Rattle.xet_store.specs.Steps.{fault_entries}
use Rattle.xet_store.specs.Holders.{Follows, Holder, core_found, ended, grown}
use Rattle.xet_store.specs.Stepping.{IsStepReason, SawError, SawOther}
use Rattle.xet_locked_session.specs.Passing.{passing_of}
use Rattle.xet_locked_session.proofs.Carrying.{found_same, grown_is, number_same, tells_same}

module _ (start old new : Holder) (follows : Follows start old) (e : StoreError) where
  abbrev before : Holder
  before = passing_of start old false

  abbrev after : Holder
  after = passing_of start new true

  ended_is : (others added : List Entry) → new ≡ grown old others added → after ≡ ended before others added
  ended_is others added grew = ap (λ (h : Holder). record h { stopped = true }) (grown_is start old follows new others added grew false)

  pub saw_error : (k : StepKind) (cut : Core → List Entry) → StepFailed k cut old new e → SawError k cut before after e
  saw_error k cut failed =
      let same : core_found before failed.others ≡ core_found old failed.others = found_same start old follows false failed.others in
      record {
        others = failed.others;
        done = failed.done;
        completed = subst (λ (c : Core). (failed.done ≡ []) ⊎ (failed.done ≡ cut c)) (sym same) failed.completed;
        still = λ bad. absurd (false≢true bad);
        is = ended_is failed.others (failed.done ++ fault_entries old.number k e) failed.is
            ∙ ap (λ (n : ℕ). ended before failed.others (failed.done ++ fault_entries n k e)) (number_same start old follows);
        full = failed.full;
        reason = subst (λ (c : Core). IsStepReason k start.tells (cut c) c e) (sym same)
            (subst (λ (t : Bool). IsStepReason k t (cut (core_found old failed.others)) (core_found old failed.others) e) (tells_same start old follows) failed.reason);
      }

  pub saw_other : (file : MDBFileInfo) → OtherFile file old new e → SawOther file before after e
  saw_other file other = record {
    others = other.others;
    going = refl;
    is = ended_is other.others [] other.is;
    error = other.error;
    not = λ can. other.not (subst (λ (c : Core). Completes c.xorbs file) (found_same start old follows false other.others) can);
  }

-- a holder that has stopped makes no step
abbrev with_parts : Holder → List Entry → List (ℕ × Entry) → Holder
with_parts h since own = record h { since = since; own = own; stopped = true }

stopped_parts : (h : Holder) → h.stopped ≡ true → h ≡ ended h [] []
stopped_parts h stopped =
    ap (λ (b : Bool). record h { stopped = b }) stopped
    ∙ ap (λ (s : List Entry). with_parts h s h.own) (sym (append-nil h.since))
    ∙ ap (λ (o : List (ℕ × Entry)). with_parts h (h.since ++ []) o) (sym (append-nil h.own))

pub saw_stopped : (k : StepKind) (cut : Core → List Entry) (h : Holder) → h.stopped ≡ true → SawError k cut h h OutOfMemory
saw_stopped k cut h stopped = record {
  others = [];
  done = [];
  completed = inl refl;
  still = λ s. (refl, refl);
  is = stopped_parts h stopped;
  full = λ bad. refl;
  reason = tt;
}
