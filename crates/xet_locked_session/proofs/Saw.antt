-- A completed step of a pass, as one since the pass began.
use Rattle.std.proofs.Common.{◌≡◌, ◌∙◌, ℕ, Bool, true, false, List, take, Option, IfSome, refl, sym, ap, subst}
use Rattle.xet_completion.specs.Completing.{Completes}
use Rattle.xet_folder.specs.Xorbs.{IsListed}
use Rattle.xet_hash.specs.Merkle.{xorb_hash}
use Rattle.xet_history.specs.Core.{Core, is_new}
use Rattle.xet_history.specs.Found.{found_run}
use Rattle.xet_history.specs.History.{complete_entries, query_entries, register_entries}
use Rattle.xet_history.specs.Sound.{IsStanding, IsUsableRun}
use Rattle.xet_history.specs.declared.entry.Entry.{Entry}
use Rattle.xet_shard.specs.Runs.{held_run}
use Rattle.xet_shard_format.specs.Records.{file_record_hash}
use Rattle.xet_shard_format.specs.declared.record.FileDataSequenceEntry.{FileDataSequenceEntry as Segment}
use Rattle.xet_shard_format.specs.declared.record.MDBFileInfo.{MDBFileInfo}
use Rattle.xet_store.specs.Holders.{Follows, Holder, core_at, core_found, grown}
use Rattle.xet_store.specs.Stepping.{SawComplete, SawQuery, SawRegister}
use Rattle.xet_locked_session.specs.Passing.{passing_of}
use Rattle.xet_locked_session.proofs.Carrying.{core_same, follows_new, found_same, grown_is, limits_same, number_same, tells_same}

module _ (start old new : Holder) (follows : Follows start old) where
  abbrev before : Holder
  before = passing_of start old false

  abbrev after : Holder
  after = passing_of start new false

  core_new : (others added : List Entry) → new ≡ grown old others added → core_at after ≡ core_at new
  core_new others added grew = core_same start new (follows_new start old follows new others added grew) false

  pub saw_query : (hashes : List (List ℕ)) (reply : Option (ℕ × Segment)) → SawQuery hashes old new reply → SawQuery hashes before after reply
  saw_query hashes reply saw =
      let same : core_at after ≡ core_at new = core_new saw.others (query_entries old.number hashes reply) saw.is in
      let told : start.tells ≡ true → old.tells ≡ true = λ t. tells_same start old follows ∙ t in
      record {
        others = saw.others;
        going = refl;
        is = grown_is start old follows new saw.others (query_entries old.number hashes reply) saw.is false ∙ ap (λ (n : ℕ). grown before saw.others (query_entries n hashes reply)) (number_same start old follows);
        usable = subst (λ (d : Core). IfSome reply (IsUsableRun d.xorbs hashes)) (sym same) saw.usable;
        pending = λ run held. saw.pending run (ap (λ (d : Core). held_run d.pending.blocks hashes) (sym same) ∙ held);
        found = λ t. saw.found (told t) ∙ ap (λ (d : Core). found_run d hashes) (sym same);
        stands = λ t. subst (λ (d : Core). IfSome reply (λ run. IsStanding d (take run.0 hashes) run.1)) (sym same) (saw.stands (told t));
      }

  pub saw_register : (leaves next : List (List ℕ × ℕ)) (added : Bool) → SawRegister leaves next old new added → SawRegister leaves next before after added
  saw_register leaves next added saw =
      let entries : List Entry = register_entries old.number (core_found old saw.others) old.limits.shard_target leaves next in
      let same : core_found before saw.others ≡ core_found old saw.others = found_same start old follows false saw.others in
      record {
        others = saw.others;
        going = refl;
        is = grown_is start old follows new saw.others entries saw.is false
            ∙ ap (λ (es : List Entry). grown before saw.others es) (λ i. register_entries (number_same start old follows i) (sym same i) (limits_same start old follows i).shard_target leaves next);
        new_hash = saw.new_hash ∙ ap (λ (d : Core). is_new d.xorbs (xorb_hash leaves)) (sym same);
        listed = subst (λ (d : Core). IsListed d.xorbs (xorb_hash leaves) leaves) (sym (core_new saw.others entries saw.is)) saw.listed;
        named = saw.named;
      }

  pub saw_complete : (file : MDBFileInfo) (added : Bool) → SawComplete file old new added → SawComplete file before after added
  saw_complete file added saw =
      let same : core_found before saw.others ≡ core_found old saw.others = found_same start old follows false saw.others in
      record {
        others = saw.others;
        going = refl;
        is = grown_is start old follows new saw.others (complete_entries old.number (core_found old saw.others) old.limits.shard_target file) saw.is false
            ∙ ap (λ (es : List Entry). grown before saw.others es) (λ i. complete_entries (number_same start old follows i) (sym same i) (limits_same start old follows i).shard_target file);
        new_hash = saw.new_hash ∙ ap (λ (d : Core). is_new d.records (file_record_hash file)) (sym same);
        can = subst (λ (d : Core). Completes d.xorbs file) (sym same) saw.can;
      }
