-- What a completed step of a store that one caller has alone is for its holder.
use Rattle.std.proofs.Common.{◌≡◌, ◌≢◌, ◌∙◌, ℕ, Bool, true, false, List, [], ◌∷◌, ◌++◌, take, Option, Some, None, IfSome, refl, sym, ap, subst}
use Rattle.xet_completion.specs.Completing.{Completes}
use Rattle.xet_folder.specs.Xorbs.{IsListed}
use Rattle.xet_hash.specs.Hash.{sentinel}
use Rattle.xet_hash.specs.Merkle.{xorb_hash}
use Rattle.xet_history.specs.Core.{Core, is_new}
use Rattle.xet_history.specs.Found.{found_run}
use Rattle.xet_history.specs.History.{after_all, complete_entries, query_entries, register_entries}
use Rattle.xet_history.specs.Sound.{IsSound, IsStanding, IsUsableRun}
use Rattle.xet_history.specs.declared.entry.Entry.{Entry}
use Rattle.xet_history.specs.theorems.Standing.{found_stands}
use Rattle.xet_io.specs.Disk.{Files}
use Rattle.xet_shard.specs.Runs.{held_run}
use Rattle.xet_shard_format.specs.Records.{file_record_hash}
use Rattle.xet_shard_format.specs.declared.record.FileDataSequenceEntry.{FileDataSequenceEntry as Segment}
use Rattle.xet_shard_format.specs.declared.record.MDBFileInfo.{MDBFileInfo}
use Rattle.xet_store.specs.Recorded.{RecordedState, core_of}
use Rattle.xet_store.specs.Steps.{Steps}
use Rattle.xet_store.specs.theorems.Joining.{steps_both}
use Rattle.xet_store.specs.Alone.{IsAlone, alone_of}
use Rattle.xet_store.specs.Holders.{Holder, core_at, core_found, grown}
use Rattle.xet_store.specs.Stepping.{SawComplete, SawQuery, SawRegister}
use Rattle.xet_store.proofs.Growing.{core_seen, found_alone, holder_grown}
use Rattle.xet_store.proofs.Steps.{limits_now}

-- a query leads to the same core
query_leads : (c : Core) (pass : ℕ) (hashes : List (List ℕ)) (reply : Option (ℕ × Segment)) → c ≡ after_all c (query_entries pass hashes reply)
query_leads c pass [] reply = refl
query_leads c pass (h ∷ hs) reply = refl

-- the run that was found in a sound core stands
standing_of : (files : Files) (folder : List ℕ) (c : Core) → IsSound files folder c → (hashes : List (List ℕ)) (reply : Option (ℕ × Segment)) → reply ≡ found_run c hashes → IfSome reply (λ run. IsStanding c (take run.0 hashes) run.1)
standing_of files folder c sound hashes None is = tt
standing_of files folder c sound hashes (Some run) is = found_stands files folder c sound hashes run (sym is)

module _ (start now new : RecordedState) (is : IsAlone start now false) where
  abbrev before : Holder
  before = alone_of start now false

  abbrev after : Holder
  after = alone_of start new false

  told_now : start.store.tells ≡ true → now.store.tells ≡ true
  told_now told = is.steps.keeps.tells ∙ told

  abbrev c : Core
  c = core_of now

  found_is : core_found before [] ≡ c
  found_is = found_alone start now false false is

  -- the core that it has seen after the step
  core_both : (added : List Entry) → Steps now new added → core_at after ≡ core_of new
  core_both added steps = core_seen start new false (is.since ++ added) (steps_both start now new is.since added is.steps steps)

  pub saw_query : (hashes : List (List ℕ)) (reply : Option (ℕ × Segment)) → Steps now new (query_entries 0 hashes reply) → IfSome reply (IsUsableRun now.store.xorbs hashes)
      → ((run : ℕ × Segment) → held_run now.store.pending.blocks hashes ≡ Some run → reply ≡ Some run) → (now.store.tells ≡ true → reply ≡ found_run c hashes) → (now.store.tells ≡ true → IsSound now.store.files now.store.folder c) → SawQuery hashes before after reply
  saw_query hashes reply steps usable pending found sound = record {
    others = [];
    going = refl;
    is = holder_grown start now new (query_entries 0 hashes reply) is steps;
    usable = subst (λ (d : Core). IfSome reply (IsUsableRun d.xorbs hashes)) (sym same) usable;
    pending = λ run is. pending run (ap (λ (d : Core). held_run d.pending.blocks hashes) (sym same) ∙ is);
    found = λ told. found (told_now told) ∙ ap (λ (d : Core). found_run d hashes) (sym same);
    stands = λ told. let now_told : now.store.tells ≡ true = told_now told in
        subst (λ (d : Core). IfSome reply (λ run. IsStanding d (take run.0 hashes) run.1)) (sym same) (standing_of now.store.files now.store.folder c (sound now_told) hashes reply (found now_told));
  }
    where
      same : core_at after ≡ c
      same = core_both (query_entries 0 hashes reply) steps ∙ steps.moves.leads ∙ sym (query_leads c 0 hashes reply)

  pub saw_register : (leaves next : List (List ℕ × ℕ)) (added : Bool) → Steps now new (register_entries 0 c now.store.limits.shard_target leaves next)
      → added ≡ is_new now.store.xorbs (xorb_hash leaves) → IsListed new.store.xorbs (xorb_hash leaves) leaves → xorb_hash leaves ≢ sentinel → SawRegister leaves next before after added
  saw_register leaves next added steps new_hash listed named = record {
    others = [];
    going = refl;
    is = holder_grown start now new (register_entries 0 c now.store.limits.shard_target leaves next) is steps
        ∙ ap (λ (es : List Entry). grown before [] es) (λ i. register_entries 0 (sym found_is i) (limits_now start now is new i).shard_target leaves next);
    new_hash = new_hash ∙ ap (λ (d : Core). is_new d.xorbs (xorb_hash leaves)) (sym found_is);
    listed = subst (λ (d : Core). IsListed d.xorbs (xorb_hash leaves) leaves) (sym (core_both (register_entries 0 c now.store.limits.shard_target leaves next) steps)) listed;
    named = named;
  }

  pub saw_complete : (file : MDBFileInfo) (added : Bool) → Steps now new (complete_entries 0 c now.store.limits.shard_target file) → added ≡ is_new now.store.records (file_record_hash file) → Completes now.store.xorbs file
      → SawComplete file before after added
  saw_complete file added steps new_hash can = record {
    others = [];
    going = refl;
    is = holder_grown start now new (complete_entries 0 c now.store.limits.shard_target file) is steps
        ∙ ap (λ (es : List Entry). grown before [] es) (λ i. complete_entries 0 (sym found_is i) (limits_now start now is new i).shard_target file);
    new_hash = new_hash ∙ ap (λ (d : Core). is_new d.records (file_record_hash file)) (sym found_is);
    can = subst (λ (d : Core). Completes d.xorbs file) (sym found_is) can;
  }
