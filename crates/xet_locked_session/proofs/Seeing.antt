-- What a completed step is for the pass that made it.
use Rattle.std.proofs.Common.{◌≡◌, ◌∙◌, ℕ, Bool, true, List, [], ◌∷◌, ◌++◌, length, take, Option, Some, None, IfSome, refl, sym, ap, subst}
use mathlib.Core.List.{IsPrefix}
use Rattle.xet_completion.specs.Completing.{Completes}
use Rattle.xet_folder.specs.Xorbs.{IsListed}
use Rattle.xet_hash.specs.Merkle.{xorb_hash}
use Rattle.xet_history.specs.Core.{Core, is_new}
use Rattle.xet_history.specs.Found.{found_run}
use Rattle.xet_history.specs.History.{after_all, complete_entries, flush_entries, query_entries, register_entries}
use Rattle.xet_history.specs.Sound.{IsSound, IsStanding, IsUsableRun}
use Rattle.xet_history.specs.declared.entry.Entry.{Entry}
use Rattle.xet_history.specs.theorems.Standing.{found_stands}
use Rattle.xet_io.specs.Disk.{Files}
use Rattle.xet_shard.specs.Runs.{held_run}
use Rattle.xet_shard_format.specs.Records.{file_record_hash}
use Rattle.xet_shard_format.specs.declared.record.FileDataSequenceEntry.{FileDataSequenceEntry as Segment}
use Rattle.xet_shard_format.specs.declared.record.MDBFileInfo.{MDBFileInfo}
use Rattle.xet_shared_history.specs.Owned.{AreOwn}
use Rattle.xet_store.specs.Recorded.{IsRecorded, RecordedState, core_of}
use Rattle.xet_store.specs.theorems.Sound.{sound_core}
use Rattle.xet_store.specs.Holders.{Holder, core_at, core_found, grown}
use Rattle.xet_store.specs.Stepping.{SawComplete, SawQuery, SawRegister}
use Rattle.xet_store_disk.specs.Store.{Sound}
use Rattle.xet_locked_session.specs.Passes.{SawFlush, flushed_hash}
use Rattle.xet_locked_session.specs.Session.{IsSince}
use Rattle.xet_locked_session.specs.internal.Made.{Completed, Flushed, Queried, Registered}
use Rattle.xet_locked_session.proofs.Growing.{after, before, core_is, found_is, grown_is}

-- a query leads to the same core
query_leads : (c : Core) (pass : ℕ) (hashes : List (List ℕ)) (reply : Option (ℕ × Segment)) → c ≡ after_all c (query_entries pass hashes reply)
query_leads c pass [] reply = refl
query_leads c pass (h ∷ hs) reply = refl

-- the run that was found in a sound core stands
standing_of : (files : Files) (folder : List ℕ) (c : Core) → IsSound files folder c → (hashes : List (List ℕ)) (reply : Option (ℕ × Segment)) → reply ≡ found_run c hashes → IfSome reply (λ run. IsStanding c (take run.0 hashes) run.1)
standing_of files folder c sound hashes None is = tt
standing_of files folder c sound hashes (Some run) is = found_stands files folder c sound hashes run (sym is)

module _ (start now new : RecordedState) (is : IsSince start now) (pass : ℕ) (own : List ℕ) (seen known : List Entry) (at : now.history ≡ start.history ++ known) (prefix : IsPrefix seen known)
    (are : AreOwn pass (start.history ++ seen) (length start.history) own) where
  limits_now : now.store.limits ≡ start.store.limits
  limits_now = is.steps.keeps.limits

  module _ (hashes : List (List ℕ)) (reply : Option (ℕ × Segment)) (queried : Queried pass hashes now new reply) (recorded : IsRecorded now) (sound : Sound now.store) where
    abbrev entries : List Entry
    entries = query_entries pass hashes reply

    abbrev old_pass : Holder
    old_pass = before start now new is pass own seen known entries queried.steps at prefix are

    abbrev new_pass : Holder
    new_pass = after start now new is pass own seen known entries queried.steps at prefix are

    same : core_at new_pass ≡ core_of now
    same = core_is start now new is pass own seen known entries queried.steps at prefix are ∙ queried.steps.moves.leads ∙ sym (query_leads (core_of now) pass hashes reply)

    told_now : start.store.tells ≡ true → now.store.tells ≡ true
    told_now told = is.steps.keeps.tells ∙ told

    pub saw_query : SawQuery hashes old_pass new_pass reply
    saw_query = record {
      others = prefix.0;
      going = refl;
      is = grown_is start now new is pass own seen known entries queried.steps at prefix are;
      usable = subst (λ (d : Core). IfSome reply (IsUsableRun d.xorbs hashes)) (sym same) queried.usable;
      pending = λ run held. queried.pending run (ap (λ (d : Core). held_run d.pending.blocks hashes) (sym same) ∙ held);
      found = λ told. queried.found (told_now told) ∙ ap (λ (d : Core). found_run d hashes) (sym same);
      stands = λ told. let there : now.store.tells ≡ true = told_now told in
          subst (λ (d : Core). IfSome reply (λ run. IsStanding d (take run.0 hashes) run.1)) (sym same)
          (standing_of now.store.files now.store.folder (core_of now) (sound_core now sound recorded there) hashes reply (queried.found there));
    }

  module _ (leaves next : List (List ℕ × ℕ)) (added : Bool) (registered : Registered pass leaves next now new added) where
    abbrev register : List Entry
    register = register_entries pass (core_of now) now.store.limits.shard_target leaves next

    abbrev register_old : Holder
    register_old = before start now new is pass own seen known register registered.steps at prefix are

    register_found : core_found register_old prefix.0 ≡ core_of now
    register_found = found_is start now new is pass own seen known register registered.steps at prefix are

    pub saw_register : SawRegister leaves next register_old (after start now new is pass own seen known register registered.steps at prefix are) added
    saw_register = record {
      others = prefix.0;
      going = refl;
      is = grown_is start now new is pass own seen known register registered.steps at prefix are
          ∙ ap (λ (es : List Entry). grown register_old prefix.0 es) (λ i. register_entries pass (sym register_found i) (limits_now i).shard_target leaves next);
      new_hash = registered.new_hash ∙ ap (λ (d : Core). is_new d.xorbs (xorb_hash leaves)) (sym register_found);
      listed = subst (λ (d : Core). IsListed d.xorbs (xorb_hash leaves) leaves) (sym (core_is start now new is pass own seen known register registered.steps at prefix are)) registered.listed;
      named = registered.named;
    }

  module _ (file : MDBFileInfo) (added : Bool) (completed : Completed pass file now new added) where
    abbrev complete : List Entry
    complete = complete_entries pass (core_of now) now.store.limits.shard_target file

    abbrev complete_old : Holder
    complete_old = before start now new is pass own seen known complete completed.steps at prefix are

    complete_found : core_found complete_old prefix.0 ≡ core_of now
    complete_found = found_is start now new is pass own seen known complete completed.steps at prefix are

    pub saw_complete : SawComplete file complete_old (after start now new is pass own seen known complete completed.steps at prefix are) added
    saw_complete = record {
      others = prefix.0;
      going = refl;
      is = grown_is start now new is pass own seen known complete completed.steps at prefix are
          ∙ ap (λ (es : List Entry). grown complete_old prefix.0 es) (λ i. complete_entries pass (sym complete_found i) (limits_now i).shard_target file);
      new_hash = completed.new_hash ∙ ap (λ (d : Core). is_new d.records (file_record_hash file)) (sym complete_found);
      can = subst (λ (d : Core). Completes d.xorbs file) (sym complete_found) completed.can;
    }

  module _ (shard : Option (List ℕ)) (flushed : Flushed pass now new shard) where
    abbrev flush : List Entry
    flush = flush_entries pass (core_of now)

    abbrev flush_old : Holder
    flush_old = before start now new is pass own seen known flush flushed.steps at prefix are

    flush_found : core_found flush_old prefix.0 ≡ core_of now
    flush_found = found_is start now new is pass own seen known flush flushed.steps at prefix are

    pub saw_flush : SawFlush flush_old (after start now new is pass own seen known flush flushed.steps at prefix are) shard
    saw_flush = record {
      others = prefix.0;
      is = grown_is start now new is pass own seen known flush flushed.steps at prefix are ∙ ap (λ (c : Core). grown flush_old prefix.0 (flush_entries pass c)) (sym flush_found);
      hash = flushed.hash ∙ ap flushed_hash (sym flush_found);
    }
