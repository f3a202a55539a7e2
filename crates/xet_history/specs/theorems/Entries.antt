-- The entries that each step adds are legal, and lead to the core after it.
use Rattle.std.proofs.Common.{◌≡◌, ◌∙◌, ℕ, ◌+◌, Bool, true, false, List, [], ◌∷◌, ◌++◌, Option, refl, sym, ap, append_assoc}
use Rattle.std.specs.Prelude.{◌&&◌, nat_lt, if◌then◌else◌}
use Rattle.xet_hash.specs.Merkle.{xorb_hash}
use Rattle.xet_shard.specs.Held.{held_size}
use Rattle.xet_shard_format.specs.RecordSizes.{file_record_size, xorb_record_size}
use Rattle.xet_shard_format.specs.Records.{file_record_hash}
use Rattle.xet_shard_format.specs.declared.record.FileDataSequenceEntry.{FileDataSequenceEntry as Segment}
use Rattle.xet_shard_format.specs.declared.record.MDBFileInfo.{MDBFileInfo}
use Rattle.xet_xorb.specs.Raw.{xorb_record}
use Rattle.xet_folder.specs.Xorbs.{FileRecords, Xorbs}
use Rattle.xet_history.specs.Core.{Core, completed, flushed, has_pending, is_cut_due, is_new, pending_hash, registered}
use Rattle.xet_history.specs.Found.{found_run}
use Rattle.xet_history.specs.History.{Moves, complete_entries, cut_entries, flush_entries, query_entries, register_entries, reply_of, stated}
use Rattle.xet_history.specs.declared.entry.Entry.{Entry}
use Rattle.xet_history.specs.declared.entry.Entry.TheVariants.{Complete, Flush, Register}
use Rattle.xet_history.specs.theorems.Finding.{stated_suffice}
use Rattle.xet_history.specs.theorems.Joining.{moves_both}
use Rattle.xet_history.specs.theorems.Staying.{Leaves, completed_same, registered_same}

-- the core after a flush, if something was pending
abbrev pub after_flush : Core → Core
after_flush c = if has_pending c then flushed c else c

-- the core after a cut, if one was due before a record of this many bytes
abbrev pub after_cut : Core → ℕ → ℕ → Core
after_cut c target bytes = if is_cut_due c target bytes then flushed c else c

abbrev pub after_register : Core → ℕ → Leaves → Core
after_register c target leaves = if is_new c.xorbs (xorb_hash leaves) then registered (after_cut c target (xorb_record_size (xorb_record (xorb_hash leaves) leaves))) leaves else c

abbrev pub after_complete : Core → ℕ → MDBFileInfo → Core
after_complete c target file = if is_new c.records (file_record_hash file) then completed (after_cut c target (file_record_size file)) file else c

-- a cut changes neither what is listed nor what is recorded
pub cut_xorbs : (c : Core) (target bytes : ℕ) → (after_cut c target bytes).xorbs ≡ c.xorbs
cut_xorbs c target bytes = go (is_cut_due c target bytes)
  where
    go : (b : Bool) → (let d : Core = if b then flushed c else c in d.xorbs) ≡ c.xorbs
    go true = refl
    go false = refl

pub cut_records : (c : Core) (target bytes : ℕ) → (after_cut c target bytes).records ≡ c.records
cut_records c target bytes = go (is_cut_due c target bytes)
  where
    go : (b : Bool) → (let d : Core = if b then flushed c else c in d.records) ≡ c.records
    go true = refl
    go false = refl

pub due_has_pending : (c : Core) (target bytes : ℕ) → is_cut_due c target bytes ≡ true → has_pending c ≡ true
due_has_pending c target bytes due = go (has_pending c) (nat_lt target (held_size c.pending + bytes)) due
  where
    go : (some past : Bool) → (some && past) ≡ true → some ≡ true
    go true past e = refl
    go false past e = e

module _ (tells : Bool) (pass : ℕ) (c : Core) (history : List Entry) where
  -- the entries lead to this core, at the end of the history
  abbrev pub Adds : List Entry → Core → Type 0
  Adds added d = Moves tells c d history (history ++ added) added

  flush_if : (b : Bool) → (b ≡ true → has_pending c ≡ true) → Adds (if b then Flush pass (pending_hash c) ∷ [] else []) (if b then flushed c else c)
  flush_if true some = record { history = refl; legal = ((some refl, refl), tt); leads = refl }
  flush_if false some = record { history = refl; legal = tt; leads = refl }

  pub flush_adds : Adds (flush_entries pass c) (after_flush c)
  flush_adds = flush_if (has_pending c) (λ e. e)

  pub cut_adds : (target bytes : ℕ) → Adds (cut_entries pass c target bytes) (after_cut c target bytes)
  cut_adds target bytes = flush_if (is_cut_due c target bytes) (due_has_pending c target bytes)

  pub query_adds : (hashes : List (List ℕ)) (run : Option (ℕ × Segment)) → (tells ≡ true → run ≡ found_run c hashes) → Adds (query_entries pass hashes run) c
  query_adds [] run is = record { history = refl; legal = tt; leads = refl }
  query_adds (h ∷ hs) run is = record { history = refl; legal = (λ told. reply told, tt); leads = refl }
    where
      reply : tells ≡ true → reply_of run ≡ reply_of (found_run c (stated (h ∷ hs) run))
      reply told =
          let found : run ≡ found_run c (h ∷ hs) = is told in
          ap reply_of found ∙ ap reply_of (sym (stated_suffice c (h ∷ hs))) ∙ ap (λ (o : Option (ℕ × Segment)). reply_of (found_run c (stated (h ∷ hs) o))) (sym found)

  pub register_adds : (target : ℕ) (leaves next : Leaves) → Adds (register_entries pass c target leaves next) (after_register c target leaves)
  register_adds target leaves next = go (is_new c.xorbs (xorb_hash leaves)) refl
    where
      go : (b : Bool) → is_new c.xorbs (xorb_hash leaves) ≡ b
          → Adds (if b then cut_entries pass c target (xorb_record_size (xorb_record (xorb_hash leaves) leaves)) ++ Register pass leaves next true ∷ [] else Register pass leaves next false ∷ [])
          (if b then registered (after_cut c target (xorb_record_size (xorb_record (xorb_hash leaves) leaves))) leaves else c)
      go true new =
          let bytes : ℕ = xorb_record_size (xorb_record (xorb_hash leaves) leaves) in
          let added : List Entry = cut_entries pass c target bytes in
          let cut : Core = after_cut c target bytes in
          moves_both tells c cut (registered cut leaves) history (history ++ added) (history ++ (added ++ Register pass leaves next true ∷ [])) added (Register pass leaves next true ∷ []) (cut_adds target bytes) (record {
            history = sym (append_assoc history added (Register pass leaves next true ∷ []));
            legal = (sym (ap (λ (x : Xorbs). is_new x (xorb_hash leaves)) (cut_xorbs c target bytes) ∙ new), tt);
            leads = refl;
          })
      go false old = record { history = refl; legal = (sym old, tt); leads = sym (registered_same c leaves old) }

  pub complete_adds : (target : ℕ) (file : MDBFileInfo) → Adds (complete_entries pass c target file) (after_complete c target file)
  complete_adds target file = go (is_new c.records (file_record_hash file)) refl
    where
      go : (b : Bool) → is_new c.records (file_record_hash file) ≡ b → Adds (if b then cut_entries pass c target (file_record_size file) ++ Complete pass file true ∷ [] else Complete pass file false ∷ [])
          (if b then completed (after_cut c target (file_record_size file)) file else c)
      go true new =
          let bytes : ℕ = file_record_size file in
          let added : List Entry = cut_entries pass c target bytes in
          let cut : Core = after_cut c target bytes in
          moves_both tells c cut (completed cut file) history (history ++ added) (history ++ (added ++ Complete pass file true ∷ [])) added (Complete pass file true ∷ []) (cut_adds target bytes) (record {
            history = sym (append_assoc history added (Complete pass file true ∷ []));
            legal = (sym (ap (λ (r : FileRecords). is_new r (file_record_hash file)) (cut_records c target bytes) ∙ new), tt);
            leads = refl;
          })
      go false old = record { history = refl; legal = (sym old, tt); leads = sym (completed_same c file old) }
