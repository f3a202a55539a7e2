-- What the recording of a file makes of the core.
use Rattle.std.proofs.Common.{◌≡◌, ◌∙◌, ℕ, arith, Bool, true, false, List, [], ◌∷◌, ◌++◌, Option, None, is_some, refl, sym, ap, subst}
use Rattle.std.specs.Prelude.{if◌then◌else◌}
use Rattle.xet_io.specs.Disk.{Files}
use Rattle.xet_shard.specs.Held.{Held, held, with_last}
use Rattle.xet_shard_format.specs.RecordSizes.{file_record_size}
use Rattle.xet_shard_format.specs.Records.{IsFile, file_record_hash}
use Rattle.xet_shard_format.specs.declared.record.MDBFileInfo.{MDBFileInfo}
use Rattle.xet_cut.specs.declared.limits.LimitSettings.{LimitSettings}
use Rattle.xet_folder.specs.Contents.{IsRecord}
use Rattle.xet_folder.specs.Xorbs.{IsListed, Xorbs, found}
use Rattle.xet_completion.specs.Completing.{Completes}
use Rattle.xet_completion.specs.theorems.Files.{total_resolved}
use Rattle.xet_history.specs.Core.{Core, completed, is_new}
use Rattle.xet_history.specs.History.{complete_entries, cut_entries}
use Rattle.xet_history.specs.declared.entry.Entry.{Entry}
use Rattle.xet_history.specs.declared.entry.Entry.TheVariants.{Complete}
use Rattle.xet_history.specs.theorems.Staying.{completed_new, completed_same, new_if_none}
use Rattle.xet_store_disk.specs.Cleaning.{Keeps}
use Rattle.xet_store_disk.specs.Store.{IsNewFile, State}
use Rattle.xet_store_disk.specs.Tables.{Tables, tables, tables_of, with_record}
use Rattle.xet_store_disk.specs.theorems.Keeping.{keeps_nothing}
use Rattle.xet_store.specs.Recorded.{RecordedState, core_of, recorded_state, with_contents}
use Rattle.xet_store.specs.Steps.{Steps}
use Rattle.xet_store.proofs.Joining.{steps_then}
use Rattle.xet_store.proofs.Moving.{contents_kept}

-- a file that is recorded
module _ (s : RecordedState) (pass target : ℕ) (file : MDBFileInfo) (old : is_new s.store.records (file_record_hash file) ≡ false) where
  pub steps_recorded : Steps s (record s { history = s.history ++ Complete pass file false ∷ [] }) (complete_entries pass (core_of s) target file)
  steps_recorded =
      let due : List Entry = cut_entries pass (core_of s) target (file_record_size file) in
      let entries : complete_entries pass (core_of s) target file ≡ Complete pass file false ∷ [] =
      ap (λ (b : Bool). if b then due ++ Complete pass file true ∷ [] else Complete pass file false ∷ []) old in
      subst (λ (es : List Entry). Steps s (record s { history = s.history ++ Complete pass file false ∷ [] }) es) (sym entries)
      (record { moves = record { history = refl; legal = (sym old, tt); leads = sym (completed_same (core_of s) file old) }; keeps = keeps_nothing s.store; shards = λ are. are })

-- a file that is not recorded
module _ (files : Files) (old new : State) (flushed : List (Option Held)) (history : List Entry) (keeps : Keeps old new) (file : MDBFileInfo) (none : found old.records (file_record_hash file) ≡ None)
    (stores : tables_of new ≡ with_record (tables_of old) file) (shards : new.shards ≡ old.shards) where
  abbrev core : Core
  core = core_of (recorded_state old files flushed history)

  abbrev more : Tables
  more = tables old.xorbs (old.records ++ (file_record_hash file, file) ∷ []) (held old.pending.blocks (with_last file_record_hash old.pending.files file))

  tables_are : tables_of new ≡ more
  tables_are = stores ∙ ap (λ (o : Option MDBFileInfo). if is_some o then tables_of old else more) none

  core_completed : (es : List Entry) → core_of (recorded_state new files flushed es) ≡ completed core file
  core_completed es = both ∙ sym (completed_new core file (new_if_none old.records (file_record_hash file) none))
    where
      both : core_of (recorded_state new files flushed es) ≡ record core { records = more.records; pending = more.pending }
      both = λ i. record {
        xorbs = (tables_are i).xorbs;
        records = (tables_are i).records;
        pending = (tables_are i).pending;
        shards = with_contents files (keeps.folder i) (keeps.opened i) (shards i) flushed;
        opened = keeps.opened i;
        index_cap = ap (λ (l : LimitSettings). l.index_cap) keeps.limits i;
      }

  pub steps_added : (pass : ℕ) (es : List Entry) → es ≡ history ++ Complete pass file true ∷ []
      → Steps (recorded_state old files flushed history) (recorded_state new files flushed es) (Complete pass file true ∷ [])
  steps_added pass es added = record {
    moves = record { history = added; legal = (sym (new_if_none old.records (file_record_hash file) none), tt); leads = core_completed es };
    keeps = keeps;
    shards = λ are. contents_kept files old new flushed keeps shards are;
  }

-- the cut and then the file
pub steps_completed : (a b c : RecordedState) (pass target bytes : ℕ) (file : MDBFileInfo) → found a.store.records (file_record_hash file) ≡ None → bytes ≡ file_record_size file
    → Steps a b (cut_entries pass (core_of a) target bytes) → Steps b c (Complete pass file true ∷ []) → Steps a c (complete_entries pass (core_of a) target file)
steps_completed a b c pass target bytes file none size first last =
    let whole : List Entry = cut_entries pass (core_of a) target (file_record_size file) ++ Complete pass file true ∷ [] in
    let entries : complete_entries pass (core_of a) target file ≡ whole =
    ap (λ (b : Bool). if b then whole else Complete pass file false ∷ []) (new_if_none a.store.records (file_record_hash file) none) in
    subst (λ (es : List Entry). Steps a c es) (sym entries)
    (steps_then a b c (cut_entries pass (core_of a) target (file_record_size file)) (Complete pass file true ∷ []) (subst (λ (n : ℕ). Steps a b (cut_entries pass (core_of a) target n)) size first) last)

-- A file that may be recorded can be added.
pub new_file : (xorbs : Xorbs) (f : MDBFileInfo) → IsFile f → Completes xorbs f → IsRecord xorbs (file_record_hash f, f) → IsNewFile xorbs f
new_file xorbs f form can is = record {
  leaves = can.leaves;
  resolves = can.resolves;
  form = form;
  hash = can.hash;
  ranges = can.ranges;
  some = can.some;
  bound =
      omega
      (arith, total_resolved (IsListed xorbs) f.segments can.leaves can.resolves, total_resolved (IsListed xorbs) f.segments is.leaves is.resolves, is.bound);
}
