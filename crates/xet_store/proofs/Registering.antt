-- What the registration of a xorb makes of the core.
use Rattle.std.proofs.Common.{◌≡◌, ◌∙◌, ℕ, Bool, true, false, List, [], ◌∷◌, ◌++◌, Option, None, is_some, refl, sym, ap, subst}
use Rattle.std.specs.Prelude.{if◌then◌else◌}
use Rattle.xet_io.specs.Disk.{Files}
use Rattle.xet_hash.specs.Merkle.{xorb_hash}
use Rattle.xet_shard.specs.Held.{Held, held, with_last}
use Rattle.xet_shard_format.specs.RecordSizes.{xorb_record_size}
use Rattle.xet_shard_format.specs.Records.{xorb_record_hash}
use Rattle.xet_xorb.specs.Raw.{xorb_record}
use Rattle.xet_cut.specs.declared.limits.LimitSettings.{LimitSettings}
use Rattle.xet_folder.specs.Xorbs.{found}
use Rattle.xet_history.specs.Core.{Core, is_new, registered}
use Rattle.xet_history.specs.History.{cut_entries, register_entries}
use Rattle.xet_history.specs.declared.entry.Entry.{Entry}
use Rattle.xet_history.specs.declared.entry.Entry.TheVariants.{Register}
use Rattle.xet_history.specs.theorems.Staying.{Leaves, new_if_none, registered_new, registered_same}
use Rattle.xet_store_disk.specs.Cleaning.{Keeps}
use Rattle.xet_store_disk.specs.Store.{State}
use Rattle.xet_store_disk.specs.Tables.{Tables, tables, tables_of, with_leaves}
use Rattle.xet_store_disk.specs.theorems.Keeping.{keeps_nothing}
use Rattle.xet_store.specs.Recorded.{RecordedState, core_of, recorded_state, with_contents}
use Rattle.xet_store.specs.Steps.{Steps}
use Rattle.xet_store.proofs.Joining.{steps_then}
use Rattle.xet_store.proofs.Moving.{contents_kept}

-- a xorb that is listed
module _ (s : RecordedState) (pass target : ℕ) (leaves next : Leaves) (old : is_new s.store.xorbs (xorb_hash leaves) ≡ false) where
  pub steps_known : Steps s (record s { history = s.history ++ Register pass leaves next false ∷ [] }) (register_entries pass (core_of s) target leaves next)
  steps_known =
      let due : List Entry = cut_entries pass (core_of s) target (xorb_record_size (xorb_record (xorb_hash leaves) leaves)) in
      let entries : register_entries pass (core_of s) target leaves next ≡ Register pass leaves next false ∷ [] =
      ap (λ (b : Bool). if b then due ++ Register pass leaves next true ∷ [] else Register pass leaves next false ∷ []) old in
      subst (λ (es : List Entry). Steps s (record s { history = s.history ++ Register pass leaves next false ∷ [] }) es) (sym entries)
      (record { moves = record { history = refl; legal = (sym old, tt); leads = sym (registered_same (core_of s) leaves old) }; keeps = keeps_nothing s.store; shards = λ are. are })

-- a xorb that is not listed
module _ (files : Files) (old new : State) (flushed : List (Option Held)) (history : List Entry) (keeps : Keeps old new) (leaves : Leaves) (none : found old.xorbs (xorb_hash leaves) ≡ None)
    (stores : tables_of new ≡ with_leaves (tables_of old) (xorb_hash leaves) leaves) (shards : new.shards ≡ old.shards) where
  abbrev core : Core
  core = core_of (recorded_state old files flushed history)

  abbrev more : Tables
  more = tables (old.xorbs ++ (xorb_hash leaves, leaves) ∷ []) old.records (held (with_last xorb_record_hash old.pending.blocks (xorb_record (xorb_hash leaves) leaves)) old.pending.files)

  tables_are : tables_of new ≡ more
  tables_are = stores ∙ ap (λ (o : Option Leaves). if is_some o then tables_of old else more) none

  core_registered : (es : List Entry) → core_of (recorded_state new files flushed es) ≡ registered core leaves
  core_registered es = both ∙ sym (registered_new core leaves (new_if_none old.xorbs (xorb_hash leaves) none))
    where
      both : core_of (recorded_state new files flushed es) ≡ record core { xorbs = more.xorbs; pending = more.pending }
      both = λ i. record {
        xorbs = (tables_are i).xorbs;
        records = (tables_are i).records;
        pending = (tables_are i).pending;
        shards = with_contents files (keeps.folder i) (keeps.opened i) (shards i) flushed;
        opened = keeps.opened i;
        index_cap = ap (λ (l : LimitSettings). l.index_cap) keeps.limits i;
      }

  pub steps_new : (pass : ℕ) (next : Leaves) (es : List Entry) → es ≡ history ++ Register pass leaves next true ∷ []
      → Steps (recorded_state old files flushed history) (recorded_state new files flushed es) (Register pass leaves next true ∷ [])
  steps_new pass next es added = record {
    moves = record { history = added; legal = (sym (new_if_none old.xorbs (xorb_hash leaves) none), tt); leads = core_registered es };
    keeps = keeps;
    shards = λ are. contents_kept files old new flushed keeps shards are;
  }

-- the cut and then the xorb
pub steps_registered : (a b c : RecordedState) (pass target bytes : ℕ) (leaves next : Leaves) → found a.store.xorbs (xorb_hash leaves) ≡ None → bytes ≡ xorb_record_size (xorb_record (xorb_hash leaves) leaves)
    → Steps a b (cut_entries pass (core_of a) target bytes) → Steps b c (Register pass leaves next true ∷ []) → Steps a c (register_entries pass (core_of a) target leaves next)
steps_registered a b c pass target bytes leaves next none size first last =
    let size_is : ℕ = xorb_record_size (xorb_record (xorb_hash leaves) leaves) in
    let whole : List Entry = cut_entries pass (core_of a) target size_is ++ Register pass leaves next true ∷ [] in
    let entries : register_entries pass (core_of a) target leaves next ≡ whole =
    ap (λ (b : Bool). if b then whole else Register pass leaves next false ∷ []) (new_if_none a.store.xorbs (xorb_hash leaves) none) in
    subst (λ (es : List Entry). Steps a c es) (sym entries)
    (steps_then a b c (cut_entries pass (core_of a) target size_is) (Register pass leaves next true ∷ []) (subst (λ (n : ℕ). Steps a b (cut_entries pass (core_of a) target n)) size first) last)
