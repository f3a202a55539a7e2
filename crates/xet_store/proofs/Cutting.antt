-- What follows a cut.
use Rattle.std.proofs.Common.{◌≡◌, ◌≢◌, ◌∙◌, inl, inr, ℕ, Bool, true, List, [], ◌∷◌, ◌++◌, map, not, Option, None, is_some, option_map, sym, ap, subst}
use Rattle.std.specs.Prelude.{if◌then◌else◌}
use Rattle.xet_codec.specs.Stops.{HasDiskReason}
use Rattle.xet_hash.specs.Merkle.{xorb_hash}
use Rattle.xet_hash.specs.declared.error.StoreError.{StoreError}
use Rattle.xet_hash.specs.declared.error.StoreError.TheVariants.{OutOfMemory}
use Rattle.xet_io.specs.Disk.{Files, entry_at as get}
use Rattle.xet_shard.specs.Held.{Held}
use Rattle.xet_shard_format.specs.RecordSizes.{file_record_size, xorb_record_size}
use Rattle.xet_shard_format.specs.Records.{file_record_hash}
use Rattle.xet_shard_format.specs.declared.record.MDBFileInfo.{MDBFileInfo}
use Rattle.xet_xorb.specs.Raw.{xorb_record}
use Rattle.xet_folder.specs.Names.{xorb_path}
use Rattle.xet_folder.specs.Xorbs.{FileRecords, Xorbs, found}
use Rattle.xet_shard_file.specs.Names.{temp_name}
use Rattle.xet_history.specs.Core.{Core, is_cut_due, is_new, pending_hash}
use Rattle.xet_history.specs.History.{complete_cut, complete_entries, cut_entries, register_cut, register_entries}
use Rattle.xet_history.specs.declared.entry.Entry.{Entry}
use Rattle.xet_history.specs.declared.entry.Entry.TheVariants.{Complete, Flush, Register}
use Rattle.xet_history.specs.declared.entry.StepKind.{StepKind}
use Rattle.xet_history.specs.declared.entry.StepKind.TheVariants as step
use Rattle.xet_history.specs.theorems.Staying.{Leaves}
use Rattle.xet_store_disk.specs.Cleaning.{Keeps}
use Rattle.xet_store_disk.specs.Flushing.{KeepsOtherNames}
use Rattle.xet_store_disk.specs.Store.{State}
use Rattle.xet_store_disk.specs.Tables.{Tables, tables_of, with_leaves, with_record}
use Rattle.xet_store.specs.Recorded.{RecordedState, core_of, recorded_state}
use Rattle.xet_store.specs.Steps.{CompleteRefuses, CutRefuses, Cuts, Faults, Records, Refuses, RegisterRefuses, Registers, Steps, fault_entries}
use Rattle.xet_store.specs.Changes.{Tries}
use Rattle.xet_store.specs.theorems.Changing.{changes_same}
use Rattle.xet_store.specs.theorems.Joining.{steps_nothing}
use Rattle.xet_store.proofs.Changing.{changes_all, changes_xorb, completed_is, cut_is, registered_is, tries_after, tries_cut, tries_put}
use Rattle.xet_store.proofs.Completing.{steps_added, steps_completed}
use Rattle.xet_store.proofs.Moving.{steps_fault}
use Rattle.xet_store.proofs.Refusing.{refuses_first, refuses_then}
use Rattle.xet_store.proofs.Registering.{steps_new, steps_registered}

-- a cut that is due has an entry
cut_not_none : (pass : ℕ) (c : Core) (target bytes : ℕ) → is_cut_due c target bytes ≡ true → cut_entries pass c target bytes ≢ []
cut_not_none pass c target bytes due none =
    let is : cut_entries pass c target bytes ≡ Flush pass (pending_hash c) ∷ [] = ap (λ (b : Bool). if b then Flush pass (pending_hash c) ∷ [] else []) due in
    let bad : ◌≡◌ {A = List Entry} (Flush pass (pending_hash c) ∷ []) [] = sym is ∙ none in
    cc bad

-- a failure of the cut
pub cut_refuses_first : (pass : ℕ) (kind : StepKind) (bytes size : ℕ) (s t : RecordedState) (e : StoreError) → bytes ≡ size → is_cut_due (core_of s) s.store.limits.shard_target bytes ≡ true → Faults pass kind s t e
    → CutRefuses pass kind size s t e
cut_refuses_first pass kind bytes size s t e same due failed =
    let due_here : is_cut_due (core_of s) s.store.limits.shard_target size ≡ true = subst (λ (n : ℕ). is_cut_due (core_of s) s.store.limits.shard_target n ≡ true) same due in
    record { refuses = refuses_first pass kind (cut_entries pass (core_of s) s.store.limits.shard_target size) s t e (inr (cut_not_none pass (core_of s) s.store.limits.shard_target size due_here)) failed }

-- a registration and a recording that failed, if the hash was new
pub register_refuses : (pass : ℕ) (hash : List ℕ) (leaves next : Leaves) (s t : RecordedState) (e : StoreError) → found s.store.xorbs hash ≡ None → hash ≡ xorb_hash leaves
    → CutRefuses pass step.Register (xorb_record_size (xorb_record hash leaves)) s t e → Tries s t (register_entries pass (core_of s) s.store.limits.shard_target leaves next) → RegisterRefuses pass leaves next s t e
register_refuses pass hash leaves next s t e none named cut tries =
    let entries : List ℕ → List Entry = λ h. cut_entries pass (core_of s) s.store.limits.shard_target (xorb_record_size (xorb_record h leaves)) in
    let fresh : is_new s.store.xorbs (xorb_hash leaves) ≡ true = ap (λ (h : List ℕ). is_new s.store.xorbs h) (sym named) ∙ ap (λ (o : Option Leaves). not (is_some o)) none in
    let due : register_cut pass (core_of s) s.store.limits.shard_target leaves ≡ entries (xorb_hash leaves) = ap (λ (b : Bool). if b then entries (xorb_hash leaves) else []) fresh in
    record { refuses = subst (λ (es : List Entry). Refuses pass step.Register es s t e) (ap entries named ∙ sym due) cut.refuses; tries = tries }

pub complete_refuses : (pass : ℕ) (file : MDBFileInfo) (s t : RecordedState) (e : StoreError) → found s.store.records (file_record_hash file) ≡ None
    → CutRefuses pass step.Complete (file_record_size file) s t e → Tries s t (complete_entries pass (core_of s) s.store.limits.shard_target file) → CompleteRefuses pass file s t e
complete_refuses pass file s t e none cut tries =
    let entries : List Entry = cut_entries pass (core_of s) s.store.limits.shard_target (file_record_size file) in
    let due : complete_cut pass (core_of s) s.store.limits.shard_target file ≡ entries = ap (λ (o : Option MDBFileInfo). if not (is_some o) then entries else []) none in
    record { refuses = subst (λ (es : List Entry). Refuses pass step.Complete es s t e) (sym due) cut.refuses; tries = tries }

-- the cut that was due failed, and no more was done
pub register_tries_cut : (pass bytes : ℕ) (hash : List ℕ) (leaves next : Leaves) (kind : StepKind) (s t : RecordedState) (e : StoreError) → found s.store.xorbs hash ≡ None → hash ≡ xorb_hash leaves
    → bytes ≡ xorb_record_size (xorb_record hash leaves) → is_cut_due (core_of s) s.store.limits.shard_target bytes ≡ true → Faults pass kind s t e
    → Tries s t (register_entries pass (core_of s) s.store.limits.shard_target leaves next)
register_tries_cut pass bytes hash leaves next kind s t e none named size due failed =
    tries_cut s (cut_entries pass (core_of s) s.store.limits.shard_target bytes) (Register pass leaves next true ∷ []) _
    (registered_is s pass s.store.limits.shard_target bytes leaves next (subst (λ (x : List ℕ). found s.store.xorbs x ≡ None) named none) (size ∙ ap (λ (x : List ℕ). xorb_record_size (xorb_record x leaves)) named))
    t pass (cut_is s pass s.store.limits.shard_target bytes due) failed.changes

pub complete_tries_cut : (pass bytes : ℕ) (file : MDBFileInfo) (kind : StepKind) (s t : RecordedState) (e : StoreError) → found s.store.records (file_record_hash file) ≡ None
    → bytes ≡ file_record_size file → is_cut_due (core_of s) s.store.limits.shard_target bytes ≡ true → Faults pass kind s t e → Tries s t (complete_entries pass (core_of s) s.store.limits.shard_target file)
complete_tries_cut pass bytes file kind s t e none size due failed =
    tries_cut s (cut_entries pass (core_of s) s.store.limits.shard_target bytes) (Complete pass file true ∷ []) _ (completed_is s pass s.store.limits.shard_target bytes file none size)
    t pass (cut_is s pass s.store.limits.shard_target bytes due) failed.changes

module _ {G : Type 0} (v : G → Held) (files : Files) (a b c : State) (xs ys : List (Option G)) (h k l : List Entry) (pass bytes : ℕ) where
  abbrev first : RecordedState
  first = recorded_state a files (map (option_map v) xs) h

  abbrev cut : RecordedState
  cut = recorded_state b files (map (option_map v) ys) k

  abbrev last : RecordedState
  last = recorded_state c files (map (option_map v) ys) l

  -- out of memory after it
  pub cut_refuses_memory : Cuts pass bytes first cut → (kind : StepKind) (size : ℕ) → kind ≢ step.Flush → bytes ≡ size → c ≡ b → CutRefuses pass kind size first (recorded_state c files (map (option_map v) ys) k) OutOfMemory
  cut_refuses_memory cuts kind size other same unchanged =
      subst (λ (n : ℕ). CutRefuses pass kind n first (recorded_state c files (map (option_map v) ys) k) OutOfMemory) same
      (subst (λ (x : State). CutRefuses pass kind bytes first (recorded_state x files (map (option_map v) ys) k) OutOfMemory) (sym unchanged)
      (record { refuses = refuses_then pass kind _ first cut cut OutOfMemory other cuts.few cuts.steps (steps_nothing cut) tt }))

  -- then no file was put
  pub complete_tries_memory : Cuts pass bytes first cut → (file : MDBFileInfo) → found a.records (file_record_hash file) ≡ None → bytes ≡ file_record_size file → c ≡ b
      → Tries first (recorded_state c files (map (option_map v) ys) k) (complete_entries pass (core_of first) a.limits.shard_target file)
  complete_tries_memory cuts file none size unchanged =
      tries_after first (cut_entries pass (core_of first) a.limits.shard_target bytes) (Complete pass file true ∷ []) _ (completed_is first pass a.limits.shard_target bytes file none size)
      cut (recorded_state c files (map (option_map v) ys) k) (ap (λ (s : State). s.files) unchanged) cuts.changes

  module _ (cuts : Cuts pass bytes first cut) (keeps : Keeps b c) (shards : c.shards ≡ b.shards) where
    -- the put of a xorb failed
    pub register_tries_put : (hash : List ℕ) (leaves next : Leaves) → found a.xorbs hash ≡ None → hash ≡ xorb_hash leaves → bytes ≡ xorb_record_size (xorb_record hash leaves)
        → (b.tells ≡ true → KeepsOtherNames b.files c.files (xorb_path b.folder hash)) → Tries first last (register_entries pass (core_of first) a.limits.shard_target leaves next)
    register_tries_put hash leaves next none named size others =
        let path : xorb_path b.folder hash ≡ xorb_path a.folder (xorb_hash leaves) = λ i. xorb_path (cuts.steps.keeps.folder i) (named i) in
        tries_put first (cut_entries pass (core_of first) a.limits.shard_target bytes) (Register pass leaves next true ∷ []) _
        (registered_is first pass a.limits.shard_target bytes leaves next (subst (λ (x : List ℕ). found a.xorbs x ≡ None) named none) (size ∙ ap (λ (x : List ℕ). xorb_record_size (xorb_record x leaves)) named))
        cut last (xorb_path b.folder hash) cuts.steps.keeps.tells cuts.steps.keeps.folder cuts.changes (inl (sym path)) others

    -- a failure after it
    pub cut_refuses_then : (kind : StepKind) (size : ℕ) (e : StoreError) → kind ≢ step.Flush → bytes ≡ size → tables_of c ≡ tables_of b → HasDiskReason b.faults c.faults e → l ≡ k ++ fault_entries pass kind e → CutRefuses pass kind size first last e
    cut_refuses_then kind size e other same tables reason noted =
        let failed : Steps cut last (fault_entries pass kind e) =
        steps_fault files b c (map (option_map v) ys) k keeps (ap (λ (t : Tables). t.pending) tables) shards (ap (λ (t : Tables). t.xorbs) tables) (ap (λ (t : Tables). t.records) tables) pass kind e l noted in
        subst (λ (n : ℕ). CutRefuses pass kind n first last e) same (record { refuses = refuses_then pass kind _ first cut last e other cuts.few cuts.steps failed reason })

    -- a xorb after it
    pub registered_due : (hash : List ℕ) (leaves chunks next : Leaves) → found a.xorbs hash ≡ None → hash ≡ xorb_hash leaves → chunks ≡ leaves → bytes ≡ xorb_record_size (xorb_record hash leaves) → b.xorbs ≡ a.xorbs
        → (b.tells ≡ true → KeepsOtherNames b.files c.files (xorb_path b.folder hash)) → (b.tells ≡ true → get c.files (temp_name (xorb_path b.folder hash)) ≡ None)
        → tables_of c ≡ with_leaves (tables_of b) hash leaves → l ≡ k ++ Register pass chunks next true ∷ [] → Registers pass leaves next first last
    registered_due hash leaves chunks next none named same size xorbs others temp stores added =
        let none_first : found a.xorbs (xorb_hash leaves) ≡ None = subst (λ (x : List ℕ). found a.xorbs x ≡ None) named none in
        let none_cut : found b.xorbs (xorb_hash leaves) ≡ None = ap (λ (x : Xorbs). found x (xorb_hash leaves)) xorbs ∙ none_first in
        let stores_is : tables_of c ≡ with_leaves (tables_of b) (xorb_hash leaves) leaves = subst (λ (x : List ℕ). tables_of c ≡ with_leaves (tables_of b) x leaves) named stores in
        let added_is : l ≡ k ++ Register pass leaves next true ∷ [] = added ∙ ap (λ (x : Leaves). k ++ Register pass x next true ∷ []) same in
        let new : Steps cut last (Register pass leaves next true ∷ []) = steps_new files b c (map (option_map v) ys) k keeps leaves none_cut stores_is shards pass next l added_is in
        let size_is = size ∙ ap (λ (x : List ℕ). xorb_record_size (xorb_record x leaves)) named in
        record {
          steps = steps_registered first cut last pass a.limits.shard_target bytes leaves next none_first size_is cuts.steps new;
          changes = changes_all first (cut_entries pass (core_of first) a.limits.shard_target bytes) (Register pass leaves next true ∷ []) _ (registered_is first pass a.limits.shard_target bytes leaves next none_first size_is)
              cut last cuts.steps.keeps.tells cuts.steps.keeps.folder cuts.changes (changes_xorb cut last pass leaves next hash named others temp);
        }

    -- a file after it
    pub recorded_due : (file : MDBFileInfo) → found a.records (file_record_hash file) ≡ None → bytes ≡ file_record_size file → b.records ≡ a.records → c.files ≡ b.files → tables_of c ≡ with_record (tables_of b) file → l ≡ k ++ Complete pass file true ∷ []
        → Records pass file first last
    recorded_due file none size records same stores added =
        let none_cut : found b.records (file_record_hash file) ≡ None = ap (λ (x : FileRecords). found x (file_record_hash file)) records ∙ none in
        let new : Steps cut last (Complete pass file true ∷ []) = steps_added files b c (map (option_map v) ys) k keeps file none_cut stores shards pass l added in
        record {
          steps = steps_completed first cut last pass a.limits.shard_target bytes file none size cuts.steps new;
          changes = changes_all first (cut_entries pass (core_of first) a.limits.shard_target bytes) (Complete pass file true ∷ []) _ (completed_is first pass a.limits.shard_target bytes file none size)
              cut last cuts.steps.keeps.tells cuts.steps.keeps.folder cuts.changes (changes_same [] cut last (Complete pass file true ∷ []) same);
        }
