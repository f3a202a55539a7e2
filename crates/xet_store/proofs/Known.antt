-- Calls for a xorb that is listed and for a file that is recorded: they add their entry, and nothing else changes.
use Rattle.std.proofs.Common.{◌≡◌, ◌≢◌, ◌∙◌, ℕ, Bool, true, false, not, List, [], ◌∷◌, ◌++◌, length, map, Option, Some, None, option_map, is_some, Result, Ok, Err, OnOk, IfOk, refl, sym, ap, subst}
use Rattle.xet_dedup_queries.specs.Registering.{IsNewXorb}
use Rattle.xet_file_plan.specs.theorems.Closing.{raw_leaves_of}
use Rattle.xet_folder.specs.Xorbs.{FileRecords, IsListed, Xorbs, found}
use Rattle.xet_hash.specs.Hash.{sentinel}
use Rattle.xet_hash.specs.Merkle.{xorb_hash}
use Rattle.xet_history.specs.Core.{is_new}
use Rattle.xet_history.specs.History.{complete_entries, register_entries}
use Rattle.xet_history.specs.declared.entry.Entry.{Entry}
use Rattle.xet_history.specs.declared.entry.Entry.TheVariants.{Complete, Register}
use Rattle.xet_history.specs.theorems.Staying.{Leaves}
use Rattle.xet_folder.specs.Names.{xorb_path}
use Rattle.xet_hash.specs.declared.error.StoreError.{StoreError}
use Rattle.xet_io.specs.Disk.{Files, bytes_at}
use Rattle.xet_shard.specs.Held.{Held}
use Rattle.xet_shard_format.specs.Records.{file_record_hash}
use Rattle.xet_shard_format.specs.declared.record.MDBFileInfo.{MDBFileInfo}
use Rattle.xet_shard_registry.specs.Collections.{Tables}
use Rattle.xet_store_disk.specs.Store.{State}
use Rattle.xet_xorb.specs.Raw.{raw_leaves}
use Rattle.xet_xorb.specs.declared.raw.RawXorbData.{RawXorbData}
use Rattle.xet_store.specs.Asking.{HasRegistry}
use Rattle.xet_store.specs.Recorded.{IsRecorded, RecordedState, core_of, recorded_state}
use Rattle.xet_store.specs.Steps.{Records, RegisterRefuses, Registers, Steps}
use Rattle.xet_store.specs.theorems.Changing.{changes_same}
use Rattle.xet_store.proofs.Completing.{steps_recorded}
use Rattle.xet_store.proofs.Refusing.{pushed_seen, recorded_pushed}
use Rattle.xet_store.proofs.Registering.{steps_known}

-- the hash of a new xorb is that of its chunks
pub new_xorb_hash : (limits : ℕ × ℕ) (x : RawXorbData) → IsNewXorb limits x → x.xorb_info.metadata.xorb_hash ≡ xorb_hash (raw_leaves x)
new_xorb_hash limits x new =
    ap (λ (r : RawXorbData). r.xorb_info.metadata.xorb_hash) new.made
    ∙ ap xorb_hash (sym (raw_leaves_of new.chunks new.boundaries) ∙ ap raw_leaves (sym new.made))

-- whether a hash is new, by whether it is found
new_if : {X : Type 0} (rows : List (List ℕ × X)) (h : List ℕ) (b : Bool) → b ≡ is_some (found rows h) → is_new rows h ≡ not b
new_if rows h b is = ap not (sym is)

-- the xorb of this hash
pub new_if_unlisted : (limits : ℕ × ℕ) (x : RawXorbData) → IsNewXorb limits x → (xorbs : Xorbs) (h : List ℕ) → h ≡ x.xorb_info.metadata.xorb_hash → (listed b : Bool) → listed ≡ is_some (found xorbs h) → listed ≡ b
    → is_new xorbs (xorb_hash (raw_leaves x)) ≡ not b
new_if_unlisted limits x new xorbs h hash listed b is case =
    ap (λ (y : List ℕ). is_new xorbs y) (sym (hash ∙ new_xorb_hash limits x new)) ∙ new_if xorbs h listed is ∙ ap not case

-- a xorb of this hash that is listed with these chunks is the new one
module _ (limits : ℕ × ℕ) (x : RawXorbData) (new : IsNewXorb limits x) where
  pub listed_new : (xorbs : Xorbs) (h : List ℕ) → h ≡ x.xorb_info.metadata.xorb_hash → (chunks : Leaves) → chunks ≡ raw_leaves x → IsListed xorbs h chunks → IsListed xorbs (xorb_hash (raw_leaves x)) (raw_leaves x)
  listed_new xorbs h hash chunks same listed =
      ap (λ (y : List ℕ). found xorbs y) (sym (hash ∙ new_xorb_hash limits x new)) ∙ listed ∙ ap (λ (l : Leaves). Some l) same

  pub named_new : (h : List ℕ) → h ≡ x.xorb_info.metadata.xorb_hash → h ≢ sentinel → xorb_hash (raw_leaves x) ≢ sentinel
  named_new h hash named bad = named (hash ∙ new_xorb_hash limits x new ∙ bad)

-- the xorb that was stored
pub listed_stored : {T E : Type 0} (r : Result T E) (xorbs : Xorbs) (h : List ℕ) (chunks leaves : Leaves) → h ≡ xorb_hash leaves → chunks ≡ leaves → OnOk r (IsListed xorbs h chunks) → OnOk r (IsListed xorbs (xorb_hash leaves) leaves)
listed_stored (Ok x) xorbs h chunks leaves hash same listed = ap (λ (y : List ℕ). found xorbs y) (sym hash) ∙ listed ∙ ap (λ (l : Leaves). Some l) same
listed_stored (Err e) xorbs h chunks leaves hash same listed = tt

-- its file, by the names of what is seen of the store
pub written_new : (r : Result Bool StoreError) (files : Files) {tells seen_tells : Bool} {folder seen_folder hash seen_hash encoding bytes : List ℕ} → tells ≡ seen_tells → folder ≡ seen_folder → hash ≡ seen_hash → encoding ≡ bytes
    → (tells ≡ true → OnOk r (bytes_at files (xorb_path folder hash) ≡ Some encoding)) → IfOk r (λ added. added ≡ true → seen_tells ≡ true → bytes_at files (xorb_path seen_folder seen_hash) ≡ Some bytes)
written_new (Ok x) files same at named is written = λ added told. (λ i. bytes_at files (xorb_path (sym at i) (sym named i))) ∙ written (same ∙ told) ∙ ap (λ (b : List ℕ). Some b) is
written_new (Err e) files same at named is written = tt

-- with other names of its chunks, and of those that did not fit
pub registers_as : (pass : ℕ) (a b : RecordedState) {chunks leaves sent next : Leaves} → chunks ≡ leaves → sent ≡ next → Registers pass chunks sent a b → Registers pass leaves next a b
registers_as pass a b {chunks} {leaves} {sent} {next} same list r = subst (λ (x : Leaves). Registers pass x next a b) same (subst (λ (x : Leaves). Registers pass chunks x a b) list r)

pub refuses_as : (pass : ℕ) (a b : RecordedState) (e : StoreError) {chunks leaves sent next : Leaves} → chunks ≡ leaves → sent ≡ next → RegisterRefuses pass chunks sent a b e → RegisterRefuses pass leaves next a b e
refuses_as pass a b e {chunks} {leaves} {sent} {next} same list r = subst (λ (x : Leaves). RegisterRefuses pass x next a b e) same (subst (λ (x : Leaves). RegisterRefuses pass chunks x a b e) list r)

-- the comparison with the chunks that are listed
pub listed_if : (listed : Leaves) (chunks : Leaves) (xorbs : Xorbs) (h : List ℕ) → Some listed ≡ found xorbs h → listed ≡ chunks → IsListed xorbs h chunks
listed_if listed chunks xorbs h there same = sym there ∙ ap (λ (l : Leaves). Some l) same

-- the file of this hash
pub new_if_unrecorded : {T : Type 0} (f : T → MDBFileInfo) (file : MDBFileInfo) (records : FileRecords) (h : List ℕ) → h ≡ file_record_hash file → (o : Option T) (there b : Bool) → there ≡ is_some o → option_map f o ≡ found records h → there ≡ b
    → is_new records (file_record_hash file) ≡ not b
new_if_unrecorded {T} f file records h hash o there b is same case =
    ap (λ (y : List ℕ). is_new records y) (sym hash) ∙ new_if records h there (is ∙ mapped o ∙ ap is_some same) ∙ ap not case
  where
    mapped : (o : Option T) → is_some o ≡ is_some (option_map f o)
    mapped None = refl
    mapped (Some x) = refl

-- the history with the entry of such a call
pub pushed_register : (pass : ℕ) {g h k : List Entry} {chunks leaves sent next : Leaves} → k ≡ h ++ Register pass chunks sent false ∷ [] → h ≡ g → chunks ≡ leaves → sent ≡ next → k ≡ g ++ Register pass leaves next false ∷ []
pushed_register pass pushed history same list = pushed ∙ (λ i. history i ++ Register pass (same i) (list i) false ∷ [])

pub pushed_complete : (pass : ℕ) (file : MDBFileInfo) {g h k : List Entry} → k ≡ h ++ Complete pass file false ∷ [] → h ≡ g → k ≡ g ++ Complete pass file false ∷ []
pushed_complete pass file pushed history = pushed ∙ ap (λ (x : List Entry). x ++ Complete pass file false ∷ []) history

module _ {G : Type 0} (v : G → Held) (files : Files) (s : State) (zs ys : List (Option G)) (g k : List Entry) (pass : ℕ) where
  abbrev before : RecordedState
  before = recorded_state s files (map (option_map v) zs) g

  abbrev after : RecordedState
  after = recorded_state s files (map (option_map v) ys) k

  -- a state with its entry more
  with_entry : (seen : RecordedState) (e : Entry) (es : List Entry) → before ≡ seen → ys ≡ zs → k ≡ g ++ e ∷ [] → Steps seen (record seen { history = seen.history ++ e ∷ [] }) es → Steps seen after es
  with_entry seen e es is kept added steps = subst (λ (x : RecordedState). Steps seen x es) (sym (pushed_seen v files s seen e is kept added)) steps

  -- a xorb that is listed
  pub registers_known : (seen : RecordedState) (leaves next : Leaves) → before ≡ seen → ys ≡ zs → k ≡ g ++ Register pass leaves next false ∷ [] → is_new seen.store.xorbs (xorb_hash leaves) ≡ false → Registers pass leaves next seen after
  registers_known seen leaves next is kept added old = record {
    steps = with_entry seen (Register pass leaves next false) (register_entries pass (core_of seen) seen.store.limits.shard_target leaves next) is kept added
        (steps_known seen pass seen.store.limits.shard_target leaves next old);
    changes = changes_same [] seen after (register_entries pass (core_of seen) seen.store.limits.shard_target leaves next) (ap (λ (x : RecordedState). x.store.files) is);
  }

  -- a file that is recorded
  pub records_known : (seen : RecordedState) (file : MDBFileInfo) → before ≡ seen → ys ≡ zs → k ≡ g ++ Complete pass file false ∷ [] → is_new seen.store.records (file_record_hash file) ≡ false → Records pass file seen after
  records_known seen file is kept added old = record {
    steps = with_entry seen (Complete pass file false) (complete_entries pass (core_of seen) seen.store.limits.shard_target file) is kept added
        (steps_recorded seen pass seen.store.limits.shard_target file old);
    changes = changes_same [] seen after (complete_entries pass (core_of seen) seen.store.limits.shard_target file) (ap (λ (x : RecordedState). x.store.files) is);
  }

  -- after such a call the history leads to the core
  pub recorded_registered : (leaves next : Leaves) {tables : Tables} → (length zs ≡ length s.shards) × IsRecorded before × HasRegistry s tables → ys ≡ zs → k ≡ g ++ Register pass leaves next false ∷ [] → is_new s.xorbs (xorb_hash leaves) ≡ false
      → (length ys ≡ length s.shards) × IsRecorded after × HasRegistry s tables
  recorded_registered leaves next {tables} was kept added old =
      recorded_pushed v files s ys (register_entries pass (core_of before) s.limits.shard_target leaves next) was kept (registers_known before leaves next refl kept added old).steps

  pub recorded_completed : (file : MDBFileInfo) {tables : Tables} → (length zs ≡ length s.shards) × IsRecorded before × HasRegistry s tables → ys ≡ zs → k ≡ g ++ Complete pass file false ∷ [] → is_new s.records (file_record_hash file) ≡ false
      → (length ys ≡ length s.shards) × IsRecorded after × HasRegistry s tables
  recorded_completed file {tables} was kept added old =
      recorded_pushed v files s ys (complete_entries pass (core_of before) s.limits.shard_target file) was kept (records_known before file refl kept added old).steps
