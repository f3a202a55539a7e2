-- A manager whose folder was scanned.
use Rattle.std.proofs.Common.{◌≡◌, ◌≤◌, inr, ℕ, Bool, false, List, [], Result, Ok, Err, sym, subst}
use Rattle.std.specs.Prelude.{IfErr, IfOk}
use Rattle.xet_io.specs.Disk.{Files}
use Rattle.xet_manager.specs.Manager.{IsOpened, IsUnopened, IsUnscanned, ManagerState, ScansFolder, manager_state}
use Rattle.xet_manager.specs.declared.settings.ManagerSettings.{ManagerSettings}
use Rattle.xet_hash.specs.declared.error.StoreError.{StoreError}
use Rattle.xet_shard.specs.Held.{nothing}
use Rattle.xet_shard_registration.specs.Refreshing.{RegistersDirectory}
use Rattle.xet_shard_registry.specs.Collections.{IsRegistryOf, Tables}

module _ {E : Type 0} (r : Result ManagerState E) (tells : Bool) (folder : List ℕ) (settings : ManagerSettings) (now : ℕ) where
  -- nothing is pending, and no memory was taken ahead
  abbrev IsNew : Type 0
  IsNew = IfOk r (λ m. m ≡ manager_state tells m.files m.faults folder settings now m.registry nothing false 0)

  pub opened : (faults : ℕ) → IsNew → IfOk r (λ m. faults ≤ m.faults) → IfOk r (IsOpened tells faults folder settings now)
  opened faults is later = by r is later
    where
      by : (r : Result ManagerState E) → IfOk r (λ m. m ≡ manager_state tells m.files m.faults folder settings now m.registry nothing false 0) → IfOk r (λ m. faults ≤ m.faults) → IfOk r (IsOpened tells faults folder settings now)
      by (Ok m) is later = record { state = is; later = later }
      by (Err e) is later = tt

  pub scans : (files : Files) (prune_expired : Bool) (prune_to : ℕ) (registry : Tables) → IsRegistryOf [] registry → IsNew
      → IfOk r (λ m. RegistersDirectory settings.index_cap files m.files folder prune_expired prune_to settings.buffer now registry m.registry) → IfOk r (ScansFolder files prune_expired prune_to)
  scans files prune_expired prune_to registry none is registers = by r is registers
    where
      by : (r : Result ManagerState E) → IfOk r (λ m. m ≡ manager_state tells m.files m.faults folder settings now m.registry nothing false 0)
          → IfOk r (λ m. RegistersDirectory settings.index_cap files m.files folder prune_expired prune_to settings.buffer now registry m.registry) → IfOk r (ScansFolder files prune_expired prune_to)
      by (Ok m) is registers = record {
        empty = registry;
        none = none;
        registers = subst (λ (x : ManagerState). RegistersDirectory x.settings.index_cap files m.files x.folder prune_expired prune_to x.settings.buffer x.moment registry m.registry) (sym is) registers;
      }
      by (Err e) is registers = tt

-- its folder was not scanned
pub unopened : {X E : Type 0} (r : Result X E) (left : E → Files) (error : E → StoreError) (cap : ℕ) (old : Files) (folder : List ℕ) (prune_expired : Bool) (prune_to buffer now : ℕ)
    → IfErr r (λ e. IsUnscanned cap old (left e) folder prune_expired prune_to buffer now (error e)) → IfErr r (λ e. IsUnopened cap old (left e) folder prune_expired prune_to buffer now (error e))
unopened (Ok x) left error cap old folder prune_expired prune_to buffer now h = tt
unopened (Err e) left error cap old folder prune_expired prune_to buffer now h = inr h
