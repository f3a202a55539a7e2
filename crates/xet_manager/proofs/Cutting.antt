-- A cut does not depend on the room.
use Rattle.std.proofs.Common.{◌≡◌, ℕ, List, subst, true}
use Rattle.xet_hash.specs.declared.error.StoreError.{StoreError}
use Rattle.xet_manager.specs.Adding.{Cuts, IsUncut}
use Rattle.xet_manager.specs.Manager.{ManagerState}
use Rattle.xet_shard.specs.Held.{Held}
use Rattle.xet_shard_flush.specs.Importing.{KeepsFiles, flushed_bytes}

module _ (old mid new : ManagerState) (room : ℕ) (same : mid ≡ record old { room = room }) where
  pub cuts_over : (pending : Held) (left : ℕ) (path : List ℕ) → Cuts mid new pending left path → Cuts old new pending left path
  cuts_over pending left path c =
      let d : Cuts (record old { room = room }) new pending left path = subst (λ (m : ManagerState). Cuts m new pending left path) same c in
      record { imports = d.imports; checked = d.checked; form = d.form; fits = d.fits; rest = d.rest }

  pub uncut_over : (e : StoreError) → IsUncut mid new e → IsUncut old new e
  uncut_over e c =
      let d : IsUncut (record old { room = room }) new e = subst (λ (m : ManagerState). IsUncut m new e) same c in
      record { rest = d.rest; kept = d.kept; file = d.file; checked = d.checked; unwritten = d.unwritten }

  pub safe_over : (mid.tells ≡ true → KeepsFiles mid.files new.files mid.folder (flushed_bytes mid.pending mid.moment) mid.registry.files)
      → old.tells ≡ true → KeepsFiles old.files new.files old.folder (flushed_bytes old.pending old.moment) old.registry.files
  safe_over safe =
      subst (λ (m : ManagerState). m.tells ≡ true → KeepsFiles m.files new.files m.folder (flushed_bytes m.pending m.moment) m.registry.files) same safe
