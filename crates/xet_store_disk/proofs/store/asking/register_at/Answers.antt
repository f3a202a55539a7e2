use Rattle.std.proofs.Common.{subst, sym}
use Rattle.xet_hash.specs.declared.error.StoreError.{StoreError}
use Rattle.xet_store_disk.specs.Asking.{IsAskingError}
use Rattle.xet_store_disk.proofs.store.asking.register_at.Goals as goal

pub returns-in-Err-clause-refused : goal.returns-in-Err-clause-refused
returns-in-Err-clause-refused g c = λ encoded.
    subst (λ (e : StoreError). IsAskingError (g.D.Disk.tells c.args.disk.now) (g.D.Disk.faults c.args.disk.now) (g.D.Disk.faults c.register_named.new.disk) e) (sym c.asking_error.ensures) (c.in-Err.ensures.refused encoded)
