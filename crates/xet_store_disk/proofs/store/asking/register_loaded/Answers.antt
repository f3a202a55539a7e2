use Rattle.xet_store_disk.proofs.Asking.{adds_loaded, if_memory}
use Rattle.xet_store_disk.proofs.store.asking.register_loaded.Goals as goal

pub returns-in-Ok-clause-registered : goal.returns-in-Ok-clause-registered
returns-in-Ok-clause-registered g c =
    adds_loaded c.register.result c.args.cap (g.D.Disk.tells c.args.disk.now) (g.D.Disk.files c.args.disk.now) c.args.file c.args.registry.now c.register.new.self c.deref.result.now c.in-Ok.items.items c.deref.ensures.value c.in-Ok.ensures.exact c.register.ensures.registered
    c.register.ensures.files c.register.ensures.hashes

pub returns-in-Ok-clause-refused : goal.returns-in-Ok-clause-refused
returns-in-Ok-clause-refused g c = λ told. if_memory c.register.result _ c.register.ensures.memory tt

pub returns-in-Ok-clause-reason : goal.returns-in-Ok-clause-reason
returns-in-Ok-clause-reason g c = if_memory c.register.result _ c.register.ensures.memory tt
