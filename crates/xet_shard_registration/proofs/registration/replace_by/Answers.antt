use Rattle.std.proofs.Common.{[], ap, arith, length, map, Bor}
use Rattle.xet_shard_directory.specs.declared.shard_file.MDBShardFile.{MDBShardFile}
use Rattle.xet_shard_registration.proofs.Due.{due_fresh}
use Rattle.xet_shard_registration.proofs.Growing.{grown}
use Rattle.xet_shard_registration.proofs.InOrder.{stops_all}
use Rattle.xet_shard_registration.proofs.registration.replace_by.Goals as goal

pub returns-in-Ok-clause-some : goal.returns-in-Ok-clause-some
returns-in-Ok-clause-some g c = c.register_in_order.ensures.grows [] c.requires.empty

pub returns-in-Ok-clause-grown : goal.returns-in-Ok-clause-grown
returns-in-Ok-clause-grown g c = grown c.args.cap c.args.fresh c.register_in_order.new.registry c.requires.empty c.register_in_order.ensures.enters

pub returns-in-Ok-clause-few : goal.returns-in-Ok-clause-few
returns-in-Ok-clause-few g c = c.register_in_order.ensures.few (omega (arith, ap length c.requires.empty.files))

pub returns-in-Err-clause-refused : goal.returns-in-Err-clause-refused
returns-in-Err-clause-refused g c = λ told records.
    stops_all c.args.cap (g.D.Disk.files c.args.disk.now) records [] (map (λ (a : Bor MDBShardFile). a.now) c.args.files.now) c.register_in_order.new.registry c.in-Err.error
    (c.in-Err.ensures.stopped told [] records c.requires.empty)

pub returns-in-Ok-clause-due : goal.returns-in-Ok-clause-due
returns-in-Ok-clause-due g c = due_fresh (map (λ (a : Bor MDBShardFile). a.now) c.args.files.now) c.args.fresh c.register_in_order.new.registry c.requires.empty c.in-Ok.ensures.due
