use Rattle.std.proofs.Common.{List, ℕ, IfErr, IfOk, arith, length, refl, subst, ap}
use Rattle.xet_program.specs.Making.{IsMadeText}
use Rattle.xet_program.specs.internal.Stops.{ForValid, IsStop, making_causes}
use Rattle.xet_program.proofs.Answered.{folder_same, listed_same}
use Rattle.xet_program.proofs.MadeFiles.{generated_length}
use Rattle.xet_program.proofs.make.make.Goals as goal

pub store_file-requires-after_bounds : goal.store_file-requires-after_bounds
store_file-requires-after_bounds g c = λ lives within.
    omega (arith, ap length c.in-Ok.ensures.bytes, generated_length c.args.seed c.args.bytes, c.requires)

pub returns-in-Ok-clause-made : goal.returns-in-Ok-clause-made
returns-in-Ok-clause-made g c =
    let tells = g.D.Disk.tells c.args.disk in
    let old = g.D.Disk.files c.args.disk in
    let new = g.D.Disk.files c.store_file.result.0 in
    subst (λ (b : List ℕ). IfOk c.store_file.result.1 (λ text. ForValid tells old c.args.now (λ contents. IsMadeText tells contents new b text.items))) c.in-Ok.ensures.bytes c.store_file.ensures.made

pub returns-in-Ok-clause-stop : goal.returns-in-Ok-clause-stop
returns-in-Ok-clause-stop g c =
    let tells = g.D.Disk.tells c.args.disk in
    let old = g.D.Disk.files c.args.disk in
    let new = g.D.Disk.files c.store_file.result.0 in
    subst (λ (b : List ℕ). IfErr c.store_file.result.1 (IsStop (making_causes tells c.args.now old new b))) c.in-Ok.ensures.bytes c.store_file.ensures.stop

pub returns-in-Err-clause-listed : goal.returns-in-Err-clause-listed
returns-in-Err-clause-listed g c = λ told. listed_same c.args.now (g.D.Disk.files c.args.disk)

pub returns-in-Err-clause-keeps : goal.returns-in-Err-clause-keeps
returns-in-Err-clause-keeps g c = λ told. folder_same c.args.now (g.D.Disk.files c.args.disk)

pub returns-in-Err-clause-frame : goal.returns-in-Err-clause-frame
returns-in-Err-clause-frame g c = record { tells = refl; later = omega arith; rose = λ is. absurd (cc is) }
