use Rattle.std.proofs.Common.{Some, ◌≤◌, ◌^◌, arith, length, map, refl, string_bytes, subst, sym}
use Rattle.std.proofs.lemmas.List.{length-map}
use Rattle.xet_program.specs.declared.words.Command.{Command as Parsed}
use Rattle.xet_program.specs.internal.Answered.{Answered}
use Rattle.xet_program.specs.Start.{start}
use Rattle.xet_program.specs.internal.Stops.{answer_outcome}
use Rattle.xet_program.specs.internal.Asked.{AllowsInput, asked}
use Rattle.xet_program.proofs.Alone.{answered_clean, answered_group, answered_list, answered_make, answered_read}
use Rattle.xet_program.proofs.run.answer.Goals as goal

pub returns-in-Pack-clause-answered : goal.returns-in-Pack-clause-answered
returns-in-Pack-clause-answered g c =
    let from = start (g.I.Source.tells c.args.input.now) (g.I.Source.left c.args.input.now) (g.F.Inputs.tells c.args.inputs.now) (g.F.Inputs.files c.args.inputs.now) c.args.now (g.D.Disk.tells c.args.disk) (g.D.Disk.files c.args.disk) in
    subst (λ (x : Parsed). Answered (Some (asked x)) from (g.D.Disk.files c.pack.result.0) (answer_outcome c.pack.result.1)) (sym c.in-Pack.is)
    (c.pack.ensures.answered (g.F.Inputs.tells c.args.inputs.now) (g.F.Inputs.files c.args.inputs.now))

pub clean-requires-after_bounds : goal.clean-requires-after_bounds
clean-requires-after_bounds g c = λ lives within.
    let allowed : length (map string_bytes c.in-Clean.names.now) ≤ 2 ^ 20 = subst (λ (x : Parsed). AllowsInput (asked x)) c.in-Clean.is c.requires in
    omega (arith, allowed, length-map c.in-Clean.names.now string_bytes)

pub returns-in-Clean-clause-answered : goal.returns-in-Clean-clause-answered
returns-in-Clean-clause-answered g c =
    let from = start (g.I.Source.tells c.args.input.now) (g.I.Source.left c.args.input.now) (g.F.Inputs.tells c.args.inputs.now) (g.F.Inputs.files c.args.inputs.now) c.args.now (g.D.Disk.tells c.args.disk) (g.D.Disk.files c.args.disk) in
    subst (λ (x : Parsed). Answered (Some (asked x)) from (g.D.Disk.files c.clean.result.0) (answer_outcome c.clean.result.1)) (sym c.in-Clean.is)
    (answered_clean from (g.D.Disk.files c.clean.result.0) (map string_bytes c.in-Clean.names.now) c.clean.result.1 c.clean.ensures.cleaned c.clean.ensures.stop c.clean.ensures.listed c.clean.ensures.keeps c.clean.ensures.refused c.clean.ensures.overfull c.clean.ensures.absent c.clean.ensures.kept c.clean.ensures.foreign)

pub make-requires-after_bounds : goal.make-requires-after_bounds
make-requires-after_bounds g c = λ lives within.
    subst (λ (x : Parsed). AllowsInput (asked x)) c.in-Make.is c.requires

pub returns-in-Make-clause-answered : goal.returns-in-Make-clause-answered
returns-in-Make-clause-answered g c =
    let from = start (g.I.Source.tells c.args.input.now) (g.I.Source.left c.args.input.now) (g.F.Inputs.tells c.args.inputs.now) (g.F.Inputs.files c.args.inputs.now) c.args.now (g.D.Disk.tells c.args.disk) (g.D.Disk.files c.args.disk) in
    let new = g.D.Disk.files c.make.result.0 in
    subst (λ (x : Parsed). Answered (Some (asked x)) from new (answer_outcome c.make.result.1)) (sym c.in-Make.is)
    (answered_make from new c.in-Make.seed c.in-Make.bytes c.make.result.1 c.make.ensures.made c.make.ensures.stop c.make.ensures.listed c.make.ensures.keeps c.make.ensures.refused c.make.ensures.overfull c.make.ensures.kept c.make.ensures.foreign c.make.ensures.stored)

pub returns-in-Read-clause-answered : goal.returns-in-Read-clause-answered
returns-in-Read-clause-answered g c =
    let from = start (g.I.Source.tells c.args.input.now) (g.I.Source.left c.args.input.now) (g.F.Inputs.tells c.args.inputs.now) (g.F.Inputs.files c.args.inputs.now) c.args.now (g.D.Disk.tells c.args.disk) (g.D.Disk.files c.args.disk) in
    let new = g.D.Disk.files c.read.result.0 in
    subst (λ (x : Parsed). Answered (Some (asked x)) from new (answer_outcome c.read.result.1)) (sym c.in-Read.is)
    (answered_read from new c.in-Read.hash c.in-Read.from c.in-Read.to c.read.result.1 c.read.ensures.same c.read.ensures.ordered c.read.ensures.length c.read.ensures.range c.read.ensures.stop)

pub returns-in-ListFiles-clause-answered : goal.returns-in-ListFiles-clause-answered
returns-in-ListFiles-clause-answered g c =
    let from = start (g.I.Source.tells c.args.input.now) (g.I.Source.left c.args.input.now) (g.F.Inputs.tells c.args.inputs.now) (g.F.Inputs.files c.args.inputs.now) c.args.now (g.D.Disk.tells c.args.disk) (g.D.Disk.files c.args.disk) in
    let new = g.D.Disk.files c.list.result.0 in
    subst (λ (x : Parsed). Answered (Some (asked x)) from new (answer_outcome c.list.result.1)) (sym c.in-ListFiles.is)
    (answered_list from new c.list.result.1 c.list.ensures.same c.list.ensures.listed c.list.ensures.stop)

pub returns-in-Group-clause-answered : goal.returns-in-Group-clause-answered
returns-in-Group-clause-answered g c =
    let from = start (g.I.Source.tells c.args.input.now) (g.I.Source.left c.args.input.now) (g.F.Inputs.tells c.args.inputs.now) (g.F.Inputs.files c.args.inputs.now) c.args.now (g.D.Disk.tells c.args.disk) (g.D.Disk.files c.args.disk) in
    subst (λ (x : Parsed). Answered (Some (asked x)) from (g.D.Disk.files c.args.disk) (answer_outcome c.group.result)) (sym c.in-Group.is)
    (answered_group from (g.D.Disk.files c.args.disk) c.group.result refl c.group.ensures.text c.group.ensures.stop)
