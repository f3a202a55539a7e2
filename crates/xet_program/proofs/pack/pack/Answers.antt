use Rattle.xet_program.specs.Start.{start}
use Rattle.xet_program.proofs.Outcomes.{StandsAt, answered_read, answered_unread, short_files}
use Rattle.xet_program.proofs.PackReports.{report_of_lines}
use Rattle.xet_program.proofs.pack.pack.Goals as goal

pub store_lines-requires-clause-short : goal.store_lines-requires-clause-short
store_lines-requires-clause-short g c = λ κs met.
    let said = c.in-Ok.ensures.bytes in short_files c.args.limits.now said.0 c.in-Ok.lines c.requires.long said.1

pub returns-in-Err-clause-answered : goal.returns-in-Err-clause-answered
returns-in-Err-clause-answered g c = λ inputs_tell inputs.
    answered_unread c.args.limits.now c.args.workers (start (g.I.Source.tells c.args.input.now) (g.I.Source.left c.args.input.now) inputs_tell inputs c.args.now (g.D.Disk.tells c.args.disk) (g.D.Disk.files c.args.disk))
    c.in-Err.stop c.in-Err.ensures.stop

pub returns-in-Ok-clause-answered : goal.returns-in-Ok-clause-answered
returns-in-Ok-clause-answered g c = λ inputs_tell inputs.
    let s = c.args.limits.now in
    let from = start (g.I.Source.tells c.args.input.now) (g.I.Source.left c.args.input.now) inputs_tell inputs c.args.now (g.D.Disk.tells c.args.disk) (g.D.Disk.files c.args.disk) in
    let new = g.D.Disk.files c.store_lines.result.0 in
    let r = c.store_lines.result.1 in
    let said = c.in-Ok.ensures.bytes in
    let stands : StandsAt s c.args.workers from new c.in-Ok.lines r = record {
      stored = c.store_lines.ensures.stored;
      listed = c.store_lines.ensures.listed;
      keeps = c.store_lines.ensures.keeps;
      refused = c.store_lines.ensures.refused;
      overfull = c.store_lines.ensures.overfull;
      kept = c.store_lines.ensures.kept;
      foreign = c.store_lines.ensures.foreign;
    } in
    let report = report_of_lines s c.args.workers from new c.in-Ok.lines r c.in-Ok.ensures.said c.in-Ok.ensures.good c.store_lines.ensures.report stands in
    answered_read s c.args.workers from new c.in-Ok.lines r c.in-Ok.ensures.said (short_files s said.0 c.in-Ok.lines c.requires.long said.1) c.store_lines.ensures.valid c.store_lines.ensures.stop report stands
