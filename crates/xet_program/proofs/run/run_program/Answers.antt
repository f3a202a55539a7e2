use Rattle.std.proofs.Common.{◌≡◌, filter, map, None}
use Rattle.std.specs.Prelude.{string_bytes}
use Rattle.xet_shard_file.specs.Entries.{is_valid}
use Rattle.xet_program.specs.Early.{Outcome}
use Rattle.xet_program.specs.Ending.{MayEnd, Prints}
use Rattle.xet_program.specs.Start.{start}
use Rattle.xet_program.specs.Tasks.{store_folder}
use Rattle.xet_program.specs.Words.{command_of}
use Rattle.xet_program.proofs.Answered.{works_printed}
use Rattle.xet_program.proofs.Complete.{complete_of}
use Rattle.xet_program.proofs.Endings.{bad_line_of, bad_shard_of, bounded_of, invalid_of, silent_of, words_of}
use Rattle.xet_program.proofs.run.run_program.Goals as goal

pub returns-clause-runs : goal.returns-clause-runs
returns-clause-runs g c =
    let command = command_of (map string_bytes c.args.words.now) in
    let from = start (g.I.Source.tells c.args.input.now) (g.I.Source.left c.args.input.now) (g.F.Inputs.tells c.args.inputs.now) (g.F.Inputs.files c.args.inputs.now) c.args.now (g.D.Disk.tells c.args.disk) (g.D.Disk.files c.args.disk) in
    let new = g.D.Disk.files c.run_command-disk.result.0 in
    let e = c.run_command-disk.result.1 in
    let tells = g.O.Sink.tells c.args.output.now in
    let before = g.O.Sink.written c.args.output.now in
    let after = g.O.Sink.written c.print-status.new.output in
    let answered = c.run_command-disk.ensures.answered in
    let status = c.print-status.result in
    let printed : (o : Outcome) × MayEnd command from new o × Prints tells o before after status = (e, answered.ends, c.print-status.ensures.prints) in
    record {
      invalid = invalid_of (command ≡ None) e status c.run_command-disk.ensures.invalid c.print-status.ensures.status;
      words = words_of (command ≡ None) e status c.run_command-disk.ensures.words c.run_command-disk.ensures.silent c.print-status.ensures.silent;
      ends = printed;
      bounded = bounded_of command from new tells before after status printed;
      silent = silent_of command from new tells before after status printed;
      bad_line = bad_line_of command from new tells before after status printed;
      bad_shard = bad_shard_of command from new tells before after status printed;
      complete = complete_of command from new e tells before after status answered.ends c.print-status.ensures.prints;
      works = works_printed command from new status e.status answered.works c.print-status.ensures.status;
      admitted = λ told later since was.
          let a = (answered.works.keeps told).admitted was in
          (filter (is_valid later) a.0, c.admitted_later.ensures _ store_folder c.args.now later a.0 since a.1);
    }
