use Rattle.std.proofs.Common.{◌≡◌, take}
use Rattle.std.specs.List.{flat_map}
use Rattle.xet_program.specs.internal.Report.{info_line}
use Rattle.xet_program.proofs.report.report.Given as goal

abbrev pub invariant-loop-info : goal.invariant-loop-info
invariant-loop-info l = l.text.items ≡ flat_map info_line (take l.info-index l.infos)
