use Rattle.std.proofs.Common.{◌≡◌, take}
use Rattle.std.specs.List.{flat_map}
use Rattle.xet_program.specs.Answers.{listed_line}
use Rattle.xet_program.proofs.list.list_files.Given as goal

abbrev pub invariant-loop-file : goal.invariant-loop-file
invariant-loop-file g l = l.text.items ≡ flat_map listed_line (take l.file-index l.file-items)
