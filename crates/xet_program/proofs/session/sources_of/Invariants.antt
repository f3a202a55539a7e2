use Rattle.std.proofs.Common.{◌≡◌, map, take}
use Rattle.xet_program.proofs.session.sources_of.Given as goal

abbrev pub invariant-loop-file : goal.invariant-loop-file
invariant-loop-file l = l.sources.items ≡ map (λ f. f.items) (take l.file-index l.file-items)
