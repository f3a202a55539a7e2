use Rattle.std.proofs.Common.{◌≡◌, map, take}
use Rattle.xet_shard.proofs.in_memory.queries.copies.Given as goal

abbrev pub invariant-loop-file : goal.invariant-loop-file
invariant-loop-file l = l.copies.items ≡ map (λ file. file.now) (take l.file-index l.files)
