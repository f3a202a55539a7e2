use Rattle.std.proofs.Common.{◌≡◌, take}
use Rattle.xet_shard_index.proofs.word_run.pack.Given as goal

abbrev pub invariant-loop-word : goal.invariant-loop-word
invariant-loop-word l = l.packed.items ≡ take l.word-index l.items
